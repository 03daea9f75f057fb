use Rattle.std.proofs.Common.{map, take}
use Rattle.blif_model.specs.Tokens.{texts_of}
use Rattle.blif_model.specs.Walk.{net_of}
use Rattle.blif_flatten.specs.Numbering.{HaveNumbers}
use Rattle.blif_flatten.specs.Seen.{scope_at}
use Rattle.blif_flatten.proofs.names.NetNames.number_all.Given as goal

abbrev pub invariant-loop-token : goal.invariant-loop-token
invariant-loop-token l =
    HaveNumbers l.initial.self.index l.self.index (map (net_of (scope_at l.place)) (texts_of (take l.token-index l.tokens))) l.ids
