use Rattle.std.proofs.Common.{◌≡◌, fold, take}
use Rattle.fm_base.specs.Index.{with_name}
use Rattle.blif_model.specs.Tokens.{texts_of}
use Rattle.blif_hierarchy.proofs.ports.add_names.Given as goal

abbrev pub invariant-loop-name : goal.invariant-loop-name
invariant-loop-name l = l.set ≡ fold with_name l.initial.set (texts_of (take l.name-index l.names))
