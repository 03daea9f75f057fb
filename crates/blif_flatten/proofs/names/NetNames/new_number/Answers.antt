use Rattle.std.proofs.Common.{arith}
use Rattle.blif_model.specs.Walk.{net_of}
use Rattle.blif_flatten.specs.Seen.{scope_at}
use Rattle.blif_flatten.proofs.Numbering.{new_none, new_one}
use Rattle.blif_flatten.proofs.names.NetNames.new_number.Goals as goal

pub returns-then-len-known : goal.returns-then-len-known
returns-then-len-known c =
    new_one c.args.self.now.index c.number.new.self.index (net_of (scope_at c.args.place.now) c.args.name.now) c.in_ok-id.id c.in_ok-id.ensures
    (omega (arith, c.if-len-known.true, c.len-known.ensures, c.len.ensures))

pub returns-else-len-known : goal.returns-else-len-known
returns-else-len-known c =
    new_none c.args.self.now.index c.number.new.self.index (net_of (scope_at c.args.place.now) c.args.name.now) c.in_ok-id.id c.in_ok-id.ensures
    (omega (arith, c.if-len-known.false, c.len-known.ensures, c.len.ensures))
