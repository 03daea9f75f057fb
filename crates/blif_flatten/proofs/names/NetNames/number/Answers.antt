use Rattle.blif_model.specs.Walk.{net_of}
use Rattle.blif_flatten.specs.Seen.{scope_at}
use Rattle.blif_flatten.proofs.Numbering.{numbered_one}
use Rattle.blif_flatten.proofs.names.NetNames.number.Goals as goal

pub returns : goal.returns
returns c =
    numbered_one c.args.self.now.index c.enter.new.self (net_of (scope_at c.args.place.now) c.args.name.now) c.in_ok-number.number
    (rw c.in_ok-net.ensures at c.in_ok-number.ensures.names) (rw c.in_ok-net.ensures at c.in_ok-number.ensures.number)
