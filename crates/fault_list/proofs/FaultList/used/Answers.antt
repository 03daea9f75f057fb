use Rattle.std.proofs.Common.{◌≡◌, ◌*◌, ◌-◌, ◌^◌, min, length, ap, sym, ◌∙◌, arith}
use Rattle.fm_base.specs.Planes.{lanes}
use Rattle.fault_list.proofs.Masks.{first_lanes}
use Rattle.fault_list.proofs.FaultList.used.Goals as goal

pub returns : goal.returns
returns c =
    let left : c.saturating_sub.result ≡ length c.args.self.now - lanes * c.args.batch = omega arith in
    c.lanes_before.ensures ∙ ap (λ k. 2 ^ min lanes k - 1) left ∙ sym (first_lanes lanes (lanes * c.args.batch) (length c.args.self.now))
