use Rattle.std.proofs.Common.{◌∙◌, ap₂, not, Bool, arith}
use Rattle.fm_base.specs.Lists.{same_bit}
use Rattle.wave_dump.proofs.Running.{lane_value}
use Rattle.wave_dump.proofs.Showing.{other_bits}
use Rattle.wave_dump.proofs.changed.is_changed.Goals as goal

pub returns : goal.returns
returns c = λ t now.
    let faulty = c.get.ensures ∙ lane_value c.args.scene.now t c.args.lanes.now now c.net-word.result c.args.net c.net-word.ensures 1 (omega arith) c.requires in
    let golden = c.get-2.ensures ∙ lane_value c.args.scene.now t c.args.lanes.now now c.net-word.result c.args.net c.net-word.ensures 0 (omega arith) c.requires in
    other_bits c.get.result c.get-2.result ∙ ap₂ (λ (a b : Bool). not (same_bit a b)) faulty golden
