use Rattle.std.proofs.Common.{◌∙◌, ap, arith, length, List, ℕ, Bool, Vec, Global, false, get_or}
use Rattle.std.specs.Prelude.{filter}
use Rattle.std.proofs.lemmas.Result.{IfOk-weaker}
use Rattle.fm_base.specs.Lists.{below}
use Rattle.wave_dump.proofs.Showing.{marked_shown}
use Rattle.wave_dump.proofs.shown.nets_shown.Goals as goal

pub marked-requires : goal.marked-requires
marked-requires c = omega (arith, ap length c.deref.ensures.value, c.in_ok-marks.ensures.count, c.in_ok-marks.ensures.few)

pub returns : goal.returns
returns c =
    let marks = c.deref.ensures.value in
    IfOk-weaker c.marked.result _ _ (λ (nets : Vec ℕ Global) are.
    are ∙ ap (λ (ms : List Bool). filter (λ n. get_or ms n false) (below (length ms))) marks
    ∙ marked_shown c.args.scene.now c.args.word.now c.in_ok-marks.marks.items c.in_ok-marks.ensures) c.marked.ensures
