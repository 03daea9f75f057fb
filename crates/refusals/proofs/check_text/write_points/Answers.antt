use Rattle.std.proofs.Common.{◌∷◌, [], List, length, ap, ◌∙◌}
use Rattle.std.specs.Prelude.{codes, decimal}
use Rattle.std.specs.List.{flat_map}
use Rattle.alarm_points.specs.declared.Goal.{Goal}
use Rattle.fm_base.specs.Text.{line}
use Rattle.fm_shelf.proofs.Sending.{sends_as}
use Rattle.refusals.proofs.check_text.write_points.Goals as goal

pub returns : goal.returns
returns g c =
    let observe = c.bytes.ensures ∙ c.number_word.ensures
    ∙ ap decimal (c.observation_points.ensures ∙ ap (λ (goals : List Goal). length (flat_map (λ (own : Goal). own.observe) goals)) c.as_slice.ensures) in
    let alarm = c.bytes-2.ensures ∙ c.number_word-2.ensures ∙ ap decimal (ap length c.as_slice-2.ensures) in
    sends_as (λ j. line (codes "points observe" ∷ observe j ∷ codes "alarm" ∷ alarm j ∷ [])) c.write_line.ensures
