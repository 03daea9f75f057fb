use Rattle.std.proofs.Common.{◌≡◌, ◌≢◌, ◌<◌, ◌||◌, ◌&&◌, ℕ, Bool, List, [], length, set, ap, ap₂, sym, ◌∙◌, subst, arith, below_more, get_or-set_other, get_or-set_same}
use Rattle.std.specs.Prelude.{◌==◌}
use Rattle.std.proofs.lemmas.List.{get_or_default}
use Rattle.std.proofs.lemmas.List.Elements.{All-get_or}
use Rattle.campaign_plan.specs.declared.Outcome.{Outcome}
use Rattle.fm_base.specs.Planes.{bit}
use Rattle.workload.specs.Runs.{is_mission}
use Rattle.classifier.specs.Planes.{outcome_at}
use Rattle.reading_planes.specs.Folded.{AreWords, late_by, noticed_by, reading_at}
use Rattle.reading_planes.specs.Readings.{IsReadingOf}
use Rattle.reading_planes.specs.declared.reading.Reading.TheVariants.{Whole}
use Rattle.reading_planes.proofs.add.add_lane.Goals as goal

pub is_late_in-late-requires-clause-reading : goal.is_late_in-late-requires-clause-reading
is_late_in-late-requires-clause-reading c = All-get_or (IsReadingOf c.args.points.now) c.args.readings.now c.loop-r.r Whole c.loop-r-test.true c.requires.readings

pub is_noticed-noticed-requires-clause-reading : goal.is_noticed-noticed-requires-clause-reading
is_noticed-noticed-requires-clause-reading c = All-get_or (IsReadingOf c.args.points.now) c.args.readings.now c.loop-r.r Whole c.loop-r-test.true c.requires.readings

pub loop-r-preserved : goal.loop-r-preserved
loop-r-preserved c =
    let i = c.loop-r.r in
    let points = c.args.points.now in
    let readings = c.args.readings.now in
    let lane = c.args.lane in
    let outcomes : List Outcome = c.loop-r.outcomes in
    let was = c.args.outcomes.now in
    let none : Outcome = outcome_at [] 0 in
    let new : Outcome = record { danger = c.with_lane.result; noticed = c.with_lane-in-loop-r.result } in
    let inv = c.loop-r.invariant in
    let within : i < length outcomes = omega (arith, c.loop-r-test.true, c.loop-r.auto.outcomes, c.requires.count) in
    let before : outcome_at outcomes i ≡ outcome_at was i = inv.left i (omega arith) in
    record {
      danger = λ s q k of lt small.
          below_more (λ (m : ℕ).
          bit (outcome_at (set outcomes i new) m).danger k ≡ (bit (outcome_at was m).danger k || (lane == k && (is_mission c.args.kind && late_by points c.args.ftti (reading_at readings m) s)))) i
          (λ m early.
          let apart : m ≢ i = omega (arith, early) in
          ap (λ (o : Outcome). bit o.danger k) (get_or-set_other outcomes i m new none apart) ∙ inv.danger s m k of early small)
          (ap (λ (o : Outcome). bit o.danger k) (get_or-set_same outcomes i new none within)
          ∙ c.with_lane.ensures k small
          ∙ ap₂ (λ (o : Outcome) b. bit o.danger k || (lane == k && b)) (get_or_default outcomes i _ none within ∙ before) (c.is_late_in-late.ensures s of))
          q lt;
      noticed = λ s q k of lt small.
          below_more (λ (m : ℕ).
          bit (outcome_at (set outcomes i new) m).noticed k ≡ (bit (outcome_at was m).noticed k || (lane == k && noticed_by points (reading_at readings m) s))) i
          (λ m early.
          let apart : m ≢ i = omega (arith, early) in
          ap (λ (o : Outcome). bit o.noticed k) (get_or-set_other outcomes i m new none apart) ∙ inv.noticed s m k of early small)
          (ap (λ (o : Outcome). bit o.noticed k) (get_or-set_same outcomes i new none within)
          ∙ c.with_lane-in-loop-r.ensures k small
          ∙ ap₂ (λ (o : Outcome) b. bit o.noticed k || (lane == k && b)) (get_or_default outcomes i _ none within ∙ before) (c.is_noticed-noticed.ensures s of))
          q lt;
      words = λ q lt.
          below_more (λ (m : ℕ). AreWords (outcome_at (set outcomes i new) m)) i
          (λ m early. let apart : m ≢ i = omega (arith, early) in subst (λ (o : Outcome). AreWords o) (sym (get_or-set_other outcomes i m new none apart)) (inv.words m early))
          (subst (λ (o : Outcome). AreWords o) (sym (get_or-set_same outcomes i new none within)) (omega (arith, c.with_lane.type_inv), omega (arith, c.with_lane-in-loop-r.type_inv))) q lt;
      left = λ q le.
          let apart : q ≢ i = omega (arith, le) in
          get_or-set_other outcomes i q new none apart ∙ inv.left q (omega (arith, le));
    }
