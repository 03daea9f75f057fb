use Rattle.std.proofs.Common.{◌≡◌, ◌≢◌, ◌+◌, ◌*◌, ◌%◌, ◌<◌, ◌≤◌, ◌||◌, ◌&&◌, ℕ, Bool, length, inl, inr, ap, sym, ◌∙◌, subst, arith}
use Rattle.std.specs.Prelude.{◌==◌}
use Rattle.std.proofs.lemmas.Bool.{cases_lt}
use Rattle.fm_base.specs.Planes.{bit}
use Rattle.workload.specs.Runs.{is_mission}
use Rattle.classifier.specs.Planes.{outcome_at}
use Rattle.reading_planes.specs.Folded.{late_by, noticed_by, reading_at}
use Rattle.reading_planes.proofs.Bits.{one_lane, other_lane}
use Rattle.reading_planes.proofs.runs.add_lanes.Goals as goal

-- one lane more: this lane has what is added to it, those before have it, and the others are as they were
lane_more : (before now start : ℕ → Bool) (adds : ℕ → Bool) (lane at : ℕ) → lane < 64 → at ≡ lane
    → ((k : ℕ) → k < 64 → now k ≡ (before k || (at == k && adds lane)))
    → ((k : ℕ) → k < lane → before k ≡ (start k || adds k)) → before lane ≡ start lane
    → (k : ℕ) → k < lane + 1 → now k ≡ (start k || adds k)
lane_more before now start adds lane at small is puts done left k early =
    let own : (j : ℕ) → j < 64 → now j ≡ (before j || (lane == j && adds lane)) = λ j lt. puts j lt ∙ ap (λ m. before j || (m == j && adds lane)) is in
    elim (cases_lt k lane) [
      | inl less ↦
          (let apart : lane ≢ k = omega (arith, less) in
          own k (omega (arith, less, small)) ∙ other_lane (before k) (adds lane) lane k apart ∙ done k less)
      | inr most ↦
          (let same : lane ≡ k = omega (arith, early, most) in
          subst (λ j. now j ≡ (start j || adds j)) same (own lane small ∙ one_lane (before lane) (adds lane) lane ∙ ap (λ b. b || adds lane) left))
    ]

lane_left : (before now start : ℕ → Bool) (added : Bool) (lane at : ℕ) → at ≡ lane → ((k : ℕ) → k < 64 → now k ≡ (before k || (at == k && added)))
    → ((k : ℕ) → lane ≤ k → k < 64 → before k ≡ start k) → (k : ℕ) → lane + 1 ≤ k → k < 64 → now k ≡ start k
lane_left before now start added lane at is puts left k le lt =
    let apart : lane ≢ k = omega (arith, le) in
    puts k lt ∙ ap (λ m. before k || (m == k && added)) is ∙ other_lane (before k) added lane k apart ∙ left k (omega (arith, le)) lt

pub loop-lane-preserved : goal.loop-lane-preserved
loop-lane-preserved c =
    let lane = c.loop-lane.lane in
    let inv = c.loop-lane.invariant in
    let added = c.add_fault.ensures in
    let points = c.args.points.now in
    let readings = c.args.readings.now in
    let was = c.args.outcomes.now in
    let old = c.loop-lane.outcomes in
    let new = c.add_fault.new.outcomes in
    let kind = c.args.kind in
    let small : lane < 64 = omega (arith, c.loop-lane-test.true) in
    let at : (c.args.word * 64 + lane) % 64 ≡ lane = omega (arith, small) in
    record {
      made = added.made;
      danger = λ shown r k kinds all lt early.
          lane_more (bit (outcome_at old r).danger) (bit (outcome_at new r).danger) (bit (outcome_at was r).danger) (λ j. is_mission kind && late_by points c.args.ftti (reading_at readings r) (shown j)) lane _ small at
          (λ j inside. added.danger (shown lane) r j (kinds lane) (all lane small) lt inside)
          (λ j less. inv.danger shown r j kinds all lt less) (inv.danger_left shown r lane kinds all lt (omega arith) small) k early;
      noticed = λ shown r k kinds all lt early.
          lane_more (bit (outcome_at old r).noticed) (bit (outcome_at new r).noticed) (bit (outcome_at was r).noticed) (λ j. noticed_by points (reading_at readings r) (shown j)) lane _ small at
          (λ j inside. added.noticed (shown lane) r j (kinds lane) (all lane small) lt inside)
          (λ j less. inv.noticed shown r j kinds all lt less) (inv.noticed_left shown r lane kinds all lt (omega arith) small) k early;
      danger_left = λ shown r k kinds all lt le inside.
          lane_left (bit (outcome_at old r).danger) (bit (outcome_at new r).danger) (bit (outcome_at was r).danger) _ lane _ at
          (λ j lane_in. added.danger (shown lane) r j (kinds lane) (all lane small) lt lane_in) (λ j from lane_in. inv.danger_left shown r j kinds all lt from lane_in) k le inside;
      noticed_left = λ shown r k kinds all lt le inside.
          lane_left (bit (outcome_at old r).noticed) (bit (outcome_at new r).noticed) (bit (outcome_at was r).noticed) _ lane _ at
          (λ j lane_in. added.noticed (shown lane) r j (kinds lane) (all lane small) lt lane_in) (λ j from lane_in. inv.noticed_left shown r j kinds all lt from lane_in) k le inside;
      words = λ r lt before. added.words r lt (inv.words r lt before);
    }
