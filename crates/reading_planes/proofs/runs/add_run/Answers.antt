use Rattle.std.proofs.Common.{◌≡◌, ◌≢◌, ◌+◌, ◌*◌, ◌<◌, ◌++◌, ◌∷◌, [], ℕ, List, length, get_or, ap, sym, ◌∙◌, subst, arith, length-set, get_or-set_other}
use Rattle.std.proofs.lemmas.List.{get_or_default}
use Rattle.campaign_plan.specs.declared.Outcome.{Outcome}
use Rattle.classifier.specs.Planes.{HasPlanes, outcome_at}
use Rattle.first_cycles.specs.Shown.{shown_in}
use Rattle.fault_runs.specs.Records.{record_of}
use Rattle.fault_runs.specs.Whole.{HasShownRun}
use Rattle.fault_runs.proofs.EachItem.{each_set}
use Rattle.reading_planes.specs.Folded.{planes_at, reading_at}
use Rattle.reading_planes.specs.Readings.{ftti_by, points_by}
use Rattle.reading_planes.proofs.runs.add_run.Goals as goal

pub loop-word-preserved : goal.loop-word-preserved
loop-word-preserved c =
    let i = c.loop-word.word in
    let ps : List (List Outcome) = c.loop-word.planes in
    let new : List Outcome = c.add_word.new.planes in
    let none : List Outcome = [] in
    let inv = c.loop-word.invariant in
    let points = c.args.points.now in
    let readings = c.args.readings.now in
    let inside : i < length ps = omega (arith, c.loop-word-test.true, c.loop-word.auto.planes) in
    let old : get_or ps i c.index-planes-word.result ≡ get_or ps i none = get_or_default ps i c.index-planes-word.result none inside in
    record {
      made = c.add_word.ensures.made;
      fit = λ word lt.
          each_set (λ m (os : List Outcome). length os ≡ length readings) ps i new none inside c.add_word.ensures.count word
          (λ apart. inv.fit word (subst (λ n. word < n) (length-set ps i new) lt));
      done = λ circuit runs run faults word r kind lt seen small before.
          let own = points_by points (reading_at readings r) in
          let ftti = ftti_by c.args.ftti (reading_at readings r) in
          each_set (λ m (os : List Outcome).
          ((k : ℕ) → k < 64 → HasShownRun points (shown_in circuit (faults k) run) (record_of c.args.records.now (m * 64 + k))) → HasPlanes circuit own ftti runs faults (planes_at c.args.planes.now m r)
          → HasPlanes circuit own ftti (runs ++ run ∷ []) faults (outcome_at os r)) ps i new none inside
          (λ sees was.
          c.add_word.ensures.planes circuit runs run faults r kind
          sees small
          (subst (λ (o : Outcome). HasPlanes circuit own ftti runs faults o) (sym (ap (λ (os : List Outcome). outcome_at os r) old ∙ inv.left i r (omega arith))) was))
          word
          (λ apart sees was. let early : word < i = omega (arith, apart, lt) in inv.done circuit runs run faults word r kind early sees small was)
          seen before;
      left = λ word r le.
          let apart : word ≢ i = omega (arith, le) in
          ap (λ (os : List Outcome). outcome_at os r) (get_or-set_other ps i word new none apart) ∙ inv.left word r (omega (arith, le));
    }

pub returns-clause-planes : goal.returns-clause-planes
returns-clause-planes c = λ circuit runs run faults word r kind lt seen small before.
    let done : word < c.loop-word.word = omega (arith, lt, c.loop-word-test.false, c.loop-word.auto.planes) in
    c.loop-word.invariant.done circuit runs run faults word r kind done seen small before
