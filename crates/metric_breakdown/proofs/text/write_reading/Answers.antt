use Rattle.std.proofs.Common.{◌≡◌, ◌<◌, [], ◌∷◌, ℕ, List, length, get_or, ap, sym, ◌∙◌, subst}
use Rattle.std.specs.Prelude.{codes, decimal}
use Rattle.std.proofs.lemmas.List.{get_or_default}
use Rattle.circuit.specs.Circuit.{Circuit}
use Rattle.circuit.specs.Names.{net_name}
use Rattle.circuit.specs.declared.parts.NetId.{NetId}
use Rattle.fm_base.specs.Text.{line}
use Rattle.alarm_points.specs.declared.Goal.{Goal}
use Rattle.alarm_points.specs.declared.Points.{Points}
use Rattle.fm_shelf.proofs.Sending.{sends_as}
use Rattle.readings.specs.Breakdown.{goal_word}
use Rattle.reading_planes.specs.Readings.{IsReadingOf, words_by}
use Rattle.reading_planes.specs.declared.reading.Reading.{Reading}
use Rattle.metric_breakdown.proofs.text.write_reading.Goals as goal
use Rattle.testbench.specs.Points.{alarm_at, goal_at}

pub returns-in-Goal : goal.returns-in-Goal
returns-in-Goal g c =
    let p = c.args.plan.now in
    let n = c.in-Goal.g in
    let goals : List Goal = c.as_slice-goals.result.now in
    let none : Goal = goal_at [] 0 in
    let all : goals ≡ p.points.goals = c.as_slice-goals.ensures ∙ ap (λ (ps : Points). ps.goals) c.points-points.ensures.value in
    let within : n < length p.points.goals = subst (λ (r : Reading). IsReadingOf p.points r) c.in-Goal.is c.requires in
    let inside : n < length goals = subst (λ (gs : List Goal). n < length gs) (sym all) within in
    let one : c.index-goals-g.result ≡ goal_at p.points.goals n =
    c.index-goals-g.is ∙ get_or_default goals n c.index-goals-g.result none inside ∙ ap (λ (gs : List Goal). get_or gs n none) all in
    sends_as (ap (λ (w : List ℕ). line (codes "reading" ∷ codes "goal" ∷ w ∷ [])) (c.goal_word.ensures ∙ ap (λ (own : Goal). goal_word own) one)
    ∙ sym (ap (λ (r : Reading). line (codes "reading" ∷ words_by p r)) c.in-Goal.is))
    c.write_line-in-Goal.ensures

pub returns-in-Without : goal.returns-in-Without
returns-in-Without g c =
    let p = c.args.plan.now in
    let a = c.in-Without.a in
    let nets : List NetId = c.as_slice-alarms.result.now in
    let all : nets ≡ p.points.alarm = c.as_slice-alarms.ensures ∙ ap (λ (ps : Points). ps.alarm) c.points-points.ensures.value in
    let word = c.name.ensures.value ∙ ap (λ (net : Circuit). net_name net (alarm_at nets a).0) c.net.ensures.value
    ∙ ap (λ (ns : List NetId). net_name p.circuit (alarm_at ns a).0) all in
    sends_as (ap (λ (w : List ℕ). line (codes "reading" ∷ codes "without" ∷ w ∷ [])) word
    ∙ sym (ap (λ (r : Reading). line (codes "reading" ∷ words_by p r)) c.in-Without.is))
    c.write_line-in-Without.ensures

pub returns-in-Only : goal.returns-in-Only
returns-in-Only g c =
    let p = c.args.plan.now in
    let a = c.in-Only.a in
    let nets : List NetId = c.as_slice-alarms.result.now in
    let all : nets ≡ p.points.alarm = c.as_slice-alarms.ensures ∙ ap (λ (ps : Points). ps.alarm) c.points-points.ensures.value in
    let word = c.name-in-Only.ensures.value ∙ ap (λ (net : Circuit). net_name net (alarm_at nets a).0) c.net-in-Only.ensures.value
    ∙ ap (λ (ns : List NetId). net_name p.circuit (alarm_at ns a).0) all in
    sends_as (ap (λ (w : List ℕ). line (codes "reading" ∷ codes "only" ∷ w ∷ [])) word
    ∙ sym (ap (λ (r : Reading). line (codes "reading" ∷ words_by p r)) c.in-Only.is))
    c.write_line-in-Only.ensures

pub returns-in-Interval : goal.returns-in-Interval
returns-in-Interval g c =
    let p = c.args.plan.now in
    let word = c.bytes.ensures ∙ c.number_word.ensures ∙ ap decimal c.from.ensures in
    sends_as (ap (λ (w : List ℕ). line (codes "reading" ∷ codes "ftti" ∷ w ∷ [])) word
    ∙ sym (ap (λ (r : Reading). line (codes "reading" ∷ words_by p r)) c.in-Interval.is))
    c.write_line-in-Interval.ensures
