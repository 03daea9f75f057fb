use Rattle.std.proofs.Common.{◌≡◌, ◌+◌, ℕ, subst, sym}
use Rattle.alarm_points.specs.FourWatches.{windows_at}
use Rattle.fm_base.specs.Planes.{bit}
use Rattle.testbench.specs.Load.{Load, in_lane}
use Rattle.classifier.specs.Seen.{IsWatched, is_dropped, known_at, left_at}
use Rattle.classifier.proofs.Following.{followed_more, seen_left}
use Rattle.classifier.proofs.run.see_words.Goals as goal

pub returns-clause-seen : goal.returns-clause-seen
returns-clause-seen g c = λ run faults t at watched word within.
    let start = g.F.Followed.in_run c.args.lanes.now in
    let next = g.F.Followed.in_run c.leave_words.new.lanes in
    let net = start.load.circuit in
    let points = c.args.points.now in
    let own = in_lane faults word in
    let known = known_at c.args.decided.now word in
    let windows = windows_at c.see_cycle-seen.new.windows word in
    let noticed = left_at c.see_cycle-seen.result word in
    let out = left_at c.leave_words.new.left word in
    let now = c.see_cycle-seen.ensures.seen run own known word t at within (watched word within) in
    let left : (k : ℕ) → bit out k ≡ is_dropped known windows noticed k = λ k. c.leave_words.ensures.left word k within in
    subst (λ (l : Load). IsWatched l.circuit points run own known (t + 1) (next.faults word) windows out) (sym c.leave_words.ensures.place.load)
    (record {
      seen = seen_left net points run own known (t + 1) windows noticed out now left;
      followed =
          followed_more net points (windows_at c.args.windows.now word).ftti run own known t (start.faults word) (next.faults word) windows noticed out
          (c.see_cycle-seen.ensures.keeps word).ftti (watched word within).followed now left
          (λ k lane. c.leave_words.ensures.dropped word k within lane);
    })
