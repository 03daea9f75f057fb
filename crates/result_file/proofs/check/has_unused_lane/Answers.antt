use Rattle.std.proofs.Common.{◌≡◌, ℕ, Bool, not, ◌||◌, ◌&&◌, ap, sym, ◌∙◌, arith}
use Rattle.std.specs.List.{list_any}
use Rattle.fm_base.specs.Lists.{below}
use Rattle.fm_base.specs.Planes.{bit}
use Rattle.fault_list.specs.Faults.{is_used}
use Rattle.result_file.specs.declared.Row.{Row}
use Rattle.result_file.proofs.Lanes.{any_none, any_more, any_at}
use Rattle.result_file.proofs.check.has_unused_lane.Goals as goal

abbrev test_of : ℕ → Row → ℕ → Bool
test_of faults row k = not (is_used faults row.batch k) && (bit row.danger k || bit row.noticed k)

pub loop-lane-init : goal.loop-lane-init
loop-lane-init c = any_none (test_of c.args.faults c.args.row.now)

pub returns-then-is_set_unused : goal.returns-then-is_set_unused
returns-then-is_set_unused c =
    sym (any_at (test_of c.args.faults c.args.row.now) 64 c.loop-lane.lane c.loop-lane-test.true (sym c.is_set_unused.ensures ∙ c.if-is_set_unused.true))

pub loop-lane-preserved : goal.loop-lane-preserved
loop-lane-preserved c =
    any_more (test_of c.args.faults c.args.row.now) c.loop-lane.lane c.loop-lane.invariant (sym c.is_set_unused.ensures ∙ c.if-is_set_unused.false)

pub returns : goal.returns
returns c =
    let end : c.loop-lane.lane ≡ 64 = omega (arith, c.loop-lane-test.false, c.loop-lane.auto.lane-end) in
    sym (ap (λ n. list_any (test_of c.args.faults c.args.row.now) (below n)) (sym end) ∙ c.loop-lane.invariant)
