use Rattle.std.proofs.Common.{◌≢◌, ◌<◌, ℕ, [], length, get_or, set, sym, ◌∙◌, subst, below_more, arith, get_or-set_other, get_or-set_same}
use Rattle.alarm_points.specs.Watch.{IsAfterPairs, Watch}
use Rattle.alarm_points.proofs.Rings.{map_set}
use Rattle.alarm_points.proofs.windows.start_all.Goals as goal

pub loop-i-preserved : goal.loop-i-preserved
loop-i-preserved c =
    let i = c.loop-i.i in
    let xs = c.loop-i.windows in
    let new = c.start.new.self in
    let inside : i < length xs = omega (arith, c.loop-i-test.true, c.loop-i.auto.windows) in (
      map_set (λ (w : Watch). w.ftti) xs i new c.index-windows-i.result inside
          c.start.ensures.interval
          ∙ c.loop-i.invariant.0,
      λ g none lt.
          below_more (λ (m : ℕ). IsAfterPairs [] (get_or (set xs i new) m none)) i
          (λ m early.
          let other : m ≢ i = omega (arith, early) in
          subst (IsAfterPairs []) (sym (get_or-set_other xs i m new none other)) (c.loop-i.invariant.1 m none early))
          (subst (IsAfterPairs []) (sym (get_or-set_same xs i new none inside)) c.start.ensures.start) g lt,
    )
