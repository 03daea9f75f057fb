use Rattle.std.proofs.Common.{◌≡◌, ◌&&◌, inl, inr, sym, subst, ◌∙◌, arith}
use Rattle.std.proofs.lemmas.Bool.{cases_eq}
use Rattle.circuit.specs.Value.{driver_at}
use Rattle.place_set.specs.Places.{has}
use Rattle.differential_kernel.specs.Cone.{is_source}
use Rattle.differential_kernel.proofs.cone.find_sources.Goals as goal

pub loop-n-preserved : goal.loop-n-preserved
loop-n-preserved c =
    let new = c.set_place.new.set in
    record {
      bound = c.set_place.ensures.bound ∙ c.loop-n.invariant.bound;
      each = λ i lt.
          elim (cases_eq i c.loop-n.n) as (λ _. has new i ≡ (has c.args.named.now i && is_source (driver_at c.args.netlist.now i))) [
            | inl here ↦ subst (λ m. has new m ≡ (has c.args.named.now m && is_source (driver_at c.args.netlist.now m))) (sym here) (c.set_place.ensures.here ∙ c.is_named_source.ensures)
            | inr other ↦ c.set_place.ensures.others i other ∙ c.loop-n.invariant.each i (omega (arith, lt, other))
          ];
    }

pub returns-clause-each : goal.returns-clause-each
returns-clause-each c = λ n lt. c.loop-n.invariant.each n (omega (arith, lt, c.loop-n-test.false, c.bound-n-end.ensures))
