use Rattle.std.proofs.Common.{◌+◌, ◌∙◌, false, get_or, sym, arith, get_or-set_other}
use Rattle.std.proofs.lemmas.Option.{slice_get_within}
use Rattle.circuit.specs.declared.parts.Latch.{Latch}
use Rattle.region_search.proofs.OwnPlaces.{more_latches}
use Rattle.region_search.proofs.watch.note_latches.Goals as goal

pub loop-number-preserved : goal.loop-number-preserved
loop-number-preserved c =
    let d : Latch = record { from = record { 0 = 0 }; to = record { 0 = 0 }; start = false } in
    let i = c.loop-number.number in
    record {
      noted = more_latches c.args.first c.args.latches.now c.loop-number.own i d c.loop-number-test.true
          (λ k e lt. omega (arith, c.requires.nets k e lt, c.loop-number.auto.own)) c.requires.apart c.loop-number.invariant.noted;
      others = λ net apart.
          get_or-set_other c.loop-number.own (get_or c.args.latches.now i d).to.0 net (c.args.first + i) 0 (λ same. apart i d c.loop-number-test.true (sym same))
          ∙ c.loop-number.invariant.others net apart;
    }

pub returns : goal.returns
returns c = record {
  noted = λ l latch at. c.loop-number.invariant.noted l latch (omega (arith, slice_get_within c.args.latches.now l latch at, c.loop-number-test.false)) at;
  others = λ net apart. c.loop-number.invariant.others net apart;
}
