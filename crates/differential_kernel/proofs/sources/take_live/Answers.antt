use Rattle.std.proofs.Common.{◌≡◌, inl, inr, ◌<◌, ◌≤◌, ◌+◌, ℕ, false, List, length, set, get_or, refl, ap, sym, ◌∙◌, subst, arith}
use Rattle.std.proofs.lemmas.Bool.{cases_eq}
use Rattle.std.proofs.lemmas.List.{length-set}
use Rattle.circuit.specs.declared.parts.Latch.{Latch}
use Rattle.fanout.specs.Readers.{Ordered}
use Rattle.circuit.specs.Value.{bit_at, driver_at}
use Rattle.golden_difference.specs.Beside.{latched}
use Rattle.lane_words.specs.Gates.{latch_at, plane}
use Rattle.lane_words.proofs.Latches.{latches_driven, latches_inside}
use Rattle.differential_kernel.proofs.Latching.{held_below, latched_all, latched_here, latched_more, latched_none}
use Rattle.differential_kernel.proofs.Notes.{at_set_other, at_set_same, none_taken, same_taken}
use Rattle.differential_kernel.proofs.sources.take_live.Goals as goal

pub latches-init : goal.latches-init
latches-init g c = record {
  latches = c.requires.latches;
  noted = record { nets = c.requires.nets; marked = λ place n le reads none. c.requires.nets.touched.same n (c.requires.none n) };
  none = λ n lt. absurd (omega arith);
  rest = λ k n lt le. refl;
  values = λ k n lt within. c.requires.nets.touched.same n (c.requires.none n) k lt ∙ sym (latched_none (bit_at (plane g.W.Word.lane_bit k c.args.latches.now.raw.items)) (driver_at c.args.cycle.now.netlist.now n));
}

pub store-requires-clause-net : goal.store-requires-clause-net
store-requires-clause-net g c =
    let sound = c.requires.golden.sound in
    let none : Latch = record { from = record { 0 = 0 }; to = record { 0 = 0 }; start = false } in
    let within : c.in-Some.l < length c.args.cycle.now.netlist.now.latches = omega (arith, c.in-Some.ensures.1, c.latches.invariant.latches.live.bound, c.latches.invariant.latches.raw) in
    let inside = latches_inside c.args.cycle.now.netlist.now sound c.in-Some.l none within in
    omega (arith, ap (λ (ls : List Latch). (get_or ls c.in-Some.l none).to.0) c.latches-ends.ensures.value, inside, ap (λ (o : Ordered). length o.circuit.drivers) c.requires.golden.fanout)

pub latches-preserved : goal.latches-preserved
latches-preserved g c =
    let bit = g.W.Word.lane_bit in
    let sound = c.requires.golden.sound in
    let q = c.in-Some.l in
    let found = c.in-Some.ensures in
    let none : Latch = record { from = record { 0 = 0 }; to = record { 0 = 0 }; start = false } in
    let within : q < length c.args.cycle.now.netlist.now.latches = omega (arith, found.1, c.latches.invariant.latches.live.bound, c.latches.invariant.latches.raw) in
    let inside : q < length c.latches.latches.raw.items = omega (arith, within, c.latches.invariant.latches.raw) in
    let drivers : length c.args.cycle.now.fanout.now.circuit.drivers ≡ length c.args.cycle.now.netlist.now.drivers = ap (λ (o : Ordered). length o.circuit.drivers) c.requires.golden.fanout in
    let size = length-set c.latches.latches.raw.items q c.all.result in
    let latch : get_or c.latches-ends.result.now q none ≡ latch_at c.args.cycle.now.netlist.now.latches q = ap (λ (ls : List Latch). get_or ls q none) c.latches-ends.ensures.value in
    let net : (latch_at c.args.cycle.now.netlist.now.latches q).to.0 < length c.latches.nets.words.items =
    omega (arith, latches_inside c.args.cycle.now.netlist.now sound q none within, c.latches.invariant.noted.nets.words, drivers) in
    let stored : c.store.new.nets.words.items ≡ set c.latches.nets.words.items (latch_at c.args.cycle.now.netlist.now.latches q).to.0 c.word_at-word.result =
    c.store.ensures.word ∙ ap (λ (l : Latch). set c.latches.nets.words.items l.to.0 c.word_at-word.result) latch in
    let none_between : (k i : ℕ) → k < g.W.Word.lanes → c.latches.from ≤ i → i < q → bit_at (plane bit k c.args.latches.now.raw.items) i ≡ false =
    λ k i lt le less. sym (c.latches.invariant.rest k i lt le) ∙ c.latches.invariant.latches.live.same i (found.3 i le less) k lt in
    record {
      latches = record {
        raw = size ∙ c.latches.invariant.latches.raw;
        live = record {
          bound = c.remove.ensures.bound ∙ c.latches.invariant.latches.live.bound ∙ sym size;
          same = same_taken g.W.Word.lanes bit c.latches.latches.live c.remove.new.self c.latches.latches.raw.items q c.all.result inside c.remove.ensures.has c.all.ensures c.latches.invariant.latches.live.same;
        };
      };
      noted = record { nets = c.store.ensures.noted.nets; marked = c.store.ensures.noted.marked 0 c.latches.invariant.noted.marked };
      none = none_taken c.latches.latches.live c.remove.new.self c.latches.from q c.remove.ensures.has c.latches.invariant.none found.3;
      rest = λ k n lt le. at_set_other bit k c.latches.latches.raw.items q n c.all.result (omega (arith, le)) ∙ c.latches.invariant.rest k n lt (omega (arith, le, found.0));
      values = λ k n lt of_net. ap (λ words. bit_at (plane bit k words) n) stored ∙ elim (cases_eq n (latch_at c.args.cycle.now.netlist.now.latches q).to.0) [
        | inl same ↦
            subst
            (λ m. bit_at (plane bit k (set c.latches.nets.words.items (latch_at c.args.cycle.now.netlist.now.latches q).to.0 c.word_at-word.result)) m
            ≡ latched (held_below (q + 1) (bit_at (plane bit k c.args.latches.now.raw.items))) (driver_at c.args.cycle.now.netlist.now m)) (sym same)
            (at_set_same bit k c.latches.nets.words.items (latch_at c.args.cycle.now.netlist.now.latches q).to.0 c.word_at-word.result net
            ∙ c.word_at-word.ensures k lt ∙ ap (λ words. bit_at (plane bit k words) q) c.deref.ensures.value ∙ c.latches.invariant.rest k q lt found.0
            ∙ sym (latched_here c.args.cycle.now.netlist.now sound (bit_at (plane bit k c.args.latches.now.raw.items)) q (latches_driven c.args.cycle.now.netlist.now sound q within)))
        | inr other ↦
            at_set_other bit k c.latches.nets.words.items (latch_at c.args.cycle.now.netlist.now.latches q).to.0 n c.word_at-word.result other
            ∙ c.latches.invariant.values k n lt of_net
            ∙ latched_more c.args.cycle.now.netlist.now sound (bit_at (plane bit k c.args.latches.now.raw.items)) c.latches.from q found.0 (λ i le less. none_between k i lt le less) n of_net other
      ];
    }

pub returns-clause-shown : goal.returns-clause-shown
returns-clause-shown g c = λ k n lt within.
    c.latches.invariant.values k n lt within
    ∙ latched_all c.latches.from (bit_at (plane g.W.Word.lane_bit k c.args.latches.now.raw.items)) (driver_at c.args.cycle.now.netlist.now n)
    (λ i le. sym (c.latches.invariant.rest k i lt le) ∙ c.latches.invariant.latches.live.same i (c.in_default.ensures i le) k lt)
