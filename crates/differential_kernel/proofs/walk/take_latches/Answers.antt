use Rattle.std.proofs.Common.{◌≡◌, inl, inr, ◌<◌, ◌+◌, ◌-◌, false, List, length, get_or, set, refl, ap, sym, ◌∙◌, subst, arith}
use Rattle.std.proofs.lemmas.Bool.{cases_eq, cases_lt}
use Rattle.std.proofs.lemmas.List.{length-set}
use Rattle.circuit.specs.declared.parts.Latch.{Latch}
use Rattle.circuit.specs.Value.{bit_at}
use Rattle.fanout.specs.Readers.{Ordered}
use Rattle.lane_words.specs.Gates.{latch_at, plane}
use Rattle.differential_kernel.specs.Differences.{AreMarked}
use Rattle.differential_kernel.proofs.Notes.{at_set_other, at_set_same, same_put, taken_other}
use Rattle.differential_kernel.proofs.Walking.{quiet_latch}
use Rattle.differential_kernel.proofs.walk.take_latches.Goals as goal

pub latches-init : goal.latches-init
latches-init g c = record {
  least = omega arith;
  latches = c.requires.latches;
  nets = c.requires.noted.nets;
  words = refl;
  places = c.requires.noted.nets.marks ∙ ap (λ (o : Ordered). length o.order + length o.circuit.latches) c.requires.golden.fanout;
  values = λ k i lt below within. absurd (omega arith);
  rest = λ i le. c.requires.latches.live.same i (c.requires.none i);
  ahead = λ p le. refl;
}

pub latches-preserved : goal.latches-preserved
latches-preserved g c =
    let lanes = g.W.Word.lanes in
    let bit = g.W.Word.lane_bit in
    let tables = length c.args.cycle.now.order.now in
    let ordered : Ordered = record { circuit = c.args.cycle.now.netlist.now; order = c.args.cycle.now.order.now } in
    let marked : AreMarked lanes bit ordered tables c.args.nets.now.words.items c.args.nets.now.marks =
    subst (λ (o : Ordered). AreMarked lanes bit o tables c.args.nets.now.words.items c.args.nets.now.marks) c.requires.golden.fanout c.requires.noted.marked in
    let size = length-set c.latches.latches.raw.items (c.in-Some.place - tables) c.word_at.result in
    let p = c.in-Some.place in
    let at = p - tables in
    let found = c.in-Some.ensures in
    let none : Latch = record { from = record { 0 = 0 }; to = record { 0 = 0 }; start = false } in
    let up : tables + at ≡ p = omega (arith, found.0, c.latches.invariant.least) in
    let inside : at < length c.latches.latches.raw.items = omega (arith, up, found.1, c.latches.invariant.places, c.latches.invariant.latches.raw) in
    record {
      least = omega (arith, up);
      latches = record {
        raw = size ∙ c.latches.invariant.latches.raw;
        live = record {
          bound = c.put.ensures.bound ∙ c.latches.invariant.latches.live.bound ∙ sym size;
          same = same_put lanes bit c.latches.latches.live c.put.new.self c.latches.latches.raw.items at c.word_at.result c.put.ensures.has c.latches.invariant.latches.live.same;
        };
      };
      nets = record { words = c.latches.invariant.nets.words; touched = c.latches.invariant.nets.touched; marks = c.remove.ensures.bound ∙ c.latches.invariant.nets.marks };
      words = c.latches.invariant.words;
      places = c.remove.ensures.bound ∙ c.latches.invariant.places;
      values = λ k i lt below within. elim (cases_eq i at) [
        | inl same ↦
            subst (λ j. bit_at (plane bit k (set c.latches.latches.raw.items at c.word_at.result)) j ≡ bit_at (plane bit k c.args.nets.now.words.items) (latch_at c.args.cycle.now.netlist.now.latches j).from.0) (sym same)
            (at_set_same bit k c.latches.latches.raw.items at c.word_at.result inside ∙ c.word_at.ensures k lt
            ∙ ap (λ words. bit_at (plane bit k words) (get_or c.latches-ends.result.now at none).from.0) (c.deref.ensures.value ∙ c.latches.invariant.words)
            ∙ ap (λ (ls : List Latch). bit_at (plane bit k c.args.nets.now.words.items) (get_or ls at none).from.0) c.latches-ends.ensures.value)
        | inr other ↦ at_set_other bit k c.latches.latches.raw.items at i c.word_at.result other ∙ elim (cases_lt (tables + i) c.latches.from) [
          | inl less ↦ c.latches.invariant.values k i lt less within
          | inr most ↦
              (let before : tables + i < p = omega (arith, up, other, below) in
              c.latches.invariant.rest i most k lt
              ∙ sym (quiet_latch lanes bit ordered c.args.nets.now.words.items c.args.nets.now.marks i marked within (sym (c.latches.invariant.ahead (tables + i) most) ∙ found.3 (tables + i) most before) k lt))
        ]
      ];
      rest = λ i le k lt. at_set_other bit k c.latches.latches.raw.items at i c.word_at.result (omega (arith, up, le)) ∙ c.latches.invariant.rest i (omega (arith, le, found.0)) k lt;
      ahead = λ q le. taken_other c.latches.nets.marks c.remove.new.self p q c.remove.ensures.has (omega (arith, le)) ∙ c.latches.invariant.ahead q (omega (arith, le, found.0));
    }

pub returns-clause-taken : goal.returns-clause-taken
returns-clause-taken g c = λ k i lt within.
    let lanes = g.W.Word.lanes in
    let bit = g.W.Word.lane_bit in
    let tables = length c.args.cycle.now.order.now in
    let ordered : Ordered = record { circuit = c.args.cycle.now.netlist.now; order = c.args.cycle.now.order.now } in
    let marked : AreMarked lanes bit ordered tables c.args.nets.now.words.items c.args.nets.now.marks =
    subst (λ (o : Ordered). AreMarked lanes bit o tables c.args.nets.now.words.items c.args.nets.now.marks) c.requires.golden.fanout c.requires.noted.marked in
    elim (cases_lt (tables + i) c.latches.from) [
      | inl less ↦ c.latches.invariant.values k i lt less within
      | inr most ↦
          c.latches.invariant.rest i most k lt
          ∙ sym (quiet_latch lanes bit ordered c.args.nets.now.words.items c.args.nets.now.marks i marked within (sym (c.latches.invariant.ahead (tables + i) most) ∙ c.in_default.ensures (tables + i) most) k lt)
    ]
