use Rattle.std.proofs.Common.{◌≡◌, List, length, ap, sym, subst, ◌∙◌, get_or}
use Rattle.std.specs.Prelude.{Option, []}
use Rattle.std.proofs.lemmas.Bool.{false≢true}
use Rattle.std.proofs.lemmas.Grind.{common_steps}
use Rattle.std.proofs.Common.{arith}
use Rattle.std.specs.Vec.{with_items}
use Rattle.circuit.specs.declared.parts.Fault.{Fault}
use Rattle.circuit.specs.Value.{bit_at}
use Rattle.fanout.specs.Readers.{Ordered}
use Rattle.golden_difference.specs.Beside.{Stand}
use Rattle.lane_words.specs.Gates.{plane}
use Rattle.lane_words.specs.Loads.{loaded_faults}
use Rattle.differential_kernel.specs.declared.cone.Cone.{Cone}
use Rattle.differential_kernel.specs.Cone.{IsConeOf}
use Rattle.differential_kernel.specs.Shown.{all_shown}
use Rattle.differential_kernel.proofs.Dropping.{between_dropped}
use Rattle.differential_kernel.proofs.lanes.DifferentialLanes.empty.Goals as goal

pub invariant_of-self : goal.invariant_of-self
invariant_of-self g c =
    let s = c.self.inside in
    let kept = c.self.invariant in
    let own : Ordered = record { circuit = s.circuit.value; order = s.order.value } in
    let loads : (with_items s.in_force c.unload.new.loads).items ≡ c.unload.new.loads = grind (arith, common_steps) in
    let raw : (with_items s.latches.raw c.clear.new.words).items ≡ c.clear.new.words = grind (arith, common_steps) in
    let count : length (with_items s.latches.raw c.clear.new.words).items ≡ length s.latches.raw.items =
    ap (λ (ws : List g.row.W.Denot). length ws) raw ∙ c.clear.auto.words ∙ ap (λ (ws : List g.row.W.Denot). length ws) c.deref_mut-2.ensures.value in
    record {
      sound = kept.sound;
      ordered = kept.ordered;
      program = kept.program;
      given = kept.given;
      whole = λ whole. absurd (false≢true whole);
      loads =
          ap (λ (ls : List (List (Option Fault))). length ls) loads ∙ c.unload.auto.loads ∙ ap (λ (ls : List (List (Option Fault))). length ls) c.deref_mut.ensures.value
          ∙ kept.loads;
      acts_bound = kept.acts_bound;
      stuck = λ noted. absurd (false≢true noted);
      noted = λ noted. absurd (false≢true noted);
      forces = kept.forces;
      latches = record {
        raw = count ∙ kept.latches.raw;
        live = record {
          bound = c.clear.ensures.bound ∙ kept.latches.live.bound ∙ sym count;
          same = λ n none k lt. ap (λ ws. bit_at (plane g.W.Word.lane_bit k ws) n) raw ∙ c.clear.ensures.same n k lt;
        };
      };
      nets = kept.nets;
      cone = subst (λ (cone : Cone). IsConeOf own cone) (sym c.begin.ensures) kept.cone;
    }

pub returns-clause-none : goal.returns-clause-none
returns-clause-none g c = λ k lt.
    let s = c.self.inside in
    let loads : (with_items s.in_force c.unload.new.loads).items ≡ c.unload.new.loads = grind (arith, common_steps) in
    ap (λ (ls : List (List (Option Fault))). loaded_faults ls k) loads ∙ c.unload.ensures.dropped k lt (c.all.ensures k lt)

pub returns-clause-between : goal.returns-clause-between
returns-clause-between g c = λ vectors size k lt.
    let s = c.self.inside in
    let bit = g.W.Word.lane_bit in
    let loads : (with_items s.in_force c.unload.new.loads).items ≡ c.unload.new.loads = grind (arith, common_steps) in
    let raw : (with_items s.latches.raw c.clear.new.words).items ≡ c.clear.new.words = grind (arith, common_steps) in
    let stand : Stand = record {
      cycle = c.args.cycle;
      raw = plane bit k (with_items s.latches.raw c.clear.new.words).items;
      nets = bit_at (get_or (all_shown g.W.Word.lanes bit (length s.circuit.value.drivers) s.nets) k []);
    } in
    between_dropped s.circuit.value (loaded_faults (with_items s.in_force c.unload.new.loads).items k) vectors stand
    (ap (λ (ls : List (List (Option Fault))). loaded_faults ls k) loads ∙ c.unload.ensures.dropped k lt (c.all.ensures k lt))
    (sym size)
    (λ l. ap (λ ws. bit_at (plane bit k ws) l) raw ∙ c.clear.ensures.same l k lt)
