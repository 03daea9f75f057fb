use Rattle.std.proofs.Common.{◌≡◌, List, [], length, get_or, refl, ap, sym, subst, ◌∙◌, arith}
use Rattle.std.proofs.lemmas.Grind.{common_steps}
use Rattle.std.specs.Vec.{with_items}
use Rattle.circuit.specs.Value.{bit_at}
use Rattle.fanout.specs.Readers.{Ordered}
use Rattle.golden_difference.specs.Beside.{Stand}
use Rattle.golden_difference.proofs.NextCycle.{beside_none}
use Rattle.lane_words.specs.Gates.{plane}
use Rattle.lane_words.specs.Loads.{loaded_faults}
use Rattle.differential_kernel.specs.declared.cone.Cone.{Cone}
use Rattle.differential_kernel.specs.Cone.{IsConeOf}
use Rattle.differential_kernel.specs.Differences.{DifferOnlyIn}
use Rattle.differential_kernel.specs.Shown.{all_shown}
use Rattle.differential_kernel.proofs.lanes.DifferentialLanes.start.Goals as goal

pub clear-requires : goal.clear-requires
clear-requires g c =
    subst (λ (ws : List g.row.W.Denot). DifferOnlyIn g.W.Word.lanes g.W.Word.lane_bit c.self.inside.latches.live ws) (sym c.deref_mut.ensures.value) c.self.invariant.latches.live

pub invariant_of-self : goal.invariant_of-self
invariant_of-self g c =
    let s = c.self.inside in
    let kept = c.self.invariant in
    let own : Ordered = record { circuit = s.circuit.value; order = s.order.value } in
    let raw : (with_items s.latches.raw c.clear.new.words).items ≡ c.clear.new.words = grind (arith, common_steps) in
    let count : length (with_items s.latches.raw c.clear.new.words).items ≡ length s.latches.raw.items =
    ap (λ (ws : List g.row.W.Denot). length ws) raw ∙ c.clear.auto.words ∙ ap (λ (ws : List g.row.W.Denot). length ws) c.deref_mut.ensures.value in
    record {
      sound = kept.sound;
      ordered = kept.ordered;
      program = kept.program;
      given = kept.given;
      whole = kept.whole;
      loads = kept.loads;
      acts_bound = kept.acts_bound;
      stuck = kept.stuck;
      noted = kept.noted;
      forces = kept.forces;
      latches = record {
        raw = count ∙ kept.latches.raw;
        live = record {
          bound = c.clear.ensures.bound ∙ kept.latches.live.bound ∙ sym count;
          same = λ n none k lt. ap (λ ws. bit_at (plane g.W.Word.lane_bit k ws) n) raw ∙ c.clear.ensures.same n k lt;
        };
      };
      nets = kept.nets;
      cone = subst (λ (cone : Cone). IsConeOf own cone) (sym c.begin.ensures) kept.cone;
    }

pub returns-clause-start : goal.returns-clause-start
returns-clause-start g c = λ k lt.
    let s = c.self.inside in
    let raw : (with_items s.latches.raw c.clear.new.words).items ≡ c.clear.new.words = grind (arith, common_steps) in
    let stand : Stand = record {
      cycle = 0;
      raw = plane g.W.Word.lane_bit k (with_items s.latches.raw c.clear.new.words).items;
      nets = bit_at (get_or (all_shown g.W.Word.lanes g.W.Word.lane_bit (length s.circuit.value.drivers) s.nets) k []);
    } in
    beside_none s.circuit.value (loaded_faults s.in_force.items k) stand refl
    (λ l within. ap (λ ws. bit_at (plane g.W.Word.lane_bit k ws) l) raw ∙ c.clear.ensures.same l k lt)
