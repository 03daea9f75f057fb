use Rattle.std.proofs.Common.{◌≡◌, inl, inr, ◌&&◌, not, List, [], length, get_or, refl, ap, sym, ◌∙◌, subst, arith}
use Rattle.std.specs.Prelude.{Option}
use Rattle.std.proofs.lemmas.Bool.{cases_Bool, false≢true}
use Rattle.std.proofs.lemmas.Grind.{common_steps}
use Rattle.std.specs.Vec.{with_items}
use Rattle.circuit.specs.declared.parts.Fault.{Fault}
use Rattle.circuit.specs.Value.{bit_at}
use Rattle.golden_difference.specs.Beside.{AreBeside, IsBeside, Stand, stand_in}
use Rattle.lane_words.specs.Gates.{plane}
use Rattle.lane_words.specs.Loads.{loaded_faults}
use Rattle.golden_difference.specs.Lanes.{Lanes}
use Rattle.differential_kernel.specs.Kernel.{lanes_of}
use Rattle.differential_kernel.specs.Differences.{DifferOnlyIn}
use Rattle.differential_kernel.specs.Shown.{all_shown}
use Rattle.differential_kernel.proofs.Dropping.{all_kept, beside_dropped, beside_kept, none_kept, none_out}
use Rattle.differential_kernel.proofs.Told.{at_shown}
use Rattle.differential_kernel.proofs.lanes.DifferentialLanes.take_out.Goals as goal

pub keep_lanes-requires : goal.keep_lanes-requires
keep_lanes-requires g c =
    subst (λ (ws : List g.row.W.Denot). DifferOnlyIn g.W.Word.lanes g.W.Word.lane_bit c.self.inside.latches.live ws) (sym c.deref_mut-2.ensures.value) c.self.invariant.latches.live

pub keep_nets-requires-clause-own : goal.keep_nets-requires-clause-own
keep_nets-requires-clause-own g c = c.self.invariant.nets.own.touched

pub keep_nets-requires-clause-values : goal.keep_nets-requires-clause-values
keep_nets-requires-clause-values g c =
    let nets = c.self.invariant.nets in
    nets.own.touched.bound ∙ nets.own.words ∙ sym nets.values

pub invariant_of-self : goal.invariant_of-self
invariant_of-self g c =
    let s = c.self.inside in
    let kept = c.self.invariant in
    let bit = g.W.Word.lane_bit in
    let out = c.args.out in
    let loads : (with_items s.in_force c.unload.new.loads).items ≡ c.unload.new.loads = grind (arith, common_steps) in
    let raw : (with_items s.latches.raw c.keep_lanes.new.words).items ≡ c.keep_lanes.new.words = grind (arith, common_steps) in
    let latches : length (with_items s.latches.raw c.keep_lanes.new.words).items ≡ length s.latches.raw.items =
    ap (λ (ws : List g.row.W.Denot). length ws) raw ∙ c.keep_lanes.auto.words ∙ ap (λ (ws : List g.row.W.Denot). length ws) c.deref_mut-2.ensures.value in
    record {
      sound = kept.sound;
      ordered = kept.ordered;
      program = kept.program;
      given = kept.given;
      whole = λ whole. absurd (false≢true whole);
      loads =
          ap (λ (ls : List (List (Option Fault))). length ls) loads ∙ c.unload.auto.loads ∙ ap (λ (ls : List (List (Option Fault))). length ls) c.deref_mut.ensures.value
          ∙ kept.loads;
      acts_bound = kept.acts_bound;
      stuck = λ noted. absurd (false≢true noted);
      noted = λ noted. absurd (false≢true noted);
      forces = kept.forces;
      latches = record {
        raw = latches ∙ kept.latches.raw;
        live = record {
          bound = kept.latches.live.bound ∙ sym latches;
          same = λ n none k lt.
              ap (λ ws. bit_at (plane bit k ws) n) raw ∙ c.keep_lanes.ensures k n lt
              ∙ ap (λ b. not (bit out k) && b) (ap (λ ws. bit_at (plane bit k ws) n) c.deref_mut-2.ensures.value ∙ kept.latches.live.same n none k lt) ∙ none_kept (bit out k);
        };
      };
      nets = c.keep_nets.ensures.nets (record { circuit = s.circuit.value; order = s.order.value }) kept.nets;
      cone = kept.cone;
    }

pub returns-clause-dropped : goal.returns-clause-dropped
returns-clause-dropped g c = λ k lt is.
    let s = c.self.inside in
    let loads : (with_items s.in_force c.unload.new.loads).items ≡ c.unload.new.loads = grind (arith, common_steps) in
    ap (λ (ls : List (List (Option Fault))). loaded_faults ls k) loads ∙ c.unload.ensures.dropped k lt is

pub returns-clause-others : goal.returns-clause-others
returns-clause-others g c = λ k lt is.
    let s = c.self.inside in
    let loads : (with_items s.in_force c.unload.new.loads).items ≡ c.unload.new.loads = grind (arith, common_steps) in
    ap (λ (ls : List (List (Option Fault))). loaded_faults ls k) loads ∙ c.unload.ensures.others k lt is
    ∙ ap (λ (ls : List (List (Option Fault))). loaded_faults ls k) c.deref_mut.ensures.value
    ∙ ap (λ (lanes : Lanes g.row.W.Denot). loaded_faults lanes.in_force k) c.self.view_is

pub returns-clause-beside : goal.returns-clause-beside
returns-clause-beside g c = λ vectors stood k lt.
    let s = c.self.inside in
    let beside : AreBeside g.W.Word.lanes g.W.Word.lane_bit vectors (lanes_of g.W.Word.lanes g.W.Word.lane_bit s) =
    subst (λ (lanes : Lanes g.row.W.Denot). AreBeside g.W.Word.lanes g.W.Word.lane_bit vectors lanes) (sym c.self.view_is) stood in
    let bit = g.W.Word.lane_bit in
    let out = c.args.out in
    let circuit = s.circuit.value in
    let faults = loaded_faults (with_items s.in_force c.unload.new.loads).items k in
    let before = loaded_faults s.in_force.items k in
    let old : Stand = stand_in bit k (lanes_of g.W.Word.lanes bit s) in
    let new : Stand = record {
      cycle = s.cycle;
      raw = plane bit k (with_items s.latches.raw c.keep_lanes.new.words).items;
      nets = bit_at (get_or (all_shown g.W.Word.lanes bit (length circuit.drivers) c.keep_nets.new.nets) k []);
    } in
    let loads : (with_items s.in_force c.unload.new.loads).items ≡ c.unload.new.loads = grind (arith, common_steps) in
    let raw : (with_items s.latches.raw c.keep_lanes.new.words).items ≡ c.keep_lanes.new.words = grind (arith, common_steps) in
    elim (cases_Bool (bit out k)) as (λ _. IsBeside circuit faults vectors new) [
      | inl is ↦
          beside_dropped circuit faults vectors new
          (ap (λ (ls : List (List (Option Fault))). loaded_faults ls k) loads ∙ c.unload.ensures.dropped k lt is)
          (beside k lt).between.cycle
          (λ l. ap (λ ws. bit_at (plane bit k ws) l) raw ∙ c.keep_lanes.ensures k l lt ∙ none_out (bit out k) _ is)
          (λ n net. at_shown g.W.Word.lanes bit (length circuit.drivers) c.keep_nets.new.nets k n lt net ∙ c.keep_nets.ensures.shown k n lt ∙ none_out (bit out k) _ is)
      | inr is ↦
          beside_kept circuit faults before vectors old new
          (ap (λ (ls : List (List (Option Fault))). loaded_faults ls k) loads ∙ c.unload.ensures.others k lt is
          ∙ ap (λ (ls : List (List (Option Fault))). loaded_faults ls k) c.deref_mut.ensures.value)
          refl
          (λ l.
          ap (λ ws. bit_at (plane bit k ws) l) raw ∙ c.keep_lanes.ensures k l lt ∙ all_kept (bit out k) _ is
          ∙ ap (λ ws. bit_at (plane bit k ws) l) c.deref_mut-2.ensures.value)
          (λ n net.
          at_shown g.W.Word.lanes bit (length circuit.drivers) c.keep_nets.new.nets k n lt net
          ∙ c.keep_nets.ensures.shown k n lt ∙ all_kept (bit out k) _ is
          ∙ sym (at_shown g.W.Word.lanes bit (length circuit.drivers) s.nets k n lt net))
          (beside k lt)
    ]
