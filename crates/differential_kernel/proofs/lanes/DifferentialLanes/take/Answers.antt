use Rattle.std.proofs.Common.{◌≡◌, ◌<◌, inl, inr, false, List, [], length, get_or, refl, ap, sym, ◌∙◌, subst, arith}
use Rattle.std.specs.Prelude.{Option}
use Rattle.std.proofs.lemmas.Bool.{cases_lt, false≢true}
use Rattle.std.proofs.lemmas.Grind.{common_steps}
use Rattle.std.specs.Vec.{with_items}
use Rattle.circuit.specs.declared.parts.Fault.{Fault}
use Rattle.circuit.specs.Circuit.{Circuit}
use Rattle.circuit.specs.Value.{bit_at}
use Rattle.fanout.specs.Readers.{Ordered}
use Rattle.golden_difference.specs.Beside.{AreBeside, IsBeside, Stand, stand_in}
use Rattle.lane_words.specs.Gates.{plane}
use Rattle.lane_words.specs.Loads.{loaded_faults}
use Rattle.golden_difference.specs.Lanes.{Lanes}
use Rattle.differential_kernel.specs.declared.cone.Cone.{Cone}
use Rattle.differential_kernel.specs.declared.shown.ShownNets.{ShownNets}
use Rattle.differential_kernel.specs.Cone.{IsConeOf}
use Rattle.differential_kernel.specs.Differences.{AreSameOff, DifferOnlyIn}
use Rattle.differential_kernel.specs.Kernel.{lanes_of}
use Rattle.differential_kernel.specs.Picked.{lane_at}
use Rattle.differential_kernel.specs.Shown.{all_shown, shown_of}
use Rattle.differential_kernel.proofs.Dropping.{beside_dropped, beside_kept}
use Rattle.differential_kernel.proofs.Picking.{picked_behind, picked_within}
use Rattle.differential_kernel.proofs.Told.{at_shown}
use Rattle.differential_kernel.proofs.lanes.DifferentialLanes.take.Goals as goal

pub invariant_of-self : goal.invariant_of-self
invariant_of-self g c =
    let s = c.self.inside in
    let kept = c.self.invariant in
    let own : Ordered = record { circuit = s.circuit.value; order = s.order.value } in
    let bit = g.W.Word.lane_bit in
    let loads : (with_items s.in_force c.take_faults.new.faults).items ≡ c.take_faults.new.faults = grind (arith, common_steps) in
    let raw : (with_items s.latches.raw c.take_words.new.words).items ≡ c.take_words.new.words = grind (arith, common_steps) in
    let words : (with_items s.nets.own.words c.take_nets.new.words).items ≡ c.take_nets.new.words = grind (arith, common_steps) in
    let latches : length (with_items s.latches.raw c.take_words.new.words).items ≡ length s.latches.raw.items =
    ap (λ (ws : List g.row.W.Denot). length ws) raw ∙ c.take_words.auto.words ∙ ap (λ (ws : List g.row.W.Denot). length ws) c.deref_mut-2.ensures.value in
    let nets : length (with_items s.nets.own.words c.take_nets.new.words).items ≡ length s.nets.own.words.items =
    ap (λ (ws : List g.row.W.Denot). length ws) words ∙ c.take_nets.auto.words ∙ ap (λ (ws : List g.row.W.Denot). length ws) c.deref_mut-3.ensures.value in
    record {
      sound = kept.sound;
      ordered = kept.ordered;
      program = kept.program;
      given = kept.given;
      whole = λ whole. absurd (false≢true whole);
      loads =
          ap (λ (ls : List (List (Option Fault))). length ls) loads ∙ c.take_faults.auto.faults ∙ ap (λ (ls : List (List (Option Fault))). length ls) c.deref_mut.ensures.value
          ∙ kept.loads;
      acts_bound = kept.acts_bound;
      stuck = λ noted. absurd (false≢true noted);
      noted = λ noted. absurd (false≢true noted);
      forces = kept.forces;
      latches = record {
        raw = latches ∙ kept.latches.raw;
        live = subst (λ (ws : List g.row.W.Denot). DifferOnlyIn g.W.Word.lanes bit c.take_words.new.set ws) (sym raw) c.take_words.ensures.own;
      };
      nets = record {
        own = record {
          words = nets ∙ kept.nets.own.words;
          touched = subst (λ (ws : List g.row.W.Denot). DifferOnlyIn g.W.Word.lanes bit c.take_nets.new.set ws) (sym words) c.take_nets.ensures.own;
          marks = kept.nets.own.marks;
        };
        values = kept.nets.values;
        row = kept.nets.row;
      };
      cone = subst (λ (cone : Cone). IsConeOf own cone) (sym c.begin.ensures) kept.cone;
    }

pub take_faults-requires-clause-few : goal.take_faults-requires-clause-few
take_faults-requires-clause-few g c =
    let size : length c.deref_mut.result.now ≡ g.W.Word.lanes = ap (λ (ls : List (List (Option Fault))). length ls) c.deref_mut.ensures.value ∙ c.self.invariant.loads in
    omega (arith, size, g.met.W.Word.whole, c.words-few.ensures.few)

pub take_words-requires-clause-others : goal.take_words-requires-clause-others
take_words-requires-clause-others g c =
    subst (λ (ws : List g.row.V.Denot). AreSameOff g.V.Word.lanes g.V.Word.lane_bit c.other.inside.latches.live ws) (sym c.deref-2.ensures.value) c.other.invariant.latches.live.same

pub take_words-requires-clause-own : goal.take_words-requires-clause-own
take_words-requires-clause-own g c =
    subst (λ (ws : List g.row.W.Denot). DifferOnlyIn g.W.Word.lanes g.W.Word.lane_bit c.self.inside.latches.live ws) (sym c.deref_mut-2.ensures.value) c.self.invariant.latches.live

pub take_nets-requires-clause-bounds : goal.take_nets-requires-clause-bounds
take_nets-requires-clause-bounds g c =
    let others = c.other.invariant.nets in
    let own = c.self.invariant.nets in
    let same : c.other.inside.circuit.value ≡ c.self.inside.circuit.value =
    ap (λ (lanes : Lanes g.row.V.Denot). lanes.circuit) c.other.view_is ∙ sym c.requires.made.circuit ∙ sym (ap (λ (lanes : Lanes g.row.W.Denot). lanes.circuit) c.self.view_is) in
    others.own.touched.bound ∙ others.own.words ∙ ap (λ (m : Circuit). length m.drivers) same ∙ sym own.own.words ∙ sym own.own.touched.bound

pub take_nets-requires-clause-others : goal.take_nets-requires-clause-others
take_nets-requires-clause-others g c = c.other.invariant.nets.own.touched.same

pub take_nets-requires-clause-own : goal.take_nets-requires-clause-own
take_nets-requires-clause-own g c =
    subst (λ (ws : List g.row.W.Denot). DifferOnlyIn g.W.Word.lanes g.W.Word.lane_bit c.self.inside.nets.own.touched ws) (sym c.deref_mut-3.ensures.value) c.self.invariant.nets.own.touched

pub returns-clause-taken : goal.returns-clause-taken
returns-clause-taken g c = λ place lt.
    let s = c.self.inside in
    let lane = lane_at c.args.picks.now place in
    let loads : (with_items s.in_force c.take_faults.new.faults).items ≡ c.take_faults.new.faults = grind (arith, common_steps) in
    let size : length c.deref_mut.result.now ≡ g.W.Word.lanes = ap (λ (ls : List (List (Option Fault))). length ls) c.deref_mut.ensures.value ∙ c.self.invariant.loads in
    ap (λ (ls : List (List (Option Fault))). loaded_faults ls place) loads ∙ c.take_faults.ensures.taken place lt (omega (arith, lt, c.requires.few, size))
    ∙ ap (λ (ls : List (List (Option Fault))). loaded_faults ls lane) c.deref.ensures.value
    ∙ ap (λ (lanes : Lanes g.row.V.Denot). loaded_faults lanes.in_force lane) c.other.view_is

pub returns-clause-rest : goal.returns-clause-rest
returns-clause-rest g c = λ place le.
    let s = c.self.inside in
    let loads : (with_items s.in_force c.take_faults.new.faults).items ≡ c.take_faults.new.faults = grind (arith, common_steps) in
    ap (λ (ls : List (List (Option Fault))). loaded_faults ls place) loads ∙ c.take_faults.ensures.rest place le

pub returns-clause-beside : goal.returns-clause-beside
returns-clause-beside g c = λ vectors stood place lt.
    let s = c.self.inside in
    let o = c.other.inside in
    let picks = c.args.picks.now in
    let bit = g.W.Word.lane_bit in
    let others = g.V.Word.lane_bit in
    let beside : AreBeside g.V.Word.lanes others vectors (lanes_of g.V.Word.lanes others o) =
    subst (λ (lanes : Lanes g.row.V.Denot). AreBeside g.V.Word.lanes others vectors lanes) (sym c.other.view_is) stood in
    let same : o.circuit.value ≡ s.circuit.value =
    ap (λ (lanes : Lanes g.row.V.Denot). lanes.circuit) c.other.view_is ∙ sym c.requires.made.circuit ∙ sym (ap (λ (lanes : Lanes g.row.W.Denot). lanes.circuit) c.self.view_is) in
    let faults = loaded_faults (with_items s.in_force c.take_faults.new.faults).items place in
    let after : ShownNets g.row.W.Denot = record {
      own = record { words = with_items s.nets.own.words c.take_nets.new.words; touched = c.take_nets.new.set; marks = s.nets.own.marks };
      values = s.nets.values;
      row = s.nets.row;
      swept = false;
    } in
    let new : Stand = record {
      cycle = o.cycle;
      raw = plane bit place (with_items s.latches.raw c.take_words.new.words).items;
      nets = bit_at (get_or (all_shown g.W.Word.lanes bit (length s.circuit.value.drivers) after) place []);
    } in
    let loads : (with_items s.in_force c.take_faults.new.faults).items ≡ c.take_faults.new.faults = grind (arith, common_steps) in
    let raw : (with_items s.latches.raw c.take_words.new.words).items ≡ c.take_words.new.words = grind (arith, common_steps) in
    let words : (with_items s.nets.own.words c.take_nets.new.words).items ≡ c.take_nets.new.words = grind (arith, common_steps) in
    elim (cases_lt place picks.count) as (λ _. IsBeside s.circuit.value faults vectors new) [
      | inl within ↦
          (let lane = lane_at picks place in
          let old : Stand = stand_in others lane (lanes_of g.V.Word.lanes others o) in
          let size : length c.deref_mut.result.now ≡ g.W.Word.lanes = ap (λ (ls : List (List (Option Fault))). length ls) c.deref_mut.ensures.value ∙ c.self.invariant.loads in
          beside_kept s.circuit.value faults (loaded_faults o.in_force.items lane) vectors old new
          (ap (λ (ls : List (List (Option Fault))). loaded_faults ls place) loads ∙ c.take_faults.ensures.taken place within (omega (arith, lt, size))
          ∙ ap (λ (ls : List (List (Option Fault))). loaded_faults ls lane) c.deref.ensures.value)
          refl
          (λ l.
          ap (λ ws. bit_at (plane bit place ws) l) raw ∙ c.take_words.ensures.words place l lt
          ∙ picked_within picks (λ k. bit_at (plane others k c.deref-2.result.now) l) place within
          ∙ ap (λ ws. bit_at (plane others lane ws) l) c.deref-2.ensures.value)
          (λ n net.
          at_shown g.W.Word.lanes bit (length s.circuit.value.drivers) after place n lt net
          ∙ ap (λ ws. bit_at (plane bit place ws) n) words ∙ c.take_nets.ensures.words place n lt
          ∙ picked_within picks (λ k. shown_of others o.nets k n) place within
          ∙ sym
          (at_shown g.V.Word.lanes others (length o.circuit.value.drivers) o.nets lane n (c.requires.below place within)
          (subst (λ (m : Circuit). n < length m.drivers) (sym same) net)))
          (subst (λ (m : Circuit). IsBeside m (loaded_faults o.in_force.items lane) vectors old) same (beside lane (c.requires.below place within))))
      | inr behind ↦
          beside_dropped s.circuit.value faults vectors new
          (ap (λ (ls : List (List (Option Fault))). loaded_faults ls place) loads ∙ c.take_faults.ensures.rest place behind)
          (beside 0 (omega (arith, g.met.V.Word.whole, c.words-some.ensures.some))).between.cycle
          (λ l.
          ap (λ ws. bit_at (plane bit place ws) l) raw ∙ c.take_words.ensures.words place l lt
          ∙ picked_behind picks (λ k. bit_at (plane others k c.deref-2.result.now) l) place behind)
          (λ n net.
          at_shown g.W.Word.lanes bit (length s.circuit.value.drivers) after place n lt net
          ∙ ap (λ ws. bit_at (plane bit place ws) n) words ∙ c.take_nets.ensures.words place n lt
          ∙ picked_behind picks (λ k. shown_of others o.nets k n) place behind)
    ]
