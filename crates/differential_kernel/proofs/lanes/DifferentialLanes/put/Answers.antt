use Rattle.std.proofs.Common.{◌≡◌, ◌<◌, ◌||◌, ℕ, false, List, [], inl, inr, length, refl, ap, sym, subst, ◌∙◌, arith}
use Rattle.std.specs.Prelude.{slice_set}
use Rattle.std.proofs.lemmas.Bool.{cases_eq}
use Rattle.std.proofs.lemmas.List.{get_or-set_other, get_or-set_same}
use Rattle.circuit.specs.declared.parts.Fault.{Fault}
use Rattle.circuit.specs.Circuit.{Circuit}
use Rattle.circuit.specs.Trace.{raw_state}
use Rattle.circuit.specs.Value.{bit_at}
use Rattle.golden_difference.specs.Beside.{AreBetween, IsBetween, IsStateOf, Stand, stand_in, state_differs}
use Rattle.golden_difference.specs.Lanes.{Lanes}
use Rattle.golden_difference.proofs.Exclusive.{either_same}
use Rattle.lane_words.specs.Gates.{plane}
use Rattle.lane_words.specs.Loads.{loaded_faults, somes}
use Rattle.place_set.specs.Places.{has}
use Rattle.differential_kernel.specs.Kernel.{lanes_of}
use Rattle.differential_kernel.proofs.Dropping.{between_kept, or_false}
use Rattle.differential_kernel.proofs.lanes.DifferentialLanes.put.Goals as goal

pub returns-clause-between : goal.returns-clause-between
returns-clause-between g c = λ vectors stood state k lt.
    let lanes = g.W.Word.lanes in
    let bit = g.W.Word.lane_bit in
    let s = c.self.inside in
    let lane = c.args.lane in
    let between : AreBetween lanes bit vectors (lanes_of lanes bit s) =
    subst (λ (ls : Lanes g.row.W.Denot). AreBetween lanes bit vectors ls) (sym c.self.view_is) stood in
    let circuit = s.circuit.value in
    let own_state : IsStateOf circuit (somes c.args.faults) vectors c.args.state.now =
    subst (λ (m : Circuit). IsStateOf m (somes c.args.faults) vectors c.args.state.now) (sym (ap (λ (ls : Lanes g.row.W.Denot). ls.circuit) c.self.view_is)) state in
    let none : loaded_faults s.in_force.items lane ≡ [] = ap (λ (ls : Lanes g.row.W.Denot). loaded_faults ls.in_force lane) c.self.view_is ∙ c.requires.empty in
    let room : lane < length s.in_force.items = omega (arith, c.requires.lane, c.self.invariant.loads) in
    let faults : List Fault = loaded_faults (slice_set s.in_force.items lane c.args.faults) k in
    let old : Stand = stand_in bit k (lanes_of lanes bit s) in
    let new : Stand = record { cycle = s.cycle; raw = plane bit k c.put_state.new.latches.raw.items; nets = old.nets } in
    let nothing : (l : ℕ) → l < length circuit.latches → bit_at (plane bit lane s.latches.raw.items) l ≡ false =
    λ l within.
    (between lane c.requires.lane).raw l within ∙ ap (λ fs. state_differs circuit fs vectors (length vectors) l) none
    ∙ either_same (bit_at (raw_state circuit [] vectors (length vectors)) l) in
    elim (cases_eq k lane) as (λ _. IsBetween circuit faults vectors new) [
      | inl here ↦
          (let own : faults ≡ somes c.args.faults =
          ap (loaded_faults (slice_set s.in_force.items lane c.args.faults)) here ∙ ap somes (get_or-set_same s.in_force.items lane c.args.faults [] room) in
          record {
            cycle = (between k lt).cycle;
            raw = λ l within.
                ap (λ j. bit_at (plane bit j c.put_state.new.latches.raw.items) l) here ∙ c.put_state.ensures.own l
                ∙ ap (λ b. has c.args.state.now l || b) (nothing l within) ∙ or_false (has c.args.state.now l) ∙ own_state l within
                ∙ ap (λ fs. state_differs circuit fs vectors (length vectors) l) (sym own);
          })
      | inr apart ↦
          between_kept circuit faults (loaded_faults s.in_force.items k) vectors old new
          (ap somes (get_or-set_other s.in_force.items lane k c.args.faults [] apart)) refl (λ l. c.put_state.ensures.others k l lt apart) (between k lt)
    ]
