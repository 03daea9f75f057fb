-- The simulation of both scopes, cycle by cycle.
use Rattle.std.proofs.Common.{◌≡◌, inl, inr, ◌∙◌, ap, ap₂, sym, refl, subst, ℕ, ◌+◌, ◌<◌, Bool, List, [], ◌∷◌, ◌++◌, length, get_or, take, arith}
use Rattle.std.specs.Prelude.{Option, Some, None}
use Rattle.std.proofs.lemmas.Bool.{cases_eq}
use Rattle.std.proofs.lemmas.List.{length-take-le, take_more}
use Rattle.circuit.specs.declared.parts.Fault.{Fault}
use Rattle.circuit.specs.declared.parts.NetId.{NetId}
use Rattle.circuit.specs.Circuit.{Circuit}
use Rattle.circuit.specs.Trace.{trace}
use Rattle.circuit.proofs.Cycles.{trace_taken}
use Rattle.fm_base.specs.Planes.{bit}
use Rattle.lane_words.specs.Bank.{AreAfter, Bank, KeepsBankLoads}
use Rattle.lane_words.specs.Loads.{loaded_faults, somes}
use Rattle.workload.specs.Runs.{cycles_of}
use Rattle.wave_dump.specs.Dump.{Waves, alone, scope_faults, value_at}
use Rattle.wave_dump.specs.Steps.{AreLoaded, HasLanes, Holds, HasRunTo, IsIn}

-- the faults of a scope are those of its lane
pub lane_faults : (w : Waves) (scope : ℕ) (lanes : Bank ℕ) → AreLoaded w lanes → scope < 2 → loaded_faults lanes.loads scope ≡ scope_faults w scope
lane_faults w scope lanes loaded lt =
    elim (cases_eq scope 0) [
      | inl e ↦ ap (loaded_faults lanes.loads) e ∙ loaded.golden ∙ ap (scope_faults w) (sym e)
      | inr ne ↦
          (let one : scope ≡ 1 = omega (arith, lt, ne) in ap (loaded_faults lanes.loads) one ∙ loaded.faulty ∙ ap (scope_faults w) (sym one))
    ]

-- the fault in the first place of a lane
pub alone_somes : (fault : Option Fault) → somes (fault ∷ None ∷ []) ≡ alone fault
alone_somes None = refl
alone_somes (Some f) = refl

pub still_loaded : (w : Waves) (old new : Bank ℕ) → KeepsBankLoads old new → AreLoaded w old → AreLoaded w new
still_loaded w old new keeps loaded = record {
  circuit = keeps.circuit ∙ loaded.circuit;
  golden = ap (λ (loads : List (List (Option Fault))). loaded_faults loads 0) keeps.loads ∙ loaded.golden;
  faulty = ap (λ (loads : List (List (Option Fault))). loaded_faults loads 1) keeps.loads ∙ loaded.faulty;
}

pub still_has : (w : Waves) (order : List NetId) (old new : Bank ℕ) → KeepsBankLoads old new → HasLanes w order old → HasLanes w order new
still_has w order old new keeps has = record {
  made = record { circuit = keeps.circuit ∙ has.made.circuit; order = keeps.order ∙ has.made.order };
  loaded = still_loaded w old new keeps has.loaded;
}

module _ (w : Waves) (t : ℕ) (old new : Bank ℕ) (inputs : List Bool) where
  pub now_in : KeepsBankLoads old new → HasRunTo w t old → t < cycles_of w.run → inputs ≡ get_or w.run.vectors t []
      → ((vectors : List (List Bool)) → AreAfter 64 bit vectors old → AreAfter 64 bit (vectors ++ inputs ∷ []) new) → IsIn w t new
  now_in keeps behind lt is step =
      let joined : take t w.run.vectors ++ inputs ∷ [] ≡ take (t + 1) w.run.vectors =
      ap (λ (v : List Bool). take t w.run.vectors ++ v ∷ []) is ∙ sym (take_more w.run.vectors t [] lt) in
      record {
        loaded = still_loaded w old new keeps behind.loaded;
        within = lt;
        after = subst (λ vs. AreAfter 64 bit vs new) joined (step (take t w.run.vectors) behind.after);
      }

-- cycle t is done
pub in_behind : (w : Waves) (t : ℕ) (lanes : Bank ℕ) → lanes.cycle ≡ t + 1 → IsIn w t lanes → HasRunTo w (t + 1) lanes
in_behind w t lanes cycle now = record { loaded = now.loaded; cycle = cycle; after = now.after }

-- the value of a net in a scope
module _ (w : Waves) (t : ℕ) (lanes : Bank ℕ) (now : IsIn w t lanes) (word net : ℕ)
    (shown : (vectors : List (List Bool)) (u k : ℕ) → AreAfter 64 bit vectors lanes → u + 1 ≡ length vectors → k < 64 → net < length lanes.circuit.drivers
    → bit word k ≡ trace lanes.circuit (loaded_faults lanes.loads k) vectors u net) where
  pub lane_value : (scope : ℕ) → scope < 2 → net < length w.circuit.drivers → bit word scope ≡ trace w.circuit (scope_faults w scope) w.run.vectors t net
  lane_value scope lt within =
      let size : t + 1 ≡ length (take (t + 1) w.run.vectors) = sym (length-take-le (t + 1) w.run.vectors (omega (arith, now.within))) in
      let there : net < length lanes.circuit.drivers = omega (arith, within, ap (λ (c : Circuit). length c.drivers) now.loaded.circuit) in
      shown (take (t + 1) w.run.vectors) t scope now.after size (omega (arith, lt)) there
      ∙ ap₂ (λ (c : Circuit) (x : List Fault). trace c x (take (t + 1) w.run.vectors) t net) now.loaded.circuit (lane_faults w scope lanes now.loaded lt)
      ∙ trace_taken w.circuit (scope_faults w scope) w.run.vectors t net now.within

  -- the value of the net at a place of those that are shown
  pub word_value : (place scope : ℕ) → scope < 2 → net ≡ get_or w.nets place 0 → get_or w.nets place 0 < length w.circuit.drivers
      → bit word scope ≡ value_at w scope place t
  word_value place scope lt is within =
      lane_value scope lt (omega (arith, is, within)) ∙ ap (λ n. trace w.circuit (scope_faults w scope) w.run.vectors t n) is

-- no cycle is held before cycle 0
pub holds_none : (w : Waves) (held : List ℕ) → length held ≡ length w.nets → Holds w 0 held
holds_none w held count = record { count = count; values = λ u scope place e lt within. absurd (omega (arith, e)) }

-- the values of cycle t are held for the next one
pub holds_next : (w : Waves) (t : ℕ) (held : List ℕ) → length held ≡ length w.nets
    → ((scope place : ℕ) → scope < 2 → place < length held → bit (get_or held place 0) scope ≡ value_at w scope place t) → Holds w (t + 1) held
holds_next w t held count values = record {
  count = count;
  values = λ u scope place e lt within.
      (let same : t ≡ u = omega (arith, e) in
      values scope place lt (omega (arith, within, count)) ∙ ap (value_at w scope place) same);
}

-- before the first cycle
pub starts_behind : (w : Waves) (order : List NetId) (old new : Bank ℕ) → HasLanes w order old → KeepsBankLoads old new → new.cycle ≡ 0
    → AreAfter 64 bit [] new → HasRunTo w 0 new
starts_behind w order old new has keeps cycle after = record { loaded = still_loaded w old new keeps has.loaded; cycle = cycle; after = after }
