-- Nets that faults of some lanes name.
use Rattle.std.proofs.Common.{◌≡◌, ℕ, ◌+◌, ◌<◌, ◌||◌, Bool, true, false, cond, List, [], length, drop, get_or, refl, ap, Option}
use Rattle.std.proofs.lemmas.List.{drop_more}
use Rattle.circuit.specs.declared.parts.Fault.{Fault}
use Rattle.circuit.specs.Effects.{affected}
use Rattle.lane_words.specs.Loads.{loaded_faults, names, some_names}
use Rattle.lane_words.proofs.Armed.{lane_free, lane_unnamed}

pub merged : (a b s f : Bool) → cond b s (cond a s f) ≡ cond (a || b) s f
merged true true s f = refl
merged true false s f = refl
merged false true s f = refl
merged false false s f = refl

pub named_more : (loads : List (List (Option Fault))) (i n : ℕ) → i < length loads
    → some_names (drop i loads) n ≡ (names (get_or loads i []) n || some_names (drop (i + 1) loads) n)
named_more loads i n lt = ap (λ xs. some_names xs n) (drop_more loads i [] lt)

pub affected_free : (loads : List (List (Option Fault))) (k t n : ℕ) (own : Bool) → some_names loads n ≡ false → affected (loaded_faults loads k) t n own ≡ own
affected_free loads k t n own e = lane_free (loaded_faults loads k) t n own (lane_unnamed loads k n e)
