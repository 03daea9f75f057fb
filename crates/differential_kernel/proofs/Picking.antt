-- Lanes that are picked out of others.
use Rattle.std.proofs.Common.{◌≡◌, ◌≢◌, inl, inr, ℕ, ◌+◌, ◌*◌, ◌<◌, ◌≤◌, ◌==◌, ◌⊎◌, ◌&&◌, ◌||◌, Bool, true, false, cond, set, refl, ap, sym, ◌∙◌, subst, arith, lit≤, get_or-set_other, get_or-set_same, length-set}
use Rattle.std.specs.Prelude.{nat_lt, Option, None, Some}
use Rattle.std.proofs.lemmas.Bool.{cases_eq, cases_lt, eq-eqb, le-ltb, lt-ltb, ne_eqb}
use Rattle.std.proofs.Math.ListN.{replicate}
use Rattle.std.proofs.lemmas.List.{get_or-replicate, get_or_past, length-replicate}
use Rattle.std.proofs.lemmas.Option.{none-some, same_Some}
use Rattle.std.proofs.Math.Bool.{or-true}
use Rattle.fm_base.specs.Planes.{bit}
use Rattle.differential_kernel.specs.Picked.{AreBelow, ArePicks, Picks, is_place, lane_at, picked, place_in}

-- no lane
abbrev pub no_lanes : Picks
no_lanes = record { count = 0; lanes = replicate 64 0; places = replicate 256 None }

nowhere : (lane : ℕ) → place_in no_lanes lane ≡ None
nowhere lane = elim (cases_lt lane 256) [
  | inl lt ↦ get_or-replicate 256 lane None None lt
  | inr le ↦ get_or_past (replicate 256 None) lane None (omega (arith, le, length-replicate {A = Option ℕ} 256 None))
]

pub are_none : ArePicks no_lanes
are_none = record {
  few = lit≤ tt;
  lanes = length-replicate {A = ℕ} 64 0;
  places = length-replicate {A = Option ℕ} 256 None;
  picked_there = λ lane place is. absurd (none-some place (sym (nowhere lane) ∙ is));
}

-- one lane more
abbrev pub with_lane : Picks → ℕ → Picks
with_lane picks lane = record { count = picks.count + 1; lanes = set picks.lanes picks.count lane; places = set picks.places lane (Some picks.count) }

pub lane_added : (picks : Picks) (lane : ℕ) → ArePicks picks → picks.count < 64 → lane_at (with_lane picks lane) picks.count ≡ lane
lane_added picks lane are few = get_or-set_same picks.lanes picks.count lane 0 (omega (arith, few, are.lanes))

pub lane_kept : (picks : Picks) (lane place : ℕ) → place < picks.count → lane_at (with_lane picks lane) place ≡ lane_at picks place
lane_kept picks lane place lt = get_or-set_other picks.lanes picks.count place lane 0 (omega (arith, lt))

pub place_added : (picks : Picks) (lane : ℕ) → ArePicks picks → lane < 256 → place_in (with_lane picks lane) lane ≡ Some picks.count
place_added picks lane are lt = get_or-set_same picks.places lane (Some picks.count) None (omega (arith, lt, are.places))

pub place_kept : (picks : Picks) (lane other : ℕ) → other ≢ lane → place_in (with_lane picks lane) other ≡ place_in picks other
place_kept picks lane other apart = get_or-set_other picks.places lane other (Some picks.count) None apart

pub are_more : (picks : Picks) (lane : ℕ) → ArePicks picks → picks.count < 64 → lane < 256 → ArePicks (with_lane picks lane)
are_more picks lane are few lt = record {
  few = omega (arith, few);
  lanes = length-set picks.lanes picks.count lane ∙ are.lanes;
  places = length-set picks.places lane (Some picks.count) ∙ are.places;
  picked_there = λ other place is. elim (cases_eq other lane) [
    | inl same ↦
        (let here : place ≡ picks.count =
        sym (same_Some picks.count place (sym (place_added picks lane are lt) ∙ sym (ap (place_in (with_lane picks lane)) same) ∙ is)) in (
          omega (arith, here),
          ap (lane_at (with_lane picks lane)) here ∙ lane_added picks lane are few ∙ sym same,
        ))
    | inr apart ↦
        (let before = are.picked_there other place (sym (place_kept picks lane other apart) ∙ is) in (
          omega (arith, before.0),
          lane_kept picks lane place before.0 ∙ before.1,
        ))
  ];
}

pub below_more_lanes : (picks : Picks) (lane bound : ℕ) → ArePicks picks → picks.count < 64 → lane < bound → AreBelow bound picks → AreBelow bound (with_lane picks lane)
below_more_lanes picks lane bound are few lt below place within = elim (cases_eq place picks.count) [
  | inl same ↦ subst (λ n. n < bound) (sym (ap (lane_at (with_lane picks lane)) same ∙ lane_added picks lane are few)) lt
  | inr apart ↦
      (let before : place < picks.count = omega (arith, within, apart) in
      subst (λ n. n < bound) (sym (lane_kept picks lane place before)) (below place before))
]

-- a lane without a place had none
pub none_before : (picks : Picks) (lane other : ℕ) → ArePicks picks → lane < 256 → place_in (with_lane picks lane) other ≡ None → place_in picks other ≡ None
none_before picks lane other are lt none = elim (cases_eq other lane) [
  | inl same ↦ absurd (none-some picks.count (sym none ∙ ap (place_in (with_lane picks lane)) same ∙ place_added picks lane are lt))
  | inr apart ↦ sym (place_kept picks lane other apart) ∙ none
]

-- ---- bits of the lanes that are picked

pub picked_behind : (picks : Picks) (bits : ℕ → Bool) (place : ℕ) → picks.count ≤ place → picked picks bits place ≡ false
picked_behind picks bits place le = ap (λ b. b && bits (lane_at picks place)) (le-ltb place picks.count le)

pub picked_within : (picks : Picks) (bits : ℕ → Bool) (place : ℕ) → place < picks.count → picked picks bits place ≡ bits (lane_at picks place)
picked_within picks bits place lt = ap (λ b. b && bits (lane_at picks place)) (lt-ltb place picks.count lt)

-- where no lane has the bit, none of those that are picked has
pub picked_none : (picks : Picks) (lanes : ℕ) (bits : ℕ → Bool) (place : ℕ) → AreBelow lanes picks → ((lane : ℕ) → lane < lanes → bits lane ≡ false) → picked picks bits place ≡ false
picked_none picks lanes bits place below none = elim (cases_lt place picks.count) [
  | inl lt ↦ picked_within picks bits place lt ∙ none (lane_at picks place) (below place lt)
  | inr le ↦ picked_behind picks bits place le
]

-- equal bits in all lanes are equal in those that are picked
pub picked_alike : (picks : Picks) (lanes : ℕ) (bits others : ℕ → Bool) (place : ℕ) → AreBelow lanes picks → ((lane : ℕ) → lane < lanes → bits lane ≡ others lane)
    → picked picks bits place ≡ picked picks others place
picked_alike picks lanes bits others place below alike = elim (cases_lt place picks.count) [
  | inl lt ↦ picked_within picks bits place lt ∙ alike (lane_at picks place) (below place lt) ∙ sym (picked_within picks others place lt)
  | inr le ↦ picked_behind picks bits place le ∙ sym (picked_behind picks others place le)
]

-- the bits so far, and that of one place more
pub picked_more : (picks : Picks) (bits : ℕ → Bool) (place now : ℕ) (old value : Bool) → old ≡ (nat_lt place now && bits (lane_at picks place)) → value ≡ bits (lane_at picks now)
    → cond (place == now) value old ≡ (nat_lt place (now + 1) && bits (lane_at picks place))
picked_more picks bits place now old value before here = elim (cases_eq place now) [
  | inl same ↦
      ap (λ b. cond b value old) (eq-eqb place now same) ∙ here ∙ ap (λ n. bits (lane_at picks n)) (sym same)
      ∙ sym (ap (λ b. b && bits (lane_at picks place)) (lt-ltb place (now + 1) (omega (arith, same))))
  | inr apart ↦
      ap (λ b. cond b value old) (ne_eqb place now apart) ∙ before ∙ elim (cases_lt place now) [
        | inl lt ↦ ap (λ b. b && bits (lane_at picks place)) (lt-ltb place now lt ∙ sym (lt-ltb place (now + 1) (omega (arith, lt))))
        | inr le ↦ ap (λ b. b && bits (lane_at picks place)) (le-ltb place now le ∙ sym (le-ltb place (now + 1) (omega (arith, le, apart))))
      ]
]

-- ---- bits at places

-- the bits with that of a place set
pub set_here : (place : Option ℕ) (own : ℕ) (old new : Bool) → new ≡ (is_place own place || old) → place ≡ Some own → new ≡ true
set_here place own old new is here = is ∙ ap (λ p. is_place own p || old) here ∙ ap (λ b. b || old) (eq-eqb own own refl)

pub set_stays : (place : Option ℕ) (own : ℕ) (old new : Bool) → new ≡ (is_place own place || old) → old ≡ true → new ≡ true
set_stays place own old new is set = is ∙ ap (λ b. is_place own place || b) set ∙ or-true (is_place own place)

-- a bit that is set is that of the place, or was set before
pub here_or_before : (place : Option ℕ) (own : ℕ) (old new : Bool) → new ≡ (is_place own place || old) → new ≡ true → (place ≡ Some own) ⊎ (old ≡ true)
here_or_before None own old new is set = inr (sym is ∙ set)
here_or_before (Some place) own old new is set = elim (cases_eq own place) [
  | inl same ↦ inl (ap Some (sym same))
  | inr apart ↦ inr (sym (is ∙ ap (λ b. b || old) (ne_eqb own place apart)) ∙ set)
]

-- so far those of all lanes before one, and now that of this lane too
pub places_more : (picks : Picks) (word plane lane old new : ℕ) → ArePicks picks
    → ((other : ℕ) → other < 64 → bit new other ≡ (is_place other (place_in picks (word * 64 + lane)) || bit old other))
    → ((k place : ℕ) → k < lane → bit plane k ≡ true → place_in picks (word * 64 + k) ≡ Some place → bit old place ≡ true)
    → (k place : ℕ) → k < lane + 1 → bit plane k ≡ true → place_in picks (word * 64 + k) ≡ Some place → bit new place ≡ true
places_more picks word plane lane old new are is before k place lt set there =
    let own = place_in picks (word * 64 + lane) in
    let within = are.picked_there (word * 64 + k) place there in
    let now = is place (omega (arith, within.0, are.few)) in
    elim (cases_eq k lane) [
      | inl same ↦ set_here own place (bit old place) (bit new place) now (sym (ap (λ l. place_in picks (word * 64 + l)) same) ∙ there)
      | inr apart ↦ set_stays own place (bit old place) (bit new place) now (before k place (omega (arith, lt, apart)) set there)
    ]

-- a bit that is set is that of one of the lanes
abbrev pub IsOfLane : Picks → ℕ → ℕ → ℕ → ℕ → Type 0
IsOfLane picks word plane lanes place = (k : ℕ) × (k < lanes) × (bit plane k ≡ true) × (place_in picks (word * 64 + k) ≡ Some place)

pub of_lane_stays : (picks : Picks) (word plane lane place : ℕ) → IsOfLane picks word plane lane place → IsOfLane picks word plane (lane + 1) place
of_lane_stays picks word plane lane place found = (found.0, omega (arith, found.1), found.2, found.3)

pub of_lane_more : (picks : Picks) (word plane lane old new place : ℕ) → bit plane lane ≡ true → bit new place ≡ (is_place place (place_in picks (word * 64 + lane)) || bit old place)
    → (bit old place ≡ true → IsOfLane picks word plane lane place) → bit new place ≡ true → IsOfLane picks word plane (lane + 1) place
of_lane_more picks word plane lane old new place set is before now =
    elim (here_or_before (place_in picks (word * 64 + lane)) place (bit old place) (bit new place) is now) [
      | inl here ↦ (lane, omega arith, set, here)
      | inr there ↦ of_lane_stays picks word plane lane place (before there)
    ]
