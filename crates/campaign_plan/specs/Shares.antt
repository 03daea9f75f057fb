-- The shares of a part's rate, as the faults take them one after the other.
use Rattle.std.specs.Prelude.{◌≡◌, ℕ, ◌+◌, ◌-◌, ◌/◌, ◌%◌, ◌<◌, Bool, List, length, map, take, All, count_by, slice_index_or, Vec, if◌then◌else◌, nat_lt, ◌==◌, ◌&&◌, true, false, Option, Some, None, Result, Ok, Err}
use Rattle.circuit.specs.declared.parts.Fault.{Fault}
use Rattle.campaign_plan.specs.declared.shares.Share.{Share}
use Rattle.rate_table.specs.declared.Part.{Part}
use Rattle.fm_base.specs.Lists.{below}
use Rattle.std.specs.declared.alloc.Global.{Global}
use Rattle.campaign_plan.specs.declared.PlanRefusal.{PlanRefusal}
use Rattle.campaign_plan.specs.PlanFaults.{idle_rate}
use Rattle.campaign_plan.specs.Making.{HasCause}
use Rattle.campaign_plan.specs.Analysis.{Analysis, all_faults, fault_count, part_count, part_numbered, part_of}
use Rattle.campaign_plan.specs.Weights.{rate_of_kind, has_part_and_kind, weight}

-- the number of each fault's part
pub record HavePartNumbers (p : Analysis) (faults : List Fault) (numbers : List ℕ) : Type 0 where
  pub listed : faults ≡ all_faults p
  pub numbered : numbers ≡ map (part_of p) (all_faults p)
  pub within : All (λ number. number < part_count p) numbers

-- how many of these faults are of each part and of this kind
pub record ArePartCounts (p : Analysis) (permanent : Bool) (fs : List Fault) (counts : List ℕ) : Type 0 where
  pub size : length counts ≡ part_count p
  pub each : (k : ℕ) → k < part_count p → slice_index_or counts k 0 ≡ count_by (has_part_and_kind p k permanent) fs

-- a rate in equal shares for so many faults, and nothing where there is none
abbrev pub share_of_rate : ℕ → ℕ → Share
share_of_rate rate count = if count == 0 then record { whole = 0; left = 0 } else record { whole = rate / count; left = rate % count }

-- the share of a part
abbrev pub share_at : List Share → ℕ → Share
share_at shares k = slice_index_or shares k (record { whole = 0; left = 0 })

-- the weight of the next fault, and the share behind it
abbrev pub next_weight : Share → ℕ
next_weight share = share.whole + (if nat_lt 0 share.left then 1 else 0)

abbrev pub less : ℕ → Share → Share
less taken share = record { whole = share.whole; left = share.left - taken }

-- a part's share for its faults of a kind
abbrev pub full_share : Analysis → Bool → ℕ → Share
full_share p permanent k = share_of_rate (rate_of_kind permanent (part_numbered p k)) (count_by (has_part_and_kind p k permanent) (all_faults p))

-- the shares of all parts, where the first faults have taken theirs
pub record AreShares (p : Analysis) (permanent : Bool) (taken : ℕ) (shares : List Share) : Type 0 where
  pub size : length shares ≡ part_count p
  pub each : (k : ℕ) → k < part_count p → share_at shares k ≡ less (count_by (has_part_and_kind p k permanent) (take taken (all_faults p))) (full_share p permanent k)

-- the kind of a part's idle rate, permanent before transient, where it has so many faults of each
abbrev pub idle_of : Part → ℕ → ℕ → Option Bool
idle_of part of_permanent of_transient =
    if nat_lt 0 part.permanent && (of_permanent == 0) then Some true
    else if nat_lt 0 part.transient && (of_transient == 0) then Some false
    else None

-- no rate is idle, or the first idle one
abbrev pub IdleGives : Analysis → Result (Unit {0}) PlanRefusal → Type 0
IdleGives p (Ok done) = idle_rate p ≡ None
IdleGives p (Err refusal) = HasCause (idle_rate p) refusal

-- the weights of all faults, or the first idle rate
abbrev pub WeightsGive : Analysis → Result (Vec ℕ Global) PlanRefusal → Type 0
WeightsGive p (Ok weights) = (idle_rate p ≡ None) × (weights.items ≡ map (weight p) (below (fault_count p)))
WeightsGive p (Err refusal) = HasCause (idle_rate p) refusal
