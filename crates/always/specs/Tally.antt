-- How many faults of a part stand in each way, fault by fault: how the text keeps the numbers of a part's line.
use Rattle.std.specs.Prelude.{ℕ, ◌+◌, ◌≤◌, ◌^◌, Bool, ◌==◌, count_by, filter, length}
use Rattle.fm_base.specs.Lists.{below}
use Rattle.campaign_plan.specs.Analysis.{Analysis, fault_numbered, part_of}
use Rattle.always.specs.Verdict.{is_verdict}
use Rattle.always.specs.declared.tally.Tally.{Tally}
use Rattle.always.specs.declared.verdict.Verdict.{Verdict}
use Rattle.always.specs.declared.verdict.Verdict.TheVariants.{NoPath, Alarmed, Early, Open}

-- a fault is of a part
abbrev pub is_of : Analysis → ℕ → ℕ → Bool
is_of p k i = part_of p (fault_numbered p i) == k

-- those of the first n faults that are of a part
abbrev pub tally_below : Analysis → (ℕ → Verdict) → ℕ → ℕ → Tally
tally_below p verdict k n =
    let count : Verdict → ℕ = λ kind. count_by (λ i. is_verdict (verdict i) kind) (filter (is_of p k) (below n)) in
    record { faults = length (filter (is_of p k) (below n)); no_path = count NoPath; alarmed = count Alarmed; early = count Early; left_open = count Open }

-- none, and one more
abbrev pub no_tally : Tally
no_tally = record { faults = 0; no_path = 0; alarmed = 0; early = 0; left_open = 0 }

abbrev pub with_verdict : Verdict → Tally → Tally
with_verdict NoPath t = record t { faults = t.faults + 1; no_path = t.no_path + 1 }
with_verdict Alarmed t = record t { faults = t.faults + 1; alarmed = t.alarmed + 1 }
with_verdict Early t = record t { faults = t.faults + 1; early = t.early + 1 }
with_verdict Open t = record t { faults = t.faults + 1; left_open = t.left_open + 1 }

-- at most 2^20 of each
pub record IsTallySmall (t : Tally) : Type 0 where
  pub faults : t.faults ≤ 2 ^ 20
  pub no_path : t.no_path ≤ 2 ^ 20
  pub alarmed : t.alarmed ≤ 2 ^ 20
  pub early : t.early ≤ 2 ^ 20
  pub left_open : t.left_open ≤ 2 ^ 20
