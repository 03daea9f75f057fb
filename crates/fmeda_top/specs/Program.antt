-- WHAT IS PROMISED OF THE PROGRAM: of what went out behind the page in which it collects its output, and of its exit status.
use Rattle.std.specs.Prelude.{◌≡◌, ◌⊎◌, ℕ, List, Option}
use Rattle.fm_base.specs.Names.{Bytes}
use Rattle.fm_shelf.specs.Shelf.{CountRose}
use Rattle.fm_shelf.specs.Sink.{SinkState, Wrote, with_more}
use Rattle.fm_shelf.specs.Outside.{Outside}
use Rattle.campaign_run.specs.Outside.{had_written}
use Rattle.refusals.specs.declared.status.Status.{Status}
use Rattle.refusals.specs.declared.status.Status.TheVariants as status
use Rattle.refusals.specs.RefusalLines.{code_of}
use Rattle.fmeda_top.specs.Promises.{Promises}

-- the exit status where a write failed: 21 where all else was done, and else that of the call
abbrev pub failed_code : Status → ℕ
failed_code status.Done = code_of status.OutFault
failed_code ended = code_of ended

-- a call that ends so has this exit status: it has kept its promise; or a write has failed, what was sent went out behind what had gone out before,
-- and the call would have kept its promise had a rest gone out too
abbrev pub ExitsWith : (code : ℕ) → (words : List Bytes) → (ended : Status) → (before after : Outside) → Type 0
ExitsWith code words ended before after =
    ((code ≡ code_of ended) × Promises words ended before after)
    ⊎ ((code ≡ failed_code ended) × CountRose before.out.faults after.out.faults
    × ((sent : Bytes) × Wrote before.out after.out sent) × ((rest : Bytes) × Promises words ended before (had_written after after rest)))

-- THE PROGRAM ENDS with this exit status
abbrev pub ProgramEnds : (words : List Bytes) → (code : ℕ) → (before after : Outside) → Type 0
ProgramEnds words code before after = (ended : Status) × ExitsWith code words ended before after

-- ---- private steps, which the promise doesn't cite

-- what was sent later stands behind what was sent earlier
abbrev pub SendsOn : (earlier later : Option Bytes) → Type 0
SendsOn earlier later = (sent : Bytes) × (later ≡ with_more earlier sent)

-- all that was told as written went out, and the exit status is that of the call; or a write has failed since there were so many failures, and
-- a rest didn't go out
abbrev pub SendsRest : (ended : Status) → (code failures : ℕ) → (told : Option Bytes) → (after : SinkState) → Type 0
SendsRest ended code failures told after =
    ((code ≡ code_of ended) × (after.written ≡ told))
    ⊎ ((code ≡ failed_code ended) × CountRose failures after.faults × ((rest : Bytes) × (with_more after.written rest ≡ told)))
