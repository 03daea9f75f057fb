-- Which worker has done what. This project's own rule: worker w of W does each piece of work whose number leaves w as its remainder.
use Rattle.std.specs.Prelude.{ℕ, ◌<◌, List, All, length, slice_index_or}
use Rattle.batch_crew.specs.declared.rounds.WorkerShare.{WorkerShare}

-- the share of a worker of so many
abbrev pub share_of : (number workers : ℕ) → WorkerShare
share_of number workers = record { number = number; workers = workers }

-- each of some workers has done nothing yet, whatever its number among so many
abbrev pub AreReady : {W : Type 0} → (has_done : WorkerShare → ℕ → W → Type 0) → (workers : ℕ) → List W → Type 0
AreReady has_done workers crew = All (λ worker. (number : ℕ) → has_done (share_of number workers) 0 worker) crew

-- each of some workers has done all rounds of its own share
abbrev pub HaveWorked : {W : Type 0} → (has_done : WorkerShare → ℕ → W → Type 0) → (rounds : ℕ → ℕ) → List W → Type 0
HaveWorked has_done rounds crew =
    (w : ℕ) (d : _) → w < length crew → has_done (share_of w (length crew)) (rounds (length crew)) (slice_index_or crew w d)
