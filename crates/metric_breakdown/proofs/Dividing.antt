-- The numbers below a bound, dealt out among workers turn by turn.
use Rattle.std.proofs.Common.{◌≡◌, ℕ, zero, suc, ◌+◌, ◌*◌, ◌/◌, ◌<◌, ◌≤◌, min, ap, sym, ◌∙◌, arith}
use Rattle.std.specs.Int.{div_ceil}
use Rattle.std.proofs.Math.Nat.{add-mul, mul_assoc}
use Rattle.std.proofs.lemmas.Grind.{div_ceil_times}
use Rattle.fm_base.proofs.SumsBelow.{sum_up, sum_up-zero, sum_up-push, sum_up-split, sum_up-mono, sum_up-plus, sum_up-nothing}
use Rattle.campaign_plan.proofs.Small.{cut, cut_is}

-- what a worker gets
abbrev pub dealt : (ℕ → ℕ) → (workers number turns : ℕ) → ℕ
dealt f workers number turns = sum_up (λ turn. f (turn * workers + number)) turns

one_turn : (turns workers : ℕ) → suc turns * workers ≡ turns * workers + workers
one_turn turns workers =
    let next : suc turns ≡ turns + 1 = omega arith in
    let more : (turns + 1) * workers ≡ turns * workers + 1 * workers = add-mul turns 1 workers in
    ap (λ n. n * workers) next ∙ more ∙ omega arith

-- all workers together get all numbers
pub dealt_all : (f : ℕ → ℕ) (workers turns : ℕ) → sum_up (λ number. dealt f workers number turns) workers ≡ sum_up f (turns * workers)
dealt_all f workers zero =
    let none : 0 * workers ≡ 0 = omega arith in
    sum_up-nothing workers (λ number. dealt f workers number 0) (λ number. sum_up-zero (λ turn. f (turn * workers + number)))
    ∙ sym (ap (sum_up f) none ∙ sum_up-zero f)
dealt_all f workers (suc turns) =
    let pushed : sum_up (λ number. dealt f workers number (suc turns)) workers ≡ sum_up (λ number. dealt f workers number turns + f (turns * workers + number)) workers =
    λ j. sum_up (λ number. sum_up-push turns (λ turn. f (turn * workers + number)) j) workers in
    let here : sum_up f (suc turns * workers) ≡ sum_up f (turns * workers + workers) = ap (sum_up f) (one_turn turns workers) in
    omega (
      arith,
      pushed,
      sum_up-plus workers (λ number. dealt f workers number turns) (λ number. f (turns * workers + number)),
      dealt_all f workers turns,
      here,
      sum_up-split (turns * workers) workers f,
    )

-- one value is at most all of them
one_of_all : (g : ℕ → ℕ) (k n : ℕ) → k < n → g k ≤ sum_up g n
one_of_all g k n lt =
    let within : suc k ≤ n = omega (arith, lt) in
    omega (arith, sum_up-push k g, sum_up-mono (suc k) n g within)

module _ (f : ℕ → ℕ) (n workers turns : ℕ) where
  all_within : sum_up (λ number. dealt (cut f n) workers number turns) workers ≤ sum_up f n
  all_within =
      let within : min (turns * workers) n ≤ n = omega arith in
      omega (arith, dealt_all (cut f n) workers turns, cut_is f n (turns * workers), sum_up-mono (min (turns * workers) n) n f within)

  -- where numbers from a bound on count nothing, a worker gets at most what all numbers below the bound have
  pub dealt_within : (number : ℕ) → number < workers → dealt (cut f n) workers number turns ≤ sum_up f n
  dealt_within number lt = omega (arith, one_of_all (λ k. dealt (cut f n) workers k turns) number workers lt, all_within)

  -- so do the first workers together
  pub crew_within : (first : ℕ) → first ≤ workers → sum_up (λ number. dealt (cut f n) workers number turns) first ≤ sum_up f n
  crew_within first le = omega (arith, sum_up-mono first workers (λ number. dealt (cut f n) workers number turns) le, all_within)

  -- and with turns enough all workers together get all of it
  pub crew_whole : n ≤ turns * workers → sum_up (λ number. dealt (cut f n) workers number turns) workers ≡ sum_up f n
  crew_whole le =
      let whole : min (turns * workers) n ≡ n = omega (arith, le) in
      dealt_all (cut f n) workers turns ∙ cut_is f n (turns * workers) ∙ ap (sum_up f) whole

-- the turns are enough for all batches
pub turns_enough : (faults workers : ℕ) → 0 < workers → (faults + 63) / 64 ≤ 4 * div_ceil faults (256 * workers) * workers
turns_enough faults workers some =
    let d : ℕ = div_ceil faults (256 * workers) in
    let stride : 0 < 256 * workers = omega (arith, some) in
    let most : faults ≤ d * (256 * workers) = (div_ceil_times faults (256 * workers) stride).0 in
    let left : d * 256 * workers ≡ d * (256 * workers) = mul_assoc d 256 workers in
    let swap : d * 256 ≡ 256 * d = omega arith in
    let right : 256 * d * workers ≡ 256 * (d * workers) = mul_assoc 256 d workers in
    let same : d * 256 * workers ≡ 256 * d * workers = ap (λ m. m * workers) swap in
    let four : 4 * d * workers ≡ 4 * (d * workers) = mul_assoc 4 d workers in
    omega (arith, most, left, same, right, four)
