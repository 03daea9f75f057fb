-- The lines of a file, one after the other.
use Rattle.std.proofs.Common.{◌≡◌, ℕ, ◌+◌, ◌≤◌, ◌<◌, ◌⊎◌, inl, inr, List, [], ◌∷◌, refl, ap, sym, subst, ◌∙◌, length, take, drop, arith}
use Rattle.std.specs.Prelude.{Option, Some, None, map, Result, Ok, Err}
use Rattle.std.specs.List.{enumerate_from, position_or_len, slice_split}
use Rattle.std.specs.Option.{option_map}
use Rattle.std.proofs.Math.Seq.{take-length}
use Rattle.std.proofs.lemmas.List.Splits.{slice_split_first}
use Rattle.blif_text.specs.Lines.{is_feed}
use Rattle.fm_base.specs.Firsts.{first_where}
use Rattle.fm_base.proofs.OnePass.{first_where-here, first_where-later}
use Rattle.bench_reader.specs.declared.BenchFault.{BenchFault}
use Rattle.bench_reader.specs.LineFault.{Said, at_line, line_fault, said, numbered_lines}
use Rattle.fm_base.specs.Answers.{Gives}
use Rattle.fm_base.specs.declared.refusal.Refusal.{Refusal}
use Rattle.fm_base.specs.declared.refusal.Refusal.TheVariants.{Fault, Memory}
use Rattle.bench_reader.specs.declared.gather.Gathered.{Gathered}
use Rattle.bench_reader.specs.Answer.{LineGives, gathered_of, gathered_unless}
use Rattle.bench_reader.specs.Gather.{add_said, gathered_from, no_lines}
use Rattle.bench_reader.specs.Steps.{fault_of, kind_of}
use Rattle.blif_text.proofs.Cuts.{split_whole}

-- what the lines of a text say, where the first has this number
abbrev pub said_from : ℕ → List ℕ → List Said
said_from number text = map said (enumerate_from number (slice_split is_feed text))

abbrev pub said_at : ℕ → List ℕ → Said
said_at number text = said (number, text)

pub said_all : (bytes : List ℕ) → said_from 1 bytes ≡ numbered_lines bytes
unfolding numbered_lines
said_all bytes = refl

abbrev numbered : ℕ → List (List ℕ) → List Said
numbered number pieces = map said (enumerate_from number pieces)

-- the first line, and those behind it
pub said_cut : (number : ℕ) (text rest : List ℕ) (n : ℕ) → n ≡ position_or_len is_feed text → n < length text → rest ≡ drop (n + 1) text
    → said_from number text ≡ said_at number (take n text) ∷ said_from (number + 1) rest
said_cut number text rest n e h is =
    let cut : slice_split is_feed text ≡ take n text ∷ slice_split is_feed (drop (n + 1) text) = rw e (slice_split_first is_feed text 0 (omega arith)) in
    ap (numbered number) cut ∙ ap (λ (more : List ℕ). said_at number (take n text) ∷ said_from (number + 1) more) (sym is)

-- the last line
pub said_whole : (number : ℕ) (text : List ℕ) (n : ℕ) → n ≡ position_or_len is_feed text → n ≡ length text → said_from number text ≡ said_at number (take n text) ∷ []
said_whole number text n e h =
    let whole : take n text ≡ text = rw h (take-length text) in
    ap (numbered number) (split_whole is_feed text (sym e ∙ h)) ∙ ap (λ (line : List ℕ). said_at number line ∷ []) (sym whole)

no_fault : (line : Said) → kind_of line ≡ None → fault_of line ≡ None
no_fault line e = ap (option_map (at_line line.number)) e

-- a line without a fault is passed
pub fault_later : (line : Said) (lines : List Said) → kind_of line ≡ None → line_fault (line ∷ lines) ≡ line_fault lines
unfolding line_fault
fault_later line lines e = first_where-later fault_of line lines (no_fault line e)

pub fault_here : (line : Said) (lines : List Said) (fault : BenchFault) → fault_of line ≡ Some fault → line_fault (line ∷ lines) ≡ Some fault
unfolding line_fault
fault_here line lines fault e = first_where-here fault_of line lines fault e

pub fault_nowhere : line_fault [] ≡ None
unfolding line_fault first_where
fault_nowhere = refl

-- ---- what is gathered

-- the first line, whatever comes behind it
pub said_first : (number : ℕ) (text : List ℕ) (n : ℕ) → n ≡ position_or_len is_feed text → n ≤ length text → (more : List Said) × (said_from number text ≡ said_at number (take n text) ∷ more)
said_first number text n e h = by_cases (cases_lt n (length text) h)
  where
    cases_lt : (a b : ℕ) → a ≤ b → (a < b) ⊎ (a ≡ b)
    cases_lt a b h = grind arith

    by_cases : (n < length text) ⊎ (n ≡ length text) → (more : List Said) × (said_from number text ≡ said_at number (take n text) ∷ more)
    by_cases (inl lt) = (said_from (number + 1) (drop (n + 1) text), said_cut number text (drop (n + 1) text) n e lt refl)
    by_cases (inr same) = ([], said_whole number text n e same)

-- a line that is refused refuses the file
refused_by : (before now : Gathered) (number : ℕ) (rest bytes : List ℕ) (n : ℕ) (why : Refusal BenchFault) → n ≡ position_or_len is_feed rest → n ≤ length rest
    → line_fault (said_from number rest) ≡ line_fault (numbered_lines bytes) → LineGives before now number (take n rest) (Err why) → Gives (gathered_of bytes) (Err why)
refused_by before now number rest bytes n (Memory no_room) e h told gives = tt
refused_by before now number rest bytes n (Fault fault) e h told gives =
    let first = said_first number rest n e h in
    let found : line_fault (numbered_lines bytes) ≡ Some fault = sym told ∙ ap line_fault first.1 ∙ fault_here (said_at number (take n rest)) first.0 fault gives in
    ap (λ (o : Option BenchFault). gathered_unless o (numbered_lines bytes)) found

pub refused_here : (before now : Gathered) (number : ℕ) (rest bytes : List ℕ) (n : ℕ) (why : Refusal BenchFault) (r : Result Gathered (Refusal BenchFault))
    → n ≡ position_or_len is_feed rest → n ≤ length rest → line_fault (said_from number rest) ≡ line_fault (numbered_lines bytes)
    → LineGives before now number (take n rest) (Err why) → r ≡ Err why → Gives (gathered_of bytes) r
refused_here before now number rest bytes n why r e h told gives is =
    subst (λ (x : Result Gathered (Refusal BenchFault)). Gives (gathered_of bytes) x) (sym is) (refused_by before now number rest bytes n why e h told gives)

abbrev as_ok : Gathered → Result Gathered BenchFault
as_ok g = Ok g

-- the last line
pub gathered_all : (before now : Gathered) (number : ℕ) (rest bytes : List ℕ) (n : ℕ) → n ≡ position_or_len is_feed rest → n ≡ length rest
    → line_fault (said_from number rest) ≡ line_fault (numbered_lines bytes) → gathered_from before (said_from number rest) ≡ gathered_from no_lines (numbered_lines bytes)
    → (kind_of (said_at number (take n rest)) ≡ None) × (now ≡ add_said before (said_at number (take n rest))) → gathered_of bytes ≡ Ok now
gathered_all before now number rest bytes n e h fault told gives =
    let last = said_whole number rest n e h in
    let free : line_fault (numbered_lines bytes) ≡ None = sym fault ∙ ap line_fault last ∙ fault_later (said_at number (take n rest)) [] gives.0 ∙ fault_nowhere in
    let all : gathered_from no_lines (numbered_lines bytes) ≡ now = sym told ∙ ap (gathered_from before) last ∙ sym gives.1 in
    ap (λ (o : Option BenchFault). gathered_unless o (numbered_lines bytes)) free ∙ ap as_ok all

-- one line of several
pub line_passed : (before now : Gathered) (number : ℕ) (rest next bytes : List ℕ) (n : ℕ) → n ≡ position_or_len is_feed rest → n < length rest → next ≡ drop (n + 1) rest
    → line_fault (said_from number rest) ≡ line_fault (numbered_lines bytes) → gathered_from before (said_from number rest) ≡ gathered_from no_lines (numbered_lines bytes)
    → (kind_of (said_at number (take n rest)) ≡ None) × (now ≡ add_said before (said_at number (take n rest)))
    → (line_fault (said_from (number + 1) next) ≡ line_fault (numbered_lines bytes)) × (gathered_from now (said_from (number + 1) next) ≡ gathered_from no_lines (numbered_lines bytes))
line_passed before now number rest next bytes n e h is fault told gives =
    let cut = said_cut number rest next n e h is in (
      sym (ap line_fault cut ∙ fault_later (said_at number (take n rest)) (said_from (number + 1) next) gives.0) ∙ fault,
      ap (λ (g : Gathered). gathered_from g (said_from (number + 1) next)) gives.1 ∙ sym (ap (gathered_from before) cut) ∙ told,
    )
