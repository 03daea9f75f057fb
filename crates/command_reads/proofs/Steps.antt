-- A step behind a step: what the first refuses is refused, and where it gives something, the next answers.
use Rattle.std.proofs.Common.{◌≡◌, ◌∙◌, ap, sym, subst, List, inl, inr}
use Rattle.std.specs.Prelude.{Option, None, Result, Ok, Err}
use Rattle.fm_base.specs.Names.{Bytes}
use Rattle.circuit.specs.declared.parts.NetId.{NetId}
use Rattle.refusals.specs.declared.refused.Refused.{Refused}
use Rattle.refusals.specs.declared.refused.Refused.TheVariants.{By}
use Rattle.refusals.specs.declared.status.Status.{Status}
use Rattle.command_reads.specs.Files.{Reads}
use Rattle.command_reads.specs.FirstRefusal.{◌>>=◌}
use Rattle.command_reads.specs.Answers.{AnswersAs, TakesAs}

-- the first of two steps refuses
pub first_refused : {A B : Type 0} (first : Result A Status) (next : A → Result B Status) (ended : Status) → AnswersAs first (Err ended)
    → AnswersAs (first >>= next) (Err ended)
first_refused first next ended (inl memory, plain) = (inl memory, plain)
first_refused first next ended (inr is, plain) = (inr (ap (λ r. r >>= next) is), plain)

-- the first gives something, and the next answers
pub next_answers : {A B : Type 0} (first : Result A Status) (x : A) (next : A → Result B Status) (result : Result B Status) → first ≡ Ok x
    → AnswersAs (next x) result → AnswersAs (first >>= next) result
next_answers first x next result is answer = subst (λ r. AnswersAs (r >>= next) result) (sym is) answer

-- steps from the netlist on, that are one of them and then another
module _ {A B : Type 0} (netlist : Bytes) (reads : Reads) (first : Option (List NetId) → Result A Status) (next : A → Result B Status)
    (both : Option (List NetId) → Result B Status) (are : (walk : Option (List NetId)) → both walk ≡ (first walk >>= next)) where
  -- the first refuses
  pub taken_refused : (refused : Refused) → TakesAs netlist reads first (Err refused) → TakesAs netlist reads both (Err refused)
  taken_refused refused (inl memory, nets) = (inl memory, nets)
  taken_refused refused (inr (walk, loops, is), nets) = (inr (walk, loops, are walk ∙ ap (λ r. r >>= next) is), nets)

  -- the first gives something, and so does the next
  pub taken_next : (x : A) (y : B) → TakesAs netlist reads first (Ok x) → next x ≡ Ok y → TakesAs netlist reads both (Ok y)
  taken_next x y (is, loops) then = (are None ∙ ap (λ r. r >>= next) is ∙ then, loops)

  -- the first gives something, and the next refuses
  pub taken_next_refused : (x : A) (ended : Status) → TakesAs netlist reads first (Ok x) → AnswersAs (next x) (Err ended)
      → TakesAs netlist reads both (Err (By ended))
  taken_next_refused x ended (is, loops) (inl memory, plain) = (inl memory, plain)
  taken_next_refused x ended (is, loops) (inr then, plain) = (inr (None, loops, are None ∙ ap (λ r. r >>= next) is ∙ then), plain)
