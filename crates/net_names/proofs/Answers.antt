-- What readers answer: a fault where one is found, and one answer to equal questions.
use Rattle.std.proofs.Common.{◌≡◌, Bool, true, false, cond, refl, sym, subst}
use Rattle.std.specs.Prelude.{Option, Some, None, Result, Ok}
use Rattle.std.specs.Option.{option_or}
use Rattle.fm_base.specs.Answers.{Gives}
use Rattle.fm_base.specs.declared.refusal.Refusal.{Refusal}
use Rattle.fm_base.proofs.Options.{none_both}

-- a fault that isn't given has no cause
pub not_given : {X : Type 0} (b : Bool) (fault : X) → cond b (Some fault) None ≡ None → b ≡ false
not_given true fault e = cc
not_given false fault e = refl

pub none_given : {X : Type 0} (b : Bool) (fault : X) (more : Option X)
    → option_or (cond b (Some fault) None) more ≡ None → (b ≡ false) × (more ≡ None)
none_given b fault more e = let parts = none_both (cond b (Some fault) None) more e in (not_given b fault parts.0, parts.1)

-- a question has one answer
pub same_answer : {X F : Type 0} (a b : X) (r : Result X F) → r ≡ Ok a → r ≡ Ok b → a ≡ b
same_answer a b r e f = cc

-- the answer to an equal question
pub gives_same : {X F : Type 0} (a b : Result X F) (r : Result X (Refusal F)) → a ≡ b → Gives b r → Gives a r
gives_same {X} {F} a b r e gives = subst (λ (x : Result X F). Gives x r) (sym e) gives
