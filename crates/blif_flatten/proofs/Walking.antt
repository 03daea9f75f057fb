-- How the walk goes on, line by line.
use Rattle.std.proofs.Common.{◌≡◌, ℕ, zero, suc, ◌<◌, ◌-◌, List, [], ◌∷◌, ◌++◌, length, map, get_or, take, drop, refl, ap, sym, ◌∙◌, arith}
use Rattle.std.specs.Prelude.{Option, Some, None}
use Rattle.std.specs.List.{slice_get}
use Rattle.std.proofs.Math.Seq.{take-length}
use Rattle.fm_base.specs.Names.{Name}
use Rattle.blif_model.specs.LineFault.{Said}
use Rattle.blif_model.specs.Models.{Model, items_of, model_named, rows_below}
use Rattle.blif_model.specs.Walk.{Act, Scope, Step, enter, steps_from, top, walk}
use Rattle.blif_model.specs.WalkSteps.{next, steps_of}
use Rattle.blif_flatten.specs.declared.walked.Walked.{Walked}
use Rattle.blif_flatten.specs.declared.flat.NumberedAct.{NumberedAct}
use Rattle.blif_flatten.specs.Flat.{steps_by}
use Rattle.blif_flatten.specs.Numbering.{AreNumbered, IsKept, own_step}
use Rattle.blif_flatten.specs.Thinned.{with_steps}
use Rattle.blif_flatten.specs.Walked.{IsWalkedOn, walked_steps}
use Rattle.blif_flatten.proofs.Numbering.{all_are, names_longer, steps_both, steps_with}

-- by no steps
pub walked_none : (a : Walked) (xs : List Step) → xs ≡ [] → IsWalkedOn a xs (Some a)
unfolding with_steps
walked_none a xs e = (refl, rw e refl)

-- by steps, and by steps behind them
pub walked_then : (a b : Walked) (xs ys : List Step) (o : Option Walked) → IsWalkedOn a xs (Some b) → IsWalkedOn b ys o
    → IsWalkedOn a (xs ++ ys) o
walked_then a b xs ys None one two = rw (steps_with (walked_steps a) xs ys, ← one.1, ← one.0) two
walked_then a b xs ys (Some c) one two = (two.0 ∙ one.0, rw (steps_with (walked_steps a) xs ys, ← one.1) two.1)

-- a name too many stays one
pub walked_past : (a : Walked) (xs ys : List Step) → IsWalkedOn a xs None → IsWalkedOn a (xs ++ ys) None
walked_past a xs ys past = (past.0, omega (arith, past.1, names_longer (walked_steps a) xs ys))

-- by the step of a line
pub line_walked : (w : Walked) (new : List Name) (line : ℕ) (act : Option NumberedAct) (acts : List Act)
    → IsKept w.names.index new acts act → AreNumbered [] new (w.steps.items ++ own_step line act)
    × (steps_by new (w.steps.items ++ own_step line act) ≡ with_steps (walked_steps w) (map (λ a. record { line = line; act = a }) acts))
line_walked w new line act acts kept =
    let both = steps_both w.numbered (kept.1 line) in
    (both.0, both.1 ∙ sym (kept.0 (walked_steps w) line (sym (all_are w.numbered))))

-- the lines below the first
abbrev pub below : List Said → List Said
below lines = take (length lines - 1) (drop 1 lines)

-- the steps of the first line, and those of the lines below it
pub first_line : (f : Scope → Name → List Step) (scope : Scope) (j : ℕ) (lines : List Said) (line : Said) → 0 < length lines
    → line ≡ get_or lines 0 line → steps_from f scope j (items_of lines)
    ≡ steps_of f scope j (record { line = line.number; says = line.says; rows = rows_below (below lines) })
    ++ steps_from f scope (next j line.says) (items_of (below lines))
unfolding steps_from items_of
first_line f scope j [] line some is = absurd (omega arith)
first_line f scope j (x ∷ xs) line some is =
    let size : suc (length xs) - 1 ≡ length xs = omega arith in
    rw (size, take-length xs, is)

pub no_line : (f : Scope → Name → List Step) (scope : Scope) (j : ℕ) (lines : List Said) → length lines < 1
    → steps_from f scope j (items_of lines) ≡ []
unfolding steps_from items_of
no_line f scope j [] few = refl
no_line f scope j (line ∷ lines) few = absurd (omega arith)

pub enter_none : (models : List Model) (depth : ℕ) (scope : Scope) (name : Name) → model_named models name ≡ None
    → enter models depth scope name ≡ []
unfolding enter
enter_none models zero scope name e = refl
enter_none models (suc depth) scope name e = rw e

pub enter_some : (models : List Model) (depth less : ℕ) (scope : Scope) (name : Name) (m : Model) → depth ≡ suc less
    → model_named models name ≡ Some m → enter models depth scope name ≡ steps_from (enter models less) scope 0 m.items
unfolding enter
enter_some models depth less scope name m d e = rw (d, e)

-- the walk begins in the first model
pub walk_none : (models : List Model) → slice_get models 0 ≡ None → walk models ≡ []
unfolding walk steps_from
walk_none [] e = refl
walk_none (m ∷ models) e = cc

pub walk_some : (models : List Model) (m : Model) → slice_get models 0 ≡ Some m → walk models ≡ steps_from (enter models 32) top 0 m.items
unfolding walk
walk_some [] m e = cc
walk_some (n ∷ models) m e =
    let same : n ≡ m = cc in
    ap (λ (k : Model). steps_from (enter (n ∷ models) 32) top 0 k.items) same
