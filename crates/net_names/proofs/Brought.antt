-- What lines bring, from what each of them does: tables and latches, beside the nets that they drive.
use Rattle.std.proofs.Common.{◌≡◌, List, [], ◌∷◌, refl, length, arith}
use Rattle.std.specs.Prelude.{Option, filter_map, flat_map, map}
use Rattle.std.specs.List.{AllByRecursion, cons_option}
use Rattle.std.proofs.lemmas.Grind.{common_steps}

-- where each line brings as many as it names, all lines do
pub as-many : {S X Y : Type 0} (f : S → Option X) (g : S → List Y) → ((s : S) → length (cons_option (f s) []) ≡ length (g s))
    → (lines : List S) → length (filter_map f lines) ≡ length (flat_map g lines)
as-many f g each [] = refl
as-many f g each (s ∷ lines) = grind (arith, common_steps, each s, as-many f g each lines)

-- and in their order
pub in-order : {S X Y Z : Type 0} (h : X → Z) (k : Y → Z) (f : S → Option X) (g : S → List Y)
    → ((s : S) → map h (cons_option (f s) []) ≡ map k (g s)) → (lines : List S) → map h (filter_map f lines) ≡ map k (flat_map g lines)
in-order h k f g each [] = refl
in-order h k f g each (s ∷ lines) = grind (arith, common_steps, each s, in-order h k f g each lines)

-- what holds of all that each line brings holds of all that lines bring
pub all-brought : {S X : Type 0} (P : X → Type 0) (Q R : S → Type 0) (f : S → Option X)
    → ((s : S) → Q s → R s → AllByRecursion P (cons_option (f s) [])) → (lines : List S)
    → AllByRecursion Q lines → AllByRecursion R lines → AllByRecursion P (filter_map f lines)
all-brought P Q R f each [] q r = tt
all-brought P Q R f each (s ∷ lines) q r =
    let here = each s q.0 r.0 in
    let more = all-brought P Q R f each lines q.1 r.1 in
    grind (arith)
