-- Words in letters of either case.
use Rattle.std.proofs.Common.{◌≡◌, ◌≢◌, ℕ, ◌<◌, true, false, List, ap, sym, ◌∙◌, length, get_or, map, arith}
use Rattle.std.specs.Char.{to_ascii_uppercase}
use Rattle.std.proofs.lemmas.List.{length-map}
use Rattle.std.proofs.lemmas.Grind.{same_number_lists}
use Rattle.std.proofs.lemmas.Option.{slice_get-map, slice_get-get_or, get_or_from_slice_get}
use Rattle.std.specs.Option.{option_map}
use Rattle.std.proofs.lemmas.Slice.Eq.{bytes_eq-Decides}
use Rattle.fm_base.proofs.Tests.{false_of}
use Rattle.bench_reader.specs.Gates.{is_word}

capital_at : (name : List ℕ) (i : ℕ) → i < length name → get_or (map to_ascii_uppercase name) i 0 ≡ to_ascii_uppercase (get_or name i 0)
capital_at name i h =
    get_or_from_slice_get (map to_ascii_uppercase name) i (to_ascii_uppercase (get_or name i 0)) 0
    (slice_get-map to_ascii_uppercase name i ∙ ap (option_map to_ascii_uppercase) (slice_get-get_or name i 0 h))

pub other_length : (capitals name : List ℕ) → length name ≢ length capitals → false ≡ is_word capitals name
other_length capitals name ne =
    sym (false_of (is_word capitals name) (λ e. ne (sym (length-map name to_ascii_uppercase) ∙ ap length ((bytes_eq-Decides (map to_ascii_uppercase name) capitals).0 e))))

pub other_letter : (capitals name : List ℕ) (i : ℕ) → i < length name → to_ascii_uppercase (get_or name i 0) ≢ get_or capitals i 0 → false ≡ is_word capitals name
other_letter capitals name i h ne =
    sym (false_of (is_word capitals name)
    (λ e. ne (sym (capital_at name i h) ∙ ap (λ (letters : List ℕ). get_or letters i 0) ((bytes_eq-Decides (map to_ascii_uppercase name) capitals).0 e))))

pub same_letters : (capitals name : List ℕ) → length name ≡ length capitals → ((k : ℕ) → k < length capitals → to_ascii_uppercase (get_or name k 0) ≡ get_or capitals k 0)
    → true ≡ is_word capitals name
same_letters capitals name size each =
    sym ((bytes_eq-Decides (map to_ascii_uppercase name) capitals).1 (same_number_lists (map to_ascii_uppercase name) capitals (length-map name to_ascii_uppercase ∙ size)
    (λ k h. let at : k < length name = omega (arith, length-map name to_ascii_uppercase) in capital_at name k at ∙ each k (omega arith))))
