-- A net by its key in a set of names.
use Rattle.std.proofs.Common.{◌≡◌, ℕ, ◌+◌, ◌≤◌, Bool, true, false, not, List, [], ◌∷◌, ◌++◌, refl, ap, sym, ◌∙◌, length, map, Bor, arith}
use Rattle.std.specs.Prelude.{bytes_eq}
use Rattle.std.specs.List.{list_any, position_or_len}
use Rattle.std.proofs.lemmas.List.{length-append}
use Rattle.fm_base.specs.Names.{Name, is_one_of}
use Rattle.fm_base.specs.Index.{with_name}
use Rattle.fm_base.proofs.NameFacts.{keys_insert}
use Rattle.indexmap.specs.IndexSet.{insert_key}
use Rattle.net_names.proofs.Times.{place, place-of-key, place_none}
use Rattle.bench_reader.specs.declared.nets.Mark.{Mark}
use Rattle.bench_reader.specs.Marks.{NetMarks, newly_named, mention}
use Rattle.bench_reader.proofs.Marked.{place_new}
use Rattle.fm_base.proofs.Finding.{list_any-map}

abbrev pub Key : Type 0
Key = Bor (List ℕ)

abbrev pub text_of : Key → Name
text_of key = key.now

abbrev pub texts_of : List Key → List Name
texts_of keys = map text_of keys

abbrev pub same_key : Key → Key → Bool
same_key a b = bytes_eq a.now b.now

abbrev pub seen : List Name → List Mark → NetMarks
seen names marks = record { names = names; marks = marks }

-- a set of names, and whether one is new
pub mention_known_key : (keys : List Key) (key : Key) (marks : List Mark) (line : ℕ) → false ≡ not (list_any (same_key key) keys)
    → seen (texts_of (insert_key same_key keys key)) marks ≡ mention line (seen (texts_of keys) marks) key.now
mention_known_key keys key marks line e =
    ap (λ (names : List Name). seen names marks) (keys_insert text_of keys key) ∙ by_cases (is_one_of (texts_of keys) key.now) refl (e ∙ ap not (sym (list_any-map (bytes_eq key.now) text_of keys)))
  where
    by_cases : (b : Bool) → is_one_of (texts_of keys) key.now ≡ b → false ≡ not (is_one_of (texts_of keys) key.now)
        → seen (with_name (texts_of keys) key.now) marks ≡ mention line (seen (texts_of keys) marks) key.now
    by_cases true f g = rw f refl
    by_cases false f g = absurd (clash g f)
      where
        clash : false ≡ not (is_one_of (texts_of keys) key.now) → is_one_of (texts_of keys) key.now ≡ false → ⊥
        clash g f = cc

pub mention_new_key : (keys : List Key) (key : Key) (marks : List Mark) (line : ℕ) → true ≡ not (list_any (same_key key) keys)
    → seen (texts_of (insert_key same_key keys key)) (marks ++ newly_named line ∷ []) ≡ mention line (seen (texts_of keys) marks) key.now
mention_new_key keys key marks line e =
    ap (λ (names : List Name). seen names (marks ++ newly_named line ∷ [])) (keys_insert text_of keys key)
    ∙ by_cases (is_one_of (texts_of keys) key.now) refl (e ∙ ap not (sym (list_any-map (bytes_eq key.now) text_of keys)))
  where
    by_cases : (b : Bool) → is_one_of (texts_of keys) key.now ≡ b → true ≡ not (is_one_of (texts_of keys) key.now)
        → seen (with_name (texts_of keys) key.now) (marks ++ newly_named line ∷ []) ≡ mention line (seen (texts_of keys) marks) key.now
    by_cases false f g = rw f refl
    by_cases true f g = absurd (clash g f)
      where
        clash : true ≡ not (is_one_of (texts_of keys) key.now) → is_one_of (texts_of keys) key.now ≡ true → ⊥
        clash g f = cc

-- ---- the number of a net

names_after : (line : ℕ) (t : NetMarks) (name : Name) → place t.names name ≡ place (mention line t name).names name
names_after line t name = by_cases (is_one_of t.names name) refl
  where
    by_cases : (b : Bool) → is_one_of t.names name ≡ b → place t.names name ≡ place (mention line t name).names name
    by_cases true e = rw e refl
    by_cases false e = rw e (place_none t.names name e ∙ sym (place_new t.names name e))

pub place_mentioned : (keys : List Key) (name : Name) (line : ℕ) (t now : NetMarks) (k : ℕ) → k ≡ position_or_len (λ (key : Key). bytes_eq name key.now) keys
    → texts_of keys ≡ t.names → now ≡ mention line t name → k ≡ place now.names name
place_mentioned keys name line t now k e texts is =
    e ∙ place-of-key text_of keys name ∙ ap (λ (names : List Name). place names name) texts ∙ names_after line t name ∙ ap (λ (nets : NetMarks). place nets.names name) (sym is)

-- one more net at most
pub one_more_net : (line : ℕ) (t : NetMarks) (name : Name) → length (mention line t name).names ≤ length t.names + 1
one_more_net line t name = by_cases (is_one_of t.names name) refl
  where
    by_cases : (b : Bool) → is_one_of t.names name ≡ b → length (mention line t name).names ≤ length t.names + 1
    by_cases true e = rw e (omega arith)
    by_cases false e = rw e (let size = length-append t.names (name ∷ []) in omega arith)
