-- The record of the calls of a shelf, file by file.
use Rattle.std.proofs.Common.{◌≡◌, ◌≢◌, ℕ, ◌+◌, ◌<◌, ◌≤◌, ◌==◌, Bool, true, false, List, [], ◌∷◌, ◌++◌, length, take, refl, ap, sym, subst, ◌∙◌, inl, arith, append-nil, append_assoc}
use Rattle.std.specs.Prelude.{if◌then◌else◌, Result, Ok, Err, OnErr}
use Rattle.std.specs.Str.{bytes_eq}
use Rattle.std.proofs.lemmas.Slice.Eq.{bytes_eq-Decides}
use mathlib.Core.List.{IsPrefix}
use Rattle.fm_shelf.specs.Content.{Content, Unknown}
use Rattle.fm_shelf.specs.Past.{Given, Gave, Ended, Change, Took, Tore, Cut, MayCut, cut_by, gave, gave_from, given_by, taken_by}
use Rattle.fm_shelf.specs.Event.{Event, Read, Unread, Changed, given_of, changed_of, asked_of, failed_in, unread_of, unwritten_of}
use Rattle.fm_shelf.specs.Shelf.{Counts, MayAppend, MayBecome, OnlyReads, OnlyWrites}
use Rattle.fm_shelf.specs.Entries.{told, told_by_calls}
use Rattle.fm_shelf.specs.Noted.{read_by}

-- ---- prefixes

pub prefix_same : {X : Type 0} (xs : List X) → IsPrefix xs xs
prefix_same xs = ([], append-nil xs)

pub prefix_is : {X : Type 0} (xs ys : List X) → ys ≡ xs → IsPrefix xs ys
prefix_is xs ys same = ([], append-nil xs ∙ sym same)

pub prefix_then : {X : Type 0} (xs ys zs : List X) → IsPrefix xs ys → IsPrefix ys zs → IsPrefix xs zs
prefix_then xs ys zs p q = (p.0 ++ q.0, sym (append_assoc xs p.0 q.0) ∙ ap (λ front. front ++ q.0) p.1 ∙ q.1)

grown : {X : Type 0} (b : Bool) (xs more : List X) → IsPrefix xs (if b then xs ++ more else xs)
grown true xs more = (more, refl)
grown false xs more = prefix_same xs

-- ---- one more event

here : {X : Type 0} (name : List ℕ) (x y : X) → (if bytes_eq name name then x else y) ≡ x
here name x y = ap (λ b. if b then x else y) ((bytes_eq-Decides name name).1 refl)

elsewhere : {X : Type 0} (own name : List ℕ) (x y : X) → name ≢ own → (if bytes_eq own name then x else y) ≡ y
elsewhere own name x y differ = by_test (bytes_eq own name) refl
  where
    by_test : (b : Bool) → bytes_eq own name ≡ b → (if b then x else y) ≡ y
    by_test true e = absurd (differ (sym ((bytes_eq-Decides own name).0 e)))
    by_test false e = refl

pub given_here : (events : List Event) (name : List ℕ) (given : List Given) → given_of (Read name given ∷ events) name ≡ given_of events name ++ given
given_here events name given = here name (given_of events name ++ given) (given_of events name)

pub changed_here : (events : List Event) (name : List ℕ) (changed : List Change) → changed_of (Changed name changed ∷ events) name ≡ changed_of events name ++ changed
changed_here events name changed = here name (changed_of events name ++ changed) (changed_of events name)

-- the file of this name, and no other, was changed so, once more
pub record NotesChange (before after : List Event) (name : List ℕ) : Type 0 where
  pub changes : (other : List ℕ) → other ≢ name → changed_of after other ≡ changed_of before other
  pub given : given_of after ≡ given_of before
  pub asked : asked_of after ≡ asked_of before

pub notes_change : (events after : List Event) (name : List ℕ) (changed : List Change) → after ≡ Changed name changed ∷ events → NotesChange events after name
notes_change events after name changed is =
    subst (λ es. NotesChange events es name) (sym is)
    (record { changes = λ other ne. elsewhere name other (changed_of events other ++ changed) (changed_of events other) ne; given = refl; asked = refl })

pub adds_change : (events after : List Event) (name : List ℕ) (changed : List Change) → after ≡ Changed name changed ∷ events
    → changed_of after name ≡ changed_of events name ++ changed
adds_change events after name changed is = ap (λ es. changed_of es name) is ∙ changed_here events name changed

-- what a read gave was noted
pub adds_given : (events after : List Event) (name : List ℕ) (given : List Given) → after ≡ Read name given ∷ events
    → given_of after name ≡ given_of events name ++ given
adds_given events after name given is = ap (λ es. given_of es name) is ∙ given_here events name given

-- ---- a whole call

-- a read was noted
pub noted_read : (content : List ℕ → Content) (reads now writes : List ℕ → ℕ) (events after : List Event) (name : List ℕ) (given : List Given)
    → after ≡ Read name given ∷ events → Counts content name reads now → OnlyReads (told content reads writes events) (told content now writes after) name
noted_read content reads now writes events after name given is counts =
    subst (λ es. OnlyReads (told content reads writes events) (told content now writes es) name) (sym is)
    (record {
      content = refl;
      counts = counts;
      writes = λ other. refl;
      more = λ other. grown (bytes_eq name other) (given_of events other) given;
      gives = λ other ne. elsewhere name other (given_of events other ++ given) (given_of events other) ne;
      changed = refl;
      asks = λ other ne. elsewhere name other (asked_of events other + 1) (asked_of events other) ne;
    })

-- a read failed
pub failed_read : (content : List ℕ → Content) (reads now writes : List ℕ → ℕ) (events after : List Event) (name : List ℕ)
    → after ≡ Unread name ∷ events → Counts content name reads now → OnlyReads (told content reads writes events) (told content now writes after) name
failed_read content reads now writes events after name is counts =
    subst (λ es. OnlyReads (told content reads writes events) (told content now writes es) name) (sym is)
    (record {
      content = refl;
      counts = counts;
      writes = λ other. refl;
      more = λ other. prefix_same (given_of events other);
      gives = λ other ne. refl;
      changed = refl;
      asks = λ other ne. elsewhere name other (asked_of events other + 1) (asked_of events other) ne;
    })

-- a read was noted, whether it failed or not
pub noted_ask : {E : Type 0} (content : List ℕ → Content) (reads now writes : List ℕ → ℕ) (events after : List Event) (name : List ℕ) (at : ℕ) (piece : List ℕ)
    (answer : Result ℕ E) → after ≡ read_by name at piece answer ∷ events → Counts content name reads now
    → OnlyReads (told content reads writes events) (told content now writes after) name
noted_ask content reads now writes events after name at piece (Ok n) is counts =
    noted_read content reads now writes events after name (gave at (length piece) (take n piece)) is counts
noted_ask content reads now writes events after name at piece (Err failed) is counts = failed_read content reads now writes events after name is counts

pub asked_once : {E : Type 0} (events after : List Event) (name : List ℕ) (at : ℕ) (piece : List ℕ) (answer : Result ℕ E)
    → after ≡ read_by name at piece answer ∷ events → asked_of after name ≡ asked_of events name + 1
asked_once events after name at piece (Ok n) is = ap (λ es. asked_of es name) is ∙ here name (asked_of events name + 1) (asked_of events name)
asked_once events after name at piece (Err failed) is = ap (λ es. asked_of es name) is ∙ here name (asked_of events name + 1) (asked_of events name)

pub given_once : {E : Type 0} (events after : List Event) (name : List ℕ) (at : ℕ) (piece : List ℕ) (answer : Result ℕ E)
    → after ≡ read_by name at piece answer ∷ events → given_of after name ≡ given_of events name ++ given_by at piece answer
given_once events after name at piece (Ok n) is = adds_given events after name (gave at (length piece) (take n piece)) is
given_once events after name at piece (Err failed) is = ap (λ es. given_of es name) is ∙ sym (append-nil (given_of events name))

-- a change was noted, and nothing is known of it
pub noted_write : (content : List ℕ → Content) (reads writes now : List ℕ → ℕ) (events after : List Event) (name : List ℕ) (changed : List Change)
    → after ≡ Changed name changed ∷ events → Counts content name writes now
    → OnlyWrites (told content reads writes events) (told content reads now after) name
noted_write content reads writes now events after name changed is counts =
    let noted = notes_change events after name changed is in
    record {
      others = λ other ne. refl;
      unknown = λ none. none;
      counts = counts;
      reads = λ other. refl;
      changes = noted.changes;
      given = noted.given;
      asked = noted.asked;
    }

-- ---- files of the system, whose faults are those that were noted

grows_if : (b : Bool) (n : ℕ) → n ≤ (if b then n + 1 else n)
grows_if true n = omega arith
grows_if false n = omega arith

unread_counts : (events : List Event) (name : List ℕ) → Counts (λ _. Unknown) name (unread_of events) (unread_of (Unread name ∷ events))
unread_counts events name = record {
  grows = λ other. grows_if (bytes_eq name other) (unread_of events other);
  others = λ other ne there. absurd there;
}

unread_same : (events : List Event) (name : List ℕ) → Counts (λ _. Unknown) name (unread_of events) (unread_of events)
unread_same events name = record { grows = λ other. omega arith; others = λ other ne there. absurd there }

pub call_read : {E : Type 0} (events after : List Event) (name : List ℕ) (at : ℕ) (piece : List ℕ) (answer : Result ℕ E)
    → after ≡ read_by name at piece answer ∷ events → OnlyReads (told_by_calls events) (told_by_calls after) name
call_read events after name at piece (Ok n) is =
    subst (λ es. OnlyReads (told_by_calls events) (told_by_calls es) name) (sym is)
    (noted_read (λ _. Unknown) (unread_of events) (unread_of events) (unwritten_of events) events (Read name (gave at (length piece) (take n piece)) ∷ events) name (gave at (length piece) (take n piece))
    refl (unread_same events name))
call_read events after name at piece (Err failed) is =
    subst (λ es. OnlyReads (told_by_calls events) (told_by_calls es) name) (sym is)
    (failed_read (λ _. Unknown) (unread_of events) (unread_of (Unread name ∷ events)) (unwritten_of events) events (Unread name ∷ events) name refl
    (unread_counts events name))

pub call_unread : {E : Type 0} (events after : List Event) (name : List ℕ) (at : ℕ) (piece : List ℕ) (failed : E)
    → after ≡ read_by name at piece (Err failed) ∷ events → unread_of events name < unread_of after name
call_unread events after name at piece failed is =
    let one : unread_of after name ≡ unread_of events name + 1 = ap (λ es. unread_of es name) is ∙ here name (unread_of events name + 1) (unread_of events name) in
    omega (arith, one)

failed_more : (changed more : List Change) → failed_in (changed ++ more) ≡ failed_in changed + failed_in more
failed_more [] more = omega arith
failed_more (Took byte ∷ changed) more = failed_more changed more
failed_more (Tore bytes ∷ changed) more = let rest = failed_more changed more in omega (arith, rest)
failed_more (Cut given len ∷ changed) more = failed_more changed more
failed_more (MayCut given len ∷ changed) more = let rest = failed_more changed more in omega (arith, rest)

-- a change of a file was noted
pub call_change : (events after : List Event) (name : List ℕ) (changed : List Change) → after ≡ Changed name changed ∷ events
    → OnlyWrites (told_by_calls events) (told_by_calls after) name
call_change events after name changed is =
    subst (λ es. OnlyWrites (told_by_calls events) (told_by_calls es) name) (sym is)
    (noted_write (λ _. Unknown) (unread_of events) (unwritten_of events) (unwritten_of (Changed name changed ∷ events)) events (Changed name changed ∷ events) name changed refl
    (record { grows = λ other. grown_failures (bytes_eq name other) (changed_of events other); others = λ other ne there. absurd there }))
  where
    grown_failures : (b : Bool) (old : List Change) → failed_in old ≤ failed_in (if b then old ++ changed else old)
    grown_failures true old = let sum = failed_more old changed in omega (arith, sum)
    grown_failures false old = omega arith

pub call_failed : (events after : List Event) (name : List ℕ) (changed : List Change) → after ≡ Changed name changed ∷ events → 0 < failed_in changed
    → unwritten_of events name < unwritten_of after name
call_failed events after name changed is some =
    let now : unwritten_of after name ≡ failed_in (changed_of events name ++ changed) = ap failed_in (adds_change events after name changed is) in
    let sum = failed_more (changed_of events name) changed in
    omega (arith, now, sum, some)

-- a change of it that failed was counted
pub append_failed : {E : Type 0} (events after : List Event) (name piece : List ℕ) (answer : Result ℕ E)
    → after ≡ Changed name (taken_by piece answer) ∷ events → OnErr answer (MayAppend (told_by_calls events) (told_by_calls after) name piece)
append_failed events after name piece (Ok n) is = tt
append_failed events after name piece (Err failed) is = (λ under. call_failed events after name (Tore piece ∷ []) is (omega arith), tt)

pub cut_failed : {E : Type 0} (events after : List Event) (name : List ℕ) (len : ℕ) (answer : Result (Unit {0}) E)
    → after ≡ Changed name (cut_by (given_of events name) len answer) ∷ events
    → OnErr answer (MayBecome (told_by_calls events) (told_by_calls after) name (take len))
cut_failed events after name len (Ok done) is = tt
cut_failed events after name len (Err failed) is =
    (λ under. call_failed events after name (MayCut (given_of events name) len ∷ []) is (omega arith), inl refl)

-- ---- bytes, one after the other

pub gave_on : (at : ℕ) (front more : List ℕ) → gave_from at (front ++ more) ≡ gave_from at front ++ gave_from (at + length front) more
gave_on at [] more = ap (λ n. gave_from n more) (omega arith)
gave_on at (byte ∷ front) more =
    ap (λ given. Gave at byte ∷ given)
    (gave_on (at + 1) front more ∙ ap (λ n. gave_from (at + 1) front ++ gave_from n more) (omega arith))

-- a read that gave something
pub gave_some : (at asked : ℕ) (bytes : List ℕ) → 0 < length bytes → gave at asked bytes ≡ gave_from at bytes
gave_some at asked [] some = absurd (omega arith)
gave_some at asked (byte ∷ bytes) some = refl

-- a read that asked for something and gave nothing
pub gave_none : (at asked : ℕ) (bytes : List ℕ) → bytes ≡ [] → 0 < asked → gave at asked bytes ≡ Ended at ∷ []
gave_none at asked bytes none some = ap (gave at asked) none ∙ by_test (asked == 0) refl
  where
    by_test : (b : Bool) → (asked == 0) ≡ b → (if b then [] else Ended at ∷ []) ≡ Ended at ∷ []
    by_test true e = absurd (grind arith)
    by_test false e = refl
