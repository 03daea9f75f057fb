-- What is noted of each name, and what is seen of a shelf then.
use Rattle.std.proofs.Common.{◌≡◌, ◌≢◌, ℕ, zero, suc, ◌+◌, ◌<◌, ◌≤◌, ◌^◌, ◌-◌, Bool, true, false, List, [], ◌∷◌, ◌++◌, map, length, take, drop, get_or, set, refl, ap, sym, subst, ◌∙◌, arith, append_assoc, append-nil}
use Rattle.std.specs.Prelude.{if◌then◌else◌, nat_lt, Result}
use Rattle.std.proofs.lemmas.Bool.Decides.{nat_tests}
use Rattle.std.specs.Str.{bytes_eq}
use Rattle.std.proofs.lemmas.Slice.Eq.{bytes_eq-Decides}
use Rattle.std.proofs.lemmas.List.{take_all, take_more, drop_more, map-append, length-map, length-take-le}
use Rattle.std.proofs.Math.Seq.{set_at, get_or-append_seam}
use Rattle.fm_base.specs.Names.{Bytes}
use Rattle.fm_shelf.specs.Content.{Content, Unknown, Absent, Held, IsThere}
use Rattle.fm_shelf.specs.Past.{Given}
use Rattle.fm_shelf.specs.Event.{Event, Unread}
use Rattle.fm_shelf.specs.Noted.{read_by}
use Rattle.fm_shelf.proofs.Pasts.{NotesChange, failed_read, noted_ask}
use Rattle.fm_shelf.specs.Shelf.{CountRose, MayHaveMore, OnlyReads, OnlyWrites, ShelfState}
use Rattle.stopped_runs.specs.declared.names.Told.{Told}
use Rattle.stopped_runs.specs.declared.names.ToldNames.{ToldNames}
use Rattle.stopped_runs.specs.Stopping.{NotesRead, NotesWrite, content_told, count_told, is_told, one_more, read_noted, stopping_state, write_noted}

-- one more item is mapped in its place
pub set_mapped : {A : Type 0} (f : A → A) (xs ys : List A) (i : ℕ) (x new : A) → i < length ys → xs ≡ map f (take i ys) ++ drop i ys
    → new ≡ f (get_or xs i x) → set xs i new ≡ map f (take (i + 1) ys) ++ drop (i + 1) ys
set_mapped f xs ys i x new lt is e =
    let y = get_or ys i x in
    let front = map f (take i ys) in
    let rest = drop (i + 1) ys in
    let here : xs ≡ front ++ y ∷ rest = is ∙ ap (λ r. front ++ r) (drop_more ys i x lt) in
    let many : length front ≡ i = length-map (take i ys) f ∙ length-take-le i ys (omega arith) in
    let same : get_or xs i x ≡ y = ap (λ zs. get_or zs i x) here ∙ ap (λ n. get_or (front ++ y ∷ rest) n x) (sym many) ∙ get_or-append_seam front y rest x in
    ap (λ zs. set zs i new) here ∙ set_at front y rest new i many
    ∙ ap (λ z. front ++ z ∷ rest) (e ∙ ap f same)
    ∙ sym (append_assoc front (f y ∷ []) rest)
    ∙ ap (λ zs. zs ++ rest) (sym (ap (map f) (take_more ys i x lt) ∙ map-append f (take i ys) (y ∷ [])))

-- two lists that are mapped alike, one item further
pub mapped_more : {A B C : Type 0} (f : A → C) (g : B → C) (xs : List A) (ys : List B) (i : ℕ) (d : A) (e : B) → i < length xs → i < length ys
    → map f (take i xs) ≡ map g (take i ys) → f (get_or xs i d) ≡ g (get_or ys i e) → map f (take (i + 1) xs) ≡ map g (take (i + 1) ys)
mapped_more f g xs ys i d e first second is same =
    ap (map f) (take_more xs i d first) ∙ map-append f (take i xs) (get_or xs i d ∷ [])
    ∙ ap (λ zs. zs ++ f (get_or xs i d) ∷ []) is ∙ ap (λ z. map g (take i ys) ++ z ∷ []) same
    ∙ sym (ap (map g) (take_more ys i e second) ∙ map-append g (take i ys) (get_or ys i e ∷ []))

-- and to their ends
pub mapped_all : {A B C : Type 0} (f : A → C) (g : B → C) (xs : List A) (ys : List B) (n : ℕ) → length xs ≤ n → length ys ≤ n
    → map f (take n xs) ≡ map g (take n ys) → map f xs ≡ map g ys
mapped_all f g xs ys n first second is = sym (ap (map f) (take_all n xs first)) ∙ is ∙ ap (map g) (take_all n ys second)

-- ---- a count that is raised for one name

rises : (count : ℕ) → CountRose count (one_more count)
rises count = by_test (nat_lt count 18446744073709551615) refl
  where
    by_test : (b : Bool) → nat_lt count 18446744073709551615 ≡ b → CountRose count (if b then count + 1 else count)
    by_test true is = λ under. omega arith
    by_test false is = λ under. let over : 18446744073709551615 ≤ count = grind (arith, nat_tests) in absurd (omega arith)

grown : (count : ℕ) → count ≤ one_more count
grown count = by_test (nat_lt count 18446744073709551615)
  where
    by_test : (b : Bool) → count ≤ (if b then count + 1 else count)
    by_test true = omega arith
    by_test false = omega arith

module _ (name : Bytes) (f : Told → Told) (keeps : (told : Told) → (f told).name.items ≡ told.name.items) where
  -- the same names are told
  told_same : (names : List Told) (other : Bytes) → is_told (map f names) other ≡ is_told names other
  told_same [] other = refl
  told_same (told ∷ rest) other =
      ap (λ bytes. if bytes_eq bytes other then true else is_told (map f rest) other) (keeps told)
      ∙ ap (λ b. if bytes_eq told.name.items other then true else b) (told_same rest other)

  -- a count that isn't raised
  counts_same : (count : Told → ℕ) → ((told : Told) → count (f told) ≡ count told) → (others : ℕ) (names : List Told) (other : Bytes)
      → count_told count others (map f names) other ≡ count_told count others names other
  counts_same count same others [] other = refl
  counts_same count same others (told ∷ rest) other =
      ap (λ bytes. if bytes_eq bytes other then count (f told) else count_told count others (map f rest) other) (keeps told)
      ∙ ap (λ n. if bytes_eq told.name.items other then n else count_told count others (map f rest) other) (same told)
      ∙ ap (λ n. if bytes_eq told.name.items other then count told else n) (counts_same count same others rest other)

  module _ (count : Told → ℕ) (hits : (told : Told) → bytes_eq told.name.items name ≡ true → count (f told) ≡ one_more (count told))
      (misses : (told : Told) → bytes_eq told.name.items name ≡ false → count (f told) ≡ count told) where
    counts_rise : (others : ℕ) (names : List Told) → CountRose (count_told count others names name) (count_told count (one_more others) (map f names) name)
    counts_rise others [] = rises others
    counts_rise others (told ∷ rest) = by_test (bytes_eq told.name.items name) refl (counts_rise others rest)
      where
        by_test : (b : Bool) → bytes_eq told.name.items name ≡ b
            → CountRose (count_told count others rest name) (count_told count (one_more others) (map f rest) name)
            → CountRose (count_told count others (told ∷ rest) name) (count_told count (one_more others) (map f (told ∷ rest)) name)
        by_test true is later = rw (ap (λ bytes. bytes_eq bytes name) (keeps told), is, hits told is) (rises (count told))
        by_test false is later = rw (ap (λ bytes. bytes_eq bytes name) (keeps told), is) later

    one_grows : (told : Told) → count told ≤ count (f told)
    one_grows told = by_test (bytes_eq told.name.items name) refl
      where
        by_test : (b : Bool) → bytes_eq told.name.items name ≡ b → count told ≤ count (f told)
        by_test true is = rw (hits told is) (grown (count told))
        by_test false is = rw (misses told is) (omega arith)

    counts_grow : (others : ℕ) (names : List Told) (other : Bytes) → count_told count others names other ≤ count_told count (one_more others) (map f names) other
    counts_grow others [] other = grown others
    counts_grow others (told ∷ rest) other = by_test (bytes_eq told.name.items other) refl (counts_grow others rest other)
      where
        by_test : (b : Bool) → bytes_eq told.name.items other ≡ b
            → count_told count others rest other ≤ count_told count (one_more others) (map f rest) other
            → count_told count others (told ∷ rest) other ≤ count_told count (one_more others) (map f (told ∷ rest)) other
        by_test true is later = rw (ap (λ bytes. bytes_eq bytes other) (keeps told), is) (one_grows told)
        by_test false is later = rw (ap (λ bytes. bytes_eq bytes other) (keeps told), is) later

    -- of a file of another name that is told it stays
    counts_stay : (others more : ℕ) (names : List Told) (other : Bytes) → other ≢ name → is_told names other ≡ true
        → count_told count more (map f names) other ≡ count_told count others names other
    counts_stay others more [] other ne is = absurd (cc)
    counts_stay others more (told ∷ rest) other ne is = by_test (bytes_eq told.name.items other) refl (counts_stay others more rest other ne)
      where
        apart : bytes_eq told.name.items other ≡ true → (b : Bool) → bytes_eq told.name.items name ≡ b → count (f told) ≡ count told
        apart here true equal =
            absurd (ne (sym ((bytes_eq-Decides told.name.items other).0 here) ∙ (bytes_eq-Decides told.name.items name).0 equal))
        apart here false miss = misses told miss

        by_test : (b : Bool) → bytes_eq told.name.items other ≡ b
            → (is_told rest other ≡ true → count_told count more (map f rest) other ≡ count_told count others rest other)
            → count_told count more (map f (told ∷ rest)) other ≡ count_told count others (told ∷ rest) other
        by_test true here later = rw (ap (λ bytes. bytes_eq bytes other) (keeps told), here) (apart here (bytes_eq told.name.items name) refl)
        by_test false here later =
            let too : is_told rest other ≡ true = sym (ap (λ b. if b then true else is_told rest other) here) ∙ is in
            rw (ap (λ bytes. bytes_eq bytes other) (keeps told), here) (later too)

-- ---- what is noted of one name

module _ (name : Bytes) where
  by_name : {A : Type 0} (P : A → Type 0) (b : Bool) (x y : A) → P x → P y → P (if b then x else y)
  by_name P true x y h k = h
  by_name P false x y h k = k

  read_keeps : (told : Told) → (read_noted name told).name.items ≡ told.name.items
  read_keeps told = by_name (λ (it : Told). it.name.items ≡ told.name.items) (bytes_eq told.name.items name) _ told refl refl

  write_keeps : (told : Told) → (write_noted name told).name.items ≡ told.name.items
  write_keeps told = by_name (λ (it : Told). it.name.items ≡ told.name.items) (bytes_eq told.name.items name) _ told refl refl

  read_hits : (told : Told) → bytes_eq told.name.items name ≡ true → (read_noted name told).reads ≡ one_more told.reads
  read_hits told is = rw is refl

  read_misses : (told : Told) → bytes_eq told.name.items name ≡ false → (read_noted name told).reads ≡ told.reads
  read_misses told is = rw is refl

  read_other : (told : Told) → (read_noted name told).writes ≡ told.writes
  read_other told = by_name (λ (it : Told). it.writes ≡ told.writes) (bytes_eq told.name.items name) _ told refl refl

  write_hits : (told : Told) → bytes_eq told.name.items name ≡ true → (write_noted name told).writes ≡ one_more told.writes
  write_hits told is = rw is refl

  write_misses : (told : Told) → bytes_eq told.name.items name ≡ false → (write_noted name told).writes ≡ told.writes
  write_misses told is = rw is refl

  write_other : (told : Told) → (write_noted name told).reads ≡ told.reads
  write_other told = by_name (λ (it : Told). it.reads ≡ told.reads) (bytes_eq told.name.items name) _ told refl refl

-- ---- what is seen of the shelf

-- a file that is there is told
there_told : (content : Bytes → Content) (names : List Told) (name : Bytes) → IsThere (content_told content names name) → is_told names name ≡ true
there_told content names name there = by_test (is_told names name) there
  where
    by_test : (b : Bool) → IsThere (if b then content name else Unknown) → b ≡ true
    by_test true h = refl
    by_test false h = absurd h

abbrev reads_of : ToldNames → Bytes → ℕ
reads_of told name = count_told (λ it. it.reads) told.other_reads told.names.items name

abbrev writes_of : ToldNames → Bytes → ℕ
writes_of told name = count_told (λ it. it.writes) told.other_writes told.names.items name

sum_rises : (a b c d : ℕ) → a ≤ b → CountRose c d → CountRose (a + c) (b + d)
sum_rises a b c d le rose = λ under. let more : c < d = rose (omega arith) in omega arith

-- a file that is told to be there is there
there_inner : (b : Bool) (content : Content) → IsThere (if b then content else Unknown) → IsThere content
there_inner true content there = there
there_inner false content there = absurd there

-- ---- a call that goes to the shelf behind

module _ (inner now : ShelfState) (name : Bytes) (names : ToldNames) (events later : List Event) where
  pub read_passes : {E : Type 0} (at : ℕ) (piece : Bytes) (answer : Result ℕ E) → OnlyReads inner now name → later ≡ read_by name at piece answer ∷ events
      → OnlyReads (stopping_state inner names events) (stopping_state now names later) name
  read_passes at piece answer rest is =
      let own =
      noted_ask inner.content inner.read_faults inner.read_faults inner.write_faults events later name at piece answer is
      (record { grows = λ other. omega arith; others = λ other ne there. refl }) in
      record {
        content = ap (λ (content : Bytes → Content). content_told content names.names.items) rest.content;
        counts = record {
          grows = λ other. let grown = rest.counts.grows other in omega (arith, grown);
          others = λ other ne there.
              ap (λ n. n + reads_of names other) (rest.counts.others other ne (there_inner (is_told names.names.items other) (inner.content other) there));
        };
        writes = λ other. ap (λ n. n + writes_of names other) (rest.writes other);
        more = own.more;
        gives = own.gives;
        changed = own.changed;
        asks = own.asks;
      }

  pub write_passes : OnlyWrites inner now name → NotesChange events later name
      → OnlyWrites (stopping_state inner names events) (stopping_state now names later) name
  write_passes rest noted = record {
    others = λ other ne. ap (λ content. if is_told names.names.items other then content else Unknown) (rest.others other ne);
    unknown = λ none. unknown_passes (is_told names.names.items name) none rest.unknown;
    counts = record {
      grows = λ other. let grown = rest.counts.grows other in omega (arith, grown);
      others = λ other ne there.
          ap (λ n. n + writes_of names other) (rest.counts.others other ne (there_inner (is_told names.names.items other) (inner.content other) there));
    };
    reads = λ other. ap (λ n. n + reads_of names other) (rest.reads other);
    changes = noted.changes;
    given = noted.given;
    asked = noted.asked;
  }
    where
      unknown_passes : (b : Bool) → (if b then inner.content name else Unknown) ≡ Unknown → (inner.content name ≡ Unknown → now.content name ≡ Unknown)
          → (if b then now.content name else Unknown) ≡ Unknown
      unknown_passes true none kept = kept none
      unknown_passes false none kept = refl

-- ---- a call behind the stop

module _ (inner now : ShelfState) (name : Bytes) (before after : ToldNames) (events : List Event) where
  -- a read fails by the stop
  module _ (notes : NotesRead name before after) where
    pub read_rises : CountRose (inner.read_faults name + reads_of before name) (inner.read_faults name + reads_of after name)
    read_rises =
        let own : CountRose (reads_of before name) (reads_of after name) =
        rw (notes.names, notes.reads) (counts_rise name (read_noted name) (read_keeps name) (λ it. it.reads) (read_hits name) (read_misses name) before.other_reads before.names.items) in
        sum_rises (inner.read_faults name) (inner.read_faults name) (reads_of before name) (reads_of after name) (omega arith) own

    read_grows : (other : Bytes) → reads_of before other ≤ reads_of after other
    read_grows other =
        rw (notes.names, notes.reads) (counts_grow name (read_noted name) (read_keeps name) (λ it. it.reads) (read_hits name) (read_misses name) before.other_reads before.names.items other)

    pub read_stops : (later : List Event) → later ≡ Unread name ∷ events
        → OnlyReads (stopping_state inner before events) (stopping_state inner after later) name
    read_stops later is =
        let own =
        failed_read inner.content inner.read_faults inner.read_faults inner.write_faults events later name is
        (record { grows = λ other. omega arith; others = λ other ne there. refl }) in
        record {
          content = λ i other. content_told_at (is_same other i) other;
          counts = record {
            grows = λ other. let more = read_grows other in omega (arith, more);
            others = λ other ne there. ap (λ n. inner.read_faults other + n) (stays other ne (there_told inner.content before.names.items other there));
          };
          writes = λ other. ap (λ n. inner.write_faults other + n) (writes_same other);
          more = own.more;
          gives = own.gives;
          changed = own.changed;
          asks = own.asks;
        }
      where
        content_told_at : Bool → Bytes → Content
        content_told_at b other = if b then inner.content other else Unknown

        is_same : (other : Bytes) → is_told after.names.items other ≡ is_told before.names.items other
        is_same other = ap (λ names. is_told names other) notes.names ∙ told_same name (read_noted name) (read_keeps name) before.names.items other

        stays : (other : Bytes) → other ≢ name → is_told before.names.items other ≡ true → reads_of after other ≡ reads_of before other
        stays other ne is =
            ap (λ names. count_told (λ it. it.reads) after.other_reads names other) notes.names
            ∙ counts_stay name (read_noted name) (read_keeps name) (λ it. it.reads) (read_hits name) (read_misses name) before.other_reads after.other_reads before.names.items other ne is

        writes_same : (other : Bytes) → writes_of after other ≡ writes_of before other
        writes_same other =
            ap (λ n. count_told (λ it. it.writes) n after.names.items other) notes.writes
            ∙ ap (λ names. count_told (λ it. it.writes) before.other_writes names other) notes.names
            ∙ counts_same name (read_noted name) (read_keeps name) (λ it. it.writes) (read_other name) before.other_writes before.names.items other

  -- a cut or an append fails by the stop, of which the shelf behind may have taken a part
  module _ (rest : OnlyWrites inner now name) (notes : NotesWrite name before after) where
    pub write_rises : CountRose (inner.write_faults name + writes_of before name) (now.write_faults name + writes_of after name)
    write_rises =
        let own : CountRose (writes_of before name) (writes_of after name) =
        rw (notes.names, notes.writes) (counts_rise name (write_noted name) (write_keeps name) (λ it. it.writes) (write_hits name) (write_misses name) before.other_writes before.names.items) in
        sum_rises (inner.write_faults name) (now.write_faults name) (writes_of before name) (writes_of after name) (rest.counts.grows name) own

    write_grows : (other : Bytes) → writes_of before other ≤ writes_of after other
    write_grows other =
        rw (notes.names, notes.writes) (counts_grow name (write_noted name) (write_keeps name) (λ it. it.writes) (write_hits name) (write_misses name) before.other_writes before.names.items other)

    pub told_as : (other : Bytes) → is_told after.names.items other ≡ is_told before.names.items other
    told_as other = ap (λ names. is_told names other) notes.names ∙ told_same name (write_noted name) (write_keeps name) before.names.items other

    pub write_stops : (later : List Event) → NotesChange events later name
        → OnlyWrites (stopping_state inner before events) (stopping_state now after later) name
    write_stops later noted = record {
      others = λ other ne. by_told other (told_as other) (rest.others other ne);
      unknown = λ none. unknown_told (is_told before.names.items name) (is_told after.names.items name) (told_as name) none rest.unknown;
      counts = record {
        grows = λ other. let more = write_grows other in let own = rest.counts.grows other in omega (arith, more, own);
        others = λ other ne there. stays other ne (there_told inner.content before.names.items other there) (there_inner (is_told before.names.items other) (inner.content other) there);
      };
      reads = λ other. ap (λ n. n + reads_of after other) (rest.reads other) ∙ ap (λ n. inner.read_faults other + n) (reads_same other);
      changes = noted.changes;
      given = noted.given;
      asked = noted.asked;
    }
      where
        by_told : (other : Bytes) → is_told after.names.items other ≡ is_told before.names.items other → now.content other ≡ inner.content other
            → content_told now.content after.names.items other ≡ content_told inner.content before.names.items other
        by_told other is same = ap (λ b. if b then now.content other else Unknown) is ∙ ap (λ content. if is_told before.names.items other then content else Unknown) same

        unknown_told : (b d : Bool) → d ≡ b → (if b then inner.content name else Unknown) ≡ Unknown → (inner.content name ≡ Unknown → now.content name ≡ Unknown)
            → (if d then now.content name else Unknown) ≡ Unknown
        unknown_told true d is none kept = ap (λ x. if x then now.content name else Unknown) is ∙ kept none
        unknown_told false d is none kept = ap (λ x. if x then now.content name else Unknown) is

        stays : (other : Bytes) → other ≢ name → is_told before.names.items other ≡ true → IsThere (inner.content other)
            → now.write_faults other + writes_of after other ≡ inner.write_faults other + writes_of before other
        stays other ne is there =
            ap (λ n. n + writes_of after other) (rest.counts.others other ne there)
            ∙ ap (λ n. inner.write_faults other + n)
            (ap (λ names. count_told (λ it. it.writes) after.other_writes names other) notes.names
            ∙ counts_stay name (write_noted name) (write_keeps name) (λ it. it.writes) (write_hits name) (write_misses name) before.other_writes after.other_writes before.names.items other ne is)

        reads_same : (other : Bytes) → reads_of after other ≡ reads_of before other
        reads_same other =
            ap (λ n. count_told (λ it. it.reads) n after.names.items other) notes.reads
            ∙ ap (λ names. count_told (λ it. it.reads) before.other_reads names other) notes.names
            ∙ counts_same name (write_noted name) (write_keeps name) (λ it. it.reads) (write_other name) before.other_reads before.names.items other

    -- a part of the piece was taken
    pub more_told : (piece : Bytes) → MayHaveMore (inner.content name) (now.content name) piece
        → MayHaveMore (content_told inner.content before.names.items name) (content_told now.content after.names.items name) piece
    more_told piece more = by_test (is_told before.names.items name) (is_told after.names.items name) (told_as name)
      where
        by_test : (b d : Bool) → d ≡ b → MayHaveMore (if b then inner.content name else Unknown) (if d then now.content name else Unknown) piece
        by_test true d is = rw is more
        by_test false d is = rw is tt

-- where the shelf behind is as before
pub unwritten : (inner : ShelfState) (name : Bytes) → OnlyWrites inner inner name
unwritten inner name = record {
  others = λ other ne. refl;
  unknown = λ none. none;
  counts = record { grows = λ other. omega arith; others = λ other ne there. refl };
  reads = λ other. refl;
  changes = λ other ne. refl;
  given = refl;
  asked = refl;
}

pub unappended : (content : Content) (piece : Bytes) → MayHaveMore content content piece
unappended Unknown piece = tt
unappended Absent piece = refl
unappended (Held now) piece = (0, omega arith, sym (append-nil now))

pub same_told : (inner : ShelfState) (name : Bytes) (before after : ToldNames) → NotesWrite name before after
    → content_told inner.content after.names.items name ≡ content_told inner.content before.names.items name
same_told inner name before after notes =
    ap (λ b. if b then inner.content name else Unknown) (told_as inner inner name before after [] (unwritten inner name) notes name)
