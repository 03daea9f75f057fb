-- What was read of a file so far.
use Rattle.std.proofs.Common.{◌≡◌, ◌≢◌, ℕ, ◌+◌, ◌<◌, ◌≤◌, List, [], ◌∷◌, ◌++◌, length, take, ap, sym, subst, ◌∙◌, arith, append_assoc, append-nil, length-append}
use Rattle.std.proofs.lemmas.List.{length-take-le}
use Rattle.std.proofs.Math.Seq.{take-add}
use Rattle.fm_shelf.specs.Content.{greatest, Content, Unknown, Absent, Held, IfPresent, IsThere}
use Rattle.fm_shelf.specs.Past.{Given, gave_from, gave_whole, gave, Ended}
use mathlib.Core.List.{IsPrefix}
use Rattle.fm_shelf.specs.Shelf.{ShelfState, Gives, IsPieceRead, OnlyReads}
use Rattle.fm_shelf.proofs.Pasts.{gave_on, gave_some, gave_none, prefix_then}

-- The bytes so far are the first of the file, where it is known, and a file of which something was read isn't absent; nothing
-- was done but that it was read.
pub record HasRead (start now : ShelfState) (name bytes : List ℕ) : Type 0 where
  pub front : IfPresent (start.content name) (λ held. (length bytes ≤ length held) × (bytes ≡ take (length bytes) held))
  pub there : 0 < length bytes → start.content name ≢ Absent
  pub given : now.given name ≡ start.given name ++ gave_from 0 bytes
  pub asked : now.asked name ≤ start.asked name + length bytes
  pub few : now.asked name ≤ start.asked name + (greatest + 1)
  pub rest : OnlyReads start now name

-- one read of the file after another
pub reads_on : (a b c : ShelfState) (name : List ℕ) → OnlyReads a b name → OnlyReads b c name → OnlyReads a c name
reads_on a b c name p q = record {
  content = q.content ∙ p.content;
  counts = record {
    grows = λ other. omega (arith, p.counts.grows other, q.counts.grows other);
    others = λ other ne there. q.counts.others other ne (subst (λ (content : List ℕ → Content). IsThere (content other)) (sym p.content) there) ∙ p.counts.others other ne there;
  };
  writes = λ other. q.writes other ∙ p.writes other;
  more = λ other. prefix_then (a.given other) (b.given other) (c.given other) (p.more other) (q.more other);
  gives = λ other ne. q.gives other ne ∙ p.gives other ne;
  changed = q.changed ∙ p.changed;
  asks = λ other ne. q.asks other ne ∙ p.asks other ne;
}

-- a read gave more
pub given_on : (start now next : List Given) (bytes more : List ℕ) (asked : ℕ) → 0 < length more → now ≡ start ++ gave_from 0 bytes
    → next ≡ now ++ gave (length bytes) asked more → next ≡ start ++ gave_from 0 (bytes ++ more)
given_on start now next bytes more asked some so_far is =
    let place : length bytes ≡ 0 + length bytes = omega arith in
    is ∙ ap (λ given. now ++ given) (gave_some (length bytes) asked more some) ∙ ap (λ front. front ++ gave_from (length bytes) more) so_far
    ∙ append_assoc start (gave_from 0 bytes) (gave_from (length bytes) more)
    ∙ ap (λ n. start ++ (gave_from 0 bytes ++ gave_from n more)) place ∙ ap (λ given. start ++ given) (sym (gave_on 0 bytes more))

-- a read was at the end
pub given_end : (start now next : List Given) (bytes none : List ℕ) (asked : ℕ) → none ≡ [] → 0 < asked → now ≡ start ++ gave_from 0 bytes
    → next ≡ now ++ gave (length bytes) asked none → next ≡ start ++ gave_whole bytes
given_end start now next bytes none asked empty some so_far is =
    is ∙ ap (λ given. now ++ given) (gave_none (length bytes) asked none empty some) ∙ ap (λ front. front ++ Ended (length bytes) ∷ []) so_far
    ∙ append_assoc start (gave_from 0 bytes) (Ended (length bytes) ∷ [])

-- all that reads of the file gave between two states
pub gives_all : (before after : ShelfState) (name : List ℕ) (what : List Given) → after.given name ≡ before.given name ++ what → Gives before after name what
gives_all before after name what is = record {
  first = [];
  rest = [];
  are = is ∙ ap (λ given. before.given name ++ given) (sym (append-nil what));
}

-- between any states that lie around them, too
pub gives_within : (before start end after : ShelfState) (name : List ℕ) (what : List Given) → IsPrefix (before.given name) (start.given name)
    → IsPrefix (end.given name) (after.given name) → Gives start end name what → Gives before after name what
gives_within before start end after name what sooner later g = record {
  first = sooner.0 ++ g.first;
  rest = g.rest ++ later.0;
  are =
      sym later.1 ∙ ap (λ given. given ++ later.0) (g.are ∙ ap (λ given. given ++ (g.first ++ (what ++ g.rest))) (sym sooner.1))
      ∙ around (before.given name) sooner.0 g.first what g.rest later.0;
}
  where
    around : (a b c d e f : List Given) → ((a ++ b) ++ (c ++ (d ++ e))) ++ f ≡ a ++ ((b ++ c) ++ (d ++ (e ++ f)))
    around a b c d e f =
        append_assoc (a ++ b) (c ++ (d ++ e)) f ∙ append_assoc a b ((c ++ (d ++ e)) ++ f)
        ∙ ap (λ rest. a ++ (b ++ rest)) (append_assoc c (d ++ e) f ∙ ap (λ rest. c ++ rest) (append_assoc d e f))
        ∙ ap (λ rest. a ++ rest) (sym (append_assoc b c (d ++ (e ++ f))))

-- ---- what was read of a known file

pub front_on : (content : Content) (bytes piece : List ℕ) (n : ℕ) → n ≤ length piece
    → IfPresent content (λ held. (length bytes ≤ length held) × (bytes ≡ take (length bytes) held))
    → IfPresent content (λ held. IsPieceRead held (length bytes) n piece)
    → IfPresent content (λ held. (length (bytes ++ take n piece) ≤ length held) × (bytes ++ take n piece ≡ take (length (bytes ++ take n piece)) held))
front_on Unknown bytes piece n fits front more = tt
front_on Absent bytes piece n fits front more = tt
front_on (Held held) bytes piece n fits (within, is) more =
    let long : length (bytes ++ take n piece) ≡ length bytes + n = length-append bytes (take n piece) ∙ ap (λ m. length bytes + m) (length-take-le n piece fits) in (
      omega (arith, long, within, more.within),
      ap (λ front. front ++ take n piece) is ∙ ap (λ rest. take (length bytes) held ++ rest) more.read ∙ sym (take-add (length bytes) n held)
          ∙ ap (λ m. take m held) (sym long),
    )
