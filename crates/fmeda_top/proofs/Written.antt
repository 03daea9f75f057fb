-- A result file that was written anew.
use Rattle.std.proofs.Common.{◌≡◌, ◌∙◌, ap, refl, subst, sym, Ok, Err, Result, true, false, inl, inr, [], ◌∷◌, ◌++◌, take, arith}
use Rattle.std.specs.Prelude.{◌⊎◌, OnErr, OnOk}
use Rattle.std.specs.Result.{is_err}
use Rattle.fm_base.specs.Names.{Bytes}
use Rattle.fm_shelf.specs.declared.shelf.Failed.{Failed}
use Rattle.fm_shelf.specs.Content.{Content, Unknown, Absent, Held, HasIfKnown}
use Rattle.fm_shelf.specs.Past.{AtCut, Cut, MayCut, StopsOn, WritesOn}
use Rattle.fm_shelf.specs.Shelf.{Appends, CountRose, MayAppend, MayBecome, MayHaveMore, OnlyWrites, ShelfState, Takes, Tears}
use Rattle.fm_shelf.proofs.Appends.{has_on, keeps_by, keeps_on}
use Rattle.fm_shelf.proofs.Counts.{rose_from}
use Rattle.fm_shelf.proofs.Written.{stops_begin, stops_unread, writes_begin, writes_unread}
use Rattle.campaign_run.specs.Left.{IsPrefixOf}
use Rattle.fmeda_top.specs.Written.{IsWrittenAnew, RewritesAs}

-- it has its text, unless it failed
pub written : (name text : Bytes) (before after : ShelfState) (r : Result (Unit {0}) Failed) → RewritesAs name text before after r → is_err r ≡ false
    → HasIfKnown (after.content name) text × WritesOn 0 text (after.given name) (before.changed name) (after.changed name)
written name text before after (Ok v) writes e = writes
written name text before after (Err x) writes e = absurd (cc)

-- or as much of it as it has
pub not_written : (name text : Bytes) (before after : ShelfState) (r : Result (Unit {0}) Failed) → RewritesAs name text before after r → is_err r ≡ true
    → ((after.content name ≡ before.content name) ⊎ IsPrefixOf (after.content name) text) × CountRose (before.write_faults name) (after.write_faults name)
    × StopsOn 0 text (after.given name) (before.changed name) (after.changed name)
not_written name text before after (Ok v) writes e = absurd (cc)
not_written name text before after (Err x) writes e = writes

-- ---- how it is written

prefix_of : (before now : Content) (text : Bytes) → HasIfKnown before [] → (before ≡ Unknown → now ≡ Unknown) → MayHaveMore before now text → IsPrefixOf now text
prefix_of Unknown now text none unknown more = subst (λ t. IsPrefixOf t text) (sym (unknown refl)) tt
prefix_of Absent now text none unknown more = absurd none
prefix_of (Held bytes) Unknown text none unknown more = tt
prefix_of (Held bytes) Absent text none unknown more = absurd (cc)
prefix_of (Held bytes) (Held now) text none unknown more = (more.0, more.2 ∙ ap (λ b. b ++ take more.0 text) none)

nothing_of : (now : Content) (text : Bytes) → HasIfKnown now [] → IsPrefixOf now text
nothing_of Unknown text none = tt
nothing_of Absent text none = absurd none
nothing_of (Held bytes) text none = (0, none)

module _ (name text : Bytes) (before mid : ShelfState) (first : OnlyWrites before mid name) where
  -- the cut failed
  pub not_cut : MayBecome before mid name (take 0) → mid.changed name ≡ before.changed name ++ MayCut (before.given name) 0 ∷ [] → (failed : Failed)
      → IsWrittenAnew name text before mid (Err failed)
  not_cut (rose, left) was failed = record {
    writes = (
      by_left left,
      rose,
      stops_unread 0 text before.given mid.given name (before.changed name) (mid.changed name) first.given (AtCut was),
    );
    others = keeps_by before mid name first;
    given = first.given;
    grows = first.counts.grows name;
  }
    where
      by_left : (mid.content name ≡ before.content name) ⊎ HasIfKnown (mid.content name) []
          → (mid.content name ≡ before.content name) ⊎ IsPrefixOf (mid.content name) text
      by_left (inl same) = inl same
      by_left (inr none) = inr (nothing_of (mid.content name) text none)

  -- the text was appended to the empty file, or as much of it
  pub written_anew : (after : ShelfState) (r : Result (Unit {0}) Failed) → HasIfKnown (mid.content name) [] → mid.changed name ≡ before.changed name ++ Cut (before.given name) 0 ∷ []
      → OnlyWrites mid after name → OnOk r (Appends mid after name text) → OnErr r (MayAppend mid after name text) → OnOk r (Takes mid after name text)
      → OnErr r (Tears mid after name text) → IsWrittenAnew name text before after r
  written_anew after (Ok done) none was rest has may takes tears = record {
    writes = (
      has_on (mid.content name) (after.content name) [] text rest.unknown none has,
      writes_unread 0 text before.given after.given name (before.changed name) (after.changed name) (rest.given ∙ first.given)
          (writes_begin 0 text (before.given name) (before.changed name) (mid.changed name) (after.changed name) refl was takes),
    );
    others = keeps_on before mid after name (keeps_by before mid name first) rest;
    given = rest.given ∙ first.given;
    grows = omega (arith, first.counts.grows name, rest.counts.grows name);
  }
  written_anew after (Err failed) none was rest has may takes tears = record {
    writes = (
      inr (prefix_of (mid.content name) (after.content name) text none rest.unknown may.1),
      rose_from (before.write_faults name) (mid.write_faults name) (after.write_faults name) (first.counts.grows name) may.0,
      stops_unread 0 text before.given after.given name (before.changed name) (after.changed name) (rest.given ∙ first.given)
          (stops_begin 0 text (before.given name) (before.changed name) (mid.changed name) (after.changed name) refl was tears),
    );
    others = keeps_on before mid after name (keeps_by before mid name first) rest;
    given = rest.given ∙ first.given;
    grows = omega (arith, first.counts.grows name, rest.counts.grows name);
  }
