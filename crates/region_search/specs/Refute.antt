-- What it is that a pair is refuted.
use Rattle.std.specs.Prelude.{◌≡◌, ℕ, Bool}
use Rattle.coverage_claim.specs.Rules.{LieIn, Sets}
use Rattle.coverage_claim.specs.Stretch.{AreSo, Stretch, Values}
use Rattle.region_search.specs.declared.search.Search.{Search}

-- NO RUNS HAVE THE PAIR of those that lie in some sets
abbrev pub NoneHave : Stretch → Sets → (frame net : ℕ) → (a b : Bool) → Type 0
NoneHave s bounds frame net a b = (golden faulty : Values) → AreSo s golden faulty → LieIn s bounds golden faulty → golden frame net ≡ a → faulty frame net ≡ b → ⊥

-- or this golden value alone
abbrev pub NoneHaveGolden : Stretch → Sets → (frame net : ℕ) → (a : Bool) → Type 0
NoneHaveGolden s bounds frame net a = (golden faulty : Values) → AreSo s golden faulty → LieIn s bounds golden faulty → golden frame net ≡ a → ⊥

-- the sets, what waits and what is noted are those of another search
pub record IsCopy (new old : Search) : Type 0 where
  pub nets : new.sets.nets ≡ old.sets.nets
  pub frames : new.sets.frames ≡ old.sets.frames
  pub items : new.sets.sets.items ≡ old.sets.sets.items
  pub waiting : new.waiting ≡ old.waiting
  pub empty : new.empty ≡ old.empty
