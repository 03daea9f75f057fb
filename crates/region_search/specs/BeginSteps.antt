-- Private steps of the beginning of a search, which public contracts don't cite.
use Rattle.std.specs.Prelude.{◌≡◌, ◌+◌, ◌<◌, ◌≤◌, ℕ, Bool, true, false, not, ◌&&◌, ◌||◌, List, length, nat_lt, slice_index_or, Option, None, Some}
use Rattle.fm_base.specs.Lists.{same_bit}
use Rattle.circuit.specs.Circuit.{Circuit}
use Rattle.circuit.specs.Order.{net_at}
use Rattle.circuit.specs.declared.parts.Latch.{Latch}
use Rattle.coverage_claim.specs.Region.{may_show}
use Rattle.coverage_claim.specs.Rules.{MayGo, Sets, everything}
use Rattle.coverage_claim.specs.Stretch.{Pairs, Stretch, held_at}
use Rattle.coverage_claim.specs.declared.parts.Held.{Held}
use Rattle.coverage_claim.specs.declared.parts.Site.TheVariants.{Intact}
use Rattle.pair_sets.specs.Choice.{set_at}
use Rattle.pair_sets.specs.Pairs.{has}
use Rattle.region_search.specs.Going.{IsNoted, sets_of}
use Rattle.region_search.specs.declared.begin.Beginning.{Beginning}
use Rattle.region_search.specs.declared.search.Search.{Search}

-- ---- which pairs pass

-- the golden value is this one, if one is given
abbrev pub allows : Option Bool → Pairs
allows None golden faulty = true
allows (Some value) golden faulty = same_bit value golden

-- a silent net is 0 without faults, and with faults too up to a frame
abbrev pub is_quiet : (frame until : ℕ) → Pairs
is_quiet frame until golden faulty = not golden && (not faulty || nat_lt until frame)

-- an input by its number, and what is held
abbrev pub input_passes : Circuit → Beginning → ℕ → Pairs
input_passes c b k = may_show (slice_index_or b.sites.now (net_at c.inputs k).0 Intact)

abbrev pub held_of : List Held → ℕ → Held
held_of held j = slice_index_or held j (record { net = record { 0 = 0 }; from = 0; before = None; value = false })

abbrev pub held_passes : Beginning → ℕ → ℕ → Pairs
held_passes b frame j = allows (held_at (held_of b.held.now j) (b.first + frame))

abbrev pub latch_of : List Latch → ℕ → Latch
latch_of latches l = slice_index_or latches l (record { from = record { 0 = 0 }; to = record { 0 = 0 }; start = false })

-- ---- what is done

-- each pair that so many nets have in a frame passes the net's test
abbrev pub IsDone : (frame : ℕ) (net_of : ℕ → ℕ) (passes : ℕ → Pairs) (count : ℕ) (q : Sets) → Type 0
IsDone frame net_of passes count q = (j : ℕ) → j < count → (a b : Bool) → q frame (net_of j) a b ≡ true → passes j a b ≡ true

-- inputs, held and silent nets of a frame
pub record IsFrameDone (c : Circuit) (b : Beginning) (frame : ℕ) (q : Sets) : Type 0 where
  pub inputs : IsDone frame (λ k. (net_at c.inputs k).0) (input_passes c b) (length c.inputs) q
  pub held : IsDone frame (λ j. (held_of b.held.now j).net.0) (held_passes b frame) (length b.held.now) q
  pub silent : IsDone frame (λ j. (net_at b.silent.now j).0) (λ j. is_quiet frame b.until) (length b.silent.now) q

-- and the starts of latches
abbrev pub AreStartsDone : Circuit → Beginning → Sets → Type 0
AreStartsDone c b q = IsDone 0 (λ l. (latch_of c.latches l).to.0) (λ l. has (set_at b.starts.now l)) (length c.latches) q

-- no pair is new
abbrev pub AreFewer : (old new : Sets) → Type 0
AreFewer old new = (i n : ℕ) (a b : Bool) → new i n a b ≡ true → old i n a b ≡ true

-- the arrays are as long as before
pub record IsAsLong (old new : Search) : Type 0 where
  pub nets : new.sets.nets ≡ old.sets.nets
  pub frames : new.sets.frames ≡ old.sets.frames
  pub bound : new.waiting.bound ≡ old.waiting.bound

-- what has gone might go from all pairs, and it is noted whether a set has none
pub record IsBegun (s : Stretch) (search : Search) : Type 0 where
  pub rightly : (frame net : ℕ) (a b : Bool) → frame ≤ s.last → sets_of search.sets frame net a b ≡ false → MayGo s everything frame net a b
  pub noted : IsNoted s (sets_of search.sets) search.empty
