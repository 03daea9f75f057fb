-- What contracts see of an output, and what goes out in a call.
use Rattle.std.specs.Prelude.{◌≡◌, ◌⊎◌, ℕ, ◌≤◌, List, ◌++◌, length, take, Option, option_map, Result, OnOk, OnErr}
use Rattle.fm_shelf.specs.declared.shelf.Failed.{Failed}
use Rattle.fm_shelf.specs.Shelf.{CountRose}

-- what went out, where that is known, and how often a write has failed
pub record SinkState : Type 0 where
  pub written : Option (List ℕ)
  pub faults : ℕ

-- what went out, once these bytes went out too
abbrev pub with_more : Option (List ℕ) → List ℕ → Option (List ℕ)
with_more written piece = option_map (λ bytes. bytes ++ piece) written

-- the piece went out
abbrev pub Wrote : (before after : SinkState) → List ℕ → Type 0
Wrote before after piece = after.written ≡ with_more before.written piece

-- a write failed, and a prefix of the piece went out
abbrev pub WrotePrefix : (before after : SinkState) → List ℕ → Type 0
WrotePrefix before after piece = CountRose before.faults after.faults × ((n : ℕ) × (n ≤ length piece) × Wrote before after (take n piece))

-- the piece went out; or a write failed, and a prefix of it did
abbrev pub WroteOrFailed : (before after : SinkState) → List ℕ → Type 0
WroteOrFailed before after piece = Wrote before after piece ⊎ WrotePrefix before after piece

-- a call that writes a text: at Ok the text went out, and else a prefix of it; the count of failures never falls
pub record Sends (before after : SinkState) (text : List ℕ) (result : Result (Unit {0}) Failed) : Type 0 where
  pub ok : OnOk result (Wrote before after text)
  pub failed : OnErr result (WrotePrefix before after text)
  pub grows : before.faults ≤ after.faults

-- ---- a private step, which the promise doesn't cite

-- a prefix of the piece went out
abbrev pub HasPrefix : (before now : Option (List ℕ)) → List ℕ → Type 0
HasPrefix before now piece = (n : ℕ) × (n ≤ length piece) × (now ≡ with_more before (take n piece))
