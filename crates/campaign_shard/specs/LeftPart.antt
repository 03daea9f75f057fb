-- What a part has left when it couldn't write its result file.
use Rattle.std.specs.Prelude.{◌≡◌, ◌%◌, ◌==◌, ℕ, true, List, [], All}
use Rattle.fm_base.specs.Names.{Bytes}
use Rattle.fm_shelf.specs.Content.{Content}
use Rattle.fm_shelf.specs.Past.{Given, Change}
use Rattle.campaign_plan.specs.Analysis.{Analysis}
use Rattle.campaign_plan.specs.Batches.{Entry, batches, true_planes}
use Rattle.campaign_run.specs.Left.{LeftPrefix, StoppedRows}

-- each entry is of a batch of this part
abbrev pub AreOfPart : (part parts : ℕ) → List Entry → Type 0
AreOfPart part parts entries = All (λ batch. (batch % parts == part) ≡ true) (batches entries)

-- the file is a byte prefix of a result file that has true rows of this part and no other, so its last row too, where it is torn
pub record LeftPart (part parts : ℕ) (own : Bytes) (p : Analysis) (held : Content) : Type 0 where
  pub left : LeftPrefix own p (true_planes p) held
  pub own_rows : AreOfPart part parts left.entries

-- known or not, the file was cut to nothing, and took such a result file from there on up to a call that failed
pub record StoppedPart (part parts : ℕ) (own : Bytes) (p : Analysis) (given : List Given) (before now : List Change) : Type 0 where
  pub stopped : StoppedRows own p (true_planes p) 0 [] given before now
  pub own_rows : AreOfPart part parts stopped.entries
