-- What a campaign has left when it couldn't write its result file.
use Rattle.std.specs.Prelude.{◌≡◌, ℕ, List, length, take}
use Rattle.fm_shelf.specs.Content.{Content, IsIfKnown}
use Rattle.fm_shelf.specs.Past.{Given, Change, StopsOn}
use Rattle.campaign_plan.specs.declared.Outcome.{Outcome}
use Rattle.campaign_plan.specs.Analysis.{Analysis}
use Rattle.campaign_plan.specs.Batches.{Entry}
use Rattle.result_file.specs.ResultText.{result_text}
use Rattle.fm_base.specs.Names.{Bytes}
use Rattle.campaign_run.specs.Found.{IsPart}

-- where anything is known of it, the file is a byte prefix of this text
abbrev pub IsPrefixOf : Content → (text : Bytes) → Type 0
IsPrefixOf held text = IsIfKnown held (λ bytes. (n : ℕ) × (bytes ≡ take n text))

-- the file is a byte prefix of a result file of the plan with these planes
pub record LeftPrefix (own : Bytes) (p : Analysis) (planes : ℕ → Outcome) (held : Content) : Type 0 where
  pub entries : List Entry
  pub part : IsPart p planes entries
  pub prefix : IsPrefixOf held (result_text own p entries)

-- where anything is known of it, the file begins with these bytes
abbrev pub BeginsAs : Content → (start : Bytes) → Type 0
BeginsAs held start = IsIfKnown held (λ bytes. take (length start) bytes ≡ start)

-- ROWS THAT WERE WRITTEN STAY: known or not, the file was cut to the kept rows, and took a result file from there on up to a call that failed
pub record StoppedRows (own : Bytes) (p : Analysis) (planes : ℕ → Outcome) (kept_bytes : ℕ) (kept_rows : List Entry) (given : List Given)
    (before now : List Change) : Type 0 where
  pub entries : List Entry
  pub part : IsPart p planes entries
  pub first : take (length kept_rows) entries ≡ kept_rows
  pub stops : StopsOn kept_bytes (result_text own p entries) given before now
