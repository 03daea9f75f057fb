-- What a campaign has done when it is reported.
use Rattle.std.specs.Prelude.{◌≡◌, ℕ, List, length, take, Ok}
use Rattle.fm_shelf.specs.Content.{HasIfKnown}
use Rattle.fm_shelf.specs.Past.{WritesOn}
use Rattle.fm_shelf.specs.Sink.{Wrote}
use Rattle.fm_shelf.specs.Outside.{Outside}
use Rattle.campaign_plan.specs.declared.Outcome.{Outcome}
use Rattle.campaign_plan.specs.Analysis.{Analysis}
use Rattle.campaign_plan.specs.Batches.{Entry}
use Rattle.result_file.specs.declared.KeptRows.{KeptRows}
use Rattle.result_file.specs.ResultText.{result_text}
use Rattle.result_file.specs.KeptRows.{kept, kept_entries}
use Rattle.fm_base.specs.Names.{Bytes}
use Rattle.campaign_run.specs.Found.{IsWhole}

-- WHAT IS PROMISED OF A CAMPAIGN: the text of one thread was written; the result file has each batch once, and took it behind the kept bytes
pub record HasReported (own text : Bytes) (p : Analysis) (planes : ℕ → Outcome) (kept_bytes : ℕ) (name : Bytes) (before after : Outside) : Type 0 where
  pub wrote : Wrote before.out after.out text
  pub entries : List Entry
  pub whole : IsWhole p planes entries
  pub result : HasIfKnown (after.shelf.content name) (result_text own p entries)
  pub written : WritesOn kept_bytes (result_text own p entries) (after.shelf.given name) (before.shelf.changed name) (after.shelf.changed name)

-- a campaign that was resumed on a file of these bytes: it is reported, and its rows begin with those that were kept
pub record ResumedAs (own text : Bytes) (p : Analysis) (planes : ℕ → Outcome) (bytes name : Bytes) (before after : Outside) : Type 0 where
  pub k : KeptRows
  pub kept_rows : kept own p bytes ≡ Ok k
  pub reported : HasReported own text p planes k.whole name before after
  pub first : take (length (kept_entries k)) reported.entries ≡ kept_entries k

-- ---- a shape of private steps, which the promise on the program doesn't cite

-- a list begins with another
abbrev pub BeginsWith : {X : Type 0} → List X → List X → Type 0
BeginsWith xs start = take (length start) xs ≡ start
