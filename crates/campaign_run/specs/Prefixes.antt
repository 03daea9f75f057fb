-- What reading keeps of the first bytes of a result file.
use Rattle.std.specs.Prelude.{◌≡◌, ℕ, ◌≤◌, ◌-◌, ◌/◌, All, List, [], length, take, Ok, if◌then◌else◌, nat_lt}
use Rattle.fm_base.specs.Names.{Bytes}
use Rattle.campaign_plan.specs.Analysis.{Analysis}
use Rattle.campaign_plan.specs.Batches.{Entry, AreDistinct}
use Rattle.campaign_plan.specs.Kept.{IsPlan}
use Rattle.result_file.specs.declared.KeptRows.{KeptRows}
use Rattle.result_file.specs.ResultText.{result_rows, result_text}
use Rattle.result_file.specs.KeptRows.{header_len, row_len, kept, kept_entries, FitsLanes}

-- the entries whose rows stand whole in the first n bytes of their result file
abbrev pub whole_entries : List Entry → ℕ → List Entry
whole_entries entries n = take ((n - header_len) / row_len) entries

-- the header and the rows that stand whole in the first n bytes; nothing where not even the header does
abbrev pub whole_text : Bytes → Analysis → List Entry → ℕ → Bytes
whole_text own p entries n = if nat_lt n header_len then [] else result_text own p (whole_entries entries n)

-- reading the first n bytes of a result file keeps its whole rows and no more, and the bytes that hold them
pub record KeepsWholeRows (own : Bytes) (p : Analysis) (entries : List Entry) (n : ℕ) : Type 0 where
  pub k : KeptRows
  pub kept_rows : kept own p (take n (result_text own p entries)) ≡ Ok k
  pub rows : k.rows ≡ result_rows p (whole_entries entries n)
  pub first : kept_entries k ≡ whole_entries entries n
  pub bytes : take k.whole (take n (result_text own p entries)) ≡ whole_text own p entries n
  pub within : k.whole ≤ length (take n (result_text own p entries))

-- EVERY PREFIX KEEPS ITS WHOLE ROWS: a result file of distinct batches of the plan, with any planes, is cut at any byte
abbrev pub PrefixesKeepWholeRows : Type 0
PrefixesKeepWholeRows = (p : Analysis) → IsPlan p → (own : Bytes) (entries : List Entry) (n : ℕ) → length own ≡ header_len
    → AreDistinct p entries → All (FitsLanes p) entries → KeepsWholeRows own p entries n
