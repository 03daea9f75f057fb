-- What a campaign goes on from.
use Rattle.std.specs.Prelude.{◌≡◌, ◌⊎◌, [], Ok}
use Rattle.fm_shelf.specs.Content.{Content, HasIfKnown}
use Rattle.campaign_plan.specs.Analysis.{Analysis}
use Rattle.result_file.specs.declared.KeptRows.{KeptRows}
use Rattle.result_file.specs.KeptRows.{kept}
use Rattle.fm_base.specs.Names.{Bytes}

-- nothing is kept of the file, whatever it holds
abbrev pub no_kept_rows : KeptRows
no_kept_rows = record { rows = []; whole = 0 }

-- nothing is kept, or the rows and the bytes that are kept of what the file holds
abbrev pub StartsFrom : (own : Bytes) → Analysis → (held : Content) → KeptRows → Type 0
StartsFrom own p held k = (k ≡ no_kept_rows) ⊎ ((bytes : Bytes) × HasIfKnown held bytes × (kept own p bytes ≡ Ok k))
