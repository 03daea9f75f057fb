-- What the steps of a part leave to the next one.
use Rattle.std.specs.Prelude.{◌≡◌, ◌⊎◌, ℕ, true}
use Rattle.fm_shelf.specs.Shelf.{ShelfState}
use Rattle.fm_base.specs.Names.{Bytes}
use Rattle.campaign_plan.specs.Analysis.{Analysis}
use Rattle.claim_counter.specs.Views.{starting_view}
use Rattle.claim_counter.specs.Seats.{Counter, Seated}
use Rattle.campaign_board.specs.Boards.{Start}
use Rattle.campaign_board.specs.Kept.{BoardState, IsHeaderTorn}
use Rattle.campaign_run.specs.declared.run.Text.TheVariants.{Report}
use Rattle.campaign_run.specs.Starting.{no_kept_rows}
use Rattle.campaign_run.specs.Ran.{Campaign}
use Rattle.campaign_run.specs.Origins.{origin_of}
use Rattle.campaign_run.specs.Steps.{HeaderStops}
use Rattle.result_merge.specs.Parts.{is_of_part}
use Rattle.campaign_shard.specs.PartSeats.{IsPartDone}

-- the whole campaign of the plan, which keeps nothing of its file; no board knows what it writes at its end
abbrev pub whole_campaign : (name own : Bytes) → Analysis → Campaign
whole_campaign name own p = record { name = name; own = own; p = p; k = no_kept_rows; text = Report }

-- what the board of a part begins with: the same as that of the whole campaign, but that it takes rows of the part alone
abbrev pub part_origin : (name own : Bytes) → Analysis → (part parts : ℕ) → ShelfState → Start
part_origin name own p part parts shelf = record (origin_of (whole_campaign name own p) shelf) { takes = is_of_part part parts }

-- the one seat of a table; it holds the turn, with no board behind it yet
pub record IsOpening (c : Counter) (p : Seated) : Type 0 where
  pub table : p.table ≡ c.table
  pub view : p.view ≡ starting_view c.todo

-- a board after the part's work; or its header couldn't be written, and it has failed
abbrev pub HasPartWorked : {F : Type 0} → Start → (part parts : ℕ) → (before after : ShelfState) → BoardState F → Type 0
HasPartWorked o part parts before after board =
    ((board.written ≡ true) × IsPartDone o part parts board.rows board.failed)
    ⊎ ((board.failed ≡ true) × IsHeaderTorn o.header 0 (before.content o.name) (after.content o.name) × HeaderStops o after)
