-- Calls of the program over a shelf on which a stop comes.
use Rattle.std.specs.Prelude.{◌≡◌, ◌≢◌, List, Contains}
use Rattle.std.specs.List.{AllByRecursion as ForEach}
use Rattle.fm_base.specs.Names.{Bytes}
use Rattle.fm_shelf.specs.Content.{Content, Unknown}
use Rattle.fm_shelf.specs.Shelf.{ShelfState}
use Rattle.fm_shelf.specs.Outside.{Outside}
use Rattle.commands.specs.declared.command.Kind.TheVariants as kind
use Rattle.commands.specs.declared.command.Which.TheVariants as which
use Rattle.commands.specs.Commands.{files_of}
use Rattle.refusals.specs.declared.status.Status.{Status}
use Rattle.refusals.specs.declared.status.Status.TheVariants as status
use Rattle.fmeda_top.specs.Promises.{Promises}
use Rattle.stopped_runs.specs.Campaigns.{Campaign, HasNoFalseRow, Holds, IsApart, IsLeft, IsResume, IsRun, Reports}

-- of the files of these names it tells what the shelf behind it tells
abbrev pub Tells : (names : List Bytes) → (stopping inner : ShelfState) → Type 0
Tells names stopping inner = (name : Bytes) → Contains names name → stopping.content name ≡ inner.content name

-- A CALL THAT WAS STOPPED, or has ended by itself, over a shelf that tells the files of these names
pub record WasCalled (words names : List Bytes) (before after : ShelfState) : Type 0 where
  pub ended : Status
  pub met : Outside
  pub left : Outside
  pub promised : Promises words ended met left
  pub tells : Tells names met.shelf before
  pub keeps : Tells names left.shelf after

-- it is known what each file is, whatever is done to the shelf
abbrev pub KnowsAll : {F : Type 0} → (F → ShelfState) → Type 0
KnowsAll {F} seen = (shelf : F) (name : Bytes) → (seen shelf).content name ≢ Unknown

-- the words are a `run` and a `resume` of this campaign, whose files are told; the shelf holds its inputs, and RESULT, of which no false row
-- would be kept
pub record IsCampaign (c : Campaign) (start : Content) (run resume names : List Bytes) (shelf : ShelfState) : Type 0 where
  pub run_is : IsRun c run
  pub resume_is : IsResume c resume
  pub apart : IsApart c
  pub told : ForEach (λ file. Contains names (c.files file)) (files_of kind.Begun)
  pub holds : Holds c start shelf
  pub truth : HasNoFalseRow c start

-- a campaign was stopped and resumed: RESULT is as it was, or a byte prefix of true rows; and where the last call was done, it is reported
pub record IsResumed (c : Campaign) (start : Content) (ended : Status) (before after : Outside) : Type 0 where
  pub left : IsLeft c start (after.shelf.content (c.files which.Result))
  pub reports : ended ≡ status.Done → Reports c before after
