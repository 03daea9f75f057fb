-- What the tasks of a call need, and refusals of the words themselves.
use Rattle.std.specs.Prelude.{◌≡◌, List}
use Rattle.fm_base.specs.Names.{Bytes}
use Rattle.commands.specs.Commands.{Command}
use Rattle.command_line.specs.Words.{IsCommand}
use Rattle.commands.specs.declared.command.Task.{Task}
use Rattle.commands.specs.declared.command.Task.TheVariants as task
use Rattle.refusals.specs.declared.status.Status.{Status}
use Rattle.refusals.specs.declared.status.Status.TheVariants as status

-- a task that runs no campaign, neither whole nor in part
abbrev pub RunsNoCampaign : Task → Type 0
RunsNoCampaign (task.Run workers) = ⊥
RunsNoCampaign (task.Resume workers) = ⊥
RunsNoCampaign (task.Gen stages workers) = ⊥
RunsNoCampaign (task.Shard part parts) = ⊥
RunsNoCampaign _ = Unit {0}

-- a task that waits for nobody, but for threads of its own that it joins: all but a campaign of several workers
abbrev pub WaitsForNobody : Task → Type 0
WaitsForNobody (task.Run workers) = workers ≡ 1
WaitsForNobody (task.Resume workers) = workers ≡ 1
WaitsForNobody (task.Gen stages workers) = workers ≡ 1
WaitsForNobody _ = Unit {0}

-- THE WORDS THAT MAY WAIT are a command whose campaign has several workers
abbrev pub MayWait : List Bytes → Type 0
MayWait words = (command : Command) × IsCommand words command × ¬ (WaitsForNobody command.task)

-- a refusal of the words themselves
abbrev pub IsOfWords : Status → Type 0
IsOfWords status.Usage = Unit {0}
IsOfWords (status.Memory no_room) = Unit {0}
IsOfWords _ = ⊥
