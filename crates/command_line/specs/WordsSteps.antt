-- Shapes of private steps: what the reader of words makes of the parts of a command's words.
use Rattle.std.specs.Prelude.{◌≡◌, ◌≢◌, List, [], Option, Some, Result, Ok, Err, MatchOption, codes}
use Rattle.std.specs.List.{AllByRecursion as ForEach}
use Rattle.clap.specs.Words.{Row, Text, first_of}
use Rattle.commands.specs.declared.command.Asked.{Asked}
use Rattle.commands.specs.declared.command.Kind.{Kind}
use Rattle.commands.specs.declared.command.Task.{Task}
use Rattle.commands.specs.declared.command.Which.{Which}
use Rattle.command_line.specs.declared.read.WordsRefusal.{WordsRefusal}
use Rattle.command_line.specs.declared.read.WordsRefusal.TheVariants.{Usage, Memory}
use Rattle.commands.specs.Commands.{Command, inputs_of, told_by}
use Rattle.command_line.specs.Table.{word_of}
use Rattle.command_line.specs.Words.{file_word, text_or, HasOwn, Says}

-- what was found is as it should be, or nothing is
abbrev pub Finds : {T : Type 0} → (T → Type 0) → Option T → Type 0
Finds {T} Fits found = MatchOption found ((value : T) → ¬ (Fits value)) Fits

-- what was read is as it should be, and Usage is the answer where nothing is; want of memory is free
abbrev pub IsRead : {T : Type 0} → (T → Type 0) → Result T WordsRefusal → Type 0
IsRead Fits (Ok read) = Fits read
IsRead {T} Fits (Err Usage) = (read : T) → ¬ (Fits read)
IsRead Fits (Err (Memory no_room)) = Unit {0}

-- the text of the argument that names each file
abbrev pub file_texts : List Row → Which → Text
file_texts rows = λ file. text_or rows [] (file_word file)

-- RESULT is not the text of the name of another file that is read
abbrev pub IsApart : List Row → (Which → Text) → Kind → Type 0
IsApart rows files kind = ForEach (λ file. first_of (codes "result") rows ≢ Some (files file)) (inputs_of kind)

-- the command of this word does this, and what is its own stands there
abbrev pub IsTaskOf : Text → List Row → Task → Type 0
IsTaskOf word rows task = (word ≡ word_of task) × HasOwn rows task

-- the subcommand that was met is this command
abbrev pub IsMet : Option (Text × List Row) → Command → Type 0
IsMet met command = (rows : List Row) × (met ≡ Some (word_of command.task, rows)) × Says rows command

-- the entries say this command of this word, or no command of it
abbrev pub IsCommandOfWord : Text → List Row → Result Asked WordsRefusal → Type 0
IsCommandOfWord word rows (Ok asked) = (word ≡ word_of asked.task) × Says rows (told_by asked)
IsCommandOfWord word rows (Err Usage) = (command : Command) → word ≡ word_of command.task → ¬ (Says rows command)
IsCommandOfWord word rows (Err (Memory no_room)) = Unit {0}

-- the subcommand that was met is this command, or none
abbrev pub AsksMet : Option (Text × List Row) → Result Asked WordsRefusal → Type 0
AsksMet met (Ok asked) = IsMet met (told_by asked)
AsksMet met (Err Usage) = (command : Command) → ¬ (IsMet met command)
AsksMet met (Err (Memory no_room)) = Unit {0}
