-- What the reader of words answers where it has no command.
use Rattle.std.specs.Prelude.{List}
use Rattle.clap.specs.Words.{Text}
use Rattle.command_line.specs.declared.read.WordsRefusal.{WordsRefusal}
use Rattle.command_line.specs.declared.read.WordsRefusal.TheVariants.{Usage, Memory}
use Rattle.command_line.specs.Words.{IsNoCommand}

-- Usage is the answer where the words are no command; want of memory is free
abbrev pub IsWordsRefusal : List Text → WordsRefusal → Type 0
IsWordsRefusal words Usage = IsNoCommand words
IsWordsRefusal words (Memory no_room) = Unit {0}
