-- What the tokens, names and statements of the code mean.
use Rattle.std.specs.Prelude.{Bool, true, false, not, List, [], ◌∷◌, Option, Some, None}
use Rattle.fm_base.specs.Names.{Bytes, Name}
use Rattle.blif_text.specs.Lines.{is_white}
use Rattle.bench_reader.specs.declared.BenchKind.{BenchKind}
use Rattle.bench_reader.specs.declared.BenchKind.TheVariants as kinds
use Rattle.bench_reader.specs.declared.names.NextName.{NextName}
use Rattle.bench_reader.specs.declared.says.Malformed.{Malformed}
use Rattle.bench_reader.specs.declared.says.Malformed.TheVariants.{BadLine, BadGate, BadCount}
use Rattle.bench_reader.specs.declared.says.Says.{Says}
use Rattle.bench_reader.specs.declared.says.Says.TheVariants.{Nothing, Input, Output, Table, Latch, Wrong}
use Rattle.bench_reader.specs.declared.token.Token as held
use Rattle.bench_reader.specs.declared.token.Token.TheVariants as tokens
use Rattle.bench_reader.specs.Gates.{gate_rule}
use Rattle.bench_reader.specs.Statement.{Statement, nothing, input, output, table, latch, wrong}
use Rattle.bench_reader.specs.Tokens.{Token, opening, closing, comma, equals, name, tokens_of}

-- the token that is meant
abbrev pub token_of : held.Token → Token
token_of tokens.Opening = opening
token_of tokens.Closing = closing
token_of tokens.Comma = comma
token_of tokens.Equals = equals
token_of (tokens.Name text) = name text.now

-- the text doesn't begin with white space
abbrev pub begins_inked : Bytes → Bool
begins_inked [] = true
begins_inked (b ∷ text) = not (is_white b)

-- the names behind a first one: as many as stand behind a comma each
abbrev pub more_listed : List Token → List Name
more_listed (comma ∷ name n ∷ tokens) = n ∷ more_listed tokens
more_listed _ = []

-- the names in front, with a comma between each two
abbrev pub listed : List Token → List Name
listed (name n ∷ tokens) = n ∷ more_listed tokens
listed _ = []

-- a closing bracket alone
abbrev pub is_end : List Token → Bool
is_end (closing ∷ []) = true
is_end _ = false

-- the tokens don't begin with a name
abbrev pub HasNoName : List Token → Type 0
HasNoName (name n ∷ tokens) = ⊥
HasNoName _ = Unit {0}

-- the tokens don't begin with a comma and a name
abbrev pub HasNoMore : List Token → Type 0
HasNoMore (comma ∷ name n ∷ tokens) = ⊥
HasNoMore _ = Unit {0}

-- a name, if there is one, and those behind it
abbrev pub names_ahead : Option NextName → List Name
names_ahead None = []
names_ahead (Some next) = next.name.now ∷ more_listed (tokens_of next.rest.now)

-- the kind of a line that is wrong by itself
abbrev pub kind_of_malformed : Malformed → BenchKind
kind_of_malformed BadLine = kinds.BadLine
kind_of_malformed BadGate = kinds.BadGate
kind_of_malformed BadCount = kinds.BadCount

-- the statement that is meant
abbrev pub meant : Says → Statement
meant Nothing = nothing
meant (Input net) = input net.now
meant (Output net) = output net.now
meant (Table out gate ins) = table out.now (gate_rule gate) (listed (tokens_of ins.now))
meant (Latch out from) = latch out.now from.now
meant (Wrong why) = wrong (kind_of_malformed why)
