-- Each row of a gate's table has a literal for each input.
use Rattle.std.proofs.Common.{◌≡◌, ℕ, zero, suc, Bool, true, false, cond, List, [], ◌∷◌, length, map, replicate, refl, ap, subst}
use Rattle.std.specs.Prelude.{not, Option, Some, None, codes}
use Rattle.std.specs.Option.{option_or}
use Rattle.std.specs.List.{AllByRecursion, before_first, enumerate_from, slice_split}
use Rattle.blif_text.specs.Lines.{is_feed, is_hash}
use Rattle.circuit.specs.declared.parts.Lit.{Lit}
use Rattle.circuit.specs.declared.parts.Lit.TheVariants.{Zero, One}
use Rattle.fm_base.specs.Firsts.{first_answer, given}
use Rattle.fm_base.specs.Names.{Bytes, Name}
use Rattle.bench_reader.specs.declared.BenchKind.TheVariants.{BadLine, BadCount}
use Rattle.bench_reader.specs.declared.gate.Gate.{Gate}
use Rattle.bench_reader.specs.declared.gate.Gate.TheVariants.{And, Nand, Or, Nor, Xor, Xnor, Not, Buffer}
use Rattle.bench_reader.specs.Gates.{GateRule, even_rows, gate_named, gate_rule, is_word, parity_rows, takes}
use Rattle.bench_reader.specs.Gather.{StatementFits}
use Rattle.bench_reader.specs.LineFault.{said, numbered_lines}
use Rattle.bench_reader.specs.Statement.{input, output, table, wrong, statement_of}
use Rattle.bench_reader.specs.Tokens.{Token, opening, closing, equals, name, tokens_of}
use Rattle.bench_reader.specs.Steps.{driver_line, latch_line, names_in, port_line, table_line}
use Rattle.blif_text.proofs.Slices.{all-append}

-- ---- rows

length_replicate : {X : Type 0} (n : ℕ) (x : X) → length (replicate n x) ≡ n
length_replicate zero x = refl
length_replicate (suc n) x = ap (λ k. suc k) (length_replicate n x)

-- a cell in front of each row
cells_fit : (cell : Lit) (n : ℕ) (rows : List (List Lit)) → AllByRecursion (λ row. length row ≡ n) rows → AllByRecursion (λ row. length row ≡ suc n) (map (λ row. cell ∷ row) rows)
cells_fit cell n [] h = tt
cells_fit cell n (row ∷ rows) h = (ap (λ m. suc m) h.0, cells_fit cell n rows h.1)

parity_fit : (odd : Bool) (n : ℕ) → AllByRecursion (λ row. length row ≡ n) (parity_rows odd n)
parity_fit true zero = tt
parity_fit false zero = (refl, tt)
parity_fit odd (suc n) =
    all-append (λ row. length row ≡ suc n) (map (λ row. Zero ∷ row) (parity_rows odd n)) (map (λ row. One ∷ row) (parity_rows (not odd) n))
    (cells_fit Zero n (parity_rows odd n) (parity_fit odd n)) (cells_fit One n (parity_rows (not odd) n) (parity_fit (not odd) n))

-- the rows of a gate have a cell for each input
abbrev RowsFit : GateRule → Type 0
RowsFit gate = (n : ℕ) → takes gate n ≡ true → AllByRecursion (λ row. length row ≡ n) (gate.rows n)

even_fit : (cell : Lit) (n : ℕ) → AllByRecursion (λ row. length row ≡ n) (even_rows cell n)
even_fit cell n = (length_replicate n cell, tt)

-- what all answers have, the first has
first_has : {X Y : Type 0} (P : Y → Type 0) (test : X → Bool) (pairs : List (X × Y)) (y : Y) → AllByRecursion (λ p. P p.1) pairs
    → first_answer (map (λ p. given (test p.0) p.1) pairs) ≡ Some y → P y
first_has P test [] y all e = cc
first_has {X} {Y} P test (p ∷ pairs) y all e = by_cases (test p.0) e (first_has P test pairs y all.1)
  where
    by_cases : (b : Bool) → option_or (given b p.1) (first_answer (map (λ q. given (test q.0) q.1) pairs)) ≡ Some y
        → (first_answer (map (λ q. given (test q.0) q.1) pairs) ≡ Some y → P y) → P y
    by_cases true f more = let same : p.1 ≡ y = cc in subst P same all.0
    by_cases false f more = more f

gate_fits : (word : Name) (gate : GateRule) → gate_named word ≡ Some gate → RowsFit gate
unfolding gate_named
gate_fits word gate e =
    let pairs : List (Bytes × GateRule) = (codes "AND", gate_rule And) ∷ (codes "NAND", gate_rule Nand) ∷ (codes "OR", gate_rule Or) ∷ (codes "NOR", gate_rule Nor) ∷ (codes "XOR", gate_rule Xor)
    ∷ (codes "XNOR", gate_rule Xnor) ∷ (codes "NOT", gate_rule Not) ∷ (codes "BUFF", gate_rule Buffer) ∷ (codes "BUF", gate_rule Buffer) ∷ [] in
    first_has RowsFit (λ (capitals : Bytes). is_word capitals word) pairs gate
    (fits And, (fits Nand, (fits Or, (fits Nor, (fits Xor, (fits Xnor, (fits Not, (fits Buffer, (fits Buffer, tt))))))))) e
  where
    fits : (g : Gate) → RowsFit (gate_rule g)
    fits And n h = even_fit One n
    fits Nand n h = even_fit One n
    fits Or n h = even_fit Zero n
    fits Nor n h = even_fit Zero n
    fits Xor n h = parity_fit true n
    fits Xnor n h = parity_fit true n
    fits Not n h = even_fit Zero n
    fits Buffer n h = even_fit One n

-- ---- statements

latch_line_fits : (out : Name) (ins : List Name) → StatementFits (latch_line out ins)
latch_line_fits out [] = tt
latch_line_fits out (from ∷ []) = tt
latch_line_fits out (a ∷ b ∷ more) = tt

table_line_fits : (out word : Name) (ins : List Name) → StatementFits (table_line out (gate_named word) ins)
table_line_fits out word ins = by_word (gate_named word) refl
  where
    by_count : (gate : GateRule) → RowsFit gate → (b : Bool) → takes gate (length ins) ≡ b → StatementFits (cond b (table out gate ins) (wrong BadCount))
    by_count gate fits true e = (e, fits (length ins) e)
    by_count gate fits false e = tt

    by_word : (o : Option GateRule) → gate_named word ≡ o → StatementFits (table_line out o ins)
    by_word None e = tt
    by_word (Some gate) e = by_count gate (gate_fits word gate e) (takes gate (length ins)) refl

driver_line_fits : (out word : Name) (ins : Option (List Name)) → StatementFits (driver_line out word ins)
driver_line_fits out word None = tt
driver_line_fits out word (Some ins) = by_cases (is_word (codes "DFF") word)
  where
    by_cases : (b : Bool) → StatementFits (cond b (latch_line out ins) (table_line out (gate_named word) ins))
    by_cases true = latch_line_fits out ins
    by_cases false = table_line_fits out word ins

port_line_fits : (word net : Name) → StatementFits (port_line word net)
port_line_fits word net = by_cases (is_word (codes "INPUT") word) (is_word (codes "OUTPUT") word)
  where
    by_cases : (a b : Bool) → StatementFits (cond a (input net) (cond b (output net) (wrong BadLine)))
    by_cases true b = tt
    by_cases false true = tt
    by_cases false false = tt

pub statement_fits : (tokens : List Token) → StatementFits (statement_of tokens)
unfolding statement_of
statement_fits [] = tt
statement_fits (name word ∷ opening ∷ name net ∷ closing ∷ []) = port_line_fits word net
statement_fits (name out ∷ equals ∷ name word ∷ opening ∷ tokens) = driver_line_fits out word (names_in tokens)
statement_fits _ = tt

pub said_fit : (pieces : List (ℕ × Bytes)) → AllByRecursion (λ line. StatementFits line.says) (map said pieces)
said_fit [] = tt
said_fit (piece ∷ pieces) = (statement_fits (tokens_of (before_first is_hash piece.1)), said_fit pieces)

pub lines_fit : (bytes : Bytes) → AllByRecursion (λ line. StatementFits line.says) (numbered_lines bytes)
unfolding numbered_lines
lines_fit bytes = said_fit (enumerate_from 1 (slice_split is_feed bytes))
