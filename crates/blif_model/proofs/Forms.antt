-- The forms of lines.
use Rattle.std.proofs.Common.{◌≡◌, ℕ, ◌-◌, ◌<◌, ◌≤◌, suc, List, [], ◌∷◌, refl, ap, sym, ◌∙◌, map, length, take, get_or, arith}
use Rattle.std.specs.Prelude.{nat_lt}
use Rattle.std.specs.List.{list_all, list_any}
use Rattle.std.proofs.lemmas.List.{get_or-map, length-map, take-map}
use Rattle.std.proofs.lemmas.List.Folds.{list_all-map}
use Rattle.std.proofs.lemmas.Simd.{map-map}
use Rattle.fm_base.specs.Names.{Name}
use Rattle.fm_base.proofs.Finding.{list_any-map}
use Rattle.blif_text.specs.declared.NetlistKind.TheVariants.{BadToken}
use Rattle.blif_text.specs.declared.token.Token.{Token}
use Rattle.blif_text.specs.declared.lines.TextLine.{TextLine}
use Rattle.blif_text.specs.Lines.{Line}
use Rattle.blif_text.specs.Placed.{Piece, PlacedLine, placed_lines, text_line}
use Rattle.blif_text.specs.Read.{line_of, lines_seen, piece_of}
use Rattle.blif_text.proofs.Texts.{lines_texts}
use Rattle.blif_model.specs.Statement.{binding_of, statement_of, table, table_line, wrong}
use Rattle.blif_model.specs.StatementSteps.{is_binding, is_whole}
use Rattle.blif_model.specs.LineFault.{Said, said_lines}
use Rattle.blif_model.specs.LineSteps.{said, texts}
use Rattle.blif_model.specs.Tokens.{texts_of}

-- a `.names` line with a token: the output is the last one
pub table_is : (tokens : List Token) (out : Token) → 1 ≤ length tokens → out ≡ get_or tokens (length tokens - 1) out
    → table (texts_of (take (length tokens - 1) tokens)) out.text.now ≡ table_line (texts_of tokens)
unfolding table_line
table_is [] out h e = absurd (omega arith)
table_is (t ∷ tokens) out h e =
    let all : List Token = t ∷ tokens in
    let text : Token → Name = λ token. token.text.now in
    let place : ℕ = suc (length tokens) - 1 in
    let same : place ≡ suc (length (texts_of tokens)) - 1 = omega (arith, length-map tokens text) in
    let before : place < suc (length tokens) = omega arith in
    ap (λ (ins : List Name). table ins out.text.now) (sym (take-map text place all) ∙ ap (λ n. take n (texts_of all)) same)
    ∙ ap (table (take (suc (length (texts_of tokens)) - 1) (texts_of all)))
    (ap text e ∙ sym (get_or-map text all place out [] before) ∙ ap (λ n. get_or (texts_of all) n []) same)

-- and one without
pub table_none : (tokens : List Token) → length tokens < 1 → wrong BadToken ≡ table_line (texts_of tokens)
unfolding table_line
table_none [] h = refl
table_none (t ∷ tokens) h = absurd (omega arith)

-- the texts of tokens are bindings
pub bindings_seen : (tokens : List Token)
    → list_all is_whole (map binding_of (texts_of tokens)) ≡ list_all (λ (t : Token). is_binding t.text.now) tokens
bindings_seen tokens = list_all-map is_whole binding_of (texts_of tokens) ∙ list_all-map is_binding (λ (t : Token). t.text.now) tokens

-- the texts of a line's tokens, as they are read
pub texts_seen : (line : TextLine) → texts (line_of line) ≡ texts_of line.tokens.items
texts_seen line = map-map (λ (p : Piece). p.text) piece_of line.tokens.items

-- what a line says, without the places of its tokens
abbrev said_text : Line → Said
said_text line = record {
  number = line.number;
  says = statement_of line.tokens;
  wide = list_any (λ token. nat_lt 255 (length token)) line.tokens;
}

said_alike : (lines : List PlacedLine) → map said lines ≡ map said_text (map text_line lines)
said_alike [] = refl
said_alike (line ∷ lines) =
    let wide = list_any-map (λ (token : Name). nat_lt 255 (length token)) (λ (p : Piece). p.text) line.tokens in
    rw (wide, said_alike lines) refl

-- what lines say, as they are read
pub lines_said : (lines : List TextLine) (bytes : List ℕ) → lines_seen lines ≡ placed_lines bytes
    → map (λ (l : TextLine). said (line_of l)) lines ≡ said_lines bytes
lines_said lines bytes e =
    sym (map-map said line_of lines) ∙ ap (map said) e ∙ said_alike (placed_lines bytes) ∙ ap (map said_text) (lines_texts bytes)
