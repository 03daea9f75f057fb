use Rattle.std.proofs.Common.{[], sym, ◌∙◌}
use Rattle.std.proofs.lemmas.List.{append-nil}
use Rattle.blif_text.specs.Lines.{is_white}
use Rattle.blif_text.specs.Read.{pieces_of}
use Rattle.blif_text.proofs.Cuts.{pieces_last}
use Rattle.blif_text.proofs.tokens.put_tokens.Goals as goal

pub returns-then-n-rest : goal.returns-then-n-rest
returns-then-n-rest c =
    let last =
    pieces_last is_white c.pieces.start c.pieces.rest.now c.white_place-n.result c.white_place-n.ensures.place c.if-n-rest.true in
    sym (append-nil (pieces_of c.put_token.new.tokens.items)) ∙ c.in_ok-put_token.ensures [] ∙ (rw last at c.pieces.invariant.told)
