use Rattle.std.proofs.Common.{◌≡◌, ◌++◌, ◌+◌, ◌<◌, ◌^◌, length}
use Rattle.std.specs.Prelude.{filter}
use Rattle.blif_text.specs.Lines.{is_white}
use Rattle.blif_text.specs.Placed.{has_bytes, pieces}
use Rattle.blif_text.specs.Read.{pieces_of}
use Rattle.blif_text.proofs.tokens.put_tokens.Given as goal

abbrev pub invariant-pieces : goal.invariant-pieces
invariant-pieces l = record {
  fits : l.start + length l.rest < 2 ^ 31;
  told : pieces_of l.tokens.items ++ filter has_bytes (pieces is_white l.start l.rest) ≡ pieces_of l.initial.tokens.items
      ++ filter has_bytes (pieces is_white l.place l.text);
}

abbrev pub decreases-pieces : goal.decreases-pieces
decreases-pieces l = length l.rest
