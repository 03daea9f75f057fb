-- The texts of tokens.
use Rattle.std.specs.Prelude.{List, map}
use Rattle.fm_base.specs.Names.{Name}
use Rattle.blif_text.specs.declared.token.Token.{Token}

abbrev pub texts_of : List Token → List Name
texts_of tokens = map (λ t. t.text.now) tokens
