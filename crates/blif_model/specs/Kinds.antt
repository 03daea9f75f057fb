-- The kinds of refusal of a directive that is wrong by itself.
use Rattle.blif_text.specs.declared.NetlistKind.{NetlistKind}
use Rattle.blif_text.specs.declared.NetlistKind.TheVariants as kinds
use Rattle.blif_model.specs.declared.says.Malformed.{Malformed}
use Rattle.blif_model.specs.declared.says.Malformed.TheVariants.{BadToken, Directive, BadLatch, LevelLatch}

abbrev pub kind_of_malformed : Malformed → NetlistKind
kind_of_malformed BadToken = kinds.BadToken
kind_of_malformed Directive = kinds.Directive
kind_of_malformed BadLatch = kinds.BadLatch
kind_of_malformed LevelLatch = kinds.LevelLatch
