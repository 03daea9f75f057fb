-- The number of a node that is done.
use Rattle.std.specs.Prelude.{ℕ}
use Rattle.blif_hierarchy.specs.declared.scan.Mark.{Mark}
use Rattle.blif_hierarchy.specs.declared.scan.Mark.TheVariants.{New, Open, Done}

abbrev pub node_number : Mark → ℕ
node_number New = 0
node_number (Open place) = 0
node_number (Done number) = number
