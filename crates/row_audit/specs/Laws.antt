-- A law that readers of an audit lean on.
use Rattle.std.specs.Prelude.{◌≡◌, List}
use Rattle.result_file.specs.declared.Row.{Row}
use Rattle.row_audit.specs.Audited.{each_nth}

-- EACH FIRST ROW IS EACH ROW: where N is 1, an audit looks at all of them
abbrev pub EachFirstIsEach : Type 0
EachFirstIsEach = (rows : List Row) → each_nth 1 rows ≡ rows
