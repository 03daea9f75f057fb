use Rattle.std.proofs.Common.{◌≡◌, take}
use Rattle.fmeda_top.specs.Written.{rows_file}
use Rattle.fmeda_top.proofs.merge.file_with.Given as goal

-- the file has the rows before this one
abbrev pub invariant-loop-row : goal.invariant-loop-row
invariant-loop-row l = l.file.items ≡ rows_file l.own (take l.row-index l.rows)
