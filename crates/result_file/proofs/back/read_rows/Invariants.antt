use Rattle.result_file.specs.KeptRows.{whole_pieces}
use Rattle.result_file.proofs.Pieces.{HasRead}
use Rattle.result_file.proofs.back.read_rows.Given as goal

abbrev pub invariant-loop-k : goal.invariant-loop-k
invariant-loop-k l = HasRead l.plan (whole_pieces l.bytes) l.k l.rows l.sums
