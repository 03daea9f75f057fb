use Rattle.row_audit.proofs.every_table.Lanes4Circuits.values.Goals as goal

pub returns : goal.returns
returns c = λ vectors t k after last lane inside. c.net.ensures vectors t k after.1 last lane inside
