use Rattle.std.proofs.Common.{◌∙◌, ap}
use Rattle.std.specs.Prelude.{filter_map}
use Rattle.std.proofs.lemmas.Result.{IfOk-weaker}
use Rattle.blif_flatten.specs.declared.flat.NumberedStep.{NumberedStep}
use Rattle.blif_reader.specs.Parts.{latch_in, table_in}
use Rattle.blif_reader.proofs.NamedParts.{all_cells}
use Rattle.blif_reader.proofs.parts.cells_of.Goals as goal

pub returns-clause-tables : goal.returns-clause-tables
returns-clause-tables c = IfOk-weaker c.take_cells.result _ _ (λ cells e.
    let flat = c.args.flat.now in
    e ∙ ap (filter_map (λ (s : NumberedStep). table_in c.args.numbers.now s.act)) c.as_slice.ensures.value
    ∙ (all_cells flat c.args.numbers.now c.requires flat.steps.items flat.is_flat.within).0) c.take_cells.ensures.tables

pub returns-clause-latches : goal.returns-clause-latches
returns-clause-latches c = IfOk-weaker c.take_cells.result _ _ (λ cells e.
    let flat = c.args.flat.now in
    e ∙ ap (filter_map (λ (s : NumberedStep). latch_in c.args.numbers.now s.act)) c.as_slice.ensures.value
    ∙ (all_cells flat c.args.numbers.now c.requires flat.steps.items flat.is_flat.within).1) c.take_cells.ensures.latches
