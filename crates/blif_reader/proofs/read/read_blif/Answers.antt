use Rattle.std.proofs.Common.{ap, sym, subst, ◌∙◌, Ok, Err}
use Rattle.std.proofs.lemmas.Result.{err_from_is_err_and}
use Rattle.fm_base.specs.Answers.{Gives}
use Rattle.net_names.proofs.Answers.{gives_same}
use Rattle.blif_model.specs.Net.{netlist_of}
use Rattle.blif_model.proofs.FileNetlist.{netlist-is}
use Rattle.blif_reader.specs.Stages.{file_gives}
use Rattle.blif_reader.proofs.Reading.{file_is, gives_unread}
use Rattle.blif_reader.proofs.read.read_blif.Goals as goal

pub returns-in_err-list : goal.returns-in_err-list
returns-in_err-list c =
    let p = err_from_is_err_and c.from_residual.result c.from_residual.ensures.1 in
    subst (Gives (netlist_of c.args.bytes.now)) (sym (p.1 ∙ ap Err p.2)) (gives_unread c.args.bytes.now c.in_err-list.field-0.0 c.in_err-list.ensures)

pub read_table-requires : goal.read_table-requires
read_table-requires c =
    let read = c.in_ok-list.ensures ∙ ap Ok (sym (c.in_ok-table.ensures ∙ c.in_ok-models.ensures)) in
    λ p e. netlist-is c.args.bytes.now p (file_is c.args.bytes.now ∙ ap file_gives read ∙ e)

pub returns : goal.returns
returns c =
    let read = c.in_ok-list.ensures ∙ ap Ok (sym (c.in_ok-table.ensures ∙ c.in_ok-models.ensures)) in
    gives_same _ _ c.read_table.result (file_is c.args.bytes.now ∙ ap file_gives read) c.read_table.ensures
