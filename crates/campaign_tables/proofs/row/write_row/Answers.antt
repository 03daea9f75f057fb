use Rattle.std.proofs.Common.{◌∷◌, [], ◌∙◌, ap}
use Rattle.std.specs.List.{flat_map}
use Rattle.std.proofs.lemmas.Result.{err_from_is_err_and}
use Rattle.fault_list.specs.Faults.{fault_at, fault_name}
use Rattle.fm_shelf.proofs.Sending.{sends_as, sends_stop, sends_then}
use Rattle.campaign_tables.specs.Csv.{csv_field}
use Rattle.campaign_tables.specs.FaultSteps.{further_fields}
use Rattle.campaign_tables.proofs.Quoting.{after_comma, row_is}
use Rattle.campaign_tables.proofs.row.write_row.Goals as goal

pub returns-in_err-write_name : goal.returns-in_err-write_name
returns-in_err-write_name g c =
    let p = err_from_is_err_and c.from_residual.result c.from_residual.ensures.1 in
    let fault = c.fault.ensures ∙ ap (λ fs. fault_at fs c.args.i) c.faults.ensures.value in
    rw p.1 (sends_as (row_is c.args.plan.now c.args.planes c.args.i)
    (sends_stop (10 ∷ []) p.0 (sends_stop (flat_map after_comma (further_fields c.args.plan.now c.args.planes c.args.i)) p.0
    (sends_as (λ j. csv_field (fault_name (c.net.ensures.value j) (fault j))) c.in_err-write_name.ensures))))

pub returns-in_err-write_rest : goal.returns-in_err-write_rest
returns-in_err-write_rest g c =
    let p = err_from_is_err_and c.from_residual-in_err-write_rest.result c.from_residual-in_err-write_rest.ensures.1 in
    let fault = c.fault.ensures ∙ ap (λ fs. fault_at fs c.args.i) c.faults.ensures.value in
    rw p.1 (sends_as (row_is c.args.plan.now c.args.planes c.args.i) (sends_stop (10 ∷ []) p.0 (sends_then
    (sends_as (λ j. csv_field (fault_name (c.net.ensures.value j) (fault j))) c.in_ok-write_name.ensures) c.in_err-write_rest.ensures)))

pub returns : goal.returns
returns g c =
    let fault = c.fault.ensures ∙ ap (λ fs. fault_at fs c.args.i) c.faults.ensures.value in
    let wrote = c.write_all.ensures in
    sends_as (row_is c.args.plan.now c.args.planes c.args.i) (sends_then (sends_then
    (sends_as (λ j. csv_field (fault_name (c.net.ensures.value j) (fault j))) c.in_ok-write_name.ensures) c.in_ok-write_rest.ensures)
    wrote)
