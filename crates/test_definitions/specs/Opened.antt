-- What an answer unfolds to compute the definitions on a literal.
use Rattle.std.specs.Prelude.{⊤}
use Rattle.std.specs.Fmt.{digits}
use Rattle.csv.specs.Machine.{next_record}
use Rattle.csv.specs.Reading.{records_from, strip_bom}
use Rattle.circuit.specs.Value.{val}
use Rattle.circuit.specs.Trace.{raw_state}
use Rattle.fm_base.specs.Lists.{below, some_below, firsts}
use Rattle.fm_base.specs.Firsts.{first_where, first_after}
use Rattle.fm_base.specs.Planes.{plane_below}
use Rattle.fm_base.specs.Text.{hex}
use Rattle.blif_text.specs.Lines.{lines_of, bare, joined}
use Rattle.blif_text.specs.Placed.{placed_lines, placed, placed_joined}
use Rattle.blif_model.specs.Statement.{statement_of, directive_line, table_line}
use Rattle.blif_model.specs.LineFault.{line_fault, kind_of, is_inside, table_above, plane_above}
use Rattle.blif_model.specs.Models.{file_models, models_of, items_of, rows_below, formals, formal_inputs, instances, reaches, has_nest, sum_over_instances}
use Rattle.blif_model.specs.Walk.{walk, enter, steps_from, net_of, visits_of, clock_names, nets_of, drives_of}
use Rattle.blif_model.specs.ModelFault.{model_fault, two_models, unknown_model, bad_formal, unbound, recursive, too_deep, too_large}
use Rattle.blif_model.specs.WalkFault.{walk_fault, two_clocks, bad_clock, clock_read, two_drivers, undriven}
use Rattle.blif_model.specs.Net.{bad_net, netlist_of, circuit_of, input_names_of, table_names_of, latch_names_of, output_names_of}
use Rattle.bench_reader.specs.Tokens.{tokens_of}
use Rattle.bench_reader.specs.Gates.{gate_named, odd_rows}
use Rattle.bench_reader.specs.Statement.{statement_of as bench_statement_of}
use Rattle.bench_reader.specs.LineFault.{said_lines as bench_said_lines, line_fault as bench_line_fault}
use Rattle.bench_reader.specs.Net.{nets_of as bench_nets_of, inputs_of, driven_of, drivers_of as bench_drivers_of, circuit_of as bench_circuit_of}
use Rattle.bench_reader.specs.NetFault.{too_large as bench_too_large, two_drivers as bench_two_drivers, undriven as bench_undriven}
use Rattle.bench_reader.specs.Bench.{bench_of}
use Rattle.collapse_map.specs.Fixed.{fixed_value}
use Rattle.collapse_map.specs.Next.{readings, next_fault, follow}
use Rattle.collapse_map.specs.Collapsed.{rep_of, rep_count}
use Rattle.fault_list.specs.Faults.{faults_for}
use Rattle.workload.specs.WorkloadFile.{row_fault, workloads, workload_of}
use Rattle.alarm_points.specs.PointsFile.{row_fault as alarm_points_row_fault, points_of}
use Rattle.alarm_points.specs.Interval.{goes_unalarmed}
use Rattle.rate_table.specs.Rate.{units_of}
use Rattle.rate_table.specs.RatesFile.{row_fault as rate_table_row_fault, rates_of}
use Rattle.campaign_plan.specs.Danger.{is_dangerous, is_noticed}
use Rattle.campaign_plan.specs.Weights.{weight}
use Rattle.campaign_plan.specs.PlanFaults.{plan_refusal}
use Rattle.campaign_plan.specs.Batches.{outcome_of, own_sums}
use Rattle.held_inputs.specs.HeldFile.{row_fault as held_inputs_row_fault, held_of}
use Rattle.result_file.specs.ResultText.{header_text, row_text, result_rows}
use Rattle.result_file.specs.KeptRows.{hex_value, row_fault as result_file_row_fault, kept}
use Rattle.fmeda_report.specs.Report.{sizes_line, part_line, metric_lines, fault_line, report, summary}
use Rattle.sample_gen.specs.Sample.{netlist_text, workload_text, rates_text, points_text}
use Rattle.result_merge.specs.Merged.{merged}
use Rattle.result_merge.specs.Parts.{part_batches}
use Rattle.pair_list.specs.Chosen.{pair_refusal}
use Rattle.pair_campaign.specs.PairPlanes.{pair_planes}
use Rattle.pair_campaign.specs.PairText.{pairs_text, text_by_planes}
use Rattle.class_table.specs.ClassTable.{classes_text}
use Rattle.refusals.specs.Texts.{check_text}
use Rattle.refusals.specs.NetlistFile.{netlist_in}
use Rattle.refusals.specs.RefusalLines.{refusal_line}
use Rattle.command_reads.specs.FirstRefusal.{netlist_step, plan_of, runless_plan_of, classes_plan_of, judge}
use Rattle.command_reads.specs.Answers.{plan_behind, both_behind}

unfoldable pub opened : ⊤
unfolding tokens_of gate_named odd_rows bench_statement_of bench_said_lines bench_line_fault bench_nets_of inputs_of driven_of bench_drivers_of bench_circuit_of bench_too_large bench_two_drivers bench_undriven bench_of fixed_value readings next_fault follow rep_of rep_count netlist_in digits next_record records_from strip_bom val raw_state below some_below firsts first_where first_after plane_below hex lines_of placed bare joined statement_of directive_line table_line line_fault kind_of is_inside table_above plane_above file_models models_of items_of rows_below formals formal_inputs instances reaches has_nest sum_over_instances walk enter steps_from net_of visits_of clock_names nets_of drives_of model_fault two_models unknown_model bad_formal unbound recursive too_deep too_large walk_fault two_clocks bad_clock clock_read two_drivers undriven bad_net netlist_of circuit_of input_names_of table_names_of latch_names_of output_names_of faults_for row_fault workloads workload_of alarm_points_row_fault points_of goes_unalarmed units_of rate_table_row_fault rates_of held_inputs_row_fault held_of is_dangerous is_noticed weight plan_refusal outcome_of own_sums header_text row_text result_rows hex_value result_file_row_fault kept sizes_line part_line metric_lines fault_line report summary netlist_text workload_text rates_text points_text classes_text check_text refusal_line netlist_step plan_behind plan_of runless_plan_of classes_plan_of judge both_behind merged part_batches pair_refusal pair_planes pairs_text text_by_planes placed_lines placed_joined
opened = tt
