use Rattle.std.proofs.Common.{◌∙◌, ap}
use Rattle.refusals.specs.NetlistFile.{is_bench}
use Rattle.command_reads.proofs.netlist.is_bench_name.Goals as goal

pub returns : goal.returns
returns c = c.ends_with.ensures.value ∙ ap is_bench c.as_bytes.ensures.value
