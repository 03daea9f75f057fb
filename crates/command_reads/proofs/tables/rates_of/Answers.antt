use Rattle.commands.specs.declared.command.Which.TheVariants.{Rates}
use Rattle.command_reads.specs.Files.{reads_by}
use Rattle.command_reads.proofs.Wholes.{short_whole}
use Rattle.command_reads.proofs.tables.rates_of.Goals as goal

pub read_rates-requires : goal.read_rates-requires
read_rates-requires c = short_whole Rates (reads_by c.args.reads.now) c.in_ok-whole.field-0.now c.requires c.in_ok-whole.ensures
