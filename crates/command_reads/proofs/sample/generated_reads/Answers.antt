use Rattle.std.proofs.Common.{◌∙◌, ap}
use Rattle.commands.specs.declared.command.Which.TheVariants as which
use Rattle.command_reads.specs.Files.{given}
use Rattle.command_reads.proofs.sample.generated_reads.Goals as goal

-- each text was put, and stayed while the others were
pub returns-clause-read : goal.returns-clause-read
returns-clause-read c = λ before after names. (
  c.put-4.ensures.others which.Netlist (λ e. cc) ∙ c.put-3.ensures.others which.Netlist (λ e. cc) ∙ c.put-2.ensures.others which.Netlist (λ e. cc)
      ∙ c.put.ensures.put ∙ c.given_read.ensures ∙ ap given c.in_ok-netlist_text.ensures,
  (
    c.put-4.ensures.others which.Workload (λ e. cc) ∙ c.put-3.ensures.others which.Workload (λ e. cc) ∙ c.put-2.ensures.put ∙ c.given_read-2.ensures
        ∙ ap given c.in_ok-workload_text.ensures,
    (
      c.put-4.ensures.others which.Rates (λ e. cc) ∙ c.put-3.ensures.put ∙ c.in_ok-copied_read.ensures ∙ ap given c.rates_text.ensures,
      (c.put-4.ensures.put ∙ c.in_ok-copied_read-2.ensures ∙ ap given c.points_text.ensures, tt),
    ),
  ),
)
