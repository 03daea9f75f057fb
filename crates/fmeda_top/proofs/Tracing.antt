-- What `trace` tells of the waves that are asked for.
use Rattle.std.proofs.Common.{◌≡◌, ◌∙◌, ap, subst, sym, ℕ, List, [], Ok, Err}
use Rattle.std.specs.Prelude.{Option, Some, None, Result}
use Rattle.fm_base.specs.Names.{Bytes}
use Rattle.circuit.specs.Circuit.{Circuit}
use Rattle.workload.specs.declared.run.Run.{Run}
use Rattle.campaign_plan.specs.declared.Settings.{Settings}
use Rattle.wave_dump.specs.Asked.{waves_asked}
use Rattle.wave_dump.specs.Dump.{Waves, dump_text}
use Rattle.wave_dump.specs.declared.DumpFault.{DumpFault}
use Rattle.wave_dump.specs.declared.DumpFault.TheVariants.{NoRun, NoFault, NoNet}
use Rattle.commands.specs.declared.command.Task.TheVariants as task
use Rattle.refusals.specs.declared.status.Status.{Status}
use Rattle.refusals.specs.Refusals.{IsPlain}
use Rattle.command_reads.specs.FirstRefusal.{Driven}
use Rattle.fmeda_top.specs.TaskRefusals.{not_there, refusal_in, task_refusal}
use Rattle.fmeda_top.specs.Ends.{text_of}

module _ (c : Circuit) (runs : List Run) (set : Settings) (run : ℕ) (fault nets : Option Bytes) where
  -- nothing is refused, and the text is the dump of the waves
  pub waves_told : (waves : Waves) → waves_asked c runs set.flips set.pulses run fault nets ≡ Ok waves
      → (task_refusal (task.Trace run fault nets) (Driven c runs set) ≡ None) × (text_of (task.Trace run fault nets) (Driven c runs set) ≡ Some (dump_text waves))
  waves_told waves is = (
    ap (refusal_in not_there) is,
    ap (λ (answer : Result Waves DumpFault). Some (elim answer [ Ok w ↦ dump_text w | Err why ↦ [] ])) is,
  )

  not_there_is_plain : (why : DumpFault) → IsPlain (not_there why)
  not_there_is_plain NoRun = tt
  not_there_is_plain NoFault = tt
  not_there_is_plain NoNet = tt

  -- the refusal is that of the waves
  pub waves_refused : (why : DumpFault) (ended : Status) → waves_asked c runs set.flips set.pulses run fault nets ≡ Err why → ended ≡ not_there why
      → (task_refusal (task.Trace run fault nets) (Driven c runs set) ≡ Some ended) × IsPlain ended
  waves_refused why ended is told = (ap (refusal_in not_there) is ∙ ap Some (sym told), subst IsPlain (sym told) (not_there_is_plain why))
