-- What is answered of what is asked.
use Rattle.std.proofs.Common.{◌≡◌, ◌∙◌, ap, refl, ℕ, ◌-◌, Bool, true, false, not, List, length, Ok, Err}
use Rattle.std.specs.Prelude.{Option, is_none, is_some, Result, ◌&&◌, ◌==◌, nat_le, if◌then◌else◌}
use Rattle.circuit.specs.Circuit.{Circuit}
use Rattle.circuit.specs.declared.parts.Fault.{Fault}
use Rattle.fault_list.specs.Faults.{faults_of}
use Rattle.fm_base.specs.Names.{Bytes, Name}
use Rattle.workload.specs.declared.run.Run.{Run}
use Rattle.workload.specs.Runs.{run_at}
use Rattle.wave_dump.specs.declared.DumpFault.{DumpFault}
use Rattle.wave_dump.specs.declared.DumpFault.TheVariants.{NoRun, NoFault, NoNet}
use Rattle.wave_dump.specs.Asked.{fault_given, is_pattern, nets_shown, waves_asked}
use Rattle.wave_dump.specs.Dump.{Waves}

first_refusal : Bool → Bool → Bool → Waves → Result Waves DumpFault
first_refusal a b c w = if a then Err NoRun else if b then Err NoFault else if c then Err NoNet else Ok w

module _ (c : Circuit) (runs : List Run) (flips pulses : List ℕ) (number : ℕ) (name : Option Name) (word : Option Bytes) where
  abbrev pub fault_asked : Option Fault
  fault_asked = fault_given c (faults_of c flips pulses) name

  abbrev pub nets_asked : List ℕ
  nets_asked = nets_shown c (run_at runs (number - 1)) fault_asked word

  abbrev pub waves_of : Waves
  waves_of = record { circuit = c; run = run_at runs (number - 1); fault = fault_asked; nets = nets_asked }

  abbrev pub is_late : Bool
  is_late = not (nat_le 1 number && nat_le number (length runs))

  abbrev pub is_lost : Bool
  is_lost = is_none fault_asked && is_some name

  abbrev pub is_empty : Bool
  is_empty = (length nets_asked == 0) && is_pattern fault_asked word

  asked_is : waves_asked c runs flips pulses number name word ≡ first_refusal is_late is_lost is_empty waves_of
  unfolding waves_asked first_refusal
  asked_is = refl

  pub no_run : is_late ≡ true → waves_asked c runs flips pulses number name word ≡ Err NoRun
  unfolding first_refusal
  no_run e = asked_is ∙ ap (λ a. first_refusal a is_lost is_empty waves_of) e

  pub no_fault : is_late ≡ false → is_lost ≡ true → waves_asked c runs flips pulses number name word ≡ Err NoFault
  unfolding first_refusal
  no_fault e lost =
      asked_is ∙ ap (λ a. first_refusal a is_lost is_empty waves_of) e ∙ ap (λ b. first_refusal false b is_empty waves_of) lost

  pub no_net : is_late ≡ false → is_lost ≡ false → is_empty ≡ true → waves_asked c runs flips pulses number name word ≡ Err NoNet
  unfolding first_refusal
  no_net e found none =
      asked_is ∙ ap (λ a. first_refusal a is_lost is_empty waves_of) e ∙ ap (λ b. first_refusal false b is_empty waves_of) found
      ∙ ap (λ n. first_refusal false false n waves_of) none

  pub all_there : is_late ≡ false → is_lost ≡ false → is_empty ≡ false → waves_asked c runs flips pulses number name word ≡ Ok waves_of
  unfolding first_refusal
  all_there e found some =
      asked_is ∙ ap (λ a. first_refusal a is_lost is_empty waves_of) e ∙ ap (λ b. first_refusal false b is_empty waves_of) found
      ∙ ap (λ n. first_refusal false false n waves_of) some
