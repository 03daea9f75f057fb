-- What is judged, by the kind of the command.
use Rattle.std.proofs.Common.{◌≡◌, refl, subst, sym, ℕ, List}
use Rattle.std.specs.Prelude.{Option, Result, Ok, Err}
use Rattle.fm_base.specs.Names.{Bytes}
use Rattle.circuit.specs.declared.parts.NetId.{NetId}
use Rattle.campaign_plan.specs.declared.Settings.{Settings}
use Rattle.commands.specs.declared.command.Kind.{Kind}
use Rattle.commands.specs.declared.command.Kind.TheVariants as kind
use Rattle.refusals.specs.declared.refused.Refused.{Refused}
use Rattle.refusals.specs.declared.status.Status.{Status}
use Rattle.command_reads.specs.declared.judge.Judged.{Judged as Made}
use Rattle.command_reads.specs.declared.judge.Judged.TheVariants as made
use Rattle.command_reads.specs.declared.planned.Planned.{Planned as PlannedOf}
use Rattle.command_reads.specs.Files.{Reads}
use Rattle.command_reads.specs.FirstRefusal.{Judged, Planned, judge, plan_of, ◌>>=◌}
use Rattle.command_reads.specs.Answers.{IsSound, PlansAs, TakesAs, generated_settings}
use Rattle.command_reads.specs.Judging.{AreSound, IsOfKind, JudgesAs, made_by}
use Rattle.command_reads.proofs.Steps.{taken_refused, taken_next}

-- the plan is what is judged
pub planned_is : (netlist : Bytes) (set : Settings) (reads : Reads) (walk : Option (List NetId))
    → judge netlist walk set reads kind.Planned ≡ (plan_of netlist walk set reads >>= (λ p. Ok (Planned p)))
unfolding judge
planned_is netlist set reads walk = refl

pub generated_is : (netlist : Bytes) (set : Settings) (reads : Reads) (stages : ℕ) (walk : Option (List NetId))
    → judge netlist walk set reads (kind.Generated stages) ≡ (plan_of netlist walk generated_settings reads >>= (λ p. Ok (Planned p)))
unfolding judge
generated_is netlist set reads stages walk = refl

module _ (netlist : Bytes) (set : Settings) (reads : Reads) (own as_own : Kind) (is : own ≡ as_own) where
  abbrev judges : Option (List NetId) → Result Judged Status
  judges walk = judge netlist walk set reads as_own

  -- it is refused, or made, as one of this kind
  pub refused_as : (refused : Refused) → TakesAs netlist reads judges (Err refused) → JudgesAs netlist set reads own (Err refused)
  refused_as refused takes = subst (λ k. JudgesAs netlist set reads k (Err refused)) (sym is) takes

  pub made_as : (it : Made) → TakesAs netlist reads judges (Ok (made_by it)) → IsOfKind as_own it → AreSound reads it → JudgesAs netlist set reads own (Ok it)
  made_as it takes of sound = subst (λ k. JudgesAs netlist set reads k (Ok it)) (sym is) (takes, of, sound)

  -- the plan by these settings
  module _ (by : Settings) (plans : (walk : Option (List NetId)) → judges walk ≡ (plan_of netlist walk by reads >>= (λ p. Ok (Planned p)))) where
    pub unplanned_as : (refused : Refused) → PlansAs netlist by reads (Err refused) → JudgesAs netlist set reads own (Err refused)
    unplanned_as refused planned =
        refused_as refused (taken_refused netlist reads (λ walk. plan_of netlist walk by reads) (λ p. Ok (Planned p)) judges plans refused planned)

    pub planned_as : (d : PlannedOf) → PlansAs netlist by reads (Ok d) → IsOfKind as_own (made.Planned d) → IsSound reads d
        → JudgesAs netlist set reads own (Ok (made.Planned d))
    planned_as d planned of sound =
        made_as (made.Planned d) (taken_next netlist reads (λ walk. plan_of netlist walk by reads) (λ p. Ok (Planned p)) judges plans d.plan (Planned d.plan) planned refl) of sound
