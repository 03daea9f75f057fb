-- Which refusal comes first.
use Rattle.std.proofs.Common.{◌≡◌, ◌<◌, ◌≤◌, ◌^◌, true, false, ap, sym, subst, ◌∙◌, arith}
use Rattle.std.specs.Prelude.{Some, None, Result, Ok, Err, if◌then◌else◌, nat_lt}
use Rattle.std.specs.Result.{IsErr, IsErrAnd}
use Rattle.std.specs.Option.{option_or}
use Rattle.campaign_plan.specs.declared.PlanRefusal.{PlanRefusal}
use Rattle.campaign_plan.specs.declared.PlanRefusal.TheVariants.{TooManyFaults, MissingRate, IdleRate, Memory}
use Rattle.campaign_plan.specs.Analysis.{Analysis, fault_count}
use Rattle.campaign_plan.specs.declared.tables.FaultTables.{FaultTables}
use Rattle.campaign_plan.specs.Making.{HasCause, TablesGive}
use Rattle.campaign_plan.specs.PlanFaults.{plan_refusal, missing_rate, idle_rate}

pub refused_many : (p : Analysis) → 2 ^ 20 < fault_count p → plan_refusal p ≡ Some TooManyFaults
unfolding plan_refusal
refused_many p lt =
    let here : nat_lt (2 ^ 20) (fault_count p) ≡ true = grind (arith, lt) in
    ap (λ b. if b then Some TooManyFaults else option_or (missing_rate p) (idle_rate p)) here

not_many : (p : Analysis) → fault_count p ≤ 2 ^ 20 → plan_refusal p ≡ option_or (missing_rate p) (idle_rate p)
unfolding plan_refusal
not_many p le =
    let here : nat_lt (2 ^ 20) (fault_count p) ≡ false = grind (arith, le) in
    ap (λ b. if b then Some TooManyFaults else option_or (missing_rate p) (idle_rate p)) here

pub rates_whole : (p : Analysis) → fault_count p ≤ 2 ^ 20 → missing_rate p ≡ None → plan_refusal p ≡ idle_rate p
rates_whole p le none = not_many p le ∙ ap (λ o. option_or o (idle_rate p)) none

rate_missing : (p : Analysis) (r : PlanRefusal) → fault_count p ≤ 2 ^ 20 → missing_rate p ≡ Some r → plan_refusal p ≡ Some r
rate_missing p r le some = not_many p le ∙ ap (λ o. option_or o (idle_rate p)) some

pub cause_missing : (p : Analysis) (r : PlanRefusal) → fault_count p ≤ 2 ^ 20 → HasCause (missing_rate p) r → HasCause (plan_refusal p) r
cause_missing p TooManyFaults le cause = rate_missing p TooManyFaults le cause
cause_missing p (MissingRate net name) le cause = rate_missing p (MissingRate net name) le cause
cause_missing p (IdleRate part permanent) le cause = rate_missing p (IdleRate part permanent) le cause
cause_missing p (Memory no_room) le cause = tt

pub cause_idle : (p : Analysis) (r : PlanRefusal) → fault_count p ≤ 2 ^ 20 → missing_rate p ≡ None → HasCause (idle_rate p) r → HasCause (plan_refusal p) r
cause_idle p r le none cause = subst (λ o. HasCause o r) (sym (rates_whole p le none)) cause

-- tables that pass a refusal on
pub passed_on : (p : Analysis) (result : Result FaultTables PlanRefusal) (e : PlanRefusal) → HasCause (plan_refusal p) e
    → IsErr result → IsErrAnd result (λ r. r ≡ e) → TablesGive p result
passed_on p (Ok tables) e cause is same = absurd (cc)
passed_on p (Err r) e cause is same = subst (HasCause (plan_refusal p)) (sym same) cause
