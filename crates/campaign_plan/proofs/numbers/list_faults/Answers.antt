use Rattle.std.proofs.Common.{◌<◌, ◌^◌, Err, subst, sym, ap, ap₂, arith, length}
use Rattle.fault_list.specs.Answers.{AnswersFaults}
use Rattle.fault_list.specs.declared.FaultRefusal.{FaultRefusal}
use Rattle.fault_list.specs.Faults.{AreCycles, faults_of}
use Rattle.fault_list.specs.Kept.{most_flips}
use Rattle.fault_list.proofs.Stretches.{are_cycles}
use Rattle.campaign_plan.specs.Making.{analysis}
use Rattle.campaign_plan.proofs.Refusing.{refused_many}
use Rattle.campaign_plan.proofs.numbers.list_faults.Goals as goal

pub new-requires-clause-flips : goal.new-requires-clause-flips
new-requires-clause-flips c =
    let set = c.args.p.now.set in
    subst (AreCycles most_flips) (sym c.as_slice-flips.ensures) (are_cycles set.stretch set.flips c.requires.flips)

pub returns-in-Err-TooMany : goal.returns-in-Err-TooMany
returns-in-Err-TooMany c =
    let same = ap length (ap₂ (faults_of c.args.p.now.net) c.as_slice-flips.ensures c.as_slice.ensures) in
    let many : 2 ^ 20 < length (faults_of c.args.p.now.net c.as_slice-flips.result.now c.as_slice.result.now) =
    subst (λ (e : FaultRefusal). AnswersFaults (faults_of c.args.p.now.net c.as_slice-flips.result.now c.as_slice.result.now) (Err e)) c.in-Err-TooMany.field-0-is c.in-Err-TooMany.ensures in
    refused_many (analysis c.args.p.now) (omega (arith, same, many))
