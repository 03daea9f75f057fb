use Rattle.std.proofs.Common.{◌≡◌, ◌≤◌, ◌^◌, ℕ, length, ap, sym, subst, ◌∙◌, arith}
use Rattle.std.specs.Prelude.{◌==◌}
use Rattle.std.proofs.lemmas.Bool.{eq-eqb, ne_eqb}
use Rattle.campaign_plan.specs.Analysis.{fault_count}
use Rattle.always.specs.Tally.{IsTallySmall, tally_below, with_verdict}
use Rattle.always.specs.Verdict.{verdict_at}
use Rattle.always.specs.declared.verdict.Verdict.{Verdict}
use Rattle.always.proofs.Tallying.{few_told, none_told, one_told, other_told}
use Rattle.always.proofs.tally.tally_part.Goals as goal
use Rattle.always.proofs.tally.tally_part.Goals.{then-part_of_fault-number, else-part_of_fault-number}

pub loop-i-init : goal.loop-i-init
loop-i-init c = c.none-tally.ensures ∙ none_told c.args.plan.now (verdict_at c.args.plan.now c.args.from c.args.answers.now) c.args.number

pub add-requires : goal.add-requires
add-requires c =
    let p = c.args.plan.now in
    let verdict : ℕ → Verdict = verdict_at p c.args.from c.args.answers.now in
    let few : c.loop-i.i ≤ 2 ^ 20 = omega (arith, c.loop-i-test.true, c.len-i-end.ensures.count, c.len-i-end.ensures.few) in
    subst IsTallySmall (sym c.loop-i.invariant) (few_told p verdict c.args.number c.loop-i.i few)

pub loop-i-preserved : goal.loop-i-preserved
loop-i-preserved c =
    let p = c.args.plan.now in
    let i : ℕ = c.loop-i.i in
    let verdict : ℕ → Verdict = verdict_at p c.args.from c.args.answers.now in
    let test = ap (λ own. own == c.args.number) (sym c.part_of_fault.ensures.value) in
    elim c.if-part_of_fault-number.branch [
      | then-part_of_fault-number w ↦
          w.tally-is ∙ w.add.ensures ∙ (λ j. with_verdict (w.verdict_of.ensures j) (c.loop-i.invariant j)) ∙ sym (one_told p verdict c.args.number i (test ∙ eq-eqb c.part_of_fault.result c.args.number w.if-part_of_fault-number.true))
      | else-part_of_fault-number w ↦ w.tally-is ∙ c.loop-i.invariant ∙ sym (other_told p verdict c.args.number i (test ∙ ne_eqb c.part_of_fault.result c.args.number w.if-part_of_fault-number.false))
    ]

pub returns : goal.returns
returns c =
    let p = c.args.plan.now in
    let count : c.len-i-end.result ≡ fault_count p = c.len-i-end.ensures.count ∙ ap length c.faults.ensures.value in
    let end : c.loop-i.i ≡ fault_count p = omega (arith, count, c.loop-i-test.false, c.loop-i.auto.i-end) in
    c.loop-i.invariant ∙ ap (tally_below p (verdict_at p c.args.from c.args.answers.now) c.args.number) end
