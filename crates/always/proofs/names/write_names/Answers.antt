use Rattle.std.proofs.Common.{◌≡◌, ◌<◌, ℕ, length, ap, ◌∙◌, arith}
use Rattle.std.specs.List.{flat_map}
use Rattle.std.proofs.lemmas.Result.{err_from_is_err_and}
use Rattle.fm_base.specs.Lists.{below}
use Rattle.fm_base.specs.Names.{Bytes}
use Rattle.campaign_plan.specs.Analysis.{fault_count}
use Rattle.fm_shelf.proofs.Sending.{sends_as, sends_no_number, sends_number, sends_number_torn}
use Rattle.always.specs.Text.{named_line}
use Rattle.always.specs.Verdict.{verdict_at}
use Rattle.always.proofs.names.write_names.Goals as goal

pub loop-i-init : goal.loop-i-init
loop-i-init g c =
    let text : ℕ → Bytes = named_line c.args.plan.now (verdict_at c.args.plan.now c.args.from c.args.answers.now) c.args.kind c.args.word.now in
    sends_no_number text _

pub loop-i-preserved : goal.loop-i-preserved
loop-i-preserved g c =
    let text : ℕ → Bytes = named_line c.args.plan.now (verdict_at c.args.plan.now c.args.from c.args.answers.now) c.args.kind c.args.word.now in
    sends_number text c.loop-i.i c.loop-i.invariant c.in_ok-write_if_named.ensures

pub returns-in_err-write_if_named : goal.returns-in_err-write_if_named
returns-in_err-write_if_named g c =
    let p = err_from_is_err_and c.from_residual.result c.from_residual.ensures.1 in
    let plan = c.args.plan.now in
    let text : ℕ → Bytes = named_line plan (verdict_at plan c.args.from c.args.answers.now) c.args.kind c.args.word.now in
    let count : c.len-i-end.result ≡ fault_count plan = c.len-i-end.ensures.count ∙ ap length c.faults.ensures.value in
    let lt : c.loop-i.i < fault_count plan = omega (arith, count, c.loop-i-test.true) in
    rw p.1 (sends_number_torn text (fault_count plan) c.loop-i.i p.0 lt c.loop-i.invariant c.in_err-write_if_named.ensures)

pub returns : goal.returns
returns g c =
    let plan = c.args.plan.now in
    let text : ℕ → Bytes = named_line plan (verdict_at plan c.args.from c.args.answers.now) c.args.kind c.args.word.now in
    let count : c.len-i-end.result ≡ fault_count plan = c.len-i-end.ensures.count ∙ ap length c.faults.ensures.value in
    let end : c.loop-i.i ≡ fault_count plan = omega (arith, count, c.loop-i-test.false, c.loop-i.auto.i-end) in
    sends_as (ap (λ n. flat_map text (below n)) end) c.loop-i.invariant
