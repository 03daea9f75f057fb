use Rattle.std.proofs.Common.{◌<◌, ◌∙◌, ap, length, get_or, List, ℕ, arith}
use Rattle.std.specs.Prelude.{Option}
use Rattle.circuit.specs.declared.parts.Latch.{Latch}
use Rattle.campaign_tables.specs.PartTable.{row_of_net}
use Rattle.campaign_tables.specs.Counted.{row_in_list}
use Rattle.campaign_tables.proofs.Looking.{latch_within, latches_push, length_rows, no_latch, row_there}
use Rattle.campaign_tables.proofs.look.rows_of_latches.Goals as goal

pub bounds-rows-latch : goal.bounds-rows-latch
bounds-rows-latch c =
    let net = c.args.net.now in
    let i = c.loop-latch.latch-index in
    let lt : i < length net.latches = omega (arith, c.loop-latch-test.true, ap length c.latches-latch-items.ensures.value) in
    let within = latch_within net c.latches-latch-items.ensures.sound i no_latch lt in
    let same = ap (λ (ls : List Latch). (get_or ls i no_latch).to.0) c.latches-latch-items.ensures.value in
    omega (arith, within, same, ap length c.requires, length_rows net c.args.rates.now)

pub loop-latch-preserved : goal.loop-latch-preserved
loop-latch-preserved c =
    let net = c.args.net.now in
    let i = c.loop-latch.latch-index in
    let lt : i < length net.latches = omega (arith, c.loop-latch-test.true, ap length c.latches-latch-items.ensures.value) in
    let within = latch_within net c.latches-latch-items.ensures.sound i no_latch lt in
    let here = ap (λ (ls : List Latch). row_in_list c.args.rows.now (get_or ls i no_latch).to.0) c.latches-latch-items.ensures.value
    ∙ ap (λ (rows : List (Option ℕ)). row_in_list rows (get_or net.latches i no_latch).to.0) c.requires
    ∙ row_there net c.args.rates.now (get_or net.latches i no_latch).to.0 within in
    c.in_ok-push.ensures.items
    ∙ latches_push (λ (latch : Latch). row_of_net net c.args.rates.now latch.to.0) net.latches i no_latch c.loop-latch.latches.items _ lt c.loop-latch.invariant here
