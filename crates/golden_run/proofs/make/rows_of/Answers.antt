use Rattle.std.proofs.Common.{◌≡◌, ◌+◌, ◌-◌, ◌/◌, ◌%◌, ◌++◌, [], ℕ, List, length, get_or, refl, rules, ap, sym, ◌∙◌, arith}
use Rattle.std.proofs.lemmas.List.{get_or-append_right, get_or_append_left, length-append}
use Rattle.circuit.proofs.Steps.{raw_state-zero}
use Rattle.fm_base.specs.Planes.{bit}
use Rattle.workload.specs.Runs.{run_at}
use Rattle.golden_run.specs.Simulated.{HasRun}
use Rattle.golden_run.proofs.RowLemmas.{no_rows, row_more}
use Rattle.golden_run.proofs.make.rows_of.Goals as goal

pub loop-t-init : goal.loop-t-init
loop-t-init c =
    let circuit = c.args.wiring.now.netlist.now in
    let run = run_at c.args.work.now c.args.run in
    record {
      made = c.start.ensures.made;
      raw = c.start.ensures.raw ∙ sym (raw_state-zero circuit [] run.vectors);
      rows = no_rows circuit run (length circuit.drivers / 64 + 1) c.in_ok-words.words.items c.in_ok-words.ensures.items;
    }

pub loop-t-preserved : goal.loop-t-preserved
loop-t-preserved c =
    let circuit = c.args.wiring.now.netlist.now in
    let run = run_at c.args.work.now c.args.run in
    let t = c.loop-t.t in
    let words = c.loop-t.words.items in
    let row = c.cycle.new.self.values.row.items in
    let next = c.extend.new.v.items in
    let has : HasRun circuit run.vectors t c.cycle.new.self = c.cycle.ensures.run run.vectors t c.vector.ensures c.loop-t.invariant.raw in
    let added : next ≡ words ++ c.deref.result.now = search rules in
    let more : next ≡ words ++ row = added ∙ ap (λ (last : List ℕ). words ++ last) c.deref.ensures.value in
    record {
      made = c.cycle.ensures.made;
      raw = has.raw;
      rows = row_more circuit run (length circuit.drivers / 64 + 1) t words next c.loop-t.invariant.rows refl
          (ap (λ (ws : List ℕ). length ws) more ∙ length-append words row ∙ ap (λ n. length words + n) c.cycle.ensures.made.values.sizes.row)
          (λ i less. ap (λ (ws : List ℕ). get_or ws i 0) more ∙ get_or_append_left words row 0 i less)
          (λ net within.
          let back : length words + net / 64 - length words ≡ net / 64 = omega arith in
          ap (λ (ws : List ℕ). bit (get_or ws (length words + net / 64) 0) (net % 64)) more
          ∙ ap (λ w. bit w (net % 64)) (get_or-append_right words row (length words) (length words + net / 64) 0 refl (omega arith) ∙ ap (λ i. get_or row i 0) back)
          ∙ has.row net within);
    }
