use Rattle.std.proofs.Common.{◌≡◌, [], inl, inr, true, length, ap, subst, ◌∙◌, arith}
use Rattle.std.proofs.lemmas.Bool.{cases_lt}
use Rattle.circuit.specs.Circuit.{Circuit}
use Rattle.circuit.specs.Trace.{trace}
use Rattle.golden_difference.specs.Beside.{IsGoldenRow}
use Rattle.workload.specs.Runs.{run_at}
use Rattle.testbench.specs.Seen.{is_seen}
use Rattle.testbench.proofs.SeenMore.{seen_now, seen_still}
use Rattle.testbench.proofs.stretches.see_cycles.Goals as goal

pub loop-t-preserved : goal.loop-t-preserved
loop-t-preserved c =
    let inv = c.loop-t.invariant in
    let circuit = c.args.net.now in
    let run = run_at c.args.golden.now.runs c.args.run in
    let t = c.loop-t.t in
    let row = c.row.result.now in
    let old = c.loop-t.seen in
    let new = c.see.new.self in
    record {
      room = c.see.ensures.room (length circuit.drivers) inv.room;
      seen = λ u net from lt within.
          let ones = c.see.ensures.ones net (inv.room.ones net within) in
          let zeros = c.see.ensures.zeros net (inv.room.ones net within) in
          let golden : IsGoldenRow circuit run.vectors t row = subst (λ (m : Circuit). IsGoldenRow m run.vectors t row) c.requires.circuit c.row.ensures in
          elim (cases_lt u t) as (λ _. is_seen new net (trace circuit [] run.vectors u net) ≡ true) [
            | inl less ↦ seen_still old new row net ones zeros (trace circuit [] run.vectors u net) (inv.seen u net from less within)
            | inr most ↦
                (let now : t ≡ u = omega (arith, lt, most) in
                seen_now old new row net ones zeros (trace circuit [] run.vectors u net) (golden net within ∙ ap (λ n. trace circuit [] run.vectors n net) now))
          ];
    }
