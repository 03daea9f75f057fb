use Rattle.std.proofs.Common.{◌≢◌, ◌<◌, List, [], length, ◌∙◌, arith, below_more, get_or-set_other, get_or-set_same}
use Rattle.latency_table.specs.Latency.{latency_at}
use Rattle.latency_table.specs.declared.latency.Latency.{Latency}
use Rattle.latency_table.proofs.runs.forget.Goals as goal

pub loop-j-preserved : goal.loop-j-preserved
loop-j-preserved c =
    let i = c.loop-j.j in
    let latencies : List Latency = c.loop-j.latencies in
    let none : Latency = latency_at [] 0 in
    let within : i < length latencies = omega (arith, c.loop-j-test.true, c.loop-j.auto.latencies) in
    below_more _ _
    (λ m before. let apart : m ≢ i = omega (arith, before) in get_or-set_other latencies i m none none apart ∙ c.loop-j.invariant m before)
    (get_or-set_same latencies i none none within)
