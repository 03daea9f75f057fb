use Rattle.std.proofs.Common.{◌≡◌, ◌<◌, ◌≤◌, List, [], Some, find, length, ap, sym, ◌∙◌, arith, take_all}
use Rattle.std.proofs.lemmas.List.{get_or_default}
use Rattle.circuit.specs.declared.parts.NetId.{NetId}
use Rattle.readings.specs.Laws.{is_at}
use Rattle.fault_runs.specs.declared.record.AlarmCycles.{AlarmCycles}
use Rattle.fault_runs.specs.First.{first_of}
use Rattle.fault_runs.specs.Records.{alarm_cycles}
use Rattle.latency_table.proofs.Lists.{find_here, find_none_more}
use Rattle.latency_table.proofs.shows.first_point.Goals as goal
use Rattle.testbench.specs.Points.{alarm_at}

pub returns-then-is_first_at : goal.returns-then-is_first_at
returns-then-is_first_at c = λ first same.
    let nets = c.args.nets.now in
    let i = c.loop-a.a in
    let lt : i < length nets = c.loop-a-test.true in
    let none = alarm_at [] 0 in
    let within : i < length c.args.alarms.now = omega (arith, lt, c.requires.count) in
    let own : c.is_first_at.result ≡ is_at (first (alarm_at nets i)) c.args.cycle =
    c.is_first_at.ensures
    ∙ ap (λ (a : AlarmCycles). is_at (first_of a.raised c.args.fault) c.args.cycle) (c.index-alarms-a.is ∙ get_or_default c.args.alarms.now i c.index-alarms-a.result (alarm_cycles [] 0) within)
    ∙ ap (λ o. is_at o c.args.cycle) (same i lt) in
    ap (λ (n : NetId). Some n) (get_or_default nets i _ none lt)
    ∙ sym (find_here (λ net. is_at (first net) c.args.cycle) nets i none lt (c.loop-a.invariant first same) (sym own ∙ c.if-is_first_at.true))

pub loop-a-preserved : goal.loop-a-preserved
loop-a-preserved c = λ first same.
    let nets = c.args.nets.now in
    let i = c.loop-a.a in
    let lt : i < length nets = c.loop-a-test.true in
    let within : i < length c.args.alarms.now = omega (arith, lt, c.requires.count) in
    let own : c.is_first_at.result ≡ is_at (first (alarm_at nets i)) c.args.cycle =
    c.is_first_at.ensures
    ∙ ap (λ (a : AlarmCycles). is_at (first_of a.raised c.args.fault) c.args.cycle) (c.index-alarms-a.is ∙ get_or_default c.args.alarms.now i c.index-alarms-a.result (alarm_cycles [] 0) within)
    ∙ ap (λ o. is_at o c.args.cycle) (same i lt) in
    find_none_more (λ net. is_at (first net) c.args.cycle) nets i (alarm_at [] 0) lt (c.loop-a.invariant first same) (sym own ∙ c.if-is_first_at.false)

pub returns : goal.returns
returns c = λ first same.
    let done : length c.args.nets.now ≤ c.loop-a.a = c.loop-a-test.false in
    sym (c.loop-a.invariant first same) ∙ ap (λ (nets : List NetId). find (λ net. is_at (first net) c.args.cycle) nets) (take_all c.loop-a.a c.args.nets.now done)
