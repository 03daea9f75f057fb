use Rattle.std.proofs.Common.{ap, drop, map, subst, sym, ◌∙◌}
use Rattle.std.specs.Prelude.{string_bytes}
use Rattle.fm_shelf.specs.Outside.{Outside, outside}
use Rattle.fm_shelf.specs.Sink.{SinkState, with_more}
use Rattle.fmeda_top.specs.Promises.{Promises}
use Rattle.fmeda_top.specs.Program.{ProgramEnds, SendsOn}
use Rattle.fmeda_top.proofs.Sending.{page_begins, program_ends}
use Rattle.fmeda_top.proofs.program.program_since.Goals as goal

pub returns : goal.returns
returns g c =
    let words = map string_bytes c.args.words.now in
    let ended = c.fmeda_by-ended.result.status in
    let before : Outside = outside (g.F.Shelf.seen c.args.shelf) (g.O.Sink.seen c.args.out) in
    let shelf = g.F.Shelf.seen c.fmeda_by-ended.result.shelf in
    let first = c.new-page.result in
    let page = c.fmeda_by-ended.new.out in
    let told : SinkState = record { written = with_more (g.O.Sink.seen page.out).written (drop page.sent page.page.items); faults = (g.O.Sink.seen page.out).faults } in
    let begun = c.new-page.ensures.out ∙ c.new.ensures in
    let began = page_begins (g.O.Sink.seen c.args.out) (g.O.Sink.seen first.out) (drop first.sent first.page.items) (ap g.O.Sink.seen begun) c.new-page.ensures.waits in
    let promised = subst (λ (s : SinkState). Promises words ended (outside (g.F.Shelf.seen c.args.shelf) s) (outside shelf told)) began c.fmeda_by-ended.ensures.promises in
    let sink = c.into_sink-2.ensures.sink ∙ c.into_sink.ensures in
    let on : SendsOn before.out.written (g.O.Sink.seen c.send_rest-code.new.page.out).written =
    subst (λ earlier. SendsOn earlier (g.O.Sink.seen c.send_rest-code.new.page.out).written) (sym c.requires.earlier)
    (subst (λ (out : g.row.O.Denot). SendsOn g.N.Earlier.sent (g.O.Sink.seen out).written) sink c.into_sink-2.ensures.on) in
    subst (λ (out : g.row.O.Denot). ProgramEnds words c.send_rest-code.result before (outside shelf (g.O.Sink.seen out))) (sym sink)
    (program_ends words ended c.send_rest-code.result before shelf told (g.O.Sink.seen c.send_rest-code.new.page.out) promised c.send_rest-code.ensures.grows on
    (rw c.failures-failures.ensures at c.send_rest-code.ensures.sends))
