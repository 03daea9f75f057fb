use Rattle.std.proofs.Common.{refl, ap, ◌∙◌, arith}
use Rattle.std.specs.Prelude.{Err}
use Rattle.bench_reader.specs.Gather.{gathered_from}
use Rattle.bench_reader.specs.LineFault.{line_fault, numbered_lines}
use Rattle.bench_reader.specs.declared.gather.Gathered.{Gathered}
use Rattle.bench_reader.proofs.Reading.{said_all, refused_here, gathered_all, line_passed}
use Rattle.bench_reader.proofs.read.gather.Goals as goal

pub lines-init : goal.lines-init
lines-init c = record {
  counted = omega arith;
  fault = ap line_fault (said_all c.args.bytes.now);
  told = ap (gathered_from c.new-gathered.result) (said_all c.args.bytes.now) ∙ ap (λ (g : Gathered). gathered_from g (numbered_lines c.args.bytes.now)) c.new-gathered.ensures;
}

pub returns-in-Err : goal.returns-in-Err
returns-in-Err c =
    refused_here c.lines.gathered c.take_line.new.gathered c.lines.line c.lines.rest.now c.args.bytes.now c.feed_place-n.result c.in-Err.refusal (Err c.in-Err.refusal)
    c.feed_place-n.ensures.place c.feed_place-n.ensures.within c.lines.invariant.fault c.in-Err.ensures refl

pub returns-then-n-rest : goal.returns-then-n-rest
returns-then-n-rest c =
    gathered_all c.lines.gathered c.take_line.new.gathered c.lines.line c.lines.rest.now c.args.bytes.now c.feed_place-n.result c.feed_place-n.ensures.place c.if-n-rest.true
    c.lines.invariant.fault c.lines.invariant.told c.in-Ok.ensures

pub lines-preserved : goal.lines-preserved
lines-preserved c =
    let next = line_passed c.lines.gathered c.take_line.new.gathered c.lines.line c.lines.rest.now c.behind-rest.result.now c.args.bytes.now c.feed_place-n.result c.feed_place-n.ensures.place (omega arith)
    c.behind-rest.ensures.value c.lines.invariant.fault c.lines.invariant.told c.in-Ok.ensures in
    record { counted = omega arith; fault = next.0; told = next.1 }
