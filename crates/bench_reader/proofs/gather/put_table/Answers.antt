use Rattle.std.proofs.Common.{List, ap, length, ◌∙◌, arith}
use Rattle.circuit.specs.declared.parts.NetId.{NetId}
use Rattle.bench_reader.specs.Gates.{takes_inputs}
use Rattle.bench_reader.specs.Marks.{NetMarks}
use Rattle.bench_reader.specs.Meant.{listed}
use Rattle.bench_reader.specs.Tokens.{tokens_of}
use Rattle.bench_reader.proofs.Marked.{length_ids}
use Rattle.bench_reader.proofs.Mentions.{one_more_net}
use Rattle.bench_reader.proofs.Parity.{most_1024}
use Rattle.bench_reader.proofs.gather.put_table.Goals as goal

pub mention_names-requires : goal.mention_names-requires
mention_names-requires c =
    let few = c.requires.few in
    let one = one_more_net c.args.line c.args.gathered.now.nets c.args.out.now in
    let same = ap (λ (t : NetMarks). length t.names) c.in_ok-out.ensures.nets in
    let most = most_1024 c.args.gate (length (listed (tokens_of c.args.ins.now))) c.requires.fits in
    omega arith

pub table_of-requires : goal.table_of-requires
table_of-requires c =
    ap (takes_inputs c.args.gate) (ap (λ (ids : List NetId). length ids) c.in_ok-ins.ensures.ids ∙ length_ids c.args.line c.mention.new.self (listed (tokens_of c.args.ins.now)))
    ∙ c.requires.fits
