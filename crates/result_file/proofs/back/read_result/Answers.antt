use Rattle.std.proofs.Common.{◌+◌, ◌*◌, ap, sym, ◌∙◌, arith}
use Rattle.std.specs.Str.{bytes_eq}
use Rattle.std.proofs.lemmas.List.{length-take}
use Rattle.result_file.specs.KeptRows.{is_torn_header}
use Rattle.result_file.proofs.Keeping.{kept_torn, kept_foreign, is_long, gives_rows, gives_refusal, rows_few}
use Rattle.result_file.proofs.back.read_result.Goals as goal

pub returns-then-is_torn : goal.returns-then-is_torn
returns-then-is_torn c =
    let torn = ap (λ own. is_torn_header own c.args.bytes.now) (sym c.bytes.ensures) ∙ sym c.is_torn.ensures ∙ c.if-is_torn.true in
    rw c.new.ensures (kept_torn c.args.own.now c.args.plan.now c.args.bytes.now torn)

pub line_of-requires : goal.line_of-requires
line_of-requires c = rw c.head_of-head.ensures (omega (arith, length-take 89 c.args.bytes.now))

pub returns-then-not-is_same : goal.returns-then-not-is_same
returns-then-not-is_same c =
    let torn = ap (λ own. is_torn_header own c.args.bytes.now) (sym c.bytes.ensures) ∙ sym c.is_torn.ensures ∙ c.if-is_torn.false in
    let other = ap (λ head. bytes_eq head c.args.own.now) (sym c.head_of-head.ensures) ∙ ap (bytes_eq c.head_of-head.result.now) (sym c.bytes-2.ensures) ∙ sym c.is_same.ensures ∙ c.if-not-is_same.true in
    rw (c.line_of.ensures, c.line_of-then-not-is_same.ensures, c.head_of-head.ensures, c.bytes-then-not-is_same.ensures)
    (kept_foreign c.args.own.now c.args.plan.now c.args.bytes.now torn other)

pub read_rows-requires-clause-long : goal.read_rows-requires-clause-long
read_rows-requires-clause-long c =
    let same = ap (λ head. bytes_eq head c.args.own.now) (sym c.head_of-head.ensures) ∙ ap (bytes_eq c.head_of-head.result.now) (sym c.bytes-2.ensures) ∙ sym c.is_same.ensures ∙ c.if-not-is_same.false in
    is_long c.args.own.now c.args.bytes.now c.requires.own same

pub overflow_mul-whole : goal.overflow_mul-whole
overflow_mul-whole c =
    let few = rows_few c.args.plan.now c.args.bytes.now c.in-Ok.rows c.requires.few c.in-Ok.ensures in
    omega (arith, few, c.len.ensures)

pub overflow_add-whole : goal.overflow_add-whole
overflow_add-whole c =
    let few = rows_few c.args.plan.now c.args.bytes.now c.in-Ok.rows c.requires.few c.in-Ok.ensures in
    omega (arith, few, c.len.ensures)

pub returns-in-Ok : goal.returns-in-Ok
returns-in-Ok c =
    let torn = ap (λ own. is_torn_header own c.args.bytes.now) (sym c.bytes.ensures) ∙ sym c.is_torn.ensures ∙ c.if-is_torn.false in
    let same = ap (λ head. bytes_eq head c.args.own.now) (sym c.head_of-head.ensures) ∙ ap (bytes_eq c.head_of-head.result.now) (sym c.bytes-2.ensures) ∙ sym c.is_same.ensures ∙ c.if-not-is_same.false in
    gives_rows c.args.own.now c.args.plan.now c.args.bytes.now c.in-Ok.rows (89 + 130 * c.len.result) torn same c.in-Ok.ensures
    (ap (λ n. 89 + 130 * n) c.len.ensures)

pub returns-in-Err : goal.returns-in-Err
returns-in-Err c =
    let torn = ap (λ own. is_torn_header own c.args.bytes.now) (sym c.bytes.ensures) ∙ sym c.is_torn.ensures ∙ c.if-is_torn.false in
    let same = ap (λ head. bytes_eq head c.args.own.now) (sym c.head_of-head.ensures) ∙ ap (bytes_eq c.head_of-head.result.now) (sym c.bytes-2.ensures) ∙ sym c.is_same.ensures ∙ c.if-not-is_same.false in
    gives_refusal c.args.own.now c.args.plan.now c.args.bytes.now c.in-Err.refusal torn same c.in-Err.ensures
