use Rattle.bench_reader.proofs.Tokenizing.{short_test}
use Rattle.bench_reader.proofs.token.is_wide_text.Goals as goal

pub returns-else-text-gt-MOST_BYTES : goal.returns-else-text-gt-MOST_BYTES
returns-else-text-gt-MOST_BYTES c = short_test c.args.text.now c.if-text-gt-MOST_BYTES.false
