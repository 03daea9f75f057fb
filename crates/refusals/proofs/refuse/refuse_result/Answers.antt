use Rattle.std.proofs.Common.{ap, ap₂, [], ◌∷◌, ◌++◌}
use Rattle.std.specs.Prelude.{codes, take}
use Rattle.fm_base.specs.Names.{Bytes}
use Rattle.refusals.specs.RefusalLines.{refusal_line}
use Rattle.refusals.specs.Steps.{shown_start}
use Rattle.refusals.specs.declared.status.Status.TheVariants as status
use Rattle.refusals.proofs.Statuses.{said_as, words_said}
use Rattle.refusals.proofs.refuse.refuse_result.Goals as goal

pub returns-in-Foreign : goal.returns-in-Foreign
unfolding refusal_line
returns-in-Foreign g c = λ file k. said_as _ _ file k (status.Result c.args.cause.now) _ (ap status.Result c.in-Foreign.is) (words_said _ _ _ _ (ap₂ (λ (f o : Bytes). codes "foreign result file, found" ∷ (shown_start f ++ codes ",") ∷ codes "own" ∷ take 88 o ∷ []) c.bytes.ensures c.bytes-in-Foreign.ensures) c.refuse_foreign.ensures)

pub returns-in-BadRow : goal.returns-in-BadRow
unfolding refusal_line
returns-in-BadRow g c = λ file k. said_as _ _ file k (status.Result c.args.cause.now) _ (ap status.Result c.in-BadRow.is) c.refuse_bad_row.ensures
