-- The line of a status, from that of the case that it is.
use Rattle.std.proofs.Common.{◌≡◌, refl, sym, subst, ℕ, List, [], arith, inl}
use Rattle.circuit.specs.Circuit.{Circuit}
use Rattle.fm_base.specs.Names.{Bytes}
use Rattle.refusals.specs.Said.{IsSaid}
use Rattle.refusals.specs.RefusalLines.{plan_line, refused, refusal_line}
use Rattle.refusals.specs.declared.status.Status.{Status}
use Rattle.refusals.specs.declared.status.Status.TheVariants as status
use Rattle.campaign_plan.specs.declared.Outcome.{Outcome}
use Rattle.campaign_plan.specs.declared.PlanRefusal.{PlanRefusal}
use Rattle.result_merge.specs.declared.merge.MergeRefusal.{MergeRefusal}
use Rattle.result_merge.specs.declared.merge.MergeRefusal.TheVariants.{Differs}
use Rattle.commands.specs.declared.command.Which.{Which}
use Rattle.fm_shelf.proofs.Sending.{written_none}
use Rattle.fm_shelf.specs.Sink.{SinkState}

-- the line of a status that is this one
pub said_as : (before after : SinkState) (file : Which → Bytes) (c : Circuit) (ended is : Status) → ended ≡ is
    → IsSaid before after (refusal_line file c is) → IsSaid before after (refusal_line file c ended)
said_as before after file c ended is e said = subst (λ s. IsSaid before after (refusal_line file c s)) (sym e) said

-- the line of words that are these
pub words_said : (before after : SinkState) (words said : List Bytes) → words ≡ said
    → IsSaid before after (refused words) → IsSaid before after (refused said)
words_said before after words said e is = subst (λ ws. IsSaid before after (refused ws)) e is

-- the line of what makes no plan, where it is this
pub plan_said : (before after : SinkState) (no_rate has_rate : Bytes) (cause is : PlanRefusal) → cause ≡ is
    → IsSaid before after (plan_line no_rate has_rate is) → IsSaid before after (plan_line no_rate has_rate cause)
plan_said before after no_rate has_rate cause is e said = subst (λ why. IsSaid before after (plan_line no_rate has_rate why)) (sym e) said

-- a status without a line
pub nothing_said : (out : SinkState) → IsSaid out out []
nothing_said out = (inl (written_none out.written), omega arith)

-- the line of rows that aren't merged, by what stands in the refusal
pub merge_said : (before after : SinkState) (file : Which → Bytes) (c : Circuit) (cause : MergeRefusal)
    → ((n : ℕ) (one two : Outcome) → cause ≡ Differs n one two → IsSaid before after (refusal_line file c (status.Merge (Differs n one two))))
    → IsSaid before after (refusal_line file c (status.Merge cause))
merge_said before after file c (Differs n one two) said = said n one two refl
