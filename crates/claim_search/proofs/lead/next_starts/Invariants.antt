use Rattle.std.proofs.Common.{◌≡◌, ◌<◌, ℕ, Bool, length}
use Rattle.std.specs.Prelude.{slice_index_or}
use Rattle.coverage_claim.specs.declared.parts.Site.TheVariants.{Intact}
use Rattle.pair_sets.specs.Choice.{set_at}
use Rattle.pair_sets.specs.Pairs.{has, shown}
use Rattle.region_search.specs.BeginSteps.{latch_of}
use Rattle.region_search.specs.Going.{sets_of}
use Rattle.claim_search.proofs.lead.next_starts.Given as goal

abbrev pub invariant-loop-number : goal.invariant-loop-number
invariant-loop-number l = record {
  size : length l.starts ≡ length l.latches;
  done : (k : ℕ) → k < l.number → (a b : Bool) → has (set_at l.starts k) a b ≡ shown (slice_index_or l.sites (latch_of l.latches k).to.0 Intact) (sets_of l.search.sets 0 (latch_of l.latches k).from.0) a b;
}
