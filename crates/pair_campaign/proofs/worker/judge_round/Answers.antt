use Rattle.std.proofs.Common.{◌≡◌, ◌<◌, ◌≤◌, ◌∙◌, ◌+◌, ◌*◌, ◌^◌, ℕ, List, inl, inr, sym, subst, arith}
use Rattle.std.specs.Prelude.{slice_index}
use Rattle.std.proofs.Math.Nat.{add-mul}
use Rattle.std.proofs.lemmas.Bool.{cases_lt}
use Rattle.std.proofs.lemmas.Nat.{mul-le}
use Rattle.campaign_plan.specs.Analysis.{Analysis}
use Rattle.fault_list.specs.Faults.{batches_for}
use Rattle.pair_list.specs.Chosen.{Chosen, pair_count}
use Rattle.pair_campaign.specs.PairPlanes.{pair_plane}
use Rattle.pair_campaign.proofs.Rounds.{in_round}
use Rattle.pair_campaign.proofs.worker.judge_round.Goals as goal

-- the planes of a round have small numbers
few_planes : (round workers number : ℕ) → round < 2 ^ 24 → number < workers → workers ≤ 32 → round * (4 * workers) + number + 4 * workers < 2 ^ 32
few_planes round workers number few mine least =
    let rounds : round ≤ 2 ^ 24 = omega (arith, few) in
    let stride : 4 * workers ≤ 128 = omega (arith, least) in
    let most : round * (4 * workers) ≤ 2 ^ 24 * 128 = mul-le round (4 * workers) (2 ^ 24) 128 rounds stride in
    omega (arith, most, mine, least)

pub overflow_add-first : goal.overflow_add-first
overflow_add-first c = omega (arith, few_planes c.args.round c.args.share.workers c.args.share.number c.requires.few c.requires.share.0 c.requires.share.1)

pub outcomes_of-found-requires-clause-few : goal.outcomes_of-found-requires-clause-few
outcomes_of-found-requires-clause-few c =
    few_planes c.args.round c.args.share.workers c.args.share.number c.requires.few c.requires.share.0 c.requires.share.1

pub keep_planes-requires-clause-few : goal.keep_planes-requires-clause-few
keep_planes-requires-clause-few c =
    few_planes c.args.round c.args.share.workers c.args.share.number c.requires.few c.requires.share.0 c.requires.share.1

pub returns : goal.returns
returns c =
    let p : Analysis = c.args.plan.now in
    let pairs : Chosen = c.args.pairs.now in
    let workers : ℕ = c.args.share.workers in
    let number : ℕ = c.args.share.number in
    let round : ℕ = c.args.round in
    let before = c.requires.before in
    let kept = c.keep_planes.ensures in
    let now : List ℕ = c.keep_planes.new.worker.planes.items in
    let next : (round + 1) * (4 * workers) ≡ round * (4 * workers) + 1 * (4 * workers) = add-mul round 1 (4 * workers) in
    record {
      equipped = record {
        simulator = kept.simulator ∙ c.outcomes_of-found.ensures.same ∙ before.equipped.simulator;
        room = kept.room;
      };
      own = λ q lt mine early.
          elim (cases_lt q (round * (4 * workers))) as (λ _. slice_index now q ≡ pair_plane p pairs q) [
            | inl earlier ↦ kept.right p q c.outcomes_of-found.ensures.shown (before.own q lt mine earlier)
            | inr late ↦
                (let place = in_round q workers number round c.requires.share.0 mine late (omega (arith, early, next)) in
                subst (λ j. slice_index now j ≡ pair_plane p pairs j) place.2
                (kept.own p place.0 c.outcomes_of-found.ensures.shown place.1 (subst (λ j. j < batches_for (pair_count pairs)) (sym place.2) lt)))
          ];
    }
