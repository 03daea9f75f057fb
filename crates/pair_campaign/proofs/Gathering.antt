-- The planes of all workers, put together.
use Rattle.std.proofs.Common.{◌≡◌, ℕ, ◌*◌, ◌%◌, ◌<◌, ◌≤◌, List, [], ◌∷◌, length, get_or, refl, sym, ◌∙◌, arith}
use Rattle.std.specs.List.{range_with_len}
use Rattle.std.proofs.lemmas.List.{ext_get_or, length-map}
use Rattle.std.proofs.lemmas.List.FromFn.{length-range_with_len, get_or-map-range_with_len}
use Rattle.std.proofs.lemmas.Nat.{mod_below}
use Rattle.batch_crew.specs.Crew.{HaveWorked}
use Rattle.testbench.specs.Testbench.{Testbench}
use Rattle.fault_list.specs.Faults.{batches_for}
use Rattle.fm_base.specs.Lists.{below}
use Rattle.campaign_plan.specs.Analysis.{Analysis}
use Rattle.pair_list.specs.Chosen.{Chosen, pair_count}
use Rattle.pair_campaign.specs.declared.worker.PairWorker.{PairWorker}
use Rattle.pair_campaign.specs.PairPlanes.{pair_plane, pair_planes}
use Rattle.pair_campaign.specs.Work.{HasJudged, rounds_for}
use Rattle.pair_campaign.proofs.Rounds.{ends_behind}

module _ (p : Analysis) (c : Chosen) where
  planes_length : length (pair_planes p c) ≡ batches_for (pair_count c)
  unfolding pair_planes below
  planes_length = length-map (range_with_len 0 (batches_for (pair_count c))) (pair_plane p c) ∙ length-range_with_len 0 (batches_for (pair_count c))

  plane_at : (q : ℕ) → q < batches_for (pair_count c) → get_or (pair_planes p c) q 0 ≡ pair_plane p c q
  unfolding pair_planes below
  plane_at q lt = get_or-map-range_with_len (pair_plane p c) 0 (batches_for (pair_count c)) q q 0 lt (omega arith)

  -- where each plane was taken from the worker that judged it, they are the planes of the pairs
  pub put_together : (bench : Testbench) (workers : List PairWorker) (planes : List ℕ) → 0 < length workers → length planes ≡ batches_for (pair_count c)
      → HaveWorked (HasJudged p bench c) (rounds_for c) workers
      → ((q : ℕ) (d : PairWorker) → q < length planes → get_or planes q 0 ≡ get_or (get_or workers (q % length workers) d).planes.items q 0)
      → planes ≡ pair_planes p c
  put_together bench [] planes some count judged taken = absurd (omega (arith, some))
  put_together bench (worker ∷ workers) planes some count judged taken =
      ext_get_or 0 planes (pair_planes p c) (count ∙ sym planes_length)
      (λ q lt.
      let crew : ℕ = length (worker ∷ workers) in
      let number : ℕ = q % length (worker ∷ workers) in
      let within : q < batches_for (pair_count c) = omega (arith, lt, count) in
      let there : number < length (worker ∷ workers) = mod_below q (length (worker ∷ workers)) some in
      let whole : batches_for (pair_count c) ≤ rounds_for c crew * (4 * crew) =
      ends_behind (batches_for (pair_count c)) (4 * crew) (rounds_for c crew) (omega (arith, some)) (omega arith) in
      taken q worker lt ∙ (judged number worker there).own q within refl (omega (arith, within, whole)) ∙ sym (plane_at q within))
