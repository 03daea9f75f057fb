use Rattle.std.proofs.Common.{◌≡◌, ◌*◌, ◌/◌, ◌%◌, ◌<◌, ◌≤◌, ℕ, List, [], length, refl, ap, sym, subst, ◌∙◌, arith}
use Rattle.std.proofs.lemmas.List.{get_or_read_under}
use Rattle.std.specs.Int.{div_ceil}
use Rattle.std.proofs.Math.Nat.{mul_assoc}
use Rattle.std.proofs.lemmas.Grind.{div_ceil_times}
use Rattle.std.proofs.lemmas.Nat.{div-add-mod', div_below, mod_below}
use Rattle.batch_crew.specs.Crew.{share_of}
use Rattle.campaign_plan.specs.Analysis.{fault_count}
use Rattle.latency_table.specs.declared.latency.Latency.{Latency}
use Rattle.latency_table.specs.declared.worker.LatencyWorker.{LatencyWorker}
use Rattle.latency_table.specs.Latency.{IsLatencyFor, latency_at}
use Rattle.latency_table.specs.Work.{HasKept, group_at, number_in, rounds_for}
use Rattle.latency_table.proofs.fan_out.latency_of.Goals as goal

pub index-requires : goal.index-requires
index-requires c =
    let p = c.args.plan.now in
    let i = c.args.i in
    let has = c.requires.crew in
    let workers : ℕ = length c.args.crew.now in
    let q : ℕ = i / 1024 in
    let w : ℕ = q % workers in
    let round : ℕ = q / workers in
    let lane : ℕ = i % 1024 in
    let worker : LatencyWorker = c.index-crew-group.result in
    let there : w < workers = mod_below q workers has.some in
    let rounds : ℕ = rounds_for p workers in
    let worked : HasKept p has.bench (share_of w workers) rounds worker =
    subst (λ (v : LatencyWorker). HasKept p has.bench (share_of w workers) rounds v) (sym c.index-crew-group.is) (has.each w worker there) in
    let stride : 0 < workers * 1024 = omega (arith, has.some) in
    let enough : fault_count p ≤ rounds * (workers * 1024) = (div_ceil_times (fault_count p) (workers * 1024) stride).0 in
    let before : q < rounds * workers = omega (arith, c.requires.fault, enough, mul_assoc rounds workers 1024) in
    let within : round < rounds = div_below q workers rounds has.some before in
    let group : c.index-kept.result.now ≡ group_at worker.groups.items round =
    get_or_read_under worker.groups.items round (length worker.groups.items) c.index-kept.result.now [] c.index-kept.ensures (omega (arith, within, worked.equipped.rounds_are)) refl in
    let list : c.kept.inside.latencies.items ≡ group_at worker.groups.items round = c.kept.view_is ∙ group in
    let small : lane < 1024 = omega arith in
    let room : lane < length c.kept.inside.latencies.items = omega (arith, small, ap length list ∙ worked.equipped.room round within) in
    omega (arith, room, c.kept.inside.latencies.ok.0)

pub returns : goal.returns
returns c =
    let p = c.args.plan.now in
    let i = c.args.i in
    let has = c.requires.crew in
    let workers : ℕ = length c.args.crew.now in
    let q : ℕ = i / 1024 in
    let w : ℕ = q % workers in
    let round : ℕ = q / workers in
    let lane : ℕ = i % 1024 in
    let worker : LatencyWorker = c.index-crew-group.result in
    let there : w < workers = mod_below q workers has.some in
    let rounds : ℕ = rounds_for p workers in
    let worked : HasKept p has.bench (share_of w workers) rounds worker =
    subst (λ (v : LatencyWorker). HasKept p has.bench (share_of w workers) rounds v) (sym c.index-crew-group.is) (has.each w worker there) in
    let stride : 0 < workers * 1024 = omega (arith, has.some) in
    let enough : fault_count p ≤ rounds * (workers * 1024) = (div_ceil_times (fault_count p) (workers * 1024) stride).0 in
    let before : q < rounds * workers = omega (arith, c.requires.fault, enough, mul_assoc rounds workers 1024) in
    let within : round < rounds = div_below q workers rounds has.some before in
    let group : c.index-kept.result.now ≡ group_at worker.groups.items round =
    get_or_read_under worker.groups.items round (length worker.groups.items) c.index-kept.result.now [] c.index-kept.ensures (omega (arith, within, worked.equipped.rounds_are)) refl in
    let list : c.kept.inside.latencies.items ≡ group_at worker.groups.items round = c.kept.view_is ∙ group in
    let small : lane < 1024 = omega arith in
    let room : lane < length c.kept.inside.latencies.items = omega (arith, small, ap length list ∙ worked.equipped.room round within) in
    let own : c.index.result.now ≡ latency_at (group_at worker.groups.items round) lane =
    get_or_read_under c.kept.inside.latencies.items lane (length c.kept.inside.latencies.items) c.index.result.now (latency_at [] 0) c.index.ensures room refl
    ∙ ap (λ (ls : List Latency). latency_at ls lane) list in
    let number : number_in (share_of w workers) round lane ≡ i = omega (arith, div-add-mod' q workers) in
    subst (λ (l : Latency). IsLatencyFor p i l) (sym own)
    (subst (λ n. IsLatencyFor p n (latency_at (group_at worker.groups.items round) lane)) number
    (worked.kept round within lane small (omega (arith, number, c.requires.fault))))
