use Rattle.std.proofs.Common.{◌≡◌, ◌+◌, ◌<◌, ◌≤◌, ◌∙◌, ℕ, Bool, cond, List, [], length, take, ap, take_all, arith}
use Rattle.std.specs.Prelude.{count_by, filter, nat_lt, sum_by}
use Rattle.workload.specs.declared.run.Kind.TheVariants.{Mission}
use Rattle.workload.specs.declared.run.Run.{Run}
use Rattle.workload.specs.Runs.{cycles_of, is_mission, run_at}
use Rattle.campaign_plan.specs.Analysis.{Analysis}
use Rattle.metric_coverage.proofs.Upsetting.{passing_few, passing_more}
use Rattle.metric_coverage.proofs.upsets.upsets_of_a_latch.Goals as goal

-- no run
abbrev no_run : Run
no_run = record { kind = Mission; vectors = [] }

-- the listed cycles that a run has
abbrev tried_in : Analysis → Run → ℕ
tried_in p run = count_by (λ cycle. nat_lt cycle (cycles_of run)) p.settings.flips

abbrev of_mission : Run → Bool
of_mission run = is_mission run.kind

pub upsets_of_a_run-own-requires : goal.upsets_of_a_run-own-requires
upsets_of_a_run-own-requires c = omega (arith, c.loop-run-test.true, c.runs-run-end.ensures.count, ap length c.work.ensures.value)

pub overflow_add-upsets : goal.overflow_add-upsets
overflow_add-upsets c =
    let p : Analysis = c.args.plan.now in
    let i : ℕ = c.loop-run.run in
    let lt : i < length p.runs = omega (arith, c.loop-run-test.true, c.runs-run-end.ensures.count, ap length c.work.ensures.value) in
    let own : c.upsets_of_a_run-own.result.all ≡ cond (of_mission (run_at p.runs i)) (cycles_of (run_at p.runs i)) 0 = c.upsets_of_a_run-own.ensures.all in
    omega (
      arith,
      own,
      c.loop-run.invariant.all,
      c.loop-run.invariant.among,
      c.upsets_of_a_run-own.ensures.among,
      passing_more of_mission cycles_of p.runs i no_run lt,
      passing_few of_mission cycles_of p.runs (i + 1),
      c.work.ensures.plan.runs.few,
    )

pub overflow_add-upsets-in-loop-run : goal.overflow_add-upsets-in-loop-run
overflow_add-upsets-in-loop-run c =
    let p : Analysis = c.args.plan.now in
    let i : ℕ = c.loop-run.run in
    let lt : i < length p.runs = omega (arith, c.loop-run-test.true, c.runs-run-end.ensures.count, ap length c.work.ensures.value) in
    let own : c.upsets_of_a_run-own.result.all ≡ cond (of_mission (run_at p.runs i)) (cycles_of (run_at p.runs i)) 0 = c.upsets_of_a_run-own.ensures.all in
    omega (
      arith,
      own,
      c.loop-run.invariant.all,
      passing_more of_mission cycles_of p.runs i no_run lt,
      passing_few of_mission cycles_of p.runs (i + 1),
      c.work.ensures.plan.runs.few,
    )

pub loop-run-preserved : goal.loop-run-preserved
loop-run-preserved c =
    let p : Analysis = c.args.plan.now in
    let i : ℕ = c.loop-run.run in
    let lt : i < length p.runs = omega (arith, c.loop-run-test.true, c.runs-run-end.ensures.count, ap length c.work.ensures.value) in
    let tried : c.upsets_of_a_run-own.result.tried ≡ cond (of_mission (run_at p.runs i)) (tried_in p (run_at p.runs i)) 0 = c.upsets_of_a_run-own.ensures.tried in
    let all : c.upsets_of_a_run-own.result.all ≡ cond (of_mission (run_at p.runs i)) (cycles_of (run_at p.runs i)) 0 = c.upsets_of_a_run-own.ensures.all in
    record {
      tried = omega (arith, tried, c.loop-run.invariant.tried, passing_more of_mission (tried_in p) p.runs i no_run lt);
      all = omega (arith, all, c.loop-run.invariant.all, passing_more of_mission cycles_of p.runs i no_run lt);
      among = omega (arith, c.loop-run.invariant.among, c.upsets_of_a_run-own.ensures.among);
    }

pub returns : goal.returns
returns c =
    let p : Analysis = c.args.plan.now in
    let past : length p.runs ≤ c.loop-run.run = omega (arith, c.loop-run-test.false, c.runs-run-end.ensures.count, ap length c.work.ensures.value) in
    let whole : take c.loop-run.run p.runs ≡ p.runs = take_all c.loop-run.run p.runs past in
    let all = c.loop-run.invariant.all ∙ ap (λ (runs : List Run). sum_by cycles_of (filter of_mission runs)) whole in
    record {
      tried = c.loop-run.invariant.tried ∙ ap (λ (runs : List Run). sum_by (tried_in p) (filter of_mission runs)) whole;
      all = all;
      among = c.loop-run.invariant.among;
      few = omega (arith, c.loop-run.invariant.all, passing_few of_mission cycles_of p.runs c.loop-run.run, c.work.ensures.plan.runs.few);
    }
