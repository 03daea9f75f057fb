use Rattle.std.proofs.Common.{◌≡◌, ◌+◌, ◌*◌, ◌/◌, ◌%◌, ◌<◌, List, [], ◌∷◌, Some, length, ap, sym, subst, ◌∙◌, arith}
use Rattle.std.specs.Prelude.{Option}
use Rattle.circuit.specs.declared.parts.Fault.{Fault}
use Rattle.campaign_plan.specs.Analysis.{all_faults, fault_numbered}
use Rattle.fault_list.specs.Faults.{fault_in_lane}
use Rattle.fm_base.proofs.Lists.{written_whole}
use Rattle.lane_words.specs.Loads.{loaded_faults, somes}
use Rattle.latency_table.specs.declared.latency.Latency.{Latency}
use Rattle.latency_table.specs.Latency.{IsLatencyFor, IsLatencyOf, latency_at}
use Rattle.latency_table.proofs.Loaded.{holds_fault, of_plan}
use Rattle.latency_table.proofs.worker.simulate_group.Goals as goal

pub follow_runs-requires-clause-size : goal.follow_runs-requires-clause-size
follow_runs-requires-clause-size g c = c.load_batches.ensures.count ∙ c.requires.size

pub follow_runs-requires-clause-room : goal.follow_runs-requires-clause-room
follow_runs-requires-clause-room g c = ap length c.as_mut_slice-latencies.ensures.value ∙ ap length c.group.view_is ∙ c.requires.room

pub returns-clause-size : goal.returns-clause-size
returns-clause-size g c = ap (λ v. length v.items) c.follow_runs.ensures.faults ∙ c.load_batches.ensures.count ∙ c.requires.size

pub returns-clause-room : goal.returns-clause-room
returns-clause-room g c =
    let old = c.group.inside.latencies in
    let new : List Latency = c.follow_runs.new.latencies in
    let count : length new ≡ length old.items = c.follow_runs.auto.latencies ∙ ap length c.as_mut_slice-latencies.ensures.value in
    ap length (written_whole new old.items old.len count old.ok.0) ∙ count ∙ ap length c.group.view_is ∙ c.requires.room

pub returns-clause-kept : goal.returns-clause-kept
returns-clause-kept g c = λ lane lt within.
    let p = c.args.plan.now in
    let first = c.args.first in
    let loads : List (List (Option Fault)) = c.load_batches.new.self.faults.items in
    let old = c.group.inside.latencies in
    let new : List Latency = c.follow_runs.new.latencies in
    let count : length new ≡ length old.items = c.follow_runs.auto.latencies ∙ ap length c.as_mut_slice-latencies.ensures.value in
    let inside : lane < length loads = omega (arith, lt, c.load_batches.ensures.count, c.requires.size) in
    let faults : loaded_faults loads lane ≡ fault_numbered p (first * 64 + lane) ∷ [] =
    c.load_batches.ensures.holds lane inside
    ∙ ap (λ (fs : List Fault). somes (fault_in_lane fs (Some (first + lane / 64 * 1)) (lane % 64) ∷ [])) c.faults.ensures.value
    ∙ holds_fault (all_faults p) first lane within in
    let ftti : c.settings.result.now.ftti ≡ p.settings.ftti = ap (λ set. set.ftti) c.settings.ensures.value in
    subst (λ (ls : List Latency). IsLatencyFor p (first * 64 + lane) (latency_at ls lane)) (sym (written_whole new old.items old.len count old.ok.0))
    (subst (λ f. IsLatencyOf p.circuit p.points f p.runs (fault_numbered p (first * 64 + lane) ∷ []) (length p.runs) (latency_at new lane)) ftti
    (of_plan p c.args.bench.now c.settings.result.now.ftti (loaded_faults loads lane) (fault_numbered p (first * 64 + lane) ∷ []) (latency_at new lane) c.requires.bench faults
    (c.follow_runs.ensures.kept lane lt)))
