use Rattle.std.proofs.Common.{◌≡◌, ◌+◌, ◌*◌, ◌/◌, ◌<◌, ◌≤◌, ℕ, Bool, true, false, not, min, List, [], length, get_or, refl, ap, sym, ◌∙◌, arith}
use Rattle.std.specs.Int.{div_ceil}
use Rattle.std.proofs.lemmas.List.{get_or_read_under}
use Rattle.std.proofs.lemmas.Grind.{div_ceil_times}
use Rattle.fm_base.proofs.Tests.{clash}
use Rattle.circuit.specs.Trace.{trace}
use Rattle.workload.specs.Runs.{cycles_of, run_at}
use Rattle.testbench.specs.Seen.{SeenValues, is_seen, stretch_at}
use Rattle.testbench.proofs.stretches.Stretches.have_alone.Goals as goal

-- a value that isn't the other one
not_other : (a b : Bool) → (a ≡ not b → ⊥) → a ≡ b
not_other true true other = refl
not_other false false other = refl
not_other true false other = absurd (other refl)
not_other false true other = absurd (other refl)

pub returns : goal.returns
returns c = λ circuit runs are le net is t from lt.
    let run = run_at runs c.args.run in
    let stretches : List SeenValues = get_or c.args.self.now.runs.items c.args.run [] in
    let k : ℕ = t / 256 in
    let own : SeenValues = stretch_at stretches k in
    let golden : Bool = trace circuit [] run.vectors t c.args.net.0 in
    let enough : c.args.to ≤ div_ceil c.args.to 256 * 256 = (div_ceil_times c.args.to 256 (omega arith)).0 in
    let last : k < c.loop-s.s = omega (arith, lt, enough, c.div_ceil-s-end.ensures, c.loop-s-test.false) in
    let same : c.as_slice-stretches.result.now ≡ stretches =
    c.as_slice-stretches.ensures ∙ get_or_read_under c.args.self.now.runs.items c.args.run (length c.args.self.now.runs.items) c.index.result.now [] c.index.ensures c.requires refl in
    let none : is_seen own c.args.net.0 (not c.args.value) ≡ false =
    ap (λ (ss : List SeenValues). is_seen (stretch_at ss k) c.args.net.0 (not c.args.value)) (sym same) ∙ c.loop-s.invariant k (omega (arith, from)) last in
    let run_in : c.args.run < length runs = omega (arith, c.requires, are.count_is) in
    let there : k < length stretches = are.each c.args.run t run_in (omega (arith, lt, le)) in
    let first : k * 256 ≤ t = omega arith in
    let end : t < min (cycles_of run) (k * 256 + 256) = omega (arith, lt, le) in
    let seen : is_seen own c.args.net.0 golden ≡ true = are.seen c.args.run run_in k there t c.args.net.0 first end net in
    not_other golden c.args.value (λ other. clash (is_seen own c.args.net.0 golden) seen (ap (is_seen own c.args.net.0) other ∙ none))
