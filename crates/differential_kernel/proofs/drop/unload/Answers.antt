use Rattle.std.proofs.Common.{◌≡◌, inl, inr, ◌<◌, List, [], length, set, ap, sym, ◌∙◌, arith, get_or-set_other, get_or-set_same}
use Rattle.std.specs.Prelude.{Option}
use Rattle.std.proofs.lemmas.Bool.{cases_eq}
use Rattle.circuit.specs.declared.parts.Fault.{Fault}
use Rattle.lane_words.specs.Loads.{loaded_faults, somes}
use Rattle.differential_kernel.proofs.drop.unload.Goals as goal

pub loop-lane-preserved : goal.loop-lane-preserved
loop-lane-preserved g c =
    let lane = c.loop-lane.lane in
    let loads = c.loop-lane.loads in
    let own : List (Option Fault) = c.unless.result in
    let inside : lane < g.W.Word.lanes = omega (arith, c.count-lane-end.ensures) in
    let within : lane < length loads = omega (arith, inside, c.requires, c.loop-lane.auto.loads) in
    let here : loaded_faults (set loads lane own) lane ≡ somes own = ap somes (get_or-set_same loads lane own [] within) in
    record {
      dropped = λ k lt is. elim (cases_eq k lane) as (λ _. loaded_faults (set loads lane own) k ≡ []) [
        | inl same ↦ ap (loaded_faults (set loads lane own)) same ∙ here ∙ c.unless.ensures.dropped (c.get.ensures ∙ ap (g.W.Word.lane_bit c.args.out) (sym same) ∙ is)
        | inr other ↦
            (let before : k < lane = omega (arith, lt, other) in
            ap somes (get_or-set_other loads lane k own [] other) ∙ c.loop-lane.invariant.dropped k before is)
      ];
      others = λ k lt is. elim (cases_eq k lane) as (λ _. loaded_faults (set loads lane own) k ≡ loaded_faults c.args.loads.now k) [
        | inl same ↦
            ap (loaded_faults (set loads lane own)) same ∙ here
            ∙ ap somes (c.unless.ensures.others (c.get.ensures ∙ ap (g.W.Word.lane_bit c.args.out) (sym same) ∙ is))
            ∙ ap (loaded_faults loads) (sym same) ∙ c.loop-lane.invariant.others k lt is
        | inr other ↦ ap somes (get_or-set_other loads lane k own [] other) ∙ c.loop-lane.invariant.others k lt is
      ];
    }
