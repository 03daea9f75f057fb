use Rattle.std.proofs.Common.{◌+◌, ◌*◌, ◌&&◌, not, List, ◌∙◌, arith}
use Rattle.std.specs.List.{list_any}
use Rattle.circuit.specs.declared.parts.Fault.{Fault}
use Rattle.campaign_plan.specs.Danger.{golden, with_faults}
use Rattle.differential_kernel.specs.Picked.{place_in}
use Rattle.classifier.proofs.Narrowing.{bare_loud, bare_quiet, tells_of}
use Rattle.classifier.proofs.narrow.NarrowFollowed.noise_in.Goals as goal

pub returns : goal.returns
returns c = λ run t word lt after row less.
    let s = c.args.self.now in
    let circuit = s.lanes.circuit in
    let nets = c.args.nets.now in
    let sound = c.spread_noise.ensures.sound in
    let is_raised_by = λ (faults : List Fault). list_any (λ net. with_faults circuit faults run t net && not (golden circuit run t net)) nets in
    let is_silenced_by = λ (faults : List Fault). list_any (λ net. not (with_faults circuit faults run t net) && golden circuit run t net) nets in
    record {
      raised = λ k lane.
          c.spread_noise.ensures.raised word k less lane
          ∙ tells_of s.lanes.in_force is_raised_by c.hear.result.raised (place_in s.picks (word * 64 + k)) (bare_quiet circuit run t nets)
          (λ own there. c.hear.ensures.raised run t own lt after row (omega (arith, (sound.picked_there (word * 64 + k) own there).0, sound.few)));
      silenced = λ k lane.
          c.spread_noise.ensures.silenced word k less lane
          ∙ tells_of s.lanes.in_force is_silenced_by c.hear.result.silenced (place_in s.picks (word * 64 + k)) (bare_loud circuit run t nets)
          (λ own there. c.hear.ensures.silenced run t own lt after row (omega (arith, (sound.picked_there (word * 64 + k) own there).0, sound.few)));
    }
