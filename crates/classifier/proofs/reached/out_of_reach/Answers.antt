use Rattle.std.proofs.Common.{◌≡◌, ◌<◌, ℕ, List, true, sym, subst}
use Rattle.circuit.specs.declared.parts.Fault.{Fault}
use Rattle.circuit.specs.Sound.{IsNetlist}
use Rattle.lane_words.specs.Loads.{loaded_faults}
use Rattle.reach.specs.Reached.{Reached, nets_of}
use Rattle.reach.specs.declared.points.Sort.{Sort}
use Rattle.reach.specs.declared.points.Sort.TheVariants.{Alarm, Observation}
use Rattle.classifier.proofs.Beyond.{AreBeyond, deaf, harmless}
use Rattle.fm_base.specs.Planes.{bit}
use Rattle.classifier.proofs.reached.out_of_reach.Goals as goal

pub returns : goal.returns
returns c = λ faults loaded.
    let net = c.args.bench.now.circuit in
    let points = c.args.bench.now.points in
    let sound : IsNetlist net = subst IsNetlist c.net.ensures c.latches-latches.ensures.sound in
    let beyond : (sort : Sort) (marks : ℕ) → ((k : ℕ) → k < 64 → bit marks k ≡ true → AreBeyond c.reach-reach.result.now.circuit (nets_of c.reach-reach.result.now.points sort) (loaded_faults c.args.loads.now k))
    → (k : ℕ) → k < 64 → bit marks k ≡ true → AreBeyond net (nets_of points sort) (faults k) =
    λ sort marks each k lane marked.
    subst (λ (fs : List Fault). AreBeyond net (nets_of points sort) fs) (sym (loaded k lane))
    (subst (λ (r : Reached). AreBeyond r.circuit (nets_of r.points sort) (loaded_faults c.args.loads.now k)) c.reach-reach.ensures.made (each k lane marked)) in
    record {
      alarm = λ k lane marked. deaf net (faults k) sound points c.reach-reach.ensures.fit (beyond Alarm c.lanes_beyond.result c.lanes_beyond.ensures k lane marked);
      observation = λ k lane marked. harmless net (faults k) sound points c.reach-reach.ensures.fit (beyond Observation c.lanes_beyond-2.result c.lanes_beyond-2.ensures k lane marked);
    }
