use Rattle.std.proofs.Common.{◌≡◌, refl, ap, ◌∙◌, arith}
use Rattle.std.proofs.lemmas.Grind.{common_steps}
use Rattle.std.specs.Vec.{with_items}
use Rattle.circuit.specs.After.{Moment}
use Rattle.circuit.proofs.Cycles.{after_start}
use Rattle.lane_words.specs.Gates.{plane}
use Rattle.lane_words.specs.Loads.{loaded_faults}
use Rattle.lane_kernel.proofs.kernel.Kernel.start.Goals as goal

pub returns-clause-start : goal.returns-clause-start
returns-clause-start g c = λ k lt.
    let raw : (with_items c.args.self.now.raw c.take_first.new.raw).items ≡ c.take_first.new.raw = grind (arith, common_steps) in
    let moment : Moment = record {
      cycle = 0;
      raw = plane g.W.Word.lane_bit k (with_items c.args.self.now.raw c.take_first.new.raw).items;
      values = plane g.W.Word.lane_bit k c.args.self.now.words.items;
    } in
    after_start c.args.self.now.circuit.value (loaded_faults c.args.self.now.loads.items k) moment refl
    (ap (plane g.W.Word.lane_bit k) raw ∙ c.take_first.ensures k lt ∙ c.deref.ensures.value ∙ c.requires.starts)
