use Rattle.std.proofs.Common.{true, false, [], ap, sym, ◌∙◌, arith}
use Rattle.std.proofs.lemmas.Grind.{common_steps}
use Rattle.fm_base.specs.Firsts.{first_after}
use Rattle.fm_base.proofs.Tests.{not_not, not_true}
use Rattle.blif_model.specs.ModelFault.{two_models}
use Rattle.blif_hierarchy.proofs.SecondNames.{second_fault, second_step, second_end}
use Rattle.blif_hierarchy.proofs.port_faults.two_models.Goals as goal

pub loop-model-init : goal.loop-model-init
unfolding two_models
loop-model-init c = record { names = c.new-names.ensures; left = ap (first_after second_fault []) c.lines-model-items.ensures }

pub returns-then-not-branch : goal.returns-then-not-branch
returns-then-not-branch c =
    second_step c.lines-model-items.result.now c.loop-model.model-index c.model-item.result c.loop-model-test.true c.model-item.is
    c.loop-model.names true c.loop-model.invariant.names (not_not _ (sym c.in_ok-insert.ensures.added ∙ c.if-not-branch.true))
    ∙ c.loop-model.invariant.left

pub loop-model-preserved : goal.loop-model-preserved
loop-model-preserved c =
    let models = c.lines-model-items.result.now in
    let i = c.loop-model.model-index in
    record {
      names = grind (arith, common_steps);
      left = second_step models i c.model-item.result c.loop-model-test.true c.model-item.is
          c.loop-model.names false c.loop-model.invariant.names (not_true _ (sym c.in_ok-insert.ensures.added ∙ c.if-not-branch.false))
          ∙ c.loop-model.invariant.left;
    }

pub returns : goal.returns
returns c = sym (second_end c.lines-model-items.result.now c.loop-model.model-index c.loop-model-test.false) ∙ c.loop-model.invariant.left
