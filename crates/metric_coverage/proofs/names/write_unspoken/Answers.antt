use Rattle.std.proofs.Common.{◌≡◌, ◌∷◌, [], ◌∙◌, ℕ, Bool, true, false, ap, sym}
use Rattle.std.specs.Prelude.{decimal, if◌then◌else◌}
use Rattle.fault_list.specs.Faults.{fault_name}
use Rattle.fm_base.specs.Text.{line}
use Rattle.metric_sums.specs.declared.Class.{Class}
use Rattle.campaign_plan.specs.Analysis.{Analysis, fault_numbered}
use Rattle.campaign_plan.specs.Batches.{class_of_fault}
use Rattle.campaign_plan.specs.Weights.{weight}
use Rattle.fmeda_report.specs.Tallies.{planes_in_order}
use Rattle.coverage.specs.declared.Evidence.{Evidence}
use Rattle.coverage.specs.Coverage.{evidence_word, is_unreached, unspoken_line}
use Rattle.fm_shelf.proofs.Sending.{sends_as, sends_none}
use Rattle.metric_coverage.specs.Freed.{evidence_at}
use Rattle.metric_coverage.proofs.names.write_unspoken.Goals as goal

-- the line of a fault that is unreached, and of one that isn't
line_is : (p : Analysis) (evidence : ℕ → Evidence) (class : ℕ → Class) (i : ℕ) (b : Bool) → is_unreached (evidence i) (class i) ≡ b
    → (if b then line (evidence_word (evidence i) ∷ fault_name p.circuit (fault_numbered p i) ∷ decimal (weight p i) ∷ []) else []) ≡ unspoken_line p evidence class i
unfolding unspoken_line
line_is p evidence class i b e = ap (λ t. if t then line (evidence_word (evidence i) ∷ fault_name p.circuit (fault_numbered p i) ∷ decimal (weight p i) ∷ []) else []) (sym e)

pub returns-then-is_free : goal.returns-then-is_free
returns-then-is_free g c =
    let p = c.args.plan.now in
    let evidence : ℕ → Evidence = evidence_at c.args.evidence.now in
    let class : ℕ → Class = class_of_fault p (planes_in_order c.args.planes.now) in
    let test = ap (is_unreached (evidence c.args.i)) (sym c.class_of_fault-class.ensures) ∙ sym c.is_free.ensures ∙ c.if-is_free.true in
    sends_as (line_is p evidence class c.args.i true test) c.write_named.ensures

pub returns-else-is_free : goal.returns-else-is_free
returns-else-is_free g c =
    let p = c.args.plan.now in
    let evidence : ℕ → Evidence = evidence_at c.args.evidence.now in
    let class : ℕ → Class = class_of_fault p (planes_in_order c.args.planes.now) in
    let test = ap (is_unreached (evidence c.args.i)) (sym c.class_of_fault-class.ensures) ∙ sym c.is_free.ensures ∙ c.if-is_free.false in
    sends_as (line_is p evidence class c.args.i false test) (sends_none _)
