use Rattle.std.proofs.Common.{◌≡◌, ℕ, drop, map}
use Rattle.fm_base.specs.Firsts.{first_where}
use Rattle.blif_model.specs.Models.{Model}
use Rattle.blif_hierarchy.specs.Lines.{instance_answer}
use Rattle.blif_hierarchy.specs.Numbered.{numbered_line}
use Rattle.blif_hierarchy.proofs.numbered.first_numbered.Given as goal

abbrev pub invariant-loop-line : goal.invariant-loop-line
invariant-loop-line l = (f : Model → ℕ) → l.numbers ≡ map f l.models
    → first_where (instance_answer (numbered_line l.models f l.number)) (drop l.line-index l.lines)
    ≡ first_where (instance_answer (numbered_line l.models f l.number)) l.lines
