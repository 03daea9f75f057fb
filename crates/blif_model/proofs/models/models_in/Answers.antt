use Rattle.std.proofs.Common.{◌++◌, List, ap, sym, ◌∙◌, arith}
use Rattle.std.proofs.lemmas.List.{append-nil, nil_from_length}
use Rattle.blif_model.specs.LineFault.{Said}
use Rattle.blif_model.specs.Models.{models_of}
use Rattle.blif_model.specs.Grouped.{models_seen}
use Rattle.blif_model.proofs.Parts.{rest_is}
use Rattle.blif_model.proofs.models.models_in.Goals as goal

pub lines-preserved : goal.lines-preserved
lines-preserved c =
    c.in_ok-put_model.ensures ∙ ap (λ (lines : List Said). models_seen c.lines.models.items ++ models_of lines)
    (sym (rest_is c.lines.rest.now c.line-item.result c.in-len1-up.len_at_least c.line-item.is)) ∙ c.lines.invariant

pub returns : goal.returns
unfolding models_of
returns c = sym (append-nil (models_seen c.lines.models.items)) ∙ (rw (nil_from_length c.lines.rest.now (omega arith)) at c.lines.invariant)
