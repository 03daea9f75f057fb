use Rattle.std.proofs.Common.{◌∙◌, ap, map, sym}
use Rattle.std.proofs.lemmas.Result.{IfOk-weaker}
use Rattle.blif_model.specs.Walk.{unclocked}
use Rattle.blif_model.specs.WalkSteps.{is_clock}
use Rattle.blif_flatten.specs.Flattened.{flat_steps}
use Rattle.blif_reader.proofs.FlatNets.{nets-named}
use Rattle.blif_reader.proofs.nets.net_names.Goals as goal

pub returns : goal.returns
returns c = IfOk-weaker c.own_names.result _ _ (λ nets named.
    let flat = c.args.flat.now in
    let steps = flat_steps flat in
    named (is_clock steps) (c.requires ∙ ap (map (is_clock steps)) (sym flat.is_flat.first)) ∙ ap (unclocked steps) flat.is_flat.first ∙ sym (nets-named steps)) c.own_names.ensures
