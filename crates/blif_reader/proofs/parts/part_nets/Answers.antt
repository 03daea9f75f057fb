use Rattle.std.proofs.Common.{◌∙◌, ap, map}
use Rattle.std.proofs.lemmas.Result.{IfOk-weaker}
use Rattle.net_names.specs.Nets.{net_id}
use Rattle.blif_model.specs.Walk.{nets_of}
use Rattle.blif_flatten.specs.Flattened.{flat_steps}
use Rattle.blif_reader.specs.Numbers.{net_of_name}
use Rattle.blif_reader.proofs.NamedParts.{nets_are}
use Rattle.blif_reader.proofs.parts.part_nets.Goals as goal

pub returns : goal.returns
returns c = IfOk-weaker c.nets.result _ _ (λ nets e.
    e ∙ ap (map (net_of_name c.args.numbers.now)) c.as_slice.ensures.value
    ∙ nets_are c.args.flat.now c.args.numbers.now c.requires c.in_ok-ids.ids.items c.in_ok-ids.ensures.within
    ∙ ap (map (net_id (nets_of (flat_steps c.args.flat.now)))) c.in_ok-ids.ensures.names) c.nets.ensures
