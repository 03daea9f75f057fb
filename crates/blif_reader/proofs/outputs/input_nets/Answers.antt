use Rattle.std.proofs.Common.{◌∙◌, ◌<◌, ap, length, map}
use Rattle.std.proofs.lemmas.List.Elements.{All-filter}
use Rattle.std.proofs.lemmas.Result.{IfOk-weaker}
use Rattle.net_names.specs.Nets.{net_id}
use Rattle.blif_model.specs.Net.{input_names_of}
use Rattle.blif_model.specs.Walk.{nets_of, unclocked}
use Rattle.blif_model.specs.WalkSteps.{is_clock}
use Rattle.blif_flatten.specs.declared.flat.NameId.{NameId}
use Rattle.blif_flatten.specs.Flattened.{flat_steps}
use Rattle.blif_reader.specs.Numbers.{net_of_name}
use Rattle.blif_reader.specs.Passes.{unmarked}
use Rattle.blif_reader.proofs.FlatSteps.{unmarked_names}
use Rattle.blif_reader.proofs.NamedParts.{inputs_taken, nets_are}
use Rattle.blif_reader.proofs.outputs.input_nets.Goals as goal

pub returns : goal.returns
unfolding input_names_of
returns c = IfOk-weaker c.nets.result _ _ (λ nets e.
    let flat = c.args.flat.now in
    let steps = flat_steps flat in
    let ids = c.in_ok-names.names.items in
    let within = c.in_ok-names.ensures.within in
    e ∙ ap (map (net_of_name c.args.numbers.now)) (c.as_slice-2.ensures.value ∙ c.in_ok-own.ensures ∙ ap (unmarked c.args.clocks.now) c.as_slice.ensures.value)
    ∙ nets_are flat c.args.numbers.now c.requires.numbers (unmarked c.args.clocks.now ids) (All-filter _ (λ (id : NameId). id.0 < length flat.names) ids within)
    ∙ ap (map (net_id (nets_of steps))) (unmarked_names flat (is_clock steps) c.args.clocks.now c.requires.clocks ids within
    ∙ ap (unclocked steps) c.in_ok-names.ensures.names ∙ inputs_taken steps steps)) c.nets.ensures
