use Rattle.std.proofs.Common.{◌≡◌, ◌∙◌, [], ap, arith, false, length, map, replicate}
use Rattle.std.proofs.lemmas.Grind.{common_steps}
use Rattle.std.proofs.lemmas.Result.{IfOk-weaker}
use Rattle.fm_base.specs.Lists.{firsts}
use Rattle.fm_base.specs.Names.{distinct}
use Rattle.net_names.specs.Nets.{net_id}
use Rattle.blif_model.specs.Net.{output_names_of}
use Rattle.blif_model.specs.Walk.{nets_of}
use Rattle.blif_flatten.specs.Flattened.{flat_steps}
use Rattle.blif_flatten.proofs.Marking.{mark_none}
use Rattle.blif_reader.specs.Numbers.{net_of_name}
use Rattle.blif_reader.specs.Parts.{first_ids}
use Rattle.blif_reader.proofs.NamedParts.{firsts_named, firsts_within, nets_are}
use Rattle.blif_reader.proofs.outputs.output_nets.Goals as goal

pub first_ids-requires : goal.first_ids-requires
first_ids-requires c =
    let size : length c.in_ok-seen.seen.items ≡ length c.args.flat.now.names = grind (arith, common_steps, c.in_ok-seen.ensures.len, c.len.ensures) in
    rw (c.as_slice.ensures.value, size) c.in_ok-names.ensures.within

pub returns : goal.returns
unfolding output_names_of firsts
returns c = IfOk-weaker c.nets.result _ _ (λ nets e.
    let flat = c.args.flat.now in
    let ids = c.in_ok-names.names.items in
    let seen = c.in_ok-seen.seen.items in
    let within = c.in_ok-names.ensures.within in
    let none : seen ≡ replicate (length flat.names) false = c.in_ok-seen.ensures.items ∙ ap (λ n. replicate n false) c.len.ensures in
    e ∙ ap (map (net_of_name c.args.numbers.now)) (c.as_slice-2.ensures.value ∙ c.in_ok-firsts.ensures ∙ ap (first_ids seen) c.as_slice.ensures.value)
    ∙ nets_are flat c.args.numbers.now c.requires (first_ids seen ids) (firsts_within flat ids seen within)
    ∙ ap (map (net_id (nets_of (flat_steps flat)))) (firsts_named flat ids [] seen within (none ∙ mark_none flat.names) ∙ ap distinct c.in_ok-names.ensures.names)) c.nets.ensures
