use Rattle.std.proofs.Common.{◌∙◌, ◌+◌, ◌*◌, ◌∷◌, [], ap, sym, ◌++◌, length, List, ℕ}
use Rattle.std.specs.Prelude.{codes}
use Rattle.fm_base.specs.Text.{line}
use Rattle.fm_base.specs.Names.{Bytes}
use Rattle.fm_shelf.proofs.Sending.{sends_as}
use Rattle.circuit.specs.Names.{net_name}
use Rattle.std.specs.Prelude.{slice_index}
use Rattle.wave_dump.specs.Dump.{identifier_code, variable}
use Rattle.wave_dump.specs.Steps.{backslash}
use Rattle.wave_dump.proofs.Printing.{reference_is, wire_pieces}
use Rattle.wave_dump.proofs.header.write_wire.Goals as goal

pub returns : goal.returns
returns g c =
    let w = c.args.scene.now in
    let name = net_name w.circuit (slice_index w.nets c.args.place) in
    let code = identifier_code (variable w c.args.scope c.args.place) in
    let code_is = c.bytes.ensures ∙ c.code_of-code.ensures ∙ ap (λ (ns : List ℕ). identifier_code (c.args.scope * length ns + c.args.place)) c.nets.ensures.value in
    let name_is = c.name-name.ensures in
    let back_is = c.backslash_of.ensures ∙ ap backslash name_is in
    sends_as (wire_pieces code (backslash name) name ∙ ap (λ (r : Bytes). line (codes "$var wire 1" ∷ code ∷ r ∷ codes "$end" ∷ [])) (sym (reference_is name)))
    (sends_as (λ j. codes "$var wire 1 " ++ ((code_is j) ++ (32 ∷ ((back_is j) ++ ((name_is j) ++ codes " $end\n"))))) c.write_pieces.ensures)
