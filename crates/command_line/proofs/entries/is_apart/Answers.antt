use Rattle.std.proofs.Common.{◌≡◌, ◌∙◌, List, codes, subst, sym, true, false}
use Rattle.std.specs.Prelude.{bytes_eq, not}
use Rattle.std.specs.List.{list_all}
use Rattle.clap.specs.Words.{found_of}
use Rattle.commands.specs.declared.command.Which.{Which}
use Rattle.commands.specs.Commands.{inputs_of, name_by}
use Rattle.command_line.proofs.Apart.{no_result, one_of_them, others}
use Rattle.command_line.proofs.Said.{found_text}
use Rattle.command_line.proofs.entries.is_apart.Goals as goal

pub returns-in-Some-clause-apart : goal.returns-in-Some-clause-apart
returns-in-Some-clause-apart c =
    let found = found_text (found_of c.args.matches.now) (codes "result") _ _ c.in-Some.is c.get_str.ensures in
    let P : List Which → Type 0 = λ own. list_all (λ file. not (bytes_eq (name_by c.args.names.now file) c.in-Some.name.now)) own ≡ true in
    λ all. others (name_by c.args.names.now) _ c.in-Some.name.now found (inputs_of c.args.kind) (subst P c.inputs.ensures (sym c.are_other.ensures ∙ all))

pub returns-in-Some-clause-same : goal.returns-in-Some-clause-same
returns-in-Some-clause-same c =
    let found = found_text (found_of c.args.matches.now) (codes "result") _ _ c.in-Some.is c.get_str.ensures in
    let P : List Which → Type 0 = λ own. list_all (λ file. not (bytes_eq (name_by c.args.names.now file) c.in-Some.name.now)) own ≡ false in
    λ all. one_of_them (name_by c.args.names.now) _ c.in-Some.name.now found (inputs_of c.args.kind) (subst P c.inputs.ensures (sym c.are_other.ensures ∙ all))

pub returns-in-None-clause-apart : goal.returns-in-None-clause-apart
returns-in-None-clause-apart c =
    let found = found_text (found_of c.args.matches.now) (codes "result") _ _ c.in-None.is c.get_str.ensures in
    λ all. no_result (name_by c.args.names.now) _ (inputs_of c.args.kind) found
