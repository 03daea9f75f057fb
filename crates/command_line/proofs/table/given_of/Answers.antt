use Rattle.std.proofs.Common.{◌∙◌, ap, sym}
use Rattle.std.specs.Prelude.{Some}
use Rattle.clap.specs.Words.{found_of}
use Rattle.command_line.proofs.Said.{found_text}
use Rattle.command_line.proofs.table.given_of.Goals as goal

pub returns-in_ok-name-in-Some : goal.returns-in_ok-name-in-Some
returns-in_ok-name-in-Some c =
    ap Some c.in_ok-name-in-Some.ensures ∙ sym (found_text (found_of c.args.matches.now) c.args.id.now _ _ c.in-Some.is c.get_str.ensures)

pub returns-in-None : goal.returns-in-None
returns-in-None c = sym (found_text (found_of c.args.matches.now) c.args.id.now _ _ c.in-None.is c.get_str.ensures)
