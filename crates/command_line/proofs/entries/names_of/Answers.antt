use Rattle.clap.specs.Words.{found_of, rows_of}
use Rattle.command_line.proofs.Said.{named}
use Rattle.command_line.proofs.entries.names_of.Goals as goal

pub returns : goal.returns
returns c =
    named (rows_of (found_of c.args.matches.now)) _ _ _ _ _ _ _ _ _ c.text_of.ensures c.text_of-2.ensures c.text_of-3.ensures c.text_of-4.ensures c.text_of-5.ensures
    c.text_of-6.ensures c.text_of-7.ensures c.text_of-8.ensures c.text_of-9.ensures
