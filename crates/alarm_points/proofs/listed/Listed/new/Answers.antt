use Rattle.std.proofs.Common.{◌∙◌, sym, refl}
use Rattle.alarm_points.proofs.listed.Listed.new.Goals as goal
use Rattle.fm_base.proofs.Distinct.{distinct-nil}

pub returns-clause-lists : goal.returns-clause-lists
returns-clause-lists c = record {
  header = refl;
  nets = c.in_ok-names_of.ensures.names;
  few_nets = c.in_ok-names_of.ensures.few;
  goals = c.new.ensures ∙ sym distinct-nil;
  rows_are = c.new-2.ensures;
}
