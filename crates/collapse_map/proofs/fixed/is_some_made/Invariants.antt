use Rattle.std.proofs.Common.{◌≡◌, drop}
use Rattle.std.specs.List.{list_any}
use Rattle.collapse_map.specs.Fixed.{makes_match}
use Rattle.collapse_map.proofs.fixed.is_some_made.Given as goal

-- the rows that are left decide as all of them do
abbrev pub invariant-loop-k : goal.invariant-loop-k
invariant-loop-k l = list_any (makes_match l.place l.v) (drop l.k l.rows) ≡ list_any (makes_match l.place l.v) l.rows
