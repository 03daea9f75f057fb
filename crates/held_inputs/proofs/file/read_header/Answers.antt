use Rattle.std.proofs.Common.{◌≡◌, [], ◌∷◌, sym, ap}
use Rattle.held_inputs.specs.Steps.{held_of_rows}
use Rattle.held_inputs.proofs.Whole.{no_header}
use Rattle.held_inputs.proofs.file.read_header.Goals as goal

-- there is no row
pub returns-in_default : goal.returns-in_default
returns-in_default c =
    let read : (c.args.rows.now ≡ []) × (c.next.new.self ≡ []) = rw c.in_default.is at c.in_ok-first.ensures.row in
    λ net. rw c.refusal.ensures (ap (held_of_rows net) read.0)

-- the first row is no header
pub returns-then-not-is_header : goal.returns-then-not-is_header
returns-then-not-is_header c =
    let read : c.args.rows.now ≡ c.in-Some.first ∷ c.next.new.self = rw c.in-Some.is at c.in_ok-first.ensures.row in
    λ net. rw c.refusal-then-not-is_header.ensures (no_header net c.args.rows.now c.in-Some.first c.next.new.self read (sym c.if-not-is_header.ensures))

pub returns : goal.returns
returns c =
    let read : c.args.rows.now ≡ c.in-Some.first ∷ c.next.new.self = rw c.in-Some.is at c.in_ok-first.ensures.row in
    (c.in-Some.first, read, sym c.if-not-is_header.ensures)
