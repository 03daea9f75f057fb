use Rattle.std.proofs.Common.{◌≡◌, [], ◌∷◌, sym}
use Rattle.alarm_points.proofs.Whole.{no_rows, no_header}
use Rattle.alarm_points.proofs.file.read_header.Goals as goal

-- there is no row
pub returns-in_default : goal.returns-in_default
returns-in_default c =
    let read : (c.args.rows.now ≡ []) × (c.next.new.self ≡ []) = rw c.in_default.is at c.in_ok-first.ensures.row in
    λ net. rw c.refusal.ensures (no_rows net c.args.rows.now read.0)

-- the first row is no header
pub returns-in_default-of : goal.returns-in_default-of
returns-in_default-of c =
    let read : c.args.rows.now ≡ c.in-Some.first ∷ c.next.new.self = rw c.in-Some.is at c.in_ok-first.ensures.row in
    λ net. rw c.refusal-in_default-of.ensures (no_header net c.args.rows.now c.in-Some.first c.next.new.self read (sym c.in_default-of.ensures))

pub returns : goal.returns
returns c =
    let read : c.args.rows.now ≡ c.in-Some.first ∷ c.next.new.self = rw c.in-Some.is at c.in_ok-first.ensures.row in
    (c.in-Some.first, read, sym c.in-Some-of.ensures)
