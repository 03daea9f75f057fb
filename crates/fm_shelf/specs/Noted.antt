-- What a note adds to the record that a shelf keeps of its calls.
use Rattle.std.specs.Prelude.{ℕ, List, [], length, take, Result, Ok, Err}
use Rattle.fm_shelf.specs.Past.{gave, taken_by, cut_by}
use Rattle.fm_shelf.specs.Event.{Event, Read, Unread, Changed, Sent, given_of}
use Rattle.fm_shelf.specs.declared.past.Note.{Note}
use Rattle.fm_shelf.specs.declared.past.Note.TheVariants as note

-- a read into this piece, from this place on
abbrev pub read_by : {E : Type 0} → (name : List ℕ) → (at : ℕ) → (piece : List ℕ) → Result ℕ E → Event
read_by name at piece (Ok n) = Read name (gave at (length piece) (take n piece))
read_by name at piece (Err failed) = Unread name

-- a write of this piece: what the output took of it
abbrev pub sent_by : {E : Type 0} → (piece : List ℕ) → Result ℕ E → List ℕ
sent_by piece (Ok n) = take n piece
sent_by piece (Err failed) = []

-- the event of this note behind these
abbrev pub event_of : List Event → Note → Event
event_of earlier (note.Read name at piece answer) = read_by name.now at piece.now answer
event_of earlier (note.Append name piece answer) = Changed name.now (taken_by piece.now answer)
event_of earlier (note.Cut name len answer) = Changed name.now (cut_by (given_of earlier name.now) len answer)
event_of earlier (note.Write piece answer) = Sent (sent_by piece.now answer)
