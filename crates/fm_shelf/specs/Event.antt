-- A record of calls on files and on an output, of which the last stands first.
use Rattle.std.specs.Prelude.{◌≡◌, ℕ, ◌+◌, ◌==◌, List, [], ◌∷◌, ◌++◌, refl, if◌then◌else◌}
use Rattle.std.specs.Str.{bytes_eq}
use Rattle.std.specs.Coded.{Coded, code_by, coded×, coded_ℕ, coded_list}
use Rattle.fm_shelf.specs.Past.{Given, Gave, Ended, Change, Took, Tore, Cut, MayCut}

-- a read of the file of this name gave these; or one failed; or it was changed so; or an output took these bytes
pub data Event : Type 0 where
  Read : (name : List ℕ) → List Given → Event
  Unread : (name : List ℕ) → Event
  Changed : (name : List ℕ) → List Change → Event
  Sent : (bytes : List ℕ) → Event

-- what reads of a file gave, in the order of the calls
abbrev pub given_of : List Event → List ℕ → List Given
given_of [] name = []
given_of (Read own given ∷ earlier) name = if bytes_eq own name then given_of earlier name ++ given else given_of earlier name
given_of (Unread own ∷ earlier) name = given_of earlier name
given_of (Changed own changed ∷ earlier) name = given_of earlier name
given_of (Sent bytes ∷ earlier) name = given_of earlier name

-- how it was changed
abbrev pub changed_of : List Event → List ℕ → List Change
changed_of [] name = []
changed_of (Read own given ∷ earlier) name = changed_of earlier name
changed_of (Unread own ∷ earlier) name = changed_of earlier name
changed_of (Changed own changed ∷ earlier) name = if bytes_eq own name then changed_of earlier name ++ changed else changed_of earlier name
changed_of (Sent bytes ∷ earlier) name = changed_of earlier name

-- what the output took
abbrev pub sent_of : List Event → List ℕ
sent_of [] = []
sent_of (Read own given ∷ earlier) = sent_of earlier
sent_of (Unread own ∷ earlier) = sent_of earlier
sent_of (Changed own changed ∷ earlier) = sent_of earlier
sent_of (Sent bytes ∷ earlier) = sent_of earlier ++ bytes

-- how often it was read, or a read of it has failed
abbrev pub asked_of : List Event → List ℕ → ℕ
asked_of [] name = 0
asked_of (Read own given ∷ earlier) name = if bytes_eq own name then asked_of earlier name + 1 else asked_of earlier name
asked_of (Unread own ∷ earlier) name = if bytes_eq own name then asked_of earlier name + 1 else asked_of earlier name
asked_of (Changed own changed ∷ earlier) name = asked_of earlier name
asked_of (Sent bytes ∷ earlier) name = asked_of earlier name

-- how often a read of it has failed
abbrev pub unread_of : List Event → List ℕ → ℕ
unread_of [] name = 0
unread_of (Read own given ∷ earlier) name = unread_of earlier name
unread_of (Unread own ∷ earlier) name = if bytes_eq own name then unread_of earlier name + 1 else unread_of earlier name
unread_of (Changed own changed ∷ earlier) name = unread_of earlier name
unread_of (Sent bytes ∷ earlier) name = unread_of earlier name

-- how many of these changes have failed
abbrev pub failed_in : List Change → ℕ
failed_in [] = 0
failed_in (Took byte ∷ changed) = failed_in changed
failed_in (Tore bytes ∷ changed) = failed_in changed + 1
failed_in (Cut given len ∷ changed) = failed_in changed
failed_in (MayCut given len ∷ changed) = failed_in changed + 1

-- how often an append to it or a cut of it has failed
abbrev pub unwritten_of : List Event → List ℕ → ℕ
unwritten_of events name = failed_in (changed_of events name)

-- ---- how the logic stores such a record

abbrev given_parts : Given → ℕ × (ℕ × ℕ)
given_parts (Gave place byte) = (0, (place, byte))
given_parts (Ended place) = (1, (place, 0))

abbrev given_from : ℕ × (ℕ × ℕ) → Given
given_from p = if p.0 == 0 then Gave p.1.0 p.1.1 else Ended p.1.0

pub given_back : (g : Given) → given_from (given_parts g) ≡ g
given_back (Gave place byte) = refl
given_back (Ended place) = refl

abbrev change_parts : Change → ℕ × (ℕ × (List ℕ × List Given))
change_parts (Took byte) = (0, (byte, ([], [])))
change_parts (Tore bytes) = (1, (0, (bytes, [])))
change_parts (Cut given len) = (2, (len, ([], given)))
change_parts (MayCut given len) = (3, (len, ([], given)))

abbrev change_from : ℕ × (ℕ × (List ℕ × List Given)) → Change
change_from p = if p.0 == 0 then Took p.1.0 else if p.0 == 1 then Tore p.1.1.0 else if p.0 == 2 then Cut p.1.1.1 p.1.0 else MayCut p.1.1.1 p.1.0

pub change_back : (c : Change) → change_from (change_parts c) ≡ c
change_back (Took byte) = refl
change_back (Tore bytes) = refl
change_back (Cut given len) = refl
change_back (MayCut given len) = refl

abbrev event_parts : Event → ℕ × (List ℕ × (List Given × List Change))
event_parts (Read name given) = (0, (name, (given, [])))
event_parts (Changed name changed) = (1, (name, ([], changed)))
event_parts (Sent bytes) = (2, (bytes, ([], [])))
event_parts (Unread name) = (3, (name, ([], [])))

abbrev event_from : ℕ × (List ℕ × (List Given × List Change)) → Event
event_from p = if p.0 == 0 then Read p.1.0 p.1.1.0 else if p.0 == 1 then Changed p.1.0 p.1.1.1 else if p.0 == 2 then Sent p.1.0 else Unread p.1.0

pub event_back : (e : Event) → event_from (event_parts e) ≡ e
event_back (Read name given) = refl
event_back (Changed name changed) = refl
event_back (Sent bytes) = refl
event_back (Unread name) = refl

abbrev given_code : Coded Given
given_code = code_by (ℕ × (ℕ × ℕ)) (coded× coded_ℕ (coded× coded_ℕ coded_ℕ)) given_parts given_from given_back

abbrev change_code : Coded Change
change_code =
    code_by (ℕ × (ℕ × (List ℕ × List Given))) (coded× coded_ℕ (coded× coded_ℕ (coded× (coded_list coded_ℕ) (coded_list given_code)))) change_parts
    change_from change_back

abbrev event_code : Coded Event
event_code =
    code_by (ℕ × (List ℕ × (List Given × List Change)))
    (coded× coded_ℕ (coded× (coded_list coded_ℕ) (coded× (coded_list given_code) (coded_list change_code)))) event_parts event_from event_back

abbrev pub events_code : Coded (List Event)
events_code = coded_list event_code
