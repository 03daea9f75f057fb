-- The steps of the loop that looks for the first line with a fault.
use Rattle.std.proofs.Common.{◌≡◌, ℕ, ◌+◌, ◌<◌, ◌≤◌, List, [], ◌∷◌, ◌++◌, refl, ◌∙◌, length, take, drop, get_or}
use Rattle.std.specs.Prelude.{Option, None}
use Rattle.std.specs.Option.{option_map, option_or}
use Rattle.std.proofs.lemmas.List.{drop_more, take_more, drop_all}
use Rattle.fm_base.specs.Firsts.{first_after}
use Rattle.blif_text.specs.declared.NetlistKind.{NetlistKind}
use Rattle.blif_text.specs.declared.NetlistFault.{NetlistFault}
use Rattle.blif_model.specs.LineFault.{Said, at_line, kind_of}
use Rattle.blif_model.specs.LineSteps.{fault_of}

-- the lines before the next one end with this one
pub up_to_here : (lines : List Said) (i : ℕ) (line : Said) → i < length lines → line ≡ get_or lines i line
    → take (i + 1) lines ≡ take i lines ++ line ∷ []
up_to_here lines i line h e = take_more lines i line h ∙ rw (← e) refl

-- the first fault from this line on is its own, or else that of the lines behind it
pub fault_step : (lines : List Said) (i : ℕ) (line : Said) (kind : Option NetlistKind) (all : Option NetlistFault) → i < length lines
    → line ≡ get_or lines i line
    → kind ≡ kind_of (take i lines) line → first_after fault_of (take i lines) (drop i lines) ≡ all
    → option_or (option_map (at_line line.number) kind) (first_after fault_of (take (i + 1) lines) (drop (i + 1) lines)) ≡ all
unfolding first_after
fault_step lines i line kind all h e k told =
    let from_here : drop i lines ≡ line ∷ drop (i + 1) lines = drop_more lines i line h ∙ rw (← e) refl in
    rw (up_to_here lines i line h e, k) (rw from_here at told)

-- at the end there is none
pub fault_nowhere : (lines : List Said) (i : ℕ) (all : Option NetlistFault) → length lines ≤ i
    → first_after fault_of (take i lines) (drop i lines) ≡ all → None ≡ all
unfolding first_after
fault_nowhere lines i all h told = rw (drop_all i lines h) at told
