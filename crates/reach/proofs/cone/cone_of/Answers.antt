use Rattle.std.proofs.Common.{◌≡◌, List, [], true, get_or, refl}
use Rattle.std.specs.List.{All}
use Rattle.circuit.specs.declared.parts.NetId.{NetId}
use Rattle.circuit.specs.Value.{bit_at}
use Rattle.reach.specs.declared.search.Search.{Search}
use Rattle.reach.specs.Search.{IsSearch}
use Rattle.reach.proofs.Cones.{is_cone}
use Rattle.reach.proofs.Finding.{search_found, search_none}
use Rattle.reach.proofs.cone.cone_of.Goals as goal

pub returns : goal.returns
returns c =
    let netlist = c.args.netlist.now in
    let goals : List NetId = c.args.goals.now in
    let s : Search = c.in_ok-search.search in
    let t : Search = c.find_all.new.self in
    let marks = c.finish.new.self.marks.items in
    let none : IsSearch netlist goals s.marks.items s.left.items [] =
    search_none netlist goals s.marks.items s.left.items c.nets.result c.in_ok-search.ensures.marks in
    let first : IsSearch netlist goals t.marks.items t.left.items [] =
    search_found netlist goals goals [] s t none c.in_ok-find_all.ensures.found (λ m at. (m, at, (0, refl))) in
    let all : All (λ (goal : NetId). bit_at marks goal.0 ≡ true) goals =
    λ i d lt. c.in_ok-finish.ensures.grows (get_or goals i d).0 (c.in_ok-find_all.ensures.marked i d lt) in
    is_cone netlist goals marks (c.in_ok-finish.ensures.search goals first) all
