use Rattle.std.proofs.Common.{◌≡◌, List, [], ◌∷◌, ◌++◌, true, refl, sym, ◌∙◌, subst}
use Rattle.std.specs.List.{Contains}
use Rattle.std.proofs.lemmas.List.Elements.{All-contains, Contains-push}
use Rattle.circuit.specs.declared.parts.NetId.{NetId}
use Rattle.circuit.specs.Value.{bit_at, driver_at}
use Rattle.reach.specs.declared.search.Search.{Search}
use Rattle.reach.specs.Paths.{reads_of}
use Rattle.reach.proofs.Finding.{left_marked, search_step}
use Rattle.reach.proofs.search.Search.finish.Goals as goal

pub loop-net-preserved : goal.loop-net-preserved
loop-net-preserved c =
    let netlist = c.args.netlist.now in
    let net : NetId = c.in-Some.net in
    let inv = c.loop-net.invariant in
    let left : List NetId = c.loop-net.self.left.items in
    let marks = c.loop-net.self.marks.items in
    let s : Search = record { marks = c.loop-net.self.marks; left = c.pop.new.self } in
    let t : Search = c.look_back.new.self in
    let is : left ≡ s.left.items ++ net ∷ [] = c.in-Some.ensures.items in
    let found = c.in_ok-look_back.ensures.found in
    let here : bit_at marks net.0 ≡ true =
    All-contains (λ (m : NetId). bit_at marks m.0 ≡ true) left net inv.left (subst (λ (xs : List NetId). Contains xs net) (sym is) (Contains-push s.left.items net)) in
    record {
      size = found.size ∙ inv.size;
      left = left_marked s t (reads_of netlist (driver_at netlist net.0)) left net found is inv.left;
      search = λ goals first. search_step netlist goals marks left net s t is refl here found c.in_ok-look_back.ensures.marked (inv.search goals first);
      grows = λ n e. found.grows n (inv.grows n e);
    }
