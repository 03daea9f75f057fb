use Rattle.std.proofs.Common.{◌≡◌, Bool, true, refl, ap, sym, subst, ◌∙◌}
use Rattle.std.specs.Prelude.{All}
use Rattle.std.specs.List.{slice_get}
use Rattle.circuit.specs.Sound.{IsNetlist}
use Rattle.circuit.specs.declared.parts.NetId.{NetId}
use Rattle.coverage_claim.specs.Claim.{unequal, window_of}
use Rattle.coverage_claim.specs.Largest.{IsRefuted}
use Rattle.coverage_claim.specs.Rules.{everything}
use Rattle.region_search.specs.Going.{sets_of}
use Rattle.claim_search.proofs.Looking.{must_grow, none_differs, windows_go_on}
use Rattle.claim_search.specs.Question.{with_pairs}
use Rattle.claim_search.specs.Window.{starts_of}
use Rattle.claim_search.proofs.window.WindowSearch.look.Goals as goal

pub returns-then-not-agrees-clause-shown : goal.returns-then-not-agrees-clause-shown
returns-then-not-agrees-clause-shown c = λ claim asked allows proof.
    let net = c.args.searched.now.netlist.now in
    let s = window_of (with_pairs claim (starts_of net c.args.starts.now)) in
    let sound = subst IsNetlist c.requires.searched.netlist c.requires.searched.sound in
    c.agrees-agrees.ensures.open c.if-not-agrees.true s everything (sets_of c.begin.new.self.search.sets) (record { each = asked.sites }) (c.begin.ensures.goes_on claim asked)
    (subst (All (λ (n : NetId). (a b : Bool) → unequal a b ≡ true → IsRefuted s 0 n.0 a b)) asked.posed.observed (none_differs net claim sound asked.posed.circuit c.args.starts.now allows proof))

pub returns-then-grows-clause-shown : goal.returns-then-grows-clause-shown
returns-then-grows-clause-shown c = λ claim asked allows proof.
    let net = c.args.searched.now.netlist.now in
    let sound = subst IsNetlist c.requires.searched.netlist c.requires.searched.sound in
    must_grow net claim sound asked.posed.circuit c.args.starts.now allows proof c.grow-grows.new.starts
    (λ l latch at. c.grow-grows.ensures.forced (window_of (with_pairs claim (starts_of net c.args.starts.now))) everything (sets_of c.begin.new.self.search.sets) (record { each = asked.sites })
    (c.begin.ensures.goes_on claim asked) l latch (ap (λ all. slice_get all l) c.latches-latches.ensures.value ∙ at))

pub returns-clause-shown : goal.returns-clause-shown
returns-clause-shown c = λ claim asked.
    let net = c.args.searched.now.netlist.now in
    let s = window_of (with_pairs claim (starts_of net c.args.starts.now)) in
    let sound = subst IsNetlist c.requires.searched.netlist c.requires.searched.sound in
    windows_go_on net claim sound asked.posed.circuit c.args.starts.now
    (λ golden faulty so. subst (All (λ (n : NetId). golden 0 n.0 ≡ faulty 0 n.0)) (sym asked.posed.observed)
    (c.agrees-agrees.ensures.same c.if-not-agrees.false s everything (sets_of c.begin.new.self.search.sets) (record { each = asked.sites }) (c.begin.ensures.goes_on claim asked) golden faulty so
    (λ i n le. refl)))
    (λ golden faulty so l latch at. c.grow-grows.ensures.again c.if-grows.false s everything (sets_of c.begin.new.self.search.sets) (record { each = asked.sites })
    (c.begin.ensures.goes_on claim asked) golden faulty so (λ i n le. refl) l latch (ap (λ all. slice_get all l) c.latches-latches.ensures.value ∙ at))
