use Rattle.std.proofs.Common.{◌≡◌, ◌<◌, ◌-◌, ◌^◌, ◌+◌, ◌*◌, ◌∙◌, ℕ, Bool, List, Option, true, is_some, length, get_or, set, bit_and, bit_or, ap, sym, subst, refl, arith}
use Rattle.std.specs.Vec.{with_items}
use Rattle.std.proofs.lemmas.Grind.{common_steps}
use Rattle.fm_base.specs.Planes.{bit}
use Rattle.fm_base.proofs.Tests.{and_both}
use Rattle.fault_runs.specs.First.{AreKnown, FirstCycles, SeesSome, fault_in, first_in}
use Rattle.fault_runs.proofs.Seeing.{fresh_bit, known_more, shown_known}
use Rattle.fault_runs.proofs.first.FirstCycles.see_word.Goals as goal

pub see_lanes-requires-clause-group : goal.see_lanes-requires-clause-group
see_lanes-requires-clause-group c = λ k d lt.
    subst (λ (cs : List (Option ℕ)). get_or c.args.group.now k d < length cs) (sym (c.deref_mut.ensures.value ∙ ap (λ (f : FirstCycles). f.cycles) c.self.view_is)) (c.requires.group k d lt)

pub returns : goal.returns
returns c =
    let own = c.self.inside.known in
    let was = get_or own c.args.word 0 in
    let shown = c.args.lanes in
    let group = c.args.group.now in
    let w = c.args.word in
    let old = c.args.self.now.cycles in
    let new = c.see_lanes.new.cycles in
    let count : length own ≡ 4 = grind (arith, common_steps) in
    let small : was < 2 ^ 64 = grind (arith, common_steps) in
    let new_items : (with_items c.self.inside.cycles new).items ≡ new = grind (arith, common_steps) in
    let begins : c.deref_mut.result.now ≡ old = c.deref_mut.ensures.value ∙ ap (λ (f : FirstCycles). f.cycles) c.self.view_is in
    let size : length (with_items c.self.inside.cycles new).items ≡ length old = ap length new_items ∙ c.see_lanes.auto.cycles ∙ ap length begins in
    let each : (is_seen : ℕ → Bool)
    → ((k : ℕ) → k < 64 → w * 64 + k < length group → bit (bit_and shown (18446744073709551615 - was)) k ≡ true → is_seen (fault_in group (w * 64 + k)) ≡ true)
    → SeesSome group is_seen c.args.cycle old new =
    λ is_seen hyp. subst (λ (cs : List (Option ℕ)). SeesSome group is_seen c.args.cycle cs new) begins (c.see_lanes.ensures.sees is_seen hyp) in
    let stays : (i : ℕ) → is_some (first_in old i) ≡ true → is_some (first_in new i) ≡ true = (each (λ i. true) (λ k lt within is. refl)).stays in
    let known_then : AreKnown group own old = subst (λ (ks : List ℕ). AreKnown group ks old) (sym (ap (λ (f : FirstCycles). f.known) c.self.view_is)) c.requires.known in
    let known : AreKnown group (set own w (bit_or was (bit_and shown (18446744073709551615 - was)))) new =
    known_more group own w shown old new c.requires.word count small known_then stays c.see_lanes.ensures.seen in
    record {
      count = size;
      known = subst (λ (cs : List (Option ℕ)). AreKnown group (set own w (bit_or was (bit_and shown (18446744073709551615 - was)))) cs) (sym new_items) known;
      seen = λ k lt within is.
          ap (λ (cs : List (Option ℕ)). is_some (first_in cs (fault_in group (w * 64 + k)))) new_items
          ∙ shown_known group own w shown old new c.requires.word count small known_then stays c.see_lanes.ensures.seen k lt within is;
      sees = λ is_seen hyp.
          subst (λ (cs : List (Option ℕ)). SeesSome group is_seen c.args.cycle old cs) (sym new_items)
          (each is_seen (λ k lt within is. hyp k lt within (and_both _ _ (sym (fresh_bit shown was k small lt) ∙ is)).0));
    }
