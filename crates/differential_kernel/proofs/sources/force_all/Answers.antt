use Rattle.std.proofs.Common.{◌≡◌, ◌≢◌, inl, inr, ◌<◌, ◌≤◌, ℕ, false, length, ap, refl, sym, ◌∙◌, subst, arith}
use Rattle.std.proofs.lemmas.Bool.{cases_eq, cases_lt}
use Rattle.circuit.specs.Value.{bit_at}
use Rattle.fanout.specs.Readers.{Ordered}
use Rattle.lane_words.specs.Gates.{plane}
use Rattle.place_set.specs.Places.{is_chosen}
use Rattle.differential_kernel.specs.Forced.{forced_in}
use Rattle.differential_kernel.specs.Parts.{AreForcesOf}
use Rattle.differential_kernel.proofs.Forcing.{forced_same, forced_unchosen}
use Rattle.differential_kernel.proofs.sources.force_all.Goals as goal

pub nets-init : goal.nets-init
nets-init g c = record {
  within = omega arith;
  few = omega arith;
  noted = c.requires.noted;
  done = λ k n d lt below within. absurd (omega arith);
  ahead = λ k n le. refl;
}

pub next_forced-requires : goal.next_forced-requires
next_forced-requires g c =
    let size = c.nets.invariant.noted.nets.touched.bound ∙ c.nets.invariant.noted.nets.words ∙ ap (λ (o : Ordered). length o.circuit.drivers) c.requires.golden.fanout in
    record { forces = subst (λ n. AreForcesOf g.W.Word.lanes g.W.Word.lane_bit n c.args.forces.now) (sym size) c.requires.forces }

pub force_net-requires-clause-net : goal.force_net-requires-clause-net
force_net-requires-clause-net g c = omega (arith, c.in-Some.ensures.1, c.nets.invariant.noted.nets.touched.bound ∙ c.nets.invariant.noted.nets.words)

pub force_net-requires-clause-forces : goal.force_net-requires-clause-forces
force_net-requires-clause-forces g c =
    subst (λ n. AreForcesOf g.W.Word.lanes g.W.Word.lane_bit n c.args.forces.now) (sym (ap (λ (o : Ordered). length o.circuit.drivers) c.requires.golden.fanout)) c.requires.forces

pub nets-preserved : goal.nets-preserved
nets-preserved g c =
    let lanes = g.W.Word.lanes in
    let bit = g.W.Word.lane_bit in
    let row = c.args.cycle.now.row.now in
    let own = c.args.forces.now in
    let forces = own.by_net.items in
    let first = c.args.nets.now.words.items in
    let now = c.nets.nets in
    let next = c.force_net.new.nets.words.items in
    let q = c.in-Some.n in
    let found = c.in-Some.ensures in
    let inv = c.nets.invariant in
    let size = inv.noted.nets.touched.bound ∙ inv.noted.nets.words ∙ ap (λ (o : Ordered). length o.circuit.drivers) c.requires.golden.fanout in
    record {
      within = omega (arith, found.1, size);
      few = omega (arith, inv.few, found.0);
      noted = record { nets = c.force_net.ensures.noted.nets; marked = c.force_net.ensures.noted.marked 0 inv.noted.marked };
      done = λ k n d lt below within. elim (cases_eq n q) as (λ _. bit_at (plane bit k next) n ≡ forced_in bit k row forces d first n) [
        | inl same ↦
            subst (λ m. bit_at (plane bit k next) m ≡ forced_in bit k row forces d first m) (sym same)
            (c.force_net.ensures.forced k d lt ∙ forced_same bit k row forces d now.words.items first q (inv.ahead k q found.0))
        | inr other ↦ elim (cases_lt n c.nets.from) as (λ _. bit_at (plane bit k next) n ≡ forced_in bit k row forces d first n) [
          | inl less ↦ c.force_net.ensures.others k n other ∙ inv.done k n d lt less within
          | inr most ↦
              c.force_net.ensures.others k n other ∙ inv.ahead k n most
              ∙ sym
              (forced_unchosen lanes bit k row forces d first n own.zeros own.ones own.named now.touched lt (omega (arith, within, c.requires.forces.each)) c.requires.changed
              c.requires.forces.idle (λ free. sym (inv.ahead k n most) ∙ inv.noted.nets.touched.same n free k lt) (found.2 n most (omega (arith, below, other))))
        ]
      ];
      ahead = λ k n le. c.force_net.ensures.others k n (omega (arith, le)) ∙ inv.ahead k n (omega (arith, le, found.0));
    }

pub returns-clause-forced : goal.returns-clause-forced
returns-clause-forced g c = λ k n d lt within.
    let lanes = g.W.Word.lanes in
    let bit = g.W.Word.lane_bit in
    let row = c.args.cycle.now.row.now in
    let own = c.args.forces.now in
    let forces = own.by_net.items in
    let first = c.args.nets.now.words.items in
    let now = c.nets.nets in
    let inv = c.nets.invariant in
    elim (cases_lt n c.nets.from) as (λ _. bit_at (plane bit k now.words.items) n ≡ forced_in bit k row forces d first n) [
      | inl less ↦ inv.done k n d lt less within
      | inr most ↦
          inv.ahead k n most
          ∙ sym
          (forced_unchosen lanes bit k row forces d first n own.zeros own.ones own.named now.touched lt (omega (arith, within, c.requires.forces.each)) c.requires.changed
          c.requires.forces.idle (λ free. sym (inv.ahead k n most) ∙ inv.noted.nets.touched.same n free k lt) (c.in_default.ensures n most))
    ]
