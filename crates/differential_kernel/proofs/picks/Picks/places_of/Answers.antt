use Rattle.std.proofs.Common.{◌≡◌, inl, inr, ◌<◌, ◌+◌, ◌*◌, ◌||◌, ℕ, true, false, false, ap, sym, ◌∙◌, subst, arith}
use Rattle.std.proofs.lemmas.Bool.{cases_eq, false_from_ne_true, true≢false}
use Rattle.fm_base.specs.Planes.{bit}
use Rattle.differential_kernel.specs.Picked.{ArePicks, is_place, place_in}
use Rattle.differential_kernel.proofs.Picking.{of_lane_more, of_lane_stays, places_more}
use Rattle.differential_kernel.proofs.picks.Picks.places_of.Goals as goal
use Rattle.differential_kernel.proofs.picks.Picks.places_of.Goals.{then-get, else-get}

pub returns-clause-others : goal.returns-clause-others
returns-clause-others c = λ other k place lane apart there.
    let picks = c.args.self.now in
    let sound : ArePicks picks = subst ArePicks c.self.view_is c.self.invariant in
    let own = sound.picked_there (other * 64 + k) place there in
    let inside : place < 64 = omega (arith, own.0, sound.few) in
    false_from_ne_true (bit c.loop-lane.bits place)
    (λ is.
    let found = c.loop-lane.invariant.only place inside is in
    let also = sound.picked_there (c.args.word * 64 + found.0) place found.3 in
    let same : other * 64 + k ≡ c.args.word * 64 + found.0 = sym own.1 ∙ also.1 in
    let within : found.0 < 64 = omega (arith, found.1, c.loop-lane-test.false) in
    elim apart [
      | inl away ↦ away (omega (arith, same, lane, within))
      | inr unset ↦
          (let here : k ≡ found.0 = omega (arith, same, lane, within) in
          true≢false (sym found.2 ∙ sym (ap (bit c.args.plane) here) ∙ unset))
    ])

pub loop-lane-preserved : goal.loop-lane-preserved
loop-lane-preserved c =
    let picks = c.args.self.now in
    let sound : ArePicks picks = subst ArePicks c.self.view_is c.self.invariant in
    let word = c.args.word in
    let plane = c.args.plane in
    let lane = c.loop-lane.lane in
    let old = c.loop-lane.bits in
    let new = c.if-get.bits in
    let inv = c.loop-lane.invariant in
    elim c.if-get.branch [
      | then-get w ↦
          (let set : bit plane lane ≡ true = sym c.get.ensures ∙ w.if-get.true in
          let is : (other : ℕ) → other < 64 → bit new other ≡ (is_place other (place_in picks (word * 64 + lane)) || bit old other) =
          λ other lt.
          ap (λ b. bit b other) w.bits-is ∙ w.with_place-bits.ensures other lt
          ∙ ap (λ p. is_place other p || bit old other) w.place.ensures.place in
          record {
            set = places_more picks word plane lane old new sound is inv.set;
            only = λ place inside. of_lane_more picks word plane lane old new place set (is place inside) (inv.only place inside);
          })
      | else-get w ↦
          (let unset : bit plane lane ≡ false = sym c.get.ensures ∙ w.if-get.false in
          let same : new ≡ old = w.bits-is in
          record {
            set = λ k place lt set there. elim (cases_eq k lane) [
              | inl here ↦ absurd (true≢false (sym set ∙ ap (bit plane) here ∙ unset))
              | inr apart ↦ ap (λ b. bit b place) same ∙ inv.set k place (omega (arith, lt, apart)) set there
            ];
            only = λ place inside now. of_lane_stays picks word plane lane place (inv.only place inside (sym (ap (λ b. bit b place) same) ∙ now));
          })
    ]
