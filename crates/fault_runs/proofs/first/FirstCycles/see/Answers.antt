use Rattle.std.proofs.Common.{◌≡◌, ◌<◌, ◌-◌, ◌+◌, ◌*◌, ◌∙◌, ℕ, true, is_some, length, inl, inr, ap, sym, subst, refl, arith}
use Rattle.std.proofs.lemmas.Bool.{cases_lt}
use Rattle.fault_runs.specs.First.{SeesSome, fault_in, first_in}
use Rattle.fault_runs.proofs.Seeing.{has_first, sees_more, sees_none}
use Rattle.fault_runs.proofs.first.FirstCycles.see.Goals as goal

pub loop-word-init : goal.loop-word-init
loop-word-init g c = record {
  count = refl;
  known = c.requires.known;
  seen = λ k lt within is. absurd (omega (arith, lt));
  sees = λ is_seen each. sees_none c.args.group.now is_seen c.args.cycle c.args.self.now.cycles;
  others = λ i none. refl;
}

pub loop-word-preserved : goal.loop-word-preserved
loop-word-preserved g c =
    let inv = c.loop-word.invariant in
    let group = c.args.group.now in
    let w = c.loop-word.word in
    let old = c.loop-word.self.cycles in
    let new = c.see_word.new.self.cycles in
    let ran = c.see_word.ensures in
    let step : SeesSome group (λ i. true) c.args.cycle old new = ran.sees (λ i. true) (λ k lt within is. refl) in
    record {
      count = ran.count ∙ inv.count;
      known = ran.known;
      seen = λ k lt within is.
          elim (cases_lt k (w * 64)) as (λ _. is_some (first_in new (fault_in group k)) ≡ true) [
            | inl before ↦ step.stays (fault_in group k) (inv.seen k before within is)
            | inr from ↦
                (let j : ℕ = k - w * 64 in
                let at : w * 64 + j ≡ k = omega (arith, from) in
                let small : j < 64 = omega (arith, lt, from) in
                ap (λ m. is_some (first_in new (fault_in group m))) (sym at)
                ∙ ran.seen j small (subst (λ m. m < length group) (sym at) within)
                (c.part.ensures j small ∙ ap (λ m. g.W.Word.lane_bit c.args.lanes m) at ∙ is))
          ];
      sees = λ is_seen each.
          sees_more group is_seen c.args.cycle c.args.self.now.cycles old new (inv.sees is_seen each)
          (ran.sees is_seen (λ k lt within is. sym (each (w * 64 + k) within) ∙ sym (c.part.ensures k lt) ∙ is));
      others = λ i none. step.others i none ∙ inv.others i none;
    }

pub returns-clause-seen : goal.returns-clause-seen
returns-clause-seen g c = λ is_seen each k within.
    let inv = c.loop-word.invariant in
    let whole : g.W.Word.lanes ≡ g.W.Word.words * 64 = g.met.W.Word.whole in
    let far : k < c.loop-word.word * 64 = omega (arith, within, c.requires.few, whole, c.loop-word-test.false, c.words-word-end.ensures.count) in
    has_first c.args.group.now is_seen c.args.cycle c.args.self.now.cycles c.loop-word.self.cycles (inv.sees is_seen each) (fault_in c.args.group.now k)
    (λ is. inv.seen k far within (each k within ∙ is))

pub returns-clause-others : goal.returns-clause-others
returns-clause-others g c = c.loop-word.invariant.others
