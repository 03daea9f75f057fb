use Rattle.std.proofs.Common.{◌≡◌, inl, inr, get_or, true, ap, sym, ◌∙◌, subst, arith}
use Rattle.std.proofs.lemmas.Bool.{cases_Bool, cases_eq, cases_lt, true≢false}
use Rattle.std.proofs.lemmas.List.{get_or_default}
use Rattle.lane_words.specs.declared.force.Force.{Force}
use Rattle.lane_words.specs.Forces.{force_value}
use Rattle.place_set.specs.Places.{has}
use Rattle.differential_kernel.proofs.Notes.{grows_none}
use Rattle.differential_kernel.proofs.note.find_changes.Goals as goal

pub nets-preserved : goal.nets-preserved
nets-preserved g c =
    let bit = g.W.Word.lane_bit in
    let forces = c.args.forces.now in
    let value = c.args.value in
    let q = c.in-Some.n in
    let found = c.in-Some.ensures in
    let inv = c.nets.invariant in
    let new = c.put_if.new.set in
    record {
      within = omega (arith, found.1);
      bound = c.put_if.ensures.bound ∙ inv.bound;
      done = λ k n d lt below within none. elim (cases_eq n q) as (λ _. force_value bit k (get_or forces n d) value ≡ value) [
        | inl same ↦
            (let out = ap (has new) (sym same) ∙ none in
            let element = get_or_default forces q d c.index-forces-n.result (omega (arith, same, within)) ∙ sym c.index-forces-n.is in
            elim (cases_Bool c.changes.result) as (λ _. force_value bit k (get_or forces n d) value ≡ value) [
              | inl changed ↦ absurd (true≢false (sym (c.put_if.ensures.there changed) ∙ out))
              | inr stays ↦
                  ap (λ i. force_value bit k (get_or forces i d) value) same
                  ∙ ap (λ (force : Force g.row.W.Denot). force_value bit k force value) element ∙ c.changes.ensures k lt stays
            ])
        | inr other ↦ elim (cases_lt n c.nets.from) as (λ _. force_value bit k (get_or forces n d) value ≡ value) [
          | inl less ↦ inv.done k n d lt less within (grows_none c.nets.set new n c.put_if.ensures.kept none)
          | inr most ↦ c.requires.idle n within (found.3 n most (omega (arith, below, other))) k d value lt
        ]
      ];
    }
