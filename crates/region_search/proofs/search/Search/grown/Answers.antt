use Rattle.std.proofs.Common.{◌≡◌, inl, inr, Bool, true, false, ◌&&◌, ◌||◌, refl, ap, sym, subst, ◌∙◌, arith}
use Rattle.std.specs.Prelude.{slice_index_or}
use Rattle.std.proofs.lemmas.Bool.{cases_Bool}
use Rattle.std.proofs.lemmas.Option.{slice_get-get_or}
use Rattle.fm_base.proofs.Tests.{and_both, or_cases}
use Rattle.coverage_claim.specs.Region.{may_show}
use Rattle.coverage_claim.specs.declared.parts.Site.{Site}
use Rattle.coverage_claim.specs.declared.parts.Site.TheVariants.{Intact}
use Rattle.pair_sets.specs.Pairs.{has, shown}
use Rattle.region_search.proofs.Standing.{added_stays, kept_or, other_stays}
use Rattle.region_search.specs.Window.{IsForced, leaves_from}
use Rattle.region_search.proofs.search.Search.grown.Goals as goal

pub returns-clause-grows : goal.returns-clause-grows
returns-clause-grows c = λ a b e. c.or.ensures a b ∙ kept_or (has c.args.start a b) (has c.shown.result a b) e

pub returns-clause-again : goal.returns-clause-again
returns-clause-again c = λ s bounds q sites goes golden faulty so lie.
    let site = slice_index_or c.args.sites.now c.args.latch.to.0 Intact in
    let region : s.region c.args.latch.to.0 ≡ site = sites.each c.args.latch.to.0 site (slice_get-get_or c.args.sites.now c.args.latch.to.0 Intact (omega (arith, c.requires.to, c.requires.made.count))) in
    let a = golden 0 c.args.latch.from.0 in
    let b = faulty 0 c.args.latch.from.0 in
    let grows : (x y : Bool) → has c.or.result x y ≡ (has c.args.start x y || shown site (has c.standing-leaving.result) x y) =
    λ x y. c.or.ensures x y ∙ ap (λ v. has c.args.start x y || v) (c.shown.ensures x y) in
    subst (λ (each : Site). leaves_from each (has c.or.result) a b ≡ false) (sym region)
    (elim (cases_Bool (has c.standing-leaving.result a b)) as (λ _. leaves_from site (has c.or.result) a b ≡ false) [
      | inl there ↦ added_stays site (has c.args.start) (has c.standing-leaving.result) (has c.or.result) a b grows there
      | inr out ↦ elim (cases_Bool (leaves_from site (has c.args.start) a b)) as (λ _. leaves_from site (has c.or.result) a b ≡ false) [
        | inr stays ↦ other_stays site (has c.args.start) (has c.standing-leaving.result) (has c.or.result) a b grows stays
        | inl leads ↦ absurd (c.standing-leaving.ensures.none s bounds q sites goes a b (c.leaving_pairs-pairs.ensures a b ∙ leads) out golden faulty so lie refl refl)
      ]
    ])

pub returns-clause-forced : goal.returns-clause-forced
returns-clause-forced c = λ s bounds q sites goes x y e.
    let site = slice_index_or c.args.sites.now c.args.latch.to.0 Intact in
    let region : s.region c.args.latch.to.0 ≡ site = sites.each c.args.latch.to.0 site (slice_get-get_or c.args.sites.now c.args.latch.to.0 Intact (omega (arith, c.requires.to, c.requires.made.count))) in
    let leaving = has c.standing-leaving.result in
    elim (or_cases (has c.args.start x y) (has c.shown.result x y) (sym (c.or.ensures x y) ∙ e)) as (λ _. IsForced s c.args.latch (has c.args.start) x y) [
      | inl was ↦ inl was
      | inr new ↦ elim (or_cases (leaving x false && may_show site false y) (leaving x true && may_show site true y) (sym (c.shown.ensures x y) ∙ new)) as (λ _. IsForced s c.args.latch (has c.args.start) x y) [
        | inl low ↦ (let both = and_both (leaving x false) (may_show site false y) low in
            inr (false, ap (λ (each : Site). may_show each false y) region ∙ both.1, c.standing-leaving.ensures.open s bounds q sites goes x false both.0))
        | inr high ↦ (let both = and_both (leaving x true) (may_show site true y) high in
            inr (true, ap (λ (each : Site). may_show each true y) region ∙ both.1, c.standing-leaving.ensures.open s bounds q sites goes x true both.0))
      ]
    ]
