-- The nets, as a reader finds them name by name.
use Rattle.std.proofs.Common.{◌≡◌, false, not, ◌&&◌, List, map, ap, ◌∙◌}
use Rattle.fm_base.specs.Names.{Name, is_one_of, has_repeat, distinct}
use Rattle.fm_base.proofs.Distinct.{distinct-found, distinct-apart, filter-found, no_repeat_where}
use Rattle.blif_model.specs.Walk.{Step, Visit, unclocked, nets_of, visits_of}
use Rattle.blif_model.specs.WalkSteps.{is_clock}

-- a visited name is a net where it is no clock name
pub nets-found : (steps : List Step) (names : List Name) (name : Name)
    → is_one_of (unclocked steps (distinct names)) name ≡ (not (is_clock steps name) && is_one_of names name)
nets-found steps names name =
    filter-found (λ n. not (is_clock steps n)) (distinct names) name ∙ ap (λ b. not (is_clock steps name) && b) (distinct-found names name)

-- no net stands twice
pub nets-apart : (steps : List Step) → has_repeat (nets_of steps) ≡ false
unfolding nets_of
nets-apart steps =
    no_repeat_where (λ n. not (is_clock steps n)) (distinct (map (λ (v : Visit). v.name) (visits_of steps)))
    (distinct-apart (map (λ (v : Visit). v.name) (visits_of steps)))
