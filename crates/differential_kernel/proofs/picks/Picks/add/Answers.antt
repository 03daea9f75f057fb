use Rattle.std.proofs.Common.{◌<◌, ap, sym, ◌∙◌, subst}
use Rattle.std.proofs.lemmas.Option.{none-some}
use Rattle.differential_kernel.specs.Picked.{AreBelow, Picks, place_in}
use Rattle.differential_kernel.specs.declared.picks.Picks.TheInside.{Inside}
use Rattle.differential_kernel.proofs.Picking.{are_more, below_more_lanes, none_before, place_added}
use Rattle.differential_kernel.proofs.picks.Picks.add.Goals as goal

-- the lanes before
abbrev before : Inside → Picks
before s = record { count = s.count; lanes = s.lanes; places = s.places }

pub invariant_of-self : goal.invariant_of-self
invariant_of-self c =
    are_more (before c.self.inside) c.args.lane c.self.invariant (subst (λ (p : Picks). p.count < 64) (sym c.self.view_is) c.requires.few) c.requires.lane

pub returns-clause-sound : goal.returns-clause-sound
returns-clause-sound c =
    are_more (before c.self.inside) c.args.lane c.self.invariant (subst (λ (p : Picks). p.count < 64) (sym c.self.view_is) c.requires.few) c.requires.lane

pub returns-clause-below : goal.returns-clause-below
returns-clause-below c = λ bound lt below.
    below_more_lanes (before c.self.inside) c.args.lane bound c.self.invariant (subst (λ (p : Picks). p.count < 64) (sym c.self.view_is) c.requires.few) lt
    (subst (λ (p : Picks). AreBelow bound p) (sym c.self.view_is) below)

pub returns-clause-others : goal.returns-clause-others
returns-clause-others c = λ other none.
    sym (ap (λ (p : Picks). place_in p other) c.self.view_is) ∙ none_before (before c.self.inside) c.args.lane other c.self.invariant c.requires.lane none

pub returns-clause-own : goal.returns-clause-own
returns-clause-own c = λ none. none-some c.self.inside.count (sym none ∙ place_added (before c.self.inside) c.args.lane c.self.invariant c.requires.lane)
