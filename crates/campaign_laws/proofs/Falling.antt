-- Each step leaves less to do, so there are no more steps than there was to do.
use Rattle.std.proofs.Common.{◌≡◌, ℕ, zero, suc, ◌+◌, ◌-◌, ◌*◌, ◌<◌, ◌≤◌, ◌==◌, Bool, true, false, cond, nat_lt, List, [], ◌∷◌, ◌++◌, length, replicate, refl, sym, ap, subst, ⊎_elim, arith}
use Rattle.std.specs.Prelude.{MatchBool, None, ◌⊎◌}
use Rattle.std.specs.List.{sum_by}
use Rattle.std.proofs.lemmas.Bool.Decides.{nat_tests}
use Rattle.std.proofs.lemmas.List.{length-append}
use Rattle.std.proofs.lemmas.List.Sums.{sum_by-cons, sum_by-set}
use Rattle.campaign_core.specs.declared.event.Event.TheVariants.{Post, Fail}
use Rattle.campaign_core.specs.Machines.{Machine, with_draw, after_all}
use Rattle.campaign_laws.specs.Crew.{Stand, Drawing, Waiting, Holding, Posted, Ended, Crew, CrewStep, crew_step, with_drawn, behind_post, IsCrewStep, stand_of, MayTake, after_step, Leads, fresh_crew}
use Rattle.campaign_laws.specs.CrewLaws.{StepsAreFew}
use Rattle.campaign_laws.proofs.Stands.{is_there, not_ended}

-- behind its posts a worker that has drawn none has the last look and its return of the turn before it, and another the draw that gives none too
abbrev pub after_posts : Bool → ℕ
after_posts last = cond last 2 3

pub after_posts_some : (last : Bool) → 1 < after_posts last
after_posts_some true = omega arith
after_posts_some false = omega arith

-- how many steps a worker has before it, if it draws no batch more
abbrev pub to_do : Stand → ℕ
to_do (Drawing drawn) = 3 * length drawn + after_posts false
to_do (Waiting owed last) = 3 * length owed + after_posts last
to_do (Holding owed last) = 3 * length owed + after_posts last - 1
to_do (Posted owed last) = 3 * length owed + after_posts last + 1
to_do Ended = 0

-- a batch that isn't drawn yet is drawn, and posted by three steps
abbrev pub undrawn : Machine → ℕ
undrawn m = 4 * (m.limit - m.next)

abbrev pub left : Crew → ℕ
left c = undrawn c.campaign + sum_by to_do c.stands

pub round_to_do : (drawn : List ℕ) (full : Bool) → to_do (cond full (Waiting drawn false) (Drawing drawn)) ≡ 3 * length drawn + 3
round_to_do drawn true = refl
round_to_do drawn false = refl

drawing : (m : Machine) (w : ℕ) (drawn : List ℕ) (more : Bool) → nat_lt m.next m.limit ≡ more
    → undrawn (cond more (with_draw m w) m) + to_do (cond more (with_drawn (drawn ++ m.next ∷ [])) (Waiting drawn true)) < undrawn m + to_do (Drawing drawn)
drawing m w drawn true is =
    let round = round_to_do (drawn ++ m.next ∷ []) (length (drawn ++ m.next ∷ []) == 4) in
    let longer = length-append drawn (m.next ∷ []) in
    let below : m.next < m.limit = grind (arith, nat_tests) in
    omega arith
drawing m w drawn false is = omega arith

pub behind : (owed : List ℕ) (last : Bool) → to_do (behind_post owed last) ≡ 3 * length owed + after_posts last
behind [] false = refl
behind [] true = refl
behind (batch ∷ owed) last = refl

abbrev Less : Crew → Stand → CrewStep → Type 0
Less c stand s = undrawn (after_all c.campaign s.events) + to_do s.stand < undrawn c.campaign + to_do stand

less_holding : (c : Crew) (w batch : ℕ) (owed : List ℕ) (last failed : Bool) (s : CrewStep)
    → MatchBool failed (s ≡ crew_step w [] None Ended) ((s ≡ crew_step w (Post w batch ∷ []) c.turn (Posted owed last)) ⊎ (s ≡ crew_step w (Fail w ∷ []) None Ended))
    → Less c (Holding (batch ∷ owed) last) s
less_holding c w batch owed last true s e = let some = after_posts_some last in subst (Less c (Holding (batch ∷ owed) last)) (sym e) (omega arith)
less_holding c w batch owed last false s e =
    let some = after_posts_some last in
    ⊎_elim (λ e. subst (Less c (Holding (batch ∷ owed) last)) (sym e) (omega arith)) (λ e. subst (Less c (Holding (batch ∷ owed) last)) (sym e) (omega arith)) e

less : (c : Crew) (w : ℕ) (stand : Stand) (s : CrewStep) → IsCrewStep c w stand s → Less c stand s
less c w (Drawing drawn) s e = subst (Less c (Drawing drawn)) (sym e) (drawing c.campaign w drawn (nat_lt c.campaign.next c.campaign.limit) refl)
less c w (Waiting owed last) s e = let some = after_posts_some last in subst (Less c (Waiting owed last)) (sym e.1) (omega arith)
less c w (Holding [] last) s e = let some = after_posts_some last in subst (Less c (Holding [] last)) (sym e) (omega arith)
less c w (Holding (batch ∷ owed) last) s e = less_holding c w batch owed last c.campaign.failed s e
less c w (Posted owed last) s e = let some = behind owed last in subst (Less c (Posted owed last)) (sym e) (omega arith)
less c w Ended s e = absurd e

falls : (c : Crew) (s : CrewStep) → MayTake c s → left (after_step c s) < left c
falls c s may =
    let there = is_there c.stands s.worker (not_ended c s may) in
    let fewer : Less c (stand_of c s.worker) s = less c s.worker (stand_of c s.worker) s may in
    let moved = sum_by-set to_do c.stands s.worker s.stand Ended there in
    omega arith

-- the steps that were taken and those left are no more than those that were left before
taken : (c : Crew) (ss : List CrewStep) (d : Crew) → Leads c ss d → length ss + left d ≤ left c
taken c [] d e = let same = ap left e in omega arith
taken c (s ∷ ss) d e = let one = falls c s e.0 in let rest = taken (after_step c s) ss d e.1 in omega arith

pub all_begin : (workers : ℕ) → sum_by to_do (replicate workers (Drawing [])) ≡ 3 * workers
all_begin zero = refl
all_begin (suc workers) = omega (arith, sum_by-cons to_do (Drawing []) (replicate workers (Drawing [])), all_begin workers)

pub few : StepsAreFew
few batches workers steps c e = let all = taken (fresh_crew batches workers) steps c e in let begin = all_begin workers in omega arith
