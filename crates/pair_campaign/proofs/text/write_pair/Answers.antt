use Rattle.std.proofs.Common.{◌≡◌, ℕ, ◌∷◌, [], ◌++◌, ap, append_assoc, refl}
use Rattle.std.specs.Prelude.{codes}
use Rattle.std.proofs.lemmas.Result.{err_from_is_err_and}
use Rattle.fault_list.specs.Faults.{fault_name}
use Rattle.fm_base.specs.Text.{line}
use Rattle.fm_base.specs.Names.{Bytes}
use Rattle.campaign_plan.specs.Analysis.{Analysis, fault_numbered}
use Rattle.fm_shelf.proofs.Sending.{sends_as, sends_stop, sends_then}
use Rattle.pair_list.specs.Chosen.{pair_numbered}
use Rattle.pair_campaign.proofs.Within.{first_within, second_within}
use Rattle.pair_campaign.proofs.text.write_pair.Goals as goal

-- the pieces are the line
pieces : (first second : Bytes) → ((codes "pair " ++ first) ++ (codes " " ++ second)) ++ 10 ∷ [] ≡ line (codes "pair" ∷ first ∷ second ∷ [])
pieces first second = simp append_assoc refl

-- the name of a fault, behind a text
abbrev named : Analysis → Bytes → ℕ → Bytes
named p before i = before ++ fault_name p.circuit (fault_numbered p i)

pub write_before_name-requires : goal.write_before_name-requires
write_before_name-requires g c = rw c.first-first.ensures (first_within c.args.plan.now c.args.pairs.now c.args.pair c.requires.pairs c.requires.pair)

pub write_before_name-requires-2 : goal.write_before_name-requires-2
write_before_name-requires-2 g c = rw c.second-second.ensures (second_within c.args.plan.now c.args.pairs.now c.args.pair c.requires.pairs c.requires.pair)

pub returns-in_err-write_before_name : goal.returns-in_err-write_before_name
returns-in_err-write_before_name g c =
    let p = err_from_is_err_and c.from_residual.result c.from_residual.ensures.1 in
    let plan = c.args.plan.now in
    let pair = pair_numbered c.args.pairs.now c.args.pair in
    rw p.1 (sends_as (pieces (fault_name plan.circuit (fault_numbered plan pair.0)) (fault_name plan.circuit (fault_numbered plan pair.1)))
    (sends_stop (10 ∷ []) p.0 (sends_stop (named plan (codes " ") pair.1) p.0
    (sends_as (ap (named plan (codes "pair ")) c.first-first.ensures) c.in_err-write_before_name.ensures))))

pub returns-in_err-write_before_name-2 : goal.returns-in_err-write_before_name-2
returns-in_err-write_before_name-2 g c =
    let p = err_from_is_err_and c.from_residual-in_err-write_before_name-2.result c.from_residual-in_err-write_before_name-2.ensures.1 in
    let plan = c.args.plan.now in
    let pair = pair_numbered c.args.pairs.now c.args.pair in
    rw p.1 (sends_as (pieces (fault_name plan.circuit (fault_numbered plan pair.0)) (fault_name plan.circuit (fault_numbered plan pair.1)))
    (sends_stop (10 ∷ []) p.0 (sends_then
    (sends_as (ap (named plan (codes "pair ")) c.first-first.ensures) c.in_ok-write_before_name.ensures)
    (sends_as (ap (named plan (codes " ")) c.second-second.ensures) c.in_err-write_before_name-2.ensures))))

pub returns : goal.returns
returns g c =
    let plan = c.args.plan.now in
    let pair = pair_numbered c.args.pairs.now c.args.pair in
    let wrote = c.write_all.ensures in
    sends_as (pieces (fault_name plan.circuit (fault_numbered plan pair.0)) (fault_name plan.circuit (fault_numbered plan pair.1)))
    (sends_then (sends_then
    (sends_as (ap (named plan (codes "pair ")) c.first-first.ensures) c.in_ok-write_before_name.ensures)
    (sends_as (ap (named plan (codes " ")) c.second-second.ensures) c.in_ok-write_before_name-2.ensures))
    wrote)
