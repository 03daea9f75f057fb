-- A seat after the calls of a shared board.
use Rattle.std.proofs.Common.{◌≡◌, ℕ, ◌<◌, Bool, true, false, List, refl, sym, subst, ◌∙◌, arith}
use Rattle.campaign_core.specs.Machines.{times}
use Rattle.claim_counter.specs.declared.view.View.{View}
use Rattle.claim_counter.specs.Views.{taking, giving}
use Rattle.claim_counter.specs.Seats.{Counter, Seated, IsOf}
use Rattle.claim_counter.proofs.Views.{claimed_self}
use Rattle.campaign_board.specs.declared.entry.Posted.{Posted}
use Rattle.campaign_board.specs.declared.entry.Posted.TheVariants.{Kept, Stopped}
use Rattle.campaign_board.specs.declared.entry.Look.{Look}
use Rattle.campaign_board.specs.Boards.{Start}
use Rattle.campaign_board.specs.Missing.{claim_number}
use Rattle.campaign_board.specs.Sharing.{IsDrawn, MayPost, TellsSeat, IsLook}

-- what the calls leave of a view: how many numbers there are, its share, its claims and its answers None; and the turn is free
pub record IsKept (old now : View) : Type 0 where
  pub todo : now.todo ≡ old.todo
  pub share : now.share ≡ old.share
  pub nones : now.nones ≡ old.nones
  pub claims : now.claims ≡ old.claims
  pub opened : now.opened ≡ old.opened
  pub free : now.holds ≡ false

kept_by : (old now : View) (history : List ℕ) (a b : Bool) → now ≡ giving (taking old history a) b → IsKept old now
kept_by old now history a b e = subst (IsKept old) (sym e) (record { todo = refl; share = refl; nones = refl; claims = refl; opened = refl; free = refl })

pub kept_by_post : (o : Start) (old now : View) (batch : ℕ) (posted : Posted) → TellsSeat o old now batch posted → IsKept old now
kept_by_post o old now batch (Kept sums) h =
    subst (IsKept old) (sym h.view) (record { todo = refl; share = refl; nones = refl; claims = refl; opened = refl; free = refl })
kept_by_post o old now batch Stopped h = kept_by old now h.history true true h.view

pub kept_by_look : (o : Start) (old now : View) (look : Look) → IsLook o old now look → IsKept old now
kept_by_look o old now look h = kept_by old now h.history look.stopped look.stopped h.view

-- the seat is still of its table
pub still_of : (c : Counter) (old now : Seated) → IsOf c old → now.table ≡ old.table → IsKept old.view now.view → IsOf c now
still_of c old now h table kept = record {
  table = table ∙ h.table;
  todo = kept.todo ∙ h.todo;
  share = (let a = h.share in omega (arith, kept.share));
  opened = kept.opened ∙ h.opened;
}

-- a batch that was just drawn may be posted, by a seat that has posted all that it drew
pub may_post : (o : Start) (old now : View) (batch : ℕ) → IsDrawn o old now batch → ((n : ℕ) → times n old.claims ≡ times n old.posts) → MayPost o now batch
may_post o old now batch h all =
    let n : ℕ = claim_number o batch in
    let P : View → Type 0 = λ v. (0 < times n v.claims) × (times n v.posts ≡ 0) in
    let both : P now = subst P (sym h.view) (claimed_self n old.claims, sym (all n) ∙ h.new) in
    record { due = h.due; drawn = both.0; new = both.1 }
