-- What the calls of a shared board tell, from what the claim counter and the board behind its turn tell.
use Rattle.std.proofs.Common.{◌≡◌, ℕ, ◌<◌, Bool, true, false, List, [], ◌∷◌, ◌++◌, length, get_or, refl, sym, ap, subst, ◌∙◌}
use mathlib.Core.List.{IsPrefix}
use Rattle.metric_sums.specs.declared.Sums.{Sums}
use Rattle.campaign_core.specs.Machines.{times}
use Rattle.claim_counter.specs.declared.view.View.{View}
use Rattle.claim_counter.specs.Views.{with_claim, taking, noting, giving}
use Rattle.claim_counter.specs.Seats.{Seated, Follows, Taken, Closed}
use Rattle.campaign_board.specs.declared.entry.Look.{Look}
use Rattle.campaign_board.specs.Boards.{Start, batches_of, sums_over}
use Rattle.campaign_board.specs.Kept.{AreRows, BoardState}
use Rattle.campaign_board.specs.Missing.{batches_missing, claim_number, batch_numbered, added_rows, numbers_of, batches_with}
use Rattle.campaign_board.specs.Sharing.{MayFind, IsDrawn, IsPosted, KnowsOfFailure, IsLook, IsClosed}
use Rattle.campaign_board.proofs.Numbering.{numbered_missing, number_back}
use Rattle.campaign_board.proofs.AddedRows.{added_due, times_number}

-- the batch with the number that was drawn
pub drawn_batch : (o : Start) (old now : View) (number : ℕ) (todo : List ℕ) → todo ≡ batches_missing o → number < length (batches_missing o) → times number old.claims ≡ 0 → now ≡ with_claim old number
    → IsDrawn o old now (get_or todo number 0)
drawn_batch o old now number todo e lt none view =
    let back : claim_number o (batch_numbered o number) ≡ number = number_back o number lt in
    subst (λ l. IsDrawn o old now (get_or l number 0)) (sym e) (record {
      due = numbered_missing o number lt;
      new = ap (λ n. times n old.claims) back ∙ none;
      view = view ∙ ap (with_claim old) (sym back);
    })

module _ {V : Type 0} (list : V → List ℕ) (failed : V → Bool) where
  -- what the seat found, as a history and whether the board has failed
  found_by : (view : View) (x : V) → Follows list failed view x → MayFind view (list x) (failed x)
  found_by view x h = record { later = h.later; posted = h.posted; own = h.own; once = h.once; fails = h.fails }

  found_late : (view : View) (x : V) → Follows list failed view x → MayFind view (list x) true
  found_late view x h = record { later = h.later; posted = h.posted; own = h.own; once = h.once; fails = λ _. refl }

  pub posts_row : (o : Start) (old taken noted now : Seated) (x : V) (number batch : ℕ) (sums : Sums) (numbers : List ℕ) (after : Bool) → Taken list failed old taken x → failed x ≡ false
      → number ≡ claim_number o batch → noted.view ≡ noting taken.view number → now.view ≡ giving noted.view after → after ≡ false
      → numbers ≡ list x ++ claim_number o batch ∷ [] → sums ≡ sums_over o.entries (batches_with o numbers) → IsPosted o old.view now.view batch sums
  posts_row o old taken noted now x number batch sums numbers after took fine same noted_is given isnt grown added =
      let mid : taken.view ≡ taking old.view (list x) false = took.view ∙ ap (taking old.view (list x)) fine in
      let note : noted.view ≡ noting (taking old.view (list x) false) (claim_number o batch) = noted_is ∙ ap (noting taken.view) same ∙ ap (λ v. noting v (claim_number o batch)) mid in
      let view : now.view ≡ giving (noting (taking old.view (list x) false) (claim_number o batch)) false = given ∙ ap (giving noted.view) isnt ∙ ap (λ v. giving v false) note in
      record {
        history = list x;
        found = subst (MayFind old.view (list x)) fine (found_by old.view x took.follows);
        view = view;
        sums_are = added ∙ ap (λ ns. sums_over o.entries (batches_with o ns)) (grown ∙ sym (ap (λ (v : View). v.seen) view));
      }

  pub stops_row : (old taken now : Seated) (x : V) (after : Bool) → Taken list failed old taken x → now.view ≡ giving taken.view after → after ≡ true → KnowsOfFailure old.view now.view
  stops_row old taken now x after took given is = record { history = list x; found = found_late old.view x took.follows; view = given ∙ ap (giving taken.view) is ∙ ap (λ v. giving v true) took.view }

  pub looks_at : (o : Start) (old taken now : Seated) (x : V) (look : Look) → Taken list failed old taken x → now.view ≡ giving taken.view (failed x) → look.stopped ≡ failed x
      → look.sums ≡ sums_over o.entries (batches_with o (list x)) → look.count ≡ length (list x) → IsLook o old.view now.view look
  looks_at o old taken now x look took given stopped sums count = record {
    history = list x;
    found = subst (MayFind old.view (list x)) (sym stopped) (found_by old.view x took.follows);
    view = given ∙ ap (λ v. giving v (failed x)) took.view ∙ ap (λ b. giving (taking old.view (list x) b) b) (sym stopped);
    sums_are = sums;
    count_is = count;
  }

pub closes_board : {F : Type 0} (o : Start) (todo : ℕ) (view : View) (x board : BoardState F) → Closed (λ (b : BoardState F). numbers_of o b.rows) (λ (b : BoardState F). b.failed) todo view x → board ≡ x
    → todo ≡ length (batches_missing o) → IsPrefix o.rows board.rows → AreRows o board.rows → IsClosed o todo view board.rows board.failed
closes_board o todo view x board h e todo_is starts rows_are =
    let closed : Closed (λ (b : BoardState _). numbers_of o b.rows) (λ (b : BoardState _). b.failed) todo view board = subst (Closed (λ (b : BoardState _). numbers_of o b.rows) (λ (b : BoardState _). b.failed) todo view) (sym e) h in
    let due = added_due o board.rows starts rows_are in
    record {
      todo_is = todo_is;
      starts = starts;
      due = due;
      posts = λ batch batches_missing. sym (times_number o (batches_of (added_rows o board.rows)) batch due batches_missing) ∙ closed.posts (claim_number o batch);
      closed = record { posts = closed.posts; once = closed.once; claims = closed.claims; fails = closed.fails };
    }
