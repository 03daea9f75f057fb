-- Rounds come to an end: a seat draws each batch once.
use Rattle.std.proofs.Common.{◌≡◌, ℕ, ◌+◌, ◌<◌, ◌≤◌, List, [], ◌∷◌, ◌++◌, length, map, sym, ap, subst, ◌∙◌, arith}
use Rattle.std.specs.Prelude.{Option}
use Rattle.campaign_core.specs.Machines.{times}
use Rattle.claim_counter.specs.Seats.{Counter, Seated}
use Rattle.claim_counter.proofs.Views.{times-append}
use Rattle.claim_counter.proofs.Undrawn.{undrawn, undrawn_less}
use Rattle.campaign_board.specs.Boards.{Start}
use Rattle.campaign_board.specs.Missing.{batches_missing, claim_number}
use Rattle.campaign_board.proofs.Numbering.{batch_back}
use Rattle.campaign_workers.specs.Rounds.{drawn_in, numbers_in, Owes}
use Rattle.campaign_workers.proofs.Owing.{times_self}

-- once what was drawn is posted, the seat has claimed these batches too, of which there is one at least
drawn_less : (c : Counter) (o : Start) (old mid now : Seated) (drawn : List ℕ) → Owes c o mid drawn → mid.view.claims ≡ old.view.claims ++ map (claim_number o) drawn → 0 < length drawn
    → now.view.posts ≡ mid.view.posts ++ map (claim_number o) drawn → Owes c o now [] → undrawn (length (batches_missing o)) now.view.claims < undrawn (length (batches_missing o)) old.view.claims
drawn_less c o old mid now [] owes claims some posts free = absurd (omega arith)
drawn_less c o old mid now (batch ∷ rest) owes claims some posts free =
    let n : ℕ = claim_number o batch in
    let more : List ℕ = map (claim_number o) (batch ∷ rest) in
    let all : (x : ℕ) → times x mid.view.claims ≡ times x old.view.claims + times x more = λ x. ap (times x) claims ∙ times-append x old.view.claims more in
    let same : (x : ℕ) → times x now.view.claims ≡ times x mid.view.claims = λ x. omega (arith, free.all x, ap (times x) posts, times-append x mid.view.posts more, owes.all x) in
    let one : times n mid.view.claims ≡ 1 = owes.once 0 batch (omega arith) in
    let self : times n more ≡ 1 + times n (map (claim_number o) rest) = times_self n (map (claim_number o) rest) in
    undrawn_less (length (batches_missing o)) n old.view.claims now.view.claims (batch_back o batch (owes.due 0 batch (omega arith))).0 (omega (arith, all n, one, self)) (omega (arith, same n, one)) (λ x. omega (arith, all x, same x))

-- a full round leaves fewer batches that its seat may still draw
pub round_less : (c : Counter) (o : Start) (old mid now : Seated) (batches : List (Option ℕ)) → Owes c o mid (drawn_in batches) → mid.view.claims ≡ old.view.claims ++ numbers_in o batches → length (drawn_in batches) ≡ 4
    → now.view.posts ≡ mid.view.posts ++ numbers_in o batches → Owes c o now [] → undrawn (length (batches_missing o)) now.view.claims < undrawn (length (batches_missing o)) old.view.claims
round_less c o old mid now batches owes claims full posts free = drawn_less c o old mid now (drawn_in batches) owes claims (omega (arith, full)) posts free
