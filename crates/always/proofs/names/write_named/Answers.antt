use Rattle.std.proofs.Common.{◌≡◌, ◌∷◌, [], ◌++◌, ap, ◌∙◌, append_assoc, refl}
use Rattle.std.specs.Prelude.{decimal}
use Rattle.std.proofs.lemmas.Result.{err_from_is_err_and}
use Rattle.fault_list.specs.Faults.{fault_name, fault_at}
use Rattle.fm_base.specs.Text.{line}
use Rattle.fm_base.specs.Names.{Bytes}
use Rattle.campaign_plan.specs.Analysis.{fault_numbered}
use Rattle.campaign_plan.specs.Weights.{weight}
use Rattle.fm_shelf.proofs.Sending.{sends_as, sends_stop, sends_then}
use Rattle.always.proofs.names.write_named.Goals as goal

-- the pieces of a piece and a space, of the name, and of the weight behind a space
abbrev first : Bytes → Bytes
first word = word ++ 32 ∷ []

abbrev last : Bytes → Bytes
last weight = 32 ∷ (weight ++ 10 ∷ [])

-- the pieces are the line
pieces : (word name weight : Bytes) → (first word ++ name) ++ last weight ≡ line (word ∷ name ∷ weight ∷ [])
pieces word name weight = simp append_assoc refl

pub returns-in_err-write_pieces : goal.returns-in_err-write_pieces
returns-in_err-write_pieces g c =
    let p = err_from_is_err_and c.from_residual.result c.from_residual.ensures.1 in
    let plan = c.args.plan.now in
    let name = fault_name plan.circuit (fault_numbered plan c.args.i) in
    rw p.1 (sends_as (pieces c.args.word.now name (decimal (weight plan c.args.i)))
    (sends_stop (last (decimal (weight plan c.args.i))) p.0 (sends_stop name p.0 c.in_err-write_pieces.ensures)))

pub returns-in_err-write_name : goal.returns-in_err-write_name
returns-in_err-write_name g c =
    let p = err_from_is_err_and c.from_residual-in_err-write_name.result c.from_residual-in_err-write_name.ensures.1 in
    let plan = c.args.plan.now in
    let name = fault_name plan.circuit (fault_numbered plan c.args.i) in
    rw p.1 (sends_as (pieces c.args.word.now name (decimal (weight plan c.args.i)))
    (sends_stop (last (decimal (weight plan c.args.i))) p.0 (sends_then c.in_ok-write_pieces.ensures
    (sends_as (λ j. fault_name (c.net.ensures.value j) (fault_at (c.faults.ensures.value j) c.args.i)) c.in_err-write_name.ensures))))

pub returns : goal.returns
returns g c =
    let plan = c.args.plan.now in
    let name = fault_name plan.circuit (fault_numbered plan c.args.i) in
    sends_as (pieces c.args.word.now name (decimal (weight plan c.args.i))) (sends_then (sends_then c.in_ok-write_pieces.ensures
    (sends_as (λ j. fault_name (c.net.ensures.value j) (fault_at (c.faults.ensures.value j) c.args.i)) c.in_ok-write_name.ensures))
    (sends_as (ap last (c.bytes.ensures ∙ c.number_word.ensures ∙ ap decimal c.weight.ensures)) c.write_pieces-2.ensures))
