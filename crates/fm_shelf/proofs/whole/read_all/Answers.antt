use Rattle.std.proofs.Common.{◌≡◌, ◌<◌, ap, subst, ◌∙◌, List, ◌++◌, ℕ, length, length-append, take, arith}
use Rattle.std.proofs.lemmas.Grind.{common_steps}
use Rattle.std.proofs.lemmas.Bool.{false≢true}
use Rattle.std.proofs.lemmas.List.{length-take-le}
use Rattle.fm_shelf.specs.Content.{Content, IfPresent}
use Rattle.fm_shelf.specs.Past.{gave}
use Rattle.fm_shelf.specs.Shelf.{IsPieceRead}
use Rattle.fm_shelf.proofs.Reading.{front_on, given_on, reads_on}
use Rattle.fm_shelf.proofs.whole.read_all.Goals as goal

pub returns-in_err-n-clause-rest : goal.returns-in_err-n-clause-rest
returns-in_err-n-clause-rest g c =
    reads_on (g.F.Shelf.seen c.args.shelf.now) (g.F.Shelf.seen c.loop-piece.shelf) (g.F.Shelf.seen c.read.new.self) c.args.name.now c.loop-piece.invariant.rest
    c.in_err-n.ensures.rest

pub returns-then-n-eq0-clause-rest : goal.returns-then-n-eq0-clause-rest
returns-then-n-eq0-clause-rest g c =
    reads_on (g.F.Shelf.seen c.args.shelf.now) (g.F.Shelf.seen c.loop-piece.shelf) (g.F.Shelf.seen c.read.new.self) c.args.name.now c.loop-piece.invariant.rest
    c.in_ok-n.ensures.rest

pub returns-in_err-extend-clause-rest : goal.returns-in_err-extend-clause-rest
returns-in_err-extend-clause-rest g c =
    reads_on (g.F.Shelf.seen c.args.shelf.now) (g.F.Shelf.seen c.loop-piece.shelf) (g.F.Shelf.seen c.read.new.self) c.args.name.now c.loop-piece.invariant.rest
    c.in_ok-n.ensures.rest

pub loop-piece-preserved : goal.loop-piece-preserved
loop-piece-preserved g c =
    let start = g.F.Shelf.seen c.args.shelf.now in
    let mid = g.F.Shelf.seen c.loop-piece.shelf in
    let now = g.F.Shelf.seen c.read.new.self in
    let name = c.args.name.now in
    let bytes = c.loop-piece.bytes.items in
    let piece = c.read.new.piece in
    let n = c.in_ok-n.n in
    let e = c.in_ok-n.ensures in
    let so_far = c.loop-piece.invariant in
    let items : c.extend.new.v.items ≡ bytes ++ take n piece = grind (arith, common_steps) in
    let long : c.len-in-loop-piece.result ≡ length bytes = grind (arith, common_steps) in
    let some : 0 < length (take n piece) = omega (arith, c.if-n-eq0.false, length-take-le n piece e.fits) in
    rw items (record {
      front = front_on (start.content name) bytes piece n e.fits so_far.front
          (subst (λ (content : List ℕ → Content). IfPresent (content name) (λ held. IsPieceRead held (length bytes) n piece)) so_far.rest.content
          (subst (λ at. IfPresent (mid.content name) (λ held. IsPieceRead held at n piece)) long e.bytes));
      there = λ _ absent. absurd (false≢true (e.absent (ap (λ (content : List ℕ → Content). content name) so_far.rest.content ∙ absent)));
      given = given_on (start.given name) (mid.given name) (now.given name) bytes (take n piece) (length piece) some so_far.given
          (subst (λ at. now.given name ≡ mid.given name ++ gave at (length piece) (take n piece)) long e.given);
      asked = let more = length-append bytes (take n piece) in omega (arith, so_far.asked, e.asked, some, more);
      few = omega (arith, so_far.asked, e.asked, c.loop-piece-test.true, long);
      rest = reads_on start mid now name so_far.rest e.rest;
    })

pub returns-clause-asked : goal.returns-clause-asked
returns-clause-asked g c = omega (arith, c.loop-piece.invariant.few)
