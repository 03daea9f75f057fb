use Rattle.std.proofs.Common.{◌≡◌, ◌⊎◌, ◌∙◌, ◌++◌, take, sym, subst, arith}
use Rattle.std.proofs.lemmas.Grind.{common_steps}
use Rattle.fm_shelf.specs.Content.{HasIfKnown, bytes_of}
use Rattle.campaign_board.proofs.Posting.{on_err, on_ok}
use Rattle.campaign_board.proofs.Boards.{cut_done, headed_anew, headed_on, stops_anew, torn_cut}
use Rattle.campaign_board.proofs.board.Board.append_header.Goals as goal
use Rattle.campaign_board.proofs.board.Board.append_header.Goals.{then-whole-eq0+else-is_err-2, else-whole-eq0}

pub returns-then-is_err-clause-torn : goal.returns-then-is_err-clause-torn
returns-then-is_err-clause-torn g c =
    let o = g.N.Origin.start in
    let before = g.F.Shelf.seen c.self.inside.shelf in
    let now = g.F.Shelf.seen c.cut.new.self in
    let failed = sym c.is_err.ensures.value ∙ c.if-is_err.true in
    let torn = (on_err c.cut.result failed c.cut.ensures.failed).1 in
    rw (← c.self.view_is)
    (torn_cut o.header c.args.whole (before.content o.name) (now.content o.name)
    (subst (λ n. (now.content n ≡ before.content n) ⊎ HasIfKnown (now.content n) (take c.args.whole (bytes_of (before.content n))))
    (c.as_str.ensures.value ∙ c.self.invariant.1) torn))

pub returns-then-is_err-2-clause-stops : goal.returns-then-is_err-2-clause-stops
returns-then-is_err-2-clause-stops g c =
    let o = g.N.Origin.start in
    let before = g.F.Shelf.seen c.self.inside.shelf in
    let mid = g.F.Shelf.seen c.cut.new.self in
    let name = c.as_str.result.now in
    let fresh = rw (← c.self.view_is) at c.requires.fresh in
    let kept = rw (← c.self.view_is) at c.requires.whole in
    let fine = sym c.is_err.ensures.value ∙ c.if-is_err.false in
    let failed = sym c.is_err-then-whole-eq0.ensures.value ∙ c.if-is_err-2.true in
    rw (← c.self.view_is)
    (stops_anew o c.self.inside.rows.items c.self.inside.sums c.self.inside.failed c.self.inside.written before mid name c.args.whole c.self.invariant.0 fresh
    (c.as_str.ensures.value ∙ c.self.invariant.1) kept c.cut.ensures.rest (on_ok c.cut.result fine c.cut.ensures.ok)
    (subst (λ changes. mid.changed name ≡ before.changed name ++ changes) (cut_done (before.given name) c.args.whole c.cut.result fine) c.cut.ensures.changed)
    (g.F.Shelf.seen c.append_all.new.shelf) c.as_str-then-whole-eq0.result.now c.bytes.result.now
    (c.as_str-then-whole-eq0.ensures.value ∙ c.self.invariant.1) (c.bytes.ensures ∙ c.requires.own) (grind (arith, common_steps))
    (on_err c.append_all.result failed c.append_all.ensures.tears))

pub invariant_of-self-2 : goal.invariant_of-self-2
invariant_of-self-2 g c =
    let o = g.N.Origin.start in
    let before = g.F.Shelf.seen c.self.inside.shelf in
    let mid = g.F.Shelf.seen c.cut.new.self in
    let name = c.as_str.result.now in
    let fresh = rw (← c.self.view_is) at c.requires.fresh in
    let kept = rw (← c.self.view_is) at c.requires.whole in
    let fine = sym c.is_err.ensures.value ∙ c.if-is_err.false in
    let named = c.as_str.ensures.value ∙ c.self.invariant.1 in
    let becomes = on_ok c.cut.result fine c.cut.ensures.ok in
    let cut = subst (λ changes. mid.changed name ≡ before.changed name ++ changes) (cut_done (before.given name) c.args.whole c.cut.result fine) c.cut.ensures.changed in
    elim c.if-whole-eq0.branch [
      | then-whole-eq0+else-is_err-2 w ↦
          (let done = sym w.is_err-then-whole-eq0.ensures.value ∙ w.if-is_err-2.false in
          rw w.self-inside-is (
            headed_anew o c.self.inside.rows.items c.self.inside.sums c.self.inside.failed c.self.inside.written before mid name c.args.whole c.self.invariant.0 fresh named kept
                c.cut.ensures.rest becomes cut (g.F.Shelf.seen w.append_all.new.shelf) w.as_str-then-whole-eq0.result.now w.bytes.result.now
                (w.as_str-then-whole-eq0.ensures.value ∙ c.self.invariant.1) (w.bytes.ensures ∙ c.requires.own) (grind (arith, common_steps))
                w.append_all.ensures.rest (on_ok w.append_all.result done w.append_all.ensures.ok) (on_ok w.append_all.result done w.append_all.ensures.takes),
            c.self.invariant.1,
            c.self.invariant.2,
          ))
      | else-whole-eq0 w ↦
          rw w.self-inside-is (
            headed_on o c.self.inside.rows.items c.self.inside.sums c.self.inside.failed c.self.inside.written before mid name c.args.whole c.self.invariant.0 fresh named kept
                c.cut.ensures.rest becomes cut (grind (arith, common_steps)),
            c.self.invariant.1,
            c.self.invariant.2,
          )
    ]
