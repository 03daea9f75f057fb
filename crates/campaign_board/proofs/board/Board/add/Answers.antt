use Rattle.std.proofs.Common.{sym, subst, ◌∙◌, arith}
use Rattle.std.proofs.lemmas.Grind.{common_steps}
use Rattle.fm_shelf.specs.Shelf.{Appends, MayAppend, Takes, Tears}
use Rattle.campaign_board.proofs.Adding.{has_room}
use Rattle.campaign_board.proofs.Posting.{IsAsked, now_small, post_kept, post_stopped, on_err, on_ok}
use Rattle.campaign_board.proofs.board.Board.add.Goals as goal

pub plus-sums-requires : goal.plus-sums-requires
plus-sums-requires g c =
    let batch = rw (← c.self.view_is) at c.requires.batch in
    let asked : IsAsked g.N.Origin.start c.self.inside.rows.items c.args.entry.now = record { within = batch.0; lacks = batch.1; taken = c.requires.own; own = c.requires.entry } in
    now_small g.N.Origin.start _ _ _ _ (g.F.Shelf.seen c.self.inside.shelf) c.args.entry.now c.self.invariant.0 asked

pub push_reserved-requires : goal.push_reserved-requires
push_reserved-requires g c =
    let batch = rw (← c.self.view_is) at c.requires.batch in
    let room = has_room g.N.Origin.start c.self.inside.rows.items c.args.entry.now.batch c.self.invariant.0.rows_are batch.0 batch.1 in
    omega (arith, room, c.self.invariant.2, c.self.inside.rows.ok.0)

pub invariant_of-self : goal.invariant_of-self
invariant_of-self g c =
    let o = g.N.Origin.start in
    let entry = c.args.entry.now in
    let name = c.as_str.result.now in
    let before = g.F.Shelf.seen c.self.inside.shelf in
    let now = g.F.Shelf.seen c.append_all.new.shelf in
    let batch = rw (← c.self.view_is) at c.requires.batch in
    let written = rw (← c.self.view_is) at c.requires.written in
    let asked : IsAsked o c.self.inside.rows.items entry = record { within = batch.0; lacks = batch.1; taken = c.requires.own; own = c.requires.entry } in
    let err = sym c.is_err.ensures.value ∙ c.if-is_err.true in
    let text = c.bytes.ensures ∙ c.row_line.ensures.text in
    let torn = on_err c.append_all.result err c.append_all.ensures.failed in
    let tears = on_err c.append_all.result err c.append_all.ensures.tears in (
      post_stopped o c.self.inside.rows.items c.self.inside.sums c.plus-sums.result c.self.inside.failed c.self.inside.written before now
          entry name c.self.invariant.0 c.if-self.false written asked
          c.plus-sums.ensures (c.as_str.ensures.value ∙ c.self.invariant.1) c.append_all.ensures.rest
          (subst (MayAppend before now name) text torn) (subst (Tears before now name) text tears),
      c.self.invariant.1,
      c.self.invariant.2,
    )

pub invariant_of-self-2 : goal.invariant_of-self-2
invariant_of-self-2 g c =
    let o = g.N.Origin.start in
    let entry = c.args.entry.now in
    let name = c.as_str.result.now in
    let before = g.F.Shelf.seen c.self.inside.shelf in
    let now = g.F.Shelf.seen c.append_all.new.shelf in
    let batch = rw (← c.self.view_is) at c.requires.batch in
    let written = rw (← c.self.view_is) at c.requires.written in
    let asked : IsAsked o c.self.inside.rows.items entry = record { within = batch.0; lacks = batch.1; taken = c.requires.own; own = c.requires.entry } in
    let ok = sym c.is_err.ensures.value ∙ c.if-is_err.false in
    let text = c.bytes.ensures ∙ c.row_line.ensures.text in
    let has = on_ok c.append_all.result ok c.append_all.ensures.ok in
    let takes = on_ok c.append_all.result ok c.append_all.ensures.takes in (
      rw c.push_reserved.ensures.items
          (post_kept o c.self.inside.rows.items c.self.inside.sums c.plus-sums.result c.self.inside.failed c.self.inside.written before now
          entry name c.self.invariant.0 c.if-self.false written asked
          c.plus-sums.ensures (c.as_str.ensures.value ∙ c.self.invariant.1) c.append_all.ensures.rest
          (subst (Appends before now name) text has) (subst (Takes before now name) text takes)),
      c.self.invariant.1,
      grind (arith, common_steps),
    )
