use Rattle.std.proofs.Common.{◌≡◌, ◌+◌, ◌-◌, ◌++◌, length-drop, take, drop, ap, sym, ◌∙◌, arith}
use Rattle.std.proofs.lemmas.List.{take_rest, drop-drop}
use Rattle.std.proofs.Math.Seq.{take-add}
use Rattle.fm_shelf.specs.Sink.{with_more}
use Rattle.fm_shelf.proofs.Pages.{goes_first}
use Rattle.fm_shelf.proofs.paged.send.Goals as goal
use Rattle.fm_shelf.proofs.Sends.{with_more-append}

pub rest-init : goal.rest-init
rest-init g c = goes_first (g.O.Sink.seen c.args.out.now) c.args.piece.now c.args.sent.now

pub rest-preserved : goal.rest-preserved
rest-preserved g c =
    let start = (g.O.Sink.seen c.args.out.now).written in
    let from = c.args.sent.now in
    let sent = c.rest.sent in
    let n = c.in_ok-n.n in
    let piece = c.args.piece.now in
    let fits = c.in_ok-n.ensures.fits in
    let forward = c.rest.invariant.forward in
    let place : from + (sent - from) ≡ sent = omega arith in
    let left : drop sent piece ≡ drop (sent - from) (drop from piece) = sym (drop-drop (sent - from) from piece ∙ ap (λ k. drop k piece) place) in
    let moved : (sent - from) + n ≡ (sent + n) - from = omega arith in
    record {
      forward = omega arith;
      within = omega (arith, length-drop sent piece);
      written =
          c.in_ok-n.ensures.ok ∙ ap (λ rest. with_more (g.O.Sink.seen c.rest.out).written (take n rest)) (take_rest piece sent)
          ∙ ap (λ w. with_more w (take n (drop sent piece))) c.rest.invariant.written
          ∙ with_more-append start (take (sent - from) (drop from piece)) (take n (drop sent piece))
          ∙ ap (λ rest. with_more start (take (sent - from) (drop from piece) ++ take n rest)) left
          ∙ ap (with_more start) (sym (take-add (sent - from) n (drop from piece)) ∙ ap (λ k. take k (drop from piece)) moved);
      grows = omega (arith, c.write.ensures.grows);
    }
