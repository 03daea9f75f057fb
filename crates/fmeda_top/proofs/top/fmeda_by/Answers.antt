use Rattle.std.proofs.Common.{inl, inr, map, refl, subst, sym}
use Rattle.std.specs.Prelude.{string_bytes}
use Rattle.fm_shelf.specs.Content.{Unknown}
use Rattle.fm_shelf.specs.Outside.{outside}
use Rattle.command_line.specs.Asks.{IsWordsRefusal}
use Rattle.refusals.specs.RefusalLines.{refusal_line}
use Rattle.refusals.specs.WantOfMemory.{IsMemory}
use Rattle.commands.specs.Commands.{told_by}
use Rattle.fmeda_top.proofs.Ending.{promised}
use Rattle.fmeda_top.proofs.top.fmeda_by.Goals as goal

pub returns-in-Ok-clause-promises : goal.returns-in-Ok-clause-promises
returns-in-Ok-clause-promises g c =
    promised (map string_bytes c.args.words.now) (told_by c.in-Ok.asked) c.perform.result.status
    (outside (g.F.Shelf.seen c.args.shelf) (g.O.Sink.seen c.args.out.now)) (outside (g.F.Shelf.seen c.perform.result.shelf) (g.O.Sink.seen c.perform.new.out))
    c.in-Ok.ensures.reads c.in-Ok.ensures.alone c.perform.ensures.0

pub returns-in-Ok-clause-grows : goal.returns-in-Ok-clause-grows
returns-in-Ok-clause-grows g c = c.perform.ensures.1

pub returns-in-Err-Usage-clause-promises : goal.returns-in-Err-Usage-clause-promises
unfolding refusal_line
returns-in-Err-Usage-clause-promises g c =
    inr (inl (
      subst (λ r. IsWordsRefusal (map string_bytes c.args.words.now) r) c.in-Err-Usage.field-0-is c.in-Err-Usage.ensures.reads,
      c.refuse_words.ensures.status,
      (record { content = refl; changed = refl }, (c.refuse_words.ensures.said Unknown).2.0),
    ))

pub returns-in-Err-Memory-clause-promises : goal.returns-in-Err-Memory-clause-promises
unfolding refusal_line
returns-in-Err-Memory-clause-promises g c =
    inr (inr (subst IsMemory (sym c.refuse_words-in-Err-Memory.ensures.status) tt, c.in-Err-Memory.no_room.why, (record { content = refl; changed = refl }, (c.refuse_words-in-Err-Memory.ensures.said Unknown).2.0)))

pub returns-in-Err-Usage-clause-grows : goal.returns-in-Err-Usage-clause-grows
returns-in-Err-Usage-clause-grows g c = (c.refuse_words.ensures.said Unknown).2.1

pub returns-in-Err-Memory-clause-grows : goal.returns-in-Err-Memory-clause-grows
returns-in-Err-Memory-clause-grows g c = (c.refuse_words-in-Err-Memory.ensures.said Unknown).2.1

pub perform-requires-clause-turn : goal.perform-requires-clause-turn
perform-requires-clause-turn g c κs within = λ several share. c.requires.turn (told_by c.in-Ok.asked, c.in-Ok.ensures.reads, several) share
