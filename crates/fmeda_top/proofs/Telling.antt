-- How a task has told its text.
use Rattle.std.proofs.Common.{◌≡◌, ◌≤◌, Ok, Err, inl, inr, refl, subst, sym}
use Rattle.std.specs.Prelude.{Result, Some, None, OnOk, OnErr}
use Rattle.fm_base.specs.Names.{Bytes}
use Rattle.fm_shelf.specs.declared.shelf.Failed.{Failed}
use Rattle.fm_base.specs.declared.Refusal.{Refusal}
use Rattle.fm_base.specs.declared.Refusal.TheVariants.{Fault, Memory}
use Rattle.fm_shelf.specs.Sink.{SinkState, Sends, Wrote, WrotePrefix}
use Rattle.commands.specs.declared.command.Task.{Task}
use Rattle.refusals.specs.declared.refused.Refused.{Refused}
use Rattle.refusals.specs.declared.status.Status.{Status}
use Rattle.refusals.specs.declared.status.Status.TheVariants as status
use Rattle.room.specs.declared.edge.NoRoom.{NoRoom}
use Rattle.command_reads.specs.FirstRefusal.{Judged}
use Rattle.fmeda_top.specs.TaskRefusals.{task_refusal}
use Rattle.fmeda_top.specs.Ends.{IsSimulated, text_of}
use Rattle.fmeda_top.specs.Doing.{AfterAs, TellsAs}

-- a text was sent, and the status is that of a text
pub told : (own : Task) (made : Judged) (before after : SinkState) (text : Bytes) (r : Result (Unit {0}) Failed) (ended : Status)
    → task_refusal own made ≡ None → text_of own made ≡ Some text → Sends before after text r → OnOk r (ended ≡ status.Done)
    → OnErr r (ended ≡ status.OutFault) → IsSimulated own → TellsAs own made before after (Ok ended)
told own made before after text (Ok v) ended free is sent done failed by = (free, sent.grows, (text, is, inl (done, sent.ok)), by)
told own made before after text (Err e) ended free is sent done failed by = (free, sent.grows, (text, is, inr (failed, sent.failed)), by)

-- a text that takes memory beside was sent, or there was none and nothing was sent
pub told_after : (own : Task) (made : Judged) (before after : SinkState) (text : Bytes) (written : Result (Unit {0}) (Refusal Failed)) (told : Result Status Refused)
    → task_refusal own made ≡ None → text_of own made ≡ Some text → OnOk written (Wrote before after text) → before.faults ≤ after.faults
    → ((failed : Failed) → written ≡ Err (Fault failed) → WrotePrefix before after text) → ((no_room : NoRoom) → written ≡ Err (Memory no_room) → after ≡ before) → AfterAs written told → IsSimulated own
    → TellsAs own made before after told
told_after own made before after text (Ok v) told free is sent grows torn none ends by =
    subst (TellsAs own made before after) (sym ends) (free, grows, (text, is, inl (refl, sent)), by)
told_after own made before after text (Err (Fault e)) told free is sent grows torn none ends by =
    subst (TellsAs own made before after) (sym ends) (free, grows, (text, is, inr (refl, torn e refl)), by)
told_after own made before after text (Err (Memory no_room)) told free is sent grows torn none ends by =
    subst (TellsAs own made before after) (sym ends) (inl tt, tt, none no_room refl)
