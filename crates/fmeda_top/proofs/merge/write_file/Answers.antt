use Rattle.std.proofs.Common.{◌≡◌, ◌∙◌, refl, sym, subst, length, true, false, arith}
use Rattle.std.specs.Result.{is_err}
use Rattle.fm_shelf.specs.Content.{HasIfKnown}
use Rattle.fm_shelf.specs.Past.{WritesOn}
use Rattle.fm_shelf.specs.Outside.{Outside, outside}
use Rattle.fm_shelf.specs.Sink.{with_more}
use Rattle.campaign_plan.specs.Analysis.{batch_count}
use Rattle.campaign_run.specs.Outside.{had_written}
use Rattle.fmeda_top.specs.Written.{line_by, rows_file}
use Rattle.fmeda_top.proofs.Writing.{file_left, file_stopped, file_written}
use Rattle.fmeda_top.proofs.Written.{not_written, written}
use Rattle.fmeda_top.proofs.merge.write_file.Goals as goal

pub returns-then-is_err : goal.returns-then-is_err
returns-then-is_err g c =
    let it = c.args.planned.now in
    let name = c.args.name.now in
    let before : Outside = outside (g.F.Shelf.seen c.args.shelf.now) (g.O.Sink.seen c.args.out.now) in
    let after : Outside = outside (g.F.Shelf.seen c.write_anew.new.shelf) (g.O.Sink.seen c.args.out.now) in
    let failed : is_err c.write_anew.result ≡ true = sym c.is_err.ensures.value ∙ c.if-is_err.true in
    let file : c.as_slice.result.now ≡ rows_file it.own c.args.rows.now =
    c.as_slice.ensures.value ∙ c.in-Ok.ensures in
    let left = not_written name c.as_slice.result.now before.shelf after.shelf c.write_anew.result c.write_anew.ensures.writes failed in
    λ reads sound. record {
      ends = (
        left.1,
        file_left c.args.origin it c.args.rows.now reads name before sound after (rw file at left.0),
        refl {a = after.out},
        file_stopped c.args.origin it c.args.rows.now reads name before sound after (rw file at left.2),
      );
      others = c.write_anew.ensures.others;
      given = c.write_anew.ensures.given;
      grows = omega arith;
    }

pub returns-in-Ok-write_count : goal.returns-in-Ok-write_count
returns-in-Ok-write_count g c =
    let it = c.args.planned.now in
    let name = c.args.name.now in
    let before : Outside = outside (g.F.Shelf.seen c.args.shelf.now) (g.O.Sink.seen c.args.out.now) in
    let after : Outside = outside (g.F.Shelf.seen c.write_anew.new.shelf) (g.O.Sink.seen c.write_count.new.out) in
    let fine : is_err c.write_anew.result ≡ false = sym c.is_err.ensures.value ∙ c.if-is_err.false in
    let file : c.as_slice.result.now ≡ rows_file it.own c.args.rows.now =
    c.as_slice.ensures.value ∙ c.in-Ok.ensures in
    let both = written name c.as_slice.result.now before.shelf after.shelf c.write_anew.result c.write_anew.ensures.writes fine in
    let has = subst (HasIfKnown (after.shelf.content name)) file both.0 in
    let wrote_on = subst (λ text. WritesOn 0 text (after.shelf.given name) (before.shelf.changed name) (after.shelf.changed name)) file both.1 in
    let wrote = rw c.batches.ensures.count at c.in-Ok-write_count.ensures.ok in
    λ reads sound. record {
      ends = file_written c.args.origin it c.args.rows.now reads name before sound after has wrote wrote_on;
      others = c.write_anew.ensures.others;
      given = c.write_anew.ensures.given;
      grows = c.in-Ok-write_count.ensures.grows;
    }

pub returns : goal.returns
returns g c =
    let it = c.args.planned.now in
    let name = c.args.name.now in
    let before : Outside = outside (g.F.Shelf.seen c.args.shelf.now) (g.O.Sink.seen c.args.out.now) in
    let after : Outside = outside (g.F.Shelf.seen c.write_anew.new.shelf) (g.O.Sink.seen c.write_count.new.out) in
    let fine : is_err c.write_anew.result ≡ false = sym c.is_err.ensures.value ∙ c.if-is_err.false in
    let file : c.as_slice.result.now ≡ rows_file it.own c.args.rows.now =
    c.as_slice.ensures.value ∙ c.in-Ok.ensures in
    let both = written name c.as_slice.result.now before.shelf after.shelf c.write_anew.result c.write_anew.ensures.writes fine in
    let has = subst (HasIfKnown (after.shelf.content name)) file both.0 in
    let wrote_on = subst (λ text. WritesOn 0 text (after.shelf.given name) (before.shelf.changed name) (after.shelf.changed name)) file both.1 in
    let line = line_by c.args.origin (length c.args.rows.now) (batch_count it.plan) in
    let torn = rw c.batches.ensures.count at c.in-Err-write_count.ensures.failed in
    λ reads sound. record {
      ends = (
        line,
        file_written c.args.origin it c.args.rows.now reads name before sound (had_written before after line) has (refl {a = with_more before.out.written line}) wrote_on,
        torn,
      );
      others = c.write_anew.ensures.others;
      given = c.write_anew.ensures.given;
      grows = c.in-Err-write_count.ensures.grows;
    }
