use Rattle.std.proofs.Common.{◌+◌, ◌%◌, ◌==◌, ◌&&◌, List, drop, get_or, find, ap, sym, ◌∙◌}
use Rattle.std.specs.Prelude.{option_map}
use Rattle.std.proofs.lemmas.List.{drop_more}
use Rattle.result_file.specs.declared.Row.{Row}
use Rattle.row_audit.specs.Audited.{each_nth_from, is_false, told_of}
use Rattle.row_audit.proofs.Rows.{chose_none, chose_some, none_here, some_here}
use Rattle.row_audit.proofs.audit.first_in.Goals as goal

no_row : Row
no_row = record {
  batch = 0;
  danger = 0;
  noticed = 0;
  sums = record { permanent_all = 0; permanent_danger = 0; latent = 0; transient_all = 0; transient_danger = 0 };
}

pub loop-place-preserved : goal.loop-place-preserved
loop-place-preserved g c =
    let n = c.args.every in
    let i = c.loop-place.place in
    let rows : List Row = c.args.rows.now in
    let row : Row = get_or rows i no_row in
    let kept = c.false_at.ensures in
    record {
      made = kept.made;
      sound = kept.sound;
      at_hand = kept.at_hand;
      none = λ p of.
          c.loop-place.invariant.none p of
          ∙ ap (λ (xs : List Row). find (is_false p) (each_nth_from n i xs)) (drop_more rows i no_row c.loop-place-test.true)
          ∙ none_here (is_false p) n i row (drop (i + 1) rows) (chose_none ((i % n == 0) && is_false p row) (told_of p row) (c.in_default.ensures.found p no_row of));
    }

pub returns-in-Some : goal.returns-in-Some
returns-in-Some g c = λ p of.
    let n = c.args.every in
    let i = c.loop-place.place in
    let rows : List Row = c.args.rows.now in
    let row : Row = get_or rows i no_row in
    let chosen = chose_some ((i % n == 0) && is_false p row) (told_of p row) c.in-Some.found (c.in-Some.ensures.found p no_row of) in
    chosen.1
    ∙ sym (ap (option_map (told_of p))
    (c.loop-place.invariant.none p of
    ∙ ap (λ (xs : List Row). find (is_false p) (each_nth_from n i xs)) (drop_more rows i no_row c.loop-place-test.true)
    ∙ some_here (is_false p) n i row (drop (i + 1) rows) chosen.0))
