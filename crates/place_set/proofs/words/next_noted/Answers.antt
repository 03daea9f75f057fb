use Rattle.std.proofs.Common.{◌/◌, ◌%◌, ◌<◌, ap, sym, ◌∙◌, arith}
use Rattle.place_set.specs.Choices.{is_noted}
use Rattle.place_set.proofs.Chosen.{alone, noted_bit}
use Rattle.place_set.proofs.words.next_noted.Goals as goal

pub returns-in-Some-clause-none : goal.returns-in-Some-clause-none
returns-in-Some-clause-none c = λ i le lt.
    let notes = c.args.notes.now in
    let word = c.noted_word-word.result in
    let found = c.in-Some.ensures in
    let within : c.in-Some.k < 64 = omega (arith, found.1) in
    let j = i % 64 in
    let low : j < 64 = omega arith in
    ap (is_noted notes) (omega (arith, le, lt, within))
    ∙ sym (noted_bit notes (c.args.from / 64) word c.noted_word-word.ensures j low)
    ∙ alone word j low
    ∙ found.3 j (omega (arith, le, lt, within)) (omega (arith, le, lt, within))

pub returns-in-None-clause-none : goal.returns-in-None-clause-none
returns-in-None-clause-none c = λ i le lt.
    let notes = c.args.notes.now in
    let word = c.noted_word-word.result in
    let j = i % 64 in
    let low : j < 64 = omega arith in
    ap (is_noted notes) (omega (arith, le, lt))
    ∙ sym (noted_bit notes (c.args.from / 64) word c.noted_word-word.ensures j low)
    ∙ alone word j low
    ∙ c.in-None.ensures j (omega (arith, le, lt)) (omega (arith, low))
