use Rattle.std.proofs.Common.{◌∙◌, ◌<◌, [], ◌+◌, ◌^◌, length, map, List, ℕ, arith, ap, sym, subst}
use Rattle.std.specs.Borrow.{Bor}
use Rattle.clap.specs.Words.{Text}
use Rattle.command_line.proofs.CycleLists.{Stands, behind, no_number, not_behind, stands_more, texts_counted, too_many, word_read}
use Rattle.command_line.proofs.cycles.numbers_of.Goals as goal
use Rattle.command_line.proofs.cycles.numbers_of.Goals.{then-len-most-via-then-len-most, then-len-most-via-else-len-most+then-not-is_behind}

-- a word is no number
pub returns-in_default : goal.returns-in_default
returns-in_default c =
    let words : List (Bor Text) = c.args.words.now in
    let i = c.loop-word.word-index in
    let fits : c.args.greatest < 2 ^ 32 = omega arith in
    let lt : i < length (map (λ (word : Bor Text). word.now) words) = omega (arith, c.loop-word-test.true, texts_counted words) in
    no_number c.args.greatest fits c.args.most (map (λ (word : Bor Text). word.now) words) i [] lt
    (word_read c.args.greatest fits words i _ c.as_bytes.result.now c.plain_number.result c.loop-word-test.true c.plain_number.ensures.value c.as_bytes.ensures.value ∙ c.in_default.is)

-- there are too many, or a number isn't above the one before
pub returns-then-len-most : goal.returns-then-len-most
returns-then-len-most c =
    let words : List (Bor Text) = c.args.words.now in
    let texts : List Text = map (λ (word : Bor Text). word.now) words in
    let i = c.loop-word.word-index in
    let fits : c.args.greatest < 2 ^ 32 = omega arith in
    let lt : i < length texts = omega (arith, c.loop-word-test.true, texts_counted words) in
    elim c.then-len-most.branch [
      | then-len-most-via-then-len-most w ↦ too_many c.args.greatest fits c.args.most texts c.loop-word.numbers i [] c.loop-word.invariant lt (omega (arith, w.if-len-most.true, c.len.ensures))
      | then-len-most-via-else-len-most+then-not-is_behind w ↦
          not_behind c.args.greatest fits c.args.most texts c.loop-word.numbers i c.in-Some.number [] c.loop-word.invariant lt
          (word_read c.args.greatest fits words i _ c.as_bytes.result.now c.plain_number.result c.loop-word-test.true c.plain_number.ensures.value c.as_bytes.ensures.value ∙ c.in-Some.is)
          (ap (λ (cycles : List ℕ). behind cycles c.in-Some.number) (sym w.as_slice.ensures) ∙ sym w.is_behind.ensures ∙ w.if-not-is_behind.true)
    ]

pub loop-word-preserved : goal.loop-word-preserved
loop-word-preserved c =
    let words : List (Bor Text) = c.args.words.now in
    let texts : List Text = map (λ (word : Bor Text). word.now) words in
    let i = c.loop-word.word-index in
    let fits : c.args.greatest < 2 ^ 32 = omega arith in
    let lt : i < length texts = omega (arith, c.loop-word-test.true, texts_counted words) in
    let P : List ℕ → Type 0 = λ numbers. Stands c.args.most c.args.greatest texts numbers (i + 1) in
    subst P (sym c.in_ok-push.ensures.ok)
    (stands_more c.args.greatest fits c.args.most texts c.loop-word.numbers i c.in-Some.number [] c.loop-word.invariant lt
    (word_read c.args.greatest fits words i _ c.as_bytes.result.now c.plain_number.result c.loop-word-test.true c.plain_number.ensures.value c.as_bytes.ensures.value ∙ c.in-Some.is)
    (omega (arith, c.if-len-most.false, c.len.ensures))
    (ap (λ (cycles : List ℕ). behind cycles c.in-Some.number) (sym c.as_slice.ensures) ∙ sym c.is_behind.ensures ∙ c.if-not-is_behind.false))
