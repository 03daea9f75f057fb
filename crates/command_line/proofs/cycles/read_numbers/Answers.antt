use Rattle.std.proofs.Common.{◌≡◌, ◌==◌, ◌∙◌, ◌<◌, ◌^◌, arith, List, None, map, ap, sym, subst}
use Rattle.std.specs.Borrow.{Bor}
use Rattle.std.specs.List.{slice_split}
use Rattle.clap.specs.Words.{Text}
use Rattle.command_line.specs.Cycles.{AreNumbersRead, Write}
use Rattle.command_line.proofs.CycleLists.{words_fit, words_none}
use Rattle.command_line.proofs.cycles.read_numbers.Goals as goal

pub returns-in-Some : goal.returns-in-Some
returns-in-Some c =
    let fits : c.args.greatest < 2 ^ 32 = omega arith in
    let words : map (λ (word : Bor Text). word.now) c.deref.result.now ≡ slice_split (λ b. b == 44) c.args.text.now =
    ap (map (λ (word : Bor Text). word.now)) c.deref.ensures.value ∙ c.in_ok-words.ensures in
    let read : Write c.args.most c.args.greatest (map (λ (word : Bor Text). word.now) c.deref.result.now) c.in-Some.numbers =
    subst (AreNumbersRead c.args.most c.args.greatest (map (λ (word : Bor Text). word.now) c.deref.result.now)) c.in-Some.is c.in_ok-numbers.ensures in
    words_fit c.args.greatest fits c.args.most c.args.text.now c.in-Some.numbers (let P : List Text → Type 0 = λ ws. Write c.args.most c.args.greatest ws c.in-Some.numbers in subst P words read)

pub returns : goal.returns
returns c =
    let fits : c.args.greatest < 2 ^ 32 = omega arith in
    let words : map (λ (word : Bor Text). word.now) c.deref.result.now ≡ slice_split (λ b. b == 44) c.args.text.now =
    ap (map (λ (word : Bor Text). word.now)) c.deref.ensures.value ∙ c.in_ok-words.ensures in
    let none : AreNumbersRead c.args.most c.args.greatest (map (λ (word : Bor Text). word.now) c.deref.result.now) None =
    subst (AreNumbersRead c.args.most c.args.greatest (map (λ (word : Bor Text). word.now) c.deref.result.now)) c.in-None.is c.in_ok-numbers.ensures in
    words_none c.args.greatest fits c.args.most c.args.text.now (sym c.eq.ensures ∙ c.if-eq.false) (subst (λ (ws : List Text). AreNumbersRead c.args.most c.args.greatest ws None) words none)
