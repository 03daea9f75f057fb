use Rattle.std.proofs.Common.{◌≡◌, ◌==◌, ◌<◌, ◌^◌, false, bit_and, sym, ◌∙◌, arith}
use Rattle.std.proofs.lemmas.Bool.{eq-eqb, ne_eqb}
use Rattle.std.proofs.lemmas.Nat.{and_le_l}
use Rattle.fm_base.proofs.Tests.{clash, not_false, not_true}
use Rattle.pair_sets.proofs.Words.{pair_if_some, some_if_pair}
use Rattle.pair_sets.proofs.values.Values.has_in.Goals as goal

pub returns : goal.returns
returns c =
    let golden = c.where_it_is.result in
    let faulty = c.where_it_is-2.result in
    let word = bit_and (bit_and c.args.choices golden) faulty in
    let small : word < 2 ^ 64 = omega (arith, and_le_l (bit_and c.args.choices golden) faulty, and_le_l c.args.choices golden, c.ranges.choices.fits) in (
      λ e. pair_if_some c.args.choices golden faulty c.args.self c.args.golden c.args.faulty c.where_it_is.ensures c.where_it_is-2.ensures
          (λ none. clash (word == 0) (eq-eqb word 0 none) (not_true (word == 0) e)) small,
      λ at. not_false (word == 0)
          (ne_eqb word 0 (λ none. some_if_pair c.args.choices golden faulty c.args.self c.args.golden c.args.faulty c.where_it_is.ensures c.where_it_is-2.ensures none at)),
    )
