use Rattle.std.proofs.Common.{◌≡◌, length, bit_and, ◌&&◌, rules}
use Rattle.lane_words.proofs.Words.{quad_zip}
use Rattle.lane_words.proofs.quad.U64x4Word.and.Goals as goal
use Rattle.fm_base.proofs.Bits.{bit_of_and}

pub returns : goal.returns
returns c = λ k lt.
    let self : length c.args.self ≡ 4 = search rules in
    let other : length c.args.other ≡ 4 = search rules in
    quad_zip bit_and (λ a b. a && b) bit_of_and c.args.self c.args.other self other k lt
