use Rattle.std.proofs.Common.{◌≡◌, length, bit_xor, rules}
use Rattle.lane_words.specs.Bits.{either}
use Rattle.lane_words.proofs.Words.{bit_of_xor, quad_zip}
use Rattle.lane_words.proofs.quad.U64x4Word.xor.Goals as goal

pub returns : goal.returns
returns c = λ k lt.
    let self : length c.args.self ≡ 4 = search rules in
    let other : length c.args.other ≡ 4 = search rules in
    quad_zip bit_xor either bit_of_xor c.args.self c.args.other self other k lt
