-- The lines below a line.
use Rattle.std.proofs.Common.{◌≡◌, suc, ◌-◌, ◌≤◌, List, [], ◌∷◌, refl, length, take, drop, get_or, arith}
use Rattle.std.proofs.Math.Seq.{take-length}
use Rattle.blif_model.specs.LineFault.{Said}

-- a list begins with its first item
pub rest_is : (rest : List Said) (line : Said) → 1 ≤ length rest → line ≡ get_or rest 0 line
    → rest ≡ line ∷ take (length rest - 1) (drop 1 rest)
rest_is [] line h e = absurd (omega arith)
rest_is (x ∷ rest) line h e =
    let n : suc (length rest) - 1 ≡ length rest = omega arith in
    rw (n, take-length rest, e) refl
