use Rattle.std.proofs.Common.{◌≡◌, ◌-◌, ◌∙◌, ◌+◌, ◌*◌, [], ap, sym, length, List, ℕ, arith}
use Rattle.std.specs.Prelude.{◌==◌, true}
use Rattle.fm_shelf.proofs.Sending.{sends_as, sends_none}
use Rattle.fm_base.proofs.Tests.{clash}
use Rattle.wave_dump.specs.Dump.{value_line}
use Rattle.wave_dump.specs.Steps.{value_text}
use Rattle.wave_dump.proofs.Printing.{other_of, same_of, text_at_start, text_of_other, text_of_same}
use Rattle.wave_dump.proofs.values.write_change.Goals as goal
use Rattle.wave_dump.proofs.values.write_change.Goals.{then-t-eq0, else-t-eq0}

pub returns-then-bit-get : goal.returns-then-bit-get
returns-then-bit-get g c =
    let w = c.args.scene.now in
    let t = c.args.t in
    let scope = c.args.scope in
    let place = c.args.place in
    let named = ap (λ (ns : List ℕ). scope * length ns + place) c.nets.ensures.value in
    let valued = c.get-bit.ensures ∙ c.word_at.ensures t scope c.requires.now c.requires.scope in
    sends_as (elim c.if-t-eq0.branch as (λ _. value_line (scope * length c.nets.result.now + place) c.get-bit.result ≡ value_text w t scope place) [
      | then-t-eq0 x ↦ text_at_start w t scope place _ c.get-bit.result x.if-t-eq0.true named valued
      | else-t-eq0 x ↦
          (let back : t - 1 + 1 ≡ t = omega (arith, x.if-t-eq0.false) in
          text_of_other w t scope place _ c.get-bit.result x.get.result named valued
          (x.get.ensures ∙ c.requires.held.values (t - 1) scope place back c.requires.scope c.requires.place)
          (other_of c.get-bit.result x.get.result (sym x.value-is ∙ c.if-bit-get.true)))
    ]) c.write_value.ensures

pub returns-else-bit-get : goal.returns-else-bit-get
returns-else-bit-get g c =
    let w = c.args.scene.now in
    let t = c.args.t in
    let scope = c.args.scope in
    let place = c.args.place in
    let valued = c.get-bit.ensures ∙ c.word_at.ensures t scope c.requires.now c.requires.scope in
    sends_as (elim c.if-t-eq0.branch as (λ _. [] ≡ value_text w t scope place) [
      | then-t-eq0 x ↦
          (let first : (t == 0) ≡ true = grind (arith, x.if-t-eq0.true) in
          absurd (clash c.if-t-eq0.value (x.value-is ∙ first) c.if-bit-get.false))
      | else-t-eq0 x ↦
          (let back : t - 1 + 1 ≡ t = omega (arith, x.if-t-eq0.false) in
          text_of_same w t scope place c.get-bit.result x.get.result (omega (arith, back)) valued
          (x.get.ensures ∙ c.requires.held.values (t - 1) scope place back c.requires.scope c.requires.place)
          (same_of c.get-bit.result x.get.result (sym x.value-is ∙ c.if-bit-get.false)))
    ]) (sends_none _)
