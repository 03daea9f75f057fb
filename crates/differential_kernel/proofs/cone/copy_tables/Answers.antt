use Rattle.std.proofs.Common.{◌≡◌, ◌<◌, inl, inr, false, length, get_or, set, ap, sym, subst, ◌∙◌, arith, get_or-set_other, get_or-set_same}
use Rattle.std.proofs.lemmas.Bool.{cases_eq}
use Rattle.lane_words.specs.Gates.{gate_at}
use Rattle.place_set.specs.Places.{has}
use Rattle.differential_kernel.specs.declared.cone.ConeTable.{ConeTable}
use Rattle.differential_kernel.specs.Cone.{cone_table}
use Rattle.differential_kernel.proofs.cone.copy_tables.Goals as goal

pub loop-at-preserved : goal.loop-at-preserved
loop-at-preserved c =
    let at = c.loop-at.at in
    let tables = c.loop-at.tables in
    let gates = c.args.gates.now in
    let places = c.args.places.now in
    let v : ConeTable = c.table_of.result in
    let none : ConeTable = record { gate = record { to = 0; a = 0; b = 0; op = 0 }; forced = false } in
    let within : at < length tables = omega (arith, c.loop-at-test.true, c.requires.room, c.loop-at.auto.tables) in
    let last : cone_table (set tables at v) at ≡ v = get_or-set_same tables at v none within in
    record {
      gates = λ i lt. elim (cases_eq i at) as (λ _. (cone_table (set tables at v) i).gate ≡ gate_at gates (get_or places i 0)) [
        | inl same ↦ subst (λ j. (cone_table (set tables at v) j).gate ≡ gate_at gates (get_or places j 0)) (sym same) (ap (λ (t : ConeTable). t.gate) last ∙ c.table_of.ensures.gate)
        | inr other ↦ ap (λ (t : ConeTable). t.gate) (get_or-set_other tables at i v none other) ∙ c.loop-at.invariant.gates i (omega (arith, lt, other))
      ];
      forced = λ i lt. elim (cases_eq i at) as (λ _. (cone_table (set tables at v) i).forced ≡ has c.args.named.now (gate_at gates (get_or places i 0)).to) [
        | inl same ↦
            subst (λ j. (cone_table (set tables at v) j).forced ≡ has c.args.named.now (gate_at gates (get_or places j 0)).to) (sym same)
            (ap (λ (t : ConeTable). t.forced) last ∙ c.table_of.ensures.forced)
        | inr other ↦ ap (λ (t : ConeTable). t.forced) (get_or-set_other tables at i v none other) ∙ c.loop-at.invariant.forced i (omega (arith, lt, other))
      ];
    }
