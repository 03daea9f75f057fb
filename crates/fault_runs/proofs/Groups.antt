-- How many groups the faults of a draw make.
use Rattle.std.proofs.Common.{◌≡◌, ℕ, ◌+◌, ◌*◌, ◌<◌, ◌≤◌, ◌⊎◌, inl, inr, true, false, ◌-◌, ap, sym, ◌∙◌, arith}
use Rattle.std.specs.Int.{div_ceil}
use Rattle.std.proofs.Math.Nat.{add-mul, mul-add, mul-le-mul_right}
use Rattle.std.proofs.lemmas.Bool.{cases_lt}
use Rattle.std.proofs.lemmas.Grind.{div_ceil_times}
use Rattle.fm_base.proofs.Tests.{clash}
use Rattle.place_set.specs.Places.{Places, has}

-- so many groups were followed, at most so many steps each: they were all full, or they had all faults that are left
pub record AreGroups (active : Places) (lanes n each start next steps : ℕ) : Type 0 where
  pub groups : ℕ
  pub cost : steps ≤ start + groups * each
  pub few : (groups * lanes ≤ next) ⊎ ((groups ≤ div_ceil n lanes) × ((p : ℕ) → next ≤ p → has active p ≡ false))

-- the steps of one group more
each_more : (start before now groups each : ℕ) → before ≤ start + groups * each → now ≤ before + each → now ≤ start + (groups + 1) * each
each_more start before now groups each b n =
    let split : (groups + 1) * each ≡ groups * each + 1 * each = add-mul groups 1 each in
    let one : 1 * each ≡ each = omega arith in
    omega (arith, split, one)

module _ (active : Places) (lanes n each start : ℕ) (some : 0 < lanes) where
  -- there are no more full groups than groups of all, and fewer where some fault is left
  few_full : (m next : ℕ) → m * lanes ≤ next → next ≤ n → m ≤ div_ceil n lanes
  few_full m next full within =
      let enough : n ≤ div_ceil n lanes * lanes = (div_ceil_times n lanes some).0 in
      elim (cases_lt (div_ceil n lanes) m) [
        | inl more ↦
            (let most : (div_ceil n lanes + 1) * lanes ≤ m * lanes = mul-le-mul_right lanes (omega (arith, more)) in
            let split : (div_ceil n lanes + 1) * lanes ≡ div_ceil n lanes * lanes + 1 * lanes = add-mul (div_ceil n lanes) 1 lanes in
            let one : 1 * lanes ≡ lanes = omega arith in
            absurd (omega (arith, most, split, one, full, within, enough, some)))
        | inr le ↦ le
      ]

  fewer_full : (m next : ℕ) → m * lanes ≤ next → next < n → m + 1 ≤ div_ceil n lanes
  fewer_full m next full within =
      let enough : n ≤ div_ceil n lanes * lanes = (div_ceil_times n lanes some).0 in
      elim (cases_lt m (div_ceil n lanes)) [
        | inl less ↦ omega (arith, less)
        | inr most ↦
            (let all : div_ceil n lanes * lanes ≤ m * lanes = mul-le-mul_right lanes most in
            absurd (omega (arith, all, full, within, enough)))
      ]

  pub group_more : (first count next before now after : ℕ) → AreGroups active lanes n each start next before → next ≤ first → first < n → has active first ≡ true
      → first + count ≤ after → (count ≡ lanes) ⊎ ((p : ℕ) → after ≤ p → has active p ≡ false) → now ≤ before + each
      → AreGroups active lanes n each start after now
  group_more first count next before now after so from within is covers full more =
      record {
        groups = so.groups + 1;
        cost = each_more start before now so.groups each so.cost more;
        few = elim so.few [
          | inl all_full ↦
              (let small : so.groups + 1 ≤ div_ceil n lanes = fewer_full so.groups next all_full (omega (arith, from, within)) in
              elim full [
                | inl this ↦
                    (let split : (so.groups + 1) * lanes ≡ so.groups * lanes + 1 * lanes = add-mul so.groups 1 lanes in
                    let one : 1 * lanes ≡ lanes = omega arith in
                    inl (omega (arith, split, one, all_full, from, covers, this)))
                | inr rest ↦ inr (small, rest)
              ])
          | inr done ↦ absurd (clash (has active first) is (done.1 first from))
        ];
      }

  -- ALL GROUPS
  pub groups_all : (next steps : ℕ) → AreGroups active lanes n each start next steps → next ≤ n → steps ≤ start + div_ceil n lanes * each
  groups_all next steps so within =
      let small : so.groups ≤ div_ceil n lanes = elim so.few [
        | inl all_full ↦ few_full so.groups next all_full within
        | inr done ↦ done.0
      ] in
      let most : so.groups * each ≤ div_ceil n lanes * each = mul-le-mul_right each small in
      omega (arith, so.cost, most)

-- the steps of one stretch more
pub stretch_more : (start before now groups t to tables : ℕ) → t ≤ to → before ≤ start + groups * (t * tables) → now ≤ before + groups * ((to - t) * tables) → now ≤ start + groups * (to * tables)
stretch_more start before now groups t to tables le b n =
    let split : (t + (to - t)) * tables ≡ t * tables + (to - t) * tables = add-mul t (to - t) tables in
    let joined : t + (to - t) ≡ to = omega (arith, le) in
    let spread : groups * (t * tables + (to - t) * tables) ≡ groups * (t * tables) + groups * ((to - t) * tables) = mul-add groups (t * tables) ((to - t) * tables) in
    let whole : groups * (to * tables) ≡ groups * (t * tables) + groups * ((to - t) * tables) =
    ap (λ m. groups * m) (ap (λ m. m * tables) (sym joined) ∙ split) ∙ spread in
    omega (arith, b, n, whole)
