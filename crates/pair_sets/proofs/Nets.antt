-- The table rule as a rule of stretches.
use Rattle.std.proofs.Common.{◌≡◌, ◌≢◌, ◌⊎◌, inl, inr, ℕ, zero, suc, ◌<◌, Bool, true, false, List, [], ◌∷◌, length, map, get_or, refl, ap, ap₂, sym, subst, ◌∙◌, arith}
use Rattle.std.specs.Prelude.{◌==◌, Contains, if◌then◌else◌}
use Rattle.std.specs.List.{All}
use Rattle.std.proofs.lemmas.Bool.{cases_eq, eq-eqb, ne_eqb}
use Rattle.std.proofs.lemmas.List.Elements.{All-contains}
use Rattle.std.proofs.lemmas.List.{get_or_default}
use Rattle.fm_base.proofs.Tests.{clash}
use Rattle.circuit.specs.Order.{net_at}
use Rattle.circuit.specs.Value.{bit_at, table_at}
use Rattle.circuit.specs.declared.parts.NetId.{NetId}
use Rattle.coverage_claim.specs.Region.{may_show}
use Rattle.coverage_claim.specs.Rules.{AgreeAt, Sets, by_table}
use Rattle.coverage_claim.specs.Stretch.{Stretch}
use Rattle.pair_sets.specs.Choice.{Agree, AreChosen, set_at, truth_gives}
use Rattle.pair_sets.specs.Pairs.{has}
use Rattle.pair_sets.specs.Tables.{AreSetsOf, HasAgreeing, IsLeftOf, IsOnce, IsSetOf, IsTruth, TablesAreComplete, TablesAreSound, TakesWhatMayGo}
use Rattle.pair_sets.specs.declared.pairs.PairSet.{PairSet}
use Rattle.pair_sets.proofs.Choices.{chosen_at}

-- ---- from values of nets to a choice

abbrev bits_of : (ℕ → Bool) → List NetId → List Bool
bits_of values nets = map (λ net. values net.0) nets

bit_of : (values : ℕ → Bool) (nets : List NetId) (i : ℕ) → i < length nets → bit_at (bits_of values nets) i ≡ values (net_at nets i).0
bit_of values [] i lt = absurd (omega (arith, lt))
bit_of values (net ∷ nets) zero lt = refl
bit_of values (net ∷ nets) (suc i) lt = bit_of values nets i (omega (arith, lt))

chosen_of : (golden faulty : ℕ → Bool) (nets : List NetId) (sets : List PairSet) → length sets ≡ length nets
    → ((i : ℕ) → i < length nets → has (set_at sets i) (golden (net_at nets i).0) (faulty (net_at nets i).0) ≡ true) → AreChosen sets (bits_of golden nets) (bits_of faulty nets)
chosen_of golden faulty [] [] same each = tt
chosen_of golden faulty [] (x ∷ xs) same each = absurd (omega (arith, same))
chosen_of golden faulty (net ∷ nets) [] same each = absurd (omega (arith, same))
chosen_of golden faulty (net ∷ nets) (x ∷ xs) same each = (each 0 (omega arith), chosen_of golden faulty nets xs (omega (arith, same)) (λ i lt. each (suc i) (omega (arith, lt))))

contains_at : (nets : List NetId) (i : ℕ) → i < length nets → Contains nets (net_at nets i)
contains_at [] i lt = absurd (omega (arith, lt))
contains_at (net ∷ nets) zero lt = (0, omega arith, refl)
contains_at (net ∷ nets) (suc i) lt = let rest = contains_at nets i (omega (arith, lt)) in (suc rest.0, omega (arith, rest.1), rest.2)

module _ (s : Stretch) (q : Sets) (frame k : ℕ) (own : NetId) (reads : List NetId) (truth : ℕ) (left : List PairSet) (own_left : PairSet)
    (of : IsLeftOf s q frame k own reads truth left own_left) where
  -- values that agree are a choice that agrees
  choice_of : (golden faulty : ℕ → Bool) → AgreeAt s q frame k own golden faulty
      → Agree truth (s.region own.0) of.sets of.own_set (bits_of golden reads) (bits_of faulty reads) (golden own.0) (faulty own.0)
  choice_of golden faulty agree = record {
    chosen = chosen_of golden faulty reads of.sets of.are.count (λ i lt.
        of.are.each i lt (golden (net_at reads i).0) (faulty (net_at reads i).0)
        ∙ All-contains (λ (read : NetId). q frame read.0 (golden read.0) (faulty read.0) ≡ true) (table_at s.circuit.tables k).ins (net_at reads i) agree.reads
        (All-contains (Contains (table_at s.circuit.tables k).ins) reads (net_at reads i) of.is_truth.among (contains_at reads i lt)));
    has_own = of.own_is (golden own.0) (faulty own.0) ∙ agree.own;
    golden_is = agree.golden_is ∙ of.is_truth.gives golden;
    faulty_may = ap (λ v. may_show (s.region own.0) v (faulty own.0)) (sym (of.is_truth.gives faulty)) ∙ agree.faulty_may;
  }

  takes : TakesWhatMayGo s q frame own reads left own_left
  takes = record {
    from_read = λ i lt a b gone. by_table k own of.within of.is_truth.net of.is_truth.driver (λ golden faulty agree e f.
        (let stays = of.is_left.keeps (bits_of golden reads) (bits_of faulty reads) (golden own.0) (faulty own.0) (choice_of golden faulty agree) in
        let size : i < length left = omega (arith, lt, of.is_left.count, of.are.count) in
        clash (has (set_at left i) a b)
        (ap₂ (has (set_at left i)) (sym (bit_of golden reads i lt ∙ e)) (sym (bit_of faulty reads i lt ∙ f))
        ∙ chosen_at left (bits_of golden reads) (bits_of faulty reads) i size stays.chosen) gone));
    from_own = λ a b gone. by_table k own of.within of.is_truth.net of.is_truth.driver (λ golden faulty agree e f.
        clash (has own_left a b)
        (ap₂ (has own_left) (sym e) (sym f) ∙ (of.is_left.keeps (bits_of golden reads) (bits_of faulty reads) (golden own.0) (faulty own.0) (choice_of golden faulty agree)).has_own) gone);
  }

pub sound : TablesAreSound
sound s q frame k own reads truth left own_left of = takes s q frame k own reads truth left own_left of

-- ---- from a choice to values of nets

-- the value of a net by its place among others, or another one
value_for : Bool → List NetId → List Bool → ℕ → Bool
value_for other [] bits n = other
value_for other (net ∷ nets) [] n = other
value_for other (net ∷ nets) (b ∷ bits) n = if net.0 == n then b else value_for other nets bits n

value_for_at : (other : Bool) (nets : List NetId) (bits : List Bool) → IsOnce nets → length bits ≡ length nets → (i : ℕ) → i < length nets
    → value_for other nets bits (net_at nets i).0 ≡ bit_at bits i
unfolding value_for
value_for_at other [] bits once size i lt = absurd (omega (arith, lt))
value_for_at other (net ∷ nets) [] once size i lt = absurd (omega (arith, size))
value_for_at other (net ∷ nets) (b ∷ bits) once size zero lt = rw (eq-eqb net.0 net.0 refl) refl
value_for_at other (net ∷ nets) (b ∷ bits) once size (suc i) lt =
    let ne : (net.0 == (net_at nets i).0) ≡ false =
    ne_eqb net.0 (net_at nets i).0 (λ same.
    All-contains (λ (m : NetId). m.0 ≢ net.0) nets (net_at nets i) once.0 (contains_at nets i (omega (arith, lt))) (sym same)) in
    rw ne (value_for_at other nets bits once.1 (omega (arith, size)) i (omega (arith, lt)))

-- a net is among others, or has the other value
found : (other : Bool) (nets : List NetId) (bits : List Bool) (n : ℕ) → length bits ≡ length nets
    → ((i : ℕ) × (i < length nets) × ((net_at nets i).0 ≡ n)) ⊎ (value_for other nets bits n ≡ other)
unfolding value_for
found other [] bits n size = inr refl
found other (net ∷ nets) [] n size = inr refl
found other (net ∷ nets) (b ∷ bits) n size =
    elim (cases_eq net.0 n) as (λ _. ((i : ℕ) × (i < length (net ∷ nets)) × ((net_at (net ∷ nets) i).0 ≡ n)) ⊎ (value_for other (net ∷ nets) (b ∷ bits) n ≡ other)) [
      | inl same ↦ inl (0, omega arith, same)
      | inr apart ↦ elim (found other nets bits n (omega (arith, size))) as
          (λ _. ((i : ℕ) × (i < length (net ∷ nets)) × ((net_at (net ∷ nets) i).0 ≡ n)) ⊎ (value_for other (net ∷ nets) (b ∷ bits) n ≡ other)) [
            | inl there ↦ inl (suc there.0, omega (arith, there.1), there.2)
            | inr none ↦ inr (rw (ne_eqb net.0 n apart) none)
          ]
    ]

bits_are : (values : ℕ → Bool) (nets : List NetId) (bits : List Bool) → length bits ≡ length nets
    → ((i : ℕ) → i < length nets → values (net_at nets i).0 ≡ bit_at bits i) → bits_of values nets ≡ bits
bits_are values [] [] size each = refl
bits_are values [] (b ∷ bits) size each = absurd (omega (arith, size))
bits_are values (net ∷ nets) [] size each = absurd (omega (arith, size))
bits_are values (net ∷ nets) (b ∷ bits) size each =
    ap₂ (λ x (xs : List Bool). x ∷ xs) (each 0 (omega arith)) (bits_are values nets bits (omega (arith, size)) (λ i lt. each (suc i) (omega (arith, lt))))

chosen_size : (sets : List PairSet) (golden faulty : List Bool) → AreChosen sets golden faulty → (length golden ≡ length sets) × (length faulty ≡ length sets)
chosen_size [] [] [] chosen = (refl, refl)
chosen_size [] [] (y ∷ ys) chosen = absurd chosen
chosen_size [] (x ∷ xs) [] chosen = absurd chosen
chosen_size [] (x ∷ xs) (y ∷ ys) chosen = absurd chosen
chosen_size (pairs ∷ sets) [] [] chosen = absurd chosen
chosen_size (pairs ∷ sets) [] (y ∷ ys) chosen = absurd chosen
chosen_size (pairs ∷ sets) (x ∷ xs) [] chosen = absurd chosen
chosen_size (pairs ∷ sets) (x ∷ xs) (y ∷ ys) chosen = let rest = chosen_size sets xs ys chosen.1 in (omega (arith, rest.0), omega (arith, rest.1))

all_at : (P : NetId → Type 0) (nets : List NetId) → ((i : ℕ) → i < length nets → P (net_at nets i)) → All P nets
all_at P nets each i d lt = subst P (get_or_default nets i (record { 0 = 0 }) d lt) (each i lt)

-- the value of its own net, or one of those that are read, or another one
value_of : (own : NetId) (own_value other : Bool) → List NetId → List Bool → ℕ → Bool
value_of own own_value other nets bits n = if own.0 == n then own_value else value_for other nets bits n

value_of_own : (own : NetId) (own_value other : Bool) (nets : List NetId) (bits : List Bool) → value_of own own_value other nets bits own.0 ≡ own_value
unfolding value_of
value_of_own own own_value other nets bits = rw (eq-eqb own.0 own.0 refl) refl

value_of_apart : (own : NetId) (own_value other : Bool) (nets : List NetId) (bits : List Bool) (n : ℕ) → n ≢ own.0 → value_of own own_value other nets bits n ≡ value_for other nets bits n
unfolding value_of
value_of_apart own own_value other nets bits n apart = rw (ne_eqb own.0 n (λ same. apart (sym same))) refl

module _ (s : Stretch) (q : Sets) (frame k : ℕ) (own : NetId) (reads : List NetId) (truth : ℕ) (left : List PairSet) (own_left : PairSet)
    (is : IsTruth s.circuit k own reads truth) (are : AreSetsOf q frame reads left) (own_is : IsSetOf q frame own own_left) where
  read_value : (own_value other : Bool) (bits : List Bool) → length bits ≡ length reads → (i : ℕ) → i < length reads
      → value_of own own_value other reads bits (net_at reads i).0 ≡ bit_at bits i
  read_value own_value other bits size i lt =
      value_of_apart own own_value other reads bits (net_at reads i).0 (All-contains (λ (m : NetId). m.0 ≢ own.0) reads (net_at reads i) is.apart (contains_at reads i lt))
      ∙ value_for_at other reads bits is.once size i lt

  -- values from a choice, with others elsewhere
  values_agree : (golden faulty : List Bool) (x y a b : Bool) → Agree truth (s.region own.0) left own_left golden faulty x y
      → AgreeAt s q frame k own (value_of own x a reads golden) (value_of own y b reads faulty)
  values_agree golden faulty x y a b agree = record {
    own = ap₂ (q frame own.0) (value_of_own own x a reads golden) (value_of_own own y b reads faulty) ∙ sym (own_is x y) ∙ agree.has_own;
    reads = λ i d lt. All-contains (λ (read : NetId). q frame read.0 (value_of own x a reads golden read.0) (value_of own y b reads faulty read.0) ≡ true) reads
        (get_or (table_at s.circuit.tables k).ins i d)
        (all_at (λ (read : NetId). q frame read.0 (value_of own x a reads golden read.0) (value_of own y b reads faulty read.0) ≡ true) reads (λ j less.
        ap₂ (q frame (net_at reads j).0) (read_value x a golden golden_size j less) (read_value y b faulty faulty_size j less)
        ∙ sym (are.each j less (bit_at golden j) (bit_at faulty j))
        ∙ chosen_at left golden faulty j (omega (arith, less, are.count)) agree.chosen))
        (is.whole i d lt);
    golden_is = value_of_own own x a reads golden ∙ agree.golden_is
        ∙ ap (truth_gives truth) (sym (bits_are (value_of own x a reads golden) reads golden golden_size (read_value x a golden golden_size)))
        ∙ sym (is.gives (value_of own x a reads golden));
    faulty_may = ap₂ (may_show (s.region own.0))
        (is.gives (value_of own y b reads faulty) ∙ ap (truth_gives truth) (bits_are (value_of own y b reads faulty) reads faulty faulty_size (read_value y b faulty faulty_size)))
        (value_of_own own y b reads faulty) ∙ agree.faulty_may;
  }
    where
      golden_size : length golden ≡ length reads
      golden_size = (chosen_size left golden faulty agree.chosen).0 ∙ are.count

      faulty_size : length faulty ≡ length reads
      faulty_size = (chosen_size left golden faulty agree.chosen).1 ∙ are.count

  sizes : (golden faulty : List Bool) (x y : Bool) → Agree truth (s.region own.0) left own_left golden faulty x y → (length golden ≡ length reads) × (length faulty ≡ length reads)
  sizes golden faulty x y agree = let both = chosen_size left golden faulty agree.chosen in (both.0 ∙ are.count, both.1 ∙ are.count)

pub complete : TablesAreComplete
complete s q frame k own reads truth left own_left of are own_is x y some net a b has_pair =
    elim (cases_eq net own.0) as (λ _. HasAgreeing s q frame k own net a b) [
      | inl same ↦ (
          let at = of.is_left.own_supported a b (own_is a b ∙ ap (λ n. q frame n a b) (sym same) ∙ has_pair) in
          record {
            golden = value_of own a a reads at.golden;
            faulty = value_of own b b reads at.faulty;
            agree = values_agree s q frame k own reads truth left own_left of.is_truth are own_is at.golden at.faulty a b a b at.agree;
            golden_at = ap (value_of own a a reads at.golden) same ∙ value_of_own own a a reads at.golden;
            faulty_at = ap (value_of own b b reads at.faulty) same ∙ value_of_own own b b reads at.faulty;
          })
      | inr apart ↦ (
          let any = of.is_left.own_supported x y (own_is x y ∙ some) in
          let size = sizes s q frame k own reads truth left own_left of.is_truth are own_is any.golden any.faulty x y any.agree in
          elim (found a reads any.golden net size.0) as (λ _. HasAgreeing s q frame k own net a b) [
            | inl there ↦ read_at there.0 there.1 there.2
            | inr none ↦ elim (found b reads any.faulty net size.1) as (λ _. HasAgreeing s q frame k own net a b) [
              | inl there ↦ read_at there.0 there.1 there.2
              | inr none_too ↦ record {
                golden = value_of own x a reads any.golden;
                faulty = value_of own y b reads any.faulty;
                agree = values_agree s q frame k own reads truth left own_left of.is_truth are own_is any.golden any.faulty x y a b any.agree;
                golden_at = value_of_apart own x a reads any.golden net apart ∙ none;
                faulty_at = value_of_apart own y b reads any.faulty net apart ∙ none_too;
              }
            ]
          ])
    ]
  where
    read_at : (i : ℕ) → i < length reads → (net_at reads i).0 ≡ net → HasAgreeing s q frame k own net a b
    read_at i lt same =
        let at = of.is_left.supported i a b (omega (arith, lt, are.count)) (are.each i lt a b ∙ ap (λ n. q frame n a b) same ∙ has_pair) in
        let size = sizes s q frame k own reads truth left own_left of.is_truth are own_is at.golden at.faulty at.own_golden at.own_faulty at.agree in
        record {
          golden = value_of own at.own_golden a reads at.golden;
          faulty = value_of own at.own_faulty b reads at.faulty;
          agree = values_agree s q frame k own reads truth left own_left of.is_truth are own_is at.golden at.faulty at.own_golden at.own_faulty a b at.agree;
          golden_at = ap (value_of own at.own_golden a reads at.golden) (sym same)
              ∙ read_value s q frame k own reads truth left own_left of.is_truth are own_is at.own_golden a at.golden size.0 i lt ∙ at.golden_at;
          faulty_at = ap (value_of own at.own_faulty b reads at.faulty) (sym same)
              ∙ read_value s q frame k own reads truth left own_left of.is_truth are own_is at.own_faulty b at.faulty size.1 i lt ∙ at.faulty_at;
        }
