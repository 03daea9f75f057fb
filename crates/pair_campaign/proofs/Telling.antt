-- The text by planes is that of the pairs.
use Rattle.std.proofs.Common.{◌≡◌, ℕ, ◌/◌, ◌%◌, ◌<◌, ◌&&◌, Bool, true, List, ◌++◌, length, get_or, ap, ap₂, sym, subst, ◌∙◌, arith}
use Rattle.std.proofs.lemmas.List.FromFn.{get_or-map-range_with_len}
use Rattle.fm_base.specs.Lists.{below}
use Rattle.fm_base.specs.Planes.{bit}
use Rattle.fm_base.proofs.Bits.{bit-plane_of}
use Rattle.fault_list.specs.Faults.{batches_for, fault_number, is_used}
use Rattle.campaign_plan.specs.Analysis.{Analysis}
use Rattle.result_file.specs.RowPlanes.{Planes}
use Rattle.pair_list.specs.Pairs.{pairs}
use Rattle.pair_list.specs.Chosen.{Chosen, chosen, pair_count, pair_numbered}
use Rattle.pair_campaign.specs.Together.{is_dangerous_pair}
use Rattle.pair_campaign.specs.PairPlanes.{pair_plane, pair_planes, pair_bit}
use Rattle.pair_campaign.specs.PairText.{pair_line, pairs_line, pairs_text, text_by_planes}
use Rattle.pair_campaign.specs.Laws.{AllPairsAreTold}
use Rattle.pair_campaign.proofs.TrueRows.{all_true}
use Rattle.pair_campaign.proofs.ByBits.{bits_from, pieces, counted}

-- the bit of a pair is its danger
pub bit_is : (p : Analysis) (c : Chosen) (n : ℕ) → n < pair_count c → pair_bit (pair_planes p c) n ≡ is_dangerous_pair p (pair_numbered c n)
unfolding pair_planes below
bit_is p c n lt =
    let q : ℕ = n / 64 in
    let k : ℕ = n % 64 in
    let within : q < batches_for (pair_count c) = omega (arith, lt) in
    let plane : get_or (pair_planes p c) q 0 ≡ pair_plane p c q = get_or-map-range_with_len (pair_plane p c) 0 (batches_for (pair_count c)) q q 0 within (omega arith) in
    let lane : k < 64 = omega arith in
    let whole : fault_number q k ≡ n = omega arith in
    let used : is_used (pair_count c) q k ≡ true = grind (arith, whole, lt) in
    ap (λ word. bit word k) plane
    ∙ bit-plane_of (λ l. is_used (pair_count c) q l && is_dangerous_pair p (pair_numbered c (fault_number q l))) k lane
    ∙ ap (λ b. b && is_dangerous_pair p (pair_numbered c (fault_number q k))) used
    ∙ ap (λ m. is_dangerous_pair p (pair_numbered c m)) whole

told : (p : Analysis) (planes : Planes) → text_by_planes p (chosen p planes) (pair_planes p (chosen p planes)) ≡ pairs_text p planes
unfolding text_by_planes pairs_text below
told p planes =
    let c : Chosen = chosen p planes in
    let all : List (ℕ × ℕ) = pairs p planes in
    let bits : ℕ → Bool = pair_bit (pair_planes p c) in
    let are = bits_from (is_dangerous_pair p) bits (pair_numbered c) (0, 0) 0 all
    (λ i j lt e. (let same : i ≡ j = omega (arith, e) in
    let lower : j < pair_count c = subst (λ k. k < pair_count c) same lt in
    (ap (pair_numbered c) (sym same), bit_is p c j lower ∙ ap (λ m. is_dangerous_pair p (pair_numbered c m)) (sym same)))) in
    ap₂ (λ lines many. lines ++ pairs_line (length all) many)
    (pieces (is_dangerous_pair p) bits (pair_numbered c) (0, 0) (pair_line p) 0 all are)
    (counted (is_dangerous_pair p) bits (pair_numbered c) (0, 0) 0 all are)

pub all_told : AllPairsAreTold
all_told p = record {
  told = told p;
  truly = λ rows hold are. ap (pairs_text p) (all_true p rows hold are);
}
