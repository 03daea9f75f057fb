-- The row of a fault, by what is kept of it.
use Rattle.std.proofs.Common.{◌≡◌, ℕ, ◌+◌, ◌/◌, ◌%◌, ◌<◌, Bool, ◌&&◌, [], ◌∷◌, ◌++◌, length, map, Option, Some, None, option_map, option_and_then, decimal, codes, refl, ap, ap₂, sym, ◌∙◌, arith, take_all}
use Rattle.std.specs.Prelude.{unwrap_or}
use Rattle.std.specs.List.{flat_map}
use Rattle.std.proofs.lemmas.Bool.{lt-ltb}
use Rattle.circuit.specs.declared.parts.Fault.{Fault}
use Rattle.fm_base.specs.Names.{Bytes}
use Rattle.fm_base.specs.Planes.{bit}
use Rattle.fm_base.proofs.Bits.{bit-plane_of}
use Rattle.fault_list.specs.Faults.{fault_at, fault_name, fault_number, is_used}
use Rattle.fault_list.proofs.Numbers.{lane_back}
use Rattle.campaign_plan.specs.Analysis.{Analysis, all_faults, fault_count, fault_numbered}
use Rattle.campaign_plan.specs.Batches.{class_of_fault, class_with, outcome_of, true_planes}
use Rattle.campaign_plan.specs.Danger.{is_dangerous, is_noticed}
use Rattle.first_cycles.specs.Shown.{danger_by, if_at_most, interval_by, notice_by, shown_in, shown_of}
use Rattle.first_cycles.proofs.Dangers.{danger_shown}
use Rattle.first_cycles.proofs.Notices.{notice_shown}
use Rattle.metric_sums.specs.Words.{class_word}
use Rattle.campaign_tables.specs.Csv.{csv_field, csv_row}
use Rattle.campaign_tables.specs.Words.{bit_word}
use Rattle.campaign_tables.proofs.Quoting.{after_comma, joined, next_same}
use Rattle.readings.specs.Latencies.{Sighting, alarm_point, alarmed, is_excited, latency_row, least_interval, reached}
use Rattle.readings.specs.Laws.{SightingsAreShown}
use Rattle.latency_table.specs.declared.latency.Latency.{Latency}
use Rattle.latency_table.specs.declared.latency.Sighting.{Sighting as Kept}
use Rattle.latency_table.specs.Fields.{cycle_word, fields_of, point_word, row_of, run_word}
use Rattle.latency_table.specs.Latency.{IsLatencyFor, shown_first, sighting_of}

-- ---- the class

-- the bit of a fault in a plane of its batch
lane_test : (p : Analysis) (i : ℕ) (test : Fault → Bool) → i < fault_count p
    → (is_used (fault_count p) (i / 64) (i % 64) && test (fault_at (all_faults p) (fault_number (i / 64) (i % 64)))) ≡ test (fault_numbered p i)
lane_test p i test lt =
    let back = lane_back i in
    ap₂ (λ used n. used && test (fault_at (all_faults p) n)) (lt-ltb (fault_number (i / 64) (i % 64)) (fault_count p) (omega (arith, back, lt))) back

danger_bit : (p : Analysis) (i : ℕ) → i < fault_count p
    → bit (true_planes p (i / 64)).danger (i % 64) ≡ is_dangerous p.circuit p.points p.settings.ftti p.runs (fault_numbered p i ∷ [])
unfolding outcome_of
danger_bit p i lt =
    let lane : i % 64 < 64 = omega arith in
    bit-plane_of _ (i % 64) lane ∙ lane_test p i (λ f. is_dangerous p.circuit p.points p.settings.ftti p.runs (f ∷ [])) lt

notice_bit : (p : Analysis) (i : ℕ) → i < fault_count p
    → bit (true_planes p (i / 64)).noticed (i % 64) ≡ is_noticed p.circuit p.points p.runs (fault_numbered p i ∷ [])
unfolding outcome_of
notice_bit p i lt =
    let lane : i % 64 < 64 = omega arith in
    bit-plane_of _ (i % 64) lane ∙ lane_test p i (λ f. is_noticed p.circuit p.points p.runs (f ∷ [])) lt

-- the runs are all of them
all_shown : (p : Analysis) (f : Fault) → shown_first p.circuit p.runs (f ∷ []) (length p.runs) ≡ shown_of p f
all_shown p f = ap (map (shown_in p.circuit (f ∷ []))) (take_all (length p.runs) p.runs (omega arith))

class_same : (p : Analysis) (i : ℕ) (l : Latency) → i < fault_count p → IsLatencyFor p i l
    → class_with p i l.dangerous l.noticed ≡ class_of_fault p (true_planes p) i
class_same p i l lt kept =
    let f = fault_numbered p i in
    let danger : l.dangerous ≡ bit (true_planes p (i / 64)).danger (i % 64) =
    kept.dangerous ∙ ap (λ shown. danger_by p.points p.settings.ftti shown) (all_shown p f)
    ∙ sym (danger_bit p i lt ∙ danger_shown p.circuit p.points p.settings.ftti p.runs (f ∷ [])) in
    let notice : l.noticed ≡ bit (true_planes p (i / 64)).noticed (i % 64) =
    kept.noticed ∙ ap (λ shown. notice_by p.points shown) (all_shown p f)
    ∙ sym (notice_bit p i lt ∙ notice_shown p.circuit p.points p.runs (f ∷ [])) in
    ap₂ (class_with p i) danger notice
    ∙ ap (λ n. class_with p n (bit (true_planes p (i / 64)).danger (i % 64)) (bit (true_planes p (i / 64)).noticed (i % 64))) (sym (lane_back i))

-- ---- the words

abbrev dash : Option Bytes → Bytes
dash text = unwrap_or text (codes "-")

run_same : (kept : Option Kept) → run_word kept ≡ dash (option_map (λ (s : Sighting). decimal (s.run + 1)) (sighting_of kept))
run_same None = refl
run_same (Some s) = refl

cycle_same : (kept : Option Kept) → cycle_word kept ≡ dash (option_map (λ (s : Sighting). decimal s.cycle) (sighting_of kept))
cycle_same None = refl
cycle_same (Some s) = refl

-- ---- THE ROW

-- a row, from its first field, the fields with a comma before each, and the line feed
pub row_whole : (p : Analysis) (i : ℕ) (excited : Bool) (l : Latency)
    → (csv_field (fault_name p.circuit (fault_numbered p i)) ++ flat_map after_comma (fields_of p i excited l)) ++ 10 ∷ [] ≡ row_of p i excited l
row_whole p i excited l = ap (λ t. t ++ 10 ∷ []) (sym (joined (fault_name p.circuit (fault_numbered p i)) (fields_of p i excited l)))

pub row_is : (p : Analysis) (i : ℕ) (excited : Bool) (l : Latency) → i < fault_count p → SightingsAreShown p (fault_numbered p i)
    → least_interval p (fault_numbered p i) ≡ if_at_most 4096 (interval_by p.points (shown_of p (fault_numbered p i)))
    → excited ≡ is_excited p (fault_numbered p i) → IsLatencyFor p i l → row_of p i excited l ≡ latency_row (least_interval p) p i
unfolding latency_row
row_is p i excited l lt sightings interval is kept =
    ap csv_row (ap (λ fields. fault_name p.circuit f ∷ fields)
    (next_same refl (next_same (ap class_word (class_same p i l lt kept)) (next_same refl (next_same (ap bit_word is)
    (next_same (run_same l.reached ∙ ap (λ o. dash (option_map (λ (s : Sighting). decimal (s.run + 1)) o)) reach)
    (next_same (cycle_same l.reached ∙ ap (λ o. dash (option_map (λ (s : Sighting). decimal s.cycle) o)) reach)
    (next_same (run_same l.alarmed ∙ ap (λ o. dash (option_map (λ (s : Sighting). decimal (s.run + 1)) o)) alarm)
    (next_same (cycle_same l.alarmed ∙ ap (λ o. dash (option_map (λ (s : Sighting). decimal s.cycle) o)) alarm)
    (next_same (ap (point_word p.circuit) point)
    (ap (λ o. dash (option_map decimal o) ∷ []) (ap (if_at_most 4096) (kept.interval ∙ ap (interval_by p.points) (all_shown p f)) ∙ sym interval))))))))))))
  where
    f : Fault
    f = fault_numbered p i

    reach : sighting_of l.reached ≡ reached p f
    reach = kept.reached ∙ sym sightings.reach

    alarm : sighting_of l.alarmed ≡ alarmed p f
    alarm = kept.alarmed ∙ sym sightings.alarm

    point : l.point ≡ alarm_point p f
    point = kept.point ∙ sym (sightings.point ∙ ap (option_and_then _) sightings.alarm)
