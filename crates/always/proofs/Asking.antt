-- What is asked of a plan fits it.
use Rattle.std.proofs.Common.{◌≡◌, ◌∙◌, ℕ, zero, suc, ◌+◌, ◌*◌, ◌/◌, ◌<◌, ◌≤◌, Bool, true, false, List, [], ◌∷◌, ◌++◌, length, map, refl, ap, sym, subst, arith, add-one}
use Rattle.std.specs.Prelude.{fold, Option, Some, None, nat_le, nat_lt, if◌then◌else◌, unwrap_or, slice_index, ◌==◌}
use Rattle.std.specs.List.{All}
use Rattle.std.proofs.lemmas.Bool.Decides.{nat_tests}
use Rattle.std.proofs.lemmas.List.Elements.{All-push}
use Rattle.std.proofs.lemmas.Option.{none-some}
use Rattle.alarm_points.specs.Interval.{interval_of}
use Rattle.alarm_points.specs.declared.Goal.{Goal}
use Rattle.campaign_plan.specs.Analysis.{Analysis, fault_count, fault_numbered, part_count, part_of}
use Rattle.campaign_plan.proofs.Tabled.{length_table}
use Rattle.circuit.specs.Names.{net_name}
use Rattle.always_answers.specs.Answers.{AreAnswers}
use Rattle.always_answers.specs.declared.answers.Answers.{Answers}
use Rattle.alarm_points.specs.declared.Points.{Points}
use Rattle.circuit.specs.Circuit.{Circuit}
use Rattle.circuit.specs.declared.parts.Fault.{Fault}
use Rattle.claim_search.specs.Hypotheses.{Contradict, nowhere}
use Rattle.claim_search.specs.declared.hypotheses.Contradiction.{Contradiction}
use Rattle.coverage_claim.specs.Claim.{Claim}
use Rattle.coverage_claim.specs.declared.parts.Held.{Held}
use Rattle.fault_list.proofs.Numbers.{length_faults, stuck_at}
use Rattle.fm_base.specs.Lists.{below}
use Rattle.fm_base.proofs.Below.{map-below}
use Rattle.held_inputs.specs.First.{first_cycle, later_of}
use Rattle.rate_table.specs.Table.{part_named}
use Rattle.reach.proofs.Observed.{observed_are_nets}
use Rattle.always.specs.Asked.{AskedTermsFit, asked_fault, least_interval, net_parts, shorter_of, terms_of_plan, window_asked}
use Rattle.always.specs.Verdict.{Terms}
use Rattle.always.specs.declared.asked.AskedFault.{AskedFault}
use Rattle.always.specs.declared.asked.AskedFault.TheVariants.{LongWindow}

-- ---- lists

cons_all : {A : Type 0} (P : A → Type 0) (x : A) (xs : List A) → P x → All P xs → All P (x ∷ xs)
cons_all P x xs own all zero d lt = own
cons_all P x xs own all (suc i) d lt = all i d (omega (arith, lt))

-- ---- the first cycle

step_first : (first from : ℕ) → first ≤ (if nat_le first from then from else first)
step_first first from = grind arith

step_from : (first from : ℕ) → from ≤ (if nat_le first from then from else first)
step_from first from = grind arith

is_settled : (held : List Held) (start : ℕ) → (start ≤ fold later_of start held) × All (λ (h : Held). h.from ≤ fold later_of start held) held
is_settled [] start = (omega arith, λ i d lt. absurd (omega (arith, lt)))
is_settled (h ∷ held) start =
    let rest = is_settled held (later_of start h) in (
      omega (arith, rest.0, step_first start h.from),
      cons_all (λ (other : Held). other.from ≤ fold later_of (later_of start h) held) h held (omega (arith, rest.0, step_from start h.from)) rest.1,
    )

-- ---- the least interval

step_least : (interval least : ℕ) → (if nat_lt interval least then interval else least) ≤ least
step_least interval least = grind (arith, nat_tests)

step_interval : (interval least : ℕ) → (if nat_lt interval least then interval else least) ≤ interval
step_interval interval least = grind (arith, nat_tests)

pub is_least : (ftti : ℕ) (goals : List Goal) (start : ℕ)
    → (fold (shorter_of ftti) start goals ≤ start) × All (λ goal. fold (shorter_of ftti) start goals ≤ interval_of ftti goal) goals
is_least ftti [] start = (omega arith, λ i d lt. absurd (omega (arith, lt)))
is_least ftti (goal ∷ goals) start =
    let rest = is_least ftti goals (shorter_of ftti start goal) in (
      omega (arith, rest.0, step_least (interval_of ftti goal) start),
      cons_all (λ other. fold (shorter_of ftti) (shorter_of ftti start goal) goals ≤ interval_of ftti other) goal goals
          (omega (arith, rest.0, step_interval (interval_of ftti goal) start)) rest.1,
    )

-- a window that isn't refused is at most the least interval
window_short : (none long : Bool) (first second : AskedFault) → (if none then Some first else if long then Some second else None) ≡ None → long ≡ false
window_short true long first second e = absurd (none-some first (sym e))
window_short false true first second e = absurd (none-some second (sym e))
window_short false false first second e = refl

pub window_fits : (p : Analysis) (given : Option ℕ) → asked_fault p given ≡ None → window_asked p given ≤ least_interval p
window_fits p given e =
    let least = least_interval p in
    let window = window_asked p given in
    let short : nat_lt least window ≡ false = window_short (length p.points.alarm == 0) (nat_lt least window) _ (LongWindow window least) e in
    grind (arith, nat_tests, short)

pub fits : AskedTermsFit
fits p order plan ordered held given ahead e = record {
  netlist = plan.netlist;
  order = order;
  ordered = ordered;
  nets = observed_are_nets p.circuit p.points.goals plan.points.goals;
  settled = (is_settled held 0).1;
  fits = λ i d lt. omega (arith, window_fits p given e, (is_least p.settings.ftti p.points.goals 8).1 i d lt);
}

-- a window that isn't given has at most 8 cycles
pub window_small : (p : Analysis) (given : Option ℕ) → ((window : ℕ) → given ≡ Some window → window ≤ 8) → window_asked p given ≤ 8
window_small p None small = (is_least p.settings.ftti p.points.goals 8).0
window_small p (Some window) small = small window refl

-- ---- the parts of nets

-- the number of a net's part
abbrev pub part_at : Analysis → ℕ → ℕ
part_at p net = unwrap_or (part_named p.rates (net_name p.circuit net)) 0

-- the stuck-at-0 fault of a net is in the list, and is of the net's part
pub stuck_listed : (p : Analysis) (net : ℕ) → net < length p.circuit.drivers → 2 * net < fault_count p
stuck_listed p net lt =
    let size = length_faults (length p.circuit.drivers) (length p.circuit.latches) p.settings.flips p.settings.pulses in
    omega (arith, size, lt)

half : (net : ℕ) → 2 * net / 2 ≡ net
half net = grind arith

pub stuck_part : (p : Analysis) (net : ℕ) → net < length p.circuit.drivers → part_of p (fault_numbered p (2 * net)) ≡ part_at p net
stuck_part p net lt =
    ap (part_of p) (stuck_at (length p.circuit.drivers) (length p.circuit.latches) p.settings.flips p.settings.pulses (2 * net) (omega (arith, lt)))
    ∙ ap (part_at p) (half net)

-- the numbers of the parts of the first nets
abbrev pub AreParts : Analysis → ℕ → List ℕ → Type 0
AreParts p count parts = (parts ≡ map (part_at p) (below count)) × All (λ part. part < part_count p) parts

pub no_parts : (p : Analysis) → AreParts p 0 []
unfolding below
no_parts p = (refl, λ i d lt. absurd (omega (arith, lt)))

pub parts_more : (p : Analysis) (net part : ℕ) (parts : List ℕ) → AreParts p net parts → net < length p.circuit.drivers
    → part ≡ part_of p (fault_numbered p (2 * net)) → part < part_count p → AreParts p (net + 1) (parts ++ part ∷ [])
parts_more p net part parts are lt is within =
    let here : part ≡ part_at p net = is ∙ stuck_part p net lt in (
      ap (λ all. all ++ part ∷ []) are.0 ∙ ap (λ one. map (part_at p) (below net) ++ one ∷ []) here
          ∙ sym (ap (λ k. map (part_at p) (below k)) (add-one net) ∙ map-below (part_at p) net),
      All-push (λ number. number < part_count p) parts part are.1 within,
    )

-- ---- what is answered

-- a claim of these, where nothing is done anywhere
abbrev pub claim_with : Circuit → Points → Terms → Claim
claim_with c points terms = record {
  circuit = c;
  points = points;
  held = terms.held;
  from = terms.from;
  region = nowhere;
  window = terms.window;
  ahead = terms.ahead;
  apart = λ latch golden faulty. true;
}

module _ (c d : Circuit) (points own : Points) (asked terms : Terms) (circuit_is : c ≡ d) (points_are : points ≡ own) (terms_are : asked ≡ terms) where
  -- what is so of the claim that is asked is so of the plan's
  claim_as : (P : Claim → Type 0) → P (claim_with c points asked) → P (claim_with d own terms)
  claim_as P h =
      subst (λ x. P (claim_with d own x)) terms_are (subst (λ x. P (claim_with d x asked)) points_are (subst (λ x. P (claim_with x points asked)) circuit_is h))

  pub right_as : (faults all : List Fault) (parts numbers : List ℕ) (count many : ℕ) (answers : Answers) → faults ≡ all → parts ≡ numbers → count ≡ many
      → AreAnswers (claim_with c points asked) faults (slice_index parts) count answers → AreAnswers (claim_with d own terms) all (slice_index numbers) many answers
  right_as faults all parts numbers count many answers faults_are parts_are count_is right =
      subst (λ x. AreAnswers (claim_with d own terms) all (slice_index numbers) x answers) count_is
      (subst (λ x. AreAnswers (claim_with d own terms) all (slice_index x) count answers) parts_are
      (subst (λ x. AreAnswers (claim_with d own terms) x (slice_index parts) count answers) faults_are
      (claim_as (λ claim. AreAnswers claim faults (slice_index parts) count answers) right)))

  pub contradict_as : (why : Contradiction) → Contradict (claim_with c points asked) why → Contradict (claim_with d own terms) why
  contradict_as why holds = claim_as (λ claim. Contradict claim why) holds

-- what is asked by an inquiry is what is asked of a plan
pub terms_same : (p : Analysis) (held : List Held) (given : Option ℕ) (ahead from window : ℕ) → from ≡ first_cycle held → window ≡ window_asked p given
    → ◌≡◌ {A = Terms} (record { held = held; from = from; window = window; ahead = ahead }) (terms_of_plan p held given ahead)
terms_same p held given ahead from window from_is window_is = λ i. record { held = held; from = from_is i; window = window_is i; ahead = ahead }

-- there is a number for each net
pub parts_long : (p : Analysis) (parts : List ℕ) → parts ≡ net_parts p → length parts ≡ length p.circuit.drivers
parts_long p parts is = length_table (part_at p) (length p.circuit.drivers) parts is
