-- What the writer puts together is the text.
use Rattle.std.proofs.Common.{◌≡◌, ℕ, Bool, List, [], ◌∷◌, ◌++◌, append_assoc, ap, sym, refl}
use Rattle.std.specs.Prelude.{codes, decimal, flat_map, if◌then◌else◌}
use Rattle.always_answers.specs.declared.answers.PartAnswer.{PartAnswer}
use Rattle.campaign_plan.specs.Analysis.{Analysis, fault_count, fault_numbered, part_count, part_numbered}
use Rattle.campaign_plan.specs.Weights.{weight}
use Rattle.circuit.specs.Circuit.{Circuit}
use Rattle.fault_list.specs.Faults.{fault_name}
use Rattle.fm_base.specs.Lists.{below}
use Rattle.fm_base.specs.Names.{Bytes}
use Rattle.fm_base.specs.Text.{line}
use Rattle.always.specs.Steps.{head_of, is_named, metrics_of, names_of, part_by}
use Rattle.always.specs.Tally.{tally_below}
use Rattle.always.specs.Text.{always_with, assumes_line, held_line, least_lines, named_line, part_answer, part_line, sizes_line, terms_lines, window_line}
use Rattle.claim_laws.specs.Metrics.{open_sums}
use Rattle.always.specs.Verdict.{Terms, is_covered, is_covered_later}
use Rattle.always.specs.declared.verdict.Verdict.{Verdict}
use Rattle.always.specs.declared.verdict.Verdict.TheVariants.{Early, Open}

pub part_is : (p : Analysis) (verdict : ℕ → Verdict) (answer : PartAnswer) (k : ℕ)
    → part_by (part_numbered p k) answer (tally_below p verdict k (fault_count p)) ≡ part_line p verdict answer k
unfolding part_line
part_is p verdict answer k = refl

pub terms_are : (c : Circuit) (terms : Terms) → (flat_map (held_line c) terms.held ++ window_line terms.window terms.ahead) ++ assumes_line terms.from ≡ terms_lines c terms
unfolding terms_lines
terms_are c terms = simp append_assoc refl

pub named_is : (p : Analysis) (verdict : ℕ → Verdict) (kind : Verdict) (word : Bytes) (i : ℕ) (b : Bool) → is_named p (verdict i) kind i ≡ b
    → (if b then line (word ∷ fault_name p.circuit (fault_numbered p i) ∷ decimal (weight p i) ∷ []) else []) ≡ named_line p verdict kind word i
unfolding named_line
named_is p verdict kind word i b e = ap (λ t. if t then line (word ∷ fault_name p.circuit (fault_numbered p i) ∷ decimal (weight p i) ∷ []) else []) (sym e)

eight : (t s m q k l e o d : Bytes) → (((((t ++ s) ++ m) ++ q) ++ (k ++ l)) ++ ((e ++ o) ++ d)) ≡ (((((((t ++ s) ++ m) ++ q) ++ k) ++ l) ++ e) ++ o) ++ d
eight t s m q k l e o d = simp append_assoc refl

abbrev pub parts_of : Analysis → (ℕ → Verdict) → List PartAnswer → Bytes
parts_of p verdict parts = flat_map (λ k. part_line p verdict (part_answer parts k) k) (below (part_count p))

pub whole_is : (p : Analysis) (terms : Terms) (verdict : ℕ → Verdict) (parts : List PartAnswer)
    → ((head_of p terms ++ parts_of p verdict parts) ++ metrics_of p terms.from verdict) ++ names_of p verdict ≡ always_with p terms verdict parts
unfolding always_with
whole_is p terms verdict parts =
    eight (line (codes "fmeda-always" ∷ codes "1" ∷ [])) (sizes_line p) (terms_lines p.circuit terms) (parts_of p verdict parts)
    (least_lines p.settings.asil 0 (open_sums p (λ i. is_covered (verdict i)))) (least_lines p.settings.asil terms.from (open_sums p (λ i. is_covered_later (verdict i))))
    (flat_map (named_line p verdict Early (codes "early")) (below (fault_count p))) (flat_map (named_line p verdict Open (codes "open")) (below (fault_count p))) (line (codes "end" ∷ []))

pub head_is : (p : Analysis) (terms : Terms) → (line (codes "fmeda-always" ∷ codes "1" ∷ []) ++ sizes_line p) ++ terms_lines p.circuit terms ≡ head_of p terms
head_is p terms = simp append_assoc refl

pub names_are : (p : Analysis) (verdict : ℕ → Verdict)
    → (flat_map (named_line p verdict Early (codes "early")) (below (fault_count p)) ++ flat_map (named_line p verdict Open (codes "open")) (below (fault_count p))) ++ line (codes "end" ∷ [])
    ≡ names_of p verdict
names_are p verdict = simp append_assoc refl
