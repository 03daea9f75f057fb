-- Names that are taken once, in place of all, and the faults of bindings.
use Rattle.std.proofs.Common.{◌≡◌, ℕ, Bool, true, false, cond, not, ◌||◌, List, [], ◌∷◌, ◌++◌, refl, ap, ap₂, sym, ◌∙◌, flat_map, fold, map, option_map, is_none, is_some, arith}
use Rattle.std.specs.Prelude.{Option, Some, None, bytes_eq}
use Rattle.std.specs.List.{list_any}
use Rattle.std.specs.Option.{option_or}
use mathlib.Core.Path.{fun_ext}
use Rattle.std.proofs.lemmas.Bool.Decides.{nat_tests}
use Rattle.std.proofs.lemmas.Grind.{common_steps}
use Rattle.std.proofs.lemmas.List.Folds.{Any-from_list_any, list_any-append, list_any-from_Any}
use Rattle.std.proofs.Math.Bool.{or-false, or_assoc}
use Rattle.fm_base.specs.Firsts.{first_answer, first_where, given}
use Rattle.fm_base.specs.Index.{with_name}
use Rattle.fm_base.specs.Names.{Name, is_one_of, has_repeat}
use Rattle.fm_base.proofs.Distinct.{same_name, bytes_eq-sym}
use Rattle.fm_base.proofs.Finding.{list_any-map}
use Rattle.fm_base.proofs.Options.{none_from, or_none, or_assoc as options_assoc}
use Rattle.blif_text.specs.declared.NetlistFault.{NetlistFault}
use Rattle.blif_text.specs.declared.NetlistKind.{NetlistKind}
use Rattle.blif_text.specs.declared.NetlistKind.TheVariants.{UnknownModel, BadFormal, Unbound}
use Rattle.blif_text.specs.declared.token.Token.{Token}
use Rattle.blif_model.specs.Grouped.{model_of}
use Rattle.blif_model.specs.LineFault.{Said, at_line}
use Rattle.blif_model.specs.Meant.{bindings_of}
use Rattle.blif_model.specs.ModelFault.{bad_formal, bound_formals, first_instance, has_other, unbound, unknown_model}
use Rattle.blif_model.specs.Models.{Model, Instance, formal_inputs, formals, instances, items_of, model_named}
use Rattle.blif_model.specs.ModelSteps.{formal_names, port_names}
use Rattle.blif_model.specs.Statement.{Statement}
use Rattle.blif_model.specs.Tokens.{texts_of}
use Rattle.blif_model.specs.declared.models.ModelLines.{ModelLines}
use Rattle.blif_hierarchy.specs.declared.links.LinkLines.{LinkLines}
use Rattle.blif_hierarchy.specs.declared.ports.BoundNames.{BoundNames}
use Rattle.blif_hierarchy.specs.declared.ports.Ports.{Ports}
use Rattle.blif_hierarchy.specs.Links.{file_links, first_links, has_bad_formal, has_unbound, link_fault, links_at, links_from, no_links, with_instances}
use Rattle.blif_hierarchy.specs.Ports.{bound_in, once, ports_among, ports_of}

-- for sets of names that are seen as lists of them
pub ruleset name_steps = (list_any-map)

-- ---- names, each once

-- a test passes one of the names where it passes one of them, each taken once
taken_passes : (p : Name → Bool) (seen : List Name) (x : Name) → list_any p (with_name seen x) ≡ (list_any p seen || p x)
taken_passes p seen x = by_cases (is_one_of seen x) (p x) refl refl
  where
    by_cases : (known passes : Bool) → is_one_of seen x ≡ known → p x ≡ passes
        → list_any p (cond known seen (seen ++ x ∷ [])) ≡ (list_any p seen || passes)
    by_cases true true e f =
        let w = Any-from_list_any (bytes_eq x) seen e in
        rw (list_any-from_Any p seen (w.0, w.1, w.2, w.3, ap p (sym (same_name x w.1 w.4)) ∙ f)) refl
    by_cases true false e f = sym (or-false (list_any p seen))
    by_cases false passes e f = list_any-append p seen (x ∷ []) ∙ ap (λ b. list_any p seen || b) (or-false (p x) ∙ f)

pub once_passes : (p : Name → Bool) (names : List Name) → list_any p (once names) ≡ list_any p names
once_passes p names = from [] names
  where
    from : (seen more : List Name) → list_any p (fold with_name seen more) ≡ (list_any p seen || list_any p more)
    from seen [] = sym (or-false (list_any p seen))
    from seen (x ∷ more) =
        from (with_name seen x) more ∙ ap (λ b. b || list_any p more) (taken_passes p seen x)
        ∙ or_assoc (list_any p seen) (p x) (list_any p more)

other_once : (names others : List Name) → has_other (once names) (once others) ≡ has_other names others
other_once names others =
    once_passes (λ (x : Name). not (is_one_of (once others) x)) names
    ∙ ap (λ (test : Name → Bool). list_any test names) (fun_ext (λ (x : Name). ap not (once_passes (bytes_eq x) others)))

pub repeat-snoc : (names : List Name) (x : Name) → has_repeat (names ++ x ∷ []) ≡ (has_repeat names || is_one_of names x)
repeat-snoc [] x = refl
repeat-snoc (a ∷ names) x =
    rw (list_any-append (bytes_eq a) names (x ∷ []), repeat-snoc names x, bytes_eq-sym a x) (grind (arith, nat_tests))

-- ---- formals

-- the formals that tokens bind
abbrev pub formals_at : List Token → List Name
formals_at tokens = map (λ binding. binding.formal) (bindings_of (texts_of tokens))

pub twice_more : (names : List Name) (x : Name) → has_repeat (names ++ x ∷ []) ≡ (has_repeat names || is_one_of (once names) x)
twice_more names x = repeat-snoc names x ∙ ap (λ b. has_repeat names || b) (sym (once_passes (bytes_eq x) names))

-- the formals that the lines of a model bring
line_names : (own : Statement → List Name) (lines : List Said)
    → flat_map (λ line. own line.says) lines ≡ flat_map (λ item. own item.says) (items_of lines)
unfolding items_of
line_names own [] = refl
line_names own (line ∷ lines) = ap (λ (names : List Name). own line.says ++ names) (line_names own lines)

pub line_ports : (m : ModelLines) → ports_among m.items.now ≡ ports_of (model_of m)
unfolding formals formal_inputs
line_ports m =
    ap₂ (λ (all inputs : List Name). let ports : Ports = record { formals = once all; inputs = once inputs } in ports)
    (line_names port_names m.items.now) (line_names formal_names m.items.now)

-- for the step of a loop over models
pub ruleset port_steps = (common_steps, line_ports)

-- ---- the faults of a line and of a file

-- the faults of a line, from formals that are taken once
pub links_are : (i : Instance) (found : Option Model) (inner : Option Ports) (bound : BoundNames)
    → inner ≡ option_map ports_of found → bound ≡ bound_in (bound_formals i) → links_from i.line inner bound ≡ links_at found i
links_are i None inner bound e f = ap₂ (links_from i.line) e f
links_are i (Some m) inner bound e f =
    ap₂ (links_from i.line) e f ∙ rw (other_once (bound_formals i) (formals m), other_once (formal_inputs m) (bound_formals i)) refl

pub or_given : (kind : NetlistKind) (o : Option ℕ) (b : Bool) (line : ℕ)
    → option_map (λ n. at_line n kind) (option_or o (given b line))
    ≡ option_or (option_map (λ n. at_line n kind) o) (given b (at_line line kind))
or_given kind (Some n) b line = refl
or_given kind None true line = refl
or_given kind None false line = refl

-- the first answer, where each item is put behind those before
fold_first : {X Y Z : Type 0} (found : Z → Option Y) (step : Z → X → Z) (answer : X → Option Y)
    → ((z : Z) (x : X) → found (step z x) ≡ option_or (found z) (answer x))
    → (z : Z) (xs : List X) → found (fold step z xs) ≡ option_or (found z) (first_where answer xs)
unfolding first_where
fold_first found step answer each z [] = sym (or_none (found z))
fold_first found step answer each z (x ∷ xs) =
    fold_first found step answer each (step z x) xs ∙ ap (λ o. option_or o (first_where answer xs)) (each z x)
    ∙ options_assoc (found z) (answer x) (first_where answer xs)

first_link : (models : List Model) (kind : NetlistKind) (line : LinkLines → Option ℕ) (test : Instance → Bool)
    → ((f : LinkLines) (i : Instance) → line (first_links f (links_at (model_named models i.name) i))
    ≡ option_or (line f) (given (test i) i.line))
    → line no_links ≡ None → option_map (λ n. at_line n kind) (line (file_links models)) ≡ first_instance models (λ m i. test i) kind
first_link models kind line test each none =
    let fault : Option ℕ → Option NetlistFault = option_map (λ n. at_line n kind) in
    let answer : Instance → Option NetlistFault = λ i. given (test i) (at_line i.line kind) in
    fold_first (λ first. fault (line first)) (λ first m. with_instances models first (instances m)) (λ m. first_where answer (instances m))
    (λ first m. fold_first (λ f. fault (line f)) (λ f i. first_links f (links_at (model_named models i.name) i)) answer
    (λ f i. ap fault (each f i) ∙ or_given kind (line f) (test i) i.line) first (instances m)) no_links models
    ∙ ap (λ (o : Option ℕ). option_or (fault o) (first_instance models (λ m i. test i) kind)) none

pub link_faults : (models : List Model)
    → link_fault (file_links models) ≡ first_answer (unknown_model models ∷ bad_formal models ∷ unbound models ∷ [])
unfolding unknown_model bad_formal unbound formals formal_inputs
link_faults models =
    rw (
      first_link models UnknownModel (λ (l : LinkLines). l.unknown) (λ i. is_none (model_named models i.name)) (λ f i. refl) refl,
      first_link models BadFormal (λ (l : LinkLines). l.formal) (λ i. has_bad_formal (model_named models i.name) i) (λ f i. refl) refl,
      first_link models Unbound (λ (l : LinkLines). l.unbound) (λ i. has_unbound (model_named models i.name) i) (λ f i. refl) refl,
      or_none (first_instance models (λ m i. has_unbound (model_named models i.name) i) Unbound),
    ) refl

-- what is found first goes before the rest
pub stop : {Y : Type 0} (found x rest : Option Y) → found ≡ x → is_some found ≡ true → found ≡ option_or x rest
stop None x rest e h = cc
stop (Some y) None rest e h = cc
stop (Some y) (Some z) rest e h = e

-- where nothing is found, the rest decides
pub skip : {Y : Type 0} (found x rest : Option Y) → found ≡ x → is_some found ≡ false → rest ≡ option_or x rest
skip found x rest e h = ap (λ o. option_or o rest) (sym (none_from found h) ∙ e)
