-- What is asked of a `.subckt` line by itself.
use Rattle.std.specs.Prelude.{ℕ, Bool, false, ◌||◌, List, fold, Option, None, is_none, option_map}
use Rattle.std.specs.Option.{option_map_or, option_or}
use Rattle.fm_base.specs.Firsts.{given}
use Rattle.fm_base.specs.Names.{has_repeat}
use Rattle.blif_text.specs.declared.NetlistFault.{NetlistFault}
use Rattle.blif_text.specs.declared.NetlistKind.TheVariants.{UnknownModel, BadFormal, Unbound}
use Rattle.blif_model.specs.LineFault.{at_line}
use Rattle.blif_model.specs.ModelFault.{bound_formals, has_other}
use Rattle.blif_model.specs.Models.{Model, Instance, formal_inputs, formals, instances, model_named}
use Rattle.blif_hierarchy.specs.declared.links.LinkLines.{LinkLines}
use Rattle.blif_hierarchy.specs.declared.ports.BoundNames.{BoundNames}
use Rattle.blif_hierarchy.specs.declared.ports.Ports.{Ports}

-- the line binds a name that is no formal of the model that it names, or one formal twice
abbrev pub has_bad_formal : Option Model → Instance → Bool
has_bad_formal inner i = option_map_or (λ m. has_other (bound_formals i) (formals m)) inner false || has_repeat (bound_formals i)

-- the line leaves a formal input of the model unbound
abbrev pub has_unbound : Option Model → Instance → Bool
has_unbound inner i = option_map_or (λ m. has_other (formal_inputs m) (bound_formals i)) inner false

-- for each kind the number of the line, where it is faulty
abbrev pub links_at : Option Model → Instance → LinkLines
links_at inner i = record {
  unknown = given (is_none inner) i.line;
  formal = given (has_bad_formal inner i) i.line;
  unbound = given (has_unbound inner i) i.line;
}

-- the same, from formals that are taken once
abbrev pub links_from : ℕ → Option Ports → BoundNames → LinkLines
links_from line inner bound = record {
  unknown = given (is_none inner) line;
  formal = given (option_map_or (λ p. has_other bound.formals p.formals) inner false || bound.is_twice) line;
  unbound = given (option_map_or (λ p. has_other p.inputs bound.formals) inner false) line;
}

-- for each kind the first line
abbrev pub first_links : LinkLines → LinkLines → LinkLines
first_links a b = record {
  unknown = option_or a.unknown b.unknown;
  formal = option_or a.formal b.formal;
  unbound = option_or a.unbound b.unbound;
}

-- the first lines, with these instances behind
abbrev pub with_instances : List Model → LinkLines → List Instance → LinkLines
with_instances models first is = fold (λ f i. first_links f (links_at (model_named models i.name) i)) first is

abbrev pub no_links : LinkLines
no_links = record { unknown = None; formal = None; unbound = None }

-- the first lines of a file
abbrev pub file_links : List Model → LinkLines
file_links models = fold (λ first m. with_instances models first (instances m)) no_links models

-- the refusal: the kinds in their order
abbrev pub link_fault : LinkLines → Option NetlistFault
link_fault first =
    option_or (option_map (λ line. at_line line UnknownModel) first.unknown)
    (option_or (option_map (λ line. at_line line BadFormal) first.formal) (option_map (λ line. at_line line Unbound) first.unbound))
