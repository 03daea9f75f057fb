-- The numbers of nets, by the marks of clock names and by the numbers of names.
use Rattle.std.specs.Prelude.{◌≡◌, ℕ, ◌+◌, Bool, if◌then◌else◌, List, [], ◌∷◌, map, slice_index_or}
use Rattle.circuit.specs.declared.parts.NetId.{NetId}
use Rattle.net_names.specs.Nets.{net_id}
use Rattle.blif_model.specs.Walk.{nets_of}
use Rattle.blif_flatten.specs.declared.flat.FlatModel.{FlatModel}
use Rattle.blif_flatten.specs.declared.flat.NameId.{NameId}
use Rattle.blif_flatten.specs.Flat.{all_names}
use Rattle.blif_flatten.specs.Flattened.{flat_steps}

-- where a name is no clock name, its net has the number `next`; a clock name has that behind the last
abbrev pub numbers_from : ℕ → ℕ → List Bool → List NetId
numbers_from next last [] = []
numbers_from next last (is_clock ∷ marks) = record { 0 = if is_clock then last else next } ∷ numbers_from (if is_clock then next else next + 1) last marks

-- the number of a name's net
abbrev pub net_of_name : List NetId → NameId → NetId
net_of_name numbers name = slice_index_or numbers name.0 (record { 0 = 0 })

-- the number of each name's net
abbrev pub AreNetNumbers : FlatModel → List NetId → Type 0
AreNetNumbers f numbers = numbers ≡ map (net_id (nets_of (flat_steps f))) (all_names (flat_steps f))
