-- The texts of a dump, piece by piece.
use Rattle.std.proofs.Common.{◌≡◌, refl, ℕ, [], ◌∷◌, ◌++◌, append_assoc, length}
use Rattle.std.specs.Prelude.{codes}
use Rattle.std.specs.List.{flat_map}
use Rattle.fm_base.specs.Lists.{below}
use Rattle.fm_base.specs.Names.{Bytes}
use Rattle.fm_base.specs.Text.{line}
use Rattle.workload.specs.Runs.{cycles_of}
use Rattle.wave_dump.specs.Dump.{Waves, cycle_values, declared_scope, dump_text, moment, scope_count, scope_name, scope_values}
use Rattle.wave_dump.specs.Steps.{value_text, wire_line}

scope_shape : (name wires : Bytes)
    → (codes "$scope module " ++ (name ++ codes " $end\n")) ++ (wires ++ codes "$upscope $end\n")
    ≡ line (codes "$scope module" ∷ name ∷ codes "$end" ∷ []) ++ wires ++ line (codes "$upscope $end" ∷ [])
scope_shape name wires = simp append_assoc refl

pub scope_pieces : (w : Waves) (scope : ℕ)
    → (codes "$scope module " ++ (scope_name scope ++ codes " $end\n")) ++ (flat_map (wire_line w scope) (below (length w.nets)) ++ codes "$upscope $end\n")
    ≡ declared_scope w scope
unfolding declared_scope
scope_pieces w scope = scope_shape (scope_name scope) (flat_map (wire_line w scope) (below (length w.nets)))

pub scope_values_are : (w : Waves) (t scope : ℕ) → flat_map (value_text w t scope) (below (length w.nets)) ≡ scope_values w t scope
unfolding scope_values
scope_values_are w t scope = refl

pub cycle_is : (w : Waves) (t : ℕ) → moment t ++ flat_map (scope_values w t) (below (scope_count w)) ≡ cycle_values w t
unfolding cycle_values
cycle_is w t = refl

pub dump_is : (w : Waves)
    → codes "$version fmeda trace $end\n$timescale 1 ns $end\n"
    ++ (flat_map (declared_scope w) (below (scope_count w))
    ++ (codes "$enddefinitions $end\n" ++ (flat_map (cycle_values w) (below (cycles_of w.run)) ++ moment (cycles_of w.run))))
    ≡ dump_text w
unfolding dump_text
dump_is w = simp append_assoc refl
