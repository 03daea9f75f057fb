-- What a dump tells: the value that is printed last of a variable is its value.
use Rattle.std.specs.Prelude.{◌≡◌, ℕ, zero, suc, ◌<◌, ◌^◌, Bool, Option, Some, slice_index}
use Rattle.std.specs.Option.{option_or}
use Rattle.circuit.specs.Trace.{trace}
use Rattle.wave_dump.specs.Dump.{Waves, identifier_code, printed, scope_faults}

-- the value that is printed last of a variable, at or before a cycle, if one is
unfoldable pub printed_last : Waves → ℕ → ℕ → ℕ → Option Bool
printed_last w scope place zero = printed w scope place 0
printed_last w scope place (suc t) = option_or (printed w scope place (suc t)) (printed_last w scope place t)

-- THE LAW of a dump: the value that is printed last of a net is its trace in the run of the scope
abbrev pub PrintsTraces : Type 0
PrintsTraces = (w : Waves) (scope place t : ℕ)
    → printed_last w scope place t ≡ Some (trace w.circuit (scope_faults w scope) w.run.vectors t (slice_index w.nets place))

-- no two variables have one code: a dump of 262,144 nets in two scopes has 524,288
abbrev pub CodesAreApart : Type 0
CodesAreApart = (a b : ℕ) → a < 2 ^ 19 → b < 2 ^ 19 → identifier_code a ≡ identifier_code b → a ≡ b
