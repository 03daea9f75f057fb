-- The netlist of a file. The name of the file says how it is written: as a `.bench` file or in BLIF.
use Rattle.std.specs.Prelude.{Bool, if◌then◌else◌, Result, Ok, Err, codes, nat_eq}
use Rattle.std.specs.List.{ends_with}
use Rattle.circuit.specs.Circuit.{Circuit}
use Rattle.bench_reader.specs.Bench.{bench_of}
use Rattle.blif_model.specs.Net.{netlist_of}
use Rattle.fm_base.specs.Names.{Bytes}
use Rattle.refusals.specs.declared.status.Status.{Status}
use Rattle.refusals.specs.declared.status.Status.TheVariants as status

-- an answer, whose refusal is told as a status
abbrev pub or_refuse : {A E : Type 0} → (E → Status) → Result A E → Result A Status
or_refuse told (Ok x) = Ok x
or_refuse told (Err e) = Err (told e)

-- the netlist of the bytes of a file of this name, or the status of the refusal; a `.bench` file is one whose name ends so
unfoldable pub netlist_in : Bytes → Bytes → Result Circuit Status
netlist_in name bytes = if ends_with nat_eq name (codes ".bench") then or_refuse status.Bench (bench_of bytes)
    else or_refuse status.Netlist (netlist_of bytes)

-- ---- a shape of private steps

-- the name ends in `.bench`
abbrev pub is_bench : Bytes → Bool
is_bench name = ends_with nat_eq name (codes ".bench")
