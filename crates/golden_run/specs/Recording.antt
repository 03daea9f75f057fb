-- The golden run as contracts see it: whatever it holds is determined by what it was made for.
use Rattle.std.specs.Prelude.{List}
use Rattle.circuit.specs.declared.parts.NetId.{NetId}
use Rattle.circuit.specs.Circuit.{Circuit}
use Rattle.workload.specs.declared.run.Run.{Run}
use Rattle.fanout.specs.Readers.{Ordered}
use Rattle.golden_run.specs.Recorded.{Recorded}

-- the netlist, the order of its tables and the runs that it was made for
pub record Recording : Type 0 where
  pub circuit : Circuit
  pub order : List NetId
  pub runs : List Run

-- the golden values of all nets and the readers of each net, made for these
abbrev pub recording_of : Recorded → Ordered → Recording
recording_of rows readers = record { circuit = rows.circuit; order = readers.order; runs = rows.runs }
