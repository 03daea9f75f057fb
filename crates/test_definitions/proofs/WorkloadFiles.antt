-- Workload files and their refusals.
use Rattle.std.proofs.Common.{◌≡◌, [], ◌∷◌, refl, codes}
use Rattle.std.specs.Prelude.{true, false, Ok, Err}
use Rattle.test_definitions.specs.Opened.{opened}
use Rattle.workload.specs.declared.run.Kind.TheVariants.{Mission, Test}
use Rattle.workload.specs.WorkloadFile.{workload_of}
use Rattle.workload.specs.declared.file.WorkloadKind.TheVariants as work
use Rattle.test_definitions.specs.Circuits.{dup}

pub split : workload_of dup (codes "workload,kind,a,b\nw,mission,0,0\nv,mission,0,0\nw,mission,0,0\n") ≡ Err (record { row = 4; kind = work.SplitName })
unfolding opened
split = refl

pub empty : workload_of dup (codes "workload,kind,a,b\n") ≡ Err (record { row = 1; kind = work.Empty })
unfolding opened
empty = refl

pub no_header : workload_of dup [] ≡ Err (record { row = 1; kind = work.BadCsv })
unfolding opened
no_header = refl

pub only_blank : workload_of dup (codes "\r\n\n") ≡ Err (record { row = 1; kind = work.BadCsv })
unfolding opened
only_blank = refl

pub bad_header : workload_of dup (codes "workloads,kind,a,b\nw,mission,0,0\n") ≡ Err (record { row = 1; kind = work.BadCsv })
unfolding opened
bad_header = refl

pub spaced_header : workload_of dup (codes "workload, kind,a,b\nw,mission,0,0\n") ≡ Err (record { row = 1; kind = work.BadCsv })
unfolding opened
spaced_header = refl

pub bad_column : workload_of dup (codes "workload,kind,a,y\nw,mission,0,0\n") ≡ Err (record { row = 1; kind = work.BadColumn })
unfolding opened
bad_column = refl

pub twice : workload_of dup (codes "workload,kind,a,a\nw,mission,0,0\n") ≡ Err (record { row = 1; kind = work.BadColumn })
unfolding opened
twice = refl

pub missing_input : workload_of dup (codes "workload,kind,a\nw,mission,0,0\n") ≡ Err (record { row = 1; kind = work.MissingInput })
unfolding opened
missing_input = refl

pub too_few : workload_of dup (codes "workload,kind,a,b\nw,mission,0,0\nw,mission,0\n") ≡ Err (record { row = 3; kind = work.BadCsv })
unfolding opened
too_few = refl

pub bad_kind : workload_of dup (codes "workload,kind,a,b\nw,mision,0,2\n") ≡ Err (record { row = 2; kind = work.BadKind })
unfolding opened
bad_kind = refl

pub other_kind : workload_of dup (codes "workload,kind,a,b\nw,mission,0,0\nw,test,0,1\n") ≡ Err (record { row = 3; kind = work.BadKind })
unfolding opened
other_kind = refl

pub bad_bit : workload_of dup (codes "workload,kind,a,b\nw,mission,0,0\n\nw,mission,0,x\n") ≡ Err (record { row = 3; kind = work.BadBit })
unfolding opened
bad_bit = refl

-- a byte order mark, quotes, an empty line, and no line feed at the end
pub columns : workload_of dup (0xEF ∷ 0xBB ∷ 0xBF ∷ codes "workload,kind,b,a\r\n\"w\",test,0,1\r\n\r\nv,mission,1,0") ≡ Ok (record { kind = Test; vectors = (true ∷ false ∷ []) ∷ [] } ∷ record { kind = Mission; vectors = (false ∷ true ∷ []) ∷ [] } ∷ [])
unfolding opened
columns = refl
