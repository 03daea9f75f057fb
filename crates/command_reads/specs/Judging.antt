-- What is made of the files that a command has read.
use Rattle.std.specs.Prelude.{Result, Ok, Err}
use Rattle.fm_base.specs.Names.{Bytes}
use Rattle.campaign_plan.specs.declared.Settings.{Settings}
use Rattle.campaign_plan.specs.Batches.{AreDistinct}
use Rattle.circuit.specs.Loop.{HasNoLoop}
use Rattle.circuit.specs.Order.{IsOrder}
use Rattle.result_file.specs.KeptRows.{kept_entries}
use Rattle.commands.specs.declared.command.Kind.{Kind}
use Rattle.commands.specs.declared.command.Kind.TheVariants as kind
use Rattle.refusals.specs.declared.refused.Refused.{Refused}
use Rattle.command_reads.specs.declared.judge.Judged.{Judged as Made}
use Rattle.command_reads.specs.declared.judge.Judged.TheVariants as made
use Rattle.command_reads.specs.Files.{Reads, exchanged}
use Rattle.command_reads.specs.FirstRefusal.{Judged, Driven, Rated, Planned, Begun, Merged, Reweighed, Supposed, judge}
use Rattle.command_reads.specs.Answers.{IsObserved, IsSound, IsSupposed, TakesAs, classes_plan}

-- what was made, as the definition has it
abbrev pub made_by : Made → Judged
made_by (made.Observed o) = Planned (classes_plan o.ordered.net o.work)
made_by (made.Driven d) = Driven d.ordered.net d.work d.settings
made_by (made.Rated r) = Rated r.ordered.net r.rates
made_by (made.Planned d) = Planned d.plan
made_by (made.Begun b) = Begun b.planned.plan b.kept
made_by (made.Merged m) = Merged m.planned.plan m.rows
made_by (made.Reweighed r) = Reweighed r.planned.plan r.rows
made_by (made.Supposed s) = Supposed s.plan s.held

-- it is what a command of this kind works on
abbrev pub IsOfKind : Kind → Made → Type 0
IsOfKind kind.Observed (made.Observed o) = Unit {0}
IsOfKind kind.Driven (made.Driven d) = Unit {0}
IsOfKind kind.Rated (made.Rated r) = Unit {0}
IsOfKind kind.Planned (made.Planned d) = Unit {0}
IsOfKind kind.Begun (made.Begun b) = Unit {0}
IsOfKind kind.Merged (made.Merged m) = Unit {0}
IsOfKind kind.Reweighed (made.Reweighed r) = Unit {0}
IsOfKind kind.Supposed (made.Supposed s) = Unit {0}
IsOfKind (kind.Generated stages) (made.Planned d) = Unit {0}
IsOfKind _ _ = ⊥

-- its parts fit together
abbrev pub AreSound : Reads → Made → Type 0
AreSound reads (made.Observed o) = IsObserved o
AreSound reads (made.Driven d) = IsOrder d.ordered.net d.ordered.order × HasNoLoop d.ordered.net
AreSound reads (made.Rated r) = Unit {0}
AreSound reads (made.Planned d) = IsSound reads d
AreSound reads (made.Begun b) = IsSound reads b.planned × AreDistinct b.planned.plan (kept_entries b.kept)
AreSound reads (made.Merged m) = IsSound reads m.planned
AreSound reads (made.Reweighed r) = IsSound (exchanged reads) r.planned
AreSound reads (made.Supposed s) = IsSupposed s

-- what the files of a command of this kind stand for, or the first refusal; want of memory is free
abbrev pub JudgesAs : (netlist : Bytes) → Settings → Reads → Kind → Result Made Refused → Type 0
JudgesAs netlist set reads kind (Ok it) =
    TakesAs netlist reads (λ walk. judge netlist walk set reads kind) (Ok (made_by it)) × IsOfKind kind it × AreSound reads it
JudgesAs netlist set reads kind (Err refused) = TakesAs netlist reads (λ walk. judge netlist walk set reads kind) (Err refused)
