use Rattle.std.proofs.Common.{◌&&◌, ap, sym, ◌∙◌}
use Rattle.workload.specs.Runs.{is_mission}
use Rattle.reading_planes.specs.Folded.{late_by}
use Rattle.reading_planes.proofs.add.is_late_in.Goals as goal

pub returns-in-Mission : goal.returns-in-Mission
returns-in-Mission c = λ s of. c.is_late.ensures s of ∙ ap (λ kind. is_mission kind && late_by c.args.points.now c.args.ftti c.args.reading s) (sym c.in-Mission.is)
