use Rattle.std.proofs.Common.{map}
use Rattle.std.specs.Prelude.{string_bytes}
use Rattle.fm_shelf.specs.Content.{Content}
use Rattle.stopped_runs.specs.Campaigns.{Campaign}
use Rattle.stopped_runs.specs.Runs.{IsCampaign, KnowsAll}
use Rattle.stopped_runs.proofs.Telling.{HasStopped}
use Rattle.stopped_runs.proofs.runs.run_and_resume.Given as goal

-- what is so behind each stop
abbrev pub invariant-loop-stop : goal.invariant-loop-stop
invariant-loop-stop g l =
    (c : Campaign) (start : Content) → IsCampaign c start (map string_bytes l.run) (map string_bytes l.resume) (map (λ name. name.now) l.names) (g.F.Shelf.seen l.fn.shelf)
    → KnowsAll g.F.Shelf.seen → HasStopped c start (g.F.Shelf.seen l.shelf)
