use Rattle.std.proofs.Common.{◌≡◌, ◌<◌, ◌++◌, ◌∷◌, [], ◌+◌, ℕ, Bool, rules, ◌∙◌, ap}
use Rattle.std.proofs.lemmas.List.{length_push}
use Rattle.lane_words.specs.declared.force.Force.{Force}
use Rattle.lane_words.specs.Forces.{force_value}
use Rattle.lane_words.proofs.Pushes.{pushed_each}
use Rattle.lane_words.proofs.force.idle_forces.Goals as goal

pub loop-n-preserved : goal.loop-n-preserved
loop-n-preserved g c =
    let e : c.push.new.v.items ≡ c.loop-n.forces.items ++ c.idle.result ∷ [] = search rules in
    rw e (
      length_push c.loop-n.forces.items c.idle.result ∙ ap (λ n. n + 1) c.loop-n.invariant.0,
      pushed_each (λ i (force : Force g.row.W.Denot). (k : ℕ) (own : Bool) → k < g.W.Word.lanes → force_value g.W.Word.lane_bit k force own ≡ own) c.loop-n.forces.items c.idle.result
          c.loop-n.n c.loop-n.invariant.0 c.loop-n.invariant.1 c.idle.ensures,
    )
