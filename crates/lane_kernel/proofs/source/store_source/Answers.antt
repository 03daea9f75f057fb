use Rattle.std.proofs.Common.{false, get_or, ap, ◌∙◌, arith}
use Rattle.circuit.specs.Value.{driven, driver_at}
use Rattle.lane_words.specs.declared.force.Force.{Force}
use Rattle.lane_words.specs.Forces.{force_value}
use Rattle.lane_kernel.proofs.Sources.{right_keeps, right_set}
use Rattle.lane_kernel.proofs.source.store_source.Goals as goal

pub returns-clause-right : goal.returns-clause-right
returns-clause-right g c = λ k x lt forces own_is.
    let d : Force g.row.W.Denot = record { base = c.args.own; slope = c.args.own } in
    let n = c.args.net.0 in
    right_set g.W.Word.lane_bit k x c.args.words.now n c.forced_at.result c.requires.net
    (c.forced_at.ensures k d lt
    ∙ ap (force_value g.W.Word.lane_bit k (get_or c.args.forces.now n d)) own_is
    ∙ forces n d (driven x.state x.inputs (λ j. false) (driver_at x.circuit n)) (omega (arith, c.requires.net, c.requires.forces)))

pub returns-clause-keeps : goal.returns-clause-keeps
returns-clause-keeps g c = λ k m x lt forces own_is before.
    let d : Force g.row.W.Denot = record { base = c.args.own; slope = c.args.own } in
    let n = c.args.net.0 in
    right_keeps g.W.Word.lane_bit k x c.args.words.now n c.forced_at.result m c.requires.net
    (c.forced_at.ensures k d lt
    ∙ ap (force_value g.W.Word.lane_bit k (get_or c.args.forces.now n d)) own_is
    ∙ forces n d (driven x.state x.inputs (λ j. false) (driver_at x.circuit n)) (omega (arith, c.requires.net, c.requires.forces)))
    before
