use Rattle.std.proofs.Common.{[], ◌∷◌, ap, arith}
use Rattle.std.specs.Prelude.{Option}
use Rattle.circuit.specs.declared.parts.Fault.{Fault}
use Rattle.lane_words.specs.Loads.{somes}
use Rattle.row_audit.proofs.one_circuit.OneCircuitCircuits.load_batch.Goals as goal

pub returns-clause-loads : goal.returns-clause-loads
returns-clause-loads c = λ k lane. ap (λ (fault : Option Fault). somes (fault ∷ [])) (c.load_lanes.ensures k lane)

pub returns-clause-others : goal.returns-clause-others
returns-clause-others c = λ other k lt apart lane. absurd (omega (arith, lt, apart, c.requires.word))
