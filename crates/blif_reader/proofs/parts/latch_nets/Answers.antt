use Rattle.std.proofs.Common.{◌<◌, [], arith}
use Rattle.std.proofs.lemmas.List.Elements.{All-cons, All-nil}
use Rattle.blif_flatten.specs.declared.flat.NameId.{NameId}
use Rattle.blif_reader.proofs.parts.latch_nets.Goals as goal

pub returns-in-Latch-clause-within : goal.returns-in-Latch-clause-within
returns-in-Latch-clause-within c = λ n below.
    let all = rw c.in-Latch.is at below in
    rw c.from_ref.ensures.value (All-cons (λ (id : NameId). id.0 < n) c.in-Latch.latch.to [] (all 1 (record { 0 = 0 }) (omega arith)) (All-nil (λ (id : NameId). id.0 < n)))
