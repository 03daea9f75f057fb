use Rattle.coverage_claim.proofs.Ruling.{lead_in_proves, narrowing, prove, refutations, sound}
use Rattle.coverage_claim.proofs.law.rules_are_sound.Goals as goal

pub returns-clause-rules : goal.returns-clause-rules
returns-clause-rules c = sound

pub returns-clause-refutations : goal.returns-clause-refutations
returns-clause-refutations c = refutations

pub returns-clause-narrowing : goal.returns-clause-narrowing
returns-clause-narrowing c = narrowing

pub returns-clause-proved : goal.returns-clause-proved
returns-clause-proved c = prove

pub returns-clause-lead_in : goal.returns-clause-lead_in
returns-clause-lead_in c = lead_in_proves
