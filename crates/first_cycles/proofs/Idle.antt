-- Notice counts on mechanisms alone.
use Rattle.std.proofs.Common.{true, false, refl}
use Rattle.std.proofs.lemmas.Bool.{false≢true}
use Rattle.metric_sums.specs.declared.Role.TheVariants.{Mission, Mechanism, Other}
use Rattle.first_cycles.specs.Laws.{NoticeIsIdle}

pub idle : NoticeIsIdle
idle dangerous Other covered permanent weight e = refl
idle true Mission true permanent weight e = refl
idle true Mission false permanent weight e = refl
idle false Mission covered true weight e = refl
idle false Mission covered false weight e = refl
idle true Mechanism true permanent weight e = refl
idle true Mechanism false permanent weight e = refl
idle false Mechanism covered true weight e = absurd (false≢true e)
idle false Mechanism covered false weight e = refl
