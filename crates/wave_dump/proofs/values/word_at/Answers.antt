use Rattle.std.proofs.Common.{ap, get_or, ℕ, List}
use Rattle.wave_dump.proofs.Running.{word_value}
use Rattle.wave_dump.proofs.values.word_at.Goals as goal

pub returns : goal.returns
returns c = λ t scope now lt.
    word_value c.args.scene.now t c.args.lanes.now now c.net.result (get_or c.nets.result.now c.args.place 0) c.net.ensures c.args.place scope lt
    (ap (λ (ns : List ℕ). get_or ns c.args.place 0) c.nets.ensures.value) (c.nets.ensures.nets c.args.place 0 c.requires.place)
