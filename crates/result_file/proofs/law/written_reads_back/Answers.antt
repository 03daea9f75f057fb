use Rattle.result_file.proofs.WrittenBack.{reads_back_of}
use Rattle.result_file.proofs.law.written_reads_back.Goals as goal

pub returns : goal.returns
returns c = reads_back_of
