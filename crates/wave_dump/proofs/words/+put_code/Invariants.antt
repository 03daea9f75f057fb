use Rattle.wave_dump.proofs.words.+put_code.Given as goal

abbrev pub decreases-put_code : goal.decreases-put_code
decreases-put_code l = l.most
