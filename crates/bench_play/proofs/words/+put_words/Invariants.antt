use Rattle.bench_play.proofs.words.+put_words.Given as goal

abbrev pub decreases-put_words : goal.decreases-put_words
decreases-put_words l = l.depth
