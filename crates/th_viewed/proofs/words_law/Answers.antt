-- The law of runs on words.
use Rattle.th_viewed.proofs.Units.{runs_on_words}
use Rattle.th_viewed.proofs.words_law.Goals as goal

pub returns : goal.returns
returns c = runs_on_words
