use Rattle.std.proofs.Common.{length}
use Rattle.lx_signal_calls.proofs.frames.+push_words.Given as goal

abbrev pub decreases-push_words : goal.decreases-push_words
decreases-push_words l = length l.numbers.now
