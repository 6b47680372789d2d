use Rattle.umtx_queue.proofs.LineLaws.{in_plain_words}
use Rattle.umtx_queue.proofs.laws.firsts_in_plain_words.Goals as goal

pub returns : goal.returns
returns c = in_plain_words
