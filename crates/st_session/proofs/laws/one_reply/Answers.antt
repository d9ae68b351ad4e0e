use Rattle.st_session.proofs.ReplyLemmas.{one_reply_law}
use Rattle.st_session.proofs.laws.one_reply.Goals as goal

pub returns : goal.returns
returns c = one_reply_law
