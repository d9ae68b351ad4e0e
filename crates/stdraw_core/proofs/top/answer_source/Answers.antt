use Rattle.stdraw_core.proofs.RunLemmas.{answered_for_words, file_decided, file_stopped, found_for_words, same_stop}
use Rattle.stdraw_core.proofs.top.answer_source.Goals as goal

pub returns-in-Err-clause-decides : goal.returns-in-Err-clause-decides
returns-in-Err-clause-decides g c = λ words asked. file_stopped words _ _ c.args.command.now c.in-Err.stop asked c.in-Err.ensures.finds

pub returns-in-Err-clause-never_words : goal.returns-in-Err-clause-never_words
returns-in-Err-clause-never_words g c = λ e. found_for_words _ _ c.in-Err.stop c.in-Err.ensures.finds (same_stop _ _ e)

pub returns-clause-decides : goal.returns-clause-decides
returns-clause-decides g c = λ words asked. file_decided words _ _ c.args.command.now c.in-Ok.graph c.answer_graph.result asked c.in-Ok.ensures.finds c.answer_graph.ensures

pub returns-clause-never_words : goal.returns-clause-never_words
returns-clause-never_words g c = answered_for_words c.args.command.now c.in-Ok.graph c.answer_graph.result c.answer_graph.ensures
