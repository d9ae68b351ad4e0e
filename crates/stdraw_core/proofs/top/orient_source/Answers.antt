use Rattle.std.proofs.Common.{rules, w64, FitsSigned}
use Rattle.std.proofs.lemmas.Int.{to_z-of_z}
use Rattle.stdraw_core.proofs.RunLemmas.{found_for_words, oriented_decided, oriented_for_words, same_stop, unoriented_stopped}
use Rattle.stdraw_core.proofs.top.orient_source.Goals as goal

pub returns-in-Err-clause-decides : goal.returns-in-Err-clause-decides
returns-in-Err-clause-decides g c = λ words asked. unoriented_stopped words _ _ c.args.from c.args.to c.in-Err.stop asked c.in-Err.ensures.finds

pub returns-in-Err-clause-never_words : goal.returns-in-Err-clause-never_words
returns-in-Err-clause-never_words g c = λ e. found_for_words _ _ c.in-Err.stop c.in-Err.ensures.finds (same_stop _ _ e)

pub returns-clause-decides : goal.returns-clause-decides
returns-clause-decides g c =
    let from_fits : FitsSigned w64 c.args.from = search rules in
    let to_fits : FitsSigned w64 c.args.to = search rules in
    let gives = rw (to_z-of_z w64 c.args.from from_fits, to_z-of_z w64 c.args.to to_fits) at c.answer_orient.ensures in
    λ words asked. oriented_decided words _ _ c.args.from c.args.to c.in-Ok.graph c.answer_orient.result asked c.in-Ok.ensures.finds gives

pub returns-clause-never_words : goal.returns-clause-never_words
returns-clause-never_words g c = oriented_for_words _ _ c.in-Ok.graph c.answer_orient.result c.answer_orient.ensures
