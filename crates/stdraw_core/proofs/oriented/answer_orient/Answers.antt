use Rattle.std.proofs.Common.{List, ℕ, rules, w64, FitsSigned}
use Rattle.std.proofs.lemmas.Int.{to_z-of_z}
use Rattle.st_verdict.proofs.Public.{stop_first, gives_next}
use Rattle.stdraw_core.specs.Oriented.{AnswersPoles, ArePolesNamed}
use Rattle.stdraw_core.proofs.oriented.answer_orient.Goals as goal

pub returns-in-Err : goal.returns-in-Err
returns-in-Err c =
    let from_fits : FitsSigned w64 c.args.from = search rules in
    let to_fits : FitsSigned w64 c.args.to = search rules in
    let named = rw (to_z-of_z w64 c.args.from from_fits, to_z-of_z w64 c.args.to to_fits) at c.in-Err.ensures.gives in
    stop_first {B = List ℕ} (ArePolesNamed c.args.from c.args.to c.args.spec) (AnswersPoles c.args.spec) c.in-Err.stop named

pub returns : goal.returns
returns c =
    let from_fits : FitsSigned w64 c.args.from = search rules in
    let to_fits : FitsSigned w64 c.args.to = search rules in
    let named = rw (to_z-of_z w64 c.args.from from_fits, to_z-of_z w64 c.args.to to_fits) at c.in-Ok.ensures.gives in
    gives_next {B = List ℕ} (ArePolesNamed c.args.from c.args.to c.args.spec) (AnswersPoles c.args.spec) c.in-Ok.poles c.poles_answer.result named c.poles_answer.ensures
