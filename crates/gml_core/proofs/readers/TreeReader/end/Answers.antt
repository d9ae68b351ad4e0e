use Rattle.std.proofs.Common.{◌≡◌, Some}
use Rattle.gml_core.specs.Reading.{end_fault, IsText, IsFirstFault}
use Rattle.gml_core.specs.Building.{state_of, IsFinished}
use Rattle.gml_core.specs.Views.{view}
use Rattle.gml_core.proofs.TreeRead.{tree_faulty, tree_fails, tree_ends, tree_end_fails, oks, errs, last_ends, last_end_fails, last_refused}
use Rattle.gml_core.proofs.readers.TreeReader.end.Goals as goal

pub returns-in-Some-clause-err : goal.returns-in-Some-clause-err
returns-in-Some-clause-err c = λ b stands _. tree_faulty c.args.self b c.in-Some.fault (rw c.in-Some.is at stands.reads)

pub returns-in-Err-clause-err : goal.returns-in-Err-clause-err
returns-in-Err-clause-err c = λ b stands _. tree_fails c.args.self.builder b c.args.self.state c.args.self.fed c.in-Err.fault (rw c.in-None.is at stands.reads) c.in-Err.ensures.err

pub returns-in-Ok-None-clause-ok : goal.returns-in-Ok-None-clause-ok
returns-in-Ok-None-clause-ok c = λ b stands.
    let r = rw c.in-None.is at stands.reads in
    let none = rw c.in-Ok-None.field-0-is at c.in-Ok-None.ensures.ok in
    oks (IsFinished c.args.self.builder) (λ t. IsText b (view t)) c.finish.result (λ t done. tree_ends c.args.self.builder b c.args.self.state c.args.self.fed t r none done) c.finish.ensures.ok

pub returns-in-Ok-None-clause-err : goal.returns-in-Ok-None-clause-err
returns-in-Ok-None-clause-err c = λ b stands.
    let r = rw c.in-None.is at stands.reads in
    let none = rw c.in-Ok-None.field-0-is at c.in-Ok-None.ensures.ok in
    errs (λ e. end_fault (state_of c.args.self.builder) ≡ Some e) (IsFirstFault b) c.finish.result (λ f fault. tree_end_fails c.args.self.builder b c.args.self.state c.args.self.fed f r none fault) c.finish.ensures.err

pub returns-in-Err-take-clause-err : goal.returns-in-Err-take-clause-err
returns-in-Err-take-clause-err c = λ b stands other.
    let r = rw c.in-None.is at stands.reads in
    let is = rw c.in-Ok-Some.field-0-is at c.in-Ok-Some.ensures.ok in
    let fails = rw c.bytes.ensures at c.in-Err-take.ensures.err in
    last_refused c.args.self.builder b c.in-Ok-Some.last.text c.args.self.state c.args.self.fed c.in-Ok-Some.last.token c.in-Err-take.fault r is (fails other)

pub returns-in-Ok-clause-ok : goal.returns-in-Ok-clause-ok
returns-in-Ok-clause-ok c = λ b stands.
    let r = rw c.in-None.is at stands.reads in
    let is = rw c.in-Ok-Some.field-0-is at c.in-Ok-Some.ensures.ok in
    let takes = rw c.bytes.ensures at c.in-Ok.ensures.ok in
    oks (IsFinished c.take.new.self) (λ t. IsText b (view t)) c.finish-in-Ok.result (λ t done. last_ends c.args.self.builder c.take.new.self b c.in-Ok-Some.last.text c.args.self.state c.args.self.fed c.in-Ok-Some.last.token t r is takes done) c.finish-in-Ok.ensures.ok

pub returns-in-Ok-clause-err : goal.returns-in-Ok-clause-err
returns-in-Ok-clause-err c = λ b stands.
    let r = rw c.in-None.is at stands.reads in
    let is = rw c.in-Ok-Some.field-0-is at c.in-Ok-Some.ensures.ok in
    let takes = rw c.bytes.ensures at c.in-Ok.ensures.ok in
    errs (λ e. end_fault (state_of c.take.new.self) ≡ Some e) (IsFirstFault b) c.finish-in-Ok.result (λ f fault. last_end_fails c.args.self.builder c.take.new.self b c.in-Ok-Some.last.text c.args.self.state c.args.self.fed c.in-Ok-Some.last.token f r is takes fault) c.finish-in-Ok.ensures.err
