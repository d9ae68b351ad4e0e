use Rattle.std.proofs.Common.{List, ℕ}
use Rattle.std.specs.Prelude.{Err}
use Rattle.st_verdict.specs.Stages.{Then}
use Rattle.st_verdict.specs.Verdict.{HasMap}
use Rattle.st_verdict.proofs.Public.{stop_first, gives_next}
use Rattle.stdraw_core.specs.Oriented.{AnswersPlane, AreTwo, IsLoopless}
use Rattle.stdraw_core.proofs.oriented.poles_answer.Goals as goal

pub returns-in-Err : goal.returns-in-Err
returns-in-Err c =
    let g = c.args.spec in
    let p = c.args.poles in
    stop_first {B = List ℕ} (AreTwo p) (λ _. Then (IsLoopless g) (λ _. Then (HasMap g) (AnswersPlane g p))) c.in-Err.stop c.in-Err.ensures

pub returns-in-Err-loopless : goal.returns-in-Err-loopless
returns-in-Err-loopless c =
    let g = c.args.spec in
    let p = c.args.poles in
    gives_next {B = List ℕ} (AreTwo p) (λ _. Then (IsLoopless g) (λ _. Then (HasMap g) (AnswersPlane g p))) tt (Err c.in-Err-loopless.stop) c.in-Ok.ensures
    (stop_first {B = List ℕ} (IsLoopless g) (λ _. Then (HasMap g) (AnswersPlane g p)) c.in-Err-loopless.stop c.in-Err-loopless.ensures)

pub returns-in-Err-map_of : goal.returns-in-Err-map_of
returns-in-Err-map_of c =
    let g = c.args.spec in
    let p = c.args.poles in
    gives_next {B = List ℕ} (AreTwo p) (λ _. Then (IsLoopless g) (λ _. Then (HasMap g) (AnswersPlane g p))) tt (Err c.in-Err-map_of.stop) c.in-Ok.ensures
    (gives_next {B = List ℕ} (IsLoopless g) (λ _. Then (HasMap g) (AnswersPlane g p)) tt (Err c.in-Err-map_of.stop) c.in-Ok-loopless.ensures
    (stop_first {B = List ℕ} (HasMap g) (AnswersPlane g p) c.in-Err-map_of.stop c.in-Err-map_of.ensures.err))

pub returns : goal.returns
returns c =
    let g = c.args.spec in
    let p = c.args.poles in
    gives_next {B = List ℕ} (AreTwo p) (λ _. Then (IsLoopless g) (λ _. Then (HasMap g) (AnswersPlane g p))) tt c.plane_answer.result c.in-Ok.ensures
    (gives_next {B = List ℕ} (IsLoopless g) (λ _. Then (HasMap g) (AnswersPlane g p)) tt c.plane_answer.result c.in-Ok-loopless.ensures
    (gives_next {B = List ℕ} (HasMap g) (AnswersPlane g p) c.in-Ok-map_of.map.graph c.plane_answer.result c.in-Ok-map_of.ensures.ok c.plane_answer.ensures))
