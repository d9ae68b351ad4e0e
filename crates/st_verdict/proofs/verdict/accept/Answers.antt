use Rattle.std.specs.Prelude.{Err}
use Rattle.st_test.specs.Planar.{StValue}
use Rattle.st_verdict.specs.Stages.{Then}
use Rattle.st_verdict.specs.Verdict.{HasPoles, HasMap, IsPlanar}
use Rattle.st_verdict.proofs.AnswerLemmas.{stop_first, gives_next}
use Rattle.st_verdict.proofs.VerdictLemmas.{gives_of}
use Rattle.st_verdict.proofs.verdict.accept.Goals as goal

pub returns-in-Err : goal.returns-in-Err
returns-in-Err c = stop_first {B = StValue} (HasPoles c.args.spec.now) (λ p. Then (HasMap c.args.spec.now) (IsPlanar c.args.spec.now p)) c.in-Err.stop c.in-Err.ensures.err

pub map_of-requires : goal.map_of-requires
map_of-requires c = c.no_loop.ensures c.args.spec.now.graph c.in-Ok.ensures.ok.no_cycle

pub returns-in-Err-map_of : goal.returns-in-Err-map_of
returns-in-Err-map_of c =
    gives_next {B = StValue} (HasPoles c.args.spec.now) (λ p. Then (HasMap c.args.spec.now) (IsPlanar c.args.spec.now p)) c.in-Ok.poles (Err c.in-Err-map_of.stop) c.in-Ok.ensures.ok
    (stop_first {B = StValue} (HasMap c.args.spec.now) (IsPlanar c.args.spec.now c.in-Ok.poles) c.in-Err-map_of.stop c.in-Err-map_of.ensures.err)

pub returns : goal.returns
returns c =
    gives_next {B = StValue} (HasPoles c.args.spec.now) (λ p. Then (HasMap c.args.spec.now) (IsPlanar c.args.spec.now p)) c.in-Ok.poles c.planar_of.result c.in-Ok.ensures.ok
    (gives_next {B = StValue} (HasMap c.args.spec.now) (IsPlanar c.args.spec.now c.in-Ok.poles) c.in-Ok-map_of.map.graph c.planar_of.result c.in-Ok-map_of.ensures.ok
    (gives_of (IsPlanar c.args.spec.now c.in-Ok.poles c.in-Ok-map_of.map.graph) c.planar_of.result c.planar_of.ensures.ok c.planar_of.ensures.err))
