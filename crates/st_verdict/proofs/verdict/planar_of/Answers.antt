use Rattle.std.proofs.Common.{refl, subst}
use Rattle.st_test.specs.Verdict.{IsEmbedFault}
use Rattle.st_test.specs.declared.verdict.EmbedFault.TheVariants.{Outer}
use Rattle.st_report.specs.declared.stop.NotSt.TheVariants.{Outer as outer}
use Rattle.st_verdict.proofs.VerdictLemmas.{outer_same}
use Rattle.st_verdict.proofs.verdict.planar_of.Goals as goal

pub returns-in-Err-Outer-clause-err : goal.returns-in-Err-Outer-clause-err
returns-in-Err-Outer-clause-err c = record {
  fault = outer c.in-Err-Outer.misses_source c.in-Err-Outer.misses_sink;
  is = refl;
  holds = (
    Outer c.in-Err-Outer.misses_source c.in-Err-Outer.misses_sink,
    subst (λ z. IsEmbedFault c.args.map.graph c.args.poles.source.0 c.args.poles.sink.0 z (Outer c.in-Err-Outer.misses_source c.in-Err-Outer.misses_sink))
        (outer_same c.args.spec.now c.args.map.graph c.args.poles.source.0 c.outer.result c.outer.ensures.value) (rw c.in-Err-Outer.field-0-is at c.in-Err-Outer.ensures.fault),
    refl,
  );
}
