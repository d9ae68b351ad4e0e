use Rattle.std.proofs.Common.{Some, refl, arith}
use Rattle.gml_core.specs.Trees.{opens}
use Rattle.gml_core.proofs.Builds.{begin_takes, begin_fails}
use Rattle.gml_core.proofs.parsing.Builder.begin.Goals as goal

pub returns-then-len-ge-MOST_DEPTH-clause-err : goal.returns-then-len-ge-MOST_DEPTH-clause-err
returns-then-len-ge-MOST_DEPTH-clause-err c = λ _.
    begin_fails c.args.at opens (record c.args.self.now { waits = Some c.args.waiting }) c.args.waiting refl refl (omega arith)

pub returns-clause-ok : goal.returns-clause-ok
returns-clause-ok c =
    begin_takes c.args.at opens (record c.args.self.now { waits = Some c.args.waiting }) _ c.args.waiting (record { key = c.args.waiting.key; at = c.args.waiting.at; from = c.args.at; start = c.len-start.result })
    refl (omega arith) refl c.requires c.in_ok-push.ensures.items refl (omega arith) refl refl refl
