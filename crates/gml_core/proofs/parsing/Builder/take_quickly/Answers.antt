use Rattle.gml_core.specs.Readers.{BuiltUp}
use Rattle.gml_core.proofs.Pairs.{none_taken, white_goes}
use Rattle.gml_core.proofs.parsing.Builder.take_quickly.Goals as goal

pub returns-then-n-eq0-clause-reads : goal.returns-then-n-eq0-clause-reads
returns-then-n-eq0-clause-reads c = λ b r.
    let new = BuiltUp c.one_quickly.new.self in
    white_goes new b c.args.rest.now c.args.at c.white.result c.white.ensures.goes c.white.ensures.within
    (none_taken new b c.args.rest.now c.args.at c.in_ok-n.n c.if-n-eq0.true (c.in_ok-n.ensures.reads b r))
