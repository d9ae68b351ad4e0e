use Rattle.std.proofs.Common.{Some, reverse, length, refl, arith}
use Rattle.gml_core.proofs.Builds.{put_takes, nested_more}
use Rattle.gml_core.proofs.parsing.Builder.put.Goals as goal

pub invariant_of-self : goal.invariant_of-self
invariant_of-self c =
    let old = c.args.self.now in
    record { nested = nested_more (reverse old.stack.items) (length old.pairs.items) (length c.push.new.self.items) (omega (arith, c.push.ensures.lower_bound)) old.nested }

pub returns-clause-ok : goal.returns-clause-ok
returns-clause-ok c = λ w is.
    put_takes c.args.at w (record c.args.self.now { waits = Some c.args.waiting }) _ c.args.waiting c.args.value c.make_pair.result
    is refl c.requires refl c.in_ok-push.ensures.items c.make_pair.ensures
