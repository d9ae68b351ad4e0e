use Rattle.std.proofs.Common.{List, [], ◌∷◌, ◌++◌, length, refl, ap, ◌∙◌, arith}
use Rattle.gml_core.specs.declared.tree.Pair.{Pair}
use Rattle.gml_core.specs.Trees.{entry, list, closes}
use Rattle.gml_core.proofs.Builds.{close_takes, close_fails, nested_popped}
use Rattle.gml_core.proofs.parsing.Builder.close.Goals as goal

pub returns-in-None-clause-err : goal.returns-in-None-clause-err
returns-in-None-clause-err c = λ _. close_fails c.args.at closes c.args.self.now refl c.requires (omega (arith, c.in-None.ensures.cases.0))

pub invariant_of-self-in-Break-1 : goal.invariant_of-self-in-Break-1
invariant_of-self-in-Break-1 c =
    let old = c.args.self.now in
    record { nested = nested_popped old.stack.items c.pop.new.self.items c.in-Some.frame (length old.pairs.items) (length c.cut_off.new.pairs.items) c.in-Some.ensures.items old.nested c.cut_off.ensures.left }

pub invariant_of-self-in-Some : goal.invariant_of-self-in-Some
invariant_of-self-in-Some c =
    let old = c.args.self.now in
    record {
      nested = nested_popped old.stack.items c.pop.new.self.items c.in-Some.frame (length old.pairs.items) (length c.push.new.self.items) c.in-Some.ensures.items old.nested
          (omega (arith, c.cut_off.ensures.left, c.push.ensures.lower_bound));
    }

pub returns-in_ok-push-in-Some-clause-ok : goal.returns-in_ok-push-in-Some-clause-ok
returns-in_ok-push-in-Some-clause-ok c =
    let f = c.in-Some.frame in
    close_takes c.args.at closes c.args.self.now _ f c.from_vec-inner.result c.make_pair-pair.result refl c.requires c.requires c.in-Some.ensures.items
    (c.from_vec-inner.ensures ∙ c.in_ok-cut_off-in-Some.ensures.tail) (c.in_ok-push-in-Some.ensures.items ∙ ap (λ (ps : List Pair). ps ++ c.make_pair-pair.result ∷ []) c.in_ok-cut_off-in-Some.ensures.front)
    (c.make_pair-pair.ensures ∙ ap (entry f.key f.at) (c.list_value.ensures ∙ ap list c.make_tree.ensures))
