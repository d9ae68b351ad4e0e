use Rattle.std.proofs.Common.{rules, ◌≡◌, ◌<◌, [], ◌∷◌, ◌++◌, subst, List, ℕ, sym}
use Rattle.st_ids.specs.Graph.{AreWithin}
use Rattle.st_ids.proofs.GraphLemmas.{within_push}
use Rattle.st_ids.proofs.digraph.Digraph.add_edge.Goals as goal

pub invariant_of-self-2 : goal.invariant_of-self-2
invariant_of-self-2 c =
    let pushed : c.push.new.self.items ≡ c.self.inside.ends.items ++ (c.args.tail.0, c.args.head.0) ∷ [] = search rules in
    let kept : AreWithin c.self.inside.vertices c.self.inside.ends.items = search rules in
    let tail : c.args.tail.0 < c.self.inside.vertices = search rules in
    let head : c.args.head.0 < c.self.inside.vertices = search rules in (
      search rules,
      search rules,
      subst (λ (z : List (ℕ × ℕ)). AreWithin c.self.inside.vertices z) (sym pushed) (within_push c.self.inside.vertices c.self.inside.ends.items c.args.tail.0 c.args.head.0 kept tail head),
    )
