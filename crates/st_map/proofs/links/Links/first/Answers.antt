use Rattle.std.proofs.Common.{◌<◌, None, ap, ◌∙◌, sym, length, arith}
use Rattle.std.proofs.lemmas.List.{get_or_default, length-map}
use Rattle.st_map.specs.Links.{LinkTables, first_at}
use Rattle.st_map.proofs.LinkLemmas.{first_there}
use Rattle.st_map.proofs.links.Links.first.Goals as goal

pub index-requires-in-Some : goal.index-requires-in-Some
index-requires-in-Some c =
    let l : c.args.v < length c.self.inside.first.items = omega (arith, c.requires, length-map c.self.inside.first.items (first_at c.self.inside.ends), ap (λ (z : LinkTables). length z.first) c.self.view_is) in
    first_there c.self.inside.ends c.self.inside.keys.items c.self.inside.first.items 0 0 c.self.invariant c.args.v c.in-Some.key
    (sym (get_or_default c.self.inside.first.items c.args.v c.index.result.now None l) ∙ sym c.index.ensures ∙ c.in-Some.is)
