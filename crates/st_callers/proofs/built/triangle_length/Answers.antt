use Rattle.std.proofs.Common.{rules, subst, sym, arith}
use Rattle.st_picture.specs.Naming.{AreNames}
use Rattle.st_callers.proofs.BuiltLemmas.{length_told, named, three_edges, three_vertices}
use Rattle.st_callers.proofs.built.triangle_length.Goals as goal

pub text_length-requires-clause-names : goal.text_length-requires-clause-names
text_length-requires-clause-names c =
    let v = three_vertices _ _ _ _ c.in-Ok.sides c.in-Some.ensures c.in-Ok.ensures in
    let e = three_edges _ _ _ _ c.in-Ok.sides c.in-Some.ensures c.in-Ok.ensures in
    subst (λ N. AreNames c.in-Ok.sides N) (sym c.in-Ok-triangle_names.ensures) (named c.in-Ok.sides v e)

pub text_length-requires-clause-wide : goal.text_length-requires-clause-wide
text_length-requires-clause-wide c = omega (arith, three_edges _ _ _ _ c.in-Ok.sides c.in-Some.ensures c.in-Ok.ensures)

pub returns : goal.returns
returns c = length_told _ (λ e w h. search rules) c.in-Some.graph c.in-Some.ensures c.in-Ok.sides c.in-Ok.ensures c.in-Ok-triangle_names.names c.in-Ok-triangle_names.ensures
    c.text_length.result c.text_length.ensures c.ok.result c.ok.ensures.value
