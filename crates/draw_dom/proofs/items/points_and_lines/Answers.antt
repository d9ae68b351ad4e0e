use Rattle.std.proofs.Common.{◌≡◌, ◌≤◌, length, rules, sym, subst, ap, ◌∙◌}
use Rattle.std.proofs.lemmas.Result.{IfOk-weaker}
use Rattle.st_shape.specs.declared.picture.Form.TheVariants.{Dominance}
use Rattle.st_shape.specs.declared.point.Point.{Point}
use Rattle.st_shape.specs.Rules.{FitsFrame, IsFrame}
use Rattle.st_picture.specs.Items.{drawing, line, item_place}
use Rattle.st_reduce.specs.Marks.{dummy_numbers}
use Rattle.st_reduce.specs.Reduced.{dummy_at}
use Rattle.draw_dom.specs.Pictures.{point_dot, dummied, points_and_lines}
use Rattle.draw_dom.specs.Points.{vertex_point}
use Rattle.draw_dom.proofs.BuildLemmas.{dot_in, line_in}
use Rattle.draw_dom.proofs.items.points_and_lines.Goals as goal

pub compose-requires-clause-frame : goal.compose-requires-clause-frame
compose-requires-clause-frame c =
    let S = c.args.sides.now in
    let N = c.args.names.now in
    let ds = c.args.dummies.now in
    let ps = c.args.points.now in
    let p = vertex_point ps in
    let d = dummy_at (dummy_numbers ds) in
    let q : c.place-frame.result ≡ p S.sink = c.place-frame.ensures ∙ ap p (c.high.ensures.value ∙ c.local.ensures.high_s) in
    subst IsFrame (sym q) c.requires.dots.grid

pub compose-requires-clause-items : goal.compose-requires-clause-items
compose-requires-clause-items c =
    let S = c.args.sides.now in
    let N = c.args.names.now in
    let ds = c.args.dummies.now in
    let ps = c.args.points.now in
    let p = vertex_point ps in
    let d = dummy_at (dummy_numbers ds) in
    let q : c.place-frame.result ≡ p S.sink = c.place-frame.ensures ∙ ap p (c.high.ensures.value ∙ c.local.ensures.high_s) in (
      point_dot N p,
      dummied S d p,
      record {
        figures = record {
          callable = λ v l. (let a : S.vertices ≤ length ps = c.requires.dots.vertices in let b : length N.vertex ≡ S.vertices = c.requires.names.vertices in search rules);
          answers = λ v z l h. search rules;
          fits = λ v l. subst (λ (z : Point). FitsFrame z (point_dot N p v)) (sym q) (dot_in S c.local.ensures N ds ps c.requires.dots v l);
        };
        kind = λ v l. tt;
        lines = record {
          callable = λ e l. search rules;
          answers = λ e z l h. search rules;
          fits = λ e l. subst (λ (z : Point). FitsFrame z (line S N (dummied S d p) e)) (sym q) (line_in S c.local.ensures N ds ps c.requires.dots e l);
        };
      },
    )

pub returns : goal.returns
returns c =
    let S = c.args.sides.now in
    let N = c.args.names.now in
    let ds = c.args.dummies.now in
    let ps = c.args.points.now in
    let p = vertex_point ps in
    let d = dummy_at (dummy_numbers ds) in
    let q : c.place-frame.result ≡ p S.sink = c.place-frame.ensures ∙ ap p (c.high.ensures.value ∙ c.local.ensures.high_s) in
    IfOk-weaker c.compose.result (λ e. e ≡ drawing S N Dominance c.place-frame.result (point_dot N p) (dummied S d p) (λ v. item_place (point_dot N p v))) (λ e. e ≡ points_and_lines S N d p)
    (λ e r. r ∙ ap (λ z. drawing S N Dominance z (point_dot N p) (dummied S d p) p) q)
    (c.compose.ensures (point_dot N p) (dummied S d p) (record {
      figures = record {
        callable = λ v l. (let a : S.vertices ≤ length ps = c.requires.dots.vertices in let b : length N.vertex ≡ S.vertices = c.requires.names.vertices in search rules);
        answers = λ v z l h. search rules;
        fits = λ v l. subst (λ (z : Point). FitsFrame z (point_dot N p v)) (sym q) (dot_in S c.local.ensures N ds ps c.requires.dots v l);
      };
      kind = λ v l. tt;
      lines = record {
        callable = λ e l. search rules;
        answers = λ e z l h. search rules;
        fits = λ e l. subst (λ (z : Point). FitsFrame z (line S N (dummied S d p) e)) (sym q) (line_in S c.local.ensures N ds ps c.requires.dots e l);
      };
    }))
