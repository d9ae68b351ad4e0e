use Rattle.std.proofs.Common.{◌≡◌, rules, sym, subst, ap, ◌∙◌}
use Rattle.std.proofs.lemmas.Result.{IfOk-weaker}
use Rattle.st_shape.specs.declared.picture.Form.TheVariants.{Polyline}
use Rattle.st_shape.specs.declared.point.Point.{Point}
use Rattle.st_shape.specs.Rules.{FitsFrame}
use Rattle.st_picture.specs.Bars.{number_at}
use Rattle.st_picture.specs.Items.{drawing, line, item_place}
use Rattle.draw_poly.specs.Polyline.{bent, corner_of, dot, dot_place, polylines}
use Rattle.draw_poly.proofs.BendLemmas.{dot_inside, line_fits}
use Rattle.draw_poly.proofs.items.dots_and_lines.Goals as goal

pub compose-requires-clause-items : goal.compose-requires-clause-items
compose-requires-clause-items c =
    let S = c.args.sides.now in
    let N = c.args.names.now in
    let y = number_at c.args.grid.now.heights in
    let x = number_at c.args.grid.now.columns in
    let p = number_at c.args.grid.now.places in
    let T = c.requires.tables.tracks in
    let q : c.corner-frame.result ≡ corner_of S y x = c.corner-frame.ensures in (
      dot N p y,
      bent S y x p,
      record {
        figures = record {
          callable = λ v l. search rules;
          answers = λ v z l h. search rules;
          fits = λ v l. subst (λ (z : Point). FitsFrame z (dot N p y v)) (sym q) (dot_inside S c.local.ensures y x p T N c.requires.names v l);
        };
        kind = λ v l. tt;
        lines = record {
          callable = λ e l. search rules;
          answers = λ e z l h. search rules;
          fits = λ e l. subst (λ (z : Point). FitsFrame z (line S N (bent S y x p) e)) (sym q) (line_fits S c.local.ensures y x p T N c.requires.names e l);
        };
      },
    )

pub returns : goal.returns
returns c =
    let S = c.args.sides.now in
    let N = c.args.names.now in
    let y = number_at c.args.grid.now.heights in
    let x = number_at c.args.grid.now.columns in
    let p = number_at c.args.grid.now.places in
    let T = c.requires.tables.tracks in
    let q : c.corner-frame.result ≡ corner_of S y x = c.corner-frame.ensures in
    IfOk-weaker c.compose.result (λ d. d ≡ drawing S N Polyline c.corner-frame.result (dot N p y) (bent S y x p) (λ v. item_place (dot N p y v))) (λ d. d ≡ polylines S N y x p)
    (λ d r. r ∙ ap (λ z. drawing S N Polyline z (dot N p y) (bent S y x p) (dot_place p y)) q)
    (c.compose.ensures (dot N p y) (bent S y x p) (record {
      figures = record {
        callable = λ v l. search rules;
        answers = λ v z l h. search rules;
        fits = λ v l. subst (λ (z : Point). FitsFrame z (dot N p y v)) (sym q) (dot_inside S c.local.ensures y x p T N c.requires.names v l);
      };
      kind = λ v l. tt;
      lines = record {
        callable = λ e l. search rules;
        answers = λ e z l h. search rules;
        fits = λ e l. subst (λ (z : Point). FitsFrame z (line S N (bent S y x p) e)) (sym q) (line_fits S c.local.ensures y x p T N c.requires.names e l);
      };
    }))
