use Rattle.std.proofs.Common.{◌≡◌, ◌-◌, rules, sym, subst, ap, ◌∙◌}
use Rattle.std.proofs.lemmas.Result.{IfOk-weaker}
use Rattle.st_shape.specs.declared.point.Point.{Point}
use Rattle.st_shape.specs.Rules.{FitsFrame}
use Rattle.st_picture.specs.Bars.{bar, bar_start, bars, number_at, upright}
use Rattle.st_picture.specs.Items.{grid_point, drawing, line, item_place}
use Rattle.st_picture.proofs.BarLemmas.{bar_fits, line_fits}
use Rattle.st_picture.proofs.bars.bars_and_lines.Goals as goal

pub compose-requires-clause-items : goal.compose-requires-clause-items
compose-requires-clause-items c =
    let S = c.args.sides.now in
    let N = c.args.names.now in
    let y = number_at c.args.heights.now in
    let x = number_at c.args.columns.now in
    let k = number_at c.args.lines.now in
    let q : c.corner-frame.result ≡ grid_point (x S.t_star - 1) (y S.sink) = c.corner-frame.ensures in (
      bar S N y x,
      upright S y k,
      record {
        figures = record {
          callable = λ v l. search rules;
          answers = λ v z l h. search rules;
          fits = λ v l. subst (λ (z : Point). FitsFrame z (bar S N y x v)) (sym q) (bar_fits S c.local.ensures y x k c.requires.tables.up c.requires.tables.rightward c.requires.tables.between N c.requires.names c.args.form v l);
        };
        kind = λ v l. tt;
        lines = record {
          callable = λ e l. search rules;
          answers = λ e z l h. search rules;
          fits = λ e l. subst (λ (z : Point). FitsFrame z (line S N (upright S y k) e)) (sym q) (line_fits S c.local.ensures y x k c.requires.tables.up c.requires.tables.rightward c.requires.tables.between N c.requires.names c.args.form e l);
        };
      },
    )

pub returns : goal.returns
returns c =
    let S = c.args.sides.now in
    let N = c.args.names.now in
    let y = number_at c.args.heights.now in
    let x = number_at c.args.columns.now in
    let k = number_at c.args.lines.now in
    let q : c.corner-frame.result ≡ grid_point (x S.t_star - 1) (y S.sink) = c.corner-frame.ensures in
    IfOk-weaker c.compose.result (λ d. d ≡ drawing S N c.args.form c.corner-frame.result (bar S N y x) (upright S y k) (λ v. item_place (bar S N y x v))) (λ d. d ≡ bars S N c.args.form y x k)
    (λ d p. p ∙ ap (λ z. drawing S N c.args.form z (bar S N y x) (upright S y k) (bar_start S y x)) q)
    (c.compose.ensures (bar S N y x) (upright S y k) (record {
      figures = record {
        callable = λ v l. search rules;
        answers = λ v z l h. search rules;
        fits = λ v l. subst (λ (z : Point). FitsFrame z (bar S N y x v)) (sym q) (bar_fits S c.local.ensures y x k c.requires.tables.up c.requires.tables.rightward c.requires.tables.between N c.requires.names c.args.form v l);
      };
      kind = λ v l. tt;
      lines = record {
        callable = λ e l. search rules;
        answers = λ e z l h. search rules;
        fits = λ e l. subst (λ (z : Point). FitsFrame z (line S N (upright S y k) e)) (sym q) (line_fits S c.local.ensures y x k c.requires.tables.up c.requires.tables.rightward c.requires.tables.between N c.requires.names c.args.form e l);
      };
    }))
