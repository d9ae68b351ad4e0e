use Rattle.std.proofs.Common.{length, sym, subst, ap, ◌∙◌}
use Rattle.st_ids.specs.declared.limits.TheConstants.{MOST_EDGES}
use Rattle.st_picture.specs.Naming.{AreNames}
use Rattle.stdraw_core.proofs.DrawingLemmas.{names_meet, edges_within, lengths_there, names_are}
use Rattle.stdraw_core.specs.Drawing.{IsPictureOf}
use Rattle.stdraw_core.proofs.drawing.depict.Goals as goal

pub weighed-requires-clause-sides : goal.weighed-requires-clause-sides
weighed-requires-clause-sides c = record { sides = c.in-Ok.ensures; sizes = c.facts.ensures.sizes }

pub weighed-requires-clause-names : goal.weighed-requires-clause-names
weighed-requires-clause-names c =
    subst (AreNames c.in-Ok.sides) (sym (names_are c.args.spec.now c.names.result.now c.names.ensures.vertex c.names.ensures.edge c.names.ensures.label))
    (names_meet c.args.spec.now c.args.graph c.in-Ok.sides c.requires.tables c.requires.found c.in-Ok.ensures)

pub weighed-requires-clause-wide : goal.weighed-requires-clause-wide
weighed-requires-clause-wide c = edges_within c.args.spec.now c.args.graph c.in-Ok.sides c.requires.found c.in-Ok.ensures MOST_EDGES c.requires.wide

pub returns-in-Ok-weighed-clause-ok : goal.returns-in-Ok-weighed-clause-ok
returns-in-Ok-weighed-clause-ok c = record {
  sides = c.in-Ok.sides;
  are = record { sides = c.in-Ok.ensures; sizes = c.facts.ensures.sizes };
  is = subst (λ z. IsPictureOf c.args.form c.args.spec.now c.args.graph c.in-Ok.sides z c.in-Ok-weighed.picture) (names_are c.args.spec.now c.names.result.now c.names.ensures.vertex c.names.ensures.edge c.names.ensures.label) c.in-Ok-weighed.ensures.picture;
  rules = c.items.ensures.rules;
}

pub weighed-requires-clause-size : goal.weighed-requires-clause-size
weighed-requires-clause-size c =
    ap length c.lengths.ensures.value ∙ lengths_there c.args.spec.now c.args.graph c.in-Ok.sides c.requires.tables c.requires.found c.in-Ok.ensures
