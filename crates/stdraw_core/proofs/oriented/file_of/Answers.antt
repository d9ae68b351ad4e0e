use Rattle.std.proofs.Common.{ap, subst, ◌∙◌}
use Rattle.gml_core.specs.Printing.{printed}
use Rattle.gml_core.specs.Sound.{IsSound}
use Rattle.st_writer.specs.Written.{written_entries}
use Rattle.stdraw_core.proofs.DrawingLemmas.{if_ok}
use Rattle.stdraw_core.proofs.oriented.file_of.Goals as goal

pub returns-clause-text : goal.returns-clause-text
returns-clause-text c =
    if_ok c.print.result c.print.ensures (λ out e. e ∙ ap printed (c.in_ok-tree.ensures.entries ∙ ap written_entries c.with_ends-made.ensures.value))

pub returns-clause-sound : goal.returns-clause-sound
returns-clause-sound c =
    if_ok c.print.result c.print.ensures (λ out e. subst IsSound (c.in_ok-tree.ensures.entries ∙ ap written_entries c.with_ends-made.ensures.value) c.in_ok-tree.ensures.sound)
