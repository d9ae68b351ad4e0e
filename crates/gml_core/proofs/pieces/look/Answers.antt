use Rattle.std.proofs.Common.{refl}
use Rattle.gml_core.specs.declared.pieces.State.TheVariants.{Start, Between, Comment}
use Rattle.gml_core.specs.Pieces.{coming}
use Rattle.gml_core.proofs.Begins.{start_goes, start_ends, one_goes, two_goes, failed_goes}
use Rattle.gml_core.proofs.pieces.look.Goals as goal

pub returns-then-rest : goal.returns-then-rest
returns-then-rest c = rw c.in-Start.is (start_goes c.args.at c.args.rest.now c.requires.some c.if-rest.true)

pub returns-else-rest : goal.returns-else-rest
returns-else-rest c = rw c.in-Start.is (c.gap.ensures Start refl (λ d. start_ends c.args.at c.args.rest.now d c.requires.some c.if-rest.false))

pub returns-in-MarkOne : goal.returns-in-MarkOne
returns-in-MarkOne c = rw c.in-MarkOne.is (one_goes c.args.at c.args.rest.now c.mark.result c.requires.some c.mark.ensures)

pub returns-in-MarkTwo : goal.returns-in-MarkTwo
returns-in-MarkTwo c = rw c.in-MarkTwo.is (two_goes c.args.at c.args.rest.now c.mark-in-MarkTwo.result c.requires.some c.mark-in-MarkTwo.ensures)

pub returns-in-Between : goal.returns-in-Between
unfolding coming
returns-in-Between c = rw c.in-Between.is (c.gap-in-Between.ensures Between refl (λ d. refl))

pub returns-in-Comment : goal.returns-in-Comment
unfolding coming
returns-in-Comment c = rw c.in-Comment.is (c.gap-in-Comment.ensures Comment refl (λ d. refl))

pub returns-in-Failed : goal.returns-in-Failed
returns-in-Failed c = rw c.in-Failed.is (failed_goes c.in-Failed.fault c.args.at c.args.rest.now c.requires.some)
