use Rattle.std.proofs.Common.{refl, sym, ◌∙◌}
use Rattle.gml_core.specs.Pieces.{coming, after_gap}
use Rattle.gml_core.proofs.Looks.{key_last, number_last, number_last_fails}
use Rattle.gml_core.proofs.pieces.at_end.Goals as goal

pub returns-in-Start-clause-ok : goal.returns-in-Start-clause-ok
unfolding coming
returns-in-Start-clause-ok c = rw c.in-Start.is refl

pub returns-in-MarkOne-clause-err : goal.returns-in-MarkOne-clause-err
unfolding coming
returns-in-MarkOne-clause-err c = rw c.in-MarkOne.is refl

pub returns-in-MarkTwo-clause-err : goal.returns-in-MarkTwo-clause-err
unfolding coming
returns-in-MarkTwo-clause-err c = rw c.in-MarkTwo.is refl

pub returns-in-Between-clause-ok : goal.returns-in-Between-clause-ok
unfolding coming after_gap
returns-in-Between-clause-ok c = rw c.in-Between.is refl

pub returns-in-Comment-clause-ok : goal.returns-in-Comment-clause-ok
unfolding coming after_gap
returns-in-Comment-clause-ok c = rw c.in-Comment.is refl

pub returns-in-Key-clause-ok : goal.returns-in-Key-clause-ok
returns-in-Key-clause-ok c = let placed = rw (c.in-Inside.is, c.in-Key.is) at c.requires in rw (c.in-Inside.is, c.in-Key.is) (key_last c.in-Inside.from c.args.at c.in-Inside.held placed)

pub returns-in-Some-clause-ok : goal.returns-in-Some-clause-ok
returns-in-Some-clause-ok c =
    let placed = rw (c.in-Inside.is, c.in-Number.is) at c.requires in
    rw (c.in-Inside.is, c.in-Number.is) (number_last c.in-Inside.from c.args.at c.in-Inside.held c.bytes.result.now c.in-Some.kind placed c.bytes.ensures (sym c.number_kind.ensures.value ∙ c.in-Some.is) c.in-Some.ensures.kind)

pub returns-in-None-clause-err : goal.returns-in-None-clause-err
returns-in-None-clause-err c = rw (c.in-Inside.is, c.in-Number.is) (number_last_fails c.in-Inside.from c.args.at c.in-Inside.held c.bytes.result.now c.bytes.ensures (sym c.number_kind.ensures.value ∙ c.in-None.is))

pub returns-in-Quoted-clause-err : goal.returns-in-Quoted-clause-err
unfolding coming
returns-in-Quoted-clause-err c = rw (c.in-Inside.is, c.in-Quoted.is) refl

pub returns-in-Failed-clause-err : goal.returns-in-Failed-clause-err
unfolding coming
returns-in-Failed-clause-err c = rw c.in-Failed.is refl
