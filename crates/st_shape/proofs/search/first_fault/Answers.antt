use Rattle.std.proofs.Common.{ap, Some}
use Rattle.st_shape.proofs.LeastLemmas.{IsFault-clean, IsFault-unique}
use Rattle.st_shape.proofs.SearchLemmas.{All-ordinary}
use Rattle.st_shape.proofs.search.first_fault.Goals as goal

pub first_pair-requires-clause-ordinary : goal.first_pair-requires-clause-ordinary
first_pair-requires-clause-ordinary c = All-ordinary c.args.form c.args.items.now c.requires.grid c.in-None.ensures

pub returns-in-Some-clause-clean : goal.returns-in-Some-clause-clean
returns-in-Some-clause-clean c = λ t. let w = c.in-Some.ensures in absurd (t.alone _ w.within w.faulty)

pub returns-in-Some-first_pair-clause-clean : goal.returns-in-Some-first_pair-clause-clean
returns-in-Some-first_pair-clause-clean c = λ t. let w = c.in-Some-first_pair.ensures in absurd (t.pairs _ _ w.order w.within w.faulty)

pub returns-in-Some-clause-exact : goal.returns-in-Some-clause-exact
returns-in-Some-clause-exact c = λ f h. ap Some (IsFault-unique c.args.form c.args.items.now _ f c.in-Some.ensures h)

pub returns-in-Some-first_pair-clause-exact : goal.returns-in-Some-first_pair-clause-exact
returns-in-Some-first_pair-clause-exact c = λ f h.
    ap Some (IsFault-unique c.args.form c.args.items.now _ f (record { alone = c.in-None.ensures; least = c.in-Some-first_pair.ensures }) h)

pub returns-in-None-first_pair-clause-exact : goal.returns-in-None-first_pair-clause-exact
returns-in-None-first_pair-clause-exact c = λ f h.
    absurd (IsFault-clean c.args.form c.args.items.now f (record { alone = c.in-None.ensures; pairs = c.in-None-first_pair.ensures }) h)
