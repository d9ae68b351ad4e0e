use Rattle.std.proofs.Common.{ap, Some}
use Rattle.st_shape.proofs.Public.{IsFault-clean, IsFault-unique, All-ordinary}
use Rattle.eps_check.proofs.OverlapLemmas.{least_of, none_of}
use Rattle.eps_check.proofs.first.first_fault.Goals as goal

pub first_pair-requires-clause-ordinary : goal.first_pair-requires-clause-ordinary
first_pair-requires-clause-ordinary c = All-ordinary c.args.form c.args.items.now c.requires.grid c.in-None.ensures

pub returns-in-Some-clause-clean : goal.returns-in-Some-clause-clean
returns-in-Some-clause-clean c = λ t. let w = c.in-Some.ensures in absurd (t.alone _ w.within w.faulty)

pub returns-in-Some-clause-exact : goal.returns-in-Some-clause-exact
returns-in-Some-clause-exact c = λ f h. ap Some (IsFault-unique c.args.form c.args.items.now _ f c.in-Some.ensures h)

pub returns-in-Some-found-clause-clean : goal.returns-in-Some-found-clause-clean
returns-in-Some-found-clause-clean c = λ t.
    let w = least_of c.args.items.now _ _ c.in-Some-found.is c.in_ok-found-in-None.ensures in
    absurd (t.pairs _ _ w.order w.within w.faulty)

pub returns-in-Some-found-clause-exact : goal.returns-in-Some-found-clause-exact
returns-in-Some-found-clause-exact c = λ f h.
    let w = least_of c.args.items.now _ _ c.in-Some-found.is c.in_ok-found-in-None.ensures in
    ap Some (IsFault-unique c.args.form c.args.items.now _ f (record { alone = c.in-None.ensures; least = w }) h)

pub returns-clause-exact : goal.returns-clause-exact
returns-clause-exact c = λ f h.
    let w = none_of c.args.items.now _ c.in-None-found.is c.in_ok-found-in-None.ensures in
    absurd (IsFault-clean c.args.form c.args.items.now f (record { alone = c.in-None.ensures; pairs = w }) h)
