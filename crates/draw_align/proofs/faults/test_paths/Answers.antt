use Rattle.std.proofs.Common.{subst}
use Rattle.std.specs.Prelude.{IfSome}
use Rattle.draw_align.specs.Faults.{IsFaultAt}
use Rattle.draw_align.specs.Listed.{AreSound}
use Rattle.draw_align.proofs.ApartLemmas.{sound_of, fault_at, fault_among}
use Rattle.draw_align.proofs.faults.test_paths.Goals as goal

pub returns-in-Some-clause-fault : goal.returns-in-Some-clause-fault
returns-in-Some-clause-fault c =
    let N = c.note_paths-fault.ensures.noted in
    fault_among c.args.sides.now c.args.paths.now c.note_paths-fault.new.noted.count c.in-Some.crossing N.within N.disjoint c.in-Some.ensures.some

pub returns-in-Some-fault-clause-fault : goal.returns-in-Some-fault-clause-fault
returns-in-Some-fault-clause-fault c =
    let n = c.note_paths-fault.new.noted.count in
    fault_at c.args.sides.now c.args.paths.now n c.in-Some-fault.fault c.note_paths-fault.ensures.noted.disjoint (c.crossing_fault.ensures.none c.in-None.is)
    (subst (λ z. IfSome z (IsFaultAt c.args.sides.now c.args.paths.now n)) c.in-Some-fault.is c.note_paths-fault.ensures.some)

pub returns-in-None-fault-clause-sound : goal.returns-in-None-fault-clause-sound
returns-in-None-fault-clause-sound c =
    let n = c.note_paths-fault.new.noted.count in
    subst (λ z. AreSound c.args.sides.now c.args.paths.now z) (c.note_paths-fault.ensures.none c.in-None-fault.is)
    (sound_of c.args.sides.now c.args.paths.now n c.note_paths-fault.ensures.noted.disjoint (c.crossing_fault.ensures.none c.in-None.is))
