use Rattle.std.proofs.Common.{rules, w64, FitsSigned}
use Rattle.std.proofs.lemmas.Int.{to_z-of_z}
use Rattle.st_session.specs.Runs.{by_insert}
use Rattle.stdraw_core.proofs.SessionLemmas.{edit_refused}
use Rattle.stdraw_core.proofs.session.carry.Goals as goal

pub returns-in-Insert-clause-refused : goal.returns-in-Insert-clause-refused
returns-in-Insert-clause-refused c =
    let edge : FitsSigned w64 c.in-Insert.edge = search rules in
    let tail : FitsSigned w64 c.in-Insert.tail = search rules in
    let tail_after : FitsSigned w64 c.in-Insert.tail_after = search rules in
    let head : FitsSigned w64 c.in-Insert.head = search rules in
    let head_after : FitsSigned w64 c.in-Insert.head_after = search rules in
    let fault = rw (to_z-of_z w64 c.in-Insert.edge edge, to_z-of_z w64 c.in-Insert.tail tail, to_z-of_z w64 c.in-Insert.tail_after tail_after, to_z-of_z w64 c.in-Insert.head head, to_z-of_z w64 c.in-Insert.head_after head_after) at c.insert.ensures.fault in
    rw (c.in-Insert.is, c.edited-in-Insert.ensures)
    (edit_refused c.args.number (by_insert (record { edge = c.in-Insert.edge; tail = c.in-Insert.tail; tail_after = c.in-Insert.tail_after; head = c.in-Insert.head; head_after = c.in-Insert.head_after }))
    c.args.session.now c.args.text.now c.insert.result fault)
