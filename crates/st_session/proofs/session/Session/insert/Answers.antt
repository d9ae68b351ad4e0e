use Rattle.std.proofs.Common.{rules, IfErr, OnOk, w64, to_z, of_z, subst}
use Rattle.std.proofs.lemmas.Int.{to_z-of_z}
use Rattle.st_session.specs.Edits.{InsertsEdgeTo, IsInsertFault}
use Rattle.st_session.specs.declared.insertion.InsertNames.{InsertNames}
use Rattle.st_session.proofs.SessionLemmas.{same_names}
use Rattle.st_session.proofs.session.Session.insert.Goals as goal

pub returns-clause-insert : goal.returns-clause-insert
returns-clause-insert c = subst (λ (w : InsertNames). OnOk c.insert_named.result (InsertsEdgeTo c.args.self.now w c.insert_named.new.self))
    (same_names (to_z w64 (of_z w64 c.args.edge)) c.args.edge (to_z w64 (of_z w64 c.args.tail)) c.args.tail (to_z w64 (of_z w64 c.args.tail_after)) c.args.tail_after (to_z w64 (of_z w64 c.args.head)) c.args.head (to_z w64 (of_z w64 c.args.head_after)) c.args.head_after (to_z-of_z w64 c.args.edge (search rules)) (to_z-of_z w64 c.args.tail (search rules)) (to_z-of_z w64 c.args.tail_after (search rules)) (to_z-of_z w64 c.args.head (search rules)) (to_z-of_z w64 c.args.head_after (search rules))) c.insert_named.ensures.insert

pub returns-clause-fault : goal.returns-clause-fault
returns-clause-fault c = subst (λ (w : InsertNames). IfErr c.insert_named.result (IsInsertFault c.args.self.now w))
    (same_names (to_z w64 (of_z w64 c.args.edge)) c.args.edge (to_z w64 (of_z w64 c.args.tail)) c.args.tail (to_z w64 (of_z w64 c.args.tail_after)) c.args.tail_after (to_z w64 (of_z w64 c.args.head)) c.args.head (to_z w64 (of_z w64 c.args.head_after)) c.args.head_after (to_z-of_z w64 c.args.edge (search rules)) (to_z-of_z w64 c.args.tail (search rules)) (to_z-of_z w64 c.args.tail_after (search rules)) (to_z-of_z w64 c.args.head (search rules)) (to_z-of_z w64 c.args.head_after (search rules))) c.insert_named.ensures.fault
