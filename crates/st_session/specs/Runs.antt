-- Lists of calls of a session, and the law that speaks of each of them.
-- Letters: x, y and z values of a session, c call, r reply.
--   Edit, Call            a split, an insert or a removal with its names; an edit or a question
--   Applies x c y         the edit is carried out
--   Runs x cs rs z        the calls lead from x to z, one after the other, and the questions among them have the replies
--   SessionLaw            what is kept by each call that is carried out, and by every list of calls
use Rattle.std.specs.Prelude.{ℤ, List, [], ◌∷◌}
use Rattle.st_session.specs.Edits.{InsertsEdgeTo, RemovesEdgeTo, SplitsEdgeTo}
use Rattle.st_session.specs.Replies.{IsReply}
use Rattle.st_session.specs.States.{IsState, SessionValue}
use Rattle.st_session.specs.declared.insertion.InsertNames.{InsertNames}
use Rattle.st_session.specs.declared.reply.Reply.{Reply}

-- an edit, with the names that it is given
pub data Edit : Type 0 where
  by_split : (edge vertex new_edge : ℤ) → Edit
  by_insert : InsertNames → Edit
  by_removal : (edge : ℤ) → Edit

-- the edit leads from x to y
abbrev pub Applies : SessionValue → Edit → SessionValue → Type 0
Applies x (by_split edge vertex new_edge) y = SplitsEdgeTo x edge vertex new_edge y
Applies x (by_insert w) y = InsertsEdgeTo x w y
Applies x (by_removal edge) y = RemovesEdgeTo x edge y

-- an edit or a question
pub data Call : Type 0 where
  editing : Edit → Call
  asking : (from to : ℤ) → Call

-- Each edit leads from one state to the next, and each question has the reply of the state that it is asked in.
pub data Runs : SessionValue → List Call → List Reply → SessionValue → Type 0 where
  at_end : {x : SessionValue} → Runs x [] [] x
  edited : {x y z : SessionValue} {c : Edit} {cs : List Call} {rs : List Reply} → Applies x c y → Runs y cs rs z → Runs x (editing c ∷ cs) rs z
  asked : {x z : SessionValue} {from to : ℤ} {cs : List Call} {r : Reply} {rs : List Reply} → IsReply x.state from to r → Runs x cs rs z → Runs x (asking from to ∷ cs) (r ∷ rs) z

-- from a planar st-graph with names that differ every list of calls leads to one
abbrev pub SessionLaw : Type 0
SessionLaw = (x z : SessionValue) (cs : List Call) (rs : List Reply) → IsState x.state → Runs x cs rs z → IsState z.state
