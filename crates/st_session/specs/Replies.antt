-- The reply to a question: whether one vertex reaches another, and the two numbers of both.
-- Letters: x state, u and v vertices, z sides of its graph, r reply.
--   AreReplyNumbers g outer u v r    r says whether u reaches v in g, and both numbers of both
--   IsReply x from to r       r is the reply to the question, in the state alone
--   IsAskFault x from to f    f is the first name that is unknown
--   OneReplyLaw               a question has one reply in a state
use Rattle.std.specs.Prelude.{ℕ, ℤ, ◌≡◌, ◌⊎◌, ◌↔◌, IsTrue}
use Rattle.st_ids.specs.Graph.{arcs_of}
use Rattle.st_ids.specs.Walks.{Reaches}
use Rattle.st_map.specs.Embedded.{Embedded, bare}
use Rattle.st_order.specs.Orders.{IsX, IsY}
use Rattle.st_sides.specs.Held.{HasSizes}
use Rattle.st_sides.specs.Sides.{SidesValue}
use Rattle.st_sides.specs.SidesOf.{IsSidesOf}
use Rattle.st_test.specs.Planar.{IsPlanarSt}
use Rattle.st_session.specs.States.{HasName, IsNameAt, IsState, LacksName, SessionState}
use Rattle.st_session.specs.declared.faults.AskFault.{AskFault}
use Rattle.st_session.specs.declared.faults.AskFault.TheVariants.{UnknownVertex, NoMemory}
use Rattle.st_session.specs.declared.reply.Reply.{Reply}

-- Whether u reaches v in the graph, and the numbers of u and v by the sides of the graph.
pub record AreReplyNumbers (g : Embedded) (outer u v : ℕ) (r : Reply) : Type 0 where
  pub reaches : IsTrue r.reaches ↔ Reaches (arcs_of (bare g)) u v
  pub source : ℕ
  pub sink : ℕ
  pub sides : SidesValue
  pub planar : IsPlanarSt g source sink outer
  pub are_sides : IsSidesOf g source sink outer sides
  pub sizes : HasSizes sides
  pub from_x : IsX sides u r.from_x
  pub from_y : IsY sides u r.from_y
  pub to_x : IsX sides v r.to_x
  pub to_y : IsY sides v r.to_y

pub record IsReply (x : SessionState) (from to : ℤ) (r : Reply) : Type 0 where
  pub u : ℕ
  pub v : ℕ
  pub from_is : IsNameAt x.vertex_names u from
  pub to_is : IsNameAt x.vertex_names v to
  pub numbers : AreReplyNumbers x.graph x.outer u v r

abbrev pub IsAskFault : SessionState → ℤ → ℤ → AskFault → Type 0
IsAskFault x from to (UnknownVertex n) = ((n ≡ from) × LacksName x.vertex_names from) ⊎ ((n ≡ to) × HasName x.vertex_names from × LacksName x.vertex_names to)
IsAskFault x from to NoMemory = Unit {0}

-- a question has one reply in a state
abbrev pub OneReplyLaw : Type 0
OneReplyLaw = (x : SessionState) (from to : ℤ) (r r' : Reply) → IsState x → IsReply x from to r → IsReply x from to r' → r ≡ r'
