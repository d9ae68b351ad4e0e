-- What a query answers about a planar st-graph.
-- Letters: g graph of the file, st planar st-graph, points a point for each vertex, u and v vertices.
--   IsNamed g v name            vertex v has the name
--   names_of pairs              all names in their order
--   AreKnown g ns               each of the names is that of a vertex
--   IsFirstUnknown g ns name    the first of the names that no vertex has
--   AreDrawnPoints g st points  the points of the vertices in the dominance drawing of the file
--   DecideReaching g points     one vertex reaches another exactly where its point is at most the other's
--   line_of_pair ..             both names, the answer, both points
--   IsLine, AreQueryLines       a line that answers a pair, and one line a pair
--   AreAnswers g st pairs out   those lines, with the points of the dominance drawing
--   AnswersPairs, AnswersQuery  those lines, or the first name that no vertex has
use Rattle.std.specs.Prelude.{◌≡◌, ℕ, ◌<◌, ◌⊎◌, ◌↔◌, ℤ, Bool, IsTrue, if◌then◌else◌, List, [], ◌∷◌, ◌++◌, slice_get, Some, codes, Result, Ok, Err}
use Rattle.std.specs.Fmt.{signed_decimal}
use Rattle.st_ids.specs.Walks.{Reaches}
use Rattle.st_ids.specs.Graph.{Graph, arcs_of}
use Rattle.st_input.specs.InputGraph.{InputGraph}
use Rattle.st_report.specs.declared.stop.Refusal.{Refusal}
use Rattle.st_report.specs.declared.stop.Refusal.TheVariants.{UnknownVertex}
use Rattle.st_shape.specs.declared.point.Point.{Point}
use Rattle.st_shape.specs.Rules.{Drawing}
use Rattle.st_sides.specs.Sides.{SidesValue}
use Rattle.st_test.specs.Planar.{StValue}
use Rattle.draw_dom.specs.Points.{IsPointAtMost, vertex_point}
use Rattle.draw_dom.specs.Shown.{IsDominanceOf}
use Rattle.st_verdict.specs.Stages.{IsToldBy}
use Rattle.stdraw_core.specs.Drawing.{file_names}
use Rattle.stdraw_core.specs.Paths.{AreSidesIn}

-- vertex v has the name
abbrev pub IsNamed : InputGraph → ℕ → ℤ → Type 0
IsNamed g v name = slice_get g.vertex_names v ≡ Some name

-- some vertex has the name
abbrev pub IsKnownName : InputGraph → ℤ → Type 0
IsKnownName g name = (v : ℕ) × IsNamed g v name

-- no vertex has the name
abbrev pub IsUnknown : InputGraph → ℤ → Type 0
IsUnknown g name = (v : ℕ) → IsNamed g v name → ⊥

-- all names, in their order
abbrev pub names_of : List (ℤ × ℤ) → List ℤ
names_of [] = []
names_of (p ∷ pairs) = p.0 ∷ p.1 ∷ names_of pairs

-- each of the names is that of a vertex
abbrev pub AreKnown : InputGraph → List ℤ → Type 0
AreKnown g [] = Unit {0}
AreKnown g (n ∷ names) = IsKnownName g n × AreKnown g names

-- the first of the names that no vertex has
abbrev pub IsFirstUnknown : InputGraph → List ℤ → ℤ → Type 0
IsFirstUnknown g [] name = ⊥
IsFirstUnknown g (n ∷ names) name = (IsUnknown g n × (name ≡ n)) ⊎ (IsKnownName g n × IsFirstUnknown g names name)

-- The compact points of the vertices in the reduced graph: those that the dominance picture of the file draws.
pub record AreDrawnPoints (g : InputGraph) (st : StValue) (points : List Point) : Type 0 where
  pub sides : SidesValue
  pub are : AreSidesIn st sides
  pub picture : Drawing
  pub drawn : IsDominanceOf st.map.graph st.source st.sink st.outer sides (file_names g) picture points

-- a walk leads from one vertex to another exactly where neither coordinate of its point is above that of the other's
abbrev pub DecideReaching : Graph → List Point → Type 0
DecideReaching g points = (u v : ℕ) → u < g.vertices → v < g.vertices → Reaches (arcs_of g) u v ↔ IsPointAtMost points u v

-- the answer, and the end of a point
abbrev pub answer_word : Bool → List ℕ
answer_word reached = if reached then codes " yes " else codes " no "

-- both coordinates, and what follows
abbrev pub spelled : Point → List ℕ → List ℕ
spelled p tail = signed_decimal p.x ++ (codes " " ++ (signed_decimal p.y ++ tail))

-- the line of a pair: both names, the answer, both points
abbrev pub line_of_pair : ℤ → ℤ → Bool → Point → Point → List ℕ
line_of_pair from to reached p q = signed_decimal from ++ (codes " " ++ (signed_decimal to ++ (answer_word reached ++ spelled p (codes " ") ++ spelled q (codes "\n"))))

-- The line says yes exactly where a walk leads from the first vertex to the second, which is exactly where the first point is
-- at most the second.
pub record IsLine (g : InputGraph) (points : List Point) (p : ℤ × ℤ) (line : List ℕ) : Type 0 where
  pub from : ℕ
  pub to : ℕ
  pub from_named : IsNamed g from p.0
  pub to_named : IsNamed g to p.1
  pub answer : Bool
  pub reaches : IsTrue answer ↔ Reaches (arcs_of g.graph) from to
  pub at_most : IsTrue answer ↔ IsPointAtMost points from to
  pub text : line ≡ line_of_pair p.0 p.1 answer (vertex_point points from) (vertex_point points to)

-- one line a pair
pub data AreQueryLines (g : InputGraph) (points : List Point) : List (ℤ × ℤ) → List ℕ → Type 0 where
  no_line : {out : List ℕ} → out ≡ [] → AreQueryLines g points [] out
  one_line : {p : ℤ × ℤ} {pairs : List (ℤ × ℤ)} {out : List ℕ} (line rest : List ℕ) → IsLine g points p line → AreQueryLines g points pairs rest → out ≡ line ++ rest → AreQueryLines g points (p ∷ pairs) out

-- All names are those of vertices, and there is one line a pair, with the points of the dominance drawing.
pub record AreAnswers (g : InputGraph) (st : StValue) (pairs : List (ℤ × ℤ)) (out : List ℕ) : Type 0 where
  pub known : AreKnown g (names_of pairs)
  pub points : List Point
  pub are : AreDrawnPoints g st points
  pub lines : AreQueryLines g points pairs out

-- what is answered to pairs with these points: one line a pair, or the first name that no vertex has
abbrev pub AnswersPairs : List (ℤ × ℤ) → InputGraph → List Point → Result (List ℕ) Refusal → Type 0
AnswersPairs pairs g points (Ok out) = AreKnown g (names_of pairs) × AreQueryLines g points pairs out
AnswersPairs pairs g points (Err r) = IsToldBy (λ name. UnknownVertex name) (IsFirstUnknown g (names_of pairs)) r

-- what a query answers: the same with the points of the dominance drawing
abbrev pub AnswersQuery : List (ℤ × ℤ) → InputGraph → StValue → Result (List ℕ) Refusal → Type 0
AnswersQuery pairs g st (Ok out) = AreAnswers g st pairs out
AnswersQuery pairs g st (Err r) = IsToldBy (λ name. UnknownVertex name) (IsFirstUnknown g (names_of pairs)) r
