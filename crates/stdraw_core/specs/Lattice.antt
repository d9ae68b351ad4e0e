-- What a join or a meet answers about a planar st-graph.
-- Letters: g graph of the file, st planar st-graph, x its sides, u, v and w vertices, op which bound.
--   IsBound op x u v w           w is the join of u and v, or their meet
--   ReachesBound op x u w        u reaches w, or is reached from it: so stand two vertices and their bound
--   bound_line, walk_line        the names of two vertices and of their bound; the names of a walk's ends and of its edges
--   IsWalkLine g x u w line      the line of the leftmost walk from u to w
--   ShowsBound op g x u w line   the line of the walk from u up to a join, or from a meet up to u
--   TellsBound op g x u v out    the line of the bound, and the lines of the two walks that show it
--   AreBoundLines                these lines, about the vertices of two names
--   AnswersLattice               these lines, or the first name that no vertex has
use Rattle.std.specs.Prelude.{◌≡◌, ℕ, ℤ, List, [], ◌∷◌, ◌++◌, codes, map, Result, Ok, Err}
use Rattle.st_ids.specs.Walks.{Reaches}
use Rattle.st_input.specs.InputGraph.{InputGraph}
use Rattle.st_lattice.specs.Bounds.{IsJoin, IsMeet}
use Rattle.st_lattice.specs.Leftmost.{Leftmost}
use Rattle.st_report.specs.Lines.{spaced, names_line}
use Rattle.st_report.specs.declared.stop.Refusal.{Refusal}
use Rattle.st_report.specs.declared.stop.Refusal.TheVariants.{UnknownVertex}
use Rattle.st_sides.specs.Sides.{SidesValue, primal}
use Rattle.st_test.specs.Planar.{StValue}
use Rattle.st_verdict.specs.Stages.{IsToldBy}
use Rattle.st_verdict.specs.Verdict.{file_vertex_name, file_edge_name}
use Rattle.st_words.specs.Words.{operation_word}
use Rattle.st_words.specs.declared.words.Operation.{Operation}
use Rattle.st_words.specs.declared.words.Operation.TheVariants.{Join, Meet}
use Rattle.stdraw_core.specs.Paths.{AreSidesIn}
use Rattle.stdraw_core.specs.Query.{IsNamed, IsFirstUnknown}

-- w is the join of u and v, or their meet
abbrev pub IsBound : Operation → SidesValue → ℕ → ℕ → ℕ → Type 0
IsBound Join x u v w = IsJoin x u v w
IsBound Meet x u v w = IsMeet x u v w

-- a walk leads from u up to a join w, or from a meet w up to u
abbrev pub ReachesBound : Operation → SidesValue → ℕ → ℕ → Type 0
ReachesBound Join x u w = Reaches (primal x) u w
ReachesBound Meet x u w = Reaches (primal x) w u

-- which bound, and the names of two vertices and of their bound
abbrev pub bound_line : Operation → ℤ → ℤ → ℤ → List ℕ
bound_line op from to bound = operation_word op ++ names_line (from ∷ to ∷ bound ∷ [])

-- the names of the ends of a walk, and those of its edges
abbrev pub walk_line : ℤ → ℤ → List ℤ → List ℕ
walk_line from to edges = codes "walk" ++ (spaced (from ∷ to ∷ []) ++ (codes ":" ++ names_line edges))

-- the line of the leftmost walk from u to w
pub record IsWalkLine (g : InputGraph) (x : SidesValue) (u w : ℕ) (line : List ℕ) : Type 0 where
  pub walk : List ℕ
  pub leftmost : Leftmost x w u walk
  pub text : line ≡ walk_line (file_vertex_name g u) (file_vertex_name g w) (map (file_edge_name g) walk)

-- the line of the leftmost walk between u and a bound w: up to a join, up from a meet
abbrev pub ShowsBound : Operation → InputGraph → SidesValue → ℕ → ℕ → List ℕ → Type 0
ShowsBound Join g x u w line = IsWalkLine g x u w line
ShowsBound Meet g x u w line = IsWalkLine g x w u line

-- The line of the bound, and the lines of the walks between each of the two vertices and it.
pub record TellsBound (op : Operation) (g : InputGraph) (x : SidesValue) (u v : ℕ) (out : List ℕ) : Type 0 where
  pub bound : ℕ
  pub is : IsBound op x u v bound
  pub first : List ℕ
  pub shows_first : ShowsBound op g x u bound first
  pub second : List ℕ
  pub shows_second : ShowsBound op g x v bound second
  pub text : out ≡ bound_line op (file_vertex_name g u) (file_vertex_name g v) (file_vertex_name g bound) ++ (first ++ second)

-- the lines about the bound of the vertices of two names
pub record AreBoundLines (op : Operation) (from to : ℤ) (g : InputGraph) (st : StValue) (out : List ℕ) : Type 0 where
  pub u : ℕ
  pub v : ℕ
  pub from_named : IsNamed g u from
  pub to_named : IsNamed g v to
  pub sides : SidesValue
  pub are : AreSidesIn st sides
  pub tells : TellsBound op g sides u v out

-- what is answered: these lines, or the first name that no vertex has
abbrev pub AnswersLattice : Operation → ℤ → ℤ → InputGraph → StValue → Result (List ℕ) Refusal → Type 0
AnswersLattice op from to g st (Ok out) = AreBoundLines op from to g st out
AnswersLattice op from to g st (Err r) = IsToldBy (λ name. UnknownVertex name) (IsFirstUnknown g (from ∷ to ∷ [])) r
