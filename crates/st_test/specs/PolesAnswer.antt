-- What the tests on a directed graph answer: the first that fails, with its evidence, or else the poles.
-- The tests, in their order: at least two vertices; no cycle; one vertex without an edge in; one without an edge out.
-- Letters: g graph, n number of vertices, P property of vertices, vs list of vertices.
--   AreInOrder n P vs        vs are the vertices with P, in file order
--   AreFirstTwo              the first two vertices with P, and how many have it
--   IsFirstDigraphFault g f  f names the first test that fails
--   IsPolesAnswer g r        r is the answer for g
--   OnePolesAnswer           each graph has at most one answer
-- Each case has all tests before it passed. Want of memory alone is free.
use Rattle.std.specs.Prelude.{ℕ, ◌≡◌, ◌≢◌, ◌<◌, ◌≤◌, List, length, slice_index, Result, Ok, Err}
use Rattle.st_ids.specs.Graph.{Graph, arcs_of}
use Rattle.st_ids.specs.Walks.{IsAcyclic}
use Rattle.st_test.specs.Cycle.{IsNamedCycle, IsLoop}
use Rattle.st_test.specs.Poles.{NoneIn, NoneOut, IsOnlySource, ArePoles}
use Rattle.st_test.specs.declared.digraph_fault.Poles.{Poles}
use Rattle.st_test.specs.declared.digraph_fault.DigraphFault.{DigraphFault}
use Rattle.st_test.specs.declared.digraph_fault.DigraphFault.TheVariants.{TooFew, Cycle, Sources, Sinks, NoMemory}

-- vs are the numbers below n with P, from the least to the greatest
pub record AreInOrder (n : ℕ) (P : ℕ → Type 0) (vs : List ℕ) : Type 0 where
  pub only : (k : ℕ) → k < length vs → (slice_index vs k < n) × P (slice_index vs k)
  pub each : (v : ℕ) → v < n → P v → (k : ℕ) × (k < length vs) × (slice_index vs k ≡ v)
  pub ordered : (i k : ℕ) → i < k → k < length vs → slice_index vs i < slice_index vs k

-- the first two of these, and how many there are
pub record AreFirstTwo (n : ℕ) (P : ℕ → Type 0) (first second count : ℕ) : Type 0 where
  pub all : List ℕ
  pub are : AreInOrder n P all
  pub many : length all ≡ count
  pub two : 2 ≤ count
  pub is_first : slice_index all 0 ≡ first
  pub is_second : slice_index all 1 ≡ second

-- the first test that fails, with its evidence
abbrev pub IsFirstDigraphFault : Graph → DigraphFault → Type 0
IsFirstDigraphFault g (TooFew k) = (k ≡ g.vertices) × (g.vertices < 2)
IsFirstDigraphFault g (Cycle es) = (2 ≤ g.vertices) × IsNamedCycle g es × IsLoop g es
IsFirstDigraphFault g (Sources a b k) = (2 ≤ g.vertices) × IsAcyclic (arcs_of g) × AreFirstTwo g.vertices (NoneIn g) a.0 b.0 k
IsFirstDigraphFault g (Sinks a b k) = (2 ≤ g.vertices) × IsAcyclic (arcs_of g) × ((s : ℕ) × IsOnlySource g s) × AreFirstTwo g.vertices (NoneOut g) a.0 b.0 k
IsFirstDigraphFault g NoMemory = Unit {0}

-- the poles, or the first test that fails
abbrev pub IsPolesAnswer : Graph → Result Poles DigraphFault → Type 0
IsPolesAnswer g (Ok p) = ArePoles g p.source.0 p.sink.0
IsPolesAnswer g (Err f) = IsFirstDigraphFault g f

-- Two answers for one graph are the same, want of memory aside. So each answer comes exactly where it is the answer.
abbrev pub OnePolesAnswer : Type 0
OnePolesAnswer = (g : Graph) (x y : Result Poles DigraphFault) → IsPolesAnswer g x → IsPolesAnswer g y
    → x ≢ Err NoMemory → y ≢ Err NoMemory → x ≡ y
