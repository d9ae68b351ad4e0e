-- The graph of a file's bytes, found in stages within the limits.
--   IsFew, IsTree, IsGraph    each says what it finds, and when it refuses
--   IsGraphIn bytes           tree and graph: the graph of the bytes, or the first refusal
--   IsGraphWithin bytes       the same, with the limit of bytes before them
--   OneTree, OneGraph         each finds one value or refuses for one reason
use Rattle.std.specs.Prelude.{◌≡◌, ℕ, ◌<◌, ◌≤◌, List, length, Some, None, Result, Ok, Err}
use Rattle.st_ids.specs.declared.limits.TheConstants.{MOST_BYTES, MOST_EDGES, MOST_VERTICES}
use Rattle.gml_core.specs.Trees.{Entries}
use Rattle.gml_core.specs.Reading.{IsText, IsFirstFault}
use Rattle.st_input.specs.InputGraph.{InputGraph}
use Rattle.st_input.specs.Embedding.{embedded_graph}
use Rattle.st_input.specs.FirstFault.{shape_fault}
use Rattle.st_report.specs.declared.stop.Refusal.{Refusal}
use Rattle.st_report.specs.declared.stop.Refusal.TheVariants.{TooManyBytes, Gml, Shape}
use Rattle.st_verdict.specs.Stages.{Then, IsToldBy, IsOne}

-- more bytes than the limit are refused
abbrev pub IsFew : List ℕ → Result (Unit {0}) Refusal → Type 0
IsFew bytes (Ok _) = length bytes ≤ MOST_BYTES
IsFew bytes (Err r) = (r ≡ TooManyBytes) × (MOST_BYTES < length bytes)

-- the tree whose text the bytes are; bytes that are no text are refused with their first fault
abbrev pub IsTree : List ℕ → Result Entries Refusal → Type 0
IsTree bytes (Ok tree) = IsText bytes tree
IsTree bytes (Err r) = IsToldBy (λ f. Gml f) (IsFirstFault bytes) r

-- the graph of the tree; a tree with a fault, the limits of vertices and edges last, is refused with the first
abbrev pub IsGraph : Entries → Result InputGraph Refusal → Type 0
IsGraph tree (Ok g) = (shape_fault tree MOST_VERTICES MOST_EDGES ≡ None) × (embedded_graph tree ≡ Some g)
IsGraph tree (Err r) = IsToldBy (λ f. Shape f) (λ f. shape_fault tree MOST_VERTICES MOST_EDGES ≡ Some f) r

-- the graph of the bytes: that of their tree
abbrev pub IsGraphIn : List ℕ → Result InputGraph Refusal → Type 0
IsGraphIn bytes = Then (IsTree bytes) IsGraph

-- the graph of the bytes, of which there are at most as many as the limit
abbrev pub IsGraphWithin : List ℕ → Result InputGraph Refusal → Type 0
IsGraphWithin bytes = Then (IsFew bytes) (λ _. IsGraphIn bytes)

-- bytes have one tree or one first fault, and a tree has one graph or one first fault
abbrev pub OneTree : Type 0
OneTree = (bytes : List ℕ) → IsOne (IsTree bytes)

abbrev pub OneGraph : Type 0
OneGraph = (tree : Entries) → IsOne (IsGraph tree)
