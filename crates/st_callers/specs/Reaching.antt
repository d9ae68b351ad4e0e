-- Answers to pairs of vertices.
--   pair_at pairs i               a pair by its place
--   ArePairsBelow n pairs         the vertices of each pair are below n
--   AnswersEach P pairs answers   each answer is yes exactly where P holds of the vertices of the pair at its place
use Rattle.std.specs.Prelude.{ℕ, ◌<◌, ◌↔◌, Bool, false, IsTrue, List, length, slice_index_or}
use Rattle.st_ids.specs.declared.ids.VertexId.{VertexId}

-- a pair by its place
abbrev pub pair_at : List (VertexId × VertexId) → ℕ → VertexId × VertexId
pair_at pairs i = slice_index_or pairs i (record { 0 = 0 }, record { 0 = 0 })

-- the vertices of each pair are below n
abbrev pub ArePairsBelow : ℕ → List (VertexId × VertexId) → Type 0
ArePairsBelow n pairs = (i : ℕ) → i < length pairs → ((pair_at pairs i).0.0 < n) × ((pair_at pairs i).1.0 < n)

-- each answer is yes exactly where P holds of the vertices of the pair at its place
abbrev pub AnswersEach : (ℕ → ℕ → Type 0) → List (VertexId × VertexId) → List Bool → Type 0
AnswersEach P pairs answers = (i : ℕ) → i < length answers → IsTrue (slice_index_or answers i false) ↔ P (pair_at pairs i).0.0 (pair_at pairs i).1.0
