-- The first of the tests on an embedding that fails: Euler's formula, then both poles on the outer face.
use Rattle.std.specs.Prelude.{ℕ, ◌≡◌, ◌≢◌, ◌⊎◌, ◌↔◌, ◌+◌, IsTrue}
use Rattle.st_map.specs.Embedded.{Embedded, Touches, edges, faces}
use Rattle.st_test.specs.declared.verdict.EmbedFault.{EmbedFault}
use Rattle.st_test.specs.declared.verdict.EmbedFault.TheVariants.{BadFaces, Outer, NoMemory}

-- what a fault says of the graph g with source s, sink t and the end outer; want of memory says nothing
abbrev pub IsEmbedFault : Embedded → ℕ → ℕ → ℕ → EmbedFault → Type 0
IsEmbedFault g s t outer (BadFaces v e f) = (v ≡ g.vertices) × (e ≡ edges g) × (f ≡ faces g) × (g.vertices + faces g ≢ edges g + 2)
IsEmbedFault g s t outer (Outer a b) = (g.vertices + faces g ≡ edges g + 2) × (IsTrue a ↔ (Touches g outer s → ⊥)) × (IsTrue b ↔ (Touches g outer t → ⊥)) × (IsTrue a ⊎ IsTrue b)
IsEmbedFault g s t outer NoMemory = Unit {0}
