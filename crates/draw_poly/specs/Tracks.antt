-- Lines that go straight up in a column, and slant only in the rows next to their ends, row by row.
--   track          the column of the line of e in row j
--   AreTracks g y c p   heights and columns grow, and each vertex stands between its left and its right; parallel edges are two
--                  rows high
--   IsCommonVertex both edges end at a vertex of row j
--   LinesMeet g y c p   two lines meet only in a row at a common vertex, and a line passes no vertex but its ends
--   TracksLaw g    so it is for all tracks
-- Letters: g sides, y heights, c columns of the dual nodes, p columns of the vertices, e and f edges, v vertex, j row.
use Rattle.std.specs.Prelude.{ℕ, ◌≡◌, ◌≢◌, ◌<◌, ◌≤◌, ◌+◌, ◌*◌, ◌⊎◌, cond, ◌==◌}
use Rattle.st_sides.specs.Sides.{SidesValue, edge_count, edge_tail, edge_head, face_left, left_of, right_of}
use Rattle.st_picture.specs.Growing.{GrowsUp, GrowsRight}

-- the place of the line of e in row j: the dot of its tail or head there, and else the column of the line
abbrev pub track : SidesValue → (ℕ → ℕ) → (ℕ → ℕ) → (ℕ → ℕ) → ℕ → ℕ → ℕ
track g y c p e j = cond (j == y (edge_tail g e)) (p (edge_tail g e)) (cond (j == y (edge_head g e)) (p (edge_head g e)) (c (face_left g e)))

-- heights, columns, and places of the dots on their bars; edges with the same ends are two rows high
pub record AreTracks (g : SidesValue) (y c p : ℕ → ℕ) : Type 0 where
  pub up : GrowsUp g y
  pub rightward : GrowsRight g c
  pub from : (v : ℕ) → v < g.vertices → c (left_of g v) ≤ p v
  pub to : (v : ℕ) → v < g.vertices → p v < c (right_of g v)
  pub high : (e f : ℕ) → e < edge_count g → f < edge_count g → e ≢ f → edge_tail g e ≡ edge_tail g f → edge_head g e ≡ edge_head g f → y (edge_tail g e) + 2 ≤ y (edge_head g e)

-- a vertex in row j at which both edges end
pub record IsCommonVertex (g : SidesValue) (y : ℕ → ℕ) (e f j : ℕ) : Type 0 where
  pub at : ℕ
  pub row : y at ≡ j
  pub of_first : (at ≡ edge_tail g e) ⊎ (at ≡ edge_head g e)
  pub of_second : (at ≡ edge_tail g f) ⊎ (at ≡ edge_head g f)

-- Where the lines of edges meet one another, and dots.
pub record LinesMeet (g : SidesValue) (y c p : ℕ → ℕ) : Type 0 where
  -- two lines at one place in a row have a common vertex there
  pub rows : (e f j : ℕ) → e < edge_count g → f < edge_count g → e ≢ f → y (edge_tail g e) ≤ j → j ≤ y (edge_head g e) → y (edge_tail g f) ≤ j → j ≤ y (edge_head g f) → track g y c p e j ≡ track g y c p f j → IsCommonVertex g y e f j
  -- between two rows no two lines meet: i of i + k is how far up
  pub between : (e f j i k : ℕ) → e < edge_count g → f < edge_count g → e ≢ f → y (edge_tail g e) ≤ j → j < y (edge_head g e) → y (edge_tail g f) ≤ j → j < y (edge_head g f) → 1 ≤ i → 1 ≤ k → k * track g y c p e j + i * track g y c p e (j + 1) ≡ k * track g y c p f j + i * track g y c p f (j + 1) → ⊥
  -- a line passes no dot but those of its ends
  pub dots : (e v : ℕ) → e < edge_count g → v < g.vertices → y (edge_tail g e) ≤ y v → y v ≤ y (edge_head g e) → track g y c p e (y v) ≡ p v → (v ≡ edge_tail g e) ⊎ (v ≡ edge_head g e)

-- Lines meet only so, for all heights and columns that grow and all places of the dots on their bars.
abbrev pub TracksLaw : SidesValue → Type 0
TracksLaw g = (y c p : ℕ → ℕ) → AreTracks g y c p → LinesMeet g y c p
