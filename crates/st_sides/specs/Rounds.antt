-- Steps round vertices and faces, and stretches of ends of one kind.
-- Letters: g graph, d end, f leads to the next end, b whether ends are out, x first end, n how many.
--   round g face       the next end of the face, or at the vertex
--   IsRun f b x n      from x on, n ends are out (or in), and then comes an end of the other kind, or x again
--   AreParts f x outs ins stop   the edges of the ends out from x on and of the ends in after them, and where the former stop
--   HasParts f x       from x on there are two such runs
use Rattle.std.specs.Prelude.{ℕ, ◌≡◌, ◌≢◌, ◌⊎◌, ◌<◌, Bool, true, false, List}
use Rattle.st_ids.specs.Ends.{is_out}
use Rattle.st_map.specs.Embedded.{Embedded, next, phi}
use Rattle.st_map.specs.Orbits.{iterate}
use Rattle.st_sides.specs.Stretches.{forward, backward}

-- one step along the face, or round the vertex
abbrev pub round : Embedded → Bool → ℕ → ℕ
round g true = phi g
round g false = next g

-- From x on, n ends are of one kind; then comes one of the other kind, or x again.
pub record IsRun (f : ℕ → ℕ) (b : Bool) (x n : ℕ) : Type 0 where
  pub alike : (j : ℕ) → j < n → is_out (iterate j f x) ≡ b
  pub apart : (j : ℕ) → 0 < j → j < n → iterate j f x ≢ x
  pub stops : (is_out (iterate n f x) ≢ b) ⊎ ((0 < n) × (iterate n f x ≡ x))

-- The ends out from x on, the ends in after them from the last to the first, and the end where the ends out stop.
pub record AreParts (f : ℕ → ℕ) (x : ℕ) (outs ins : List ℕ) (stop : ℕ) : Type 0 where
  pub outs_are : (k : ℕ) → IsRun f true x k → outs ≡ forward k f x
  pub ins_are : (k n : ℕ) → IsRun f true x k → IsRun f false (iterate k f x) n → ins ≡ backward n f (iterate k f x)
  pub stop_is : (k : ℕ) → IsRun f true x k → stop ≡ iterate k f x

-- From x on, ends out and then ends in, either of which may be none.
pub record HasParts (f : ℕ → ℕ) (x : ℕ) : Type 0 where
  pub k : ℕ
  pub n : ℕ
  pub outs_run : IsRun f true x k
  pub ins_run : IsRun f false (iterate k f x) n
