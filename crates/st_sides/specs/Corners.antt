-- The four kinds of corners. A corner lies between the twin of d and phi d, where d and phi d follow on a face.
--   turns_up, turns_down    the face turns from down to up there, or from up to down
--   goes_up, goes_down      the face goes on; round the vertex the ends change from in to out, or from out to in
--   is_inner s t v          v is neither pole
-- Letters: phi the next end of a face, out whether an end is out, d end.
use Rattle.std.specs.Prelude.{ℕ, ◌==◌, ◌&&◌, Bool}
use Rattle.std.specs.Prelude.{not}

-- the face turns from down to up
abbrev pub turns_up : (ℕ → ℕ) → (ℕ → Bool) → ℕ → Bool
turns_up phi out d = not (out d) && out (phi d)

-- the face turns from up to down
abbrev pub turns_down : (ℕ → ℕ) → (ℕ → Bool) → ℕ → Bool
turns_down phi out d = out d && not (out (phi d))

-- the face goes on up; round the vertex, an end in is followed by an end out
abbrev pub goes_up : (ℕ → ℕ) → (ℕ → Bool) → ℕ → Bool
goes_up phi out d = out d && out (phi d)

-- the face goes on down; round the vertex, an end out is followed by an end in
abbrev pub goes_down : (ℕ → ℕ) → (ℕ → Bool) → ℕ → Bool
goes_down phi out d = not (out d) && not (out (phi d))

-- v is neither s nor t
abbrev pub is_inner : ℕ → ℕ → ℕ → Bool
is_inner s t v = not (s == v) && not (t == v)
