-- The ends of edges, by number: edge e has the end 2e at its tail and the end 2e + 1 at its head.
--   twin d      the other end of the same edge
--   edge_of d   the edge whose end it is
--   is_out d    whether the end is at the tail, so that the edge goes out of its vertex there
use Rattle.std.specs.Prelude.{ℕ, ◌+◌, ◌-◌, ◌/◌, ◌%◌, ◌==◌, Bool, cond}

-- the other end of the same edge
unfoldable pub twin : ℕ → ℕ
twin d = cond (d % 2 == 0) (d + 1) (d - 1)

-- the edge whose end it is
unfoldable pub edge_of : ℕ → ℕ
edge_of d = d / 2

-- whether it is the end at the tail
unfoldable pub is_out : ℕ → Bool
is_out d = d % 2 == 0
