-- Least lengths of edges, in rows.
--   IsLength n   a length that an edge may have
use Rattle.std.specs.Prelude.{ℕ, ◌≤◌}
use Rattle.st_ids.specs.declared.limits.TheConstants.{MOST_LENGTH}

-- a length that an edge may have
abbrev pub IsLength : ℕ → Type 0
IsLength n = (1 ≤ n) × (n ≤ MOST_LENGTH)
