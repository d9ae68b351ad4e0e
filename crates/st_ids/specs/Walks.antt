-- Walks along numbered arcs, and reaching.
--   Arcs              so many arcs, and where each leads from and to
--   Walk D u es v     the arcs es lead from u to v, each beginning where the one before it ends
--   Reaches D u v     some walk, possibly empty, leads from u to v
--   IsAcyclic D       no walk of at least one arc leads back to where it began
-- One theory serves the edges of a graph, its dual and every other relation that is given by arcs.
use Rattle.std.specs.Prelude.{ℕ, List, [], ◌∷◌, ◌≡◌, ◌<◌}

-- The arcs are the numbers below count.
pub record Arcs : Type 0 where
  pub count : ℕ
  pub from : ℕ → ℕ
  pub to : ℕ → ℕ

-- A list of arcs each of which begins where the one before it ends.
pub data Walk (D : Arcs) : ℕ → List ℕ → ℕ → Type 0 where
  stay : {u v : ℕ} → u ≡ v → Walk D u [] v
  step : {u v e : ℕ} {es : List ℕ} → e < D.count → D.from e ≡ u → Walk D (D.to e) es v → Walk D u (e ∷ es) v

-- a walk, possibly empty, leads from u to v
pub record Reaches (D : Arcs) (u v : ℕ) : Type 0 where
  pub way : List ℕ
  pub walk : Walk D u way v

-- no walk of at least one arc leads from a node to itself
abbrev pub IsAcyclic : Arcs → Type 0
IsAcyclic D = (u e : ℕ) (es : List ℕ) → Walk D u (e ∷ es) u → ⊥
