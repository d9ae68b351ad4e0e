-- Closures that weigh edges.
--   WeightsValue F               what `Weights` is seen as: the closure, for how many edges it is, and the greatest weight
--   AreLawfulWeights pre post w  on each edge the closure may be called, and it answers a number from 1 to the greatest weight
use Rattle.std.specs.Prelude.{ℕ, ◌<◌, ◌≤◌}
use Rattle.st_ids.specs.declared.ids.EdgeId.{EdgeId}

-- A closure, the number of edges that it is for, and the greatest weight.
pub record WeightsValue (F : Type 0) : Type 0 where
  pub closure : F
  pub edges : ℕ
  pub most : ℕ

-- On each edge the closure may be called, and answers a number from 1 to the greatest weight.
pub record AreLawfulWeights {F : Type 0} (pre : F → EdgeId → Type 0) (post : F → EdgeId → ℕ → Type 0) (w : WeightsValue F) : Type 0 where
  pub callable : (e : EdgeId) → e.0 < w.edges → pre w.closure e
  pub from_one : (e : EdgeId) (n : ℕ) → e.0 < w.edges → post w.closure e n → 1 ≤ n
  pub to_most : (e : EdgeId) (n : ℕ) → e.0 < w.edges → post w.closure e n → n ≤ w.most
