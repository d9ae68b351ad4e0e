-- The greatest weights of walks: heights and columns.
--   weigh w es              the sum of the weights of a walk's arcs
--   IsGreatest D w a v n    some walk from a to v weighs n, and none weighs more
--   IsHeight g w v n        n is the height of the vertex v: the greatest weight of a walk from the source
--   IsColumn g f n          n is the column of the node f: the greatest number of arcs of a walk of the dual from the left
--                           half of the outer face
--   IsPass D n w a h        numbers that a pass along the arcs gives
--   GreatestLaw D n w a     each node has one greatest weight, it grows along the arcs, and a pass finds it
--   FiniteLaw               this holds where there is no cycle and an arc leads to each node but the first
--   HeightsLaw g            of the heights and the columns of sides
-- Letters: D arcs, w weights of arcs, a the first node, v node, e arc, n and k numbers, g sides, f node of the dual.
-- After Di Battista, Eades, Tamassia, Tollis, Graph Drawing (1999), ch. 4, where these are the y- and x-numbers.
use Rattle.std.specs.Prelude.{ℕ, List, [], ◌∷◌, ◌≡◌, ◌≢◌, ◌<◌, ◌≤◌, ◌+◌}
use Rattle.st_ids.specs.Walks.{Arcs, Walk, IsAcyclic}
use Rattle.st_sides.specs.Sides.{SidesValue, primal, dual}

-- the sum of the weights of a walk's arcs
abbrev pub weigh : (ℕ → ℕ) → List ℕ → ℕ
weigh w [] = 0
weigh w (e ∷ es) = w e + weigh w es

-- n is the greatest weight of a walk from a to v
pub record IsGreatest (D : Arcs) (w : ℕ → ℕ) (a v n : ℕ) : Type 0 where
  pub way : List ℕ
  pub walk : Walk D a way v
  pub weighs : weigh w way ≡ n
  pub most : (es : List ℕ) → Walk D a es v → weigh w es ≤ n

-- the height of a vertex, under weights of the edges
abbrev pub IsHeight : SidesValue → (ℕ → ℕ) → ℕ → ℕ → Type 0
IsHeight g w v n = IsGreatest (primal g) w g.source v n

-- the column of a node: the greatest number of arcs of a walk of the dual from node 0
abbrev pub IsColumn : SidesValue → ℕ → ℕ → Type 0
IsColumn g f n = IsGreatest (dual g) (λ _. 1) 0 f n

-- Numbers that a pass along the arcs gives: 0 at a, never less than what an arc brings, and elsewhere what some arc brings.
pub record IsPass (D : Arcs) (n : ℕ) (w : ℕ → ℕ) (a : ℕ) (h : ℕ → ℕ) : Type 0 where
  pub begins : h a ≡ 0
  pub enough : (e : ℕ) → e < D.count → h (D.from e) + w e ≤ h (D.to e)
  pub brought : (v : ℕ) → v < n → v ≢ a → (e : ℕ) × (e < D.count) × (D.to e ≡ v) × (h v ≡ h (D.from e) + w e)

-- The greatest weights from a: each node below n has one, they grow along the arcs, and a pass along the arcs finds them.
pub record GreatestLaw (D : Arcs) (n : ℕ) (w : ℕ → ℕ) (a : ℕ) : Type 0 where
  pub some : (v : ℕ) → v < n → (k : ℕ) × IsGreatest D w a v k
  pub one : (v j k : ℕ) → IsGreatest D w a v j → IsGreatest D w a v k → j ≡ k
  pub grows : (e : ℕ) → e < D.count → (j k : ℕ) → IsGreatest D w a (D.from e) j → IsGreatest D w a (D.to e) k → j + w e ≤ k
  pub by_pass : (h : ℕ → ℕ) → IsPass D n w a h → (v : ℕ) → v < n → IsGreatest D w a v (h v)

-- The arcs join nodes below n, and one at least leads to each node but a.
pub record IsRooted (D : Arcs) (n a : ℕ) : Type 0 where
  pub from_in : (e : ℕ) → e < D.count → D.from e < n
  pub to_in : (e : ℕ) → e < D.count → D.to e < n
  pub has_in : (v : ℕ) → v < n → v ≢ a → (e : ℕ) × (e < D.count) × (D.to e ≡ v)

-- Where there is no cycle and an arc leads to each node but a, the greatest weights from a are as said.
abbrev pub FiniteLaw : Type 0
FiniteLaw = (D : Arcs) (n : ℕ) (w : ℕ → ℕ) (a : ℕ) → IsAcyclic D → IsRooted D n a → GreatestLaw D n w a

-- The heights under any weights, and the columns.
pub record HeightsLaw (g : SidesValue) : Type 0 where
  pub heights : (w : ℕ → ℕ) → GreatestLaw (primal g) g.vertices w g.source
  pub columns : GreatestLaw (dual g) (g.t_star + 1) (λ _. 1) 0
