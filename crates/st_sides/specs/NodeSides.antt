-- The lowest and highest vertex and the two paths of one node.
-- Letters: g graph, s source, t sink, outer an end on the outer face, f node, x end.
--   NodeSides g s t outer f low high left right   these are the sides of node f
--   AreNodeLists g s t outer n ..                 lists with n entries, which are the sides of the nodes
--   NodeBegins g outer f x                        x is the first end out along the face of f
use Rattle.std.specs.Prelude.{ℕ, ◌≡◌, ◌≢◌, ◌⊎◌, ◌<◌, List, [], true, false, length, slice_index, slice_index_or}
use Rattle.st_ids.specs.Ends.{is_out}
use Rattle.st_map.specs.Embedded.{Embedded, darts, face, faces, phi}
use Rattle.st_sides.specs.Conditions.{IsSidePath, left_face, right_face, node}

-- the two vertices and the two paths of a node
pub record NodeSides (g : Embedded) (s t outer f low high : ℕ) (left right : List ℕ) : Type 0 where
  pub left_is : 0 < f → IsSidePath g (λ e. right_face g outer e ≡ f) low high left
  pub right_is : f < faces g → IsSidePath g (λ e. left_face g outer e ≡ f) low high right
  pub left_none : f ≡ 0 → left ≡ []
  pub right_none : f ≡ faces g → right ≡ []
  pub first : f ≡ 0 → (low ≡ s) × (high ≡ t)
  pub last : f ≡ faces g → (low ≡ s) × (high ≡ t)

-- the sides of the nodes below n
pub record AreNodeLists (g : Embedded) (s t outer n : ℕ) (lows highs : List ℕ) (lefts rights : List (List ℕ)) : Type 0 where
  pub lows_size : length lows ≡ n
  pub highs_size : length highs ≡ n
  pub lefts_size : length lefts ≡ n
  pub rights_size : length rights ≡ n
  pub each : (f : ℕ) → f < n → NodeSides g s t outer f (slice_index lows f) (slice_index highs f) (slice_index_or lefts f []) (slice_index_or rights f [])

-- x is an end out after an end in, on the face of f
pub record NodeBegins (g : Embedded) (outer f x : ℕ) : Type 0 where
  pub there : x < darts g
  pub after : (c : ℕ) × (c < darts g) × (is_out c ≡ false) × (phi g c ≡ x) × (is_out x ≡ true)
  pub outer_is : (f ≡ 0) ⊎ (f ≡ faces g) → face g x ≡ face g outer
  pub inner : 0 < f → f < faces g → (face g x ≢ face g outer) × (node g outer x ≡ f)
