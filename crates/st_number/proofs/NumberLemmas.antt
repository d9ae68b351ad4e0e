-- Heights and columns of a graph exist, are the same for the same weights, begin at 0 and grow.
--   begins_at_0     a greatest weight of walks from a node to itself is 0
--   Chosen, chosen  the greatest weights as a function
--   numbers_law     heights and columns
use Rattle.std.proofs.Common.{ℕ, List, [], ◌∷◌, ◌≡◌, ◌<◌, ◌≤◌, ◌+◌, ◌⊎◌, inl, inr, sym, arith}
use Rattle.std.proofs.lemmas.Bool.{cases_lt}
use Rattle.st_ids.specs.Walks.{Arcs, Walk, IsAcyclic}
use Rattle.st_sides.specs.Sides.{SidesValue, edge_count, edge_tail, edge_head, face_left, face_right, primal, dual, IsSides}
use Rattle.st_sides.proofs.Public.{dual_acyclic}
use Rattle.st_number.specs.Greatest.{weigh, IsGreatest, GreatestLaw, HeightsLaw}
use Rattle.st_number.specs.Numbers.{AreWeights, GivesHeights, GivesColumns, NumbersLaw}
use Rattle.st_number.proofs.GreatestLemmas.{heights_law}

-- the greatest weight of a walk back to its beginning is 0
begins_at_0 : (D : Arcs) (w : ℕ → ℕ) (a n : ℕ) → IsAcyclic D → IsGreatest D w a a n → n ≡ 0
begins_at_0 D w a n acyclic G = go G.way G.walk G.weighs
  where
    go : (es : List ℕ) → Walk D a es a → weigh w es ≡ n → n ≡ 0
    go [] k q = sym q
    go (e ∷ es) k q = absurd (acyclic a e es k)

-- the greatest weights as a function
record Chosen (D : Arcs) (n : ℕ) (w : ℕ → ℕ) (a : ℕ) : Type 0 where
  pub of : ℕ → ℕ
  pub is : (v : ℕ) → v < n → IsGreatest D w a v (of v)

module _ (D : Arcs) (n : ℕ) (w : ℕ → ℕ) (a : ℕ) (G : GreatestLaw D n w a) where
  pick : (v : ℕ) → (v < n) ⊎ (n ≤ v) → ℕ
  pick v (inl l) = (G.some v l).0
  pick v (inr l) = 0

  picked : (v : ℕ) (d : (v < n) ⊎ (n ≤ v)) → v < n → IsGreatest D w a v (pick v d)
  unfolding pick
  picked v (inl l) i = (G.some v l).1
  picked v (inr l) i = absurd (omega arith)

  chosen : Chosen D n w a
  chosen = (let of : ℕ → ℕ = λ v. pick v (cases_lt v n) in record { of = of; is = λ v i. picked v (cases_lt v n) i })

module _ (g : SidesValue) (S : IsSides g) where
  law : HeightsLaw g
  law = heights_law g S

  columns_grow : (c : ℕ → ℕ) → GivesColumns g c → (e : ℕ) → e < edge_count g → c (face_left g e) < c (face_right g e)
  columns_grow c C e a =
      let l : face_left g e < g.t_star = S.left_before e a in
      let h : c (face_left g e) + 1 ≤ c (face_right g e) = law.columns.grows e a (c (face_left g e)) (c (face_right g e)) (C (face_left g e) (omega arith)) (C (face_right g e) (S.right_within e a)) in
      omega arith

  heights_grow : (w y : ℕ → ℕ) → AreWeights g w → GivesHeights g w y → (e : ℕ) → e < edge_count g → y (edge_tail g e) < y (edge_head g e)
  heights_grow w y W H e a =
      let one : 1 ≤ w e = W e a in
      let h : y (edge_tail g e) + w e ≤ y (edge_head g e) = (law.heights w).grows e a (y (edge_tail g e)) (y (edge_head g e)) (H (edge_tail g e) (S.tail_in e a)) (H (edge_head g e) (S.head_in e a)) in
      omega arith

  heights : (w : ℕ → ℕ) → Chosen (primal g) g.vertices w g.source
  heights w = chosen (primal g) g.vertices w g.source (law.heights w)

  columns : Chosen (dual g) (g.t_star + 1) (λ _. 1) 0
  columns = chosen (dual g) (g.t_star + 1) (λ _. 1) 0 law.columns

  pub numbers_law : NumbersLaw g
  numbers_law = record {
    some = λ w. ((heights w).of, columns.of, record { height = (heights w).is; column = λ f l. columns.is f (omega arith) });
    same_heights = λ w y y' A B v i. (law.heights w).one v (y v) (y' v) (A v i) (B v i);
    same_columns = λ c c' A B f l. law.columns.one f (c f) (c' f) (A f l) (B f l);
    source_height = λ w y H. begins_at_0 (primal g) w g.source (y g.source) S.acyclic (H g.source S.source_in);
    first_column = λ c C. begins_at_0 (dual g) (λ _. 1) 0 (c 0) (dual_acyclic g S) (C 0 (omega arith));
    heights_grow = heights_grow;
    columns_grow = columns_grow;
  }
