-- 'Before or left of' and 'before or right of' are strict total orders. Reaching is two comparisons.
use Rattle.std.proofs.Common.{ℕ, ◌≡◌, ◌≢◌, ◌<◌, ◌≤◌, ◌⊎◌, inl, inr, refl, sym, subst, arith}
use Rattle.std.proofs.lemmas.Bool.{cases_eq}
use Rattle.st_ids.specs.Walks.{Reaches}
use Rattle.st_sides.specs.Sides.{SidesValue, primal, IsSides}
use Rattle.st_sides.specs.Objects.{Object, vertex, IsObject, Before, LeftOf, before, after, leftward, rightward}
use Rattle.st_order.specs.Orders.{BeforeOrLeft, BeforeOrRight, IsX, IsY}
use Rattle.st_order.specs.Laws.{IsStrictOrder, IsNumbering, OrdersLaw, NumberingsLaw, ReachingLaw}
use Rattle.st_ids.proofs.Public.{reach_refl, reach_trans, reach_arc}
use Rattle.st_sides.proofs.Public.{across, own, own_walk, not_left_from, not_before_after, not_before_left, not_before_right, not_left_right, compared}
use Rattle.st_order.proofs.RankLemmas.{numbering, rank_grows, from_ranks, Counts-one}

module _ (g : SidesValue) (S : IsSides g) where
  pub before_trans : (o p q : Object) → IsObject g p → Before g o p → Before g p q → Before g o q
  before_trans o p q j h k = reach_trans h (reach_trans (record { way = own p; walk = own_walk g S p j }) k)

  pub left_trans : (o p q : Object) → IsObject g o → IsObject g p → IsObject g q → LeftOf g o p → LeftOf g p q → LeftOf g o q
  left_trans o p q i j l h k = elim (across g S p j) [
    | inl a ↦ reach_trans h (reach_trans a.from_left (reach_trans (reach_arc a.arc a.is_arc) (reach_trans a.to_right k)))
    | inr z ↦ absurd (not_left_from g S p q l z.1 k)
  ]

  -- F is 'left of', or 'right of'
  module _ (F : Object → Object → Type 0)
      (F-trans : (o p q : Object) → IsObject g o → IsObject g p → IsObject g q → F o p → F p q → F o q)
      (apart : (o p : Object) → IsObject g o → IsObject g p → Before g o p → F o p → ⊥)
      (apart' : (o p : Object) → IsObject g o → IsObject g p → Before g o p → F p o → ⊥)
      (not_both : (o p : Object) → IsObject g o → IsObject g p → F o p → F p o → ⊥)
      (cases : (o p : Object) → IsObject g o → IsObject g p → o ≢ p → (Before g o p ⊎ F o p) ⊎ (Before g p o ⊎ F p o)) where
    -- no two different objects stand before one another
    asymmetric : (o p : Object) → IsObject g o → IsObject g p → o ≢ p → Before g o p ⊎ F o p → Before g p o ⊎ F p o → ⊥
    asymmetric o p i j d (inl h) (inl k) = not_before_after g S o p i j d h k
    asymmetric o p i j d (inl h) (inr k) = apart' o p i j h k
    asymmetric o p i j d (inr h) (inl k) = apart' p o j i k h
    asymmetric o p i j d (inr h) (inr k) = not_both o p i j h k

    joined : (o p q : Object) → IsObject g o → IsObject g p → IsObject g q → o ≢ q → Before g o p ⊎ F o p → Before g p q ⊎ F p q → Before g o q ⊎ F o q
    joined o p q i j l d (inl h) (inl k) = inl (before_trans o p q j h k)
    joined o p q i j l d (inr h) (inr k) = inr (F-trans o p q i j l h k)
    joined o p q i j l d (inl h) (inr k) = elim (cases o q i l d) [
      | inl m ↦ m
      | inr m ↦ elim m [
        | inl b ↦ absurd (apart' q p l j (before_trans q o p i b h) k)
        | inr b ↦ absurd (apart' o p i j h (F-trans p q o j l i k b))
      ]
    ]
    joined o p q i j l d (inr h) (inl k) = elim (cases o q i l d) [
      | inl m ↦ m
      | inr m ↦ elim m [
        | inl b ↦ absurd (apart' p o j i (before_trans p q o l k b) h)
        | inr b ↦ absurd (apart' p q j l k (F-trans q o p l i j b h))
      ]
    ]

    pub order : IsStrictOrder (IsObject g) (λ o p. (o ≢ p) × (Before g o p ⊎ F o p))
    order = record {
      irreflexive = λ o h. h.0 refl;
      transitive = λ o p q i j l h k.
          let d : o ≢ q = λ e. asymmetric o p i j h.0 h.1 (subst (λ z. Before g p z ⊎ F p z) (sym e) k.1) in
          (d, joined o p q i j l d h.1 k.1);
      total = λ o p i j d. elim (cases o p i j d) [ inl h ↦ inl (d, h) | inr h ↦ inr ((λ e. d (sym e)), h) ];
    }

  x_cases : (o p : Object) → IsObject g o → IsObject g p → o ≢ p → (Before g o p ⊎ LeftOf g o p) ⊎ (Before g p o ⊎ LeftOf g p o)
  x_cases o p i j d = elim (compared g S o p i j d) [
    | before h ↦ inl (inl h)
    | after h ↦ inr (inl h)
    | leftward h ↦ inl (inr h)
    | rightward h ↦ inr (inr h)
  ]

  y_cases : (o p : Object) → IsObject g o → IsObject g p → o ≢ p → (Before g o p ⊎ LeftOf g p o) ⊎ (Before g p o ⊎ LeftOf g o p)
  y_cases o p i j d = elim (compared g S o p i j d) [
    | before h ↦ inl (inl h)
    | after h ↦ inr (inl h)
    | leftward h ↦ inr (inr h)
    | rightward h ↦ inl (inr h)
  ]

  pub x_order : IsStrictOrder (IsObject g) (BeforeOrLeft g)
  x_order = order (LeftOf g) left_trans (not_before_left g S) (not_before_right g S) (not_left_right g S) x_cases

  pub y_order : IsStrictOrder (IsObject g) (BeforeOrRight g)
  y_order = order (λ o p. LeftOf g p o) (λ o p q i j l h k. left_trans q p o l j i k h) (not_before_right g S) (not_before_left g S) (λ o p i j h k. not_left_right g S o p i j k h) y_cases

  -- ---- the vertices among the objects
  vertex_same : (u v : ℕ) → vertex u ≡ vertex v → u ≡ v
  vertex_same u v h = cc h

  vertices : (R : Object → Object → Type 0) → IsStrictOrder (IsObject g) R → IsStrictOrder (λ (u : ℕ). u < g.vertices) (λ u v. R (vertex u) (vertex v))
  vertices R T = record {
    irreflexive = λ u h. T.irreflexive (vertex u) h;
    transitive = λ u v w i j l h k. T.transitive (vertex u) (vertex v) (vertex w) i j l h k;
    total = λ u v i j d. T.total (vertex u) (vertex v) i j (λ e. d (vertex_same u v e));
  }

  pub x_vertices : IsStrictOrder (λ (u : ℕ). u < g.vertices) (λ u v. BeforeOrLeft g (vertex u) (vertex v))
  x_vertices = vertices (BeforeOrLeft g) x_order

  pub y_vertices : IsStrictOrder (λ (u : ℕ). u < g.vertices) (λ u v. BeforeOrRight g (vertex u) (vertex v))
  y_vertices = vertices (BeforeOrRight g) y_order

  pub reaching : (u v : ℕ) → u < g.vertices → v < g.vertices → (xu yu xv yv : ℕ) → IsX g u xu → IsY g u yu → IsX g v xv → IsY g v yv → Reaches (primal g) u v → (xu ≤ xv) × (yu ≤ yv)
  reaching u v i j xu yu xv yv a b c d h = elim (cases_eq u v) [
    | inl q ↦
        let p : xu ≡ xv = Counts-one (λ w. (w < g.vertices) × BeforeOrLeft g (vertex w) (vertex v)) xu xv (subst (λ z. IsX g z xu) q a) c in
        let r : yu ≡ yv = Counts-one (λ w. (w < g.vertices) × BeforeOrRight g (vertex w) (vertex v)) yu yv (subst (λ z. IsY g z yu) q b) d in
        (omega arith, omega arith)
    | inr n ↦
        let m : vertex u ≢ vertex v = λ e. n (vertex_same u v e) in
        let p : xu < xv = rank_grows g.vertices (λ u v. BeforeOrLeft g (vertex u) (vertex v)) x_vertices u v xu xv i j a c (m, inl h) in
        let r : yu < yv = rank_grows g.vertices (λ u v. BeforeOrRight g (vertex u) (vertex v)) y_vertices u v yu yv i j b d (m, inl h) in
        (omega arith, omega arith)
  ]

  pub reached : (u v : ℕ) → u < g.vertices → v < g.vertices → (xu yu xv yv : ℕ) → IsX g u xu → IsY g u yu → IsX g v xv → IsY g v yv → xu ≤ xv → yu ≤ yv → Reaches (primal g) u v
  reached u v i j xu yu xv yv a b c d l m =
      elim (from_ranks g.vertices (λ u v. BeforeOrLeft g (vertex u) (vertex v)) x_vertices u v xu xv i j a c l) [
        | inl q ↦ reach_refl q
        | inr h ↦ elim (from_ranks g.vertices (λ u v. BeforeOrRight g (vertex u) (vertex v)) y_vertices u v yu yv i j b d m) [
          | inl q ↦ reach_refl q
          | inr k ↦ elim h.1 [
            | inl r ↦ r
            | inr w ↦ elim k.1 [
              | inl r ↦ r
              | inr w' ↦ absurd (not_left_right g S (vertex u) (vertex v) i j w w')
            ]
          ]
        ]
      ]

  x_numbers : IsNumbering g.vertices (IsX g)
  x_numbers = numbering g.vertices (λ u v. BeforeOrLeft g (vertex u) (vertex v)) x_vertices

  y_numbers : IsNumbering g.vertices (IsY g)
  y_numbers = numbering g.vertices (λ u v. BeforeOrRight g (vertex u) (vertex v)) y_vertices

pub orders_law : OrdersLaw
orders_law g S = record { left_transitive = left_trans g S; x_order = x_order g S; y_order = y_order g S }

pub numberings_law : NumberingsLaw
numberings_law g S = record { x_numbers = x_numbers g S; y_numbers = y_numbers g S }

pub reaching_law : ReachingLaw
reaching_law g S u v i j xu yu xv yv a b c d = (
  reaching g S u v i j xu yu xv yv a b c d,
  (λ h. reached g S u v i j xu yu xv yv a b c d h.0 h.1),
)
