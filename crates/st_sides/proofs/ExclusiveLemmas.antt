-- Each walk from source to sink is a boundary. So of two objects, one before the other is not to its left or right.
use Rattle.std.proofs.Common.{ℕ, zero, suc, List, [], ◌∷◌, ◌++◌, length, ◌≡◌, ◌≢◌, ◌<◌, ◌≤◌, ◌+◌, ◌⊎◌, inl, inr, refl, sym, ap, ◌∙◌, subst, arith}
use Rattle.std.proofs.lemmas.Bool.{cases_eq}
use Rattle.st_ids.specs.Lists.{In, here}
use Rattle.st_ids.specs.Walks.{Walk, stay, step, Reaches}
use Rattle.st_sides.specs.Sides.{SidesValue, edge_count, edge_tail, face_left, face_right, outs, left_of, right_of, primal, dual, MeetsLow, IsSides}
use Rattle.st_sides.specs.Sweep.{OnBoundary}
use Rattle.st_sides.specs.Objects.{Object, vertex, edge, IsObject, bottom, top, left, right, Before, LeftOf}
use Rattle.st_ids.proofs.Public.{not_in_nil, In-cases, in_subst, in_right, first_of, on_walk, walk_append, reach_refl, reach_trans, reach_arc, no_loop, down, up, length-le_from_below}
use Rattle.st_sides.proofs.FanLemmas.{from_first, to_last}
use Rattle.st_sides.proofs.BoundaryLemmas.{Swept, start, grow, swept_below, swept_zero, swept_once, boundary, closed_reach}
use Rattle.st_sides.proofs.SearchLemmas.{search}
use Rattle.st_sides.proofs.SweepLemmas.{within, dual_acyclic}

-- a list, closed to the left, whose boundary has the walk
pub record Fit (g : SidesValue) (W : List ℕ) : Type 0 where
  pub list : List ℕ
  pub swept : Swept g list
  pub on : (e : ℕ) → In e W → OnBoundary g list e

-- a walk across an object
abbrev pub own : Object → List ℕ
own (vertex v) = []
own (edge e) = e ∷ []

-- an edge on the object's way from left to right
pub record Across (g : SidesValue) (o : Object) : Type 0 where
  pub arc : ℕ
  pub is_arc : arc < edge_count g
  pub from_left : Reaches (dual g) (left g o) (face_left g arc)
  pub to_right : Reaches (dual g) (face_right g arc) (right g o)

module _ (g : SidesValue) (S : IsSides g) where
  pub from_source : (v : ℕ) → v < g.vertices → Reaches (primal g) g.source v
  from_source = down (primal g) g.vertices S.acyclic (within g S) (λ v. Reaches (primal g) g.source v) (λ v i ih.
      elim (cases_eq v g.source) [
        | inl q ↦ reach_refl (sym q)
        | inr n ↦ (let h = S.has_in v i n in reach_trans (reach_trans (ih h.0 h.1 h.2) (reach_arc h.0 h.1)) (reach_refl h.2))
      ])

  pub to_sink : (v : ℕ) → v < g.vertices → Reaches (primal g) v g.sink
  to_sink = up (primal g) g.vertices S.acyclic (within g S) (λ v. Reaches (primal g) v g.sink) (λ v i ih.
      elim (cases_eq v g.sink) [
        | inl q ↦ reach_refl q
        | inr n ↦ (let h = S.has_out v i n in reach_trans (reach_trans (reach_refl (sym h.2)) (reach_arc h.0 h.1)) (ih h.0 h.1 h.2))
      ])

  -- ---- a walk as a boundary
  fit_from : (W : List ℕ) → Walk (primal g) g.source W g.sink → (k : ℕ) (L : List ℕ) → Swept g L → ((e : ℕ) → In e W → In (face_right g e) L → ⊥) → g.t_star ≤ length L + k → Fit g W
  fit_from W walk zero L s off h =
      let B = boundary g S s in
      elim (search g S L s B.way B.walk B.are W walk off) [
        | inl q ↦ record { list = L; swept = s; on = λ e i. B.are.only e (subst (λ z. In e z) (sym q) i) }
        | inr N ↦
            let l : length (N.face ∷ L) ≤ g.t_star = length-le_from_below g.t_star (N.face ∷ L) (N.next.new, swept_once g S s) (λ x i. elim (In-cases i) [ inl q ↦ subst (λ z. z < g.t_star) (sym q) N.next.inner.not_t | inr j ↦ swept_below g S s x j ]) in
            absurd (omega arith)
      ]
  fit_from W walk (suc k) L s off h =
      let B = boundary g S s in
      elim (search g S L s B.way B.walk B.are W walk off) [
        | inl q ↦ record { list = L; swept = s; on = λ e i. B.are.only e (subst (λ z. In e z) (sym q) i) }
        | inr N ↦ fit_from W walk k (N.face ∷ L) (grow s N.next) (λ e i j. elim (In-cases j) [ inl q ↦ N.off e i q | inr m ↦ off e i m ]) (omega arith)
      ]

  pub fit : (W : List ℕ) → Walk (primal g) g.source W g.sink → Fit g W
  fit W walk = fit_from W walk g.t_star (0 ∷ []) start (λ e i j. elim (In-cases j) [
    | inl q ↦ (let h : 0 < face_right g e = S.right_after e (arc_on e W walk i) in absurd (omega arith))
    | inr m ↦ not_in_nil m
  ]) (omega arith)
    where
      arc_on : (e : ℕ) (W : List ℕ) {u v : ℕ} → Walk (primal g) u W v → In e W → e < edge_count g
      arc_on e W k i = (on_walk k i).arc

  -- ---- the sides of an object
  at_pole : (v : ℕ) → (v ≡ g.source) ⊎ (v ≡ g.sink) → (left_of g v ≡ 0) × (right_of g v ≡ g.t_star)
  at_pole v (inl q) = (ap (left_of g) q ∙ S.left_source, ap (right_of g) q ∙ S.right_source)
  at_pole v (inr q) = (ap (left_of g) q ∙ S.left_sink, ap (right_of g) q ∙ S.right_sink)

  pub across_out : (v e : ℕ) → v < g.vertices → v ≢ g.source → v ≢ g.sink → e < edge_count g → edge_tail g e ≡ v → Reaches (dual g) (left_of g v) (face_left g e) × Reaches (dual g) (face_right g e) (right_of g v)
  across_out v e i n n' a t =
      let k = S.outs_are v i in
      let in_range : (d : ℕ) → In d (outs g v) → d < edge_count g = λ d j. (k.only d j).0 in (
        from_first g (MeetsLow g v) (λ d d' m. m.same) (left_of g v) (outs g v) in_range (S.outs_meet v i) (S.left_out v i n n') e (k.all e (a, t)),
        to_last g (MeetsLow g v) (λ d d' m. m.same) (right_of g v) (outs g v) in_range (S.outs_meet v i) (S.right_out v i n n') e (k.all e (a, t)),
      )

  pub across : (o : Object) → IsObject g o → Across g o ⊎ ((left g o ≡ 0) × (right g o ≡ g.t_star))
  across (edge e) i = inl (record { arc = e; is_arc = i; from_left = reach_refl refl; to_right = reach_refl refl })
  across (vertex v) i = elim (cases_eq v g.source) [
    | inl q ↦ inr (at_pole v (inl q))
    | inr n ↦ elim (cases_eq v g.sink) [
      | inl q ↦ inr (at_pole v (inr q))
      | inr n' ↦
          let h = S.has_out v i n' in
          let k = across_out v h.0 i n n' h.1 h.2 in
          inl (record { arc = h.0; is_arc = h.1; from_left = k.0; to_right = k.1 })
    ]
  ]

  -- an object on the boundary has its left in the list and its right outside
  vertex_sides : (L : List ℕ) → Swept g L → (v : ℕ) → v < g.vertices → (rest : List ℕ) → Walk (primal g) v rest g.sink → ((e : ℕ) → In e rest → OnBoundary g L e) → In (left_of g v) L × (In (right_of g v) L → ⊥)
  vertex_sides L s v i rest walk on = elim (cases_eq v g.source) [
    | inl q ↦ pole (at_pole v (inl q))
    | inr n ↦ elim (cases_eq v g.sink) [
      | inl q ↦ pole (at_pole v (inr q))
      | inr n' ↦ go rest walk on n n'
    ]
  ]
    where
      pole : (left_of g v ≡ 0) × (right_of g v ≡ g.t_star) → In (left_of g v) L × (In (right_of g v) L → ⊥)
      pole h = (in_subst (sym h.0) (swept_zero g S s), λ j. (let k : right_of g v < g.t_star = swept_below g S s (right_of g v) j in let q : right_of g v ≡ g.t_star = h.1 in absurd (omega arith)))

      go : (rest : List ℕ) → Walk (primal g) v rest g.sink → ((e : ℕ) → In e rest → OnBoundary g L e) → v ≢ g.source → v ≢ g.sink → In (left_of g v) L × (In (right_of g v) L → ⊥)
      go rest (stay q) on n n' = absurd (n' q)
      go rest (step {e = e} a t r) on n n' =
          let k = across_out v e i n n' a t in
          let o = on e (here refl) in
          (closed_reach g S s k.0 o.left_in, λ j. o.right_out (closed_reach g S s k.1 j))

  object_sides : (L : List ℕ) → Swept g L → (o : Object) → IsObject g o → (rest : List ℕ) → Walk (primal g) (bottom g o) (own o ++ rest) g.sink → ((e : ℕ) → In e (own o ++ rest) → OnBoundary g L e) → In (left g o) L × (In (right g o) L → ⊥)
  object_sides L s (vertex v) i rest walk on = vertex_sides L s v i rest walk on
  object_sides L s (edge e) i rest walk on = ((on e (here refl)).left_in, (on e (here refl)).right_out)

  pub own_walk : (o : Object) → IsObject g o → Walk (primal g) (bottom g o) (own o) (top g o)
  own_walk (vertex v) i = stay refl
  own_walk (edge e) i = step i refl (stay refl)

  pub bottom_in : (o : Object) → IsObject g o → bottom g o < g.vertices
  bottom_in (vertex v) i = i
  bottom_in (edge e) i = S.tail_in e i

  pub top_in : (o : Object) → IsObject g o → top g o < g.vertices
  top_in (vertex v) i = i
  top_in (edge e) i = S.head_in e i

  -- some list has the left of both objects, and the right of neither
  pub record Between (o p : Object) : Type 0 where
    pub list : List ℕ
    pub swept : Swept g list
    pub left_first : In (left g o) list
    pub left_second : In (left g p) list
    pub right_first : In (right g o) list → ⊥
    pub right_second : In (right g p) list → ⊥

  pub between : (o p : Object) → IsObject g o → IsObject g p → Before g o p → Between o p
  between o p i j h =
      let A = from_source (bottom g o) (bottom_in o i) in
      let C = to_sink (top g p) (top_in p j) in
      let upper : Walk (primal g) (bottom g p) (own p ++ C.way) g.sink = walk_append (own_walk p j) C.walk in
      let lower : Walk (primal g) (bottom g o) (own o ++ (h.way ++ (own p ++ C.way))) g.sink = walk_append (own_walk o i) (walk_append h.walk upper) in
      let F = fit (A.way ++ (own o ++ (h.way ++ (own p ++ C.way)))) (walk_append A.walk lower) in
      let a = object_sides F.list F.swept o i (h.way ++ (own p ++ C.way)) lower (λ e k. F.on e (in_right A.way k)) in
      let b = object_sides F.list F.swept p j C.way upper (λ e k. F.on e (in_right A.way (in_right (own o) (in_right h.way k)))) in
      record { list = F.list; swept = F.swept; left_first = a.0; left_second = b.0; right_first = a.1; right_second = b.1 }

  pub not_before_left : (o p : Object) → IsObject g o → IsObject g p → Before g o p → LeftOf g o p → ⊥
  not_before_left o p i j h k = let B = between o p i j h in B.right_first (closed_reach g S B.swept k B.left_second)

  pub not_before_right : (o p : Object) → IsObject g o → IsObject g p → Before g o p → LeftOf g p o → ⊥
  not_before_right o p i j h k = let B = between o p i j h in B.right_second (closed_reach g S B.swept k B.left_first)

  -- ---- no two objects are before one another, or left of one another
  pub not_before_after : (o p : Object) → IsObject g o → IsObject g p → o ≢ p → Before g o p → Before g p o → ⊥
  not_before_after (edge e) p i j n h k = no_loop S.acyclic e i (reach_trans (reach_trans h (record { way = own p; walk = own_walk p j })) k)
  not_before_after (vertex u) (edge e) i j n h k = no_loop S.acyclic e j (reach_trans k h)
  not_before_after (vertex u) (vertex v) i j n h k = go h.way h.walk
    where
      go : (es : List ℕ) → Walk (primal g) u es v → ⊥
      go es (stay q) = n (ap vertex q)
      go es (step {e = e} a t r) = no_loop S.acyclic e a (reach_trans (record { way = _; walk = r }) (reach_trans k (reach_refl (sym t))))

  pub left_below : (o : Object) → IsObject g o → left g o < g.t_star
  left_below (edge e) i = S.left_before e i
  left_below (vertex v) i = elim (cases_eq v g.source) [
    | inl q ↦ (let h = (at_pole v (inl q)).0 in let k = S.has_t in omega arith)
    | inr n ↦ elim (cases_eq v g.sink) [
      | inl q ↦ (let h = (at_pole v (inr q)).0 in let k = S.has_t in omega arith)
      | inr n' ↦
          let f = first_of (λ e. left_of g v ≡ face_left g e) (outs g v) (S.left_out v i n n') in
          let k = S.left_before f.element ((S.outs_are v i).only f.element f.within).0 in
          subst (λ z. z < g.t_star) (sym f.holds) k
    ]
  ]

  -- nothing begins at t*, and nothing but an empty walk ends at s*
  dual_from : (a b : ℕ) (es : List ℕ) → a ≡ g.t_star → b < g.t_star → Walk (dual g) a es b → ⊥
  dual_from a b es q l (stay p) = absurd (omega arith)
  dual_from a b es q l (step {e = e} i t r) = let h : face_left g e < g.t_star = S.left_before e i in absurd (omega arith)

  pub not_left_from : (o p : Object) → IsObject g p → right g o ≡ g.t_star → LeftOf g o p → ⊥
  not_left_from o p j q h = dual_from (right g o) (left g p) h.way q (left_below p j) h.walk

  pub not_left_right : (o p : Object) → IsObject g o → IsObject g p → LeftOf g o p → LeftOf g p o → ⊥
  not_left_right o p i j h k = elim (across o i) [
    | inr q ↦ not_left_from o p j q.1 h
    | inl a ↦ elim (across p j) [
      | inr q ↦ not_left_from p o i q.1 k
      | inl b ↦ no_loop (dual_acyclic g S) a.arc a.is_arc
          (reach_trans a.to_right (reach_trans h (reach_trans b.from_left (reach_trans (reach_arc b.arc b.is_arc) (reach_trans b.to_right (reach_trans k a.from_left))))))
    ]
  ]
