-- The dual of a planar st-graph from end to end, and columns that grow along it.
--   from_s_star, to_t_star    each node of the dual is reached from its first and reaches its last
--   span_out, span_in         the left of a vertex, poles too, reaches the left of each edge at it, whose right reaches the
--                             vertex's right
--   low_height, low_column    heights and columns are at most those of the frame
--   wide, in_columns          each object has a column, and bars and lines keep to those between their sides
--   out_columns, into_columns       edges in order at a vertex are in order of their columns
use Rattle.std.proofs.Common.{ℕ, List, ◌≡◌, ◌≢◌, ◌<◌, ◌≤◌, ◌+◌, inl, inr, refl, sym, ap, ◌∙◌, subst, arith}
use Rattle.std.proofs.lemmas.Bool.{cases_eq}
use Rattle.st_ids.specs.Lists.{In, here, Precedes}
use Rattle.st_ids.specs.Walks.{Walk, stay, step, Reaches}
use Rattle.st_ids.proofs.Public.{Precedes-left, Precedes-right, walk_from, walk_to, on_walk, no_loop, reach_refl, reach_trans, reach_arc, IsWithin, down, up}
use Rattle.st_sides.specs.Objects.{Object, vertex, edge, IsObject, left, right}
use Rattle.st_sides.specs.Sides.{SidesValue, edge_count, edge_tail, edge_head, face_left, face_right, left_of, right_of, low, high, outs, ins, primal, dual, left_path, right_path, IsInner, IsSides, MeetsHigh}
use Rattle.st_sides.proofs.Public.{from_first, to_last, order_out_beside, order_in_beside, dual_acyclic, from_source, to_sink, across, across_out}
use Rattle.st_picture.specs.Growing.{GrowsUp, GrowsRight, HasLines, InColumns, from_column, to_column}
use Rattle.st_picture.proofs.FigureLemmas.{reach_grows}

module _ (g : SidesValue) (S : IsSides g) where
  pub poles_differ : g.source ≢ g.sink
  poles_differ q = elim (cases_eq g.source 0) [
    | inl z ↦ another 1 (omega arith) (omega arith)
    | inr z ↦ another 0 (omega arith) (omega arith)
  ]
    where
      two : 2 ≤ g.vertices
      two = S.two_vertices

      another : (v : ℕ) → v < g.vertices → (g.source ≡ v → ⊥) → ⊥
      another v i d = let r = from_source g S v i in go v r.way r.walk d
        where
          go : (v : ℕ) (es : List ℕ) → Walk (primal g) g.source es v → (g.source ≡ v → ⊥) → ⊥
          go v es (stay p) d = d p
          go v es (step {e = e} a t r) d = S.sink_last e a (t ∙ q)

  walk_stays : {u v : ℕ} {es : List ℕ} → Walk (primal g) u es v → u < g.vertices → v < g.vertices
  walk_stays (stay q) l = subst (λ z. z < g.vertices) q l
  walk_stays (step {e = e} a t r) l = walk_stays r (S.head_in e a)

  pub sink_in : g.sink < g.vertices
  sink_in = walk_stays (from_sink_way).walk S.source_in
    where
      from_sink_way : Reaches (primal g) g.source g.sink
      from_sink_way = to_sink g S g.source S.source_in

  pub dual_within : IsWithin (dual g) (g.t_star + 1)
  dual_within = record {
    from_in = λ e a. (let h : face_left g e < g.t_star = S.left_before e a in omega arith);
    to_in = λ e a. (let h : face_right g e ≤ g.t_star = S.right_within e a in omega arith);
  }

  -- each dual node but s* is the right of an edge
  pub dual_has_in : (f : ℕ) → f < g.t_star + 1 → f ≢ 0 → (e : ℕ) × (e < edge_count g) × (face_right g e ≡ f)
  dual_has_in f l d = elim (cases_eq f g.t_star) [
    | inr m ↦
        let inner : IsInner g f = record { not_s = omega arith; not_t = omega arith } in
        let some = S.left_path_some f inner in
        let k = (S.left_path_are f (omega arith) (omega arith)).only some.0 some.1 in
        (some.0, k.0, k.1)
    | inl q ↦ subst (λ z. (e : ℕ) × (e < edge_count g) × (face_right g e ≡ z)) (sym q) (go (left_path g g.t_star) (walk_from S.low_t (walk_to S.high_t (S.left_path_walk g.t_star S.has_t (omega arith)))) (λ e i. (S.left_path_are g.t_star S.has_t (omega arith)).only e i))
  ]
    where
      go : (P : List ℕ) → Walk (primal g) g.source P g.sink → ((e : ℕ) → In e P → (e < edge_count g) × (face_right g e ≡ g.t_star)) → (e : ℕ) × (e < edge_count g) × (face_right g e ≡ g.t_star)
      go P (stay q) k = absurd (poles_differ q)
      go P (step {e = e} a t r) k = (e, a, (k e (here refl)).1)

  pub from_s_star : (f : ℕ) → f ≤ g.t_star → Reaches (dual g) 0 f
  from_s_star f l = down (dual g) (g.t_star + 1) (dual_acyclic g S) dual_within (λ f. Reaches (dual g) 0 f) (λ f i ih. elim (cases_eq f 0) [
    | inl q ↦ reach_refl (sym q)
    | inr d ↦ (let h = dual_has_in f i d in reach_trans (ih h.0 h.1 h.2) (reach_trans (reach_arc h.0 h.1) (reach_refl h.2)))
  ]) f (omega arith)

  -- the left of a vertex but the poles reaches the left of each edge into it, whose right reaches the vertex's right
  pub across_in : (v e : ℕ) → v < g.vertices → v ≢ g.source → v ≢ g.sink → e < edge_count g → edge_head g e ≡ v → Reaches (dual g) (left_of g v) (face_left g e) × Reaches (dual g) (face_right g e) (right_of g v)
  across_in v e i n n' a t =
      let k = S.ins_are v i in
      let in_range : (d : ℕ) → In d (ins g v) → d < edge_count g = λ d j. (k.only d j).0 in (
        from_first g (MeetsHigh g v) (λ d d' m. m.same) (left_of g v) (ins g v) in_range (S.ins_meet v i) (S.left_in v i n n') e (k.all e (a, t)),
        to_last g (MeetsHigh g v) (λ d d' m. m.same) (right_of g v) (ins g v) in_range (S.ins_meet v i) (S.right_in v i n n') e (k.all e (a, t)),
      )

  -- each dual node but t* is the left of an edge
  pub dual_has_out : (f : ℕ) → f < g.t_star → (e : ℕ) × (e < edge_count g) × (face_left g e ≡ f)
  dual_has_out f l = go (right_path g f) (S.right_path_walk f l) (λ e i. (S.right_path_are f l).only e i)
    where
      differ : low g f ≡ high g f → ⊥
      differ q = elim (cases_eq f 0) [
        | inl z ↦ poles_differ (sym S.low_s ∙ sym (ap (low g) z) ∙ q ∙ ap (high g) z ∙ S.high_s)
        | inr n ↦
            let inner : IsInner g f = record { not_s = omega arith; not_t = l } in
            let some = S.left_path_some f inner in
            let E = on_walk (S.left_path_walk f (omega arith) (omega arith)) some.1 in
            no_loop S.acyclic some.0 E.arc (reach_trans E.after (reach_trans (reach_refl (sym q)) E.before))
      ]

      go : (P : List ℕ) → Walk (primal g) (low g f) P (high g f) → ((e : ℕ) → In e P → (e < edge_count g) × (face_left g e ≡ f)) → (e : ℕ) × (e < edge_count g) × (face_left g e ≡ f)
      go P (stay q) k = absurd (differ q)
      go P (step {e = e} a t r) k = (e, a, (k e (here refl)).1)

  pub to_t_star : (f : ℕ) → f ≤ g.t_star → Reaches (dual g) f g.t_star
  to_t_star f l = up (dual g) (g.t_star + 1) (dual_acyclic g S) dual_within (λ f. Reaches (dual g) f g.t_star) (λ f i ih. elim (cases_eq f g.t_star) [
    | inl q ↦ reach_refl q
    | inr d ↦ (let h = dual_has_out f (omega arith) in reach_trans (reach_refl (sym h.2)) (reach_trans (reach_arc h.0 h.1) (ih h.0 h.1 h.2)))
  ]) f (omega arith)

  stays_within : {u v : ℕ} {es : List ℕ} → Walk (dual g) u es v → u ≤ g.t_star → v ≤ g.t_star
  stays_within (stay q) l = subst (λ z. z ≤ g.t_star) q l
  stays_within (step {e = e} a t r) l = stays_within r (S.right_within e a)

  pub right_in : (v : ℕ) → v < g.vertices → right_of g v ≤ g.t_star
  right_in v i = elim (across g S (vertex v) i) [
    | inl A ↦ stays_within A.to_right.walk (S.right_within A.arc A.is_arc)
    | inr z ↦ (let q : right_of g v ≡ g.t_star = z.1 in omega arith)
  ]

  -- a vertex's left leads to the left of each edge at it, and the edge's right to the vertex's right
  pub span_out : (e : ℕ) → e < edge_count g → Reaches (dual g) (left_of g (edge_tail g e)) (face_left g e) × Reaches (dual g) (face_right g e) (right_of g (edge_tail g e))
  span_out e a = elim (cases_eq (edge_tail g e) g.source) [
    | inl q ↦ (
      reach_trans (reach_refl (ap (left_of g) q ∙ S.left_source)) (from_s_star (face_left g e) (let t = S.left_before e a in omega arith)),
      reach_trans (to_t_star (face_right g e) (S.right_within e a)) (reach_refl (sym (ap (right_of g) q ∙ S.right_source))),
    )
    | inr n ↦ across_out g S (edge_tail g e) e (S.tail_in e a) n (S.sink_last e a) a refl
  ]

  pub span_in : (e : ℕ) → e < edge_count g → Reaches (dual g) (left_of g (edge_head g e)) (face_left g e) × Reaches (dual g) (face_right g e) (right_of g (edge_head g e))
  span_in e a = elim (cases_eq (edge_head g e) g.sink) [
    | inl q ↦ (
      reach_trans (reach_refl (ap (left_of g) q ∙ S.left_sink)) (from_s_star (face_left g e) (let t = S.left_before e a in omega arith)),
      reach_trans (to_t_star (face_right g e) (S.right_within e a)) (reach_refl (sym (ap (right_of g) q ∙ S.right_sink))),
    )
    | inr n ↦ across_in (edge_head g e) e (S.head_in e a) (S.source_first e a) n a refl
  ]

  -- ---- in numbers
  pub low_height : (y : ℕ → ℕ) → GrowsUp g y → (v : ℕ) → v < g.vertices → y v ≤ y g.sink
  low_height y r v i = reach_grows (primal g) y r v g.sink (to_sink g S v i)

  module _ (c : ℕ → ℕ) (r : GrowsRight g c) where
    -- each object has a column
    pub wide : (o : Object) → IsObject g o → c (left g o) < c (right g o)
    wide o i = elim (across g S o i) [
      | inl A ↦
          let l : c (left g o) ≤ c (face_left g A.arc) = reach_grows (dual g) c r (left g o) (face_left g A.arc) A.from_left in
          let m : c (face_left g A.arc) < c (face_right g A.arc) = r A.arc A.is_arc in
          let n : c (face_right g A.arc) ≤ c (right g o) = reach_grows (dual g) c r (face_right g A.arc) (right g o) A.to_right in
          omega arith
      | inr z ↦
          let h = dual_has_in g.t_star (omega arith) (λ q. let t = S.has_t in absurd (omega arith)) in
          let l : c 0 ≤ c (face_left g h.0) = reach_grows (dual g) c r 0 (face_left g h.0) (from_s_star (face_left g h.0) (let t = S.left_before h.0 h.1 in omega arith)) in
          let m : c (face_left g h.0) < c (face_right g h.0) = r h.0 h.1 in
          let p : c (face_right g h.0) ≡ c g.t_star = ap c h.2 in
          let q : c (left g o) ≡ c 0 = ap c z.0 in
          let n : c (right g o) ≡ c g.t_star = ap c z.1 in
          omega arith
    ]

    -- bars, and lines in columns between their sides
    pub in_columns : (k : ℕ → ℕ) → HasLines g c k → InColumns g c (from_column g c k) (to_column g c k)
    in_columns k h = record { after_left = after; before_right = before }
      where
        after : (o : Object) → IsObject g o → c (left g o) ≤ from_column g c k o
        after (vertex v) i = omega arith
        after (edge e) i = h.after_left e i

        before : (o : Object) → IsObject g o → to_column g c k o < c (right g o)
        before (vertex v) i = let m : c (left g (vertex v)) < c (right g (vertex v)) = wide (vertex v) i in omega arith
        before (edge e) i = h.before_right e i

    pub low_column : (f : ℕ) → f ≤ g.t_star → c f ≤ c g.t_star
    low_column f l = reach_grows (dual g) c r f g.t_star (to_t_star f l)

    pub right_column : (v : ℕ) → v < g.vertices → c (right_of g v) ≤ c g.t_star
    right_column v i = low_column (right_of g v) (right_in v i)

    pub left_at_tail : (e : ℕ) → e < edge_count g → c (left_of g (edge_tail g e)) ≤ c (face_left g e)
    left_at_tail e a = reach_grows (dual g) c r (left_of g (edge_tail g e)) (face_left g e) (span_out e a).0

    pub right_at_tail : (e : ℕ) → e < edge_count g → c (face_right g e) ≤ c (right_of g (edge_tail g e))
    right_at_tail e a = reach_grows (dual g) c r (face_right g e) (right_of g (edge_tail g e)) (span_out e a).1

    pub left_at_head : (e : ℕ) → e < edge_count g → c (left_of g (edge_head g e)) ≤ c (face_left g e)
    left_at_head e a = reach_grows (dual g) c r (left_of g (edge_head g e)) (face_left g e) (span_in e a).0

    pub right_at_head : (e : ℕ) → e < edge_count g → c (face_right g e) ≤ c (right_of g (edge_head g e))
    right_at_head e a = reach_grows (dual g) c r (face_right g e) (right_of g (edge_head g e)) (span_in e a).1

    -- edges in order are in order of their columns
    pub out_columns : (v e f : ℕ) → v < g.vertices → Precedes e f (outs g v) → c (face_right g e) ≤ c (face_left g f)
    out_columns v e f i h = reach_grows (dual g) c r (face_right g e) (face_left g f) (order_out_beside g S v e f i h).across

    pub into_columns : (v e f : ℕ) → v < g.vertices → Precedes e f (ins g v) → c (face_right g e) ≤ c (face_left g f)
    into_columns v e f i h = reach_grows (dual g) c r (face_right g e) (face_left g f) (order_in_beside g S v e f i h).across

  -- the edges of a list's order
  pub out_first : (v e f : ℕ) → v < g.vertices → Precedes e f (outs g v) → (e < edge_count g) × (edge_tail g e ≡ v)
  out_first v e f i h = (S.outs_are v i).only e (Precedes-left (outs g v) e f h)

  pub out_second : (v e f : ℕ) → v < g.vertices → Precedes e f (outs g v) → (f < edge_count g) × (edge_tail g f ≡ v)
  out_second v e f i h = (S.outs_are v i).only f (Precedes-right (outs g v) e f h)

  pub in_first : (v e f : ℕ) → v < g.vertices → Precedes e f (ins g v) → (e < edge_count g) × (edge_head g e ≡ v)
  in_first v e f i h = (S.ins_are v i).only e (Precedes-left (ins g v) e f h)

  pub in_second : (v e f : ℕ) → v < g.vertices → Precedes e f (ins g v) → (f < edge_count g) × (edge_head g f ≡ v)
  in_second v e f i h = (S.ins_are v i).only f (Precedes-right (ins g v) e f h)
