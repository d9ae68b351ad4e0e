-- A planar st-graph has one value of sides.
use Rattle.std.proofs.Common.{◌≡◌, ℕ, zero, suc, ◌+◌, ◌-◌, ◌*◌, ◌<◌, ◌≤◌, inl, inr, List, [], ◌∷◌, length, get_or, refl, sym, ap, ◌∙◌, subst, arith}
use Rattle.std.proofs.lemmas.Bool.{cases_eq, cases_order, both_ways}
use Rattle.std.proofs.lemmas.List.{ext_get_or}
use Rattle.st_ids.specs.Graph.{arcs_of}
use Rattle.st_ids.specs.Ends.{is_out}
use Rattle.st_ids.specs.Lists.{In, here, there}
use Rattle.st_ids.specs.Walks.{Arcs, Walk, stay, step, IsAcyclic}
use Rattle.st_ids.proofs.Public.{not_in_nil, In-cases, in_subst, on_walk, no_loop, reach_trans, reach_arc}
use Rattle.st_map.specs.Embedded.{Embedded, bare, edges, tail, head, next, faces}
use Rattle.st_map.proofs.Public.{is_out-tail, is_out-head}
use Rattle.st_test.specs.Planar.{IsPlanarSt}
use Rattle.st_sides.specs.Conditions.{ListsOnce, AreOuts, AreIns, IsSidePath, left_face, right_face}
use Rattle.st_sides.specs.LocalSides.{first, last, Between, AtVertices, AtFaces}
use Rattle.st_sides.specs.Sides.{SidesValue, face_left, face_right, outs, ins, low, high, left_path, right_path, left_of, right_of}
use Rattle.st_sides.specs.SidesOf.{IsSidesOf}
use Rattle.st_sides.specs.Held.{HasSizes, OneValueLaw}
use Rattle.st_sides.proofs.PlaceLists.{in_at, at_in}
use Rattle.st_sides.proofs.StarLemmas.{next_st}
use Rattle.st_sides.proofs.LocalLemmas.{at_vertices}
use Rattle.st_sides.proofs.FaceEdgeLemmas.{at_faces}

-- ---- lists of the same numbers, each once, that agree as far as both go
module _ (n : ℕ) (P : ℕ → Type 0) where
  not_shorter : (es fs : List ℕ) → ListsOnce n P es → ListsOnce n P fs → ((i : ℕ) → i < length es → i < length fs → get_or es i 0 ≡ get_or fs i 0)
      → length es < length fs → ⊥
  not_shorter es fs he hf same l =
      let p : (get_or fs (length es) 0 < n) × P (get_or fs (length es) 0) = hf.only (length es) l in
      let r : (i : ℕ) × (i < length es) × (get_or es i 0 ≡ get_or fs (length es) 0) = he.each (get_or fs (length es) 0) p.0 p.1 in
      hf.once r.0 (length es) r.1 l (sym (same r.0 r.1 (omega (arith, r.1))) ∙ r.2)

  one_list : (es fs : List ℕ) → ListsOnce n P es → ListsOnce n P fs → ((i : ℕ) → i < length es → i < length fs → get_or es i 0 ≡ get_or fs i 0) → es ≡ fs
  one_list es fs he hf same =
      let len : length es ≡ length fs = elim (cases_order (length es) (length fs)) [
        | inl q ↦ q
        | inr o ↦ elim o [
          | inl a ↦ absurd (not_shorter es fs he hf same a)
          | inr a ↦ absurd (not_shorter fs es hf he (λ i li lj. sym (same i lj li)) a)
        ]
      ] in
      ext_get_or 0 es fs len (λ i l. same i l (omega (arith, len)))

module _ (g : Embedded) (s t outer : ℕ) (st : IsPlanarSt g s t outer) where
  -- ---- the edges out of a vertex
  module _ (v : ℕ) (es fs : List ℕ) (he : AreOuts g s outer v es) (hf : AreOuts g s outer v fs)
      (later_out : v ≡ s → (j : ℕ) → j + 1 < length es → 0 < left_face g outer (get_or es (j + 1) 0)) (begin_out : v ≡ s → left_face g outer (get_or fs 0 0) ≡ 0) where
    not_later_out : (j : ℕ) → j + 1 < length es → 0 < length fs → get_or es (j + 1) 0 ≡ get_or fs 0 0 → ⊥
    not_later_out j l lf q = elim (cases_eq v s) [
      | inl vs ↦ (let z : left_face g outer (get_or es (j + 1) 0) ≡ left_face g outer (get_or fs 0 0) = ap (left_face g outer) q in omega (arith, later_out vs j l, begin_out vs))
      | inr ns ↦
          let lj : get_or es j 0 < edges g = (he.has.only j (omega arith)).0 in
          both_ways (is_out (2 * get_or es j 0)) (hf.begins ns lf (2 * get_or es j 0) (omega arith) (he.follow j l ∙ ap (λ z. 2 * z) q)) (is_out-tail (get_or es j 0))
    ]

    first_out : 0 < length es → 0 < length fs → get_or es 0 0 ≡ get_or fs 0 0
    first_out le lf =
        let p : (get_or fs 0 0 < edges g) × (tail g (get_or fs 0 0) ≡ v) = hf.has.only 0 lf in
        let r : (i : ℕ) × (i < length es) × (get_or es i 0 ≡ get_or fs 0 0) = he.has.each (get_or fs 0 0) p.0 p.1 in
        elim (cases_eq r.0 0) [
          | inl z ↦ ap (λ k. get_or es k 0) (sym z) ∙ r.2
          | inr n ↦
              let k : r.0 ≡ r.0 - 1 + 1 = omega arith in
              absurd (not_later_out (r.0 - 1) (omega (arith, r.1)) lf (ap (λ i. get_or es i 0) (sym k) ∙ r.2))
        ]

    same_out : (i : ℕ) → i < length es → i < length fs → get_or es i 0 ≡ get_or fs i 0
    same_out zero l m = first_out l m
    same_out (suc i) l m =
        let p : get_or es i 0 ≡ get_or fs i 0 = same_out i (omega arith) (omega arith) in
        let a : next g (2 * get_or es i 0) ≡ 2 * get_or es (i + 1) 0 = he.follow i (omega arith) in
        let b : next g (2 * get_or fs i 0) ≡ 2 * get_or fs (i + 1) 0 = hf.follow i (omega arith) in
        let c : 2 * get_or es (i + 1) 0 ≡ 2 * get_or fs (i + 1) 0 = sym a ∙ ap (λ z. next g (2 * z)) p ∙ b in
        let k : i + 1 ≡ suc i = omega arith in
        let d : get_or es (i + 1) 0 ≡ get_or fs (i + 1) 0 = omega (arith, c) in
        subst (λ z. get_or es z 0 ≡ get_or fs z 0) k d

    pub one_outs : es ≡ fs
    one_outs = one_list (edges g) (λ e. tail g e ≡ v) es fs he.has hf.has same_out

  -- ---- the edges into a vertex
  module _ (v : ℕ) (es fs : List ℕ) (he : AreIns g t outer v es) (hf : AreIns g t outer v fs)
      (later_in : v ≡ t → (j : ℕ) → j + 1 < length es → 0 < left_face g outer (get_or es (j + 1) 0)) (begin_in : v ≡ t → left_face g outer (get_or fs 0 0) ≡ 0) where
    not_later_in : (j : ℕ) → j + 1 < length es → 0 < length fs → get_or es (j + 1) 0 ≡ get_or fs 0 0 → ⊥
    not_later_in j l lf q = elim (cases_eq v t) [
      | inl vt ↦ (let z : left_face g outer (get_or es (j + 1) 0) ≡ left_face g outer (get_or fs 0 0) = ap (left_face g outer) q in omega (arith, later_in vt j l, begin_in vt))
      | inr nt ↦
          let a : next g (2 * get_or fs 0 0 + 1) ≡ 2 * get_or es j 0 + 1 = ap (λ z. next g (2 * z + 1)) (sym q) ∙ he.follow j l in
          both_ways (is_out (next g (2 * get_or fs 0 0 + 1))) (ap is_out a ∙ is_out-head (get_or es j 0)) (hf.begins nt lf)
    ]

    first_in : 0 < length es → 0 < length fs → get_or es 0 0 ≡ get_or fs 0 0
    first_in le lf =
        let p : (get_or fs 0 0 < edges g) × (head g (get_or fs 0 0) ≡ v) = hf.has.only 0 lf in
        let r : (i : ℕ) × (i < length es) × (get_or es i 0 ≡ get_or fs 0 0) = he.has.each (get_or fs 0 0) p.0 p.1 in
        elim (cases_eq r.0 0) [
          | inl z ↦ ap (λ k. get_or es k 0) (sym z) ∙ r.2
          | inr n ↦
              let k : r.0 ≡ r.0 - 1 + 1 = omega arith in
              absurd (not_later_in (r.0 - 1) (omega (arith, r.1)) lf (ap (λ i. get_or es i 0) (sym k) ∙ r.2))
        ]

    same_in : (i : ℕ) → i < length es → i < length fs → get_or es i 0 ≡ get_or fs i 0
    same_in zero l m = first_in l m
    same_in (suc i) l m =
        let p : get_or es i 0 ≡ get_or fs i 0 = same_in i (omega arith) (omega arith) in
        let le : get_or es (i + 1) 0 < edges g = (he.has.only (i + 1) (omega arith)).0 in
        let lf : get_or fs (i + 1) 0 < edges g = (hf.has.only (i + 1) (omega arith)).0 in
        let a : next g (2 * get_or es (i + 1) 0 + 1) ≡ 2 * get_or es i 0 + 1 = he.follow i (omega arith) in
        let b : next g (2 * get_or fs (i + 1) 0 + 1) ≡ 2 * get_or fs i 0 + 1 = hf.follow i (omega arith) in
        let c : 2 * get_or es (i + 1) 0 + 1 ≡ 2 * get_or fs (i + 1) 0 + 1 = (next_st g s t outer st).apart (2 * get_or es (i + 1) 0 + 1) (2 * get_or fs (i + 1) 0 + 1)
        (omega arith) (omega arith) (a ∙ ap (λ z. 2 * z + 1) p ∙ sym b) in
        let k : i + 1 ≡ suc i = omega arith in
        let d : get_or es (i + 1) 0 ≡ get_or fs (i + 1) 0 = omega (arith, c) in
        subst (λ z. get_or es z 0 ≡ get_or fs z 0) k d

    pub one_ins : es ≡ fs
    one_ins = one_list (edges g) (λ e. head g e ≡ v) es fs he.has hf.has same_in

-- ---- walks with the same arcs, where there is no cycle
module _ (D : Arcs) (acyclic : IsAcyclic D) where
  pub one_walk : (es fs : List ℕ) (u v x y : ℕ) → Walk D u es v → Walk D x fs y → ((e : ℕ) → In e es → In e fs) → ((e : ℕ) → In e fs → In e es) → es ≡ fs
  one_walk [] [] u v x y w z to from = refl
  one_walk [] (f ∷ fs) u v x y w z to from = absurd (not_in_nil (from f (here refl)))
  one_walk (e ∷ es) [] u v x y w z to from = absurd (not_in_nil (to e (here refl)))
  one_walk (e ∷ es) (f ∷ fs) u v x y (step i p r) (step j q o) to from = elim (cases_eq e f) [
    | inl same ↦
        let not_e : In e es → ⊥ = λ k. no_loop acyclic e i (on_walk r k).before in
        let not_f : In f fs → ⊥ = λ k. no_loop acyclic f j (on_walk o k).before in
        ap (λ z. z ∷ es) same ∙ ap (λ (zs : List ℕ). f ∷ zs) (one_walk es fs (D.to e) v (D.to f) y r o
        (λ d k. elim (In-cases (to d (there k))) [ inl a ↦ absurd (not_e (in_subst (a ∙ sym same) k)) | inr b ↦ b ])
        (λ d k. elim (In-cases (from d (there k))) [ inl a ↦ absurd (not_f (in_subst (a ∙ same) k)) | inr b ↦ b ]))
    | inr other ↦
        let f_in : In f es = elim (In-cases (from f (here refl))) [ inl a ↦ absurd (other (sym a)) | inr b ↦ b ] in
        let e_in : In e fs = elim (In-cases (to e (here refl))) [ inl a ↦ absurd (other a) | inr b ↦ b ] in
        absurd (no_loop acyclic e i (reach_trans (on_walk r f_in).before (reach_trans (reach_arc f j) (on_walk o e_in).before)))
  ]

  pub one_begin : (es : List ℕ) (u v x y : ℕ) → 0 < length es → Walk D u es v → Walk D x es y → u ≡ x
  one_begin [] u v x y l w z = absurd (omega arith)
  one_begin (e ∷ es) u v x y l (step i p r) (step j q o) = sym p ∙ q

  one_end_from : (es : List ℕ) (u v y : ℕ) → Walk D u es v → Walk D u es y → v ≡ y
  one_end_from [] u v y (stay p) (stay q) = sym p ∙ q
  one_end_from (e ∷ es) u v y (step i p r) (step j q o) = one_end_from es (D.to e) v y r o

  pub one_end : (es : List ℕ) (u v x y : ℕ) → 0 < length es → Walk D u es v → Walk D x es y → v ≡ y
  one_end es u v x y l w z = one_end_from es u v y w (subst (λ k. Walk D k es y) (sym (one_begin es u v x y l w z)) z)

  pub one_path : (n : ℕ) (P : ℕ → Type 0) (es fs : List ℕ) (u v x y : ℕ) → ListsOnce n P es → ListsOnce n P fs → Walk D u es v → Walk D x fs y → es ≡ fs
  one_path n P es fs u v x y he hf w z = one_walk es fs u v x y w z (λ e i. moved es fs he hf e i) (λ e i. moved fs es hf he e i)
    where
      moved : (es fs : List ℕ) → ListsOnce n P es → ListsOnce n P fs → (e : ℕ) → In e es → In e fs
      moved es fs he hf e i =
          let p : (k : ℕ) × (k < length es) × (get_or es k 0 ≡ e) = at_in i in
          let h : (get_or es p.0 0 < n) × P (get_or es p.0 0) = he.only p.0 p.1 in
          let r : (k : ℕ) × (k < length fs) × (get_or fs k 0 ≡ get_or es p.0 0) = hf.each (get_or es p.0 0) h.0 h.1 in
          in_at e fs r.0 r.1 (r.2 ∙ p.2)

-- ---- two values of one graph
-- a record as such a value
abbrev as_value : SidesValue → SidesValue
as_value z = z

module _ (g : Embedded) (s t outer : ℕ) (x y : SidesValue) (st : IsPlanarSt g s t outer) (ox : IsSidesOf g s t outer x) (oy : IsSidesOf g s t outer y) where
  round_x : AtVertices g s t outer (outs x) (ins x) (low x) (high x)
  round_x = at_vertices g s t outer st (outs x) (ins x) (low x) (high x) (left_path x) (right_path x) ox.are

  round_y : AtVertices g s t outer (outs y) (ins y) (low y) (high y)
  round_y = at_vertices g s t outer st (outs y) (ins y) (low y) (high y) (left_path y) (right_path y) oy.are

  along_x : AtFaces g outer (outs x) (ins x) (low x) (high x) (left_path x) (right_path x)
  along_x = at_faces g s t outer st (outs x) (ins x) (low x) (high x) (left_path x) (right_path x) ox.are

  outs_same : (v : ℕ) → v < g.vertices → outs x v ≡ outs y v
  outs_same v l = one_outs g s t outer st v (outs x v) (outs y v) (ox.are.outs_are v l) (oy.are.outs_are v l)
      (λ q j m.
      let b : Between g outer (get_or (outs x v) j 0) (get_or (outs x v) (j + 1) 0) = (round_x.outs_next v j l m).0 in
      omega (arith, b.one, b.positive))
      (λ q. ap (λ z. left_face g outer (get_or (outs y z) 0 0)) q ∙ round_y.left_s)

  ins_same : (v : ℕ) → v < g.vertices → ins x v ≡ ins y v
  ins_same v l = one_ins g s t outer st v (ins x v) (ins y v) (ox.are.ins_are v l) (oy.are.ins_are v l)
      (λ q j m.
      let b : Between g outer (get_or (ins x v) j 0) (get_or (ins x v) (j + 1) 0) = (round_x.ins_next v j l m).0 in
      omega (arith, b.one, b.positive))
      (λ q. ap (λ z. left_face g outer (get_or (ins y z) 0 0)) q ∙ round_y.left_t)

  left_path_same : (f : ℕ) → f ≤ faces g → left_path x f ≡ left_path y f
  left_path_same f l = elim (cases_eq f 0) [
    | inl q ↦ ap (left_path x) q ∙ ox.are.left_none ∙ sym (ap (left_path y) q ∙ oy.are.left_none)
    | inr n ↦
        let a : IsSidePath g (λ e. right_face g outer e ≡ f) (low x f) (high x f) (left_path x f) = ox.are.left_is f (omega arith) l in
        let b : IsSidePath g (λ e. right_face g outer e ≡ f) (low y f) (high y f) (left_path y f) = oy.are.left_is f (omega arith) l in
        one_path (arcs_of (bare g)) st.no_cycle (edges g) (λ e. right_face g outer e ≡ f) (left_path x f) (left_path y f) (low x f) (high x f) (low y f) (high y f) a.has b.has a.walk b.walk
  ]

  right_path_same : (f : ℕ) → f ≤ faces g → right_path x f ≡ right_path y f
  right_path_same f l = elim (cases_eq f (faces g)) [
    | inl q ↦ ap (right_path x) q ∙ ox.are.right_none ∙ sym (ap (right_path y) q ∙ oy.are.right_none)
    | inr n ↦
        let a : IsSidePath g (λ e. left_face g outer e ≡ f) (low x f) (high x f) (right_path x f) = ox.are.right_is f (omega arith) in
        let b : IsSidePath g (λ e. left_face g outer e ≡ f) (low y f) (high y f) (right_path y f) = oy.are.right_is f (omega arith) in
        one_path (arcs_of (bare g)) st.no_cycle (edges g) (λ e. left_face g outer e ≡ f) (right_path x f) (right_path y f) (low x f) (high x f) (low y f) (high y f) a.has b.has a.walk b.walk
  ]

  inner_ends : (f : ℕ) → 0 < f → f < faces g → (low x f ≡ low y f) × (high x f ≡ high y f)
  inner_ends f p l =
      let D : Arcs = arcs_of (bare g) in
      let a : Walk (arcs_of (bare g)) (low x f) (left_path x f) (high x f) = (ox.are.left_is f p (omega arith)).walk in
      let b : Walk (arcs_of (bare g)) (low y f) (left_path x f) (high y f) =
      subst (λ z. Walk (arcs_of (bare g)) (low y f) z (high y f)) (sym (left_path_same f (omega arith))) (oy.are.left_is f p (omega arith)).walk in
      let some : 0 < length (left_path x f) = along_x.some_left f p (omega arith) in (
        one_begin (arcs_of (bare g)) st.no_cycle (left_path x f) (low x f) (high x f) (low y f) (high y f) some a b,
        one_end (arcs_of (bare g)) st.no_cycle (left_path x f) (low x f) (high x f) (low y f) (high y f) some a b,
      )

  low_same : (f : ℕ) → f ≤ faces g → low x f ≡ low y f
  low_same f l = elim (cases_eq f 0) [
    | inl q ↦ ap (low x) q ∙ ox.are.low_first ∙ sym (ap (low y) q ∙ oy.are.low_first)
    | inr n ↦ elim (cases_eq f (faces g)) [
      | inl q ↦ ap (low x) q ∙ ox.are.low_last ∙ sym (ap (low y) q ∙ oy.are.low_last)
      | inr m ↦ (inner_ends f (omega arith) (omega arith)).0
    ]
  ]

  high_same : (f : ℕ) → f ≤ faces g → high x f ≡ high y f
  high_same f l = elim (cases_eq f 0) [
    | inl q ↦ ap (high x) q ∙ ox.are.high_first ∙ sym (ap (high y) q ∙ oy.are.high_first)
    | inr n ↦ elim (cases_eq f (faces g)) [
      | inl q ↦ ap (high x) q ∙ ox.are.high_last ∙ sym (ap (high y) q ∙ oy.are.high_last)
      | inr m ↦ (inner_ends f (omega arith) (omega arith)).1
    ]
  ]

  left_of_same : (v : ℕ) → v < g.vertices → left_of x v ≡ left_of y v
  left_of_same v l = elim (cases_eq v s) [
    | inl q ↦ ap (left_of x) q ∙ ox.left_of_s ∙ sym (ap (left_of y) q ∙ oy.left_of_s)
    | inr ns ↦ elim (cases_eq v t) [
      | inl q ↦ ap (left_of x) q ∙ ox.left_of_t ∙ sym (ap (left_of y) q ∙ oy.left_of_t)
      | inr nt ↦ ox.left_of_inner v l ns nt ∙ ap (λ (es : List ℕ). left_face g outer (first es)) (outs_same v l) ∙ sym (oy.left_of_inner v l ns nt)
    ]
  ]

  right_of_same : (v : ℕ) → v < g.vertices → right_of x v ≡ right_of y v
  right_of_same v l = elim (cases_eq v s) [
    | inl q ↦ ap (right_of x) q ∙ ox.right_of_s ∙ sym (ap (right_of y) q ∙ oy.right_of_s)
    | inr ns ↦ elim (cases_eq v t) [
      | inl q ↦ ap (right_of x) q ∙ ox.right_of_t ∙ sym (ap (right_of y) q ∙ oy.right_of_t)
      | inr nt ↦ ox.right_of_inner v l ns nt ∙ ap (λ (es : List ℕ). right_face g outer (last es)) (outs_same v l) ∙ sym (oy.right_of_inner v l ns nt)
    ]
  ]

  module _ (sx : HasSizes x) (sy : HasSizes y) where
    ends_same : x.ends ≡ y.ends
    ends_same = ox.ends ∙ sym oy.ends

    vertices_same : x.vertices ≡ y.vertices
    vertices_same = ox.vertices ∙ sym oy.vertices

    nodes_same : x.t_star ≡ y.t_star
    nodes_same = ox.nodes ∙ sym oy.nodes

    edges_x : length x.ends ≡ edges g
    edges_x = ap length ox.ends

    lefts_of_edges_same : x.lefts_of_edges ≡ y.lefts_of_edges
    unfolding face_left
    lefts_of_edges_same = ext_get_or 0 x.lefts_of_edges y.lefts_of_edges (sx.lefts_of_edges ∙ ap length ends_same ∙ sym sy.lefts_of_edges)
        (λ e l. let m : e < edges g = omega (arith, sx.lefts_of_edges, edges_x) in ox.left_of_edge e m ∙ sym (oy.left_of_edge e m))

    rights_of_edges_same : x.rights_of_edges ≡ y.rights_of_edges
    unfolding face_right
    rights_of_edges_same = ext_get_or 0 x.rights_of_edges y.rights_of_edges (sx.rights_of_edges ∙ ap length ends_same ∙ sym sy.rights_of_edges)
        (λ e l. let m : e < edges g = omega (arith, sx.rights_of_edges, edges_x) in ox.right_of_edge e m ∙ sym (oy.right_of_edge e m))

    out_lists_same : x.out_lists ≡ y.out_lists
    unfolding outs
    out_lists_same = ext_get_or [] x.out_lists y.out_lists (sx.out_lists ∙ vertices_same ∙ sym sy.out_lists)
        (λ i l. let m : i < g.vertices = omega (arith, sx.out_lists, ox.vertices) in outs_same i m)

    in_lists_same : x.in_lists ≡ y.in_lists
    unfolding ins
    in_lists_same = ext_get_or [] x.in_lists y.in_lists (sx.in_lists ∙ vertices_same ∙ sym sy.in_lists)
        (λ i l. let m : i < g.vertices = omega (arith, sx.in_lists, ox.vertices) in ins_same i m)

    lows_same : x.lows ≡ y.lows
    unfolding low
    lows_same = ext_get_or 0 x.lows y.lows (sx.lows ∙ ap (λ z. z + 1) nodes_same ∙ sym sy.lows)
        (λ i l. let m : i ≤ faces g = omega (arith, sx.lows, ox.nodes) in low_same i m)

    highs_same : x.highs ≡ y.highs
    unfolding high
    highs_same = ext_get_or 0 x.highs y.highs (sx.highs ∙ ap (λ z. z + 1) nodes_same ∙ sym sy.highs)
        (λ i l. let m : i ≤ faces g = omega (arith, sx.highs, ox.nodes) in high_same i m)

    left_paths_same : x.left_paths ≡ y.left_paths
    unfolding left_path
    left_paths_same = ext_get_or [] x.left_paths y.left_paths (sx.left_paths ∙ ap (λ z. z + 1) nodes_same ∙ sym sy.left_paths)
        (λ i l. let m : i ≤ faces g = omega (arith, sx.left_paths, ox.nodes) in left_path_same i m)

    right_paths_same : x.right_paths ≡ y.right_paths
    unfolding right_path
    right_paths_same = ext_get_or [] x.right_paths y.right_paths (sx.right_paths ∙ ap (λ z. z + 1) nodes_same ∙ sym sy.right_paths)
        (λ i l. let m : i ≤ faces g = omega (arith, sx.right_paths, ox.nodes) in right_path_same i m)

    lefts_of_vertices_same : x.lefts_of_vertices ≡ y.lefts_of_vertices
    unfolding left_of
    lefts_of_vertices_same = ext_get_or 0 x.lefts_of_vertices y.lefts_of_vertices (sx.lefts_of_vertices ∙ vertices_same ∙ sym sy.lefts_of_vertices)
        (λ i l. let m : i < g.vertices = omega (arith, sx.lefts_of_vertices, ox.vertices) in left_of_same i m)

    rights_of_vertices_same : x.rights_of_vertices ≡ y.rights_of_vertices
    unfolding right_of
    rights_of_vertices_same = ext_get_or 0 x.rights_of_vertices y.rights_of_vertices (sx.rights_of_vertices ∙ vertices_same ∙ sym sy.rights_of_vertices)
        (λ i l. let m : i < g.vertices = omega (arith, sx.rights_of_vertices, ox.vertices) in right_of_same i m)

    -- the fields are the same one after the other
    pub values_same : x ≡ y
    values_same =
        ap (λ (z : ℕ). as_value (record { vertices = z; ends = x.ends; source = x.source; sink = x.sink; t_star = x.t_star; lefts_of_edges = x.lefts_of_edges; rights_of_edges = x.rights_of_edges; out_lists = x.out_lists; in_lists = x.in_lists; lows = x.lows; highs = x.highs; left_paths = x.left_paths; right_paths = x.right_paths; lefts_of_vertices = x.lefts_of_vertices; rights_of_vertices = x.rights_of_vertices })) vertices_same
        ∙ ap (λ (z : List (ℕ × ℕ)). as_value (record { vertices = y.vertices; ends = z; source = x.source; sink = x.sink; t_star = x.t_star; lefts_of_edges = x.lefts_of_edges; rights_of_edges = x.rights_of_edges; out_lists = x.out_lists; in_lists = x.in_lists; lows = x.lows; highs = x.highs; left_paths = x.left_paths; right_paths = x.right_paths; lefts_of_vertices = x.lefts_of_vertices; rights_of_vertices = x.rights_of_vertices })) ends_same
        ∙ ap (λ (z : ℕ). as_value (record { vertices = y.vertices; ends = y.ends; source = z; sink = x.sink; t_star = x.t_star; lefts_of_edges = x.lefts_of_edges; rights_of_edges = x.rights_of_edges; out_lists = x.out_lists; in_lists = x.in_lists; lows = x.lows; highs = x.highs; left_paths = x.left_paths; right_paths = x.right_paths; lefts_of_vertices = x.lefts_of_vertices; rights_of_vertices = x.rights_of_vertices })) (ox.source ∙ sym oy.source)
        ∙ ap (λ (z : ℕ). as_value (record { vertices = y.vertices; ends = y.ends; source = y.source; sink = z; t_star = x.t_star; lefts_of_edges = x.lefts_of_edges; rights_of_edges = x.rights_of_edges; out_lists = x.out_lists; in_lists = x.in_lists; lows = x.lows; highs = x.highs; left_paths = x.left_paths; right_paths = x.right_paths; lefts_of_vertices = x.lefts_of_vertices; rights_of_vertices = x.rights_of_vertices })) (ox.sink ∙ sym oy.sink)
        ∙ ap (λ (z : ℕ). as_value (record { vertices = y.vertices; ends = y.ends; source = y.source; sink = y.sink; t_star = z; lefts_of_edges = x.lefts_of_edges; rights_of_edges = x.rights_of_edges; out_lists = x.out_lists; in_lists = x.in_lists; lows = x.lows; highs = x.highs; left_paths = x.left_paths; right_paths = x.right_paths; lefts_of_vertices = x.lefts_of_vertices; rights_of_vertices = x.rights_of_vertices })) nodes_same
        ∙ ap (λ (z : List ℕ). as_value (record { vertices = y.vertices; ends = y.ends; source = y.source; sink = y.sink; t_star = y.t_star; lefts_of_edges = z; rights_of_edges = x.rights_of_edges; out_lists = x.out_lists; in_lists = x.in_lists; lows = x.lows; highs = x.highs; left_paths = x.left_paths; right_paths = x.right_paths; lefts_of_vertices = x.lefts_of_vertices; rights_of_vertices = x.rights_of_vertices })) lefts_of_edges_same
        ∙ ap (λ (z : List ℕ). as_value (record { vertices = y.vertices; ends = y.ends; source = y.source; sink = y.sink; t_star = y.t_star; lefts_of_edges = y.lefts_of_edges; rights_of_edges = z; out_lists = x.out_lists; in_lists = x.in_lists; lows = x.lows; highs = x.highs; left_paths = x.left_paths; right_paths = x.right_paths; lefts_of_vertices = x.lefts_of_vertices; rights_of_vertices = x.rights_of_vertices })) rights_of_edges_same
        ∙ ap (λ (z : List (List ℕ)). as_value (record { vertices = y.vertices; ends = y.ends; source = y.source; sink = y.sink; t_star = y.t_star; lefts_of_edges = y.lefts_of_edges; rights_of_edges = y.rights_of_edges; out_lists = z; in_lists = x.in_lists; lows = x.lows; highs = x.highs; left_paths = x.left_paths; right_paths = x.right_paths; lefts_of_vertices = x.lefts_of_vertices; rights_of_vertices = x.rights_of_vertices })) out_lists_same
        ∙ ap (λ (z : List (List ℕ)). as_value (record { vertices = y.vertices; ends = y.ends; source = y.source; sink = y.sink; t_star = y.t_star; lefts_of_edges = y.lefts_of_edges; rights_of_edges = y.rights_of_edges; out_lists = y.out_lists; in_lists = z; lows = x.lows; highs = x.highs; left_paths = x.left_paths; right_paths = x.right_paths; lefts_of_vertices = x.lefts_of_vertices; rights_of_vertices = x.rights_of_vertices })) in_lists_same
        ∙ ap (λ (z : List ℕ). as_value (record { vertices = y.vertices; ends = y.ends; source = y.source; sink = y.sink; t_star = y.t_star; lefts_of_edges = y.lefts_of_edges; rights_of_edges = y.rights_of_edges; out_lists = y.out_lists; in_lists = y.in_lists; lows = z; highs = x.highs; left_paths = x.left_paths; right_paths = x.right_paths; lefts_of_vertices = x.lefts_of_vertices; rights_of_vertices = x.rights_of_vertices })) lows_same
        ∙ ap (λ (z : List ℕ). as_value (record { vertices = y.vertices; ends = y.ends; source = y.source; sink = y.sink; t_star = y.t_star; lefts_of_edges = y.lefts_of_edges; rights_of_edges = y.rights_of_edges; out_lists = y.out_lists; in_lists = y.in_lists; lows = y.lows; highs = z; left_paths = x.left_paths; right_paths = x.right_paths; lefts_of_vertices = x.lefts_of_vertices; rights_of_vertices = x.rights_of_vertices })) highs_same
        ∙ ap (λ (z : List (List ℕ)). as_value (record { vertices = y.vertices; ends = y.ends; source = y.source; sink = y.sink; t_star = y.t_star; lefts_of_edges = y.lefts_of_edges; rights_of_edges = y.rights_of_edges; out_lists = y.out_lists; in_lists = y.in_lists; lows = y.lows; highs = y.highs; left_paths = z; right_paths = x.right_paths; lefts_of_vertices = x.lefts_of_vertices; rights_of_vertices = x.rights_of_vertices })) left_paths_same
        ∙ ap (λ (z : List (List ℕ)). as_value (record { vertices = y.vertices; ends = y.ends; source = y.source; sink = y.sink; t_star = y.t_star; lefts_of_edges = y.lefts_of_edges; rights_of_edges = y.rights_of_edges; out_lists = y.out_lists; in_lists = y.in_lists; lows = y.lows; highs = y.highs; left_paths = y.left_paths; right_paths = z; lefts_of_vertices = x.lefts_of_vertices; rights_of_vertices = x.rights_of_vertices })) right_paths_same
        ∙ ap (λ (z : List ℕ). as_value (record { vertices = y.vertices; ends = y.ends; source = y.source; sink = y.sink; t_star = y.t_star; lefts_of_edges = y.lefts_of_edges; rights_of_edges = y.rights_of_edges; out_lists = y.out_lists; in_lists = y.in_lists; lows = y.lows; highs = y.highs; left_paths = y.left_paths; right_paths = y.right_paths; lefts_of_vertices = z; rights_of_vertices = x.rights_of_vertices })) lefts_of_vertices_same
        ∙ ap (λ (z : List ℕ). as_value (record { vertices = y.vertices; ends = y.ends; source = y.source; sink = y.sink; t_star = y.t_star; lefts_of_edges = y.lefts_of_edges; rights_of_edges = y.rights_of_edges; out_lists = y.out_lists; in_lists = y.in_lists; lows = y.lows; highs = y.highs; left_paths = y.left_paths; right_paths = y.right_paths; lefts_of_vertices = y.lefts_of_vertices; rights_of_vertices = z })) rights_of_vertices_same

pub one_value_law : OneValueLaw
one_value_law g s t outer x y st ox sx oy sy = values_same g s t outer x y st ox oy sx sy
