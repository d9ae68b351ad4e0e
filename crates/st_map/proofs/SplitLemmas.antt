-- A graph with an edge split, by its lists and by the clockwise next.
use Rattle.std.proofs.Common.{◌≡◌, ◌≢◌, ℕ, suc, ◌+◌, ◌*◌, ◌<◌, eqb, [], ◌∷◌, ◌⊎◌, map, set, length, get_or, inl, inr, refl, sym, ap, ◌∙◌, subst, arith, length-append}
use Rattle.std.specs.List.{range_with_len}
use Rattle.std.proofs.lemmas.List.{length-map, length-set, get_or_append_left, get_or-append-add, get_or-set_same, get_or-set_other}
use Rattle.std.proofs.lemmas.List.FromFn.{get_or-map-range_with_len, length-range_with_len}
use Rattle.std.proofs.lemmas.Bool.{cases_eq, cases_lt, eq-eqb, ne_eqb, cond-true, cond-false}
use Rattle.st_ids.specs.Graph.{HasEnds, tail_of, head_of}
use Rattle.st_ids.specs.Lists.{In, here, there, NoRepeat}
use Rattle.st_ids.proofs.Public.{not_in_nil, In-cases}
use Rattle.st_map.specs.Embedded.{Embedded, HasOrders, bare, edges, darts, tail, head, order, at}
use Rattle.st_map.specs.Split.{moved, split, SplitsEdge, SplitLaw}
use Rattle.st_map.proofs.EndLemmas.{even_or_odd, at-tail, at-head, at_below}
use Rattle.st_map.proofs.CyclicLemmas.{Members, members_of, orders_of, cyclic, next_is, map_in, in_map, map_once, cyclic_map, cyclic_first, cyclic_second}

-- a number below n + 2
pub which : (n x : ℕ) → x < suc (suc n) → (x < n) ⊎ ((x ≡ n) ⊎ (x ≡ suc n))
which n x l = elim (cases_lt x n) [
  | inl a ↦ inl a
  | inr a ↦ elim (cases_eq x n) [ inl e ↦ inr (inl e) | inr m ↦ inr (inr (omega arith)) ]
]

-- h is g with e split, by its lists
pub record SplitsLists (g h : Embedded) (e : ℕ) : Type 0 where
  pub there : e < edges g
  pub vertices : h.vertices ≡ suc g.vertices
  pub count : edges h ≡ suc (edges g)
  pub tail_old : (f : ℕ) → f < edges g → tail h f ≡ tail g f
  pub head_old : (f : ℕ) → f < edges g → f ≢ e → head h f ≡ head g f
  pub head_split : head h e ≡ g.vertices
  pub tail_new : tail h (edges g) ≡ g.vertices
  pub head_new : head h (edges g) ≡ head g e
  pub lists : (v : ℕ) → v < g.vertices → order h v ≡ map (moved g e) (order g v)
  pub list_new : order h g.vertices ≡ darts g ∷ (2 * e + 1) ∷ []

module _ (g : Embedded) (E : HasEnds (bare g)) (O : HasOrders g) where
  M : Members g
  M = members_of g O

  at_in : (d : ℕ) → d < darts g → at g d < g.vertices
  at_in = at_below g E

  -- ---- an edge split
  module _ (h : Embedded) (e : ℕ) (L : SplitsLists g h e) where
    s_darts : darts h ≡ suc (suc (darts g))
    s_darts = (let z : edges h ≡ suc (edges g) = L.count in omega arith)

    end_in : 2 * e + 1 < darts g
    end_in = (let k : e < edges g = L.there in omega arith)

    s_kept : (d : ℕ) → d < darts g → d ≢ 2 * e + 1 → at h d ≡ at g d
    s_kept d l n = elim (even_or_odd d) [
      | inl r ↦ (let z : d ≡ 2 * r.0 = r.1 in ap (at h) r.1 ∙ at-tail h r.0 ∙ L.tail_old r.0 (omega arith) ∙ sym (ap (at g) r.1 ∙ at-tail g r.0))
      | inr r ↦ (let z : d ≡ 2 * r.0 + 1 = r.1 in ap (at h) r.1 ∙ at-head h r.0 ∙ L.head_old r.0 (omega arith) (λ k. n (r.1 ∙ ap (λ w. 2 * w + 1) k)) ∙ sym (ap (at g) r.1 ∙ at-head g r.0))
    ]

    at_split : at h (2 * e + 1) ≡ g.vertices
    at_split = at-head h e ∙ L.head_split

    s_tail : at h (darts g) ≡ g.vertices
    s_tail = at-tail h (edges g) ∙ L.tail_new

    s_head : at h (suc (darts g)) ≡ at g (2 * e + 1)
    s_head = ap (at h) (let z : suc (darts g) ≡ 2 * edges g + 1 = omega arith in z) ∙ at-head h (edges g) ∙ L.head_new ∙ sym (at-head g e)

    m_kept : (d : ℕ) → d ≢ 2 * e + 1 → moved g e d ≡ d
    m_kept d k = cond-false (eqb d (2 * e + 1)) (suc (darts g)) d (ne_eqb d (2 * e + 1) k)

    m_end : (d : ℕ) → d ≡ 2 * e + 1 → moved g e d ≡ suc (darts g)
    m_end d k = cond-true (eqb d (2 * e + 1)) (suc (darts g)) d (eq-eqb d (2 * e + 1) k)

    -- where the renumbered ends are
    at_moved : (d : ℕ) → d < darts g → (moved g e d < darts h) × (at h (moved g e d) ≡ at g d)
    at_moved d l = (let z : darts h ≡ suc (suc (darts g)) = s_darts in elim (cases_eq d (2 * e + 1)) [
      | inl q ↦ (let m : moved g e d ≡ suc (darts g) = m_end d q in (omega arith, ap (at h) m ∙ s_head ∙ ap (at g) (sym q)))
      | inr n ↦ (let m : moved g e d ≡ d = m_kept d n in (omega arith, ap (at h) m ∙ s_kept d l n))
    ])

    m_one : (x y : ℕ) → x < darts g → y < darts g → moved g e x ≡ moved g e y → x ≡ y
    m_one x y lx ly q = elim (cases_eq x (2 * e + 1)) [
      | inl a ↦ elim (cases_eq y (2 * e + 1)) [
        | inl b ↦ a ∙ sym b
        | inr b ↦ (let z : moved g e x ≡ suc (darts g) = m_end x a in let w : moved g e y ≡ y = m_kept y b in absurd (omega arith))
      ]
      | inr a ↦ elim (cases_eq y (2 * e + 1)) [
        | inl b ↦ (let z : moved g e y ≡ suc (darts g) = m_end y b in let w : moved g e x ≡ x = m_kept x a in absurd (omega arith))
        | inr b ↦ sym (m_kept x a) ∙ q ∙ m_kept y b
      ]
    ]

    s_members : Members h
    s_members = record {
      own = λ v x l i. elim (cases_lt v g.vertices) [
        | inl k ↦
            let r = map_in (moved g e) (order g v) x (subst (λ l. In x l) (L.lists v k) i) in
            let o = M.own v r.0 k r.1 in
            let a = at_moved r.0 o.0 in
            (subst (λ z. z < darts h) (sym r.2) a.0, ap (at h) r.2 ∙ a.1 ∙ o.1)
        | inr k ↦
            let w : v ≡ g.vertices = (let z : h.vertices ≡ suc g.vertices = L.vertices in omega arith) in
            let z : darts h ≡ suc (suc (darts g)) = s_darts in
            elim (In-cases (subst (λ l. In x l) (ap (order h) w ∙ L.list_new) i)) [
              | inl q ↦ (omega arith, ap (at h) q ∙ s_tail ∙ sym w)
              | inr j ↦ elim (In-cases j) [
                | inl q ↦ (let b : 2 * e + 1 < darts g = end_in in (omega arith, ap (at h) q ∙ at_split ∙ sym w))
                | inr j ↦ absurd (not_in_nil j)
              ]
            ]
      ];
      all = λ x l. elim (which (darts g) x (subst (λ z. x < z) s_darts l)) [
        | inl k ↦ elim (cases_eq x (2 * e + 1)) [
          | inl q ↦ subst (λ y. In y (order h (at h y))) (sym q) (subst (λ w. In (2 * e + 1) (order h w)) (sym at_split) (subst (λ l. In (2 * e + 1) l) (sym L.list_new) (there (here refl))))
          | inr n ↦
              let i : In x (map (moved g e) (order g (at g x))) = subst (λ y. In y (map (moved g e) (order g (at g x)))) (m_kept x n) (in_map (moved g e) (order g (at g x)) x (M.all x k)) in
              subst (λ w. In x (order h w)) (sym (s_kept x k n)) (subst (λ l. In x l) (sym (L.lists (at g x) (at_in x k))) i)
        ]
        | inr w ↦ elim w [
          | inl q ↦ subst (λ y. In y (order h (at h y))) (sym q) (subst (λ w. In (darts g) (order h w)) (sym s_tail) (subst (λ l. In (darts g) l) (sym L.list_new) (here refl)))
          | inr q ↦
              let v : ℕ = at g (2 * e + 1) in
              let i : In (suc (darts g)) (map (moved g e) (order g v)) = subst (λ y. In y (map (moved g e) (order g v))) (m_end (2 * e + 1) refl) (in_map (moved g e) (order g v) (2 * e + 1) (M.all (2 * e + 1) end_in)) in
              subst (λ y. In y (order h (at h y))) (sym q) (subst (λ w. In (suc (darts g)) (order h w)) (sym s_head) (subst (λ l. In (suc (darts g)) l) (sym (L.lists v (at_in (2 * e + 1) end_in))) i))
        ]
      ];
      once = λ v l. elim (cases_lt v g.vertices) [
        | inl k ↦ subst NoRepeat (sym (L.lists v k)) (map_once (moved g e) (order g v) (λ x y i j q. m_one x y (M.own v x k i).0 (M.own v y k j).0 q) (M.once v k))
        | inr k ↦
            let w : v ≡ g.vertices = (let z : h.vertices ≡ suc g.vertices = L.vertices in omega arith) in
            let b : 2 * e + 1 < darts g = end_in in
            subst NoRepeat (sym (ap (order h) w ∙ L.list_new)) ((λ i. elim (In-cases i) [ inl q ↦ omega arith | inr j ↦ not_in_nil j ]), (not_in_nil, tt))
      ];
    }

    pub by_split : SplitsEdge g h e
    by_split = record {
      there = L.there;
      vertices = L.vertices;
      count = L.count;
      tail_old = L.tail_old;
      head_old = L.head_old;
      head_split = L.head_split;
      tail_new = L.tail_new;
      head_new = L.head_new;
      orders = orders_of h s_members;
      next_in = next_is h (2 * e + 1) g.vertices at_split ∙ ap (λ l. cyclic l (2 * e + 1)) L.list_new ∙ cyclic_second (darts g) (2 * e + 1) (λ q. (let b : 2 * e + 1 < darts g = end_in in omega arith));
      next_out = next_is h (darts g) g.vertices s_tail ∙ ap (λ l. cyclic l (darts g)) L.list_new ∙ cyclic_first (darts g) (2 * e + 1);
      next_old = λ d l.
          let v : ℕ = at g d in
          next_is h (moved g e d) v (at_moved d l).1 ∙ ap (λ l. cyclic l (moved g e d)) (L.lists v (at_in d l))
          ∙ cyclic_map (moved g e) (order g v) d (λ x i q. m_one x d (M.own v x (at_in d l) i).0 l q) ∙ ap (moved g e) (sym (next_is g d v refl));
    }

-- ---- a graph with e split
module _ (g : Embedded) (e : ℕ) (l : e < edges g) where
  long : length (set g.ends e (tail g e, g.vertices)) ≡ edges g
  long = length-set g.ends e (tail g e, g.vertices)

  old_end : (f : ℕ) → f < edges g → get_or (split g e).ends f (0, 0) ≡ get_or (set g.ends e (tail g e, g.vertices)) f (0, 0)
  old_end f k = get_or_append_left (set g.ends e (tail g e, g.vertices)) ((g.vertices, head g e) ∷ []) (0, 0) f (let z : length (set g.ends e (tail g e, g.vertices)) ≡ edges g = long in omega arith)

  cut_end : get_or (split g e).ends e (0, 0) ≡ (tail g e, g.vertices)
  cut_end = old_end e l ∙ get_or-set_same g.ends e (tail g e, g.vertices) (0, 0) l

  other_end : (f : ℕ) → f < edges g → f ≢ e → get_or (split g e).ends f (0, 0) ≡ get_or g.ends f (0, 0)
  other_end f k n = old_end f k ∙ get_or-set_other g.ends e f (tail g e, g.vertices) (0, 0) n

  last_end : get_or (split g e).ends (edges g) (0, 0) ≡ (g.vertices, head g e)
  last_end =
      ap (λ n. get_or (split g e).ends n (0, 0)) (let z : length (set g.ends e (tail g e, g.vertices)) ≡ edges g = long in let w : edges g ≡ length (set g.ends e (tail g e, g.vertices)) + 0 = omega arith in w)
      ∙ get_or-append-add (set g.ends e (tail g e, g.vertices)) ((g.vertices, head g e) ∷ []) 0 (0, 0)

  lists_long : length (map (λ v. map (moved g e) (order g v)) (range_with_len 0 g.vertices)) ≡ g.vertices
  lists_long = length-map (range_with_len 0 g.vertices) (λ v. map (moved g e) (order g v)) ∙ length-range_with_len 0 g.vertices

  pub split_graph_is : SplitsLists g (split g e) e
  unfolding tail_of head_of
  split_graph_is = record {
    there = l;
    vertices = refl;
    count = length-append (set g.ends e (tail g e, g.vertices)) ((g.vertices, head g e) ∷ []) ∙ (let z : length (set g.ends e (tail g e, g.vertices)) ≡ edges g = long in let w : length (set g.ends e (tail g e, g.vertices)) + 1 ≡ suc (edges g) = omega arith in w);
    tail_old = λ f k. elim (cases_eq f e) [
      | inl q ↦ ap (λ n. (get_or (split g e).ends n (0, 0)).0) q ∙ ap (λ (p : ℕ × ℕ). p.0) cut_end ∙ ap (tail g) (sym q)
      | inr n ↦ ap (λ (p : ℕ × ℕ). p.0) (other_end f k n)
    ];
    head_old = λ f k n. ap (λ (p : ℕ × ℕ). p.1) (other_end f k n);
    head_split = ap (λ (p : ℕ × ℕ). p.1) cut_end;
    tail_new = ap (λ (p : ℕ × ℕ). p.0) last_end;
    head_new = ap (λ (p : ℕ × ℕ). p.1) last_end;
    lists = λ v k.
        get_or_append_left (map (λ v. map (moved g e) (order g v)) (range_with_len 0 g.vertices)) ((darts g ∷ (2 * e + 1) ∷ []) ∷ []) [] v (let z : length (map (λ v. map (moved g e) (order g v)) (range_with_len 0 g.vertices)) ≡ g.vertices = lists_long in omega arith)
        ∙ get_or-map-range_with_len (λ v. map (moved g e) (order g v)) 0 g.vertices v v [] k (omega arith);
    list_new =
        ap (λ n. get_or (split g e).orders n []) (let z : length (map (λ v. map (moved g e) (order g v)) (range_with_len 0 g.vertices)) ≡ g.vertices = lists_long in let w : g.vertices ≡ length (map (λ v. map (moved g e) (order g v)) (range_with_len 0 g.vertices)) + 0 = omega arith in w)
        ∙ get_or-append-add (map (λ v. map (moved g e) (order g v)) (range_with_len 0 g.vertices)) ((darts g ∷ (2 * e + 1) ∷ []) ∷ []) 0 [];
  }

-- the edges of the graph afterwards join its vertices
has_ends : (g h : Embedded) (e : ℕ) → HasEnds (bare g) → SplitsEdge g h e → HasEnds (bare h)
has_ends g h e E S f l =
    let v : h.vertices ≡ suc g.vertices = S.vertices in
    let c : edges h ≡ suc (edges g) = S.count in
    elim (cases_lt f (edges g)) [
      | inl k ↦
          let t : tail h f ≡ tail g f = S.tail_old f k in
          let b : (tail g f < g.vertices) × (head g f < g.vertices) = E f k in (
            omega (arith, b.0),
            elim (cases_eq f e) [
              | inl q ↦ (let z : head h f ≡ g.vertices = ap (head h) q ∙ S.head_split in omega arith)
              | inr n ↦ (let z : head h f ≡ head g f = S.head_old f k n in omega (arith, b.1))
            ],
          )
      | inr k ↦
          let q : f ≡ edges g = omega arith in
          let t : tail h f ≡ g.vertices = ap (tail h) q ∙ S.tail_new in
          let z : head h f ≡ head g e = ap (head h) q ∙ S.head_new in
          let b : (tail g e < g.vertices) × (head g e < g.vertices) = E e S.there in
          (omega arith, omega (arith, b.1))
    ]

pub split_law : SplitLaw
split_law g e r l =
    let s : SplitsEdge g (split g e) e = by_split g r.ends r.orders (split g e) e (split_graph_is g e l) in
    (s, record { ends = has_ends g (split g e) e r.ends s; orders = s.orders })
