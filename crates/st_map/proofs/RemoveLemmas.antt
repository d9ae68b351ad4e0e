-- A graph without an edge, by its lists and by the clockwise next.
use Rattle.std.proofs.Common.{◌≡◌, ◌≢◌, ℕ, suc, ◌+◌, ◌-◌, ◌*◌, ◌<◌, ◌≤◌, ◌⊎◌, eqb, List, [], map, get_or, inl, inr, refl, sym, ap, ◌∙◌, subst, arith}
use Rattle.std.specs.List.{range_with_len}
use Rattle.std.proofs.lemmas.List.{length-map}
use Rattle.std.proofs.lemmas.List.FromFn.{get_or-map-range_with_len, length-range_with_len}
use Rattle.std.proofs.lemmas.Bool.{cases_eq, eq-eqb, ne_eqb, cond-true, cond-false}
use Rattle.st_ids.specs.Ends.{edge_of}
use Rattle.st_ids.specs.Graph.{HasEnds, tail_of, head_of}
use Rattle.st_ids.specs.Lists.{In, NoRepeat}
use Rattle.st_map.specs.Embedded.{Embedded, HasOrders, bare, edges, darts, tail, head, order, at, next}
use Rattle.st_map.specs.Remove.{without_edge, old_edge, exchanged, removed, passed, RemovesEdge, RemoveLaw}
use Rattle.st_map.proofs.EndLemmas.{even_or_odd, at-tail, at-head, at_below, edge_of-tail, edge_of-head}
use Rattle.st_map.proofs.RotationLemmas.{at-next}
use Rattle.st_map.proofs.CyclicLemmas.{Members, members_of, orders_of, cyclic, next_is, map_in, in_map, map_once, cyclic_map}
use Rattle.st_map.proofs.EditCyclic.{drop_in, drop_kept, drop_once, cyclic_without}
use Rattle.st_map.proofs.ExchangeLemmas.{X, ex, ex_not, old_is, X_tail, X_head, X_X, X_edge, X_in, X_below}

pub edge_of-below : (m d : ℕ) → d < 2 * m → edge_of d < m
edge_of-below m d l = elim (even_or_odd d) [
  | inl r ↦ (let e : edge_of d ≡ r.0 = ap edge_of r.1 ∙ edge_of-tail r.0 in omega (arith, r.1))
  | inr r ↦ (let e : edge_of d ≡ r.0 = ap edge_of r.1 ∙ edge_of-head r.0 in omega (arith, r.1))
]

pub end_of : (e d : ℕ) → edge_of d ≡ e → (d ≡ 2 * e) ⊎ (d ≡ 2 * e + 1)
end_of e d q = elim (even_or_odd d) [
  | inl r ↦ inl (r.1 ∙ ap (λ k. 2 * k) (sym (edge_of-tail r.0) ∙ ap edge_of (sym r.1) ∙ q))
  | inr r ↦ inr (r.1 ∙ ap (λ k. 2 * k + 1) (sym (edge_of-head r.0) ∙ ap edge_of (sym r.1) ∙ q))
]

-- h is g without e, by its lists
pub record RemovesLists (g h : Embedded) (e : ℕ) : Type 0 where
  pub there : e < edges g
  pub vertices : h.vertices ≡ g.vertices
  pub count : edges g ≡ suc (edges h)
  pub tail_old : (f : ℕ) → f < edges h → tail h f ≡ tail g (old_edge (edges h) e f)
  pub head_old : (f : ℕ) → f < edges h → head h f ≡ head g (old_edge (edges h) e f)
  pub lists : (v : ℕ) → v < g.vertices → order h v ≡ map (exchanged (edges h) e) (without_edge e (order g v))

module _ (g : Embedded) (E : HasEnds (bare g)) (O : HasOrders g) where
  M : Members g
  M = members_of g O

  at_in : (d : ℕ) → d < darts g → at g d < g.vertices
  at_in = at_below g E

  no_end : (v x : ℕ) → v < g.vertices → darts g ≤ x → In x (order g v) → ⊥
  no_end v x l k i = (let z : x < darts g = (M.own v x l i).0 in omega arith)

  -- ---- an edge left out
  module _ (h : Embedded) (e : ℕ) (L : RemovesLists g h e) (no_loop : tail g e ≢ head g e) where
    r_in : e < suc (edges h)
    r_in = (let a : e < edges g = L.there in let b : edges g ≡ suc (edges h) = L.count in omega arith)

    r_darts : darts g ≡ suc (suc (darts h))
    r_darts = (let z : edges g ≡ suc (edges h) = L.count in omega arith)

    r_at : (d : ℕ) → d < darts h → at h d ≡ at g (X (edges h) e d)
    r_at d l = elim (even_or_odd d) [
      | inl r ↦ (let z : d ≡ 2 * r.0 = r.1 in ap (at h) r.1 ∙ at-tail h r.0 ∙ L.tail_old r.0 (omega arith) ∙ ap (tail g) (old_is (edges h) e r.0 (omega arith)) ∙ sym (at-tail g (ex (edges h) e r.0)) ∙ ap (at g) (sym (ap (X (edges h) e) r.1 ∙ X_tail (edges h) e r.0)))
      | inr r ↦ (let z : d ≡ 2 * r.0 + 1 = r.1 in ap (at h) r.1 ∙ at-head h r.0 ∙ L.head_old r.0 (omega arith) ∙ ap (head g) (old_is (edges h) e r.0 (omega arith)) ∙ sym (at-head g (ex (edges h) e r.0)) ∙ ap (at g) (sym (ap (X (edges h) e) r.1 ∙ X_head (edges h) e r.0)))
    ]

    r_order : (v : ℕ) → v < g.vertices → order h v ≡ map (X (edges h) e) (without_edge e (order g v))
    unfolding X
    r_order v l = L.lists v l

    r_old : (d : ℕ) → d < darts h → (X (edges h) e d < darts g) × (edge_of (X (edges h) e d) ≢ e)
    r_old d l = (
      (let a : X (edges h) e d < suc (suc (darts h)) = X_in (edges h) e r_in d (omega arith) in let b : darts g ≡ suc (suc (darts h)) = r_darts in omega arith),
      (λ q. ex_not (edges h) e (edge_of d) (edge_of-below (edges h) d l) (sym (X_edge (edges h) e d) ∙ q)),
    )

    r_one : (c d : ℕ) → X (edges h) e c ≡ X (edges h) e d → c ≡ d
    r_one c d q = sym (X_X (edges h) e c) ∙ ap (X (edges h) e) q ∙ X_X (edges h) e d

    r_members : Members h
    r_members = record {
      own = λ v x l i.
          let k : v < g.vertices = subst (λ z. v < z) L.vertices l in
          let r = map_in (X (edges h) e) (without_edge e (order g v)) x (subst (λ l. In x l) (r_order v k) i) in
          let c = drop_in e (order g v) r.0 r.1 in
          let o = M.own v r.0 k c.0 in
          let b : X (edges h) e r.0 < darts h = X_below (edges h) e r_in r.0 (subst (λ z. r.0 < z) r_darts o.0) c.1 in
          (subst (λ z. z < darts h) (sym r.2) b, ap (at h) r.2 ∙ r_at (X (edges h) e r.0) b ∙ ap (at g) (X_X (edges h) e r.0) ∙ o.1);
      all = λ x l.
          let o = r_old x l in
          let v : ℕ = at g (X (edges h) e x) in
          let i : In x (map (X (edges h) e) (without_edge e (order g v))) = subst (λ y. In y (map (X (edges h) e) (without_edge e (order g v)))) (X_X (edges h) e x) (in_map (X (edges h) e) (without_edge e (order g v)) (X (edges h) e x) (drop_kept e (order g v) (X (edges h) e x) (M.all (X (edges h) e x) o.0) o.1)) in
          subst (λ w. In x (order h w)) (sym (r_at x l)) (subst (λ l. In x l) (sym (r_order v (at_in (X (edges h) e x) o.0))) i);
      once = λ v l.
          let k : v < g.vertices = subst (λ z. v < z) L.vertices l in
          subst NoRepeat (sym (r_order v k)) (map_once (X (edges h) e) (without_edge e (order g v)) (λ x y i j q. r_one x y q) (drop_once e (order g v) (M.once v k)));
    }

    -- at most one end of e is at a vertex
    one_end : (v x y : ℕ) → v < g.vertices → In x (order g v) → In y (order g v) → edge_of x ≡ e → edge_of y ≡ e → x ≡ y
    one_end v x y l i j a b =
        let ax : at g x ≡ v = (M.own v x l i).1 in
        let ay : at g y ≡ v = (M.own v y l j).1 in
        elim (end_of e x a) [
          | inl q ↦ elim (end_of e y b) [
            | inl r ↦ q ∙ sym r
            | inr r ↦ absurd (no_loop (sym (at-tail g e) ∙ ap (at g) (sym q) ∙ ax ∙ sym ay ∙ ap (at g) r ∙ at-head g e))
          ]
          | inr q ↦ elim (end_of e y b) [
            | inl r ↦ absurd (no_loop (sym (at-tail g e) ∙ ap (at g) (sym r) ∙ ay ∙ sym ax ∙ ap (at g) q ∙ at-head g e))
            | inr r ↦ q ∙ sym r
          ]
        ]

    r_next : (d : ℕ) → d < darts h → X (edges h) e (next h d) ≡ passed g e (X (edges h) e d)
    r_next d l =
        let o = r_old d l in
        let D : ℕ = X (edges h) e d in
        let v : ℕ = at g D in
        let lv : v < g.vertices = at_in D o.0 in
        let lst : List ℕ = order g v in
        let n1 : next g D ≡ cyclic lst D = next_is g D v refl in
        let n2 : next g (next g D) ≡ cyclic lst (cyclic lst D) = next_is g (next g D) v (at-next g O (at_below g E) D o.0) ∙ ap (cyclic lst) n1 in
        let a : next h d ≡ cyclic (map (X (edges h) e) (without_edge e lst)) (X (edges h) e D) =
        next_is h d v (r_at d l) ∙ ap (λ l. cyclic l d) (r_order v lv) ∙ ap (cyclic (map (X (edges h) e) (without_edge e lst))) (sym (X_X (edges h) e d)) in
        let b : cyclic (map (X (edges h) e) (without_edge e lst)) (X (edges h) e D) ≡ X (edges h) e (cyclic (without_edge e lst) D) = cyclic_map (X (edges h) e) (without_edge e lst) D (λ x i q. r_one x D q) in
        let c : X (edges h) e (next h d) ≡ cyclic (without_edge e lst) D = ap (X (edges h) e) (a ∙ b) ∙ X_X (edges h) e (cyclic (without_edge e lst) D) in
        elim (cyclic_without e lst D (M.once v lv) (λ x y i j q r. one_end v x y lv i j q r) (M.all D o.0) o.1) [
          | inl r ↦ c ∙ r.1 ∙ sym n1 ∙ sym (cond-false (eqb (edge_of (next g D)) e) (next g (next g D)) (next g D) (ne_eqb (edge_of (next g D)) e (λ k. r.0 (ap edge_of (sym n1) ∙ k))))
          | inr r ↦ c ∙ r.1 ∙ sym n2 ∙ sym (cond-true (eqb (edge_of (next g D)) e) (next g (next g D)) (next g D) (eq-eqb (edge_of (next g D)) e (ap edge_of n1 ∙ r.0)))
        ]

    pub by_removal : RemovesEdge g h e
    unfolding X
    by_removal = record {
      there = L.there;
      vertices = L.vertices;
      count = L.count;
      tail_old = L.tail_old;
      head_old = L.head_old;
      orders = orders_of h r_members;
      next_old = r_next;
    }

-- ---- a graph without an edge
module _ (g : Embedded) (e : ℕ) (l : e < edges g) where
  left : edges (removed g e) ≡ edges g - 1
  left = length-map (range_with_len 0 (edges g - 1)) (λ f. (tail g (old_edge (edges g - 1) e f), head g (old_edge (edges g - 1) e f))) ∙ length-range_with_len 0 (edges g - 1)

  ends_r : (f : ℕ) → f < edges (removed g e) → get_or (removed g e).ends f (0, 0) ≡ (tail g (old_edge (edges g - 1) e f), head g (old_edge (edges g - 1) e f))
  ends_r f k = get_or-map-range_with_len (λ f. (tail g (old_edge (edges g - 1) e f), head g (old_edge (edges g - 1) e f))) 0 (edges g - 1) f f (0, 0) (let z : edges (removed g e) ≡ edges g - 1 = left in omega arith) (omega arith)

  pub removed_is : RemovesLists g (removed g e) e
  unfolding tail_of head_of
  removed_is = record {
    there = l;
    vertices = refl;
    count = (let z : edges (removed g e) ≡ edges g - 1 = left in omega arith);
    tail_old = λ f k. ap (λ (p : ℕ × ℕ). p.0) (ends_r f k) ∙ ap (λ n. tail g (old_edge n e f)) (sym left);
    head_old = λ f k. ap (λ (p : ℕ × ℕ). p.1) (ends_r f k) ∙ ap (λ n. head g (old_edge n e f)) (sym left);
    lists = λ v k.
        get_or-map-range_with_len (λ v. map (exchanged (edges g - 1) e) (without_edge e (order g v))) 0 g.vertices v v [] k (omega arith)
        ∙ ap (λ n. map (exchanged n e) (without_edge e (order g v))) (sym left);
  }

-- the edges of the graph afterwards join its vertices
has_ends : (g h : Embedded) (e : ℕ) → HasEnds (bare g) → RemovesEdge g h e → HasEnds (bare h)
has_ends g h e E R f l =
    let v : h.vertices ≡ g.vertices = R.vertices in
    let c : edges g ≡ suc (edges h) = R.count in
    let t : tail h f ≡ tail g (old_edge (edges h) e f) = R.tail_old f l in
    let z : head h f ≡ head g (old_edge (edges h) e f) = R.head_old f l in
    let o : old_edge (edges h) e f < edges g = elim (cases_eq f e) [
      | inl q ↦ (let w : old_edge (edges h) e f ≡ edges h = cond-true (eqb f e) (edges h) f (eq-eqb f e q) in omega arith)
      | inr n ↦ (let w : old_edge (edges h) e f ≡ f = cond-false (eqb f e) (edges h) f (ne_eqb f e n) in omega arith)
    ] in
    let b : (tail g (old_edge (edges h) e f) < g.vertices) × (head g (old_edge (edges h) e f) < g.vertices) = E (old_edge (edges h) e f) o in
    (omega (arith, b.0), omega (arith, b.1))

pub remove_law : RemoveLaw
remove_law g e r l n =
    let s : RemovesEdge g (removed g e) e = by_removal g r.ends r.orders (removed g e) e (removed_is g e l) n in
    (s, record { ends = has_ends g (removed g e) e r.ends s; orders = s.orders })
