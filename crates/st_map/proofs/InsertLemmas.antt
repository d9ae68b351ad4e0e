-- A graph with an edge put in, by its lists and by the clockwise next.
use Rattle.std.proofs.Common.{◌≡◌, ◌≢◌, ℕ, suc, ◌+◌, ◌*◌, ◌<◌, ◌≤◌, List, [], ◌∷◌, length, get_or, inl, inr, refl, sym, ap, ◌∙◌, subst, arith, length-append}
use Rattle.std.proofs.lemmas.List.{get_or_append_left, get_or-append-add}
use Rattle.std.proofs.lemmas.List.FromFn.{get_or-map-range_with_len}
use Rattle.std.proofs.lemmas.Bool.{cases_lt}
use Rattle.st_ids.specs.Graph.{HasEnds, tail_of, head_of}
use Rattle.st_ids.specs.Lists.{In, NoRepeat}
use Rattle.st_map.specs.Embedded.{Embedded, HasOrders, bare, edges, darts, tail, head, order, at, next}
use Rattle.st_map.specs.Insert.{put_after, insert, InsertsEdge, InsertLaw}
use Rattle.st_map.proofs.EndLemmas.{even_or_odd, at-tail, at-head, at_below}
use Rattle.st_map.proofs.SplitLemmas.{which}
use Rattle.st_map.proofs.CyclicLemmas.{Members, members_of, orders_of, cyclic, next_is}
use Rattle.st_map.proofs.EditCyclic.{put_in, put_old, put_new, put_once, cyclic_other, cyclic_p, cyclic_new}

-- an end of a kept edge stays at its vertex
pub at_kept : (g h : Embedded) → ((e : ℕ) → e < edges g → tail h e ≡ tail g e) → ((e : ℕ) → e < edges g → head h e ≡ head g e) → (d : ℕ) → d < darts g → at h d ≡ at g d
at_kept g h t k d l = elim (even_or_odd d) [
  | inl r ↦ (let z : d ≡ 2 * r.0 = r.1 in ap (at h) r.1 ∙ at-tail h r.0 ∙ t r.0 (omega arith) ∙ sym (ap (at g) r.1 ∙ at-tail g r.0))
  | inr r ↦ (let z : d ≡ 2 * r.0 + 1 = r.1 in ap (at h) r.1 ∙ at-head h r.0 ∙ k r.0 (omega arith) ∙ sym (ap (at g) r.1 ∙ at-head g r.0))
]

-- h is g with the edge, by its lists
pub record InsertsLists (g h : Embedded) (p q : ℕ) : Type 0 where
  pub p_in : p < darts g
  pub q_in : q < darts g
  pub vertices : h.vertices ≡ g.vertices
  pub count : edges h ≡ suc (edges g)
  pub tail_old : (e : ℕ) → e < edges g → tail h e ≡ tail g e
  pub head_old : (e : ℕ) → e < edges g → head h e ≡ head g e
  pub tail_new : tail h (edges g) ≡ at g p
  pub head_new : head h (edges g) ≡ at g q
  pub lists : (v : ℕ) → v < g.vertices → order h v ≡ put_after p (darts g) (put_after q (suc (darts g)) (order g v))

module _ (g : Embedded) (E : HasEnds (bare g)) (O : HasOrders g) where
  M : Members g
  M = members_of g O

  at_in : (d : ℕ) → d < darts g → at g d < g.vertices
  at_in = at_below g E

  no_end : (v x : ℕ) → v < g.vertices → darts g ≤ x → In x (order g v) → ⊥
  no_end v x l k i = (let z : x < darts g = (M.own v x l i).0 in omega arith)

  -- ---- an edge put in
  module _ (h : Embedded) (p q : ℕ) (L : InsertsLists g h p q) (differ : p ≢ q) where
    one : ℕ → List ℕ
    one v = put_after q (suc (darts g)) (order g v)

    two : ℕ → List ℕ
    two v = put_after p (darts g) (one v)

    order_h : (v : ℕ) → v < g.vertices → order h v ≡ two v
    unfolding two one
    order_h v l = L.lists v l

    darts_h : darts h ≡ suc (suc (darts g))
    darts_h = (let z : edges h ≡ suc (edges g) = L.count in omega arith)

    kept : (d : ℕ) → d < darts g → at h d ≡ at g d
    kept = at_kept g h L.tail_old L.head_old

    at_tail : at h (darts g) ≡ at g p
    at_tail = at-tail h (edges g) ∙ L.tail_new

    at_head : at h (suc (darts g)) ≡ at g q
    at_head = ap (at h) (let z : suc (darts g) ≡ 2 * edges g + 1 = omega arith in z) ∙ at-head h (edges g) ∙ L.head_new

    no_n : (v : ℕ) → v < g.vertices → In (darts g) (one v) → ⊥
    unfolding one
    no_n v l i = elim (put_in q (suc (darts g)) (order g v) (darts g) i) [
      | inl j ↦ no_end v (darts g) l (omega arith) j
      | inr j ↦ (let z : darts g ≡ suc (darts g) = j.0 in omega arith)
    ]

    p_there : In p (order g (at g p))
    p_there = M.all p L.p_in

    q_there : In q (order g (at g q))
    q_there = M.all q L.q_in

    p_one : In p (one (at g p))
    unfolding one
    p_one = put_old q (suc (darts g)) (order g (at g p)) p p_there

    members_h : Members h
    unfolding two one
    members_h = record {
      own = λ v x l i.
          let k : v < g.vertices = subst (λ z. v < z) L.vertices l in
          let z : darts h ≡ suc (suc (darts g)) = darts_h in
          elim (put_in p (darts g) (one v) x (subst (λ l. In x l) (order_h v k) i)) [
            | inl j ↦ elim (put_in q (suc (darts g)) (order g v) x j) [
              | inl m ↦ (let o = M.own v x k m in let o' : x < darts g = o.0 in (omega arith, kept x o.0 ∙ o.1))
              | inr m ↦ (let e : x ≡ suc (darts g) = m.0 in (omega arith, ap (at h) m.0 ∙ at_head ∙ (M.own v q k m.1).1))
            ]
            | inr j ↦ elim (put_in q (suc (darts g)) (order g v) p j.1) [
              | inl m ↦ (let e : x ≡ darts g = j.0 in (omega arith, ap (at h) j.0 ∙ at_tail ∙ (M.own v p k m).1))
              | inr m ↦ (let e : p ≡ suc (darts g) = m.0 in let e' : p < darts g = L.p_in in absurd (omega arith))
            ]
          ];
      all = λ x l. elim (which (darts g) x (subst (λ z. x < z) darts_h l)) [
        | inl k ↦
            let v : ℕ = at g x in
            let i : In x (two v) = put_old p (darts g) (one v) x (put_old q (suc (darts g)) (order g v) x (M.all x k)) in
            subst (λ w. In x (order h w)) (sym (kept x k)) (subst (λ l. In x l) (sym (order_h v (at_in x k))) i)
        | inr w ↦ elim w [
          | inl e ↦
              let v : ℕ = at g p in
              let i : In (darts g) (two v) = put_new p (darts g) (one v) p_one in
              subst (λ y. In y (order h (at h y))) (sym e) (subst (λ w. In (darts g) (order h w)) (sym at_tail) (subst (λ l. In (darts g) l) (sym (order_h v (at_in p L.p_in))) i))
          | inr e ↦
              let v : ℕ = at g q in
              let i : In (suc (darts g)) (two v) = put_old p (darts g) (one v) (suc (darts g)) (put_new q (suc (darts g)) (order g v) q_there) in
              subst (λ y. In y (order h (at h y))) (sym e) (subst (λ w. In (suc (darts g)) (order h w)) (sym at_head) (subst (λ l. In (suc (darts g)) l) (sym (order_h v (at_in q L.q_in))) i))
        ]
      ];
      once = λ v l.
          let k : v < g.vertices = subst (λ z. v < z) L.vertices l in
          subst NoRepeat (sym (order_h v k)) (put_once p (darts g) (one v) (put_once q (suc (darts g)) (order g v) (M.once v k) (no_end v (suc (darts g)) k (omega arith))) (no_n v k));
    }

    next_at : (d v : ℕ) → v < g.vertices → at h d ≡ v → next h d ≡ cyclic (two v) d
    next_at d v l e = next_is h d v e ∙ ap (λ l. cyclic l d) (order_h v l)

    pub by_insert : InsertsEdge g h p q
    unfolding two one
    by_insert =
        let pi : p < darts g = L.p_in in
        let qi : q < darts g = L.q_in in
        record {
          p_in = L.p_in;
          q_in = L.q_in;
          vertices = L.vertices;
          count = L.count;
          tail_old = L.tail_old;
          head_old = L.head_old;
          tail_new = L.tail_new;
          head_new = L.head_new;
          orders = orders_of h members_h;
          next_p = next_at p (at g p) (at_in p L.p_in) (kept p L.p_in) ∙ cyclic_p p (darts g) (one (at g p)) p_one;
          next_tail =
              next_at (darts g) (at g p) (at_in p L.p_in) at_tail ∙ cyclic_new p (darts g) (one (at g p)) p_one (no_n (at g p) (at_in p L.p_in))
              ∙ cyclic_other q (suc (darts g)) (order g (at g p)) p differ (λ e. omega arith) ∙ sym (next_is g p (at g p) refl);
          next_q =
              next_at q (at g q) (at_in q L.q_in) (kept q L.q_in) ∙ cyclic_other p (darts g) (one (at g q)) q (λ e. differ (sym e)) (λ e. omega arith)
              ∙ cyclic_p q (suc (darts g)) (order g (at g q)) q_there;
          next_head =
              next_at (suc (darts g)) (at g q) (at_in q L.q_in) at_head ∙ cyclic_other p (darts g) (one (at g q)) (suc (darts g)) (λ e. omega arith) (λ e. omega arith)
              ∙ cyclic_new q (suc (darts g)) (order g (at g q)) q_there (no_end (at g q) (suc (darts g)) (at_in q L.q_in) (omega arith)) ∙ sym (next_is g q (at g q) refl);
          next_old = λ d l np nq.
              next_at d (at g d) (at_in d l) (kept d l) ∙ cyclic_other p (darts g) (one (at g d)) d np (λ e. omega arith)
              ∙ cyclic_other q (suc (darts g)) (order g (at g d)) d nq (λ e. omega arith) ∙ sym (next_is g d (at g d) refl);
        }

-- ---- a graph with an edge put in
module _ (g : Embedded) (p q : ℕ) (lp : p < darts g) (lq : q < darts g) where
  i_old : (f : ℕ) → f < edges g → get_or (insert g p q).ends f (0, 0) ≡ get_or g.ends f (0, 0)
  i_old f k = get_or_append_left g.ends ((at g p, at g q) ∷ []) (0, 0) f k

  i_new : get_or (insert g p q).ends (edges g) (0, 0) ≡ (at g p, at g q)
  i_new =
      ap (λ n. get_or (insert g p q).ends n (0, 0)) (let w : edges g ≡ length g.ends + 0 = omega arith in w)
      ∙ get_or-append-add g.ends ((at g p, at g q) ∷ []) 0 (0, 0)

  pub insert_is : InsertsLists g (insert g p q) p q
  unfolding tail_of head_of
  insert_is = record {
    p_in = lp;
    q_in = lq;
    vertices = refl;
    count = length-append g.ends ((at g p, at g q) ∷ []) ∙ (let w : length g.ends + 1 ≡ suc (edges g) = omega arith in w);
    tail_old = λ f k. ap (λ (p : ℕ × ℕ). p.0) (i_old f k);
    head_old = λ f k. ap (λ (p : ℕ × ℕ). p.1) (i_old f k);
    tail_new = ap (λ (p : ℕ × ℕ). p.0) i_new;
    head_new = ap (λ (p : ℕ × ℕ). p.1) i_new;
    lists = λ v k. get_or-map-range_with_len (λ v. put_after p (darts g) (put_after q (suc (darts g)) (order g v))) 0 g.vertices v v [] k (omega arith);
  }

-- the edges of the graph afterwards join its vertices
has_ends : (g h : Embedded) (p q : ℕ) → HasEnds (bare g) → InsertsEdge g h p q → HasEnds (bare h)
has_ends g h p q E I f l =
    let v : h.vertices ≡ g.vertices = I.vertices in
    let c : edges h ≡ suc (edges g) = I.count in
    elim (cases_lt f (edges g)) [
      | inl k ↦
          let t : tail h f ≡ tail g f = I.tail_old f k in
          let z : head h f ≡ head g f = I.head_old f k in
          let b : (tail g f < g.vertices) × (head g f < g.vertices) = E f k in
          (omega (arith, b.0), omega (arith, b.1))
      | inr k ↦
          let w : f ≡ edges g = omega arith in
          let t : tail h f ≡ at g p = ap (tail h) w ∙ I.tail_new in
          let z : head h f ≡ at g q = ap (head h) w ∙ I.head_new in
          let a : at g p < g.vertices = at_below g E p I.p_in in
          let b : at g q < g.vertices = at_below g E q I.q_in in
          (omega arith, omega arith)
    ]

pub insert_law : InsertLaw
insert_law g p q r lp lq n =
    let s : InsertsEdge g (insert g p q) p q = by_insert g r.ends r.orders (insert g p q) p q (insert_is g p q lp lq) n in
    (s, record { ends = has_ends g (insert g p q) p q r.ends s; orders = s.orders })
