-- The tables of a map with an edge put in stand for the graph with the edge put in.
use Rattle.std.proofs.Common.{◌≡◌, ◌≢◌, ℕ, zero, suc, ◌+◌, ◌-◌, ◌*◌, ◌^◌, ◌<◌, ◌≤◌, true, List, [], ◌∷◌, ◌++◌, set, length, get_or, ◌⊎◌, inl, inr, refl, sym, ap, ◌∙◌, subst, arith}
use Rattle.std.proofs.lemmas.List.{length-set, length_push, get_or_append_left, get_or-append-add, get_or-set_same, get_or-set_other}
use Rattle.std.proofs.lemmas.List.FromFn.{length-map-range_with_len, fill_by_all}
use Rattle.std.proofs.lemmas.Bool.{cases_eq, cases_lt}
use Rattle.st_ids.specs.Graph.{tail_of, head_of}
use Rattle.st_ids.specs.Lists.{In, here, there, NoRepeat}
use Rattle.st_ids.proofs.Public.{not_in_nil, In-cases, in_subst}
use Rattle.st_map.specs.Embedded.{Embedded, IsRotation, at, darts, order, next}
use Rattle.st_map.specs.Insert.{put_after, insert, InsertsEdge}
use Rattle.st_map.specs.Links.{HasRoom, LinkTables, SameRooms}
use Rattle.st_map.specs.Tables.{IsBack, IsMap, IsTableOf, Tables, bumped_at, put_entry, ring, ring_at, rotation_of, tables}
use Rattle.st_map.proofs.CyclicLemmas.{Members, members_of}
use Rattle.st_map.proofs.EditCyclic.{put_here, put_there, put_in, put_old as put_old_in, put_once}
use Rattle.st_map.proofs.EndLemmas.{at_below}
use Rattle.st_map.proofs.InsertLemmas.{insert_is, insert_law}
use Rattle.st_map.specs.Counting.{count_below}
use Rattle.st_map.proofs.OrderLemmas.{length-le_count}
use Rattle.st_map.proofs.SumLemmas.{count-le}
use Rattle.st_map.proofs.MapLemmas.{degree_is, order_is, next_below}
use Rattle.st_map.proofs.SplitLemmas.{which}

-- ---- an entry more
module _ (l : List ℕ) (a : ℕ) (la : a < length l) where
  pub put_long : length (put_entry l a) ≡ suc (length l)
  put_long = length_push (set l a (length l)) (get_or l a 0) ∙ (let z : length (set l a (length l)) ≡ length l = length-set l a (length l) in let w : length (set l a (length l)) + 1 ≡ suc (length l) = omega arith in w)

  put_old : (d : ℕ) → d < length l → get_or (put_entry l a) d 0 ≡ get_or (set l a (length l)) d 0
  put_old d k = get_or_append_left (set l a (length l)) (get_or l a 0 ∷ []) 0 d (let z : length (set l a (length l)) ≡ length l = length-set l a (length l) in omega arith)

  pub put_at : get_or (put_entry l a) a 0 ≡ length l
  put_at = put_old a la ∙ get_or-set_same l a (length l) 0 la

  pub put_kept : (d : ℕ) → d < length l → d ≢ a → get_or (put_entry l a) d 0 ≡ get_or l d 0
  put_kept d k n = put_old d k ∙ get_or-set_other l a d (length l) 0 n

  pub put_place : get_or (put_entry l a) (length l) 0 ≡ get_or l a 0
  put_place = ap (λ k. get_or (put_entry l a) k 0) (let z : length (set l a (length l)) ≡ length l = length-set l a (length l) in let w : length l ≡ length (set l a (length l)) + 0 = omega arith in w)
      ∙ get_or-append-add (set l a (length l)) (get_or l a 0 ∷ []) 0 0

-- ---- rings
pub put_none : (p n : ℕ) (l : List ℕ) → (In p l → ⊥) → put_after p n l ≡ l
put_none p n [] h = refl
put_none p n (x ∷ xs) h = put_there p n x xs (λ q. h (here (sym q))) ∙ ap (λ (zs : List ℕ). x ∷ zs) (put_none p n xs (λ i. h (there i)))

module _ (cw : List ℕ) (p : ℕ) (lp : p < length cw) (stays : (d : ℕ) → d < length cw → get_or cw d 0 < length cw) where
  ring_kept : (k d : ℕ) → d < length cw → (In p (ring cw k d) → ⊥) → ring (put_entry cw p) k d ≡ ring cw k d
  ring_kept zero d l h = refl
  ring_kept (suc k) d l h =
      ap (λ z. d ∷ ring (put_entry cw p) k z) (put_kept cw p lp d l (λ q. h (here (sym q))))
      ∙ ap (λ (zs : List ℕ). d ∷ zs) (ring_kept k (get_or cw d 0) (stays d l) (λ i. h (there i)))

  ring_put : (k d : ℕ) → d < length cw → In p (ring cw k d) → NoRepeat (ring cw k d) → ring (put_entry cw p) (suc k) d ≡ put_after p (length cw) (ring cw k d)
  ring_put zero d l i once = absurd (not_in_nil i)
  ring_put (suc k) d l i once = elim (cases_eq d p) [
    | inl q ↦
        let none : In p (ring cw k (get_or cw d 0)) → ⊥ = λ j. once.0 (in_subst (sym q) j) in
        let one : get_or (put_entry cw p) d 0 ≡ length cw = ap (λ z. get_or (put_entry cw p) z 0) q ∙ put_at cw p lp in
        let two : get_or (put_entry cw p) (length cw) 0 ≡ get_or cw d 0 = put_place cw p lp ∙ ap (λ z. get_or cw z 0) (sym q) in
        ap (λ z. d ∷ z ∷ ring (put_entry cw p) k (get_or (put_entry cw p) z 0)) one
        ∙ ap (λ z. d ∷ length cw ∷ ring (put_entry cw p) k z) two
        ∙ ap (λ (zs : List ℕ). d ∷ length cw ∷ zs) (ring_kept k (get_or cw d 0) (stays d l) none)
        ∙ sym (put_here p (length cw) d (ring cw k (get_or cw d 0)) q)
    | inr n ↦
        ap (λ z. d ∷ ring (put_entry cw p) (suc k) z) (put_kept cw p lp d l n)
        ∙ ap (λ (zs : List ℕ). d ∷ zs) (ring_put k (get_or cw d 0) (stays d l) (elim (In-cases i) [ inl q ↦ absurd (n (sym q)) | inr j ↦ j ]) once.1)
        ∙ sym (put_there p (length cw) d (ring cw k (get_or cw d 0)) n)
  ]

  -- both at once: a vertex that has p has one end more
  pub ring_after : (k k' d : ℕ) → (0 < k → d < length cw) → NoRepeat (ring cw k d) → (In p (ring cw k d) → k' ≡ suc k) → ((In p (ring cw k d) → ⊥) → k' ≡ k)
      → (In p (ring cw k d)) ⊎ (In p (ring cw k d) → ⊥) → ring (put_entry cw p) k' d ≡ put_after p (length cw) (ring cw k d)
  ring_after zero k' d l once more same w = elim w [
    | inl i ↦ absurd (not_in_nil i)
    | inr n ↦ ap (λ z. ring (put_entry cw p) z d) (same n)
  ]
  ring_after (suc k) k' d l once more same w = elim w [
    | inl i ↦ ap (λ z. ring (put_entry cw p) z d) (more i) ∙ ring_put (suc k) d (l (omega arith)) i once
    | inr n ↦ ap (λ z. ring (put_entry cw p) z d) (same n) ∙ ring_kept (suc k) d (l (omega arith)) n ∙ sym (put_none p (length cw) (ring cw (suc k) d) n)
  ]

-- a table of degrees
pub bump_same : (l : List ℕ) (v : ℕ) → v < length l → get_or (bumped_at l v) v 0 ≡ suc (get_or l v 0)
bump_same l v k = get_or-set_same l v (get_or l v 0 + 1) 0 k ∙ omega arith

pub bump_other : (l : List ℕ) (v u : ℕ) → u ≢ v → get_or (bumped_at l v) u 0 ≡ get_or l u 0
bump_other l v u n = get_or-set_other l v u (get_or l v 0 + 1) 0 n

module _ (t : Tables) (m : IsMap t) (p q : ℕ) (lp : p < 2 * length t.ends) (lq : q < 2 * length t.ends) (differ : at (rotation_of t) p ≢ at (rotation_of t) q) where
  g : Embedded
  g = rotation_of t

  cw1 : List ℕ
  cw1 = put_entry t.cw p

  size : length t.cw ≡ 2 * length t.ends
  size = m.clockwise.size

  pc : p < length t.cw
  pc = omega (arith, size)

  qc : q < length t.cw
  qc = omega (arith, size)

  apart : p ≢ q
  apart e = differ (ap (at (rotation_of t)) e)

  cw_stays : (d : ℕ) → d < length t.cw → get_or t.cw d 0 < length t.cw
  cw_stays d l =
      let k : d < 2 * length t.ends = omega (arith, size) in
      let z : get_or t.cw d 0 ≡ next (rotation_of t) d = m.clockwise.each d k in
      omega (arith, next_below t m d k, size)

  long1 : length (put_entry t.cw p) ≡ suc (length t.cw)
  long1 = put_long t.cw p pc

  stays1 : (d : ℕ) → d < length (put_entry t.cw p) → get_or (put_entry t.cw p) d 0 < length (put_entry t.cw p)
  stays1 d l = elim (cases_eq d (length t.cw)) [
    | inl e ↦ (let z : get_or (put_entry t.cw p) d 0 ≡ get_or t.cw p 0 = ap (λ k. get_or (put_entry t.cw p) k 0) e ∙ put_place t.cw p pc in omega (arith, cw_stays p pc, long1))
    | inr n ↦ elim (cases_eq d p) [
      | inl e ↦ (let z : get_or (put_entry t.cw p) d 0 ≡ length t.cw = ap (λ k. get_or (put_entry t.cw p) k 0) e ∙ put_at t.cw p pc in omega (arith, long1))
      | inr u ↦ (let k : d < length t.cw = omega (arith, long1) in let z : get_or (put_entry t.cw p) d 0 ≡ get_or t.cw d 0 = put_kept t.cw p pc d k u in omega (arith, cw_stays d k, long1))
    ]
  ]

  q1 : q < length (put_entry t.cw p)
  q1 = omega (arith, long1, qc)

  abbrev pub ends_after : List (ℕ × ℕ)
  ends_after = t.ends ++ (at (rotation_of t) p, at (rotation_of t) q) ∷ []

  abbrev pub degree_after : List ℕ
  degree_after = bumped_at (bumped_at t.degree (at (rotation_of t) p)) (at (rotation_of t) q)

  abbrev pub cw_after : List ℕ
  cw_after = put_entry (put_entry t.cw p) q

  abbrev pub ccw_after : List ℕ
  ccw_after = put_entry (put_entry t.ccw (get_or t.cw p 0)) (get_or t.cw q 0)

  abbrev pub tables_after : Tables
  tables_after = tables t.vertices ends_after t.first degree_after cw_after ccw_after

  M : Members (rotation_of t)
  M = members_of (rotation_of t) m.rotation.orders

  vp : at (rotation_of t) p < t.vertices
  vp = at_below (rotation_of t) m.rotation.ends p lp

  vq : at (rotation_of t) q < t.vertices
  vq = at_below (rotation_of t) m.rotation.ends q lq

  -- an end is in the list of its own vertex alone
  list_has : (v d : ℕ) → v < t.vertices → d < 2 * length t.ends → (In d (ring_at t.first t.degree t.cw v) → at (rotation_of t) d ≡ v) × (at (rotation_of t) d ≡ v → In d (ring_at t.first t.degree t.cw v))
  list_has v d lv l = (
    (λ i. (M.own v d lv (subst (λ z. In d z) (sym (order_is t m v lv)) i)).1),
    (λ e. subst (λ z. In d z) (order_is t m v lv) (subst (λ u. In d (order (rotation_of t) u)) e (M.all d l))),
  )

  first_in : (v : ℕ) → v < t.vertices → 0 < get_or t.degree v 0 → get_or t.first v 0 < length t.cw
  first_in v lv some =
      let i : In (get_or t.first v 0) (ring t.cw (get_or t.degree v 0) (get_or t.first v 0)) = head_in (get_or t.degree v 0) some in
      let o : get_or t.first v 0 < 2 * length t.ends = (M.own v (get_or t.first v 0) lv (subst (λ z. In (get_or t.first v 0) z) (sym (order_is t m v lv)) i)).0 in
      omega (arith, size)
    where
      head_in : (k : ℕ) → 0 < k → In (get_or t.first v 0) (ring t.cw k (get_or t.first v 0))
      head_in zero l = absurd (omega arith)
      head_in (suc k) l = here refl

  degree1 : (v : ℕ) → v < t.vertices → (at (rotation_of t) p ≡ v → get_or (bumped_at t.degree (at (rotation_of t) p)) v 0 ≡ suc (get_or t.degree v 0)) × ((at (rotation_of t) p ≡ v → ⊥) → get_or (bumped_at t.degree (at (rotation_of t) p)) v 0 ≡ get_or t.degree v 0)
  degree1 v lv = (
    (λ e. ap (λ z. get_or (bumped_at t.degree (at (rotation_of t) p)) z 0) (sym e) ∙ bump_same t.degree (at (rotation_of t) p) (omega (arith, vp, m.degrees)) ∙ ap (λ z. suc (get_or t.degree z 0)) e),
    (λ n. bump_other t.degree (at (rotation_of t) p) v (λ e. n (sym e))),
  )

  degree2 : (v : ℕ) → v < t.vertices → (at (rotation_of t) q ≡ v → get_or degree_after v 0 ≡ suc (get_or (bumped_at t.degree (at (rotation_of t) p)) v 0)) × ((at (rotation_of t) q ≡ v → ⊥) → get_or degree_after v 0 ≡ get_or (bumped_at t.degree (at (rotation_of t) p)) v 0)
  degree2 v lv = (
    (λ e.
        let long : length (bumped_at t.degree (at (rotation_of t) p)) ≡ length t.degree = length-set t.degree (at (rotation_of t) p) (get_or t.degree (at (rotation_of t) p) 0 + 1) in
        ap (λ z. get_or degree_after z 0) (sym e) ∙ bump_same (bumped_at t.degree (at (rotation_of t) p)) (at (rotation_of t) q) (omega (arith, vq, m.degrees)) ∙ ap (λ z. suc (get_or (bumped_at t.degree (at (rotation_of t) p)) z 0)) e),
    (λ n. bump_other (bumped_at t.degree (at (rotation_of t) p)) (at (rotation_of t) q) v (λ e. n (sym e))),
  )

  module _ (v : ℕ) (lv : v < t.vertices) where
    was : List ℕ
    was = ring_at t.first t.degree t.cw v

    once0 : NoRepeat (ring_at t.first t.degree t.cw v)
    once0 = subst NoRepeat (order_is t m v lv) (M.once v lv)

    big : (d : ℕ) → length t.cw ≤ d → In d (ring_at t.first t.degree t.cw v) → ⊥
    big d l i = (let z : d < 2 * length t.ends = (M.own v d lv (subst (λ z. In d z) (sym (order_is t m v lv)) i)).0 in omega (arith, size))

    has_p : (In p (ring_at t.first t.degree t.cw v)) ⊎ (In p (ring_at t.first t.degree t.cw v) → ⊥)
    has_p = elim (cases_eq (at (rotation_of t) p) v) [ inl e ↦ inl ((list_has v p lv lp).1 e) | inr n ↦ inr (λ i. n ((list_has v p lv lp).0 i)) ]

    row1 : ring_at t.first (bumped_at t.degree (at (rotation_of t) p)) (put_entry t.cw p) v ≡ put_after p (length t.cw) (ring_at t.first t.degree t.cw v)
    row1 = ring_after t.cw p pc cw_stays (get_or t.degree v 0) (get_or (bumped_at t.degree (at (rotation_of t) p)) v 0) (get_or t.first v 0) (first_in v lv) once0
        (λ i. (degree1 v lv).0 ((list_has v p lv lp).0 i)) (λ n. (degree1 v lv).1 (λ e. n ((list_has v p lv lp).1 e))) has_p

    in_q : (In q (ring_at t.first (bumped_at t.degree (at (rotation_of t) p)) (put_entry t.cw p) v) → at (rotation_of t) q ≡ v) × (at (rotation_of t) q ≡ v → In q (ring_at t.first (bumped_at t.degree (at (rotation_of t) p)) (put_entry t.cw p) v))
    in_q = (
      (λ i. elim (put_in p (length t.cw) (ring_at t.first t.degree t.cw v) q (subst (λ z. In q z) row1 i)) [
        | inl j ↦ (list_has v q lv lq).0 j
        | inr j ↦ (let z : q ≡ length t.cw = j.0 in absurd (omega (arith, qc)))
      ]),
      (λ e. subst (λ z. In q z) (sym row1) (put_old_in p (length t.cw) (ring_at t.first t.degree t.cw v) q ((list_has v q lv lq).1 e))),
    )

    has_q : (In q (ring_at t.first (bumped_at t.degree (at (rotation_of t) p)) (put_entry t.cw p) v)) ⊎ (In q (ring_at t.first (bumped_at t.degree (at (rotation_of t) p)) (put_entry t.cw p) v) → ⊥)
    has_q = elim (cases_eq (at (rotation_of t) q) v) [ inl e ↦ inl (in_q.1 e) | inr n ↦ inr (λ i. n (in_q.0 i)) ]

    first1 : 0 < get_or (bumped_at t.degree (at (rotation_of t) p)) v 0 → get_or t.first v 0 < length (put_entry t.cw p)
    first1 l = elim (cases_lt 0 (get_or t.degree v 0)) [
      | inl k ↦ omega (arith, first_in v lv k, long1)
      | inr k ↦ elim (cases_eq (at (rotation_of t) p) v) [
        | inl e ↦ (let z : get_or t.degree v 0 ≡ 0 = omega arith in absurd (not_in_nil (subst (λ k. In p (ring t.cw k (get_or t.first v 0))) z ((list_has v p lv lp).1 e))))
        | inr n ↦ (let z : get_or (bumped_at t.degree (at (rotation_of t) p)) v 0 ≡ get_or t.degree v 0 = (degree1 v lv).1 n in absurd (omega arith))
      ]
    ]

    row2 : ring_at t.first degree_after cw_after v ≡ put_after q (suc (length t.cw)) (put_after p (length t.cw) (ring_at t.first t.degree t.cw v))
    row2 = ring_after (put_entry t.cw p) q q1 stays1 (get_or (bumped_at t.degree (at (rotation_of t) p)) v 0) (get_or degree_after v 0) (get_or t.first v 0) first1
        (subst NoRepeat (sym row1) (put_once p (length t.cw) (ring_at t.first t.degree t.cw v) once0 (big (length t.cw) (omega arith))))
        (λ i. (degree2 v lv).0 (in_q.0 i)) (λ n. (degree2 v lv).1 (λ e. n (in_q.1 e))) has_q
        ∙ ap (λ z. put_after q z (ring_at t.first (bumped_at t.degree (at (rotation_of t) p)) (put_entry t.cw p) v)) long1
        ∙ ap (put_after q (suc (length t.cw))) row1

    -- no list has both
    swap : put_after q (suc (length t.cw)) (put_after p (length t.cw) (ring_at t.first t.degree t.cw v)) ≡ put_after p (length t.cw) (put_after q (suc (length t.cw)) (ring_at t.first t.degree t.cw v))
    swap = elim (cases_eq (at (rotation_of t) p) v) [
      | inl e ↦
          let nq : In q (ring_at t.first t.degree t.cw v) → ⊥ = λ i. differ (e ∙ sym ((list_has v q lv lq).0 i)) in
          put_none q (suc (length t.cw)) (put_after p (length t.cw) (ring_at t.first t.degree t.cw v)) (λ i. elim (put_in p (length t.cw) (ring_at t.first t.degree t.cw v) q i) [ inl j ↦ nq j | inr j ↦ (let z : q ≡ length t.cw = j.0 in omega (arith, qc)) ])
          ∙ ap (put_after p (length t.cw)) (sym (put_none q (suc (length t.cw)) (ring_at t.first t.degree t.cw v) nq))
      | inr n ↦
          let np : In p (ring_at t.first t.degree t.cw v) → ⊥ = λ i. n ((list_has v p lv lp).0 i) in
          ap (put_after q (suc (length t.cw))) (put_none p (length t.cw) (ring_at t.first t.degree t.cw v) np)
          ∙ sym (put_none p (length t.cw) (put_after q (suc (length t.cw)) (ring_at t.first t.degree t.cw v)) (λ i. elim (put_in q (suc (length t.cw)) (ring_at t.first t.degree t.cw v) p i) [ inl j ↦ np j | inr j ↦ (let z : p ≡ suc (length t.cw) = j.0 in omega (arith, pc)) ]))
    ]

    row : order (insert (rotation_of t) p q) v ≡ ring_at t.first degree_after cw_after v
    row =
        (insert_is (rotation_of t) p q lp lq).lists v lv
        ∙ ap (λ (z : List ℕ). put_after p (2 * length t.ends) (put_after q (suc (2 * length t.ends)) z)) (order_is t m v lv)
        ∙ ap (λ z. put_after p z (put_after q (suc z) (ring_at t.first t.degree t.cw v))) (sym size)
        ∙ sym swap ∙ sym row2

  pub rotation_after : rotation_of tables_after ≡ insert (rotation_of t) p q
  rotation_after =
      ap (λ (os : List (List ℕ)). let r : Embedded = record { vertices = t.vertices; ends = ends_after; orders = os } in r)
      (sym (fill_by_all (ring_at t.first degree_after cw_after) (insert (rotation_of t) p q).orders t.vertices []
      (length-map-range_with_len (λ v. put_after p (darts (rotation_of t)) (put_after q (suc (darts (rotation_of t))) (order (rotation_of t) v))) 0 t.vertices) row))

  I : InsertsEdge (rotation_of t) (insert (rotation_of t) p q) p q
  I = (insert_law (rotation_of t) p q m.rotation lp lq apart).0

  pub length-ends_after : length ends_after ≡ suc (length t.ends)
  length-ends_after = length_push t.ends (at (rotation_of t) p, at (rotation_of t) q) ∙ (let z : length t.ends + 1 ≡ suc (length t.ends) = omega arith in z)

  -- the entries afterwards
  cw_p : get_or cw_after p 0 ≡ length t.cw
  cw_p = put_kept (put_entry t.cw p) q q1 p (omega (arith, long1, pc)) apart ∙ put_at t.cw p pc

  cw_q : get_or cw_after q 0 ≡ suc (length t.cw)
  cw_q = put_at (put_entry t.cw p) q q1 ∙ long1

  cw_tail : get_or cw_after (length t.cw) 0 ≡ get_or t.cw p 0
  cw_tail = put_kept (put_entry t.cw p) q q1 (length t.cw) (omega (arith, long1)) (λ e. omega (arith, qc)) ∙ put_place t.cw p pc

  cw_head : get_or cw_after (suc (length t.cw)) 0 ≡ get_or t.cw q 0
  cw_head = ap (λ z. get_or cw_after z 0) (sym long1) ∙ put_place (put_entry t.cw p) q q1 ∙ put_kept t.cw p pc q qc (λ e. apart (sym e))

  cw_old : (d : ℕ) → d < length t.cw → d ≢ p → d ≢ q → get_or cw_after d 0 ≡ get_or t.cw d 0
  cw_old d l np nq = put_kept (put_entry t.cw p) q q1 d (omega (arith, long1)) nq ∙ put_kept t.cw p pc d l np

  cw_one : (c d : ℕ) → c < length t.cw → d < length t.cw → get_or t.cw c 0 ≡ get_or t.cw d 0 → c ≡ d
  cw_one c d lc ld e = sym (m.counter.each c lc) ∙ ap (λ z. get_or t.ccw z 0) e ∙ m.counter.each d ld

  sz : length t.ccw ≡ length t.cw
  sz = m.counter.size

  ap_in : get_or t.cw p 0 < length t.ccw
  ap_in = omega (arith, cw_stays p pc, sz)

  long_b : length (put_entry t.ccw (get_or t.cw p 0)) ≡ suc (length t.cw)
  long_b = put_long t.ccw (get_or t.cw p 0) ap_in ∙ ap suc sz

  aq_in : get_or t.cw q 0 < length (put_entry t.ccw (get_or t.cw p 0))
  aq_in = omega (arith, cw_stays q qc, long_b)

  a_apart : get_or t.cw p 0 ≢ get_or t.cw q 0
  a_apart e = apart (cw_one p q pc qc e)

  back_after : IsBack cw_after ccw_after
  back_after = record {
    size = put_long (put_entry t.ccw (get_or t.cw p 0)) (get_or t.cw q 0) aq_in ∙ ap suc long_b ∙ sym (put_long (put_entry t.cw p) q q1 ∙ ap suc long1);
    each = λ d l. elim (which (length t.cw) d (omega (arith, put_long (put_entry t.cw p) q q1, long1))) [
      | inl k ↦ elim (cases_eq d p) [
        | inl e ↦ ap (λ z. get_or ccw_after (get_or cw_after z 0) 0) e ∙ ap (λ z. get_or ccw_after z 0) cw_p
            ∙ put_kept (put_entry t.ccw (get_or t.cw p 0)) (get_or t.cw q 0) aq_in (length t.cw) (omega (arith, long_b)) (λ w. omega (arith, cw_stays q qc))
            ∙ ap (λ z. get_or (put_entry t.ccw (get_or t.cw p 0)) z 0) (sym sz) ∙ put_place t.ccw (get_or t.cw p 0) ap_in ∙ m.counter.each p pc ∙ sym e
        | inr np ↦ elim (cases_eq d q) [
          | inl e ↦ ap (λ z. get_or ccw_after (get_or cw_after z 0) 0) e ∙ ap (λ z. get_or ccw_after z 0) (cw_q ∙ sym long_b)
              ∙ put_place (put_entry t.ccw (get_or t.cw p 0)) (get_or t.cw q 0) aq_in
              ∙ put_kept t.ccw (get_or t.cw p 0) ap_in (get_or t.cw q 0) (omega (arith, cw_stays q qc, sz)) (λ w. a_apart (sym w)) ∙ m.counter.each q qc ∙ sym e
          | inr nq ↦ ap (λ z. get_or ccw_after z 0) (cw_old d k np nq)
              ∙ put_kept (put_entry t.ccw (get_or t.cw p 0)) (get_or t.cw q 0) aq_in (get_or t.cw d 0) (omega (arith, cw_stays d k, long_b)) (λ w. nq (cw_one d q k qc w))
              ∙ put_kept t.ccw (get_or t.cw p 0) ap_in (get_or t.cw d 0) (omega (arith, cw_stays d k, sz)) (λ w. np (cw_one d p k pc w)) ∙ m.counter.each d k
        ]
      ]
      | inr w ↦ elim w [
        | inl e ↦ ap (λ z. get_or ccw_after (get_or cw_after z 0) 0) e ∙ ap (λ z. get_or ccw_after z 0) cw_tail
            ∙ put_kept (put_entry t.ccw (get_or t.cw p 0)) (get_or t.cw q 0) aq_in (get_or t.cw p 0) (omega (arith, cw_stays p pc, long_b)) a_apart
            ∙ put_at t.ccw (get_or t.cw p 0) ap_in ∙ sz ∙ sym e
        | inr e ↦ ap (λ z. get_or ccw_after (get_or cw_after z 0) 0) e ∙ ap (λ z. get_or ccw_after z 0) cw_head
            ∙ put_at (put_entry t.ccw (get_or t.cw p 0)) (get_or t.cw q 0) aq_in ∙ long_b ∙ sym e
      ]
    ];
  }

  pub length-cw_after : length cw_after ≡ length t.cw + 2
  length-cw_after = put_long (put_entry t.cw p) q q1 ∙ ap suc long1 ∙ (let z : suc (suc (length t.cw)) ≡ length t.cw + 2 = omega arith in z)

  table_after : IsTableOf (2 * suc (length t.ends)) (next (insert (rotation_of t) p q)) cw_after
  table_after = record {
    size = put_long (put_entry t.cw p) q q1 ∙ ap suc long1 ∙ (let z : suc (suc (length t.cw)) ≡ 2 * suc (length t.ends) = omega (arith, size) in z);
    each = λ d l. elim (which (length t.cw) d (omega (arith, size))) [
      | inl k ↦ elim (cases_eq d p) [
        | inl e ↦ ap (λ z. get_or cw_after z 0) e ∙ cw_p ∙ size ∙ sym I.next_p ∙ ap (next (insert (rotation_of t) p q)) (sym e)
        | inr np ↦ elim (cases_eq d q) [
          | inl e ↦ ap (λ z. get_or cw_after z 0) e ∙ cw_q ∙ ap suc size ∙ sym I.next_q ∙ ap (next (insert (rotation_of t) p q)) (sym e)
          | inr nq ↦ cw_old d k np nq ∙ m.clockwise.each d (omega (arith, size)) ∙ sym (I.next_old d (omega (arith, size)) np nq)
        ]
      ]
      | inr w ↦ elim w [
        | inl e ↦ ap (λ z. get_or cw_after z 0) e ∙ cw_tail ∙ m.clockwise.each p lp ∙ sym I.next_tail ∙ ap (next (insert (rotation_of t) p q)) (sym (e ∙ size))
        | inr e ↦ ap (λ z. get_or cw_after z 0) e ∙ cw_head ∙ m.clockwise.each q lq ∙ sym I.next_head ∙ ap (next (insert (rotation_of t) p q)) (sym (e ∙ ap suc size))
      ]
    ];
  }

  pub map_after : suc (length t.ends) < 2 ^ 30 → IsMap tables_after
  map_after fe = record {
    vertices_few = m.vertices_few;
    edges_few = subst (λ z. z < 2 ^ 30) (sym length-ends_after) fe;
    rotation = subst IsRotation (sym rotation_after) (insert_law (rotation_of t) p q m.rotation lp lq apart).1;
    firsts = m.firsts;
    degrees = length-set (bumped_at t.degree (at (rotation_of t) p)) (at (rotation_of t) q) (get_or (bumped_at t.degree (at (rotation_of t) p)) (at (rotation_of t) q) 0 + 1) ∙ length-set t.degree (at (rotation_of t) p) (get_or t.degree (at (rotation_of t) p) 0 + 1) ∙ m.degrees;
    clockwise = subst (λ z. IsTableOf (2 * z) (next (rotation_of tables_after)) cw_after) (sym length-ends_after)
        (subst (λ (r : Embedded). IsTableOf (2 * suc (length t.ends)) (next r) cw_after) (sym rotation_after) table_after);
    counter = back_after;
    no_loop = λ f l k. elim (cases_lt f (length t.ends)) [
      | inl a ↦ m.no_loop f a (sym (I.tail_old f a) ∙ k ∙ I.head_old f a)
      | inr a ↦ (let w : f ≡ length t.ends = omega (arith, length-ends_after) in differ (sym I.tail_new ∙ ap (tail_of ends_after) (sym w) ∙ k ∙ ap (head_of ends_after) w ∙ I.head_new))
    ];
    empty = λ v l z. m.empty v l (elim (cases_eq (at (rotation_of t) q) v) [
      | inl e ↦ (let w : get_or degree_after v 0 ≡ suc (get_or (bumped_at t.degree (at (rotation_of t) p)) v 0) = (degree2 v l).0 e in absurd (omega arith))
      | inr n ↦ (let w : get_or degree_after v 0 ≡ get_or (bumped_at t.degree (at (rotation_of t) p)) v 0 = (degree2 v l).1 n in elim (cases_eq (at (rotation_of t) p) v) [
        | inl e ↦ (let x : get_or (bumped_at t.degree (at (rotation_of t) p)) v 0 ≡ suc (get_or t.degree v 0) = (degree1 v l).0 e in absurd (omega arith))
        | inr k ↦ sym ((degree1 v l).1 k) ∙ sym w ∙ z
      ])
    ]);
  }

-- no vertex has more ends than there are
pub degree_small : (t : Tables) (m : IsMap t) (v : ℕ) → v < t.vertices → get_or t.degree v 0 ≤ 2 * length t.ends
degree_small t m v l =
    let O = m.rotation.orders in
    let a : length (order (rotation_of t) v) ≤ count_below (2 * length t.ends) (λ _. true) =
    length-le_count (2 * length t.ends) (λ _. true) (order (rotation_of t) v) (λ k j. (O.own v k l j).0) (λ k j. refl) (λ i j x y. O.once v i j l x y) in
    omega (arith, count-le (2 * length t.ends) (λ _. true), degree_is t m v l)

-- the room that is left
pub room_inserted : {n m spare ends degree m' ends' degree' : ℕ} {t t' : LinkTables} → HasRoom n m spare ends degree t → 0 < spare
    → m' ≡ suc m → ends' ≡ ends → degree' ≡ degree → length t'.cw ≡ length t.cw + 2 → length t'.first ≡ length t.first → SameRooms t t'
    → HasRoom n m' (spare - 1) ends' degree' t'
room_inserted r l qm qe qd qc qf same = record {
  vertices_few = omega (arith, r.vertices_few);
  edges_few = omega (arith, r.edges_few);
  room_ends = λ k. omega (arith, r.room_ends l);
  room_degree = λ k. omega (arith, r.room_degree l);
  room_links = λ k. record {
    ends = omega (arith, (r.room_links l).ends, same.ends);
    edges = omega (arith, (r.room_links l).edges, same.edges);
    vertices = omega (arith, (r.room_links l).vertices, same.vertices);
  };
}
