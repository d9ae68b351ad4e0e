-- The tables of a map with an edge taken out stand for the graph without it.
use Rattle.std.proofs.Common.{◌≡◌, ◌≢◌, ℕ, zero, suc, ◌+◌, ◌-◌, ◌*◌, ◌^◌, ◌<◌, eqb, List, [], ◌∷◌, map, length, get_or, inl, inr, cond, sym, ap, ◌∙◌, subst, arith}
use Rattle.std.proofs.lemmas.Bool.{cases_eq, cases_lt, eq-eqb, ne_eqb, cond-true, cond-false}
use Rattle.std.proofs.lemmas.List.{get_or-map, length-map, length-set, get_or-set_same, get_or-set_other}
use Rattle.std.proofs.lemmas.List.FromFn.{length-map-range_with_len, fill_by_all}
use Rattle.st_ids.specs.Ends.{edge_of}
use Rattle.st_ids.specs.Graph.{tail_of, head_of}
use Rattle.st_ids.specs.Lists.{In, here, there, NoRepeat}
use Rattle.st_ids.proofs.Public.{not_in_nil, In-cases}
use Rattle.st_map.specs.Embedded.{Embedded, IsRotation, at, darts, edges, head, next, order, tail}
use Rattle.st_map.specs.Links.{HasRoom, LinkTables, SameRooms}
use Rattle.st_map.specs.Remove.{RemovesEdge, exchanged, old_edge, passed, removed, without_edge}
use Rattle.st_map.specs.Tables.{AreLinksRemoved, IsBack, IsMap, IsTableOf, Tables, first_left, lowered_at, no_first, passed_in, ring, ring_at, rotation_of, tables}
use Rattle.st_map.proofs.CyclicLemmas.{Members, members_of}
use Rattle.st_map.proofs.EditCyclic.{One, drop_yes, drop_no, drop_none, rest_none}
use Rattle.st_map.proofs.EndLemmas.{at-tail, at-head, at_below, edge_of-below, edge_of-tail, edge_of-head}
use Rattle.st_map.proofs.ExchangeLemmas.{X, ex_not, ex_other, X_X, X_edge, X_head, X_in}
use Rattle.st_map.proofs.MapLemmas.{at_next, back_is, degree_is, first_within, next_below, order_is}
use Rattle.st_map.proofs.RemoveLemmas.{RemovesLists, end_of, remove_law, removed_is}
use Rattle.st_map.proofs.RotationLemmas.{next-at, next-below, next-last}
use Rattle.st_map.proofs.TableLemmas.{length-ring, ring-is}

-- ---- numbers exchanged
pub twice : (n e d : ℕ) → exchanged n e (exchanged n e d) ≡ d
unfolding X
twice n e d = X_X n e d

pub within : (n e d : ℕ) → e < suc n → d < suc (suc (2 * n)) → exchanged n e d < suc (suc (2 * n))
unfolding X
within n e d le l = X_in n e le d l

pub of_others : (n e d : ℕ) → d < 2 * n → edge_of (exchanged n e d) ≢ e
unfolding X
of_others n e d l q = ex_not n e (edge_of d) (edge_of-below n d l) (sym (X_edge n e d) ∙ q)

-- ---- an entry passed
passed_yes : (l : List ℕ) (e d : ℕ) → edge_of (get_or l d 0) ≡ e → passed_in l e d ≡ get_or l (get_or l d 0) 0
passed_yes l e d q = cond-true (eqb (edge_of (get_or l d 0)) e) (get_or l (get_or l d 0) 0) (get_or l d 0) (eq-eqb (edge_of (get_or l d 0)) e q)

passed_no : (l : List ℕ) (e d : ℕ) → edge_of (get_or l d 0) ≢ e → passed_in l e d ≡ get_or l d 0
passed_no l e d q = cond-false (eqb (edge_of (get_or l d 0)) e) (get_or l (get_or l d 0) 0) (get_or l d 0) (ne_eqb (edge_of (get_or l d 0)) e q)

back_passed : (cw ccw : List ℕ) (e d : ℕ) → IsBack cw ccw → d < length cw → get_or cw d 0 < length cw → edge_of d ≢ e → passed_in ccw e (passed_in cw e d) ≡ d
back_passed cw ccw e d back l k n = elim (cases_eq (edge_of (get_or cw d 0)) e) [
  | inl q ↦
      let b : get_or ccw (get_or cw (get_or cw d 0) 0) 0 ≡ get_or cw d 0 = back.each (get_or cw d 0) k in
      ap (passed_in ccw e) (passed_yes cw e d q) ∙ passed_yes ccw e (get_or cw (get_or cw d 0) 0) (ap edge_of b ∙ q) ∙ ap (λ z. get_or ccw z 0) b ∙ back.each d l
  | inr q ↦
      let b : get_or ccw (get_or cw d 0) 0 ≡ d = back.each d l in
      ap (passed_in ccw e) (passed_no cw e d q) ∙ passed_no ccw e (get_or cw d 0) (λ w. n (sym (ap edge_of b) ∙ w)) ∙ b
]

-- ---- a list without the ends of e
length_one : (e : ℕ) (l : List ℕ) → NoRepeat l → One e l → (p : ℕ) → In p l → edge_of p ≡ e → suc (length (without_edge e l)) ≡ length l
length_one e [] once one p i q = absurd (not_in_nil i)
length_one e (x ∷ xs) once one p i q = elim (cases_eq (edge_of x) e) [
  | inl k ↦ ap (λ (z : List ℕ). suc (length z)) (drop_yes e x xs k ∙ drop_none e xs (rest_none e x xs once one k))
  | inr n ↦ elim (In-cases i) [
    | inl w ↦ absurd (n (ap edge_of (sym w) ∙ q))
    | inr j ↦ ap (λ (z : List ℕ). suc (length z)) (drop_no e x xs n) ∙ ap suc (length_one e xs once.1 (λ a b i j. one a b (there i) (there j)) p j q)
  ]
]

-- ---- first ends
module _ (n e : ℕ) (cw : List ℕ) where
  pub first_yes : (d : ℕ) → edge_of d ≡ e → first_left cw n e d ≡ cond (eqb (get_or cw d 0) d) no_first (exchanged n e (get_or cw d 0))
  first_yes d q = cond-true (eqb (edge_of d) e) (cond (eqb (get_or cw d 0) d) no_first (exchanged n e (get_or cw d 0))) (exchanged n e d) (eq-eqb (edge_of d) e q)

  pub first_no : (d : ℕ) → edge_of d ≢ e → first_left cw n e d ≡ exchanged n e d
  first_no d q = cond-false (eqb (edge_of d) e) (cond (eqb (get_or cw d 0) d) no_first (exchanged n e (get_or cw d 0))) (exchanged n e d) (ne_eqb (edge_of d) e q)

  second_first : (k x : ℕ) → edge_of x ≡ e → NoRepeat (x ∷ ring cw k (get_or cw x 0)) → 0 < length (ring cw k (get_or cw x 0))
      → get_or (map (exchanged n e) (ring cw k (get_or cw x 0))) 0 0 ≡ first_left cw n e x
  second_first zero x q once l = absurd (omega arith)
  second_first (suc k) x q once l =
      sym (first_yes x q ∙ cond-false (eqb (get_or cw x 0) x) no_first (exchanged n e (get_or cw x 0)) (ne_eqb (get_or cw x 0) x (λ w. once.0 (here (sym w)))))

  ring_first : (k x : ℕ) → NoRepeat (ring cw k x) → One e (ring cw k x) → 0 < length (without_edge e (ring cw k x))
      → get_or (map (exchanged n e) (without_edge e (ring cw k x))) 0 0 ≡ first_left cw n e x
  ring_first zero x once one l = absurd (omega arith)
  ring_first (suc k) x once one l = elim (cases_eq (edge_of x) e) [
    | inl q ↦
        let w : without_edge e (x ∷ ring cw k (get_or cw x 0)) ≡ ring cw k (get_or cw x 0) =
        drop_yes e x (ring cw k (get_or cw x 0)) q ∙ drop_none e (ring cw k (get_or cw x 0)) (rest_none e x (ring cw k (get_or cw x 0)) once one q) in
        ap (λ (z : List ℕ). get_or (map (exchanged n e) z) 0 0) w ∙ second_first k x q once (subst (λ (z : List ℕ). 0 < length z) w l)
    | inr m ↦ ap (λ (z : List ℕ). get_or (map (exchanged n e) z) 0 0) (drop_no e x (ring cw k (get_or cw x 0)) m) ∙ sym (first_no x m)
  ]

  ring_lost : (k x : ℕ) → (k ≡ 1 → get_or cw x 0 ≡ x) → NoRepeat (ring cw k x) → One e (ring cw k x) → 0 < k → length (without_edge e (ring cw k x)) ≡ 0
      → first_left cw n e x ≡ no_first
  ring_lost zero x alone once one l z = absurd (omega arith)
  ring_lost (suc k) x alone once one l z = elim (cases_eq (edge_of x) e) [
    | inl q ↦
        let w : without_edge e (x ∷ ring cw k (get_or cw x 0)) ≡ ring cw k (get_or cw x 0) =
        drop_yes e x (ring cw k (get_or cw x 0)) q ∙ drop_none e (ring cw k (get_or cw x 0)) (rest_none e x (ring cw k (get_or cw x 0)) once one q) in
        let none : k ≡ 0 = sym (length-ring cw k (get_or cw x 0)) ∙ ap (λ (z : List ℕ). length z) (sym w) ∙ z in
        first_yes x q ∙ cond-true (eqb (get_or cw x 0) x) no_first (exchanged n e (get_or cw x 0)) (eq-eqb (get_or cw x 0) x (alone (ap suc none)))
    | inr m ↦
        let some : suc (length (without_edge e (ring cw k (get_or cw x 0)))) ≡ 0 = ap (λ (z : List ℕ). length z) (sym (drop_no e x (ring cw k (get_or cw x 0)) m)) ∙ z in
        absurd (omega arith)
  ]

  half : edge_of no_first ≡ 2147483647
  half = edge_of-head 2147483647

  pub no_left : n < 2 ^ 30 → e < 2 ^ 30 → first_left cw n e no_first ≡ no_first
  unfolding X
  no_left ln le =
      first_no no_first (λ q. (let z : 2147483647 ≡ e = sym half ∙ q in omega arith))
      ∙ X_head n e 2147483647 ∙ ap (λ z. 2 * z + 1) (ex_other n e 2147483647 (λ q. omega arith) (λ q. omega arith))

module _ (t : Tables) (m : IsMap t) (e : ℕ) (le : e < length t.ends) where
  M : Members (rotation_of t)
  M = members_of (rotation_of t) m.rotation.orders

  -- at most one end of e is at a vertex
  one_end : (v : ℕ) → v < t.vertices → One e (order (rotation_of t) v)
  one_end v l x y i j a b =
      let ax : at (rotation_of t) x ≡ v = (M.own v x l i).1 in
      let ay : at (rotation_of t) y ≡ v = (M.own v y l j).1 in
      elim (end_of e x a) [
        | inl q ↦ elim (end_of e y b) [
          | inl r ↦ q ∙ sym r
          | inr r ↦ absurd (m.no_loop e le (sym (at-tail (rotation_of t) e) ∙ ap (at (rotation_of t)) (sym q) ∙ ax ∙ sym ay ∙ ap (at (rotation_of t)) r ∙ at-head (rotation_of t) e))
        ]
        | inr q ↦ elim (end_of e y b) [
          | inl r ↦ absurd (m.no_loop e le (sym (at-tail (rotation_of t) e) ∙ ap (at (rotation_of t)) (sym r) ∙ ay ∙ sym ax ∙ ap (at (rotation_of t)) q ∙ at-head (rotation_of t) e))
          | inr r ↦ q ∙ sym r
        ]
      ]

  -- ---- degrees
  abbrev pub degree_left : List ℕ
  degree_left = lowered_at (lowered_at t.degree (tail_of t.ends e)) (head_of t.ends e)

  tail_in : tail_of t.ends e < length t.degree
  tail_in = omega (arith, (m.rotation.ends e le).0, m.degrees)

  head_in : head_of t.ends e < length t.degree
  head_in = omega (arith, (m.rotation.ends e le).1, m.degrees)

  long1 : length (lowered_at t.degree (tail_of t.ends e)) ≡ length t.degree
  long1 = length-set t.degree (tail_of t.ends e) (get_or t.degree (tail_of t.ends e) 0 - 1)

  pub length-degree_left : length degree_left ≡ t.vertices
  length-degree_left = length-set (lowered_at t.degree (tail_of t.ends e)) (head_of t.ends e) (get_or (lowered_at t.degree (tail_of t.ends e)) (head_of t.ends e) 0 - 1) ∙ long1 ∙ m.degrees

  pub degree_head : get_or (lowered_at t.degree (tail_of t.ends e)) (head_of t.ends e) 0 ≡ get_or t.degree (head_of t.ends e) 0
  degree_head = get_or-set_other t.degree (tail_of t.ends e) (head_of t.ends e) (get_or t.degree (tail_of t.ends e) 0 - 1) 0 (λ q. m.no_loop e le (sym q))

  -- a vertex of e has an end of e
  has_end : (p v : ℕ) → v < t.vertices → p < 2 * length t.ends → at (rotation_of t) p ≡ v → edge_of p ≡ e → suc (length (without_edge e (order (rotation_of t) v))) ≡ get_or t.degree v 0
  has_end p v l k q w =
      length_one e (order (rotation_of t) v) (M.once v l) (one_end v l) p (subst (λ u. In p (order (rotation_of t) u)) q (M.all p k)) w ∙ sym (degree_is t m v l)

  has_tail : suc (length (without_edge e (order (rotation_of t) (tail_of t.ends e)))) ≡ get_or t.degree (tail_of t.ends e) 0
  has_tail = has_end (2 * e) (tail_of t.ends e) (m.rotation.ends e le).0 (omega arith) (at-tail (rotation_of t) e) (edge_of-tail e)

  has_head : suc (length (without_edge e (order (rotation_of t) (head_of t.ends e)))) ≡ get_or t.degree (head_of t.ends e) 0
  has_head = has_end (2 * e + 1) (head_of t.ends e) (m.rotation.ends e le).1 (omega arith) (at-head (rotation_of t) e) (edge_of-head e)

  pub some_tail : 0 < get_or t.degree (tail_of t.ends e) 0
  some_tail = omega (arith, has_tail)

  pub some_head : 0 < get_or t.degree (head_of t.ends e) 0
  some_head = omega (arith, has_head)

  pub degree_left_is : (v : ℕ) → v < t.vertices → get_or degree_left v 0 ≡ length (without_edge e (order (rotation_of t) v))
  degree_left_is v l = elim (cases_eq v (head_of t.ends e)) [
    | inl q ↦
        let a : get_or degree_left (head_of t.ends e) 0 ≡ get_or (lowered_at t.degree (tail_of t.ends e)) (head_of t.ends e) 0 - 1 =
        get_or-set_same (lowered_at t.degree (tail_of t.ends e)) (head_of t.ends e) (get_or (lowered_at t.degree (tail_of t.ends e)) (head_of t.ends e) 0 - 1) 0 (omega (arith, long1, head_in)) in
        let b : get_or degree_left (head_of t.ends e) 0 ≡ length (without_edge e (order (rotation_of t) (head_of t.ends e))) = omega (arith, a, degree_head, has_head) in
        subst (λ z. get_or degree_left z 0 ≡ length (without_edge e (order (rotation_of t) z))) (sym q) b
    | inr nh ↦
        let a : get_or degree_left v 0 ≡ get_or (lowered_at t.degree (tail_of t.ends e)) v 0 =
        get_or-set_other (lowered_at t.degree (tail_of t.ends e)) (head_of t.ends e) v (get_or (lowered_at t.degree (tail_of t.ends e)) (head_of t.ends e) 0 - 1) 0 nh in
        elim (cases_eq v (tail_of t.ends e)) [
          | inl q ↦
              let c : get_or (lowered_at t.degree (tail_of t.ends e)) (tail_of t.ends e) 0 ≡ get_or t.degree (tail_of t.ends e) 0 - 1 =
              get_or-set_same t.degree (tail_of t.ends e) (get_or t.degree (tail_of t.ends e) 0 - 1) 0 tail_in in
              let b : get_or (lowered_at t.degree (tail_of t.ends e)) (tail_of t.ends e) 0 ≡ length (without_edge e (order (rotation_of t) (tail_of t.ends e))) = omega (arith, c, has_tail) in
              a ∙ subst (λ z. get_or (lowered_at t.degree (tail_of t.ends e)) z 0 ≡ length (without_edge e (order (rotation_of t) z))) (sym q) b
          | inr nt ↦
              let none : (y : ℕ) → In y (order (rotation_of t) v) → edge_of y ≢ e = λ y i w. elim (end_of e y w) [
                | inl r ↦ nt (sym (M.own v y l i).1 ∙ ap (at (rotation_of t)) r ∙ at-tail (rotation_of t) e)
                | inr r ↦ nh (sym (M.own v y l i).1 ∙ ap (at (rotation_of t)) r ∙ at-head (rotation_of t) e)
              ] in
              a ∙ get_or-set_other t.degree (tail_of t.ends e) v (get_or t.degree (tail_of t.ends e) 0 - 1) 0 nt ∙ degree_is t m v l
              ∙ ap (λ (z : List ℕ). length z) (sym (drop_none e (order (rotation_of t) v) none))
        ]
  ]

  -- ---- the tables
  module _ (n : ℕ) (few : length t.ends ≡ suc n) (cw' ccw' : List ℕ) (C : AreLinksRemoved t.cw n e cw') (B : AreLinksRemoved t.ccw n e ccw') where
    abbrev pub first_after : List ℕ
    first_after = map (first_left t.cw n e) t.first

    abbrev pub tables_left : Tables
    tables_left = tables t.vertices (removed (rotation_of t) e).ends first_after degree_left cw' ccw'

    law : RemovesEdge (rotation_of t) (removed (rotation_of t) e) e × IsRotation (removed (rotation_of t) e)
    law = remove_law (rotation_of t) e m.rotation le (m.no_loop e le)

    pub left_is : edges (removed (rotation_of t) e) ≡ n
    left_is = (let z : edges (rotation_of t) ≡ suc (edges (removed (rotation_of t) e)) = law.0.count in omega (arith, few))

    e_in : e < suc n
    e_in = subst (λ z. e < z) few le

    list_is : (v : ℕ) → v < t.vertices → order (removed (rotation_of t) e) v ≡ map (exchanged n e) (without_edge e (order (rotation_of t) v))
    list_is v l = (let r : RemovesLists (rotation_of t) (removed (rotation_of t) e) e = removed_is (rotation_of t) e le in r.lists v l) ∙ ap (λ z. map (exchanged z e) (without_edge e (order (rotation_of t) v))) left_is

    passed_same : (d : ℕ) → d < 2 * length t.ends → passed_in t.cw e d ≡ passed (rotation_of t) e d
    passed_same d l =
        let a : get_or t.cw d 0 ≡ next (rotation_of t) d = m.clockwise.each d l in
        let b : get_or t.cw (get_or t.cw d 0) 0 ≡ next (rotation_of t) (next (rotation_of t) d) = ap (λ z. get_or t.cw z 0) a ∙ m.clockwise.each (next (rotation_of t) d) (next_below t m d l) in
        ap (λ z. cond (eqb (edge_of z) e) (get_or t.cw (get_or t.cw d 0) 0) z) a ∙ ap (λ z. cond (eqb (edge_of (next (rotation_of t) d)) e) z (next (rotation_of t) d)) b

    old_in : (d : ℕ) → d < 2 * n → exchanged n e d < 2 * length t.ends
    old_in d l = (let z : exchanged n e d < suc (suc (2 * n)) = within n e d e_in (omega arith) in omega (arith, few))

    next_left : (d : ℕ) → d < 2 * n → get_or cw' d 0 ≡ next (removed (rotation_of t) e) d
    next_left d l =
        let k : d < darts (removed (rotation_of t) e) = omega (arith, left_is) in
        let a : exchanged n e (next (removed (rotation_of t) e) d) ≡ passed (rotation_of t) e (exchanged n e d) =
        subst (λ z. exchanged z e (next (removed (rotation_of t) e) d) ≡ passed (rotation_of t) e (exchanged z e d)) left_is (law.0.next_old d k) in
        sym (twice n e (get_or cw' d 0)) ∙ ap (exchanged n e) (C.each d l ∙ passed_same (exchanged n e d) (old_in d l) ∙ sym a) ∙ twice n e (next (removed (rotation_of t) e) d)

    first_entry : (v : ℕ) → v < t.vertices → get_or first_after v 0 ≡ first_left t.cw n e (get_or t.first v 0)
    first_entry v l = get_or-map (first_left t.cw n e) t.first v 0 0 (omega (arith, m.firsts))

    once0 : (v : ℕ) → v < t.vertices → NoRepeat (ring_at t.first t.degree t.cw v)
    once0 v l = subst NoRepeat (order_is t m v l) (M.once v l)

    one0 : (v : ℕ) → v < t.vertices → One e (ring_at t.first t.degree t.cw v)
    one0 v l = λ x y i j a b. one_end v l x y (subst (λ z. In x z) (sym (order_is t m v l)) i) (subst (λ z. In y z) (sym (order_is t m v l)) j) a b

    ring_left : (v : ℕ) → v < t.vertices → ring_at first_after degree_left cw' v ≡ order (removed (rotation_of t) e) v
    ring_left v l =
        let size : get_or degree_left v 0 ≡ length (order (removed (rotation_of t) e) v) =
        degree_left_is v l ∙ sym (ap (λ (z : List ℕ). length z) (list_is v l) ∙ length-map (without_edge e (order (rotation_of t) v)) (exchanged n e)) in
        ap (λ z. ring cw' z (get_or first_after v 0)) size
        ∙ ring-is cw' (order (removed (rotation_of t) e) v) (get_or first_after v 0)
        (λ some.
        let k : 0 < length (without_edge e (ring_at t.first t.degree t.cw v)) =
        subst (λ (z : List ℕ). 0 < length (without_edge e z)) (order_is t m v l) (omega (arith, size, degree_left_is v l)) in
        first_entry v l ∙ sym (ap (λ (z : List ℕ). get_or z 0 0) (list_is v l) ∙ ap (λ (z : List ℕ). get_or (map (exchanged n e) (without_edge e z)) 0 0) (order_is t m v l)
        ∙ ring_first n e t.cw (get_or t.degree v 0) (get_or t.first v 0) (once0 v l) (one0 v l) k))
        (λ j k.
        let i : get_or (order (removed (rotation_of t) e) v) j 0 < darts (removed (rotation_of t) e) = (law.1.orders.own v j l (omega arith)).0 in
        next_left (get_or (order (removed (rotation_of t) e) v) j 0) (omega (arith, left_is))
        ∙ next-at (removed (rotation_of t) e) law.1.orders (at_below (removed (rotation_of t) e) law.1.ends) v j l k)

    pub rotation_left : rotation_of tables_left ≡ removed (rotation_of t) e
    rotation_left =
        ap (λ (os : List (List ℕ)). let r : Embedded = record { vertices = t.vertices; ends = (removed (rotation_of t) e).ends; orders = os } in r)
        (sym (fill_by_all (ring_at first_after degree_left cw') (removed (rotation_of t) e).orders t.vertices []
        (length-map-range_with_len (λ v. map (exchanged (edges (rotation_of t) - 1) e) (without_edge e (order (rotation_of t) v))) 0 t.vertices) (λ v l. sym (ring_left v l))))

    -- a vertex with one end
    alone : (v : ℕ) → v < t.vertices → get_or t.degree v 0 ≡ 1 → get_or t.cw (get_or t.first v 0) 0 ≡ get_or t.first v 0
    alone v l q =
        let f : get_or (order (rotation_of t) v) 0 0 ≡ get_or t.first v 0 = ap (λ (z : List ℕ). get_or z 0 0) (order_is t m v l) ∙ ap (λ z. get_or (ring t.cw z (get_or t.first v 0)) 0 0) q in
        let i : get_or t.first v 0 < 2 * length t.ends = (first_within t m v l (omega arith)).0 in
        m.clockwise.each (get_or t.first v 0) i ∙ ap (next (rotation_of t)) (sym f)
        ∙ next-last (rotation_of t) m.rotation.orders (at_below (rotation_of t) m.rotation.ends) v 0 l (sym q ∙ degree_is t m v l) ∙ f

    none_left : (v : ℕ) → v < t.vertices → get_or degree_left v 0 ≡ 0 → get_or first_after v 0 ≡ no_first
    none_left v l z = first_entry v l ∙ elim (cases_lt 0 (get_or t.degree v 0)) [
      | inl some ↦
          ring_lost n e t.cw (get_or t.degree v 0) (get_or t.first v 0) (alone v l) (once0 v l) (one0 v l) some
          (ap (λ (x : List ℕ). length (without_edge e x)) (sym (order_is t m v l)) ∙ sym (degree_left_is v l) ∙ z)
      | inr k ↦
          ap (first_left t.cw n e) (m.empty v l (omega arith)) ∙ no_left n e t.cw (omega (arith, few, m.edges_few)) (omega (arith, m.edges_few))
    ]

    back_left : IsBack cw' ccw'
    back_left = record {
      size = B.size ∙ sym C.size;
      each = λ d l.
          let k : d < 2 * n = omega (arith, C.size) in
          let lc : get_or cw' d 0 < 2 * n = next_in d k in
          let D : exchanged n e d < 2 * length t.ends = old_in d k in
          let w : exchanged n e d < length t.cw = omega (arith, m.clockwise.size) in
          let s : get_or t.cw (exchanged n e d) 0 < length t.cw = omega (arith, m.clockwise.size, m.clockwise.each (exchanged n e d) D, next_below t m (exchanged n e d) D) in
          sym (twice n e (get_or ccw' (get_or cw' d 0) 0))
          ∙ ap (exchanged n e) (B.each (get_or cw' d 0) lc ∙ ap (passed_in t.ccw e) (C.each d k) ∙ back_passed t.cw t.ccw e (exchanged n e d) m.counter w s (of_others n e d k))
          ∙ twice n e d;
    }
      where
        next_in : (d : ℕ) → d < 2 * n → get_or cw' d 0 < 2 * n
        next_in d l =
            let i : next (removed (rotation_of t) e) d < darts (removed (rotation_of t) e) = next-below (removed (rotation_of t) e) law.1.orders (at_below (removed (rotation_of t) e) law.1.ends) d (omega (arith, left_is)) in
            omega (arith, left_is, next_left d l)

    old_edge_in : (f : ℕ) → f < edges (removed (rotation_of t) e) → old_edge (edges (removed (rotation_of t) e)) e f < length t.ends
    old_edge_in f l = elim (cases_eq f e) [
      | inl q ↦ (let w : old_edge (edges (removed (rotation_of t) e)) e f ≡ edges (removed (rotation_of t) e) = cond-true (eqb f e) (edges (removed (rotation_of t) e)) f (eq-eqb f e q) in omega (arith, left_is, few))
      | inr k ↦ (let w : old_edge (edges (removed (rotation_of t) e)) e f ≡ f = cond-false (eqb f e) (edges (removed (rotation_of t) e)) f (ne_eqb f e k) in omega (arith, left_is, few))
    ]

    pub map_left : IsMap tables_left
    map_left = record {
      vertices_few = m.vertices_few;
      edges_few = omega (arith, left_is, few, m.edges_few);
      rotation = subst IsRotation (sym rotation_left) law.1;
      firsts = length-map t.first (first_left t.cw n e) ∙ m.firsts;
      degrees = length-degree_left;
      clockwise = subst (λ (r : Embedded). IsTableOf (2 * edges (removed (rotation_of t) e)) (next r) cw') (sym rotation_left)
          (record { size = C.size ∙ ap (λ z. 2 * z) (sym left_is); each = λ d l. next_left d (omega (arith, left_is)) });
      counter = back_left;
      no_loop = λ f l q. m.no_loop (old_edge (edges (removed (rotation_of t) e)) e f) (old_edge_in f l) (sym (law.0.tail_old f l) ∙ q ∙ law.0.head_old f l);
      empty = none_left;
    }

-- ---- what is asked of the links
module _ (t : Tables) (m : IsMap t) (e : ℕ) (le : e < length t.ends) where
  pub forth_is : IsBack t.ccw t.cw
  forth_is = record {
    size = sym m.counter.size;
    each = λ d l. (let b = back_is t m d (omega (arith, m.counter.size, m.clockwise.size)) in m.clockwise.each (get_or t.ccw d 0) b.0 ∙ b.1);
  }

  pub apart_cw : get_or t.cw (2 * e) 0 ≢ 2 * e + 1
  apart_cw q = m.no_loop e le (sym (at-tail (rotation_of t) e) ∙ sym (at_next t m (2 * e) (omega arith)) ∙ ap (at (rotation_of t)) (sym (m.clockwise.each (2 * e) (omega arith)) ∙ q) ∙ at-head (rotation_of t) e)

  pub apart_cw' : get_or t.cw (2 * e + 1) 0 ≢ 2 * e
  apart_cw' q = m.no_loop e le (sym (at-tail (rotation_of t) e) ∙ ap (at (rotation_of t)) (sym q ∙ m.clockwise.each (2 * e + 1) (omega arith)) ∙ at_next t m (2 * e + 1) (omega arith) ∙ at-head (rotation_of t) e)

  pub first_at_vertex : (x v u : ℕ) → x < 2 * length t.ends → at (rotation_of t) x ≡ u → v < length t.first → get_or t.first v 0 ≡ x → v ≡ u
  first_at_vertex x v u lx w l q =
      let lv : v < t.vertices = omega (arith, m.firsts) in
      elim (cases_lt 0 (get_or t.degree v 0)) [
        | inl some ↦ sym (first_within t m v lv some).1 ∙ ap (at (rotation_of t)) q ∙ w
        | inr none ↦ (let z : get_or t.first v 0 ≡ no_first = m.empty v lv (omega arith) in absurd (omega (arith, m.edges_few)))
      ]

-- the ends of the edges afterwards
pub ends_left : (g : Embedded) (e : ℕ) (ends' : List (ℕ × ℕ)) → length ends' + 1 ≡ length g.ends
    → ((d : ℕ × ℕ) → e + 1 < length g.ends → get_or ends' e d ≡ get_or g.ends (length g.ends - 1) d)
    → ((k : ℕ) (d : ℕ × ℕ) → k ≢ e → k + 1 < length g.ends → get_or ends' k d ≡ get_or g.ends k d) → ends' ≡ (removed g e).ends
unfolding tail_of head_of
ends_left g e ends' size at_e other =
    fill_by_all (λ f. (tail g (old_edge (edges g - 1) e f), head g (old_edge (edges g - 1) e f))) ends' (edges g - 1) (0, 0) (omega arith) (λ k l. elim (cases_eq k e) [
      | inl q ↦
          ap (λ z. get_or ends' z (0, 0)) q ∙ at_e (0, 0) (omega arith)
          ∙ ap (λ z. get_or g.ends z (0, 0)) (sym (cond-true (eqb k e) (edges g - 1) k (eq-eqb k e q)))
      | inr n ↦ other k (0, 0) n (omega arith) ∙ ap (λ z. get_or g.ends z (0, 0)) (sym (cond-false (eqb k e) (edges g - 1) k (ne_eqb k e n)))
    ])

-- the room that is left
pub room_left : {n m spare ends degree m' ends' degree' : ℕ} {t t' : LinkTables} → HasRoom n m spare ends degree t
    → m' + 1 ≡ m → ends' ≡ ends → degree' ≡ degree → length t.cw ≡ length t'.cw + 2 → length t'.first ≡ length t.first → SameRooms t t'
    → HasRoom n m' spare ends' degree' t'
room_left r qm qe qd qc qf same = record {
  vertices_few = r.vertices_few;
  edges_few = omega (arith, r.edges_few);
  room_ends = λ k. omega (arith, r.room_ends k);
  room_degree = λ k. omega (arith, r.room_degree k);
  room_links = λ k. record {
    ends = omega (arith, (r.room_links k).ends, same.ends);
    edges = omega (arith, (r.room_links k).edges, same.edges);
    vertices = omega (arith, (r.room_links k).vertices, same.vertices);
  };
}
