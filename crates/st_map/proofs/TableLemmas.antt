-- The tables of a map stand for the graph of its lists.
use Rattle.std.proofs.Common.{◌≡◌, ℕ, zero, suc, ◌+◌, ◌*◌, ◌^◌, ◌<◌, ◌≤◌, inl, inr, true, eqb, List, [], ◌∷◌, map, length, get_or, refl, sym, ap, ◌∙◌, subst, arith}
use Rattle.std.specs.Prelude.{nat_lt}
use Rattle.std.specs.List.{All, range_with_len}
use Rattle.std.proofs.lemmas.List.Elements.{All-get_or}
use Rattle.std.proofs.lemmas.List.{get_or-map, length-map}
use Rattle.std.proofs.lemmas.List.FromFn.{get_or-map-range_with_len, length-map-range_with_len, fill_by_all}
use Rattle.std.proofs.lemmas.Bool.{cases_eq, cases_lt, eq-eqb, ne_eqb, cond-true, cond-false, lt-ltb, le-ltb}
use Rattle.st_ids.specs.Graph.{Graph, HasEnds, tail_of, head_of}
use Rattle.st_map.specs.Embedded.{Embedded, HasOrders, IsRotation, at, order, darts, next}
use Rattle.st_map.specs.Orders.{HasEdges, HasNoLoop, end_at, ends_at, embed, order_at}
use Rattle.st_map.specs.Tables.{is_at, AreDegrees, AreEdges, AreFirsts, AreListsLinked, IsBack, IsLawful, IsMap, IsTableOf, place_after, ring, ring_at, rotation_of, tables}
use Rattle.st_map.proofs.EndLemmas.{even_or_odd, at-tail, at-head, at_below}
use Rattle.st_map.proofs.RotationLemmas.{next-at, next-last}
use Rattle.st_map.proofs.OrderLemmas.{at_true, true_at, degree_is, order_size}

-- ---- the end of an edge at v
at_its_tail : (ends : List (ℕ × ℕ)) (v e : ℕ) → tail_of ends e ≡ v → end_at ends v e ≡ 2 * e
at_its_tail ends v e q = cond-true (eqb (tail_of ends e) v) (2 * e) (2 * e + 1) (eq-eqb (tail_of ends e) v q)

at_its_head : (ends : List (ℕ × ℕ)) (v e : ℕ) → (tail_of ends e ≡ v → ⊥) → end_at ends v e ≡ 2 * e + 1
at_its_head ends v e q = cond-false (eqb (tail_of ends e) v) (2 * e) (2 * e + 1) (ne_eqb (tail_of ends e) v q)

pub end_below : (ends : List (ℕ × ℕ)) (v e : ℕ) → e < length ends → end_at ends v e < 2 * length ends
end_below ends v e l = elim (cases_eq (tail_of ends e) v) [
  | inl q ↦ omega (arith, at_its_tail ends v e q)
  | inr n ↦ omega (arith, at_its_head ends v e n)
]

pub end_apart : (ends : List (ℕ × ℕ)) (v d e : ℕ) → end_at ends v d ≡ end_at ends v e → d ≡ e
end_apart ends v d e q = elim (cases_eq (tail_of ends d) v) [
  | inl a ↦ elim (cases_eq (tail_of ends e) v) [
    | inl b ↦ omega (arith, at_its_tail ends v d a, at_its_tail ends v e b)
    | inr b ↦ absurd (omega (arith, at_its_tail ends v d a, at_its_head ends v e b))
  ]
  | inr a ↦ elim (cases_eq (tail_of ends e) v) [
    | inl b ↦ absurd (omega (arith, at_its_head ends v d a, at_its_tail ends v e b))
    | inr b ↦ omega (arith, at_its_head ends v d a, at_its_head ends v e b)
  ]
]

pub at_end : (g : Embedded) (v e : ℕ) → is_at g.ends v e ≡ true → at g (end_at g.ends v e) ≡ v
at_end g v e y = elim (cases_eq (tail_of g.ends e) v) [
  | inl q ↦ ap (at g) (at_its_tail g.ends v e q) ∙ at-tail g e ∙ q
  | inr n ↦
      let h : head_of g.ends e ≡ v = elim (at_true g.ends v e y) [ inl t ↦ absurd (n t) | inr t ↦ t ] in
      ap (at g) (at_its_head g.ends v e n) ∙ at-head g e ∙ h
]

-- ---- a ring that follows a list is the list
pub ring-is : (cw ds : List ℕ) (d : ℕ) → (0 < length ds → d ≡ get_or ds 0 0) → ((j : ℕ) → suc j < length ds → get_or cw (get_or ds j 0) 0 ≡ get_or ds (suc j) 0)
    → ring cw (length ds) d ≡ ds
ring-is cw [] d first more = refl
ring-is cw (x ∷ xs) d first more =
    let q : d ≡ x = first (omega arith) in
    ap (λ z. z ∷ ring cw (length xs) (get_or cw d 0)) q
    ∙ ap (λ (zs : List ℕ). x ∷ zs) (ring-is cw xs (get_or cw d 0) (λ l. ap (λ z. get_or cw z 0) q ∙ more 0 (omega arith)) (λ j l. more (suc j) (omega arith)))

pub length-ring : (cw : List ℕ) (k d : ℕ) → length (ring cw k d) ≡ k
length-ring cw zero d = refl
length-ring cw (suc k) d = ap suc (length-ring cw k (get_or cw d 0))

pub place_inner : (n k : ℕ) → k + 1 < n → place_after n k ≡ suc k
place_inner n k l = cond-true (nat_lt (k + 1) n) (k + 1) 0 (lt-ltb (k + 1) n l) ∙ omega arith

pub place_last : (n k : ℕ) → n ≤ k + 1 → place_after n k ≡ 0
place_last n k l = cond-false (nat_lt (k + 1) n) (k + 1) 0 (le-ltb (k + 1) n l)

-- ---- a graph by its parts
pub same_graph : (g : Graph) (n : ℕ) (es : List (ℕ × ℕ)) → n ≡ g.vertices → es ≡ g.ends → g ≡ record { vertices = n; ends = es }
same_graph g n es p q =
    ap (λ z. let r : Graph = record { vertices = z; ends = g.ends } in r) (sym p) ∙ ap (λ (z : List (ℕ × ℕ)). let r : Graph = record { vertices = n; ends = z } in r) (sym q)

pub listed_edges : (g h : Graph) (orders : List (List ℕ)) → g ≡ h → length orders ≡ g.vertices → HasEdges g orders
    → (v : ℕ) → v < h.vertices → AreEdges h.ends (order_at orders v)
listed_edges g h orders eq size edges v l k lk =
    let moved : HasEdges h orders = subst (λ (z : Graph). HasEdges z orders) eq edges in
    let n : length orders ≡ h.vertices = size ∙ ap (λ (z : Graph). z.vertices) eq in
    All-get_or (λ e. e < length h.ends) (order_at orders v) k 0 lk (All-get_or (All (λ e. e < length h.ends)) orders v [] (omega arith) moved)

-- ---- the tables of lists that are lawful
module _ (g : Graph) (orders : List (List ℕ)) (within : HasEnds g) (no_loop : HasNoLoop g)
    (listed : (v : ℕ) → v < g.vertices → AreEdges g.ends (order_at orders v)) (lawful : (v : ℕ) → v < g.vertices → IsLawful g.ends v (order_at orders v)) where
  order_is : (v : ℕ) → v < g.vertices → order (embed g orders) v ≡ ends_at g.ends orders v
  order_is v l = get_or-map-range_with_len (ends_at g.ends orders) 0 g.vertices v v [] l (omega arith)

  entry : (v i : ℕ) → v < g.vertices → i < length (order_at orders v) → get_or (order (embed g orders) v) i 0 ≡ end_at g.ends v (get_or (order_at orders v) i 0)
  entry v i l li = ap (λ (z : List ℕ). get_or z i 0) (order_is v l) ∙ get_or-map (end_at g.ends v) (order_at orders v) i 0 0 li

  order_length : (v : ℕ) → v < g.vertices → length (order (embed g orders) v) ≡ length (order_at orders v)
  order_length v l = ap (λ (z : List ℕ). length z) (order_is v l) ∙ length-map (order_at orders v) (end_at g.ends v)

  find : (v e : ℕ) → v < g.vertices → e < length g.ends → is_at g.ends v e ≡ true
      → (i : ℕ) × (i < length (order (embed g orders) v)) × (get_or (order (embed g orders) v) i 0 ≡ end_at g.ends v e)
  find v e lv le y =
      let r : (k : ℕ) × (k < length (order_at orders v)) × (get_or (order_at orders v) k 0 ≡ e) = (lawful v lv).all e le y in
      (r.0, omega (arith, r.1, order_length v lv), entry v r.0 lv r.1 ∙ ap (end_at g.ends v) r.2)

  listed_at : (d v : ℕ) → d < 2 * length g.ends → at (embed g orders) d ≡ v
      → (i : ℕ) × (i < length (order (embed g orders) v)) × (get_or (order (embed g orders) v) i 0 ≡ d)
  listed_at d v l q = elim (even_or_odd d) [
    | inl p ↦
        let le : p.0 < length g.ends = omega (arith, p.1) in
        let t : tail_of g.ends p.0 ≡ v = sym (at-tail (embed g orders) p.0) ∙ ap (at (embed g orders)) (sym p.1) ∙ q in
        let lv : v < g.vertices = omega (arith, (within p.0 le).0) in
        let r : (i : ℕ) × (i < length (order (embed g orders) v)) × (get_or (order (embed g orders) v) i 0 ≡ end_at g.ends v p.0) =
        find v p.0 lv le (true_at g.ends v p.0 (inl t)) in
        (r.0, r.1, r.2 ∙ at_its_tail g.ends v p.0 t ∙ sym p.1)
    | inr p ↦
        let le : p.0 < length g.ends = omega (arith, p.1) in
        let t : head_of g.ends p.0 ≡ v = sym (at-head (embed g orders) p.0) ∙ ap (at (embed g orders)) (sym p.1) ∙ q in
        let lv : v < g.vertices = omega (arith, (within p.0 le).1) in
        let r : (i : ℕ) × (i < length (order (embed g orders) v)) × (get_or (order (embed g orders) v) i 0 ≡ end_at g.ends v p.0) =
        find v p.0 lv le (true_at g.ends v p.0 (inr t)) in
        (r.0, r.1, r.2 ∙ at_its_head g.ends v p.0 (λ a. no_loop p.0 le (a ∙ sym t)) ∙ sym p.1)
  ]

  pub has_orders : HasOrders (embed g orders)
  has_orders = record {
    own = λ v i lv li.
        let l : i < length (order_at orders v) = omega (arith, order_length v lv) in
        let q : get_or (order (embed g orders) v) i 0 ≡ end_at g.ends v (get_or (order_at orders v) i 0) = entry v i lv l in (
          omega (arith, q, end_below g.ends v (get_or (order_at orders v) i 0) (listed v lv i l)),
          ap (at (embed g orders)) q ∙ at_end (embed g orders) v (get_or (order_at orders v) i 0) ((lawful v lv).only i l),
        );
    listed = λ d l. listed_at d (at (embed g orders) d) l refl;
    once = λ v i j lv a b q.
        let lj : j < length (order_at orders v) = omega (arith, order_length v lv) in
        (lawful v lv).once i j a lj (end_apart g.ends v (get_or (order_at orders v) i 0) (get_or (order_at orders v) j 0)
        (sym (entry v i lv (omega arith)) ∙ q ∙ entry v j lv lj));
  }

  vertex_below : (d : ℕ) → d < darts (embed g orders) → at (embed g orders) d < g.vertices
  vertex_below = at_below (embed g orders) within

  -- each end has a place in a list
  pub placed : (d : ℕ) → d < 2 * length g.ends → (v : ℕ) × (k : ℕ) × (v < g.vertices) × (k < length (order_at orders v)) × (end_at g.ends v (get_or (order_at orders v) k 0) ≡ d)
  placed d l =
      let lv : at (embed g orders) d < g.vertices = vertex_below d l in
      let p : (i : ℕ) × (i < length (order (embed g orders) (at (embed g orders) d))) × (get_or (order (embed g orders) (at (embed g orders) d)) i 0 ≡ d) =
      has_orders.listed d l in
      let li : p.0 < length (order_at orders (at (embed g orders) d)) = omega (arith, p.1, order_length (at (embed g orders) d) lv) in
      (at (embed g orders) d, p.0, lv, li, sym (entry (at (embed g orders) d) p.0 lv li) ∙ p.2)

  next_entry : (v k : ℕ) → v < g.vertices → k < length (order_at orders v)
      → next (embed g orders) (end_at g.ends v (get_or (order_at orders v) k 0)) ≡ end_at g.ends v (get_or (order_at orders v) (place_after (length (order_at orders v)) k) 0)
  next_entry v k lv lk =
      let len : length (order (embed g orders) v) ≡ length (order_at orders v) = order_length v lv in
      elim (cases_lt (k + 1) (length (order_at orders v))) [
        | inl a ↦
            ap (next (embed g orders)) (sym (entry v k lv lk))
            ∙ next-at (embed g orders) has_orders vertex_below v k lv (omega arith)
            ∙ entry v (suc k) lv (omega arith)
            ∙ ap (λ z. end_at g.ends v (get_or (order_at orders v) z 0)) (sym (place_inner (length (order_at orders v)) k a))
        | inr b ↦
            ap (next (embed g orders)) (sym (entry v k lv lk))
            ∙ next-last (embed g orders) has_orders vertex_below v k lv (omega arith)
            ∙ entry v 0 lv (omega arith)
            ∙ ap (λ z. end_at g.ends v (get_or (order_at orders v) z 0)) (sym (place_last (length (order_at orders v)) k b))
      ]

  pub table_of : (cw : List ℕ) → AreListsLinked g.ends orders g.vertices cw → IsTableOf (2 * length g.ends) (next (embed g orders)) cw
  table_of cw h = record {
    size = h.size;
    each = λ d l.
        let lv : at (embed g orders) d < g.vertices = vertex_below d l in
        let p : (i : ℕ) × (i < length (order (embed g orders) (at (embed g orders) d))) × (get_or (order (embed g orders) (at (embed g orders) d)) i 0 ≡ d) =
        has_orders.listed d l in
        let li : p.0 < length (order_at orders (at (embed g orders) d)) = omega (arith, p.1, order_length (at (embed g orders) d) lv) in
        let q : end_at g.ends (at (embed g orders) d) (get_or (order_at orders (at (embed g orders) d)) p.0 0) ≡ d =
        sym (entry (at (embed g orders) d) p.0 lv li) ∙ p.2 in
        subst (λ z. get_or cw z 0 ≡ next (embed g orders) z) q
        (h.done (at (embed g orders) d) p.0 lv li ∙ sym (next_entry (at (embed g orders) d) p.0 lv li));
  }

  ring_row : (first degree cw : List ℕ) → AreFirsts g.vertices g.ends orders first → AreDegrees g.vertices g.ends (length g.ends) degree
      → AreListsLinked g.ends orders g.vertices cw → (v : ℕ) → v < g.vertices → ring_at first degree cw v ≡ ends_at g.ends orders v
  ring_row first degree cw f d c v lv =
      let es : List ℕ = order_at orders v in
      let len : length (ends_at g.ends orders v) ≡ length (order_at orders v) = length-map (order_at orders v) (end_at g.ends v) in
      let size : get_or degree v 0 ≡ length (ends_at g.ends orders v) =
      d.each v lv ∙ degree_is g.ends v no_loop ∙ sym (order_size g.ends v (order_at orders v) (listed v lv) (lawful v lv)) ∙ sym len in
      let at_row : (j : ℕ) → j < length (order_at orders v) → get_or (ends_at g.ends orders v) j 0 ≡ end_at g.ends v (get_or (order_at orders v) j 0) =
      λ j l. get_or-map (end_at g.ends v) (order_at orders v) j 0 0 l in
      ap (λ z. ring cw z (get_or first v 0)) size
      ∙ ring-is cw (ends_at g.ends orders v) (get_or first v 0) (λ l. f.each v lv (omega arith) ∙ sym (at_row 0 (omega arith))) (λ j l.
      ap (λ z. get_or cw z 0) (at_row j (omega arith))
      ∙ c.done v j lv (omega arith)
      ∙ ap (λ z. end_at g.ends v (get_or (order_at orders v) z 0)) (place_inner (length (order_at orders v)) j (omega arith))
      ∙ sym (at_row (suc j) (omega arith)))

  pub rotation_is : (first degree cw ccw : List ℕ) → AreFirsts g.vertices g.ends orders first → AreDegrees g.vertices g.ends (length g.ends) degree
      → AreListsLinked g.ends orders g.vertices cw → rotation_of (tables g.vertices g.ends first degree cw ccw) ≡ embed g orders
  rotation_is first degree cw ccw f d c =
      ap (λ (os : List (List ℕ)). let r : Embedded = record { vertices = g.vertices; ends = g.ends; orders = os } in r)
      (fill_by_all (ends_at g.ends orders) (map (ring_at first degree cw) (range_with_len 0 g.vertices)) g.vertices []
      (length-map-range_with_len (ring_at first degree cw) 0 g.vertices)
      (λ k l. get_or-map-range_with_len (ring_at first degree cw) 0 g.vertices k k [] l (omega arith) ∙ ring_row first degree cw f d c k l))

  pub is_map : (first degree cw ccw : List ℕ) → AreFirsts g.vertices g.ends orders first → AreDegrees g.vertices g.ends (length g.ends) degree
      → AreListsLinked g.ends orders g.vertices cw → IsBack cw ccw → g.vertices < 2 ^ 30 → length g.ends < 2 ^ 30
      → IsMap (tables g.vertices g.ends first degree cw ccw)
  is_map first degree cw ccw f d c back fv fe =
      let eq : embed g orders ≡ rotation_of (tables g.vertices g.ends first degree cw ccw) = sym (rotation_is first degree cw ccw f d c) in
      record {
        vertices_few = fv;
        edges_few = fe;
        rotation = subst IsRotation eq (record { ends = within; orders = has_orders });
        firsts = f.size;
        degrees = d.size;
        clockwise = subst (λ (r : Embedded). IsTableOf (2 * length g.ends) (next r) cw) eq (table_of cw c);
        counter = back;
        no_loop = no_loop;
        empty = λ v lv z. f.none v lv (order_size g.ends v (order_at orders v) (listed v lv) (lawful v lv) ∙ sym (d.each v lv ∙ degree_is g.ends v no_loop) ∙ z);
      }
