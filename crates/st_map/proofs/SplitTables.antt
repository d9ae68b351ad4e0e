-- The tables of a map with an edge split stand for the graph with the edge split.
use Rattle.std.proofs.Common.{◌≡◌, ◌≢◌, ℕ, zero, suc, ◌+◌, ◌-◌, ◌*◌, ◌^◌, ◌<◌, eqb, List, [], ◌∷◌, ◌++◌, map, set, length, get_or, inl, inr, refl, sym, ap, ◌∙◌, subst, arith, length-append}
use Rattle.std.specs.List.{range_with_len}
use Rattle.std.proofs.lemmas.List.{length-set, length-map, get_or-map, get_or_append_left, get_or-append-add}
use Rattle.std.proofs.lemmas.List.FromFn.{length-range_with_len, fill_by_all}
use Rattle.std.proofs.lemmas.Bool.{cases_eq, cases_lt, eq-eqb, ne_eqb, cond-true, cond-false}
use Rattle.st_ids.specs.Graph.{tail_of, head_of}
use Rattle.st_map.specs.Embedded.{Embedded, IsRotation, order, next}
use Rattle.st_map.specs.Split.{moved, split, SplitsEdge}
use Rattle.st_map.specs.Links.{HasRoom, LinkTables, SameRooms}
use Rattle.st_map.specs.Tables.{AreLinksSplit, IsBack, IsMap, IsTableOf, Tables, no_first, renumbered, ring, ring_at, rotation_of, tables}
use Rattle.st_map.proofs.MapLemmas.{order_is, first_within, next_below, back_is}
use Rattle.st_map.proofs.SplitLemmas.{SplitsLists, split_graph_is, split_law, which}

-- where no more is asked for, there is room
pub no_spare : {n m ends degree : ℕ} {t : LinkTables} → n < 2 ^ 30 → m < 2 ^ 30 → HasRoom n m 0 ends degree t
no_spare v e = record {
  vertices_few = omega arith;
  edges_few = omega arith;
  room_ends = λ l. absurd (omega arith);
  room_degree = λ l. absurd (omega arith);
  room_links = λ l. absurd (omega arith);
}

-- ---- the number of an end afterwards
same : (end place d : ℕ) → d ≡ end → renumbered end place d ≡ place
same end place d q = cond-true (eqb d end) place d (eq-eqb d end q)

other : (end place d : ℕ) → d ≢ end → renumbered end place d ≡ d
other end place d n = cond-false (eqb d end) place d (ne_eqb d end n)

-- the entry after those of a list, and after one more
entry_next : (xs : List ℕ) (x : ℕ) (n : ℕ) → n ≡ length xs → get_or (xs ++ x ∷ []) n 0 ≡ x
entry_next xs x n q = ap (λ k. get_or (xs ++ x ∷ []) k 0) (let z : n ≡ length xs + 0 = omega arith in z) ∙ get_or-append-add xs (x ∷ []) 0 0

-- the entry afterwards at the renumbered end is the renumbered entry
links_at : (old new : List ℕ) (end : ℕ) → AreLinksSplit old end new → (d : ℕ) → d < length old
    → get_or new (renumbered end (suc (length old)) d) 0 ≡ renumbered end (suc (length old)) (get_or old d 0)
links_at old new end h d l = elim (cases_eq d end) [
  | inl q ↦
      ap (λ z. get_or new z 0) (same end (suc (length old)) d q) ∙ h.place
      ∙ ap (λ z. renumbered end (suc (length old)) (get_or old z 0)) (sym q)
  | inr k ↦ ap (λ z. get_or new z 0) (other end (suc (length old)) d k) ∙ h.kept d l k
]

-- a ring that is renumbered
ring_split : (old new : List ℕ) (end : ℕ) → AreLinksSplit old end new → ((d : ℕ) → d < length old → get_or old d 0 < length old)
    → (k d : ℕ) → d < length old → ring new k (renumbered end (suc (length old)) d) ≡ map (renumbered end (suc (length old))) (ring old k d)
ring_split old new end h stays zero d l = refl
ring_split old new end h stays (suc k) d l =
    ap (λ z. renumbered end (suc (length old)) d ∷ ring new k z) (links_at old new end h d l)
    ∙ ap (λ (zs : List ℕ). renumbered end (suc (length old)) d ∷ zs) (ring_split old new end h stays k (get_or old d 0) (stays d l))

module _ (t : Tables) (m : IsMap t) (e : ℕ) (le : e < length t.ends) where
  end_in : 2 * e + 1 < length t.cw
  end_in = omega (arith, m.clockwise.size)

  ccw_size : length t.ccw ≡ length t.cw
  ccw_size = m.counter.size

  cw_is : length t.cw ≡ 2 * length t.ends
  cw_is = m.clockwise.size

  cw_stays : (d : ℕ) → d < length t.cw → get_or t.cw d 0 < length t.cw
  cw_stays d l =
      let k : d < 2 * length t.ends = omega (arith, m.clockwise.size) in
      let z : get_or t.cw d 0 ≡ next (rotation_of t) d = m.clockwise.each d k in
      omega (arith, next_below t m d k, m.clockwise.size)

  -- the links lead back both ways
  pub cw_back : (d : ℕ) → d < length t.cw → (get_or t.ccw d 0 < length t.cw) × (get_or t.cw (get_or t.ccw d 0) 0 ≡ d)
  cw_back d l =
      let k : d < 2 * length t.ends = omega (arith, m.clockwise.size) in
      let b = back_is t m d k in
      (omega (arith, b.0, m.clockwise.size), m.clockwise.each (get_or t.ccw d 0) b.0 ∙ b.1)

  pub before_only : (d : ℕ) → d < length t.cw → get_or t.cw d 0 ≡ 2 * e + 1 → d ≡ get_or t.ccw (2 * e + 1) 0
  before_only d l q = sym (ap (λ z. get_or t.ccw z 0) (sym q) ∙ m.counter.each d l)

  pub after_only : (d : ℕ) → d < length t.ccw → get_or t.ccw d 0 ≡ 2 * e + 1 → d ≡ get_or t.cw (2 * e + 1) 0
  after_only d l q = sym (ap (λ z. get_or t.cw z 0) (sym q) ∙ (cw_back d (omega (arith, m.counter.size))).1)

  pub after_in : get_or t.cw (2 * e + 1) 0 < length t.ccw
  after_in = omega (arith, cw_stays (2 * e + 1) end_in, m.counter.size)

  abbrev pub ends_after : List (ℕ × ℕ)
  ends_after = set t.ends e (tail_of t.ends e, t.vertices) ++ (t.vertices, head_of t.ends e) ∷ []

  abbrev pub first_after : List ℕ
  first_after = map (renumbered (2 * e + 1) (suc (2 * length t.ends))) t.first ++ 2 * length t.ends ∷ []

  first_long : length (map (renumbered (2 * e + 1) (suc (2 * length t.ends))) t.first) ≡ t.vertices
  first_long = length-map t.first (renumbered (2 * e + 1) (suc (2 * length t.ends))) ∙ m.firsts

  abbrev pub tables_after : List ℕ → List ℕ → Tables
  tables_after cw' ccw' = tables (suc t.vertices) ends_after first_after (t.degree ++ 2 ∷ []) cw' ccw'

  module _ (cw' ccw' : List ℕ) (h : AreLinksSplit t.cw (2 * e + 1) cw') (b : AreLinksSplit t.ccw (2 * e + 1) ccw') where
    l2 : suc (2 * length t.ends) ≡ suc (length t.cw)
    l2 = ap suc (sym m.clockwise.size)

    degree_old : (v : ℕ) → v < t.vertices → get_or (t.degree ++ 2 ∷ []) v 0 ≡ get_or t.degree v 0
    degree_old v l = get_or_append_left t.degree (2 ∷ []) 0 v (omega (arith, m.degrees))

    head_in : head_of t.ends e < t.vertices
    head_in = (m.rotation.ends e le).1

    first_old : (v : ℕ) → v < t.vertices → 0 < get_or t.degree v 0
        → get_or first_after v 0 ≡ renumbered (2 * e + 1) (suc (2 * length t.ends)) (get_or t.first v 0)
    first_old v l some =
        get_or_append_left (map (renumbered (2 * e + 1) (suc (2 * length t.ends))) t.first) (2 * length t.ends ∷ []) 0 v (omega (arith, first_long))
        ∙ get_or-map (renumbered (2 * e + 1) (suc (2 * length t.ends))) t.first v 0 0 (omega (arith, m.firsts))

    row_old : (v : ℕ) → v < t.vertices → map (moved (rotation_of t) e) (order (rotation_of t) v) ≡ ring_at first_after (t.degree ++ 2 ∷ []) cw' v
    row_old v l =
        ap (map (moved (rotation_of t) e)) (order_is t m v l)
        ∙ sym (ap (λ k. ring cw' k (get_or first_after v 0)) (degree_old v l) ∙ row (get_or t.degree v 0) refl)
      where
        row : (k : ℕ) → k ≡ get_or t.degree v 0 → ring cw' k (get_or first_after v 0) ≡ map (moved (rotation_of t) e) (ring t.cw k (get_or t.first v 0))
        row zero q = refl
        row (suc k) q =
            let some : 0 < get_or t.degree v 0 = omega arith in
            let w : get_or t.first v 0 < length t.cw = omega (arith, (first_within t m v l some).0, m.clockwise.size) in
            ap (ring cw' (suc k)) (first_old v l some ∙ ap (λ z. renumbered (2 * e + 1) z (get_or t.first v 0)) l2)
            ∙ ring_split t.cw cw' (2 * e + 1) h cw_stays (suc k) (get_or t.first v 0) w
            ∙ ap (λ z. map (renumbered (2 * e + 1) z) (ring t.cw (suc k) (get_or t.first v 0))) (sym l2)

    row_new : 2 * length t.ends ∷ (2 * e + 1) ∷ [] ≡ ring_at first_after (t.degree ++ 2 ∷ []) cw' t.vertices
    row_new =
        let d : get_or (t.degree ++ 2 ∷ []) t.vertices 0 ≡ 2 = entry_next t.degree 2 t.vertices (sym m.degrees) in
        let f : get_or first_after t.vertices 0 ≡ 2 * length t.ends = entry_next (map (renumbered (2 * e + 1) (suc (2 * length t.ends))) t.first) (2 * length t.ends) t.vertices (sym first_long) in
        let o : get_or cw' (2 * length t.ends) 0 ≡ 2 * e + 1 = ap (λ z. get_or cw' z 0) (sym m.clockwise.size) ∙ h.out in
        sym (ap (λ k. ring cw' k (get_or first_after t.vertices 0)) d ∙ ap (ring cw' 2) f ∙ ap (λ z. 2 * length t.ends ∷ z ∷ []) o)

    pub rotation_after : rotation_of (tables_after cw' ccw') ≡ split (rotation_of t) e
    rotation_after =
        let s : SplitsLists (rotation_of t) (split (rotation_of t) e) e = split_graph_is (rotation_of t) e le in
        let long : length (split (rotation_of t) e).orders ≡ suc t.vertices =
        length-append (map (λ v. map (moved (rotation_of t) e) (order (rotation_of t) v)) (range_with_len 0 t.vertices)) ((2 * length t.ends ∷ (2 * e + 1) ∷ []) ∷ [])
        ∙ (let z : length (map (λ v. map (moved (rotation_of t) e) (order (rotation_of t) v)) (range_with_len 0 t.vertices)) ≡ t.vertices =
        length-map (range_with_len 0 t.vertices) (λ v. map (moved (rotation_of t) e) (order (rotation_of t) v)) ∙ length-range_with_len 0 t.vertices in
        let w : length (map (λ v. map (moved (rotation_of t) e) (order (rotation_of t) v)) (range_with_len 0 t.vertices)) + 1 ≡ suc t.vertices = omega arith in w) in
        ap (λ (os : List (List ℕ)). let r : Embedded = record { vertices = suc t.vertices; ends = ends_after; orders = os } in r)
        (sym (fill_by_all (ring_at first_after (t.degree ++ 2 ∷ []) cw') (split (rotation_of t) e).orders (suc t.vertices) [] long
        (λ k l. elim (cases_lt k t.vertices) [
          | inl a ↦ s.lists k a ∙ row_old k a
          | inr a ↦ (let q : k ≡ t.vertices = omega arith in
              ap (λ z. get_or (split (rotation_of t) e).orders z []) q ∙ s.list_new ∙ row_new ∙ ap (ring_at first_after (t.degree ++ 2 ∷ []) cw') (sym q))
        ])))

    back_after : IsBack cw' ccw'
    back_after =
        let sc : length cw' ≡ suc (suc (length t.cw)) = h.size in
        let sd : length ccw' ≡ suc (suc (length t.ccw)) = b.size in
        let same_len : length t.ccw ≡ length t.cw = m.counter.size in
        record {
          size = omega arith;
          each = λ d l. elim (which (length t.cw) d (omega arith)) [
            | inl k ↦ elim (cases_eq d (2 * e + 1)) [
              | inl q ↦ ap (λ z. get_or ccw' (get_or cw' z 0) 0) q ∙ ap (λ z. get_or ccw' z 0) (h.split ∙ sym same_len) ∙ b.out ∙ sym q
              | inr u ↦ ap (λ z. get_or ccw' z 0) (h.kept d k u) ∙ turned d k ∙ other (2 * e + 1) (suc (length t.cw)) d u
            ]
            | inr w ↦ elim w [
              | inl q ↦ ap (λ z. get_or ccw' (get_or cw' z 0) 0) q ∙ ap (λ z. get_or ccw' z 0) h.out ∙ b.split ∙ same_len ∙ sym q
              | inr q ↦
                  ap (λ z. get_or ccw' (get_or cw' z 0) 0) q ∙ ap (λ z. get_or ccw' z 0) h.place ∙ turned (2 * e + 1) end_in
                  ∙ same (2 * e + 1) (suc (length t.cw)) (2 * e + 1) refl ∙ sym q
            ]
          ];
        }
      where
        turned : (d : ℕ) → d < length t.cw → get_or ccw' (renumbered (2 * e + 1) (suc (length t.cw)) (get_or t.cw d 0)) 0 ≡ renumbered (2 * e + 1) (suc (length t.cw)) d
        turned d l =
            let same_len : length t.ccw ≡ length t.cw = m.counter.size in
            ap (λ z. get_or ccw' (renumbered (2 * e + 1) (suc z) (get_or t.cw d 0)) 0) (sym same_len)
            ∙ links_at t.ccw ccw' (2 * e + 1) b (get_or t.cw d 0) (omega (arith, cw_stays d l))
            ∙ ap (λ z. renumbered (2 * e + 1) (suc z) (get_or t.ccw (get_or t.cw d 0) 0)) same_len
            ∙ ap (renumbered (2 * e + 1) (suc (length t.cw))) (m.counter.each d l)

    table_after : IsTableOf (2 * suc (length t.ends)) (next (split (rotation_of t) e)) cw'
    table_after =
        let S : SplitsEdge (rotation_of t) (split (rotation_of t) e) e = (split_law (rotation_of t) e m.rotation le).0 in
        let len : length t.cw ≡ 2 * length t.ends = m.clockwise.size in
        let at_moved : (d : ℕ) → d < 2 * length t.ends → get_or cw' (moved (rotation_of t) e d) 0 ≡ next (split (rotation_of t) e) (moved (rotation_of t) e d) =
        λ d l.
        ap (λ z. get_or cw' (renumbered (2 * e + 1) z d) 0) l2 ∙ links_at t.cw cw' (2 * e + 1) h d (omega arith)
        ∙ ap (λ z. renumbered (2 * e + 1) z (get_or t.cw d 0)) (sym l2) ∙ ap (moved (rotation_of t) e) (m.clockwise.each d l) ∙ sym (S.next_old d l) in
        record {
          size = h.size ∙ (let z : suc (suc (length t.cw)) ≡ 2 * suc (length t.ends) = omega arith in z);
          each = λ d l. elim (which (2 * length t.ends) d (omega arith)) [
            | inl k ↦ elim (cases_eq d (2 * e + 1)) [
              | inl q ↦
                  ap (λ z. get_or cw' z 0) q ∙ h.split ∙ len ∙ sym S.next_in ∙ ap (next (split (rotation_of t) e)) (sym q)
              | inr u ↦
                  let w : moved (rotation_of t) e d ≡ d = other (2 * e + 1) (suc (2 * length t.ends)) d u in
                  ap (λ z. get_or cw' z 0) (sym w) ∙ at_moved d k ∙ ap (next (split (rotation_of t) e)) w
            ]
            | inr x ↦ elim x [
              | inl q ↦
                  ap (λ z. get_or cw' z 0) (q ∙ sym len) ∙ h.out ∙ sym S.next_out ∙ ap (next (split (rotation_of t) e)) (sym q)
              | inr q ↦
                  let w : moved (rotation_of t) e (2 * e + 1) ≡ suc (2 * length t.ends) = same (2 * e + 1) (suc (2 * length t.ends)) (2 * e + 1) refl in
                  ap (λ z. get_or cw' z 0) (q ∙ sym w) ∙ at_moved (2 * e + 1) (omega arith) ∙ ap (next (split (rotation_of t) e)) (w ∙ sym q)
            ]
          ];
        }

    split_is : SplitsEdge (rotation_of t) (split (rotation_of t) e) e
    split_is = (split_law (rotation_of t) e m.rotation le).0

    pub map_after : suc t.vertices < 2 ^ 30 → suc (length t.ends) < 2 ^ 30 → IsMap (tables_after cw' ccw')
    map_after fv fe =
        let long : length ends_after ≡ suc (length t.ends) =
        length-append (set t.ends e (tail_of t.ends e, t.vertices)) ((t.vertices, head_of t.ends e) ∷ [])
        ∙ (let z : length (set t.ends e (tail_of t.ends e, t.vertices)) ≡ length t.ends = length-set t.ends e (tail_of t.ends e, t.vertices) in let w : length (set t.ends e (tail_of t.ends e, t.vertices)) + 1 ≡ suc (length t.ends) = omega arith in w) in
        record {
          vertices_few = fv;
          edges_few = subst (λ z. z < 2 ^ 30) (sym long) fe;
          rotation = subst IsRotation (sym rotation_after) (split_law (rotation_of t) e m.rotation le).1;
          firsts = length-append (map (renumbered (2 * e + 1) (suc (2 * length t.ends))) t.first) (2 * length t.ends ∷ [])
              ∙ (let w : length (map (renumbered (2 * e + 1) (suc (2 * length t.ends))) t.first) + 1 ≡ suc t.vertices = omega (arith, first_long) in w);
          degrees = length-append t.degree (2 ∷ []) ∙ (let w : length t.degree + 1 ≡ suc t.vertices = omega (arith, m.degrees) in w);
          clockwise = subst (λ z. IsTableOf (2 * z) (next (rotation_of (tables_after cw' ccw'))) cw') (sym long)
              (subst (λ (r : Embedded). IsTableOf (2 * suc (length t.ends)) (next r) cw') (sym rotation_after) table_after);
          counter = back_after;
          no_loop = λ f l q. elim (cases_lt f (length t.ends)) [
            | inl a ↦ elim (cases_eq f e) [
              | inl w ↦
                  let x : tail_of ends_after f ≡ tail_of t.ends e = split_is.tail_old f a ∙ ap (tail_of t.ends) w in
                  let y : head_of ends_after f ≡ t.vertices = ap (head_of ends_after) w ∙ split_is.head_split in
                  omega (arith, (m.rotation.ends e le).0)
              | inr n ↦ m.no_loop f a (sym (split_is.tail_old f a) ∙ q ∙ split_is.head_old f a n)
            ]
            | inr a ↦
                let w : f ≡ length t.ends = omega (arith, long) in
                let x : tail_of ends_after f ≡ t.vertices = ap (tail_of ends_after) w ∙ split_is.tail_new in
                let y : head_of ends_after f ≡ head_of t.ends e = ap (head_of ends_after) w ∙ split_is.head_new in
                omega (arith, head_in)
          ];
          empty = λ v l z. elim (cases_lt v t.vertices) [
            | inl a ↦
                get_or_append_left (map (renumbered (2 * e + 1) (suc (2 * length t.ends))) t.first) (2 * length t.ends ∷ []) 0 v (omega (arith, first_long))
                ∙ get_or-map (renumbered (2 * e + 1) (suc (2 * length t.ends))) t.first v 0 0 (omega (arith, m.firsts))
                ∙ ap (renumbered (2 * e + 1) (suc (2 * length t.ends))) (m.empty v a (sym (degree_old v a) ∙ z))
                ∙ other (2 * e + 1) (suc (2 * length t.ends)) no_first (λ w. omega (arith, le, m.edges_few))
            | inr a ↦
                let w : v ≡ t.vertices = omega arith in
                let x : get_or (t.degree ++ 2 ∷ []) v 0 ≡ 2 = ap (λ k. get_or (t.degree ++ 2 ∷ []) k 0) w ∙ entry_next t.degree 2 t.vertices (sym m.degrees) in
                absurd (omega arith)
          ];
        }

-- the room that is left
pub room_after : {n m spare ends degree m' ends' degree' : ℕ} {t t' : LinkTables} → HasRoom n m spare ends degree t → 0 < spare
    → m' ≡ suc m → ends' ≡ ends → degree' ≡ degree → length t'.cw ≡ length t.cw + 2 → length t'.first ≡ length t.first + 1 → SameRooms t t'
    → HasRoom (n + 1) m' (spare - 1) ends' degree' t'
room_after r l qm qe qd qc qf same = record {
  vertices_few = omega (arith, r.vertices_few);
  edges_few = omega (arith, r.edges_few);
  room_ends = λ k. omega (arith, r.room_ends l);
  room_degree = λ k. omega (arith, r.room_degree l);
  room_links = λ k. record {
    ends = omega (arith, (r.room_links l).ends, same.ends);
    edges = omega (arith, (r.room_links l).edges, same.edges);
    vertices = omega (arith, (r.room_links l).vertices, same.vertices);
  };
}

-- there is an edge more
pub length-ends_after : (t : Tables) (m : IsMap t) (e : ℕ) (le : e < length t.ends)
    → length (ends_after t m e le) ≡ suc (length t.ends)
length-ends_after t m e le =
    length-append (set t.ends e (tail_of t.ends e, t.vertices)) ((t.vertices, head_of t.ends e) ∷ [])
    ∙ (let z : length (set t.ends e (tail_of t.ends e, t.vertices)) ≡ length t.ends = length-set t.ends e (tail_of t.ends e, t.vertices) in let w : length (set t.ends e (tail_of t.ends e, t.vertices)) + 1 ≡ suc (length t.ends) = omega arith in w)
