-- Lemmas on lists of edges that are gone, on the last number that passes, and on one step of the work.
use Rattle.std.proofs.Common.{◌≡◌, ◌≢◌, ℕ, zero, suc, ◌+◌, ◌<◌, ◌≤◌, inl, inr, Bool, true, false, eqb, ◌&&◌, ◌||◌, List, [], ◌∷◌, ◌++◌, length, get_or, refl, sym, ap, ◌∙◌, arith}
use Rattle.std.specs.Prelude.{not}
use Rattle.std.proofs.Math.ListN.{set}
use Rattle.std.proofs.lemmas.List.{get_or-set_same, get_or-set_other, length-set, length_push, get_or_push, get_or_append_left}
use Rattle.std.proofs.lemmas.Bool.{cases_eq, cases_lt, cases_Bool, eq-eqb, ne_eqb, eqb-true, cond-true, cond-false, and_from, and_right, and_left, not_from_false, not_from_true, or_left, or_right, or_cases, both_ways}
use Rattle.st_ids.specs.Graph.{tail_of, head_of, AreWithin}
use Rattle.st_map.specs.Counting.{bit, count_below}
use Rattle.st_map.proofs.Public.{total-same, count_less, none_counted, some_counted}
use Rattle.st_ids.proofs.Public.{length-le_from_below}
use Rattle.st_map.specs.Tables.{enters}
use Rattle.st_test.proofs.PlaceLemmas.{Contains-from_In, NoRepeat-from_places}
use Rattle.st_test.specs.Stripping.{last_below}
use Rattle.st_test.specs.StripState.{member, left_into, StripState}

-- ---- members
pub member_old : (xs : List ℕ) (y x : ℕ) → member xs x ≡ true → member (xs ++ y ∷ []) x ≡ true
member_old [] y x h = absurd (both_ways false refl h)
member_old (z ∷ zs) y x h = elim (or_cases (eqb z x) (member zs x) h) [
  | inl e ↦ or_left (eqb z x) (member (zs ++ y ∷ []) x) e
  | inr m ↦ or_right (eqb z x) (member (zs ++ y ∷ []) x) (member_old zs y x m)
]

pub member_new : (xs : List ℕ) (y : ℕ) → member (xs ++ y ∷ []) y ≡ true
member_new [] y = or_left (eqb y y) false (eq-eqb y y refl)
member_new (z ∷ zs) y = or_right (eqb z y) (member (zs ++ y ∷ []) y) (member_new zs y)

pub member_other : (xs : List ℕ) (y x : ℕ) → (x ≡ y → ⊥) → member (xs ++ y ∷ []) x ≡ member xs x
member_other [] y x n = ap (λ b. b || false) (ne_eqb y x (λ e. n (sym e)))
member_other (z ∷ zs) y x n = ap (λ b. eqb z x || b) (member_other zs y x n)

pub member_place : (xs : List ℕ) (x : ℕ) → member xs x ≡ true → (k : ℕ) × (k < length xs) × (get_or xs k 0 ≡ x)
member_place [] x h = absurd (both_ways false refl h)
member_place (z ∷ zs) x h = elim (or_cases (eqb z x) (member zs x) h) [
  | inl e ↦ (0, omega arith, eqb-true z x e)
  | inr m ↦
      let r : (k : ℕ) × (k < length zs) × (get_or zs k 0 ≡ x) = member_place zs x m in
      (suc r.0, omega (arith, r.1), r.2)
]

pub place_member : (xs : List ℕ) (x k : ℕ) → k < length xs → get_or xs k 0 ≡ x → member xs x ≡ true
place_member [] x k l e = absurd (omega arith)
place_member (z ∷ zs) x zero l e = or_left (eqb z x) (member zs x) (eq-eqb z x e)
place_member (z ∷ zs) x (suc k) l e = or_right (eqb z x) (member zs x) (place_member zs x k (omega arith) e)

-- ---- counts
pub count_same : (m : ℕ) (p q : ℕ → Bool) → ((d : ℕ) → p d ≡ q d) → count_below m p ≡ count_below m q
count_same m p q same = total-same m (λ k. bit (p k)) (λ k. bit (q k)) (λ k lk. ap bit (same k))

-- ---- the last that passes
pub last_below-le : (n : ℕ) (p : ℕ → Bool) → last_below n p ≤ n
last_below-le zero p = omega arith
last_below-le (suc n) p = elim (cases_Bool (p n)) [
  | inl y ↦ omega (arith, cond-true (p n) (suc n) (last_below n p) y)
  | inr y ↦ omega (arith, cond-false (p n) (suc n) (last_below n p) y, last_below-le n p)
]

pub last_below-passes : (n : ℕ) (p : ℕ → Bool) (k : ℕ) → last_below n p ≡ suc k → p k ≡ true
last_below-passes zero p k e = absurd (omega arith)
last_below-passes (suc n) p k e = elim (cases_Bool (p n)) [
  | inl y ↦
      let at : n ≡ k = omega (arith, cond-true (p n) (suc n) (last_below n p) y) in
      ap p (sym at) ∙ y
  | inr y ↦ last_below-passes n p k (omega (arith, cond-false (p n) (suc n) (last_below n p) y))
]

pub last_below-none : (n : ℕ) (p : ℕ → Bool) (j : ℕ) → last_below n p ≤ j → j < n → p j ≡ false
last_below-none zero p j l m = absurd (omega arith)
last_below-none (suc n) p j l m = elim (cases_Bool (p n)) [
  | inl y ↦ absurd (omega (arith, cond-true (p n) (suc n) (last_below n p) y))
  | inr y ↦
      let e : last_below (suc n) p ≡ last_below n p = cond-false (p n) (suc n) (last_below n p) y in
      elim (cases_lt j n) [
        | inl lt ↦ last_below-none n p j (omega arith) lt
        | inr ge ↦ (let at : j ≡ n = omega arith in ap p at) ∙ y
      ]
]

pub last_below-more : (n : ℕ) (p : ℕ → Bool) → p n ≡ true → last_below (n + 1) p ≡ n + 1
last_below-more n p y = ap (λ k. last_below k p) (let e : n + 1 ≡ suc n = omega arith in e) ∙ cond-true (p n) (suc n) (last_below n p) y ∙ omega arith

pub last_below-same : (n : ℕ) (p : ℕ → Bool) → p n ≡ false → last_below (n + 1) p ≡ last_below n p
last_below-same n p y = ap (λ k. last_below k p) (let e : n + 1 ≡ suc n = omega arith in e) ∙ cond-false (p n) (suc n) (last_below n p) y

-- ---- a list of different numbers below n is not longer than n
pub short : (n : ℕ) (xs : List ℕ) → ((k : ℕ) → k < length xs → get_or xs k 0 < n) → ((i k : ℕ) → i < k → k < length xs → get_or xs i 0 ≢ get_or xs k 0) → length xs ≤ n
short n xs below apart = length-le_from_below n xs (NoRepeat-from_places xs apart) (λ x i.
    let c = Contains-from_In i in
    let at : get_or xs c.0 x ≡ x = c.2 in
    let lc : c.0 < length xs = c.1 in
    let d : get_or xs c.0 0 ≡ get_or xs c.0 x = default xs c.0 0 x lc in
    omega (arith, below c.0 lc))
  where
    default : (xs : List ℕ) (k a b : ℕ) → k < length xs → get_or xs k a ≡ get_or xs k b
    default [] k a b l = absurd (omega arith)
    default (y ∷ ys) zero a b l = refl
    default (y ∷ ys) (suc k) a b l = default ys k a b (omega arith)

-- ---- one edge goes
module _ (n : ℕ) (ends : List (ℕ × ℕ)) (order es degree : List ℕ) (within : AreWithin n ends) (st : StripState n ends order es degree) (e : ℕ) (le : e < length ends)
    (new : member es e ≡ false) (i : ℕ) (li : i < length order) (at : get_or order i 0 ≡ tail_of ends e)
    (froms : (p : ℕ) → p < length es → (j : ℕ) × (j < length order) × (get_or order j 0 ≡ tail_of ends (get_or es p 0))) where
  head_in : head_of ends e < n
  head_in = (within e le).1

  was : left_into ends es (head_of ends e) e ≡ true
  was = and_from (enters ends (head_of ends e) e) (not (member es e)) (eq-eqb (head_of ends e) (head_of ends e) refl) (not_from_false (member es e) new)

  pub positive : 1 ≤ get_or degree (head_of ends e) 0
  positive = omega (arith, st.degrees (head_of ends e) head_in, some_counted (length ends) (left_into ends es (head_of ends e)) e le was)

  other : (w d : ℕ) → (d ≡ e → ⊥) → left_into ends es w d ≡ left_into ends (es ++ e ∷ []) w d
  other w d ne = ap (λ b. enters ends w d && not b) (sym (member_other es e d ne))

  gone : (w : ℕ) → left_into ends (es ++ e ∷ []) w e ≡ false
  gone w = and_right (enters ends w e) (not (member (es ++ e ∷ []) e)) (not_from_true (member (es ++ e ∷ []) e) (member_new es e))

  lowered : ℕ → List ℕ
  lowered d = set degree (head_of ends e) d

  at_head : (d : ℕ) → get_or (set degree (head_of ends e) d) (head_of ends e) 0 ≡ d
  at_head d = get_or-set_same degree (head_of ends e) d 0 (omega (arith, head_in, st.size))

  off_head : (d w : ℕ) → (w ≡ head_of ends e → ⊥) → get_or (set degree (head_of ends e) d) w 0 ≡ get_or degree w 0
  off_head d w ne = get_or-set_other degree (head_of ends e) w d 0 ne

  new-degrees : (d : ℕ) → d + 1 ≡ get_or degree (head_of ends e) 0 → (w : ℕ) → w < n
      → get_or (set degree (head_of ends e) d) w 0 ≡ count_below (length ends) (left_into ends (es ++ e ∷ []) w)
  new-degrees d de w lw = elim (cases_eq w (head_of ends e)) [
    | inl q ↦
        let a : get_or (set degree (head_of ends e) d) w 0 ≡ d = ap (λ z. get_or (set degree (head_of ends e) d) z 0) q ∙ at_head d in
        let was_w : left_into ends es w e ≡ true = ap (λ z. left_into ends es z e) q ∙ was in
        let c : count_below (length ends) (left_into ends es w) ≡ count_below (length ends) (left_into ends (es ++ e ∷ []) w) + 1 =
        count_less (length ends) (left_into ends es w) (left_into ends (es ++ e ∷ []) w) e le was_w (gone w) (other w) in
        let old : get_or degree w 0 ≡ get_or degree (head_of ends e) 0 = ap (λ z. get_or degree z 0) q in
        omega (arith, st.degrees w lw)
    | inr ne ↦
        let here : left_into ends es w e ≡ false = and_left (enters ends w e) (not (member es e)) (ne_eqb (head_of ends e) w (λ c. ne (sym c))) in
        off_head d w ne ∙ st.degrees w lw ∙ count_same (length ends) (left_into ends es w) (left_into ends (es ++ e ∷ []) w) (λ x. elim (cases_eq x e) [
          | inl q ↦ ap (left_into ends es w) q ∙ here ∙ sym (gone w) ∙ ap (left_into ends (es ++ e ∷ []) w) (sym q)
          | inr nx ↦ other w x nx
        ])
  ]

  -- a vertex in the order is not the head
  not_head : (k : ℕ) → k < length order → get_or order k 0 ≡ head_of ends e → ⊥
  not_head k l q =
      let z : get_or degree (get_or order k 0) 0 ≡ 0 = (st.vertices k l).1 in
      let s : get_or degree (get_or order k 0) 0 ≡ get_or degree (head_of ends e) 0 = ap (λ z. get_or degree z 0) q in
      omega (arith, positive)

  -- all edges into the tail are gone
  into_tail : (d : ℕ) → d < length ends → head_of ends d ≡ tail_of ends e → (p : ℕ) × (p < length es) × (get_or es p 0 ≡ d)
  into_tail d ld h =
      let v : (get_or order i 0 < n) × (get_or degree (get_or order i 0) 0 ≡ 0) = st.vertices i li in
      let z : count_below (length ends) (left_into ends es (get_or order i 0)) ≡ 0 = sym (st.degrees (get_or order i 0) v.0) ∙ v.1 in
      elim (cases_Bool (member es d)) [
        | inl y ↦ member_place es d y
        | inr m ↦ absurd (none_counted (length ends) (left_into ends es (get_or order i 0)) z d ld
            (and_from (enters ends (get_or order i 0) d) (not (member es d)) (eq-eqb (head_of ends d) (get_or order i 0) (h ∙ sym at)) (not_from_false (member es d) m)))
      ]

  new-edges : (k : ℕ) → k < length (es ++ e ∷ []) → get_or (es ++ e ∷ []) k 0 < length ends
  new-edges k l = elim (cases_lt k (length es)) [
    | inl lt ↦ omega (arith, get_or_append_left es (e ∷ []) 0 k lt, st.edges k lt)
    | inr ge ↦ omega (arith, get_or_push es e 0 k (let q : length es ≡ k = omega (arith, length_push es e) in q))
  ]

  at_end : (k : ℕ) → k < length (es ++ e ∷ []) → length es ≤ k → length es ≡ k
  at_end k l ge = omega (arith, length_push es e)

  new-edges_apart : (a b : ℕ) → a < b → b < length (es ++ e ∷ []) → get_or (es ++ e ∷ []) a 0 ≢ get_or (es ++ e ∷ []) b 0
  new-edges_apart a b l m = elim (cases_lt b (length es)) [
    | inl lt ↦ λ q. st.edges_apart a b l lt (sym (get_or_append_left es (e ∷ []) 0 a (omega arith)) ∙ q ∙ get_or_append_left es (e ∷ []) 0 b lt)
    | inr ge ↦ λ q.
        let la : a < length es = omega (arith, at_end b m ge) in
        let x : get_or es a 0 ≡ e = sym (get_or_append_left es (e ∷ []) 0 a la) ∙ q ∙ get_or_push es e 0 b (at_end b m ge) in
        both_ways (member es e) new (place_member es e a la x)
  ]

  new-edges_before : (k d : ℕ) → k < length (es ++ e ∷ []) → d < length ends → head_of ends d ≡ tail_of ends (get_or (es ++ e ∷ []) k 0)
      → (j : ℕ) × (j < k) × (get_or (es ++ e ∷ []) j 0 ≡ d)
  new-edges_before k d l ld h = elim (cases_lt k (length es)) [
    | inl lt ↦
        let r : (j : ℕ) × (j < k) × (get_or es j 0 ≡ d) = st.edges_before k d lt ld (h ∙ ap (tail_of ends) (get_or_append_left es (e ∷ []) 0 k lt)) in
        let lj : r.0 < length es = omega (arith, r.1) in
        (r.0, r.1, get_or_append_left es (e ∷ []) 0 r.0 lj ∙ r.2)
    | inr ge ↦
        let r : (p : ℕ) × (p < length es) × (get_or es p 0 ≡ d) = into_tail d ld (h ∙ ap (tail_of ends) (get_or_push es e 0 k (at_end k l ge))) in
        (r.0, omega (arith, r.1), get_or_append_left es (e ∷ []) 0 r.0 r.1 ∙ r.2)
  ]

  -- edges still come to the head
  pub goes_on : (d : ℕ) → d + 1 ≡ get_or degree (head_of ends e) 0 → (d ≡ 0 → ⊥) → StripState n ends order (es ++ e ∷ []) (set degree (head_of ends e) d)
  goes_on d de nz = record {
    size = length-set degree (head_of ends e) d ∙ st.size;
    degrees = new-degrees d de;
    zeros = λ w lw z. elim (cases_eq w (head_of ends e)) [
      | inl q ↦ absurd (nz (sym (at_head d) ∙ ap (λ z. get_or (set degree (head_of ends e) d) z 0) (sym q) ∙ z))
      | inr ne ↦ st.zeros w lw (sym (off_head d w ne) ∙ z)
    ];
    vertices = λ k l. ((st.vertices k l).0, off_head d (get_or order k 0) (not_head k l) ∙ (st.vertices k l).1);
    apart = st.apart;
    before = st.before;
    edges = new-edges;
    edges_apart = new-edges_apart;
    edges_before = new-edges_before;
  }

  at_top : (k : ℕ) → k < length (order ++ head_of ends e ∷ []) → length order ≤ k → length order ≡ k
  at_top k l ge = omega (arith, length_push order (head_of ends e))

  old_at : (k : ℕ) → k < length order → get_or (order ++ head_of ends e ∷ []) k 0 ≡ get_or order k 0
  old_at k l = get_or_append_left order (head_of ends e ∷ []) 0 k l

  new_at : (k : ℕ) → length order ≡ k → get_or (order ++ head_of ends e ∷ []) k 0 ≡ head_of ends e
  new_at k q = get_or_push order (head_of ends e) 0 k q

  -- where none comes any more, each edge into the head is gone, so its tail is in the order
  into_head : (d : ℕ) → d + 1 ≡ get_or degree (head_of ends e) 0 → d ≡ 0 → (x : ℕ) → x < length ends → head_of ends x ≡ head_of ends e
      → (j : ℕ) × (j < length order) × (get_or order j 0 ≡ tail_of ends x)
  into_head d de z x lx h =
      let c : count_below (length ends) (left_into ends (es ++ e ∷ []) (head_of ends e)) ≡ 0 = sym (new-degrees d de (head_of ends e) head_in) ∙ at_head d ∙ z in
      elim (cases_eq x e) [
        | inl q ↦ (i, li, at ∙ ap (tail_of ends) (sym q))
        | inr ne ↦ elim (cases_Bool (member es x)) [
          | inl y ↦
              let p : (k : ℕ) × (k < length es) × (get_or es k 0 ≡ x) = member_place es x y in
              let f : (j : ℕ) × (j < length order) × (get_or order j 0 ≡ tail_of ends (get_or es p.0 0)) = froms p.0 p.1 in
              (f.0, f.1, f.2 ∙ ap (tail_of ends) p.2)
          | inr m ↦ absurd (none_counted (length ends) (left_into ends (es ++ e ∷ []) (head_of ends e)) c x lx
              (and_from (enters ends (head_of ends e) x) (not (member (es ++ e ∷ []) x)) (eq-eqb (head_of ends x) (head_of ends e) h)
              (not_from_false (member (es ++ e ∷ []) x) (member_other es e x ne ∙ m))))
        ]
      ]

  -- the head is next
  pub takes : (d : ℕ) → d + 1 ≡ get_or degree (head_of ends e) 0 → d ≡ 0 → StripState n ends (order ++ head_of ends e ∷ []) (es ++ e ∷ []) (set degree (head_of ends e) d)
  takes d de z = record {
    size = length-set degree (head_of ends e) d ∙ st.size;
    degrees = new-degrees d de;
    zeros = λ w lw zw. elim (cases_eq w (head_of ends e)) [
      | inl q ↦ (length order, omega (arith, length_push order (head_of ends e)), new_at (length order) refl ∙ sym q)
      | inr ne ↦
          let r : (k : ℕ) × (k < length order) × (get_or order k 0 ≡ w) = st.zeros w lw (sym (off_head d w ne) ∙ zw) in
          (r.0, omega (arith, r.1, length_push order (head_of ends e)), old_at r.0 r.1 ∙ r.2)
    ];
    vertices = λ k l. elim (cases_lt k (length order)) [
      | inl lt ↦
          let q : get_or (order ++ head_of ends e ∷ []) k 0 ≡ get_or order k 0 = old_at k lt in
          let a : get_or order k 0 < n = (st.vertices k lt).0 in
          (omega arith, ap (λ z. get_or (set degree (head_of ends e) d) z 0) q ∙ off_head d (get_or order k 0) (not_head k lt) ∙ (st.vertices k lt).1)
      | inr ge ↦
          let q : get_or (order ++ head_of ends e ∷ []) k 0 ≡ head_of ends e = new_at k (at_top k l ge) in
          (omega (arith, head_in), ap (λ z. get_or (set degree (head_of ends e) d) z 0) q ∙ at_head d ∙ z)
    ];
    apart = λ a b l m. elim (cases_lt b (length order)) [
      | inl lt ↦ λ q. st.apart a b l lt (sym (old_at a (omega arith)) ∙ q ∙ old_at b lt)
      | inr ge ↦ λ q.
          let la : a < length order = omega (arith, at_top b m ge) in
          not_head a la (sym (old_at a la) ∙ q ∙ new_at b (at_top b m ge))
    ];
    before = λ k x l lx h. elim (cases_lt k (length order)) [
      | inl lt ↦
          let r : (j : ℕ) × (j < k) × (get_or order j 0 ≡ tail_of ends x) = st.before k x lt lx (h ∙ old_at k lt) in
          (r.0, r.1, old_at r.0 (omega (arith, r.1)) ∙ r.2)
      | inr ge ↦
          let r : (j : ℕ) × (j < length order) × (get_or order j 0 ≡ tail_of ends x) = into_head d de z x lx (h ∙ new_at k (at_top k l ge)) in
          (r.0, omega (arith, r.1), old_at r.0 r.1 ∙ r.2)
    ];
    edges = new-edges;
    edges_apart = new-edges_apart;
    edges_before = new-edges_before;
  }
