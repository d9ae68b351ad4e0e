-- One list of edges: what its loop keeps, how its length tells that it is whole, and what it says by places.
use Rattle.std.proofs.Common.{◌≡◌, ◌≢◌, ◌⊎◌, ℕ, zero, suc, ◌+◌, ◌*◌, ◌<◌, ◌≤◌, inl, inr, Bool, true, false, eqb, ◌||◌, ◌&&◌, List, [], ◌∷◌, length, get_or, refl, sym, ap, ◌∙◌, arith}
use Rattle.std.specs.Prelude.{not}
use Rattle.std.proofs.Math.ListN.{set}
use Rattle.std.proofs.lemmas.List.{get_or-set_same, get_or-set_other, length-set}
use Rattle.std.proofs.lemmas.Bool.{cases_eq, cases_lt, cases_Bool, eq-eqb, ne_eqb, eqb-true, or_cases, or_left, or_right, and_from, and_left, and_right, not_from_true, not_from_false}
use Rattle.st_ids.specs.Graph.{tail_of, head_of}
use Rattle.st_ids.specs.Lists.{In, here, there, NoRepeat}
use Rattle.st_ids.proofs.Public.{not_in_nil, in_dec}
use Rattle.st_map.specs.Counting.{bit, count_below}
use Rattle.st_map.specs.Orders.{IsOrderAt}
use Rattle.st_map.specs.Tables.{is_at, leaves, enters, AreEdges, IsLawful, IsLawfulUpTo, AreDegrees}
use Rattle.st_map.proofs.SumLemmas.{total-same, total-add, total-one, cover, count-le, count_less}

-- ---- a list by its places
pub place_of : (xs : List ℕ) (x : ℕ) → In x xs → (i : ℕ) × (i < length xs) × (get_or xs i 0 ≡ x)
place_of [] x m = absurd (not_in_nil m)
place_of (y ∷ ys) x (here q) = (0, omega arith, sym q)
place_of (y ∷ ys) x (there m) =
    let r : (i : ℕ) × (i < length ys) × (get_or ys i 0 ≡ x) = place_of ys x m in
    (suc r.0, omega (arith, r.1), r.2)

pub at_place : (xs : List ℕ) (i : ℕ) → i < length xs → In (get_or xs i 0) xs
at_place [] i l = absurd (omega arith)
at_place (y ∷ ys) zero l = here refl
at_place (y ∷ ys) (suc i) l = there (at_place ys i (omega arith))

in_from : (xs : List ℕ) (x i : ℕ) → i < length xs → get_or xs i 0 ≡ x → In x xs
in_from [] x i l q = absurd (omega arith)
in_from (y ∷ ys) x zero l q = here (sym q)
in_from (y ∷ ys) x (suc i) l q = there (in_from ys x i (omega arith) q)

places_apart : (xs : List ℕ) → NoRepeat xs → (i j : ℕ) → i < j → j < length xs → get_or xs i 0 ≢ get_or xs j 0
places_apart [] once i j a l q = omega arith
places_apart (y ∷ ys) once zero zero a l q = omega arith
places_apart (y ∷ ys) once zero (suc j) a l q = once.0 (in_from ys y j (omega arith) (sym q))
places_apart (y ∷ ys) once (suc i) zero a l q = omega arith
places_apart (y ∷ ys) once (suc i) (suc j) a l q = places_apart ys once.1 i j (omega arith) (omega arith) q

no_repeat : (xs : List ℕ) → ((i j : ℕ) → i < j → j < length xs → get_or xs i 0 ≢ get_or xs j 0) → NoRepeat xs
no_repeat [] h = tt
no_repeat (y ∷ ys) h = (
  λ m. (let r : (i : ℕ) × (i < length ys) × (get_or ys i 0 ≡ y) = place_of ys y m in h 0 (suc r.0) (omega arith) (omega (arith, r.1)) (sym r.2)),
  no_repeat ys (λ i j a l. h (suc i) (suc j) (omega arith) (omega arith)),
)

-- different numbers that pass are at most as many as pass
pub length-le_count : (m : ℕ) (p : ℕ → Bool) (xs : List ℕ) → ((k : ℕ) → k < length xs → get_or xs k 0 < m) → ((k : ℕ) → k < length xs → p (get_or xs k 0) ≡ true)
    → ((i j : ℕ) → i < j → j < length xs → get_or xs i 0 ≢ get_or xs j 0) → length xs ≤ count_below m p
length-le_count m p [] below passes once = omega arith
length-le_count m p (x ∷ xs) below passes once =
    let q : ℕ → Bool = λ d. p d && not (eqb d x) in
    let gone : q x ≡ false = and_right (p x) (not (eqb x x)) (not_from_true (eqb x x) (eq-eqb x x refl)) in
    let c : count_below m p ≡ count_below m q + 1 = count_less m p q x (below 0 (omega arith)) (passes 0 (omega arith)) gone (λ d ne. elim (cases_Bool (p d)) [
      | inl y ↦ y ∙ sym (and_from (p d) (not (eqb d x)) y (not_from_false (eqb d x) (ne_eqb d x ne)))
      | inr f ↦ f ∙ sym (and_left (p d) (not (eqb d x)) f)
    ]) in
    let h : length xs ≤ count_below m q = length-le_count m q xs (λ k l. below (suc k) (omega arith))
    (λ k l. and_from (p (get_or xs k 0)) (not (eqb (get_or xs k 0) x)) (passes (suc k) (omega arith))
    (not_from_false (eqb (get_or xs k 0) x) (ne_eqb (get_or xs k 0) x (λ e. once 0 (suc k) (omega arith) (omega arith) (sym e)))))
    (λ i j a b. once (suc i) (suc j) (omega arith) (omega arith)) in
    omega arith

-- and where all that pass are listed, no more
pub count-le_length : (m : ℕ) (p : ℕ → Bool) (xs : List ℕ) → ((k : ℕ) → k < length xs → get_or xs k 0 < m)
    → ((d : ℕ) → d < m → p d ≡ true → (k : ℕ) × (k < length xs) × (get_or xs k 0 ≡ d)) → count_below m p ≤ length xs
count-le_length m p xs below all =
    let yes : ℕ → Bool = λ _. true in
    let c : count_below m p ≤ count_below (length xs) yes =
    cover m (length xs) yes (λ k. get_or xs k 0) p below (λ d l y. (let r : (k : ℕ) × (k < length xs) × (get_or xs k 0 ≡ d) = all d l y in (r.0, r.1, refl, r.2))) in
    let o : count_below (length xs) yes ≡ length xs = total-one (length xs) in
    omega arith

-- the degree of a vertex
pub degree_is : (ends : List (ℕ × ℕ)) (v : ℕ) → ((e : ℕ) → e < length ends → tail_of ends e ≢ head_of ends e)
    → count_below (length ends) (leaves ends v) + count_below (length ends) (enters ends v) ≡ count_below (length ends) (is_at ends v)
degree_is ends v no_loop =
    sym (total-add (length ends) (λ e. bit (leaves ends v e)) (λ e. bit (enters ends v e)))
    ∙ total-same (length ends) (λ e. bit (leaves ends v e) + bit (enters ends v e)) (λ e. bit (is_at ends v e)) (λ e l.
    elim (cases_Bool (leaves ends v e)) [
      | inl y ↦
          let f : enters ends v e ≡ false = ne_eqb (head_of ends e) v (λ h. no_loop e l (eqb-true (tail_of ends e) v y ∙ sym h)) in
          let a : bit (leaves ends v e) ≡ 1 = ap bit y in
          let b : bit (enters ends v e) ≡ 0 = ap bit f in
          let c : bit (is_at ends v e) ≡ 1 = ap bit (or_left (leaves ends v e) (enters ends v e) y) in
          omega arith
      | inr n ↦
          let a : bit (leaves ends v e) ≡ 0 = ap bit n in
          let c : bit (is_at ends v e) ≡ bit (enters ends v e) = ap (λ b. bit (b || enters ends v e)) n in
          omega arith
    ])

module _ (ends : List (ℕ × ℕ)) (v : ℕ) (es : List ℕ) (listed : AreEdges ends es) where
  pub order_size : IsLawful ends v es → length es ≡ count_below (length ends) (is_at ends v)
  order_size h =
      let a : length es ≤ count_below (length ends) (is_at ends v) = length-le_count (length ends) (is_at ends v) es listed h.only h.once in
      let b : count_below (length ends) (is_at ends v) ≤ length es = count-le_length (length ends) (is_at ends v) es listed h.all in
      omega arith

  pub from_size : ((k : ℕ) → k < length es → is_at ends v (get_or es k 0) ≡ true) → ((i j : ℕ) → i < j → j < length es → get_or es i 0 ≢ get_or es j 0)
      → length es ≡ count_below (length ends) (is_at ends v) → IsLawful ends v es
  from_size only once q = record {
    only = only;
    once = once;
    all = λ e l y. elim (in_dec e es) [
      | inl m ↦ place_of es e m
      | inr m ↦
          let more : length (e ∷ es) ≤ count_below (length ends) (is_at ends v) = length-le_count (length ends) (is_at ends v) (e ∷ es)
          (below e l) (passes e y) (apart e m) in
          absurd (omega arith)
    ];
  }
    where
      below : (e : ℕ) → e < length ends → (k : ℕ) → k < length (e ∷ es) → get_or (e ∷ es) k 0 < length ends
      below e l zero lk = l
      below e l (suc k) lk = listed k (omega arith)

      passes : (e : ℕ) → is_at ends v e ≡ true → (k : ℕ) → k < length (e ∷ es) → is_at ends v (get_or (e ∷ es) k 0) ≡ true
      passes e y zero lk = y
      passes e y (suc k) lk = only k (omega arith)

      apart : (e : ℕ) → (In e es → ⊥) → (i j : ℕ) → i < j → j < length (e ∷ es) → get_or (e ∷ es) i 0 ≢ get_or (e ∷ es) j 0
      apart e m i zero a b = λ q. omega arith
      apart e m zero (suc j) a b = λ q. m (in_from es e j (omega arith) (sym q))
      apart e m (suc i) (suc j) a b = once i j (omega arith) (omega arith)

module _ (ends : List (ℕ × ℕ)) (v : ℕ) (es old seen : List ℕ) (k : ℕ) (listed : AreEdges ends es) (fresh : (e : ℕ) → e < length ends → get_or old e 0 ≢ v)
    (h : IsLawfulUpTo ends v es old seen k) (lk : k < length es) where
  pub not_again : get_or seen (get_or es k 0) 0 ≡ v → IsLawful ends v es → ⊥
  not_again q o = elim (h.marks (get_or es k 0) (listed k lk)) [
    | inl a ↦ o.once a.1 k a.2 lk a.3
    | inr b ↦ fresh (get_or es k 0) (listed k lk) (sym b ∙ q)
  ]

  pub one_more : is_at ends v (get_or es k 0) ≡ true → (get_or seen (get_or es k 0) 0 ≡ v → ⊥) → IsLawfulUpTo ends v es old (set seen (get_or es k 0) v) (k + 1)
  one_more y new =
      let e : ℕ = get_or es k 0 in
      let le : get_or es k 0 < length ends = listed k lk in
      let here : get_or (set seen (get_or es k 0) v) (get_or es k 0) 0 ≡ v = get_or-set_same seen (get_or es k 0) v 0 (omega (arith, h.size)) in
      let other : (d : ℕ) → (d ≡ get_or es k 0 → ⊥) → get_or (set seen (get_or es k 0) v) d 0 ≡ get_or seen d 0 = λ d ne. get_or-set_other seen (get_or es k 0) d v 0 ne in
      let keep : (d : ℕ) → get_or seen d 0 ≡ v → get_or (set seen (get_or es k 0) v) d 0 ≡ v = λ d q. elim (cases_eq d (get_or es k 0)) [
        | inl a ↦ ap (λ z. get_or (set seen (get_or es k 0) v) z 0) a ∙ here
        | inr n ↦ other d n ∙ q
      ] in
      record {
        size = length-set seen (get_or es k 0) v ∙ h.size;
        only = λ j l. elim (cases_lt j k) [
          | inl a ↦ h.only j a
          | inr b ↦ ap (λ z. is_at ends v (get_or es z 0)) (let q : j ≡ k = omega arith in q) ∙ y
        ];
        once = λ i j a b. elim (cases_lt j k) [
          | inl c ↦ h.once i j a c
          | inr d ↦ λ q. (let at : j ≡ k = omega arith in
              new (ap (λ z. get_or seen z 0) (ap (λ z. get_or es z 0) (sym at) ∙ sym q) ∙ h.marked i (omega arith)))
        ];
        marked = λ j l. elim (cases_lt j k) [
          | inl a ↦ keep (get_or es j 0) (h.marked j a)
          | inr b ↦ ap (λ z. get_or (set seen (get_or es k 0) v) (get_or es z 0) 0) (let q : j ≡ k = omega arith in q) ∙ here
        ];
        marks = λ d l. elim (cases_eq d (get_or es k 0)) [
          | inl a ↦ inl (ap (λ z. get_or (set seen (get_or es k 0) v) z 0) a ∙ here, k, omega arith, sym a)
          | inr n ↦ elim (h.marks d l) [
            | inl m ↦ inl (other d n ∙ m.0, m.1, omega (arith, m.2), m.3)
            | inr m ↦ inr (other d n ∙ m)
          ]
        ];
      }

-- ---- an edge at v
pub at_true : (ends : List (ℕ × ℕ)) (v e : ℕ) → is_at ends v e ≡ true → (tail_of ends e ≡ v) ⊎ (head_of ends e ≡ v)
at_true ends v e y = elim (or_cases (eqb (tail_of ends e) v) (eqb (head_of ends e) v) y) [
  | inl t ↦ inl (eqb-true (tail_of ends e) v t)
  | inr h ↦ inr (eqb-true (head_of ends e) v h)
]

pub true_at : (ends : List (ℕ × ℕ)) (v e : ℕ) → (tail_of ends e ≡ v) ⊎ (head_of ends e ≡ v) → is_at ends v e ≡ true
true_at ends v e (inl t) = or_left (eqb (tail_of ends e) v) (eqb (head_of ends e) v) (eq-eqb (tail_of ends e) v t)
true_at ends v e (inr h) = or_right (eqb (tail_of ends e) v) (eqb (head_of ends e) v) (eq-eqb (head_of ends e) v h)

-- ---- a permutation of the edges at v, by places and by elements
pub order_of : (ends : List (ℕ × ℕ)) (v : ℕ) (es : List ℕ) → AreEdges ends es → IsLawful ends v es → IsOrderAt ends v es
order_of ends v es listed h = record {
  only = λ e m.
      let r : (i : ℕ) × (i < length es) × (get_or es i 0 ≡ e) = place_of es e m in
      (omega (arith, listed r.0 r.1, r.2), at_true ends v e (ap (is_at ends v) (sym r.2) ∙ h.only r.0 r.1));
  all = λ e a.
      let r : (k : ℕ) × (k < length es) × (get_or es k 0 ≡ e) = h.all e a.0 (true_at ends v e a.1) in
      in_from es e r.0 r.1 r.2;
  once = no_repeat es h.once;
}

pub lawful_of : (ends : List (ℕ × ℕ)) (v : ℕ) (es : List ℕ) → IsOrderAt ends v es → IsLawful ends v es
lawful_of ends v es h = record {
  only = λ k l. true_at ends v (get_or es k 0) (h.only (get_or es k 0) (at_place es k l)).1;
  all = λ e l y. place_of es e (h.all e (l, at_true ends v e y));
  once = places_apart es h.once;
}

-- ---- degrees
pub bumped : (degree : List ℕ) (t v : ℕ) → t < length degree → get_or (set degree t (get_or degree t 0 + 1)) v 0 ≡ get_or degree v 0 + bit (eqb t v)
bumped degree t v l = elim (cases_eq v t) [
  | inl q ↦
      let a : get_or (set degree t (get_or degree t 0 + 1)) v 0 ≡ get_or degree t 0 + 1 =
      ap (λ z. get_or (set degree t (get_or degree t 0 + 1)) z 0) q ∙ get_or-set_same degree t (get_or degree t 0 + 1) 0 l in
      let b : bit (eqb t v) ≡ 1 = ap bit (eq-eqb t v (sym q)) in
      let c : get_or degree v 0 ≡ get_or degree t 0 = ap (λ z. get_or degree z 0) q in
      omega arith
  | inr n ↦
      let a : get_or (set degree t (get_or degree t 0 + 1)) v 0 ≡ get_or degree v 0 = get_or-set_other degree t v (get_or degree t 0 + 1) 0 n in
      let b : bit (eqb t v) ≡ 0 = ap bit (ne_eqb t v (λ q. n (sym q))) in
      omega arith
]

-- no degree is greater than the number of ends
pub degree_small : (n : ℕ) (ends : List (ℕ × ℕ)) (k : ℕ) (degree : List ℕ) → AreDegrees n ends k degree → (v : ℕ) → v < n → get_or degree v 0 ≤ 2 * k
degree_small n ends k degree d v l = omega (arith, d.each v l, count-le k (leaves ends v), count-le k (enters ends v))

-- one edge more, whose two ends are counted one after the other
pub degrees_more : (n : ℕ) (ends : List (ℕ × ℕ)) (k : ℕ) (degree : List ℕ) (t h : ℕ) → t < n → h < n → tail_of ends k ≡ t → head_of ends k ≡ h
    → AreDegrees n ends k degree → (mid : List ℕ) → mid ≡ set degree t (get_or degree t 0 + 1) → (new : List ℕ) → new ≡ set mid h (get_or mid h 0 + 1)
    → AreDegrees n ends (k + 1) new
degrees_more n ends k degree t h lt lh qt qh d mid qm new qn =
    let size : length mid ≡ n = ap (λ (z : List ℕ). length z) qm ∙ length-set degree t (get_or degree t 0 + 1) ∙ d.size in
    record {
      size = ap (λ (z : List ℕ). length z) qn ∙ length-set mid h (get_or mid h 0 + 1) ∙ size;
      each = λ v lv.
          let a : get_or mid v 0 ≡ get_or degree v 0 + bit (eqb t v) = ap (λ (z : List ℕ). get_or z v 0) qm ∙ bumped degree t v (omega (arith, d.size)) in
          let b : get_or new v 0 ≡ get_or mid v 0 + bit (eqb h v) = ap (λ (z : List ℕ). get_or z v 0) qn ∙ bumped mid h v (omega arith) in
          let s : suc k ≡ k + 1 = omega arith in
          let l : count_below (k + 1) (leaves ends v) ≡ bit (leaves ends v k) + count_below k (leaves ends v) = ap (λ z. count_below z (leaves ends v)) (sym s) in
          let e : count_below (k + 1) (enters ends v) ≡ bit (enters ends v k) + count_below k (enters ends v) = ap (λ z. count_below z (enters ends v)) (sym s) in
          let x : bit (leaves ends v k) ≡ bit (eqb t v) = ap (λ z. bit (eqb z v)) qt in
          let y : bit (enters ends v k) ≡ bit (eqb h v) = ap (λ z. bit (eqb z v)) qh in
          omega (arith, d.each v lv);
    }
