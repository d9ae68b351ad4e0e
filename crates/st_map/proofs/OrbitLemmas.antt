-- Permutations of the numbers below n: orbits come back, each has a least member, and a test that changes on an
-- orbit changes both ways.
use Rattle.std.proofs.Common.{◌≡◌, ℕ, zero, suc, ◌+◌, ◌-◌, ◌*◌, ◌/◌, ◌%◌, ◌<◌, ◌≤◌, Bool, true, false, not, eqb, ◌⊎◌, refl, sym, ap, ◌∙◌, inl, inr, arith}
use Rattle.std.proofs.lemmas.Bool.{eqb-true, eqb-false, eq-eqb, cases_Bool, cases_lt}
use Rattle.std.proofs.lemmas.Nat.{mod_below}
use Rattle.st_map.specs.Counting.{total, bit, count_below, fibre}
use Rattle.st_map.specs.Orbits.{iterate, Permutes, SameOrbit, least_within}
use Rattle.st_map.proofs.SumLemmas.{total-one, fibres, counted_place}

-- a sum greater than the number of its terms has a term of at least 2
crowded : (n : ℕ) (g : ℕ → ℕ) → n < total n g → (y : ℕ) × (y < n) × (2 ≤ g y)
crowded zero g h = absurd (omega arith)
crowded (suc n) g h = elim (cases_lt (g n) 2) [
  | inl l ↦ let r : (y : ℕ) × (y < n) × (2 ≤ g y) = crowded n g (omega arith) in (r.0, omega (arith, r.1), r.2)
  | inr l ↦ (n, omega arith, l)
]

-- two that are counted are two places
two_places : (n : ℕ) (p : ℕ → Bool) → 2 ≤ count_below n p → (i : ℕ) × (j : ℕ) × (i < j) × (j < n) × (p i ≡ true) × (p j ≡ true)
two_places zero p h = absurd (omega arith)
two_places (suc n) p h = elim (cases_Bool (p n)) [
  | inl e ↦
      let one : bit (p n) ≡ 1 = ap bit e in
      let r : (i : ℕ) × (i < n) × (p i ≡ true) = counted_place n p (omega arith) in
      (r.0, n, r.1, omega arith, r.2, e)
  | inr e ↦
      let z : bit (p n) ≡ 0 = ap bit e in
      let r : (i : ℕ) × (j : ℕ) × (i < j) × (j < n) × (p i ≡ true) × (p j ≡ true) = two_places n p (omega arith) in
      (r.0, r.1, r.2, omega (arith, r.3), r.4, r.5)
]

-- of more values than there are numbers below n two are equal
pub pigeonhole : (m n : ℕ) (h : ℕ → ℕ) → n < m → ((x : ℕ) → x < m → h x < n) → (i : ℕ) × (j : ℕ) × (i < j) × (j < m) × (h i ≡ h j)
pigeonhole m n h l r =
    let yes : ℕ → Bool = λ x. true in
    let all : total n (λ y. count_below m (fibre yes h y)) ≡ m = fibres n m yes h r ∙ total-one m in
    let c : (y : ℕ) × (y < n) × (2 ≤ count_below m (fibre yes h y)) = crowded n (λ y. count_below m (fibre yes h y)) (omega arith) in
    let t : (i : ℕ) × (j : ℕ) × (i < j) × (j < m) × (fibre yes h c.0 i ≡ true) × (fibre yes h c.0 j ≡ true) = two_places m (fibre yes h c.0) c.2 in
    (t.0, t.1, t.2, t.3, eqb-true (h t.0) c.0 t.4 ∙ sym (eqb-true (h t.1) c.0 t.5))

-- the first number that passes
pub first_place : (q : ℕ → Bool) (n : ℕ) → q n ≡ true → (k : ℕ) × (k ≤ n) × (q k ≡ true) × ((j : ℕ) → j < k → q j ≡ false)
first_place q zero e = (zero, omega arith, e, λ j l. absurd (omega arith))
first_place q (suc n) e = from (first_from q (suc n))
  where
    first_from : (q : ℕ → Bool) (n : ℕ) → ((j : ℕ) → j < n → q j ≡ false) ⊎ ((k : ℕ) × (k < n) × (q k ≡ true) × ((j : ℕ) → j < k → q j ≡ false))
    first_from q zero = inl (λ j l. absurd (omega arith))
    first_from q (suc n) = elim (first_from q n) [
      | inr r ↦ inr (r.0, omega (arith, r.1), r.2, r.3)
      | inl none ↦ elim (cases_Bool (q n)) [
        | inl e ↦ inr (n, omega arith, e, none)
        | inr e ↦ inl (λ j l. elim (cases_lt j n) [ inl m ↦ none j m | inr m ↦ ap q (omega arith) ∙ e ])
      ]
    ]

    from : ((j : ℕ) → j < suc n → q j ≡ false) ⊎ ((k : ℕ) × (k < suc n) × (q k ≡ true) × ((j : ℕ) → j < k → q j ≡ false))
        → (k : ℕ) × (k ≤ suc n) × (q k ≡ true) × ((j : ℕ) → j < k → q j ≡ false)
    from (inl none) = (suc n, omega arith, e, none)
    from (inr r) = (r.0, omega (arith, r.1), r.2, r.3)

-- a place below n that passes, or none
pub some_or_none : (q : ℕ → Bool) (n : ℕ) → ((k : ℕ) × (k < n) × (q k ≡ true)) ⊎ ((k : ℕ) → k < n → q k ≡ false)
some_or_none q zero = inr (λ j l. absurd (omega arith))
some_or_none q (suc n) = elim (some_or_none q n) [
  | inl r ↦ inl (r.0, omega (arith, r.1), r.2)
  | inr none ↦ elim (cases_Bool (q n)) [
    | inl e ↦ inl (n, omega arith, e)
    | inr e ↦ inr (λ j l. elim (cases_lt j n) [ inl m ↦ none j m | inr m ↦ ap q (omega arith) ∙ e ])
  ]
]

pub steps : (f : ℕ → ℕ) (d j k : ℕ) → j ≡ k → iterate j f d ≡ iterate k f d
steps f d j k e = ap (λ k. iterate k f d) e

pub iterate-add : (a b : ℕ) (f : ℕ → ℕ) (d : ℕ) → iterate (a + b) f d ≡ iterate a f (iterate b f d)
iterate-add zero b f d = ap (λ k. iterate k f d) (omega arith)
iterate-add (suc a) b f d = let e : suc a + b ≡ suc (a + b) = omega arith in ap (λ k. iterate k f d) e ∙ ap f (iterate-add a b f d)

-- one step first, or one step last
pub iterate-step : (k : ℕ) (f : ℕ → ℕ) (d : ℕ) → iterate k f (f d) ≡ f (iterate k f d)
iterate-step zero f d = refl
iterate-step (suc k) f d = ap f (iterate-step k f d)

pub orbit-refl : (f : ℕ → ℕ) (d : ℕ) → SameOrbit f d d
orbit-refl f d = (0, refl)

pub orbit-step : (f : ℕ → ℕ) (d : ℕ) → SameOrbit f d (f d)
orbit-step f d = (1, refl)

pub orbit-trans : (f : ℕ → ℕ) (a b c : ℕ) → SameOrbit f a b → SameOrbit f b c → SameOrbit f a c
orbit-trans f a b c p q = (q.0 + p.0, iterate-add q.0 p.0 f a ∙ ap (iterate q.0 f) p.1 ∙ q.1)

-- where a step leads from u to not u
pub change : (f : ℕ → ℕ) (b : ℕ → Bool) (u : Bool) (k : ℕ) (d : ℕ) → b d ≡ u → b (iterate k f d) ≡ not u
    → (j : ℕ) × (j < k) × (b (iterate j f d) ≡ u) × (b (iterate (suc j) f d) ≡ not u)
change f b u zero d s t = absurd (apart u (sym s ∙ t))
  where
    apart : (u : Bool) → u ≡ not u → ⊥
    apart true e = cc
    apart false e = cc
change f b u (suc k) d s t = elim (which (b (iterate k f d)) u) [
  | inl e ↦ (k, omega arith, e, t)
  | inr e ↦
      let r : (j : ℕ) × (j < k) × (b (iterate j f d) ≡ u) × (b (iterate (suc j) f d) ≡ not u) = change f b u k d s e in
      (r.0, omega (arith, r.1), r.2, r.3)
]
  where
    which : (v u : Bool) → (v ≡ u) ⊎ (v ≡ not u)
    which true true = inl refl
    which true false = inr refl
    which false true = inr refl
    which false false = inl refl

module _ (n : ℕ) (f : ℕ → ℕ) (perm : Permutes n f) where
  pub iterate-stays : (k d : ℕ) → d < n → iterate k f d < n
  iterate-stays zero d l = l
  iterate-stays (suc k) d l = perm.stays (iterate k f d) (iterate-stays k d l)

  pub iterate-cancel : (k c d : ℕ) → c < n → d < n → iterate k f c ≡ iterate k f d → c ≡ d
  iterate-cancel zero c d lc ld e = e
  iterate-cancel (suc k) c d lc ld e =
      iterate-cancel k c d lc ld (perm.apart (iterate k f c) (iterate k f d) (iterate-stays k c lc) (iterate-stays k d ld) e)

  -- each number comes back after at most n steps
  pub period : (d : ℕ) → d < n → (p : ℕ) × (0 < p) × (p ≤ n) × (iterate p f d ≡ d)
  period d l =
      let t : (i : ℕ) × (j : ℕ) × (i < j) × (j < suc n) × (iterate i f d ≡ iterate j f d) =
      pigeonhole (suc n) n (λ k. iterate k f d) (omega arith) (λ k _. iterate-stays k d l) in
      let gap : t.1 ≡ t.0 + (t.1 - t.0) = omega (arith, t.2) in
      let again : iterate t.0 f (iterate (t.1 - t.0) f d) ≡ iterate t.0 f d =
      sym (iterate-add t.0 (t.1 - t.0) f d) ∙ ap (λ k. iterate k f d) (sym gap) ∙ sym t.4 in
      (t.1 - t.0, omega (arith, t.2), omega (arith, t.2, t.3), iterate-cancel t.0 (iterate (t.1 - t.0) f d) d (iterate-stays (t.1 - t.0) d l) l again)

  -- the least such number of steps
  pub least_period : (d : ℕ) → d < n → (p : ℕ) × (0 < p) × (p ≤ n) × (iterate p f d ≡ d) × ((j : ℕ) → 0 < j → j < p → iterate j f d ≡ d → ⊥)
  least_period d l =
      let r : (p : ℕ) × (0 < p) × (p ≤ n) × (iterate p f d ≡ d) = period d l in
      let q : ℕ → Bool = λ k. eqb (iterate (suc k) f d) d in
      let at : suc (r.0 - 1) ≡ r.0 = omega (arith, r.1) in
      let w : (k : ℕ) × (k ≤ r.0 - 1) × (q k ≡ true) × ((j : ℕ) → j < k → q j ≡ false) =
      first_place q (r.0 - 1) (eq-eqb (iterate (suc (r.0 - 1)) f d) d (ap (λ k. iterate k f d) at ∙ r.3)) in (
        suc w.0,
        omega arith,
        omega (arith, w.1, r.2, r.1),
        eqb-true (iterate (suc w.0) f d) d w.2,
        λ j pos below e.
            let back : suc (j - 1) ≡ j = omega arith in
            eqb-false (iterate (suc (j - 1)) f d) d (w.3 (j - 1) (omega arith)) (ap (λ k. iterate k f d) back ∙ e),
      )

  turns : (d p : ℕ) → iterate p f d ≡ d → (q : ℕ) → iterate (q * p) f d ≡ d
  turns d p e zero = steps f d (0 * p) 0 (omega arith)
  turns d p e (suc q) =
      let s : suc q * p ≡ q * p + p = omega arith in
      ap (λ k. iterate k f d) s ∙ iterate-add (q * p) p f d ∙ ap (iterate (q * p) f) e ∙ turns d p e q

  -- whole turns can be left out
  pub iterate-mod : (d p : ℕ) → 0 < p → iterate p f d ≡ d → (k : ℕ) → iterate k f d ≡ iterate (k % p) f d
  iterate-mod d p pos e k =
      let s : k ≡ k % p + (k / p) * p = omega arith in
      ap (λ k. iterate k f d) s ∙ iterate-add (k % p) ((k / p) * p) f d ∙ ap (iterate (k % p) f) (turns d p e (k / p))

  -- what is reached is reached in fewer than n steps
  pub orbit-short : (d : ℕ) → d < n → (k : ℕ) → (j : ℕ) × (j < n) × (iterate k f d ≡ iterate j f d)
  orbit-short d l k =
      let r : (p : ℕ) × (0 < p) × (p ≤ n) × (iterate p f d ≡ d) = period d l in
      (k % r.0, omega (arith, mod_below k r.0 r.1, r.2), iterate-mod d r.0 r.1 r.3 k)

  pub orbit-sym : (d e : ℕ) → d < n → SameOrbit f d e → SameOrbit f e d
  orbit-sym d e l s =
      let r : (p : ℕ) × (0 < p) × (p ≤ n) × (iterate p f d ≡ d) = period d l in
      let sum : (r.0 - s.0 % r.0) + s.0 % r.0 ≡ r.0 = omega (arith, mod_below s.0 r.0 r.1) in
      let here : iterate (s.0 % r.0) f d ≡ e = sym (iterate-mod d r.0 r.1 r.3 s.0) ∙ s.1 in (
        r.0 - s.0 % r.0,
        ap (iterate (r.0 - s.0 % r.0) f) (sym here) ∙ sym (iterate-add (r.0 - s.0 % r.0) (s.0 % r.0) f d)
            ∙ ap (λ k. iterate k f d) sum ∙ r.3,
      )

  pub orbit-stays : (d e : ℕ) → d < n → SameOrbit f d e → e < n
  orbit-stays d e l s = let h : iterate s.0 f d < n = iterate-stays s.0 d l in let q : iterate s.0 f d ≡ e = s.1 in omega arith

  -- the least member of an orbit
  pub least-le : (k d j : ℕ) → j ≤ k → least_within k f d ≤ iterate j f d
  least-le zero d j l = let e : iterate j f d ≡ iterate 0 f d = steps f d j 0 (omega arith) in omega arith
  least-le (suc k) d j l = elim (cases_lt j (suc k)) [
    | inl m ↦ omega (arith, least-le k d j (omega arith))
    | inr m ↦ let e : iterate j f d ≡ iterate (suc k) f d = steps f d j (suc k) (omega arith) in omega arith
  ]

  pub least-at : (k d : ℕ) → SameOrbit f d (least_within k f d)
  least-at zero d = (0, refl)
  least-at (suc k) d = elim (cases_lt (iterate (suc k) f d) (least_within k f d)) [
    | inl m ↦ (suc k, omega arith)
    | inr m ↦ let r : SameOrbit f d (least_within k f d) = least-at k d in (r.0, r.1 ∙ omega arith)
  ]

  pub root-le : (d e : ℕ) → d < n → SameOrbit f d e → least_within n f d ≤ e
  root-le d e l s =
      let r : (j : ℕ) × (j < n) × (iterate s.0 f d ≡ iterate j f d) = orbit-short d l s.0 in
      omega (arith, least-le n d r.0 (omega (arith, r.1)), r.2, s.1)

  pub root-below : (d : ℕ) → d < n → least_within n f d < n
  root-below d l = orbit-stays d (least_within n f d) l (least-at n d)

  -- one orbit, one least member
  pub root-same : (d e : ℕ) → d < n → SameOrbit f d e → least_within n f d ≡ least_within n f e
  root-same d e l s =
      let le : e < n = orbit-stays d e l s in
      let back : SameOrbit f e d = orbit-sym d e l s in
      omega (
        arith,
        root-le d (least_within n f e) l (orbit-trans f d e (least_within n f e) s (least-at n e)),
        root-le e (least_within n f d) le (orbit-trans f e d (least_within n f d) back (least-at n d)),
      )

  pub same-from_root : (d e : ℕ) → d < n → e < n → least_within n f d ≡ least_within n f e → SameOrbit f d e
  same-from_root d e ld le r =
      let back : SameOrbit f (least_within n f e) e = orbit-sym e (least_within n f e) le (least-at n e) in
      let w : SameOrbit f d (least_within n f d) = least-at n d in
      let to : SameOrbit f d (least_within n f e) = (w.0, w.1 ∙ r) in
      orbit-trans f d (least_within n f e) e to back

  pub root-root : (d : ℕ) → d < n → least_within n f (least_within n f d) ≡ least_within n f d
  root-root d l = sym (root-same d (least_within n f d) l (least-at n d))

  -- an orbit with a member that passes and one that fails has a step from failing to passing, and one back
  pub change_between : (b : ℕ → Bool) (u : Bool) (d e : ℕ) → SameOrbit f d e → b d ≡ u → b e ≡ not u
      → (c : ℕ) × SameOrbit f d c × (b c ≡ u) × (b (f c) ≡ not u)
  change_between b u d e s bd be =
      let r : (j : ℕ) × (j < s.0) × (b (iterate j f d) ≡ u) × (b (iterate (suc j) f d) ≡ not u) =
      change f b u s.0 d bd (ap b s.1 ∙ be) in
      (iterate r.0 f d, (r.0, refl), r.2, r.3)

  -- a full turn has each member of the orbit
  pub turn_covers : (x p d : ℕ) → 0 < p → iterate p f x ≡ x → SameOrbit f x d → (j : ℕ) × (j < p) × (iterate j f x ≡ d)
  turn_covers x p d pos e s = (s.0 % p, mod_below s.0 p pos, sym (iterate-mod x p pos e s.0) ∙ s.1)

  -- the members of a least turn are different
  pub turn_apart : (x p : ℕ) → x < n → ((j : ℕ) → 0 < j → j < p → iterate j f x ≡ x → ⊥) → (i j : ℕ) → i < j → j < p → iterate i f x ≡ iterate j f x → ⊥
  turn_apart x p l a i j ij jp e =
      let gap : j ≡ i + (j - i) = omega arith in
      a (j - i) (omega arith) (omega arith)
      (sym (iterate-cancel i x (iterate (j - i) f x) l (iterate-stays (j - i) x l) (e ∙ steps f x j (i + (j - i)) gap ∙ iterate-add i (j - i) f x)))

  -- the step before a member of the orbit
  pub before : (d : ℕ) → d < n → (c : ℕ) × (c < n) × (f c ≡ d) × SameOrbit f d c
  before d l =
      let r : (p : ℕ) × (0 < p) × (p ≤ n) × (iterate p f d ≡ d) = period d l in
      let at : suc (r.0 - 1) ≡ r.0 = omega (arith, r.1) in
      (iterate (r.0 - 1) f d, iterate-stays (r.0 - 1) d l, steps f d (suc (r.0 - 1)) r.0 at ∙ r.3, (r.0 - 1, refl))
