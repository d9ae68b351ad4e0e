-- Sums below a bound: double counting, and two sums that are equal term by term because they are equal in all.
use Rattle.std.proofs.Common.{◌≡◌, ℕ, zero, suc, ◌+◌, ◌<◌, ◌≤◌, Bool, true, false, eqb, ◌&&◌, refl, ap, ◌∙◌, inl, inr, arith}
use Rattle.std.proofs.lemmas.Bool.{eq-eqb, ne_eqb, cases_Bool, cases_lt, cases_order, and_from}
use Rattle.st_map.specs.Counting.{total, bit, count_below, fibre}

pub total-same : (n : ℕ) (f g : ℕ → ℕ) → ((k : ℕ) → k < n → f k ≡ g k) → total n f ≡ total n g
total-same zero f g h = refl
total-same (suc n) f g h =
    let here : f n ≡ g n = h n (omega arith) in
    let rest : total n f ≡ total n g = total-same n f g (λ k l. h k (omega arith)) in
    omega arith

pub total-add : (n : ℕ) (f g : ℕ → ℕ) → total n (λ k. f k + g k) ≡ total n f + total n g
total-add zero f g = refl
total-add (suc n) f g = omega (arith, total-add n f g)

pub total-zero : (n : ℕ) → total n (λ k. 0) ≡ 0
total-zero zero = refl
total-zero (suc n) = omega (arith, total-zero n)

pub total-one : (n : ℕ) → total n (λ k. 1) ≡ n
total-one zero = refl
total-one (suc n) = omega (arith, total-one n)

pub total-le : (n : ℕ) (f g : ℕ → ℕ) → ((k : ℕ) → k < n → f k ≤ g k) → total n f ≤ total n g
total-le zero f g h = omega arith
total-le (suc n) f g h =
    let here : f n ≤ g n = h n (omega arith) in
    let rest : total n f ≤ total n g = total-le n f g (λ k l. h k (omega arith)) in
    omega arith

-- one term is at most the sum
pub term-le : (n : ℕ) (f : ℕ → ℕ) (k : ℕ) → k < n → f k ≤ total n f
term-le zero f k h = absurd (omega arith)
term-le (suc n) f k h = elim (cases_lt k n) [
  | inl l ↦ omega (arith, term-le n f k l)
  | inr l ↦ let e : k ≡ n = omega arith in let e2 : f k ≡ f n = ap f e in omega arith
]

-- two sums exchanged
pub total-exchange : (m n : ℕ) (c : ℕ → ℕ → ℕ) → total m (λ y. total n (λ x. c x y)) ≡ total n (λ x. total m (λ y. c x y))
total-exchange m zero c = total-zero m
total-exchange m (suc n) c =
    total-add m (λ y. c n y) (λ y. total n (λ x. c x y)) ∙ ap (λ r. total m (λ y. c n y) + r) (total-exchange m n c)

-- where the second sum is no greater and no term of the first is greater, all terms agree
pub tight : (n : ℕ) (f g : ℕ → ℕ) → ((k : ℕ) → k < n → f k ≤ g k) → total n g ≤ total n f → (k : ℕ) → k < n → f k ≡ g k
tight zero f g h e k l = absurd (omega arith)
tight (suc n) f g h e k l =
    let here : f n ≤ g n = h n (omega arith) in
    let below : total n f ≤ total n g = total-le n f g (λ k l. h k (omega arith)) in
    elim (cases_lt k n) [
      | inl l ↦ tight n f g (λ k l. h k (omega arith)) (omega arith) k l
      | inr m ↦ let eq : k ≡ n = omega arith in let e1 : f k ≡ f n = ap f eq in let e2 : g k ≡ g n = ap g eq in omega arith
    ]

-- no number below j is a
none_below : (a j : ℕ) → j ≤ a → total j (λ y. bit (eqb a y)) ≡ 0
none_below a j l = total-same j (λ y. bit (eqb a y)) (λ _. 0) (λ k lk. ap bit (ne_eqb a k (λ e. omega arith))) ∙ total-zero j

-- the test 'y is a' passes once
pub once : (m a : ℕ) → a < m → total m (λ y. bit (eqb a y)) ≡ 1
once zero a h = absurd (omega arith)
once (suc m) a h = elim (cases_lt a m) [
  | inl l ↦ let e : bit (eqb a m) ≡ 0 = ap bit (ne_eqb a m (λ e. omega arith)) in omega (arith, once m a l)
  | inr l ↦
      let e : bit (eqb a m) ≡ 1 = ap bit (eq-eqb a m (omega arith)) in
      omega (arith, none_below a m l)
]

pub bit_le : (b : Bool) → bit b ≤ 1
bit_le true = omega arith
bit_le false = omega arith

pub count-le : (n : ℕ) (p : ℕ → Bool) → count_below n p ≤ n
count-le n p = omega (arith, total-le n (λ k. bit (p k)) (λ k. 1) (λ k _. bit_le (p k)), total-one n)

-- a passing number is counted
pub bit_one : (b : Bool) → b ≡ true → bit b ≡ 1
bit_one b e = ap bit e

pub bit_none : (b : Bool) → b ≡ false → bit b ≡ 0
bit_none b e = ap bit e

pub bit_positive : (b : Bool) → 1 ≤ bit b → b ≡ true
bit_positive true h = refl
bit_positive false h = absurd (omega arith)

-- two different numbers that pass are counted twice
pub two_counted : (n : ℕ) (p : ℕ → Bool) (i j : ℕ) → i < j → j < n → p i ≡ true → p j ≡ true → 2 ≤ count_below n p
two_counted zero p i j h l pi pj = absurd (omega arith)
two_counted (suc n) p i j h l pi pj = elim (cases_lt j n) [
  | inl m ↦ omega (arith, two_counted n p i j h m pi pj)
  | inr m ↦
      let e : bit (p j) ≡ 1 = ap bit pj in
      let e2 : bit (p j) ≡ bit (p n) = ap (λ k. bit (p k)) (omega arith) in
      let e3 : bit (p i) ≡ 1 = ap bit pi in
      omega (arith, term-le n (λ k. bit (p k)) i (omega arith))
]

-- where at most one number passes, two that pass are the same
pub same_counted : (n : ℕ) (p : ℕ → Bool) → count_below n p ≤ 1 → (i j : ℕ) → i < n → j < n → p i ≡ true → p j ≡ true → i ≡ j
same_counted n p h i j li lj pi pj = elim (cases_order i j) [
  | inl e ↦ e
  | inr o ↦ elim o [
    | inl a ↦ absurd (omega (arith, two_counted n p i j a lj pi pj))
    | inr a ↦ absurd (omega (arith, two_counted n p j i a li pj pi))
  ]
]

-- a number that is counted nowhere does not pass
pub none_counted : (n : ℕ) (p : ℕ → Bool) → count_below n p ≡ 0 → (i : ℕ) → i < n → p i ≡ true → ⊥
none_counted n p h i l pi = let e : bit (p i) ≡ 1 = ap bit pi in omega (arith, term-le n (λ k. bit (p k)) i l)

-- where one passes, at least one is counted
pub some_counted : (n : ℕ) (p : ℕ → Bool) (i : ℕ) → i < n → p i ≡ true → 1 ≤ count_below n p
some_counted n p i l pi = let e : bit (p i) ≡ 1 = ap bit pi in omega (arith, term-le n (λ k. bit (p k)) i l)

-- what is counted has a place
pub counted_place : (n : ℕ) (p : ℕ → Bool) → 1 ≤ count_below n p → (i : ℕ) × (i < n) × (p i ≡ true)
counted_place zero p h = absurd (omega arith)
counted_place (suc n) p h = elim (cases_Bool (p n)) [
  | inl e ↦ (n, omega arith, e)
  | inr e ↦
      let z : bit (p n) ≡ 0 = ap bit e in
      let r : (i : ℕ) × (i < n) × (p i ≡ true) = counted_place n p (omega arith) in
      (r.0, omega (arith, r.1), r.2)
]

-- double counting: the passing numbers, sorted by their value under h
fibre-row : (m : ℕ) (b : Bool) (a : ℕ) → a < m → total m (λ y. bit (b && eqb a y)) ≡ bit b
fibre-row m true a l = once m a l
fibre-row m false a l = total-zero m

pub fibres : (m n : ℕ) (p : ℕ → Bool) (h : ℕ → ℕ) → ((x : ℕ) → x < n → h x < m) → total m (λ y. count_below n (fibre p h y)) ≡ count_below n p
fibres m n p h r =
    total-exchange m n (λ x y. bit (p x && eqb (h x) y))
    ∙ total-same n (λ x. total m (λ y. bit (p x && eqb (h x) y))) (λ x. bit (p x)) (λ x l. fibre-row m (p x) (h x) (r x l))

-- a fibre that is asked for is not empty
wanted : (n : ℕ) (p : ℕ → Bool) (h : ℕ → ℕ) (z : Bool) (y : ℕ) → (z ≡ true → (x : ℕ) × (x < n) × (p x ≡ true) × (h x ≡ y)) → bit z ≤ count_below n (fibre p h y)
wanted n p h false y c = omega arith
wanted n p h true y c =
    let w : (x : ℕ) × (x < n) × (p x ≡ true) × (h x ≡ y) = c refl in
    some_counted n (fibre p h y) w.0 w.1 (and_from (p w.0) (eqb (h w.0) y) w.2 (eq-eqb (h w.0) y w.3))

-- each value that z asks for is taken by a passing number: so no more are asked for than pass
pub cover : (m n : ℕ) (p : ℕ → Bool) (h : ℕ → ℕ) (z : ℕ → Bool) → ((x : ℕ) → x < n → h x < m)
    → ((y : ℕ) → y < m → z y ≡ true → (x : ℕ) × (x < n) × (p x ≡ true) × (h x ≡ y)) → count_below m z ≤ count_below n p
cover m n p h z r c =
    let a : count_below m z ≤ total m (λ y. count_below n (fibre p h y)) =
    total-le m (λ y. bit (z y)) (λ y. count_below n (fibre p h y)) (λ y l. wanted n p h (z y) y (c y l)) in
    omega (arith, fibres m n p h r)

-- and where no more pass, each value that is asked for is taken once, and no other is taken
pub cover-exact : (m n : ℕ) (p : ℕ → Bool) (h : ℕ → ℕ) (z : ℕ → Bool) → ((x : ℕ) → x < n → h x < m)
    → ((y : ℕ) → y < m → z y ≡ true → (x : ℕ) × (x < n) × (p x ≡ true) × (h x ≡ y)) → count_below n p ≤ count_below m z
    → (y : ℕ) → y < m → bit (z y) ≡ count_below n (fibre p h y)
cover-exact m n p h z r c e =
    tight m (λ y. bit (z y)) (λ y. count_below n (fibre p h y)) (λ y l. wanted n p h (z y) y (c y l)) (omega (arith, fibres m n p h r))

-- one passing number less is counted
pub count_less : (m : ℕ) (p q : ℕ → Bool) (e : ℕ) → e < m → p e ≡ true → q e ≡ false → ((d : ℕ) → (d ≡ e → ⊥) → p d ≡ q d)
    → count_below m p ≡ count_below m q + 1
count_less zero p q e l pe qe same = absurd (omega arith)
count_less (suc m) p q e l pe qe same = elim (cases_lt e m) [
  | inl lt ↦
      let top : bit (p m) ≡ bit (q m) = ap bit (same m (λ c. omega arith)) in
      omega (arith, count_less m p q e lt pe qe same)
  | inr ge ↦
      let at : e ≡ m = omega arith in
      let bp : bit (p e) ≡ bit (p m) = ap (λ k. bit (p k)) at in
      let bq : bit (q e) ≡ bit (q m) = ap (λ k. bit (q k)) at in
      let b1 : bit (p e) ≡ 1 = ap bit pe in
      let b0 : bit (q e) ≡ 0 = ap bit qe in
      let rest : count_below m p ≡ count_below m q = total-same m (λ k. bit (p k)) (λ k. bit (q k)) (λ k lk. ap bit (same k (λ c. omega arith))) in
      omega arith
]
