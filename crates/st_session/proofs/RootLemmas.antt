-- How many orbits two permutations have, compared, and two new numbers taken back to old ones: proved again, since st_reduce hands
-- neither on.
use Rattle.std.proofs.Common.{◌≡◌, ℕ, zero, suc, ◌<◌, ◌≤◌, Bool, true, cond, eqb, ◌∙◌, subst, arith}
use Rattle.std.proofs.lemmas.Bool.{eqb-true, eq-eqb, ne_eqb, cond-true, cond-false}
use Rattle.st_map.specs.Counting.{count_below}
use Rattle.st_map.specs.Orbits.{iterate, Permutes, SameOrbit, least_within}
use Rattle.st_map.proofs.Public.{cover, iterate-stays, least-at, orbit-refl, orbit-sym, orbit-trans, root-below, root-root, root-same}

abbrev pub is_root : ℕ → (ℕ → ℕ) → ℕ → Bool
is_root n f d = eqb (least_within n f d) d

abbrev pub roots : ℕ → (ℕ → ℕ) → ℕ
roots n f = count_below n (is_root n f)

-- q takes the numbers below m to numbers below n, steps of h to orbits of f, and meets each orbit of f
pub record Projects (n m : ℕ) (f h q : ℕ → ℕ) : Type 0 where
  pub into : (x : ℕ) → x < m → q x < n
  pub steps : (x : ℕ) → x < m → SameOrbit f (q x) (q (h x))
  pub onto : (y : ℕ) → y < n → (x : ℕ) × (x < m) × SameOrbit f (q x) y

module _ (n m : ℕ) (f h : ℕ → ℕ) (pf : Permutes n f) (ph : Permutes m h) where
  module _ (q : ℕ → ℕ) (P : Projects n m f h q) where
    pub orbit_down : (x y : ℕ) → x < m → SameOrbit h x y → SameOrbit f (q x) (q y)
    orbit_down x y l s = subst (λ z. SameOrbit f (q x) (q z)) s.1 (go s.0)
      where
        go : (k : ℕ) → SameOrbit f (q x) (q (iterate k h x))
        go zero = orbit-refl f (q x)
        go (suc k) = orbit-trans f (q x) (q (iterate k h x)) (q (h (iterate k h x))) (go k) (P.steps (iterate k h x) (iterate-stays m h ph k x l))

    root_of : (x y : ℕ) → x < m → y < n → is_root n f y ≡ true → SameOrbit f (q x) y → least_within n f (q x) ≡ y
    root_of x y l k r s = root-same n f pf (q x) y (P.into x l) s ∙ eqb-true (least_within n f y) y r

    pub fewer : roots n f ≤ roots m h
    fewer = cover n m (is_root m h) (λ x. least_within n f (q x)) (is_root n f) (λ x l. root-below n f pf (q x) (P.into x l)) (λ y l r.
        let o : (x : ℕ) × (x < m) × SameOrbit f (q x) y = P.onto y l in
        let z : ℕ = least_within m h o.0 in
        let lz : z < m = root-below m h ph o.0 o.1 in
        let down : SameOrbit f (q o.0) (q z) = orbit_down o.0 z o.1 (least-at m h ph m o.0) in (
          z,
          lz,
          eq-eqb (least_within m h z) z (root-root m h ph o.0 o.1),
          root_of z y lz l r (orbit-trans f (q z) (q o.0) y (orbit-sym n f pf (q o.0) (q z) (P.into o.0 o.1) down) o.2),
        ))

-- a new number taken back to the one before it
unfoldable pub back : ℕ → ℕ → ℕ → ℕ → ℕ
back n a b x = cond (eqb x n) a (cond (eqb x (suc n)) b x)

pub back_old : (n a b x : ℕ) → x < n → back n a b x ≡ x
unfolding back
back_old n a b x l = cond-false (eqb x n) a (cond (eqb x (suc n)) b x) (ne_eqb x n (λ e. omega arith)) ∙ cond-false (eqb x (suc n)) b x (ne_eqb x (suc n) (λ e. omega arith))

pub back_n : (n a b x : ℕ) → x ≡ n → back n a b x ≡ a
unfolding back
back_n n a b x e = cond-true (eqb x n) a (cond (eqb x (suc n)) b x) (eq-eqb x n e)

pub back_m : (n a b x : ℕ) → x ≡ suc n → back n a b x ≡ b
unfolding back
back_m n a b x e = cond-false (eqb x n) a (cond (eqb x (suc n)) b x) (ne_eqb x n (λ k. omega arith)) ∙ cond-true (eqb x (suc n)) b x (eq-eqb x (suc n) e)
