-- How many orbits two permutations have, compared.
use Rattle.std.proofs.Common.{◌≡◌, ◌≢◌, ℕ, suc, ◌+◌, ◌<◌, ◌≤◌, Bool, true, false, not, cond, eqb, ◌&&◌, ◌⊎◌, inl, inr, refl, sym, ap, ◌∙◌, subst, arith}
use Rattle.std.proofs.lemmas.Bool.{eqb-true, eq-eqb, ne_eqb, cases_eq, cases_lt, and_from, cond-true, cond-false}
use Rattle.st_map.specs.Counting.{total, bit, count_below}
use Rattle.st_map.specs.Orbits.{Permutes, SameOrbit, least_within}
use Rattle.st_map.proofs.Public.{cover, least-at, once, orbit-sym, orbit-trans, root-below, root-root, root-same, same-from_root, total-add, total-same}
use Rattle.st_session.proofs.RootLemmas.{is_root, roots, Projects, orbit_down}

without : (b c : Bool) → (c ≡ true → b ≡ true) → bit (b && not c) + bit c ≡ bit b
without true true h = refl
without true false h = refl
without false true h = let e : false ≡ true = h refl in cc
without false false h = refl

module _ (n m : ℕ) (f h : ℕ → ℕ) (pf : Permutes n f) (ph : Permutes m h) where
  module _ (q : ℕ → ℕ) (P : Projects n m f h q) where
    root_of : (x y : ℕ) → x < m → y < n → is_root n f y ≡ true → SameOrbit f (q x) y → least_within n f (q x) ≡ y
    root_of x y l k r s = root-same n f pf (q x) y (P.into x l) s ∙ eqb-true (least_within n f y) y r

    -- two orbits of h that come to one of f
    pub fewer_by_one : (a b : ℕ) → a < m → b < m → SameOrbit f (q a) (q b) → (SameOrbit h a b → ⊥) → roots n f + 1 ≤ roots m h
    fewer_by_one a b la lb same apart =
        let rb : ℕ = least_within m h b in
        let ra : ℕ = least_within m h a in
        let lrb : rb < m = root-below m h ph b lb in
        let lra : ra < m = root-below m h ph a la in
        let p : ℕ → Bool = λ x. is_root m h x && not (eqb rb x) in
        let c : roots n f ≤ count_below m p = cover n m p (λ x. least_within n f (q x)) (is_root n f) (λ x l. root-below n f pf (q x) (P.into x l)) (λ y l r.
        let o : (x : ℕ) × (x < m) × SameOrbit f (q x) y = P.onto y l in
        let z : ℕ = least_within m h o.0 in
        let lz : z < m = root-below m h ph o.0 o.1 in
        let down : SameOrbit f (q o.0) (q z) = orbit_down n m f h pf ph q P o.0 z o.1 (least-at m h ph m o.0) in
        let zy : SameOrbit f (q z) y = orbit-trans f (q z) (q o.0) y (orbit-sym n f pf (q o.0) (q z) (P.into o.0 o.1) down) o.2 in
        elim (cases_eq rb z) [
          | inr d ↦ (z, lz, and_from (is_root m h z) (not (eqb rb z)) (eq-eqb (least_within m h z) z (root-root m h ph o.0 o.1)) (ap not (ne_eqb rb z d)), root_of z y lz l r zy)
          | inl e ↦
              let d : rb ≢ ra = λ e. apart (same-from_root m h ph a b la lb (sym e)) in
              let a1 : SameOrbit f (q ra) (q a) = orbit-sym n f pf (q a) (q ra) (P.into a la) (orbit_down n m f h pf ph q P a ra la (least-at m h ph m a)) in
              let a2 : SameOrbit f (q b) (q rb) = orbit_down n m f h pf ph q P b rb lb (least-at m h ph m b) in
              let a3 : SameOrbit f (q rb) y = subst (λ w. SameOrbit f (q w) y) (sym e) zy in (
                ra,
                lra,
                and_from (is_root m h ra) (not (eqb rb ra)) (eq-eqb (least_within m h ra) ra (root-root m h ph a la)) (ap not (ne_eqb rb ra d)),
                root_of ra y lra l r (orbit-trans f (q ra) (q a) y a1 (orbit-trans f (q a) (q b) y same (orbit-trans f (q b) (q rb) y a2 a3))),
              )
        ]) in
        let t : total m (λ x. bit (p x) + bit (eqb rb x)) ≡ count_below m p + total m (λ x. bit (eqb rb x)) = total-add m (λ x. bit (p x)) (λ x. bit (eqb rb x)) in
        let u : total m (λ x. bit (p x) + bit (eqb rb x)) ≡ roots m h = total-same m (λ x. bit (p x) + bit (eqb rb x)) (λ x. bit (is_root m h x)) (λ x l. without (is_root m h x) (eqb rb x) (λ e.
        let e' : rb ≡ x = eqb-true rb x e in
        eq-eqb (least_within m h x) x (ap (least_within m h) (sym e') ∙ root-root m h ph b lb ∙ e'))) in
        let o : total m (λ x. bit (eqb rb x)) ≡ 1 = once m rb lrb in
        omega arith

  -- each orbit of h has a marked number: one for each orbit of f, and one more
  pub at_most_one_more : (mark : ℕ → ℕ) (c : ℕ) → c < m → ((y : ℕ) → y < n → mark y < m)
      → ((x : ℕ) → x < m → ((y : ℕ) × (y < n) × (is_root n f y ≡ true) × SameOrbit h (mark y) x) ⊎ SameOrbit h c x) → roots m h ≤ roots n f + 1
  at_most_one_more mark c lc into each =
      let p : ℕ → Bool = λ y. cond (eqb y n) true (is_root n f y) in
      let to : ℕ → ℕ = λ y. cond (eqb y n) c (mark y) in
      let to_n : to n ≡ c = cond-true (eqb n n) c (mark n) (eq-eqb n n refl) in
      let to_y : (y : ℕ) → y < n → to y ≡ mark y = λ y l. cond-false (eqb y n) c (mark y) (ne_eqb y n (λ e. omega arith)) in
      let to_in : (y : ℕ) → y < suc n → to y < m = λ y l. elim (cases_lt y n) [
        | inl k ↦ (let e : to y ≡ mark y = to_y y k in let i : mark y < m = into y k in omega arith)
        | inr k ↦ (let q : y ≡ n = omega arith in let e : to y ≡ to n = ap to q in omega arith)
      ] in
      let c1 : roots m h ≤ count_below (suc n) p = cover m (suc n) p (λ y. least_within m h (to y)) (is_root m h) (λ y l. root-below m h ph (to y) (to_in y l)) (λ x l r. elim (each x l) [
        | inl o ↦
            let k : o.0 < n = o.1 in
            let e : to o.0 ≡ mark o.0 = to_y o.0 k in (
              o.0,
              omega arith,
              cond-false (eqb o.0 n) true (is_root n f o.0) (ne_eqb o.0 n (λ e. omega arith)) ∙ o.2,
              ap (least_within m h) e ∙ root-same m h ph (mark o.0) x (into o.0 k) o.3 ∙ eqb-true (least_within m h x) x r,
            )
        | inr s ↦ (n, omega arith, cond-true (eqb n n) true (is_root n f n) (eq-eqb n n refl), ap (least_within m h) to_n ∙ root-same m h ph c x lc s ∙ eqb-true (least_within m h x) x r)
      ]) in
      let b : bit (p n) ≡ 1 = ap bit (cond-true (eqb n n) true (is_root n f n) (eq-eqb n n refl)) in
      let r : count_below n p ≡ roots n f = total-same n (λ y. bit (p y)) (λ y. bit (is_root n f y)) (λ y l. ap bit (cond-false (eqb y n) true (is_root n f y) (ne_eqb y n (λ e. omega arith)))) in
      omega arith
