-- Compact points are different, and one is at most another where both numbers are.
use Rattle.std.proofs.Common.{ℕ, zero, suc, ◌≡◌, ◌≢◌, ◌<◌, ◌≤◌, ◌+◌, inl, inr, sym, ap, ◌∙◌, subst, arith}
use Rattle.std.proofs.lemmas.Bool.{cases_eq, cases_lt}
use Rattle.std.proofs.lemmas.Bool.Decides.{nat_tests}
use Rattle.st_order.specs.Numbers.{AreNumberings}
use Rattle.draw_dom.specs.Compact.{growth, steps, CompactLaw}

-- a step that doesn't grow climbs by two at least
grown : (a b : ℕ) → a ≢ b → growth a b ≤ 0 → a + 2 ≤ b
grown a b d h = grind (arith, nat_tests)

module _ (a : ℕ → ℕ) where
  steps_mono : (k i : ℕ) → i ≤ k → steps a i ≤ steps a k
  steps_mono zero i l = let q : i ≡ 0 = omega arith in let p = ap (steps a) q in omega arith
  steps_mono (suc m) i l = elim (cases_eq i (suc m)) [
    | inl q ↦ (let p : steps a i ≡ steps a (suc m) = ap (steps a) q in omega arith)
    | inr d ↦ (let h : steps a i ≤ steps a m = steps_mono m i (omega arith) in omega arith)
  ]

-- a and b are numberings of the numbers below n, each the other's inverse
pub record AreInverse (n : ℕ) (a b : ℕ → ℕ) : Type 0 where
  pub into : (i : ℕ) → i < n → a i < n
  pub back : (i : ℕ) → i < n → b (a i) ≡ i

module _ (n : ℕ) (a b : ℕ → ℕ) (A : AreInverse n a b) where
  injective : (i k : ℕ) → i < n → k < n → a i ≡ a k → i ≡ k
  injective i k l m q = sym (A.back i l) ∙ ap b q ∙ A.back k m

  flat : (k i : ℕ) → i < k → k < n → steps a k ≤ steps a i → a i + 2 ≤ a k
  flat zero i l m h = absurd (omega arith)
  flat (suc m) i l n' h = elim (cases_eq i m) [
    | inl q ↦
        let p : steps a i ≡ steps a m = ap (steps a) q in
        let r : a i ≡ a m = ap a q in
        let s : a m + 2 ≤ a (suc m) = grown (a m) (a (suc m)) last (omega arith) in
        omega arith
    | inr d ↦
        let p : steps a i ≤ steps a m = steps_mono a m i (omega arith) in
        let s : a m + 2 ≤ a (suc m) = grown (a m) (a (suc m)) last (omega arith) in
        let t : a i + 2 ≤ a m = flat m i (omega arith) (omega arith) (omega arith) in
        omega arith
  ]
    where
      last : a m ≢ a (suc m)
      last q = let p : m ≡ suc m = injective m (suc m) (omega arith) n' q in absurd (omega arith)

  -- the steps grow where the other number falls
  fall : (i k : ℕ) → i < k → k < n → a k < a i → steps a i < steps a k
  fall i k l m h = elim (cases_lt (steps a i) (steps a k)) [
    | inl p ↦ p
    | inr p ↦ (let q : a i + 2 ≤ a k = flat k i l m p in absurd (omega arith))
  ]

module _ (n : ℕ) (a b : ℕ → ℕ) (A : AreInverse n a b) (B : AreInverse n b a) where
  -- where both numbers grow, the steps of one of them do
  both : (i k : ℕ) → i < k → k < n → a i < a k → steps a k ≤ steps a i → steps b (a k) ≤ steps b (a i) → ⊥
  both i k l m h p q = go (suc (a i)) (omega arith)
    where
      go : (z : ℕ) → z ≡ suc (a i) → ⊥
      go z e =
          let ak : a k < n = A.into k m in
          let bi : b (a i) ≡ i = A.back i (omega arith) in
          let bk : b (a k) ≡ k = A.back k m in
          let az : a (b z) ≡ z = B.back z (omega arith) in
          let s1 : steps b z ≤ steps b (a k) = steps_mono b (a k) z (omega arith) in
          let f1 : b (a i) + 2 ≤ b z = flat n b a B z (a i) (omega arith) (omega arith) (omega arith) in
          let s2 : steps b (a i) ≤ steps b z = steps_mono b z (a i) (omega arith) in
          let bz : b z ≤ k = elim (cases_eq z (a k)) [
            | inl r ↦ (let t : b z ≡ b (a k) = ap b r in omega arith)
            | inr d ↦ (let f2 : b z + 2 ≤ b (a k) = flat n b a B (a k) z (omega arith) ak (omega arith) in omega arith)
          ] in
          let s3 : steps a (b z) ≤ steps a k = steps_mono a k (b z) bz in
          let s4 : steps a i ≤ steps a (suc i) = steps_mono a (suc i) i (omega arith) in
          let s5 : steps a (suc i) ≤ steps a (b z) = steps_mono a (b z) (suc i) (omega arith) in
          let f3 : a (suc i) + 2 ≤ a (b z) = flat n a b A (b z) (suc i) (omega arith) (omega arith) (omega arith) in
          let f4 : a i + 2 ≤ a (suc i) = flat n a b A (suc i) i (omega arith) (omega arith) (omega arith) in
          omega arith

module _ (n : ℕ) (X Y at_x at_y : ℕ → ℕ) (N : AreNumberings n X Y at_x at_y) where
  abbrev a : ℕ → ℕ
  a i = Y (at_x i)

  abbrev b : ℕ → ℕ
  b j = X (at_y j)

  A : AreInverse n a b
  A = record {
    into = λ i l. N.y_in (at_x i) (N.at_x_in i l);
    back = λ i l. ap X (N.at_y_of (at_x i) (N.at_x_in i l)) ∙ N.x_of_at i l;
  }

  B : AreInverse n b a
  B = record {
    into = λ j l. N.x_in (at_y j) (N.at_y_in j l);
    back = λ j l. ap Y (N.at_x_of (at_y j) (N.at_y_in j l)) ∙ N.y_of_at j l;
  }

  a_of : (v : ℕ) → v < n → a (X v) ≡ Y v
  a_of v l = ap Y (N.at_x_of v l)

  b_of : (v : ℕ) → v < n → b (Y v) ≡ X v
  b_of v l = ap X (N.at_y_of v l)

  same_x : (u v : ℕ) → u < n → v < n → X u ≡ X v → u ≡ v
  same_x u v i j q = sym (N.at_x_of u i) ∙ ap at_x q ∙ N.at_x_of v j

  same_y : (u v : ℕ) → u < n → v < n → Y u ≡ Y v → u ≡ v
  same_y u v i j q = sym (N.at_y_of u i) ∙ ap at_y q ∙ N.at_y_of v j

  -- with the smaller X and the greater Y
  aside : (u v : ℕ) → u < n → v < n → X u < X v → Y v < Y u → (steps a (X u) < steps a (X v)) × (steps b (Y v) < steps b (Y u))
  aside u v i j l m =
      let p = a_of u i in
      let q = a_of v j in
      let r = b_of u i in
      let s = b_of v j in
      (fall n a b A (X u) (X v) l (N.x_in v j) (omega arith), fall n b a B (Y v) (Y u) m (N.y_in u i) (omega arith))

  -- with the smaller X and Y
  under : (u v : ℕ) → u < n → v < n → X u < X v → Y u < Y v → steps a (X v) ≤ steps a (X u) → steps b (Y v) ≤ steps b (Y u) → ⊥
  under u v i j l m h k =
      let p = a_of u i in
      let q = a_of v j in
      both n a b A B (X u) (X v) l (N.x_in v j) (omega arith) h (subst (λ z. steps b z ≤ steps b (a (X u))) (sym q) (subst (λ z. steps b (Y v) ≤ steps b z) (sym p) k))

  -- neither number is smaller, if the points say so
  no_less_x : (u v : ℕ) → u < n → v < n → u ≢ v → steps a (X u) ≤ steps a (X v) → steps b (Y u) ≤ steps b (Y v) → X u < X v
  no_less_x u v i j d h k = elim (cases_lt (X u) (X v)) [
    | inl l ↦ l
    | inr l ↦ elim (cases_eq (X u) (X v)) [
      | inl q ↦ absurd (d (same_x u v i j q))
      | inr x ↦ elim (cases_lt (Y u) (Y v)) [
        | inl m ↦ (let t : steps a (X v) < steps a (X u) = (aside v u j i (omega arith) m).0 in absurd (omega arith))
        | inr m ↦ elim (cases_eq (Y u) (Y v)) [
          | inl q ↦ absurd (d (same_y u v i j q))
          | inr y ↦ absurd (under v u j i (omega arith) (omega arith) h k)
        ]
      ]
    ]
  ]

  back : (u v : ℕ) → u < n → v < n → steps a (X u) ≤ steps a (X v) → steps b (Y u) ≤ steps b (Y v) → (X u ≤ X v) × (Y u ≤ Y v)
  back u v i j h k = elim (cases_eq u v) [
    | inl q ↦ (let p = ap X q in let r = ap Y q in (omega arith, omega arith))
    | inr d ↦
        let l : X u < X v = no_less_x u v i j d h k in (
          omega arith,
          elim (cases_lt (Y v) (Y u)) [
            | inl m ↦ (let t : steps b (Y v) < steps b (Y u) = (aside u v i j l m).1 in absurd (omega arith))
            | inr m ↦ m
          ],
        )
  ]

  pub compact_law : CompactLaw n X Y at_x at_y
  compact_law = record {
    different = λ u v i j d p q.
        let l : X u < X v = no_less_x u v i j d (omega arith) (omega arith) in
        let m : X v < X u = no_less_x v u j i (λ e. d (sym e)) (omega arith) (omega arith) in
        absurd (omega arith);
    x_grows = λ u v i j h. steps_mono a (X v) (X u) h;
    y_grows = λ u v i j h. steps_mono b (Y v) (Y u) h;
    back = back;
  }
