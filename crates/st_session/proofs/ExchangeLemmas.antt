-- The ends of two edges exchanged, those of e and those of the last of m + 1: proved again, since st_map doesn't hand it on.
use Rattle.std.proofs.Common.{◌≡◌, ◌≢◌, ℕ, suc, ◌+◌, ◌*◌, ◌<◌, true, false, cond, eqb, inl, inr, refl, sym, ap, ◌∙◌, arith}
use Rattle.std.proofs.lemmas.Bool.{cases_eq, eq-eqb, ne_eqb, cond-true, cond-false}
use Rattle.st_ids.specs.Ends.{twin, edge_of, is_out}
use Rattle.st_map.specs.Remove.{old_edge, exchanged}
use Rattle.st_map.proofs.Public.{edge_of-head, edge_of-tail, even_or_odd, is_out-head, is_out-tail, twin-head, twin-tail}

module _ (top e : ℕ) where
  unfoldable pub X : ℕ → ℕ
  X d = exchanged top e d

  unfoldable pub ex : ℕ → ℕ
  ex k = cond (eqb k e) (top) (cond (eqb k (top)) e k)

  pub ex_e : ex e ≡ top
  unfolding ex
  ex_e = cond-true (eqb e e) (top) (cond (eqb e (top)) e e) (eq-eqb e e refl)

  pub ex_last : ex (top) ≡ e
  unfolding ex
  ex_last = elim (cases_eq (top) e) [
    | inl q ↦ cond-true (eqb (top) e) (top) (cond (eqb (top) (top)) e (top)) (eq-eqb (top) e q) ∙ q
    | inr n ↦ cond-false (eqb (top) e) (top) (cond (eqb (top) (top)) e (top)) (ne_eqb (top) e n) ∙ cond-true (eqb (top) (top)) e (top) (eq-eqb (top) (top) refl)
  ]

  pub ex_other : (k : ℕ) → k ≢ e → k ≢ top → ex k ≡ k
  unfolding ex
  ex_other k n m = cond-false (eqb k e) (top) (cond (eqb k (top)) e k) (ne_eqb k e n) ∙ cond-false (eqb k (top)) e k (ne_eqb k (top) m)

  pub ex_ex : (k : ℕ) → ex (ex k) ≡ k
  ex_ex k = elim (cases_eq k e) [
    | inl q ↦ ap (λ z. ex (ex z)) q ∙ ap ex ex_e ∙ ex_last ∙ sym q
    | inr n ↦ elim (cases_eq k (top)) [
      | inl q ↦ ap (λ z. ex (ex z)) q ∙ ap ex ex_last ∙ ex_e ∙ sym q
      | inr m ↦ ap ex (ex_other k n m) ∙ ex_other k n m
    ]
  ]

  pub ex_in : e < suc (top) → (k : ℕ) → k < suc (top) → ex k < suc (top)
  ex_in e_in k l = elim (cases_eq k e) [
    | inl q ↦ (let z : ex k ≡ top = ap ex q ∙ ex_e in omega arith)
    | inr n ↦ elim (cases_eq k (top)) [
      | inl q ↦ (let z : ex k ≡ e = ap ex q ∙ ex_last in let i : e < suc (top) = e_in in omega arith)
      | inr m ↦ (let z : ex k ≡ k = ex_other k n m in omega arith)
    ]
  ]

  -- the edges of h are those of g but e
  pub ex_not : (k : ℕ) → k < top → ex k ≢ e
  ex_not k l q = (let z : k ≡ top = sym (ex_ex k) ∙ ap ex q ∙ ex_e in omega arith)

  pub ex_below : e < suc (top) → (k : ℕ) → k < suc (top) → k ≢ e → ex k < top
  ex_below e_in k l n = elim (cases_eq k (top)) [
    | inl q ↦ (let z : ex k ≡ e = ap ex q ∙ ex_last in let i : e < suc (top) = e_in in let d : e ≢ top = λ w. n (q ∙ sym w) in omega arith)
    | inr m ↦ (let z : ex k ≡ k = ex_other k n m in omega arith)
  ]

  pub old_is : (k : ℕ) → k < top → old_edge top e k ≡ ex k
  unfolding ex
  old_is k l = elim (cases_eq k e) [
    | inl q ↦ cond-true (eqb k e) (top) k (eq-eqb k e q) ∙ sym (cond-true (eqb k e) (top) (cond (eqb k (top)) e k) (eq-eqb k e q))
    | inr n ↦ cond-false (eqb k e) (top) k (ne_eqb k e n) ∙ sym (cond-false (eqb k e) (top) (cond (eqb k (top)) e k) (ne_eqb k e n) ∙ cond-false (eqb k (top)) e k (ne_eqb k (top) (λ z. omega arith)))
  ]

  -- ---- ends
  pub X_tail : (k : ℕ) → X (2 * k) ≡ 2 * ex k
  unfolding X ex
  X_tail k =
      let a : edge_of (2 * k) ≡ k = edge_of-tail k in
      let o : is_out (2 * k) ≡ true = is_out-tail k in
      ap (λ z. cond (eqb z e) (cond (is_out (2 * k)) (2 * top) (suc (2 * top))) (cond (eqb z (top)) (cond (is_out (2 * k)) (2 * e) (2 * e + 1)) (2 * k))) a
      ∙ ap (λ b. cond (eqb k e) (cond b (2 * top) (suc (2 * top))) (cond (eqb k (top)) (cond b (2 * e) (2 * e + 1)) (2 * k))) o
      ∙ elim (cases_eq k e) [
        | inl q ↦ cond-true (eqb k e) (2 * top) (cond (eqb k (top)) (2 * e) (2 * k)) (eq-eqb k e q) ∙ ap (λ z. 2 * z) (sym (cond-true (eqb k e) (top) (cond (eqb k (top)) e k) (eq-eqb k e q)))
        | inr n ↦ cond-false (eqb k e) (2 * top) (cond (eqb k (top)) (2 * e) (2 * k)) (ne_eqb k e n) ∙ elim (cases_eq k (top)) [
          | inl q ↦ cond-true (eqb k (top)) (2 * e) (2 * k) (eq-eqb k (top) q) ∙ ap (λ z. 2 * z) (sym (cond-false (eqb k e) (top) (cond (eqb k (top)) e k) (ne_eqb k e n) ∙ cond-true (eqb k (top)) e k (eq-eqb k (top) q)))
          | inr m ↦ cond-false (eqb k (top)) (2 * e) (2 * k) (ne_eqb k (top) m) ∙ ap (λ z. 2 * z) (sym (cond-false (eqb k e) (top) (cond (eqb k (top)) e k) (ne_eqb k e n) ∙ cond-false (eqb k (top)) e k (ne_eqb k (top) m)))
        ]
      ]

  pub X_head : (k : ℕ) → X (2 * k + 1) ≡ 2 * ex k + 1
  unfolding X ex
  X_head k =
      let a : edge_of (2 * k + 1) ≡ k = edge_of-head k in
      let o : is_out (2 * k + 1) ≡ false = is_out-head k in
      let s1 : suc (2 * top) ≡ 2 * top + 1 = omega arith in
      ap (λ z. cond (eqb z e) (cond (is_out (2 * k + 1)) (2 * top) (suc (2 * top))) (cond (eqb z (top)) (cond (is_out (2 * k + 1)) (2 * e) (2 * e + 1)) (2 * k + 1))) a
      ∙ ap (λ b. cond (eqb k e) (cond b (2 * top) (suc (2 * top))) (cond (eqb k (top)) (cond b (2 * e) (2 * e + 1)) (2 * k + 1))) o
      ∙ elim (cases_eq k e) [
        | inl q ↦ cond-true (eqb k e) (suc (2 * top)) (cond (eqb k (top)) (2 * e + 1) (2 * k + 1)) (eq-eqb k e q) ∙ s1 ∙ ap (λ z. 2 * z + 1) (sym (cond-true (eqb k e) (top) (cond (eqb k (top)) e k) (eq-eqb k e q)))
        | inr n ↦ cond-false (eqb k e) (suc (2 * top)) (cond (eqb k (top)) (2 * e + 1) (2 * k + 1)) (ne_eqb k e n) ∙ elim (cases_eq k (top)) [
          | inl q ↦ cond-true (eqb k (top)) (2 * e + 1) (2 * k + 1) (eq-eqb k (top) q) ∙ ap (λ z. 2 * z + 1) (sym (cond-false (eqb k e) (top) (cond (eqb k (top)) e k) (ne_eqb k e n) ∙ cond-true (eqb k (top)) e k (eq-eqb k (top) q)))
          | inr m ↦ cond-false (eqb k (top)) (2 * e + 1) (2 * k + 1) (ne_eqb k (top) m) ∙ ap (λ z. 2 * z + 1) (sym (cond-false (eqb k e) (top) (cond (eqb k (top)) e k) (ne_eqb k e n) ∙ cond-false (eqb k (top)) e k (ne_eqb k (top) m)))
        ]
      ]

  pub X_X : (d : ℕ) → X (X d) ≡ d
  X_X d = elim (even_or_odd d) [
    | inl r ↦ ap (λ z. X (X z)) r.1 ∙ ap X (X_tail r.0) ∙ X_tail (ex r.0) ∙ ap (λ z. 2 * z) (ex_ex r.0) ∙ sym r.1
    | inr r ↦ ap (λ z. X (X z)) r.1 ∙ ap X (X_head r.0) ∙ X_head (ex r.0) ∙ ap (λ z. 2 * z + 1) (ex_ex r.0) ∙ sym r.1
  ]

  pub X_twin : (d : ℕ) → twin (X d) ≡ X (twin d)
  X_twin d = elim (even_or_odd d) [
    | inl r ↦ ap (λ z. twin (X z)) r.1 ∙ ap twin (X_tail r.0) ∙ twin-tail (ex r.0) ∙ sym (X_head r.0) ∙ ap X (sym (ap twin r.1 ∙ twin-tail r.0))
    | inr r ↦ ap (λ z. twin (X z)) r.1 ∙ ap twin (X_head r.0) ∙ twin-head (ex r.0) ∙ sym (X_tail r.0) ∙ ap X (sym (ap twin r.1 ∙ twin-head r.0))
  ]

  pub X_edge : (d : ℕ) → edge_of (X d) ≡ ex (edge_of d)
  X_edge d = elim (even_or_odd d) [
    | inl r ↦ ap (λ z. edge_of (X z)) r.1 ∙ ap edge_of (X_tail r.0) ∙ edge_of-tail (ex r.0) ∙ ap ex (sym (ap edge_of r.1 ∙ edge_of-tail r.0))
    | inr r ↦ ap (λ z. edge_of (X z)) r.1 ∙ ap edge_of (X_head r.0) ∙ edge_of-head (ex r.0) ∙ ap ex (sym (ap edge_of r.1 ∙ edge_of-head r.0))
  ]

  pub X_in : e < suc (top) → (d : ℕ) → d < suc (suc (2 * top)) → X d < suc (suc (2 * top))
  X_in e_in d l = elim (even_or_odd d) [
    | inl r ↦
        let z : d ≡ 2 * r.0 = r.1 in
        let k : ex r.0 < suc (top) = ex_in e_in r.0 (omega arith) in
        let w : X d ≡ 2 * ex r.0 = ap X r.1 ∙ X_tail r.0 in
        omega arith
    | inr r ↦
        let z : d ≡ 2 * r.0 + 1 = r.1 in
        let k : ex r.0 < suc (top) = ex_in e_in r.0 (omega arith) in
        let w : X d ≡ 2 * ex r.0 + 1 = ap X r.1 ∙ X_head r.0 in
        omega arith
  ]

  -- an end of another edge
  pub X_below : e < suc (top) → (d : ℕ) → d < suc (suc (2 * top)) → edge_of d ≢ e → X d < (2 * top)
  X_below e_in d l n = elim (even_or_odd d) [
    | inl r ↦
        let z : d ≡ 2 * r.0 = r.1 in
        let k : ex r.0 < top = ex_below e_in r.0 (omega arith) (λ q. n (ap edge_of r.1 ∙ edge_of-tail r.0 ∙ q)) in
        let w : X d ≡ 2 * ex r.0 = ap X r.1 ∙ X_tail r.0 in
        omega arith
    | inr r ↦
        let z : d ≡ 2 * r.0 + 1 = r.1 in
        let k : ex r.0 < top = ex_below e_in r.0 (omega arith) (λ q. n (ap edge_of r.1 ∙ edge_of-head r.0 ∙ q)) in
        let w : X d ≡ 2 * ex r.0 + 1 = ap X r.1 ∙ X_head r.0 in
        omega arith
  ]

  pub X_e : X (2 * e) ≡ (2 * top)
  X_e = X_tail e ∙ ap (λ z. 2 * z) ex_e

  pub X_e' : X (2 * e + 1) ≡ suc (2 * top)
  X_e' = X_head e ∙ ap (λ z. 2 * z + 1) ex_e ∙ (let z : 2 * top + 1 ≡ suc (2 * top) = omega arith in z)

  pub X_n : X (2 * top) ≡ 2 * e
  X_n = ap X (sym X_e) ∙ X_X (2 * e)

  pub X_m : X (suc (2 * top)) ≡ 2 * e + 1
  X_m = ap X (sym X_e') ∙ X_X (2 * e + 1)
