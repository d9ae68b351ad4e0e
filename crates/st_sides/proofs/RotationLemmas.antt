-- Two lists of the same numbers with the same next in a circle: one is the other, read on from one of its places.
use Rattle.std.proofs.Common.{◌≡◌, ◌≢◌, ℕ, zero, suc, ◌+◌, ◌-◌, ◌<◌, ◌≤◌, inl, inr, List, [], ◌∷◌, ◌++◌, take, drop, length, get_or, refl, sym, ap, ◌∙◌, arith, length-append}
use Rattle.std.proofs.lemmas.List.{ext_get_or, get_or_append_left, get_or-append-add, get_or-drop, get_or-take, length-drop, length-take-le}
use Rattle.std.proofs.lemmas.Bool.{cases_lt}
use Rattle.st_map.proofs.Public.{pigeonhole}
use Rattle.st_sides.specs.Rotation.{IsCyclicShift}

-- f leads from each number of the list to the next, and from the last to the first
pub record IsCircle (f : ℕ → ℕ) (xs : List ℕ) : Type 0 where
  pub next : (i : ℕ) → suc i < length xs → f (get_or xs i 0) ≡ get_or xs (suc i) 0
  pub around : (i : ℕ) → suc i ≡ length xs → f (get_or xs i 0) ≡ get_or xs 0 0

-- the list has the numbers with P, each once
pub record HasOnce (P : ℕ → Type 0) (xs : List ℕ) : Type 0 where
  pub own : (i : ℕ) → i < length xs → P (get_or xs i 0)
  pub listed : (d : ℕ) → P d → (i : ℕ) × (i < length xs) × (get_or xs i 0 ≡ d)
  pub once : (i j : ℕ) → i < j → j < length xs → get_or xs i 0 ≢ get_or xs j 0

-- the place in ys of what stands at i in xs
spot : {P : ℕ → Type 0} (xs ys : List ℕ) → HasOnce P xs → HasOnce P ys → (i : ℕ) → (j : ℕ) × (i < length xs → (j < length ys) × (get_or ys j 0 ≡ get_or xs i 0))
spot xs ys h k i = elim (cases_lt i (length xs)) [
  | inl l ↦ let q = k.listed (get_or xs i 0) (h.own i l) in (q.0, λ m. (q.1, q.2))
  | inr l ↦ (0, λ m. absurd (omega arith))
]

no_longer : {P : ℕ → Type 0} (xs ys : List ℕ) → HasOnce P xs → HasOnce P ys → length xs ≤ length ys
no_longer xs ys h k = elim (cases_lt (length ys) (length xs)) [
  | inl l ↦
      let q = pigeonhole (length xs) (length ys) (λ i. (spot xs ys h k i).0) l (λ i m. ((spot xs ys h k i).1 m).0) in
      let before : q.0 < length xs = omega (arith, q.2, q.3) in
      absurd (h.once q.0 q.1 q.2 q.3 (sym ((spot xs ys h k q.0).1 before).1 ∙ ap (λ z. get_or ys z 0) q.4 ∙ ((spot xs ys h k q.1).1 q.3).1))
  | inr l ↦ l
]

module _ (f : ℕ → ℕ) (xs ys : List ℕ) (cx : IsCircle f xs) (cy : IsCircle f ys) (size : length ys ≡ length xs) (k : ℕ) (within : k < length xs) (first : get_or xs k 0 ≡ get_or ys 0 0) where
  turned : List ℕ
  turned = drop k xs ++ take k xs

  -- the places behind k come first
  behind : (i : ℕ) → k + i < length xs → get_or turned i 0 ≡ get_or xs (k + i) 0
  unfolding turned
  behind i l = get_or_append_left (drop k xs) (take k xs) 0 i (omega (arith, length-drop k xs)) ∙ get_or-drop k xs i 0

  before : (j : ℕ) → j < k → get_or turned (length xs - k + j) 0 ≡ get_or xs j 0
  unfolding turned
  before j l =
      ap (λ z. get_or (drop k xs ++ take k xs) (z + j) 0) (sym (length-drop k xs))
      ∙ get_or-append-add (drop k xs) (take k xs) j 0 ∙ get_or-take k xs j 0 l

  same_at : (i : ℕ) → i < length ys → get_or ys i 0 ≡ get_or turned i 0
  same_at zero l = sym first ∙ ap (λ z. get_or xs z 0) (let e : k ≡ k + 0 = omega arith in e) ∙ sym (behind 0 (omega arith))
  same_at (suc i) l =
      let step : get_or ys (suc i) 0 ≡ f (get_or turned i 0) = sym (cy.next i l) ∙ ap f (same_at i (omega arith)) in
      elim (cases_lt (k + suc i) (length xs)) [
        | inl m ↦
            let e : suc (k + i) ≡ k + suc i = omega arith in
            step ∙ ap f (behind i (omega arith)) ∙ cx.next (k + i) (omega arith) ∙ ap (λ z. get_or xs z 0) e ∙ sym (behind (suc i) m)
        | inr m ↦ elim (cases_lt (k + i) (length xs)) [
          | inl o ↦
              let e : suc i ≡ length xs - k + 0 = omega arith in
              step ∙ ap f (behind i o) ∙ cx.around (k + i) (omega arith) ∙ sym (before 0 (omega arith)) ∙ ap (λ z. get_or turned z 0) (sym e)
          | inr o ↦
              let j : ℕ = i - (length xs - k) in
              let here : i ≡ length xs - k + j = omega arith in
              let there : suc i ≡ length xs - k + suc j = omega arith in
              step ∙ ap (λ z. f (get_or turned z 0)) here ∙ ap f (before j (omega arith)) ∙ cx.next j (omega arith) ∙ sym (before (suc j) (omega arith))
              ∙ ap (λ z. get_or turned z 0) (sym there)
        ]
      ]

  sized : length ys ≡ length turned
  unfolding turned
  sized = omega (arith, length-append (drop k xs) (take k xs), length-drop k xs, length-take-le k xs (omega arith))

  pub rotated : IsCyclicShift xs ys
  unfolding turned
  rotated = record { from = k; is = ext_get_or 0 ys turned sized (λ i l. same_at i l) }

-- the rule, for two lists of the same numbers
pub rotation : {P : ℕ → Type 0} (f : ℕ → ℕ) (xs ys : List ℕ) → HasOnce P xs → HasOnce P ys → IsCircle f xs → IsCircle f ys → IsCyclicShift xs ys
rotation {P} f xs ys h k cx cy = elim (cases_lt 0 (length ys)) [
  | inl l ↦
      let q = h.listed (get_or ys 0 0) (k.own 0 l) in
      let same : length ys ≡ length xs = omega (arith, no_longer xs ys h k, no_longer ys xs k h) in
      rotated f xs ys cx cy same q.0 q.1 q.2
  | inr l ↦
      let none : length ys ≡ 0 = omega arith in
      let none' : length xs ≡ 0 = omega (arith, no_longer xs ys h k) in
      record { from = 0; is = nil ys none ∙ sym (nil (drop 0 xs ++ take 0 xs) (omega (arith, length-append (drop 0 xs) (take 0 xs), length-drop 0 xs, length-take-le 0 xs (omega arith)))) }
]
  where
    nil : (zs : List ℕ) → length zs ≡ 0 → zs ≡ []
    nil [] n = refl
    nil (z ∷ zs) n = absurd (omega arith)
