-- What an edge more does to the list of ends.
use Rattle.std.proofs.Common.{◌≡◌, ℕ, ◌<◌, List, [], ◌∷◌, ◌++◌, length, get_or, inl, inr, ap, arith}
use Rattle.std.proofs.lemmas.List.{get_or_append_left, get_or_push, length_push}
use Rattle.std.proofs.lemmas.Bool.{cases_lt}
use Rattle.st_ids.specs.Graph.{tail_of, head_of, AreWithin}

-- an edge between two of n vertices, behind edges between such
pub within_push : (n : ℕ) (ends : List (ℕ × ℕ)) (t h : ℕ) → AreWithin n ends → t < n → h < n → AreWithin n (ends ++ (t, h) ∷ [])
unfolding tail_of head_of
within_push n ends t h within lt lh e l = elim (cases_lt e (length ends)) [
  | inl a ↦
      let q : get_or (ends ++ (t, h) ∷ []) e (0, 0) ≡ get_or ends e (0, 0) = get_or_append_left ends ((t, h) ∷ []) (0, 0) e a in
      let x : tail_of (ends ++ (t, h) ∷ []) e ≡ tail_of ends e = ap (λ (z : ℕ × ℕ). z.0) q in
      let y : head_of (ends ++ (t, h) ∷ []) e ≡ head_of ends e = ap (λ (z : ℕ × ℕ). z.1) q in
      (omega (arith, (within e a).0), omega (arith, (within e a).1))
  | inr b ↦
      let q : get_or (ends ++ (t, h) ∷ []) e (0, 0) ≡ (t, h) = get_or_push ends (t, h) (0, 0) e (let s : length ends ≡ e = omega (arith, length_push ends (t, h)) in s) in
      let x : tail_of (ends ++ (t, h) ∷ []) e ≡ t = ap (λ (z : ℕ × ℕ). z.0) q in
      let y : head_of (ends ++ (t, h) ∷ []) e ≡ h = ap (λ (z : ℕ × ℕ). z.1) q in
      (omega arith, omega arith)
]
