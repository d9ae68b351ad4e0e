-- Lists of names after a name is put in or taken out, and what a set's index says of them.
use Rattle.std.proofs.Common.{◌≡◌, ◌≢◌, ◌<◌, ◌-◌, ℕ, suc, zero, ℤ, pos, true, false, List, [], ◌∷◌, ◌++◌, length, get_or, slice_get, take, refl, ap, sym, ◌∙◌, arith, Option, Some, None, MatchOption, ◌⊎◌, inl, inr}
use Rattle.std.proofs.Math.ListN.{set}
use Rattle.std.specs.List.{swap_remove, IsDistinct, position, position_or_len}
use Rattle.std.specs.Ordering.{int_eq}
use Rattle.std.proofs.lemmas.Bool.{cases_eq, cases_lt}
use Rattle.std.proofs.lemmas.Bool.Decides.{Decides-int_eq, nat_tests}
use Rattle.std.proofs.lemmas.List.{get_or-take, get_or-set_same, get_or-set_other, get_or_default, length-set, length-take-le}
use Rattle.std.proofs.lemmas.List.Quantifiers.{position-Some}
use Rattle.std.proofs.lemmas.List.Sums.{fails_before_first}
use Rattle.std.proofs.lemmas.Map.Keys.{apart_from_distinct}
use Rattle.std.proofs.lemmas.Option.{slice_get-get_or, slice_get_within, get_or_from_slice_get}
use Rattle.st_session.specs.States.{HasEachOnce, LacksName, IsNameAt}

-- ---- one name more
-- a place of a list with one more name is an old one or the last
pub push_cases : (xs : List ℤ) (y : ℤ) (u : ℕ) (x : ℤ) → slice_get (xs ++ y ∷ []) u ≡ Some x → (slice_get xs u ≡ Some x) ⊎ ((u ≡ length xs) × (x ≡ y))
push_cases [] y zero x e = inr (refl, cc)
push_cases [] y (suc u) x e = inl e
push_cases (z ∷ xs) y zero x e = inl e
push_cases (z ∷ xs) y (suc u) x e = elim (push_cases xs y u x e) [ inl a ↦ inl a | inr b ↦ inr (ap suc b.0, b.1) ]

pub each_once_push : (names : List ℤ) (name : ℤ) → LacksName names name → HasEachOnce names → HasEachOnce (names ++ name ∷ [])
each_once_push names name fresh once u v x a b = elim (push_cases names name u x a) [
  | inl p ↦ elim (push_cases names name v x b) [
    | inl q ↦ once u v x p q
    | inr q ↦ absurd (fresh u (p ∙ ap (λ (z : ℤ). Some z) q.1))
  ]
  | inr p ↦ elim (push_cases names name v x b) [
    | inl q ↦ absurd (fresh v (q ∙ ap (λ (z : ℤ). Some z) p.1))
    | inr q ↦ p.0 ∙ sym q.0
  ]
]

-- ---- one name less
pub swap_remove_default : (xs : List ℤ) (i : ℕ) (d e : ℤ) → i < length xs → swap_remove xs i d ≡ swap_remove xs i e
swap_remove_default xs i d e l = ap (λ (z : ℤ). take (length xs - 1) (set xs i z)) (get_or_default xs (length xs - 1) d e (omega arith))

pub length_swap_remove : (xs : List ℤ) (i : ℕ) → i < length xs → length (swap_remove xs i (pos 0)) ≡ length xs - 1
length_swap_remove xs i l =
    let s : length (set xs i (get_or xs (length xs - 1) (pos 0))) ≡ length xs = length-set xs i (get_or xs (length xs - 1) (pos 0)) in
    length-take-le (length xs - 1) (set xs i (get_or xs (length xs - 1) (pos 0))) (omega arith)

-- a name that is left stood at its place, or came from the last one
left_over : (xs : List ℤ) (i k : ℕ) (x : ℤ) → i < length xs → slice_get (swap_remove xs i (pos 0)) k ≡ Some x
    → (k < length xs - 1) × (((k ≢ i) × (slice_get xs k ≡ Some x)) ⊎ ((k ≡ i) × (slice_get xs (length xs - 1) ≡ Some x)))
left_over xs i k x l e =
    let n : ℕ = length xs - 1 in
    let last : ℤ = get_or xs (length xs - 1) (pos 0) in
    let size : length (swap_remove xs i (pos 0)) ≡ length xs - 1 = length_swap_remove xs i l in
    let in_new : k < length (swap_remove xs i (pos 0)) = slice_get_within (swap_remove xs i (pos 0)) k x e in
    let kn : k < length xs - 1 = omega arith in
    let is : get_or (set xs i (get_or xs (length xs - 1) (pos 0))) k (pos 0) ≡ x =
    sym (get_or-take (length xs - 1) (set xs i (get_or xs (length xs - 1) (pos 0))) k (pos 0) kn) ∙ get_or_from_slice_get (swap_remove xs i (pos 0)) k x (pos 0) e in
    elim (cases_eq k i) [
      | inl q ↦ (
        kn,
        inr (
          q,
          slice_get-get_or xs (length xs - 1) (pos 0) (omega arith)
              ∙ ap (λ (z : ℤ). Some z) (sym (get_or-set_same xs i (get_or xs (length xs - 1) (pos 0)) (pos 0) l) ∙ ap (λ (z : ℕ). get_or (set xs i (get_or xs (length xs - 1) (pos 0))) z (pos 0)) (sym q) ∙ is),
        ),
      )
      | inr d ↦ (
        kn,
        inl (
          d,
          slice_get-get_or xs k (pos 0) (omega arith) ∙ ap (λ (z : ℤ). Some z) (sym (get_or-set_other xs i k (get_or xs (length xs - 1) (pos 0)) (pos 0) d) ∙ is),
        ),
      )
    ]

pub each_once_swap : (xs : List ℤ) (i : ℕ) → i < length xs → HasEachOnce xs → HasEachOnce (swap_remove xs i (pos 0))
each_once_swap xs i l once u v x a b =
    let A = left_over xs i u x l a in
    let B = left_over xs i v x l b in
    let ua : u < length xs - 1 = A.0 in
    let vb : v < length xs - 1 = B.0 in
    elim A.1 [
      | inl p ↦ elim B.1 [
        | inl q ↦ once u v x p.1 q.1
        | inr q ↦ (let z : u ≡ length xs - 1 = once u (length xs - 1) x p.1 q.1 in absurd (omega arith))
      ]
      | inr p ↦ elim B.1 [
        | inl q ↦ (let z : v ≡ length xs - 1 = once v (length xs - 1) x q.1 p.1 in absurd (omega arith))
        | inr q ↦ p.0 ∙ sym q.0
      ]
    ]

-- ---- what a set of names knows
same_name : (x : ℤ) → int_eq x x ≡ false → ⊥
same_name x e = let t : int_eq x x ≡ true = (Decides-int_eq x x).1 refl in let z : true ≡ false = sym t ∙ e in cc

pub each_once_distinct : (xs : List ℤ) → IsDistinct int_eq xs → HasEachOnce xs
each_once_distinct xs D i j x a b =
    let li : i < length xs = slice_get_within xs i x a in
    let lj : j < length xs = slice_get_within xs j x b in
    let ia : get_or xs i (pos 0) ≡ x = get_or_from_slice_get xs i x (pos 0) a in
    let jb : get_or xs j (pos 0) ≡ x = get_or_from_slice_get xs j x (pos 0) b in
    elim (cases_lt i j) [
      | inl k ↦ absurd (same_name x (ap (λ (z : ℤ). int_eq z x) (sym ia) ∙ ap (λ (z : ℤ). int_eq (get_or xs i (pos 0)) z) (sym jb) ∙ apart_from_distinct int_eq xs i j (pos 0) D k lj))
      | inr k ↦ elim (cases_lt j i) [
        | inl m ↦ absurd (same_name x (ap (λ (z : ℤ). int_eq z x) (sym jb) ∙ ap (λ (z : ℤ). int_eq (get_or xs j (pos 0)) z) (sym ia) ∙ apart_from_distinct int_eq xs j i (pos 0) D m li))
        | inr m ↦ omega arith
      ]
    ]

-- the name at the place that is found
found_name : (names : List ℤ) (name : ℤ) (n : ℕ) → position (int_eq name) names ≡ Some n → slice_get names n ≡ Some name
found_name names name n e =
    let h = position-Some (int_eq name) names n (pos 0) e in
    let same : name ≡ get_or names n (pos 0) = (Decides-int_eq name (get_or names n (pos 0))).0 h.1 in
    slice_get-get_or names n (pos 0) h.0 ∙ ap (λ (z : ℤ). Some z) (sym same)

-- where a place has the name, a place is found
some_found : (names : List ℤ) (name : ℤ) → position_or_len (int_eq name) names < length names → position (int_eq name) names ≡ Some (position_or_len (int_eq name) names)
some_found names name a = grind (arith, nat_tests)

-- where no place is found, none has the name
missing_name : (names : List ℤ) (name : ℤ) → position (int_eq name) names ≡ None → LacksName names name
missing_name names name e v there =
    let within : v < length names = slice_get_within names v name there in
    let item : get_or names v (pos 0) ≡ name = get_or_from_slice_get names v name (pos 0) there in
    let hit : int_eq name (get_or names v (pos 0)) ≡ true = (Decides-int_eq name (get_or names v (pos 0))).1 (sym item) in
    elim (cases_lt (position_or_len (int_eq name) names) (length names)) [
      | inl a ↦ let is = some_found names name a in cc
      | inr b ↦
          let before : v < position_or_len (int_eq name) names = omega arith in
          let miss : int_eq name (get_or names v (pos 0)) ≡ false = fails_before_first (int_eq name) names v (pos 0) before in
          cc
    ]

-- what is found, both ways
pub place_of_name : (names : List ℤ) (name : ℤ) (r : Option ℕ) → r ≡ position (int_eq name) names → MatchOption r (LacksName names name) (λ n. IsNameAt names n name)
place_of_name names name None e = missing_name names name (sym e)
place_of_name names name (Some n) e = found_name names name n (sym e)

-- ---- names taken in, one after the other
pub lacks_before : (xs : List ℤ) (k : ℕ) (x : ℤ) → HasEachOnce xs → k < length xs → get_or xs k (pos 0) ≡ x → LacksName (take k xs) x
lacks_before xs k x once l e j there =
    let size : length (take k xs) ≡ k = length-take-le k xs (omega arith) in
    let lj : j < length (take k xs) = slice_get_within (take k xs) j x there in
    let jk : j < k = omega arith in
    let is : get_or xs j (pos 0) ≡ x = sym (get_or-take k xs j (pos 0) jk) ∙ get_or_from_slice_get (take k xs) j x (pos 0) there in
    let a : slice_get xs j ≡ Some x = slice_get-get_or xs j (pos 0) (omega arith) ∙ ap (λ (z : ℤ). Some z) is in
    let b : slice_get xs k ≡ Some x = slice_get-get_or xs k (pos 0) l ∙ ap (λ (z : ℤ). Some z) e in
    let q : j ≡ k = once j k x a b in
    omega arith
