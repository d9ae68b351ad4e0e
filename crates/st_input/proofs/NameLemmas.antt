-- Lists of names: which number a name has, and the positions.
use Rattle.std.proofs.Common.{◌≡◌, ◌≢◌, ◌<◌, ◌≤◌, ℕ, suc, zero, ◌+◌, ℤ, pos, negsuc, Bool, true, false, List, [], ◌∷◌, ◌++◌, length, get_or, slice_get, refl, ap, sym, ◌∙◌, add-one, arith, Option, Some, None, MatchOption, ◌⊎◌, inl, inr}
use Rattle.std.specs.Ordering.{int_eq}
use Rattle.std.specs.Bool.{Decides}
use Rattle.std.specs.List.{position_or_len}
use Rattle.std.proofs.lemmas.Bool.{cases_lt}
use Rattle.std.proofs.lemmas.Bool.Decides.{Decides-int_eq, nat_tests}
use Rattle.std.proofs.lemmas.List.{get_or_append_left, get_or_push, length_push}
use Rattle.std.proofs.lemmas.List.Folds.{list_any_at}
use Rattle.std.proofs.lemmas.List.Quantifiers.{position-Some}
use Rattle.std.proofs.lemmas.List.Sums.{position_or_len_is, fails_before_first}
use Rattle.std.proofs.lemmas.Option.{slice_get-get_or, slice_get_within, get_or_from_slice_get}
use Rattle.st_input.specs.Names.{positions, number_of, by_position, is_among, AreDifferent}

-- ---- a name and its number
-- a test that is not so is false
pub decided_false : (b : Bool) (P : Type 0) → Decides b P → (P → ⊥) → b ≡ false
decided_false true P d differ = absurd (differ (d.0 refl))
decided_false false P d differ = refl

-- the vertex with a number has the name
pub found_name : (names : List ℤ) (name : ℤ) (n : ℕ) → number_of names name ≡ Some n → slice_get names n ≡ Some name
unfolding number_of
found_name names name n e =
    let h = position-Some (int_eq name) names n (pos 0) e in
    let same : name ≡ get_or names n (pos 0) = (Decides-int_eq name (get_or names n (pos 0))).0 h.1 in
    slice_get-get_or names n (pos 0) h.0 ∙ ap (λ (z : ℤ). Some z) (sym same)

-- a number that is found is below the length
pub found_within : (names : List ℤ) (name : ℤ) (n : ℕ) → number_of names name ≡ Some n → n < length names
found_within names name n e = slice_get_within names n name (found_name names name n e)

-- the number of the first place that has the name
pub number_in : (names : List ℤ) (name : ℤ) (i : ℕ) → i < length names → ((k : ℕ) → k < i → int_eq name (get_or names k (pos 0)) ≡ false) → int_eq name (get_or names i (pos 0)) ≡ true → number_of names name ≡ Some i
unfolding number_of
number_in names name i lt before here =
    let le : i ≤ length names = omega arith in
    rw (position_or_len_is (int_eq name) names i (pos 0) le before (λ _. here)) (grind (arith, nat_tests))

-- no place has the name
pub number_out : (names : List ℤ) (name : ℤ) → ((k : ℕ) → k < length names → int_eq name (get_or names k (pos 0)) ≡ false) → number_of names name ≡ None
unfolding number_of
number_out names name none =
    let le : length names ≤ length names = omega arith in
    rw (position_or_len_is (int_eq name) names (length names) (pos 0) le none (λ (lt : length names < length names). absurd (omega arith))) (grind (arith, nat_tests))

-- where a place has the name, a number is found
pub some_found : (names : List ℤ) (name : ℤ) → position_or_len (int_eq name) names < length names → number_of names name ≡ Some (position_or_len (int_eq name) names)
unfolding number_of
some_found names name a = grind (arith, nat_tests)

-- where no number is found, no place has the name
pub missing_name : (names : List ℤ) (name : ℤ) → number_of names name ≡ None → (v : ℕ) → slice_get names v ≢ Some name
missing_name names name e v there =
    let within : v < length names = slice_get_within names v name there in
    let item : get_or names v (pos 0) ≡ name = get_or_from_slice_get names v name (pos 0) there in
    let hit : int_eq name (get_or names v (pos 0)) ≡ true = (Decides-int_eq name (get_or names v (pos 0))).1 (sym item) in
    elim (cases_lt (position_or_len (int_eq name) names) (length names)) [
      | inl a ↦ let is = some_found names name a in cc
      | inr b ↦
          let before : v < position_or_len (int_eq name) names = omega arith in
          let miss : int_eq name (get_or names v (pos 0)) ≡ false = fails_before_first (int_eq name) names v (pos 0) before in
          cc
    ]

-- what is found, both ways
pub place_of_name : (names : List ℤ) (name : ℤ) (r : Option ℕ) → r ≡ number_of names name → MatchOption r ((v : ℕ) → slice_get names v ≢ Some name) (λ n. slice_get names n ≡ Some name)
place_of_name names name None e = missing_name names name (sym e)
place_of_name names name (Some n) e = found_name names name n (sym e)

-- ---- names that differ
pub not_among : (names : List ℤ) (name : ℤ) (v : ℕ) → is_among names name ≡ false → slice_get names v ≡ Some name → ⊥
unfolding is_among
not_among names name v fresh there =
    let within : v < length names = slice_get_within names v name there in
    let item : get_or names v (pos 0) ≡ name = get_or_from_slice_get names v name (pos 0) there in
    let hit : int_eq name (get_or names v (pos 0)) ≡ true = (Decides-int_eq name (get_or names v (pos 0))).1 (sym item) in
    let any = list_any_at (int_eq name) names v (pos 0) within hit in
    cc

-- a place of a list with one more item is an old one or the last
pub push_cases : {A : Type 0} (xs : List A) (y : A) (u : ℕ) (x : A) → slice_get (xs ++ y ∷ []) u ≡ Some x → (slice_get xs u ≡ Some x) ⊎ ((u ≡ length xs) × (x ≡ y))
push_cases [] y zero x e = inr (refl, cc)
push_cases [] y (suc u) x e = inl e
push_cases (z ∷ xs) y zero x e = inl e
push_cases (z ∷ xs) y (suc u) x e = elim (push_cases xs y u x e) [ inl a ↦ inl a | inr b ↦ inr (ap suc b.0, b.1) ]

pub different_push : (names : List ℤ) (name : ℤ) → is_among names name ≡ false → AreDifferent names → AreDifferent (names ++ name ∷ [])
different_push names name fresh different u v x a b = elim (push_cases names name u x a) [
  | inl p ↦ elim (push_cases names name v x b) [
    | inl q ↦ different u v x p q
    | inr q ↦ absurd (not_among names name u fresh (p ∙ ap (λ (z : ℤ). Some z) q.1))
  ]
  | inr p ↦ elim (push_cases names name v x b) [
    | inl q ↦ absurd (not_among names name v fresh (q ∙ ap (λ (z : ℤ). Some z) p.1))
    | inr q ↦ p.0 ∙ sym q.0
  ]
]

-- ---- positions
pub positions_more : (n : ℕ) → positions (n + 1) ≡ positions n ++ pos n ∷ []
unfolding positions
positions_more n = rw add-one refl

pub positions_length : (n : ℕ) → length (positions n) ≡ n
unfolding positions
positions_length zero = refl
positions_length (suc n) = length_push (positions n) (pos n) ∙ rw (positions_length n, add-one) refl

pub positions_get : (n k : ℕ) (d : ℤ) → k < n → get_or (positions n) k d ≡ pos k
unfolding positions
positions_get zero k d lt = absurd (omega arith)
positions_get (suc n) k d lt = elim (cases_lt k n) [
  | inl a ↦
      let within : k < length (positions n) = omega (arith, positions_length n) in
      get_or_append_left (positions n) (pos n ∷ []) d k within ∙ positions_get n k d a
  | inr b ↦
      let last : length (positions n) ≡ k = omega (arith, positions_length n) in
      let same : n ≡ k = omega arith in
      get_or_push (positions n) (pos n) d k last ∙ ap (λ (i : ℕ). pos i) same
]

pub other_pos : (j k : ℕ) → j ≢ k → int_eq (pos j) (pos k) ≡ false
other_pos j k differ = decided_false (int_eq (pos j) (pos k)) (pos j ≡ pos k) (Decides-int_eq (pos j) (pos k)) (λ e. differ (cc))

pub other_neg : (j k : ℕ) → int_eq (negsuc j) (pos k) ≡ false
other_neg j k = decided_false (int_eq (negsuc j) (pos k)) (negsuc j ≡ pos k) (Decides-int_eq (negsuc j) (pos k)) (λ e. cc)

by_position_in : (n j : ℕ) → j < n → by_position n (pos j) ≡ Some j
unfolding by_position
by_position_in n j lt = grind (arith, nat_tests)

by_position_out : (n j : ℕ) → n ≤ j → by_position n (pos j) ≡ None
unfolding by_position
by_position_out n j le = grind (arith, nat_tests)

by_position_neg : (n j : ℕ) → by_position n (negsuc j) ≡ None
unfolding by_position
by_position_neg n j = refl

positions_at : (n k : ℕ) (name : ℤ) → slice_get (positions n) k ≡ Some name → pos k ≡ name
positions_at n k name found =
    let within : k < length (positions n) = slice_get_within (positions n) k name found in
    let small : k < n = omega (arith, positions_length n) in
    sym (positions_get n k name small) ∙ get_or_from_slice_get (positions n) k name name found

pub positions_differ : (n : ℕ) → AreDifferent (positions n)
positions_differ n u v name a b =
    let same : pos u ≡ pos v = positions_at n u name a ∙ sym (positions_at n v name b) in
    cc

-- among the positions a name is found by its size
pub position_found : (n : ℕ) (name : ℤ) → number_of (positions n) name ≡ by_position n name
position_found n (pos j) = elim (cases_lt j n) [
  | inl lt ↦
      let within : j < length (positions n) = omega (arith, positions_length n) in
      let here : int_eq (pos j) (get_or (positions n) j (pos 0)) ≡ true = (Decides-int_eq (pos j) (get_or (positions n) j (pos 0))).1 (sym (positions_get n j (pos 0) lt)) in
      number_in (positions n) (pos j) j within (before lt) here ∙ sym (by_position_in n j lt)
  | inr ge ↦
      let le : n ≤ j = omega arith in
      number_out (positions n) (pos j) (none le) ∙ sym (by_position_out n j le)
]
  where
    before : j < n → (k : ℕ) → k < j → int_eq (pos j) (get_or (positions n) k (pos 0)) ≡ false
    before lt k l =
        let small : k < n = omega arith in
        let differ : j ≢ k = omega arith in
        rw (positions_get n k (pos 0) small) (other_pos j k differ)

    none : n ≤ j → (k : ℕ) → k < length (positions n) → int_eq (pos j) (get_or (positions n) k (pos 0)) ≡ false
    none le k l =
        let small : k < n = omega (arith, positions_length n) in
        let differ : j ≢ k = omega arith in
        rw (positions_get n k (pos 0) small) (other_pos j k differ)
position_found n (negsuc j) = number_out (positions n) (negsuc j) none ∙ sym (by_position_neg n j)
  where
    none : (k : ℕ) → k < length (positions n) → int_eq (negsuc j) (get_or (positions n) k (pos 0)) ≡ false
    none k l =
        let small : k < n = omega (arith, positions_length n) in
        rw (positions_get n k (pos 0) small) (other_neg j k)
