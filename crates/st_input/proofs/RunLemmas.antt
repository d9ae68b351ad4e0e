-- Names that follow one another, and which number a name has in two lists, one behind the other.
use Rattle.std.proofs.Common.{◌≡◌, ◌≢◌, ◌||◌, if◌then◌else◌, ◌<◌, ◌≤◌, ◌<ℤ◌, ℕ, suc, zero, ◌+◌, ◌-◌, ℤ, pos, negsuc, Bool, true, false, List, [], ◌∷◌, ◌++◌, length, get_or, refl, ap, sym, subst, ◌∙◌, add-one, arith, Option, Some, None, Result, Ok, Err, OnOk, ◌⊎◌, inl, inr}
use Rattle.std.specs.Ordering.{int_eq}
use Rattle.std.specs.Option.{option_map}
use Rattle.std.proofs.lemmas.Bool.{cases_lt}
use Rattle.std.proofs.lemmas.Bool.Decides.{Decides-int_eq, nat_tests}
use Rattle.std.specs.List.{position_or_len}
use Rattle.std.proofs.lemmas.List.{append_assoc, get_or_append_left, get_or-append-add, get_or-append_right, get_or_push, length-append, length_push}
use Rattle.std.proofs.lemmas.List.Folds.{list_any-append, list_any_at, list_any_none}
use Rattle.std.proofs.lemmas.List.Quantifiers.{position-Some}
use Rattle.std.proofs.lemmas.List.Sums.{fails_before_first}
use Rattle.std.proofs.lemmas.Int.{ints}
use Rattle.st_input.specs.Names.{names_from, by_difference, number_of, is_among}
use Rattle.st_input.proofs.NameLemmas.{number_in, number_out, other_pos, other_neg, some_found, found_within}

-- ---- n names from f on
pub names_from_length : (f n : ℕ) → length (names_from f n) ≡ n
unfolding names_from
names_from_length f zero = refl
names_from_length f (suc n) = length_push (names_from f n) (pos (f + n)) ∙ rw (names_from_length f n, add-one) refl

pub names_from_get : (f n k : ℕ) (d : ℤ) → k < n → get_or (names_from f n) k d ≡ pos (f + k)
unfolding names_from
names_from_get f zero k d lt = absurd (omega arith)
names_from_get f (suc n) k d lt = elim (cases_lt k n) [
  | inl a ↦
      let within : k < length (names_from f n) = omega (arith, names_from_length f n) in
      get_or_append_left (names_from f n) (pos (f + n) ∷ []) d k within ∙ names_from_get f n k d a
  | inr b ↦
      let last : length (names_from f n) ≡ k = omega (arith, names_from_length f n) in
      let same : n ≡ k = omega arith in
      get_or_push (names_from f n) (pos (f + n)) d k last ∙ ap (λ (i : ℕ). pos (f + i)) same
]

by_difference_at : (f n k : ℕ) → k < n → by_difference f n (f + k) ≡ Some k
unfolding by_difference
by_difference_at f n k lt = grind (arith, nat_tests)

by_difference_low : (f n j : ℕ) → j < f → by_difference f n j ≡ None
unfolding by_difference
by_difference_low f n j lt = grind (arith, nat_tests)

by_difference_high : (f n k : ℕ) → n ≤ k → by_difference f n (f + k) ≡ None
unfolding by_difference
by_difference_high f n k le = grind (arith, nat_tests)

number_past : (f n k : ℕ) → k < n → number_of (names_from f n) (pos (f + k)) ≡ Some k
number_past f n k lt =
    let within : k < length (names_from f n) = omega (arith, names_from_length f n) in
    let here : int_eq (pos (f + k)) (get_or (names_from f n) k (pos 0)) ≡ true = (Decides-int_eq (pos (f + k)) (get_or (names_from f n) k (pos 0))).1 (sym (names_from_get f n k (pos 0) lt)) in
    number_in (names_from f n) (pos (f + k)) k within before here
  where
    before : (i : ℕ) → i < k → int_eq (pos (f + k)) (get_or (names_from f n) i (pos 0)) ≡ false
    before i l =
        let small : i < n = omega arith in
        let differ : f + k ≢ f + i = omega arith in
        rw (names_from_get f n i (pos 0) small) (other_pos (f + k) (f + i) differ)

-- a name that differs from each of the run has no number
number_apart : (f n : ℕ) (name : ℤ) → ((k : ℕ) → k < n → int_eq name (pos (f + k)) ≡ false) → number_of (names_from f n) name ≡ None
number_apart f n name apart = number_out (names_from f n) name none
  where
    none : (k : ℕ) → k < length (names_from f n) → int_eq name (get_or (names_from f n) k (pos 0)) ≡ false
    none k l =
        let small : k < n = omega (arith, names_from_length f n) in
        rw (names_from_get f n k (pos 0) small) (apart k small)

number_low : (f n j : ℕ) → j < f → number_of (names_from f n) (pos j) ≡ None
number_low f n j low = number_apart f n (pos j) (λ k lt. let differ : j ≢ f + k = omega arith in other_pos j (f + k) differ)

number_high : (f n k : ℕ) → n ≤ k → number_of (names_from f n) (pos (f + k)) ≡ None
number_high f n k le = number_apart f n (pos (f + k)) (λ i lt. let differ : f + k ≢ f + i = omega arith in other_pos (f + k) (f + i) differ)

-- a name is found by the difference to the first
pub found_by_difference : (f n j : ℕ) → number_of (names_from f n) (pos j) ≡ by_difference f n j
found_by_difference f n j = elim (cases_lt j f) [
  | inl low ↦ number_low f n j low ∙ sym (by_difference_low f n j low)
  | inr high ↦
      let far : f + (j - f) ≡ j = omega arith in
      subst (λ (i : ℕ). number_of (names_from f n) (pos i) ≡ by_difference f n i) far (elim (cases_lt (j - f) n) [
        | inl near ↦ number_past f n (j - f) near ∙ sym (by_difference_at f n (j - f) near)
        | inr past ↦ number_high f n (j - f) past ∙ sym (by_difference_high f n (j - f) past)
      ])
]

-- none of them is negative
pub none_negative : (f n : ℕ) (name : ℤ) → name <ℤ pos 0 → number_of (names_from f n) name ≡ None
none_negative f n (pos j) low = absurd (omega (arith, ints))
none_negative f n (negsuc j) low = number_apart f n (negsuc j) (λ k lt. other_neg j (f + k))

-- ---- a run that grows
pub run_begun : (f c n : ℕ) → c ≡ 0 → names_from n 1 ≡ names_from f c ++ pos n ∷ []
unfolding names_from
run_begun f zero n e = ap (λ (i : ℕ). pos i ∷ []) (omega arith)
run_begun f (suc c) n e = absurd (omega arith)

pub run_grown : (f c n : ℕ) → n ≡ f + c → names_from f (c + 1) ≡ names_from f c ++ pos n ∷ []
unfolding names_from
run_grown f c n e = rw (add-one, e) refl

-- ---- a name without a number, and one with it
all_differ : (names : List ℤ) (name : ℤ) → number_of names name ≡ None → (k : ℕ) (d : ℤ) → k < length names → int_eq name (get_or names k d) ≡ false
all_differ names name none k d lt = elim (cases_lt (position_or_len (int_eq name) names) (length names)) [
  | inl a ↦ let is = some_found names name a in cc
  | inr b ↦
      let before : k < position_or_len (int_eq name) names = omega arith in
      fails_before_first (int_eq name) names k d before
]

pub not_among_where_none : (names : List ℤ) (name : ℤ) → number_of names name ≡ None → is_among names name ≡ false
unfolding is_among
not_among_where_none names name none = list_any_none (int_eq name) names (all_differ names name none)

pub among_where_some : (names : List ℤ) (name : ℤ) (n : ℕ) → number_of names name ≡ Some n → is_among names name ≡ true
unfolding is_among number_of
among_where_some names name n e =
    let h = position-Some (int_eq name) names n (pos 0) e in
    list_any_at (int_eq name) names n (pos 0) h.0 h.1

pub begun_fresh : (f c n : ℕ) → c ≡ 0 → is_among (names_from f c) (pos n) ≡ false
unfolding is_among names_from
begun_fresh f zero n e = refl
begun_fresh f (suc c) n e = absurd (omega arith)

pub grown_fresh : (f c n : ℕ) → n ≡ f + c → is_among (names_from f c) (pos n) ≡ false
grown_fresh f c n e = not_among_where_none (names_from f c) (pos n) (subst (λ (i : ℕ). number_of (names_from f c) (pos i) ≡ None) (sym e) (number_high f c c (omega arith)))

-- ---- two lists, one behind the other
pub among_either : (xs ys : List ℤ) (name : ℤ) → is_among (xs ++ ys) name ≡ (is_among xs name || is_among ys name)
unfolding is_among
among_either xs ys name = list_any-append (int_eq name) xs ys

-- a name of the first list has its number there
pub number_first : (xs ys : List ℤ) (name : ℤ) (n : ℕ) → number_of xs name ≡ Some n → number_of (xs ++ ys) name ≡ Some n
unfolding number_of
number_first xs ys name n e =
    let h = position-Some (int_eq name) xs n (pos 0) e in
    let within : n < length (xs ++ ys) = omega (arith, h.0, length-append xs ys) in
    number_in (xs ++ ys) name n within
    (λ k lt. let small : k < length xs = omega (arith, h.0) in rw (get_or_append_left xs ys (pos 0) k small) (h.2 k lt))
    (rw (get_or_append_left xs ys (pos 0) n h.0) h.1)

-- another one has that of the second list, behind the first
pub number_rest : (xs ys : List ℤ) (name : ℤ) → number_of xs name ≡ None → number_of (xs ++ ys) name ≡ option_map (λ i. length xs + i) (number_of ys name)
unfolding number_of
number_rest xs ys name none = by (number_of ys name) refl
  where
    left : (k : ℕ) → k < length xs → int_eq name (get_or (xs ++ ys) k (pos 0)) ≡ false
    left k lt = rw (get_or_append_left xs ys (pos 0) k lt) (all_differ xs name none k (pos 0) lt)

    by : (r : Option ℕ) → number_of ys name ≡ r → number_of (xs ++ ys) name ≡ option_map (λ i. length xs + i) r
    by None e = number_out (xs ++ ys) name (λ k lt. elim (cases_lt k (length xs)) [
      | inl a ↦ left k a
      | inr b ↦
          let there : k - length xs < length ys = omega (arith, length-append xs ys) in
          rw (get_or-append_right xs ys (length xs) k (pos 0) refl b) (all_differ ys name e (k - length xs) (pos 0) there)
    ])
    by (Some i) e =
        let h = position-Some (int_eq name) ys i (pos 0) e in
        let within : length xs + i < length (xs ++ ys) = omega (arith, h.0, length-append xs ys) in
        number_in (xs ++ ys) name (length xs + i) within (before i h.0 h.2) (rw (get_or-append-add xs ys i (pos 0)) h.1)
      where
        before : (i : ℕ) → i < length ys → ((k : ℕ) → k < i → int_eq name (get_or ys k (pos 0)) ≡ false) → (k : ℕ) → k < length xs + i → int_eq name (get_or (xs ++ ys) k (pos 0)) ≡ false
        before i within fails k lt = elim (cases_lt k (length xs)) [
          | inl a ↦ left k a
          | inr b ↦
              let there : k - length xs < i = omega arith in
              rw (get_or-append_right xs ys (length xs) k (pos 0) refl b) (fails (k - length xs) there)
        ]

-- what a name that the first list lacks does to the second, it does to both
pub put_behind : (xs ys zs : List ℤ) (name : ℤ) → number_of xs name ≡ None → zs ≡ (if is_among ys name then ys else ys ++ name ∷ []) → xs ++ zs ≡ (if is_among (xs ++ ys) name then xs ++ ys else xs ++ ys ++ name ∷ [])
put_behind xs ys zs name none e = rw (among_either xs ys name, not_among_where_none xs name none, e) (by (is_among ys name))
  where
    by : (b : Bool) → xs ++ (if b then ys else ys ++ name ∷ []) ≡ (if b then xs ++ ys else xs ++ ys ++ name ∷ [])
    by true = refl
    by false = sym (append_assoc xs ys (name ∷ []))

pub behind_on_ok : {E : Type 0} (r : Result Bool E) (xs ys zs : List ℤ) (z name : ℤ) → number_of xs name ≡ None → z ≡ name → OnOk r (zs ≡ (if is_among ys z then ys else ys ++ z ∷ [])) → OnOk r (xs ++ zs ≡ (if is_among (xs ++ ys) name then xs ++ ys else xs ++ ys ++ name ∷ []))
behind_on_ok (Ok fresh) xs ys zs z name none same h = put_behind xs ys zs name none (subst (λ (n : ℤ). zs ≡ (if is_among ys n then ys else ys ++ n ∷ [])) same h)
behind_on_ok (Err e) xs ys zs z name none same h = tt
