-- Lists that are cut at an element and joined there again: what follows what, what is apart, and the last element.
use Rattle.std.proofs.Common.{ℕ, zero, suc, List, [], ◌∷◌, ◌++◌, length, get_or, take, drop, ◌≡◌, ◌<◌, inl, inr, refl, sym, ap, subst, arith}
use Rattle.std.specs.Prelude.{map}
use Rattle.st_ids.specs.Lists.{In, here, there, NoRepeat, Linked}
use Rattle.st_ids.proofs.Public.{joined_once, not_in_nil, In-cases, in_left, in_right, in_append, in_subst}

-- ---- the last element
-- the last element, or d where there is none
abbrev pub last_of : ℕ → List ℕ → ℕ
last_of d [] = d
last_of d (x ∷ xs) = last_of x xs

pub last_of-append : (d : ℕ) (xs : List ℕ) (e : ℕ) → last_of d (xs ++ e ∷ []) ≡ e
last_of-append d [] e = refl
last_of-append d (x ∷ xs) e = last_of-append x xs e

pub empty_of : (xs : List ℕ) → ((x : ℕ) → In x xs → ⊥) → xs ≡ []
empty_of [] h = refl
empty_of (x ∷ xs) h = absurd (h x (here refl))

pub in_mapped : (f : ℕ → ℕ) (x : ℕ) (xs : List ℕ) → In x xs → In (f x) (map f xs)
in_mapped f x [] i = absurd (not_in_nil i)
in_mapped f x (y ∷ ys) i = elim (In-cases i) [ inl q ↦ here (ap f q) | inr j ↦ there (in_mapped f x ys j) ]

-- ---- what is apart
pub once_right : (xs ys : List ℕ) → NoRepeat (xs ++ ys) → NoRepeat ys
once_right [] ys h = h
once_right (x ∷ xs) ys h = once_right xs ys h.1

pub once_left : (xs ys : List ℕ) → NoRepeat (xs ++ ys) → NoRepeat xs
once_left [] ys h = tt
once_left (x ∷ xs) ys h = ((λ i. h.0 (in_left ys i)), once_left xs ys h.1)

pub once_apart : (xs ys : List ℕ) (x : ℕ) → NoRepeat (xs ++ ys) → In x xs → In x ys → ⊥
once_apart [] ys x h i j = not_in_nil i
once_apart (z ∷ xs) ys x h i j = elim (In-cases i) [
  | inl q ↦ h.0 (in_right xs (in_subst q j))
  | inr k ↦ once_apart xs ys x h.1 k j
]

-- what stands in the middle is replaced
pub once_swap : (xs ms ns ys : List ℕ) → NoRepeat (xs ++ (ms ++ ys)) → NoRepeat ns → ((x : ℕ) → In x ns → In x (xs ++ (ms ++ ys)) → ⊥)
    → NoRepeat (xs ++ (ns ++ ys))
once_swap xs ms ns ys h k d =
    joined_once xs (ns ++ ys) (once_left xs (ms ++ ys) h)
    (joined_once ns ys k (once_right ms ys (once_right xs (ms ++ ys) h)) (λ x i j. d x i (in_right xs (in_right ms j))))
    (λ x i j. elim (in_append ns j) [
      | inl a ↦ d x a (in_left (ms ++ ys) i)
      | inr b ↦ once_apart xs (ms ++ ys) x h i (in_right ms b)
    ])

-- ---- lists in which each element is related to the next
pub linked_cut : (R : ℕ → ℕ → Type 0) (xs : List ℕ) (u : ℕ) (ys : List ℕ) → Linked R (xs ++ u ∷ ys) → Linked R (xs ++ u ∷ []) × Linked R (u ∷ ys)
linked_cut R [] u ys h = ((tt, tt), h)
linked_cut R (x ∷ []) u ys h = ((h.0, (tt, tt)), h.1)
linked_cut R (x ∷ y ∷ xs) u ys h = let r = linked_cut R (y ∷ xs) u ys h.1 in ((h.0, r.0), r.1)

pub linked_join : (R : ℕ → ℕ → Type 0) (xs : List ℕ) (u : ℕ) (ys : List ℕ) → Linked R (xs ++ u ∷ []) → Linked R (u ∷ ys) → Linked R (xs ++ u ∷ ys)
linked_join R [] u ys h k = k
linked_join R (x ∷ []) u ys h k = (h.0, k)
linked_join R (x ∷ y ∷ xs) u ys h k = (h.0, linked_join R (y ∷ xs) u ys h.1 k)

-- up to u, from w on, and all between u and w
pub linked_to : (R T : ℕ → ℕ → Type 0) (xs : List ℕ) (u : ℕ) → ((a b : ℕ) → In a xs → In b (xs ++ u ∷ []) → R a b → T a b)
    → Linked R (xs ++ u ∷ []) → Linked T (xs ++ u ∷ [])
linked_to R T [] u f h = (tt, tt)
linked_to R T (x ∷ []) u f h = (f x u (here refl) (there (here refl)) h.0, (tt, tt))
linked_to R T (x ∷ y ∷ xs) u f h = (
  f x y (here refl) (there (here refl)) h.0,
  linked_to R T (y ∷ xs) u (λ a b i j. f a b (there i) (there j)) h.1,
)

pub linked_from : (R T : ℕ → ℕ → Type 0) (w : ℕ) (ys : List ℕ) → ((a b : ℕ) → In a (w ∷ ys) → In b ys → R a b → T a b)
    → Linked R (w ∷ ys) → Linked T (w ∷ ys)
linked_from R T w [] f h = (tt, tt)
linked_from R T w (y ∷ ys) f h = (
  f w y (here refl) (here refl) h.0,
  linked_from R T y ys (λ a b i j. f a b (there i) (there j)) h.1,
)

pub next_of : (R : ℕ → ℕ → Type 0) (u : ℕ) (ms : List ℕ) (w v : ℕ) → Linked R (u ∷ (ms ++ w ∷ [])) → In v (u ∷ ms) → (x : ℕ) × In x (ms ++ w ∷ []) × R v x
next_of R u [] w v h i = elim (In-cases i) [
  | inl q ↦ (w, here refl, subst (λ z. R z w) (sym q) h.0)
  | inr j ↦ absurd (not_in_nil j)
]
next_of R u (m ∷ ms) w v h i = elim (In-cases i) [
  | inl q ↦ (m, here refl, subst (λ z. R z m) (sym q) h.0)
  | inr j ↦ let r = next_of R m ms w v h.1 j in (r.0, there r.1, r.2)
]

pub prev_of : (R : ℕ → ℕ → Type 0) (u : ℕ) (ms : List ℕ) (w v : ℕ) → Linked R (u ∷ (ms ++ w ∷ [])) → In v (ms ++ w ∷ []) → (x : ℕ) × In x (u ∷ ms) × R x v
prev_of R u [] w v h i = elim (In-cases i) [
  | inl q ↦ (u, here refl, subst (R u) (sym q) h.0)
  | inr j ↦ absurd (not_in_nil j)
]
prev_of R u (m ∷ ms) w v h i = elim (In-cases i) [
  | inl q ↦ (u, here refl, subst (R u) (sym q) h.0)
  | inr j ↦ let r = prev_of R m ms w v h.1 j in (r.0, there r.1, r.2)
]

-- ---- a list from one place on, and from another place on
pub record Rest (xs : List ℕ) (j : ℕ) : Type 0 where
  pub before : List ℕ
  pub at : ℕ
  pub after : List ℕ
  pub is : xs ≡ before ++ at ∷ after
  pub on : drop j xs ≡ at ∷ after
  pub read : get_or xs j 0 ≡ at

pub rest_of : (xs : List ℕ) (j : ℕ) → j < length xs → Rest xs j
rest_of [] j l = absurd (omega arith)
rest_of (x ∷ xs) zero l = record { before = []; at = x; after = xs; is = refl; on = refl; read = refl }
rest_of (x ∷ xs) (suc j) l =
    let r = rest_of xs j (omega arith) in
    record { before = x ∷ r.before; at = r.at; after = r.after; is = ap (λ z. x ∷ z) r.is; on = r.on; read = r.read }

-- what stands up to the place i, between i and j, and from j on
pub record Span (xs : List ℕ) (i j : ℕ) : Type 0 where
  pub before : List ℕ
  pub begin : ℕ
  pub between : List ℕ
  pub end : ℕ
  pub after : List ℕ
  pub is : xs ≡ before ++ begin ∷ (between ++ end ∷ after)
  pub up_to : take (suc i) xs ≡ before ++ begin ∷ []
  pub on : drop j xs ≡ end ∷ after
  pub begins : get_or xs i 0 ≡ begin
  pub ends : get_or xs j 0 ≡ end

pub span_of : (xs : List ℕ) (i j : ℕ) → i < j → j < length xs → Span xs i j
span_of [] i j l m = absurd (omega arith)
span_of (x ∷ xs) i zero l m = absurd (omega arith)
span_of (x ∷ xs) zero (suc j) l m =
    let r = rest_of xs j (omega arith) in
    record {
      before = [];
      begin = x;
      between = r.before;
      end = r.at;
      after = r.after;
      is = ap (λ z. x ∷ z) r.is;
      up_to = refl;
      on = r.on;
      begins = refl;
      ends = r.read;
    }
span_of (x ∷ xs) (suc i) (suc j) l m =
    let r = span_of xs i j (omega arith) (omega arith) in
    record {
      before = x ∷ r.before;
      begin = r.begin;
      between = r.between;
      end = r.end;
      after = r.after;
      is = ap (λ z. x ∷ z) r.is;
      up_to = ap (λ z. x ∷ z) r.up_to;
      on = r.on;
      begins = r.begins;
      ends = r.ends;
    }
