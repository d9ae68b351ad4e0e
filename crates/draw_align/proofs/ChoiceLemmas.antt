-- Finite searches.
use Rattle.std.proofs.Common.{ℕ, zero, suc, List, [], ◌∷◌, ◌++◌, ◌≡◌, ◌<◌, ◌⊎◌, inl, inr, refl, sym, ap, subst, arith}
use Rattle.std.proofs.lemmas.Bool.{cases_eq}
use Rattle.st_ids.specs.Lists.{In, here, there}
use Rattle.st_ids.proofs.Public.{not_in_nil, In-cases}

abbrev pub Decided : (ℕ → Type 0) → Type 0
Decided D = (x : ℕ) → D x ⊎ (D x → ⊥)

pub any_below : (D : ℕ → Type 0) → Decided D → (n : ℕ) → ((y : ℕ) × (y < n) × D y) ⊎ ((y : ℕ) → y < n → D y → ⊥)
any_below D dec zero = inr (λ y l d. absurd (omega arith))
any_below D dec (suc m) = elim (dec m) [
  | inl d ↦ inl (m, omega arith, d)
  | inr n ↦ elim (any_below D dec m) [
    | inl h ↦ inl (h.0, (let k : h.0 < m = h.1 in omega arith), h.2)
    | inr h ↦ inr (λ y l d. elim (cases_eq y m) [ inl q ↦ n (subst D q d) | inr q ↦ h y (omega arith) d ])
  ]
]

pub all_in : (D : ℕ → Type 0) → Decided D → (xs : List ℕ) → ((x : ℕ) → In x xs → D x) ⊎ ((x : ℕ) × In x xs × (D x → ⊥))
all_in D dec [] = inl (λ x i. absurd (not_in_nil i))
all_in D dec (y ∷ ys) = elim (dec y) [
  | inr n ↦ inr (y, here refl, n)
  | inl d ↦ elim (all_in D dec ys) [
    | inl h ↦ inl (λ x i. elim (In-cases i) [ inl q ↦ subst D (sym q) d | inr j ↦ h x j ])
    | inr h ↦ inr (h.0, there h.1, h.2)
  ]
]

-- the last element with a property
pub record LastWith (D : ℕ → Type 0) (xs : List ℕ) : Type 0 where
  pub before : List ℕ
  pub element : ℕ
  pub after : List ℕ
  pub is : xs ≡ before ++ element ∷ after
  pub holds : D element
  pub none : (x : ℕ) → In x after → D x → ⊥

pub last_with : (D : ℕ → Type 0) → Decided D → (xs : List ℕ) → LastWith D xs ⊎ ((x : ℕ) → In x xs → D x → ⊥)
last_with D dec [] = inr (λ x i d. not_in_nil i)
last_with D dec (y ∷ ys) = elim (last_with D dec ys) [
  | inl h ↦ inl (record { before = y ∷ h.before; element = h.element; after = h.after; is = ap (λ z. y ∷ z) h.is; holds = h.holds; none = h.none })
  | inr h ↦ elim (dec y) [
    | inl d ↦ inl (record { before = []; element = y; after = ys; is = refl; holds = d; none = h })
    | inr n ↦ inr (λ x i d. elim (In-cases i) [ inl q ↦ n (subst D q d) | inr j ↦ h x j d ])
  ]
]

-- the first element with a property
pub record FirstWith (D : ℕ → Type 0) (xs : List ℕ) : Type 0 where
  pub before : List ℕ
  pub element : ℕ
  pub after : List ℕ
  pub is : xs ≡ before ++ element ∷ after
  pub holds : D element
  pub none : (x : ℕ) → In x before → D x → ⊥

pub first_with : (D : ℕ → Type 0) → Decided D → (xs : List ℕ) → FirstWith D xs ⊎ ((x : ℕ) → In x xs → D x → ⊥)
first_with D dec [] = inr (λ x i d. not_in_nil i)
first_with D dec (y ∷ ys) = elim (dec y) [
  | inl d ↦ inl (record { before = []; element = y; after = ys; is = refl; holds = d; none = λ x i k. not_in_nil i })
  | inr n ↦ elim (first_with D dec ys) [
    | inl h ↦ inl (record {
      before = y ∷ h.before;
      element = h.element;
      after = h.after;
      is = ap (λ z. y ∷ z) h.is;
      holds = h.holds;
      none = λ x i d. elim (In-cases i) [ inl q ↦ n (subst D q d) | inr j ↦ h.none x j d ];
    })
    | inr h ↦ inr (λ x i d. elim (In-cases i) [ inl q ↦ n (subst D q d) | inr j ↦ h x j d ])
  ]
]
