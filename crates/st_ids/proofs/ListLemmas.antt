-- Membership, repeats and order in lists of numbers.
use Rattle.std.proofs.Common.{ℕ, List, [], ◌∷◌, ◌++◌, ◌≡◌, ◌⊎◌, inl, inr, refl, sym, ap, subst}
use Rattle.std.proofs.lemmas.Bool.{cases_eq}
use Rattle.st_ids.specs.Lists.{In, here, there, NoRepeat, Precedes, FirstIs}

pub not_in_nil : {x : ℕ} → In x [] → ⊥
not_in_nil i = elim i [ ]

pub In-cases : {x y : ℕ} {ys : List ℕ} → In x (y ∷ ys) → (x ≡ y) ⊎ In x ys
In-cases (here e) = inl e
In-cases (there i) = inr i

pub in_left : {x : ℕ} {xs : List ℕ} (ys : List ℕ) → In x xs → In x (xs ++ ys)
in_left ys (here e) = here e
in_left ys (there i) = there (in_left ys i)

pub in_right : {x : ℕ} (xs : List ℕ) {ys : List ℕ} → In x ys → In x (xs ++ ys)
in_right [] i = i
in_right (y ∷ xs) i = there (in_right xs i)

pub in_append : {x : ℕ} (xs : List ℕ) {ys : List ℕ} → In x (xs ++ ys) → In x xs ⊎ In x ys
in_append [] i = inr i
in_append (y ∷ xs) (here e) = inl (here e)
in_append (y ∷ xs) (there i) = elim (in_append xs i) [ inl a ↦ inl (there a) | inr b ↦ inr b ]

pub in_dec : (x : ℕ) (xs : List ℕ) → In x xs ⊎ (In x xs → ⊥)
in_dec x [] = inr not_in_nil
in_dec x (y ∷ ys) = elim (cases_eq x y) [
  | inl e ↦ inl (here e)
  | inr n ↦ elim (in_dec x ys) [
    | inl i ↦ inl (there i)
    | inr m ↦ inr (λ k. elim (In-cases k) [ inl e ↦ n e | inr i ↦ m i ])
  ]
]

-- a list cut at one of its elements
pub record Cut (x : ℕ) (xs : List ℕ) : Type 0 where
  pub before : List ℕ
  pub after : List ℕ
  pub is : xs ≡ before ++ x ∷ after

pub cut_at : {x : ℕ} {xs : List ℕ} → In x xs → Cut x xs
cut_at {x} (here {y} {ys} e) = record { before = []; after = ys; is = ap (λ z. z ∷ ys) (sym e) }
cut_at (there {y} i) =
    let c = cut_at i in
    record { before = y ∷ c.before; after = c.after; is = ap (λ zs. y ∷ zs) c.is }

pub in_subst : {x y : ℕ} {xs : List ℕ} → x ≡ y → In x xs → In y xs
in_subst {x} {y} {xs} e i = subst (λ z. In z xs) e i

-- ---- order in a list
pub Precedes-right : (xs : List ℕ) (a b : ℕ) → Precedes a b xs → In b xs
Precedes-right [] a b h = absurd h
Precedes-right (x ∷ xs) a b (inl h) = there h.1
Precedes-right (x ∷ xs) a b (inr h) = there (Precedes-right xs a b h)

pub Precedes-left : (xs : List ℕ) (a b : ℕ) → Precedes a b xs → In a xs
Precedes-left [] a b h = absurd h
Precedes-left (x ∷ xs) a b (inl h) = here h.0
Precedes-left (x ∷ xs) a b (inr h) = there (Precedes-left xs a b h)

pub Precedes_trans : (xs : List ℕ) (a b c : ℕ) → NoRepeat xs → Precedes a b xs → Precedes b c xs → Precedes a c xs
Precedes_trans [] a b c once h k = absurd h
Precedes_trans (x ∷ xs) a b c once (inl h) (inl k) = absurd (once.0 (in_subst k.0 h.1))
Precedes_trans (x ∷ xs) a b c once (inl h) (inr k) = inl (h.0, Precedes-right xs b c k)
Precedes_trans (x ∷ xs) a b c once (inr h) (inl k) = absurd (once.0 (in_subst k.0 (Precedes-right xs a b h)))
Precedes_trans (x ∷ xs) a b c once (inr h) (inr k) = inr (Precedes_trans xs a b c once.1 h k)

pub Precedes_irrefl : (xs : List ℕ) (a : ℕ) → NoRepeat xs → Precedes a a xs → ⊥
Precedes_irrefl [] a once h = absurd h
Precedes_irrefl (x ∷ xs) a once (inl h) = once.0 (in_subst h.0 h.1)
Precedes_irrefl (x ∷ xs) a once (inr h) = Precedes_irrefl xs a once.1 h

-- ---- a list put back to front before another
abbrev pub turn : List ℕ → List ℕ → List ℕ
turn [] ys = ys
turn (x ∷ xs) ys = turn xs (x ∷ ys)

pub turn_right : {x : ℕ} (xs ys : List ℕ) → In x ys → In x (turn xs ys)
turn_right [] ys i = i
turn_right (y ∷ xs) ys i = turn_right xs (y ∷ ys) (there i)

pub turn_left : {x : ℕ} (xs ys : List ℕ) → In x xs → In x (turn xs ys)
turn_left [] ys i = absurd (not_in_nil i)
turn_left (y ∷ xs) ys (here q) = turn_right xs (y ∷ ys) (here q)
turn_left (y ∷ xs) ys (there j) = turn_left xs (y ∷ ys) j

pub in_turn : {x : ℕ} (xs ys : List ℕ) → In x (turn xs ys) → In x xs ⊎ In x ys
in_turn [] ys i = inr i
in_turn (y ∷ xs) ys i = elim (in_turn xs (y ∷ ys) i) [
  | inl j ↦ inl (there j)
  | inr j ↦ elim (In-cases j) [ inl q ↦ inl (here q) | inr k ↦ inr k ]
]

pub turn_once : (xs ys : List ℕ) → NoRepeat xs → NoRepeat ys → ((x : ℕ) → In x xs → In x ys → ⊥) → NoRepeat (turn xs ys)
turn_once [] ys h k d = k
turn_once (x ∷ xs) ys h k d = turn_once xs (x ∷ ys) h.1 ((λ i. d x (here refl) i), k) (λ y i j. elim (In-cases j) [ inl q ↦ h.0 (in_subst q i) | inr m ↦ d y (there i) m ])

pub turned_once : (xs ys : List ℕ) → NoRepeat (turn xs ys) → NoRepeat ys
turned_once [] ys h = h
turned_once (x ∷ xs) ys h = (turned_once xs (x ∷ ys) h).1

pub turned_apart : (xs ys : List ℕ) → NoRepeat (turn xs ys) → (x : ℕ) → In x xs → In x ys → ⊥
turned_apart [] ys h x i j = not_in_nil i
turned_apart (y ∷ xs) ys h x (here q) j = (turned_once xs (y ∷ ys) h).0 (in_subst q j)
turned_apart (y ∷ xs) ys h x (there i) j = turned_apart xs (y ∷ ys) h x i (there j)

pub turn_keeps : (xs ys : List ℕ) (a b : ℕ) → Precedes a b ys → Precedes a b (turn xs ys)
turn_keeps [] ys a b h = h
turn_keeps (x ∷ xs) ys a b h = turn_keeps xs (x ∷ ys) a b (inr h)

pub turn_before : (xs ys : List ℕ) (a b : ℕ) → In a xs → In b ys → Precedes a b (turn xs ys)
turn_before [] ys a b i j = absurd (not_in_nil i)
turn_before (x ∷ xs) ys a b (here q) j = turn_keeps xs (x ∷ ys) a b (inl (q, j))
turn_before (x ∷ xs) ys a b (there i) j = turn_before xs (x ∷ ys) a b i (there j)

pub turned_Precedes : (xs ys : List ℕ) (a b : ℕ) → Precedes a b (turn xs ys) → In a xs ⊎ Precedes a b ys
turned_Precedes [] ys a b h = inr h
turned_Precedes (x ∷ xs) ys a b h = elim (turned_Precedes xs (x ∷ ys) a b h) [
  | inl i ↦ inl (there i)
  | inr k ↦ elim k [ inl m ↦ inl (here m.0) | inr m ↦ inr m ]
]

-- ---- a first element
pub record First (P : ℕ → Type 0) (xs : List ℕ) : Type 0 where
  pub element : ℕ
  pub within : In element xs
  pub holds : P element

pub first_of : (P : ℕ → Type 0) (xs : List ℕ) → FirstIs P xs → First P xs
first_of P [] h = absurd h
first_of P (x ∷ xs) h = record { element = x; within = here refl; holds = h }

pub FirstIs-weaken : (P Q : ℕ → Type 0) (xs : List ℕ) → ((x : ℕ) → In x xs → P x → Q x) → FirstIs P xs → FirstIs Q xs
FirstIs-weaken P Q [] f h = h
FirstIs-weaken P Q (x ∷ xs) f h = f x (here refl) h
