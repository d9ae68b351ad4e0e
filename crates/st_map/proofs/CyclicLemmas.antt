-- The entry after another in a cyclic list, and entries renumbered.
use Rattle.std.proofs.Common.{◌≡◌, ◌≢◌, ℕ, zero, suc, ◌<◌, eqb, List, [], ◌∷◌, map, length, get_or, inl, inr, refl, sym, ap, ◌∙◌, subst, arith}
use Rattle.std.proofs.lemmas.Bool.{cases_eq, eq-eqb, ne_eqb, cond-true, cond-false}
use Rattle.st_ids.specs.Lists.{In, here, there, NoRepeat}
use Rattle.st_ids.proofs.Public.{not_in_nil, In-cases, in_subst}
use Rattle.st_map.specs.Embedded.{Embedded, HasOrders, darts, order, at, after, next}

-- ---- places and membership
pub in_at : (x : ℕ) (es : List ℕ) (i : ℕ) → i < length es → get_or es i 0 ≡ x → In x es
in_at x [] i l e = absurd (omega arith)
in_at x (y ∷ ys) zero l e = here (sym e)
in_at x (y ∷ ys) (suc i) l e = there (in_at x ys i (omega arith) e)

pub at_in : {x : ℕ} {es : List ℕ} → In x es → (i : ℕ) × (i < length es) × (get_or es i 0 ≡ x)
at_in (here e) = (0, omega arith, sym e)
at_in (there {y} {ys} i) = let r : (i : ℕ) × (i < length ys) × (get_or ys i 0 ≡ _) = at_in i in (suc r.0, omega (arith, r.1), r.2)

pub apart_at : (es : List ℕ) → NoRepeat es → (i j : ℕ) → i < j → j < length es → get_or es i 0 ≢ get_or es j 0
apart_at [] once i j l m e = omega arith
apart_at (x ∷ xs) once i zero l m e = omega arith
apart_at (x ∷ xs) once zero (suc j) l m e = once.0 (in_at x xs j (omega arith) (sym e))
apart_at (x ∷ xs) once (suc i) (suc j) l m e = apart_at xs once.1 i j (omega arith) (omega arith) e

pub NoRepeat-from_places : (xs : List ℕ) → ((i j : ℕ) → i < j → j < length xs → get_or xs i 0 ≢ get_or xs j 0) → NoRepeat xs
NoRepeat-from_places [] h = tt
NoRepeat-from_places (x ∷ xs) h = (
  (λ i. let r = at_in i in h 0 (suc r.0) (omega arith) (omega (arith, r.1)) (sym r.2)),
  NoRepeat-from_places xs (λ i j l m. h (suc i) (suc j) (omega arith) (omega arith)),
)

pub record Members (g : Embedded) : Type 0 where
  pub own : (v d : ℕ) → v < g.vertices → In d (order g v) → (d < darts g) × (at g d ≡ v)
  pub all : (d : ℕ) → d < darts g → In d (order g (at g d))
  pub once : (v : ℕ) → v < g.vertices → NoRepeat (order g v)

pub members_of : (g : Embedded) → HasOrders g → Members g
members_of g O = record {
  own = λ v d l i. (let r : (k : ℕ) × (k < length (order g v)) × (get_or (order g v) k 0 ≡ d) = at_in i in subst (λ z. (z < darts g) × (at g z ≡ v)) r.2 (O.own v r.0 l r.1));
  all = λ d l. (let r = O.listed d l in in_at d (order g (at g d)) r.0 r.1 r.2);
  once = λ v l. NoRepeat-from_places (order g v) (λ i j k m. O.once v i j l k m);
}

pub orders_of : (g : Embedded) → Members g → HasOrders g
orders_of g M = record {
  own = λ v i l k. M.own v (get_or (order g v) i 0) l (in_at (get_or (order g v) i 0) (order g v) i k refl);
  listed = λ d l. at_in (M.all d l);
  once = λ v i j l k m. apart_at (order g v) (M.once v l) i j k m;
}

-- ---- the entry after d in a cyclic list
abbrev pub cyclic : List ℕ → ℕ → ℕ
cyclic l d = after (get_or l 0 d) l d

pub next_is : (g : Embedded) (d v : ℕ) → at g d ≡ v → next g d ≡ cyclic (order g v) d
unfolding next
next_is g d v e = ap (λ u. after (get_or (order g u) 0 d) (order g u) d) e

pub after_yes : (f x d : ℕ) (xs : List ℕ) → x ≡ d → after f (x ∷ xs) d ≡ get_or xs 0 f
after_yes f x d xs e = cond-true (eqb x d) (get_or xs 0 f) (after f xs d) (eq-eqb x d e)

pub after_no : (f x d : ℕ) (xs : List ℕ) → x ≢ d → after f (x ∷ xs) d ≡ after f xs d
after_no f x d xs n = cond-false (eqb x d) (get_or xs 0 f) (after f xs d) (ne_eqb x d n)

-- ---- entries renumbered
module _ (q : ℕ → ℕ) where
  pub map_in : (l : List ℕ) (x : ℕ) → In x (map q l) → (c : ℕ) × In c l × (x ≡ q c)
  map_in [] x i = absurd (not_in_nil i)
  map_in (y ∷ ys) x i = elim (In-cases i) [
    | inl e ↦ (y, here refl, e)
    | inr j ↦ (let r = map_in ys x j in (r.0, there r.1, r.2))
  ]

  pub in_map : (l : List ℕ) (x : ℕ) → In x l → In (q x) (map q l)
  in_map [] x i = absurd (not_in_nil i)
  in_map (y ∷ ys) x i = elim (In-cases i) [ inl e ↦ here (ap q e) | inr j ↦ there (in_map ys x j) ]

  pub map_once : (l : List ℕ) → ((x y : ℕ) → In x l → In y l → q x ≡ q y → x ≡ y) → NoRepeat l → NoRepeat (map q l)
  map_once [] one h = tt
  map_once (y ∷ ys) one h = (
    (λ i. let r = map_in ys (q y) i in h.0 (in_subst (sym (one y r.0 (here refl) (there r.1) r.2)) r.1)),
    map_once ys (λ a b i j. one a b (there i) (there j)) h.1,
  )

  map_after : (f : ℕ) (l : List ℕ) (d : ℕ) → ((x : ℕ) → In x l → q x ≡ q d → x ≡ d) → after (q f) (map q l) (q d) ≡ q (after f l d)
  map_after f [] d one = refl
  map_after f (x ∷ xs) d one = elim (cases_eq x d) [
    | inl e ↦ after_yes (q f) (q x) (q d) (map q xs) (ap q e) ∙ head xs ∙ ap q (sym (after_yes f x d xs e))
    | inr n ↦ after_no (q f) (q x) (q d) (map q xs) (λ k. n (one x (here refl) k)) ∙ map_after f xs d (λ y i. one y (there i)) ∙ ap q (sym (after_no f x d xs n))
  ]
    where
      head : (xs : List ℕ) → get_or (map q xs) 0 (q f) ≡ q (get_or xs 0 f)
      head [] = refl
      head (y ∷ ys) = refl

  pub cyclic_map : (l : List ℕ) (d : ℕ) → ((x : ℕ) → In x l → q x ≡ q d → x ≡ d) → cyclic (map q l) (q d) ≡ q (cyclic l d)
  cyclic_map l d one = ap (λ f. after f (map q l) (q d)) (head l) ∙ map_after (get_or l 0 d) l d one
    where
      head : (l : List ℕ) → get_or (map q l) 0 (q d) ≡ q (get_or l 0 d)
      head [] = refl
      head (y ∷ ys) = refl

-- a list of two
pub cyclic_first : (a b : ℕ) → cyclic (a ∷ b ∷ []) a ≡ b
cyclic_first a b = after_yes a a a (b ∷ []) refl

pub cyclic_second : (a b : ℕ) → a ≢ b → cyclic (a ∷ b ∷ []) b ≡ a
cyclic_second a b n = after_no a a b (b ∷ []) n ∙ after_yes a b b [] refl
