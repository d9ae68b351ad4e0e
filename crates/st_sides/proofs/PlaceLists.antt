-- From places in lists to membership.
use Rattle.std.proofs.Common.{◌≡◌, ◌≢◌, ℕ, zero, suc, ◌-◌, ◌<◌, List, [], ◌∷◌, length, get_or, sym, subst, arith}
use Rattle.st_sides.specs.Conditions.{ListsOnce}
use Rattle.st_sides.specs.LocalSides.{last}
use Rattle.st_ids.specs.Lists.{In, here, there, NoRepeat, Linked, FirstIs, EndIs, LastIs, Lists}

pub in_at : (x : ℕ) (es : List ℕ) (i : ℕ) → i < length es → get_or es i 0 ≡ x → In x es
in_at x [] i l e = absurd (omega arith)
in_at x (y ∷ ys) zero l e = here (sym e)
in_at x (y ∷ ys) (suc i) l e = there (in_at x ys i (omega arith) e)

pub at_in : {x : ℕ} {es : List ℕ} → In x es → (i : ℕ) × (i < length es) × (get_or es i 0 ≡ x)
at_in (here e) = (0, omega arith, sym e)
at_in (there {y} {ys} i) = let r : (i : ℕ) × (i < length ys) × (get_or ys i 0 ≡ _) = at_in i in (suc r.0, omega (arith, r.1), r.2)

pub no_repeat : (es : List ℕ) → ((i j : ℕ) → i < j → j < length es → get_or es i 0 ≢ get_or es j 0) → NoRepeat es
no_repeat [] once = tt
no_repeat (x ∷ xs) once = (
  λ i. let r : (k : ℕ) × (k < length xs) × (get_or xs k 0 ≡ x) = at_in i in once 0 (suc r.0) (omega arith) (omega (arith, r.1)) (sym r.2),
  no_repeat xs (λ i j l m. once (suc i) (suc j) (omega arith) (omega arith)),
)

pub lists_from : (n : ℕ) (P Q : ℕ → Type 0) (es : List ℕ) → ((e : ℕ) → e < n → P e → Q e) → ((e : ℕ) → Q e → (e < n) × P e) → ListsOnce n P es → Lists es Q
lists_from n P Q es to from h = record {
  only = λ x i. let r : (k : ℕ) × (k < length es) × (get_or es k 0 ≡ x) = at_in i in
      subst Q r.2 (to (get_or es r.0 0) (h.only r.0 r.1).0 (h.only r.0 r.1).1);
  all = λ x q. let p : (x < n) × P x = from x q in
      let r : (k : ℕ) × (k < length es) × (get_or es k 0 ≡ x) = h.each x p.0 p.1 in in_at x es r.0 r.1 r.2;
  once = no_repeat es h.once;
}

pub linked_from : (R : ℕ → ℕ → Type 0) (es : List ℕ) → ((i : ℕ) → suc i < length es → R (get_or es i 0) (get_or es (suc i) 0)) → Linked R es
linked_from R [] h = tt
linked_from R (x ∷ []) h = (tt, tt)
linked_from R (x ∷ y ∷ ys) h = (h 0 (omega arith), linked_from R (y ∷ ys) (λ i l. h (suc i) (omega arith)))

pub first_from : (P : ℕ → Type 0) (es : List ℕ) → 0 < length es → P (get_or es 0 0) → FirstIs P es
first_from P [] l h = omega arith
first_from P (x ∷ xs) l h = h

end_from : (P : ℕ → Type 0) (x : ℕ) (xs : List ℕ) → P (get_or (x ∷ xs) (length xs) 0) → EndIs P x xs
end_from P x [] h = h
end_from P x (y ∷ ys) h = end_from P y ys h

pub last_from : (P : ℕ → Type 0) (es : List ℕ) → 0 < length es → P (last es) → LastIs P es
last_from P [] l h = omega arith
last_from P (x ∷ xs) l h = end_from P x xs (subst (λ k. P (get_or (x ∷ xs) k 0)) (let e : length (x ∷ xs) - 1 ≡ length xs = omega arith in e) h)
