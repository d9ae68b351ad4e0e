-- Fans: a list of edges round a vertex, from what lies on one side of it to what lies on the other.
--   Fan f g es x y    x lies before the first edge and y after the last, where f e lies before e and g e after it
use Rattle.std.proofs.Common.{ℕ, zero, suc, List, [], ◌∷◌, ◌++◌, length, get_or, ◌≡◌, ◌<◌, refl, sym, ◌∙◌, subst, arith}
use Rattle.std.specs.Prelude.{map}
use Rattle.st_ids.specs.Lists.{In, here, there}

abbrev pub Fan : (ℕ → ℕ) → (ℕ → ℕ) → List ℕ → ℕ → ℕ → Type 0
Fan f g [] x y = x ≡ y
Fan f g (e ∷ es) x y = (f e ≡ x) × Fan f g es (g e) y

pub Fan-append : (f g : ℕ → ℕ) (es fs : List ℕ) (x y z : ℕ) → Fan f g es x y → Fan f g fs y z → Fan f g (es ++ fs) x z
Fan-append f g [] fs x y z h k = subst (λ a. Fan f g fs a z) (sym h) k
Fan-append f g (e ∷ es) fs x y z h k = (h.0, Fan-append f g es fs (g e) y z h.1 k)

-- the same where f and g are the same on the list
pub Fan-same : (f g f' g' : ℕ → ℕ) (es : List ℕ) (x y : ℕ) → ((e : ℕ) → In e es → (f' e ≡ f e) × (g' e ≡ g e)) → Fan f g es x y → Fan f' g' es x y
Fan-same f g f' g' [] x y s h = h
Fan-same f g f' g' (e ∷ es) x y s h = (
  (s e (here refl)).0 ∙ h.0,
  subst (λ a. Fan f' g' es a y) (sym (s e (here refl)).1) (Fan-same f g f' g' es (g e) y (λ d i. s d (there i)) h.1),
)

-- up to the last edge, and after it
pub Fan-last : (f g : ℕ → ℕ) (es : List ℕ) (e x y : ℕ) → Fan f g (es ++ e ∷ []) x y → Fan f g es x (f e) × (g e ≡ y)
Fan-last f g [] e x y h = (sym h.0, h.1)
Fan-last f g (d ∷ es) e x y h = let r = Fan-last f g es e (g d) y h.1 in ((h.0, r.0), r.1)

-- the same fan of what the edges are mapped to
pub Fan-map : (f g f' g' h : ℕ → ℕ) (es : List ℕ) (x y : ℕ) → ((e : ℕ) → In e es → (f' (h e) ≡ f e) × (g' (h e) ≡ g e)) → Fan f g es x y → Fan f' g' (map h es) x y
Fan-map f g f' g' h [] x y s k = k
Fan-map f g f' g' h (e ∷ es) x y s k = (
  (s e (here refl)).0 ∙ k.0,
  subst (λ a. Fan f' g' (map h es) a y) (sym (s e (here refl)).1) (Fan-map f g f' g' h es (g e) y (λ d i. s d (there i)) k.1),
)

-- ---- by places
pub Fan-at_first : (f g : ℕ → ℕ) (es : List ℕ) (x y : ℕ) → 0 < length es → Fan f g es x y → f (get_or es 0 0) ≡ x
Fan-at_first f g [] x y l h = absurd (omega arith)
Fan-at_first f g (e ∷ es) x y l h = h.0

pub Fan-at_next : (f g : ℕ → ℕ) (es : List ℕ) (x y i : ℕ) → suc i < length es → Fan f g es x y → f (get_or es (suc i) 0) ≡ g (get_or es i 0)
Fan-at_next f g [] x y i l h = absurd (omega arith)
Fan-at_next f g (e ∷ es) x y zero l h = Fan-at_first f g es (g e) y (omega arith) h.1
Fan-at_next f g (e ∷ es) x y (suc i) l h = Fan-at_next f g es (g e) y i (omega arith) h.1

pub Fan-at_last : (f g : ℕ → ℕ) (es : List ℕ) (x y i : ℕ) → suc i ≡ length es → Fan f g es x y → g (get_or es i 0) ≡ y
Fan-at_last f g [] x y i l h = absurd (omega arith)
Fan-at_last f g (e ∷ []) x y zero l h = h.1
Fan-at_last f g (e ∷ d ∷ es) x y zero l h = absurd (omega arith)
Fan-at_last f g (e ∷ es) x y (suc i) l h = Fan-at_last f g es (g e) y i (omega arith) h.1
