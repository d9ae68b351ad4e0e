-- At most one fault is the one that is named first.
use Rattle.std.proofs.Common.{◌≡◌, ℕ, ◌<◌, ◌≤◌, List, inl, inr, ap, ap₂, sym, subst, refl, arith}
use Rattle.std.proofs.lemmas.Bool.{cases_lt}
use Rattle.st_shape.specs.declared.point.Point.{Point}
use Rattle.st_shape.specs.declared.item.Item.{Item}
use Rattle.st_shape.specs.declared.picture.Fault.{Fault}
use Rattle.st_shape.specs.declared.picture.Fault.TheVariants.{Alone, Pair, Area}
use Rattle.st_shape.specs.declared.picture.Form.{Form}
use Rattle.st_shape.specs.Boxes.{IsTilingFault}
use Rattle.st_shape.specs.Least.{IsLeastItem, IsLeastPair}
use Rattle.st_shape.specs.Verdict.{IsClean, IsFault}

same_from_order : (a b : ℕ) → (a < b → ⊥) → (b < a → ⊥) → a ≡ b
same_from_order a b h k =
    elim (cases_lt a b) [
      | inl less ↦ absurd (h less)
      | inr more ↦ elim (cases_lt b a) [ inl less ↦ absurd (k less) | inr same ↦ both a b more same ]
    ]
  where
    both : (a b : ℕ) → b ≤ a → a ≤ b → a ≡ b
    both a b h k = omega arith

least_item : (n : ℕ) (F : ℕ → Type 0) (i j : ℕ) → IsLeastItem n F i → IsLeastItem n F j → i ≡ j
least_item n F i j h k = same_from_order i j (λ less. k.least i less h.faulty) (λ less. h.least j less k.faulty)

least_first : (n : ℕ) (F : ℕ → ℕ → Type 0) (i j k l : ℕ) → IsLeastPair n F i j → IsLeastPair n F k l → i ≡ k
least_first n F i j k l h g =
    same_from_order i k (λ less. g.least_first i j less h.order h.within h.faulty) (λ less. h.least_first k l less g.order g.within g.faulty)

least_second : (n : ℕ) (F : ℕ → ℕ → Type 0) (i j l : ℕ) → IsLeastPair n F i j → IsLeastPair n F i l → j ≡ l
least_second n F i j l h g =
    same_from_order j l (λ less. g.least_second j h.order less h.faulty) (λ less. h.least_second l g.order less g.faulty)

least_pair : (n : ℕ) (F : ℕ → ℕ → Type 0) (i j k l : ℕ) → IsLeastPair n F i j → IsLeastPair n F k l → Pair i j ≡ Pair k l
least_pair n F i j k l h g =
    let e = least_first n F i j k l h g in
    let f = least_second n F i j l h (subst (λ m. IsLeastPair n F m l) (sym e) g) in
    ap₂ (λ a b. Pair a b) e f

pub IsFault-unique : (form : Form) (items : List Item) (f g : Fault) → IsFault form items f → IsFault form items g → f ≡ g
IsFault-unique form items (Alone i) (Alone j) h k = ap (λ a. Alone a) (least_item _ _ i j h k)
IsFault-unique form items (Alone i) (Pair k l) h g = absurd (g.alone i h.within h.faulty)
IsFault-unique form items (Alone i) Area h g = absurd g
IsFault-unique form items (Pair i j) (Alone k) h g = absurd (h.alone k g.within g.faulty)
IsFault-unique form items (Pair i j) (Pair k l) h g = least_pair _ _ i j k l h.least g.least
IsFault-unique form items (Pair i j) Area h g = absurd g
IsFault-unique form items Area g h k = absurd h

pub IsFault-clean : (form : Form) (items : List Item) (f : Fault) → IsClean form items → IsFault form items f → ⊥
IsFault-clean form items (Alone i) c h = c.alone i h.within h.faulty
IsFault-clean form items (Pair i j) c h = c.pairs i j h.least.order h.least.within h.least.faulty
IsFault-clean form items Area c h = h

pub IsTilingFault-unique : (frame : Point) (items : List Item) (f g : Fault) → IsTilingFault frame items f → IsTilingFault frame items g → f ≡ g
IsTilingFault-unique frame items (Alone i) g h k = absurd h
IsTilingFault-unique frame items (Pair i j) (Alone k) h g = absurd g
IsTilingFault-unique frame items (Pair i j) (Pair k l) h g = least_pair _ _ i j k l h g
IsTilingFault-unique frame items (Pair i j) Area h g = absurd (g.pairs i j h.order h.within h.faulty)
IsTilingFault-unique frame items Area (Alone k) h g = absurd g
IsTilingFault-unique frame items Area (Pair k l) h g = absurd (h.pairs k l g.order g.within g.faulty)
IsTilingFault-unique frame items Area Area h g = refl
