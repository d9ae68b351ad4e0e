-- What a frame holds can be printed, and lines one after another.
use Rattle.std.proofs.lemmas.List.{take_more, take-append-drop, take_rest}
use Rattle.std.specs.Prelude.{codes}
use Rattle.std.proofs.Common.{◌-◌, ◌<◌, ◌≤◌, ◌+◌, length, get_or, take, drop, ◌≡◌, ℕ, List, [], ◌∷◌, ◌++◌, ap, ◌∙◌, sym, refl, arith, append_assoc, append-nil}
use Rattle.std.proofs.lemmas.Int.{ints}
use Rattle.std.specs.List.{AllByRecursion}
use Rattle.st_shape.specs.declared.point.Point.{Point}
use Rattle.st_shape.specs.declared.item.Item.{Item}
use Rattle.st_shape.specs.declared.item.Item.TheVariants.{Dot, Bar, Line, Rect, Face, Label}
use Rattle.st_shape.specs.Inside.{IsInside}
use Rattle.st_shape.specs.Rules.{FitsFrame, IsFrame, IsItem, Drawing}
use Rattle.eps_core.specs.Grid.{corner, IsInLargestFrame, AreInLargestFrame}
use Rattle.eps_core.specs.Text.{ended, item_lines, name_line, mark_line, front_lines, text}

inside_corner : (f p : Point) → IsFrame f → IsInside f p → IsInLargestFrame p
inside_corner f p h i = record { left = i.left; right = omega (arith, ints, i.right, h.right); low = i.low; high = omega (arith, ints, i.high, h.high) }

all_on_grid : (f : Point) (ps : List Point) → IsFrame f → AllByRecursion (IsInside f) ps → AreInLargestFrame ps
all_on_grid f [] h i = tt
all_on_grid f (p ∷ ps) h i = (inside_corner f p h i.0, all_on_grid f ps h i.1)

pub fits_corner : (f : Point) (it : Item) → IsFrame f → FitsFrame f it → FitsFrame corner it
fits_corner f (Dot name p) h i = inside_corner f p h i
fits_corner f (Bar name y from to) h i = (inside_corner f _ h i.0, inside_corner f _ h i.1, i.2)
fits_corner f (Line name tail head points) h i = (i.0, i.1, all_on_grid f points h i.2)
fits_corner f (Rect name tail head low high) h i = (inside_corner f _ h i.0, inside_corner f _ h i.1, i.2, i.3)
fits_corner f (Face number x from to) h i = (inside_corner f _ h i.0, inside_corner f _ h i.1, i.2)
fits_corner f (Label name p text) h i = (inside_corner f p h i.0, i.1, i.2, i.3)

pub all_fit_corner : (f : Point) (its : List Item) → IsFrame f → AllByRecursion (IsItem f) its → AllByRecursion (FitsFrame corner) its
all_fit_corner f [] h i = tt
all_fit_corner f (it ∷ its) h i = (fits_corner f it h i.0.1, all_fit_corner f its h i.1)

pub ended-append : (xs ys : List (List ℕ)) → ended (xs ++ ys) ≡ ended xs ++ ended ys
ended-append [] ys = refl
ended-append (x ∷ xs) ys = ap (λ l. (x ++ 10 ∷ []) ++ l) (ended-append xs ys) ∙ sym (append_assoc (x ++ 10 ∷ []) (ended xs) (ended ys))

pub item_lines-append : (xs ys : List Item) → item_lines (xs ++ ys) ≡ item_lines xs ++ item_lines ys
item_lines-append [] ys = refl
item_lines-append (x ∷ xs) ys = ap (λ l. name_line x ∷ mark_line x ∷ l) (item_lines-append xs ys)

-- the first line, as a slice pattern reads it
pub ended_first : (xs : List (List ℕ)) (x : List ℕ) → 1 ≤ length xs → x ≡ get_or xs 0 x → ended xs ≡ (x ++ 10 ∷ []) ++ ended (drop 1 xs)
ended_first [] x h e = absurd (omega arith)
ended_first (y ∷ ys) x h e = ap (λ (l : List ℕ). (l ++ 10 ∷ []) ++ ended ys) (sym e)

pub items_more : (its : List Item) (i : ℕ) (it : Item) → i < length its → it ≡ get_or its i it
    → ended (item_lines (take i its)) ++ ended (name_line it ∷ mark_line it ∷ []) ≡ ended (item_lines (take (i + 1) its))
items_more its i it h e =
    let step : take (i + 1) its ≡ take i its ++ it ∷ [] = take_more its i it h ∙ ap (λ x. take i its ++ x ∷ []) (sym e) in
    sym (ap (λ xs. ended (item_lines xs)) step ∙ ap ended (item_lines-append (take i its) (it ∷ [])) ∙ ended-append (item_lines (take i its)) (item_lines (it ∷ [])))

pub items_whole : (its : List Item) (i : ℕ) (it : Item) → i < length its → it ≡ get_or its i it
    → (ended (item_lines (take i its)) ++ ended (name_line it ∷ mark_line it ∷ [])) ++ ended (item_lines (drop (i + 1) its)) ≡ ended (item_lines its)
items_whole its i it h e =
    ap (λ l. l ++ ended (item_lines (drop (i + 1) its))) (items_more its i it h e)
    ∙ sym (ended-append (item_lines (take (i + 1) its)) (item_lines (drop (i + 1) its)))
    ∙ ap ended (sym (item_lines-append (take (i + 1) its) (drop (i + 1) its)))
    ∙ ap (λ xs. ended (item_lines xs)) (take-append-drop (i + 1) its)

pub text_parts : (d : Drawing) → (ended (front_lines d.form d.frame) ++ ended (item_lines d.items)) ++ ended (codes "%%EOF" ∷ []) ≡ text d
unfolding text
text_parts d =
    append_assoc (ended (front_lines d.form d.frame)) (ended (item_lines d.items)) (ended (codes "%%EOF" ∷ []))
    ∙ ap (λ l. ended (front_lines d.form d.frame) ++ l) (sym (ended-append (item_lines d.items) (codes "%%EOF" ∷ [])))
    ∙ sym (ended-append (front_lines d.form d.frame) (item_lines d.items ++ codes "%%EOF" ∷ []))

-- the same, with the rest as a slice pattern has it
pub ended_split : (xs : List (List ℕ)) (x : List ℕ) → 1 ≤ length xs → x ≡ get_or xs 0 x → ended xs ≡ (x ++ 10 ∷ []) ++ ended (take (length xs - 1) (drop 1 xs))
ended_split xs x h e = ended_first xs x h e ∙ ap (λ l. (x ++ 10 ∷ []) ++ ended l) (sym (take_rest xs 1))

pub text_parts_first : (d : Drawing) → ended (front_lines d.form d.frame) ++ (ended (item_lines d.items) ++ ended (codes "%%EOF" ∷ [])) ≡ text d
text_parts_first d = sym (append_assoc (ended (front_lines d.form d.frame)) (ended (item_lines d.items)) (ended (codes "%%EOF" ∷ []))) ∙ text_parts d

-- the two lines of an item
pub two_ended : (x y : List ℕ) → (x ++ 10 ∷ []) ++ (y ++ 10 ∷ []) ≡ ended (x ∷ y ∷ [])
two_ended x y = ap (λ l. (x ++ 10 ∷ []) ++ l) (sym (append-nil (y ++ 10 ∷ [])))
