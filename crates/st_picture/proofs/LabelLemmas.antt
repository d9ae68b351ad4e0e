-- Labels: where they stand, and what adding one does.
--   place_is, place_inside   the place of an item that is known, and that it lies in the frame
--   text_is, name_is         what the tables of names have at a vertex
--   one_label, no_label      the items with one label more, or none
--   places_kept              items that are added behind leave the places of the first ones
use Rattle.std.proofs.Common.{ℕ, zero, suc, List, [], ◌∷◌, ◌++◌, ◌≡◌, ◌<◌, ◌+◌, refl, sym, ap, ◌∙◌, subst, arith, append-nil, append_assoc, ◌≤◌, length, get_or, Option, Some, None, slice_get, ℤ, pos}
use Rattle.std.proofs.lemmas.Option.{slice_get_within, get_or_from_slice_get}
use Rattle.std.proofs.lemmas.List.{length-append}
use Rattle.st_ids.specs.declared.names.Names.{Names}
use Rattle.st_shape.specs.declared.item.Item.{Item}
use Rattle.st_shape.specs.declared.item.Item.TheVariants.{Dot, Bar, Line, Rect, Face, Label}
use Rattle.st_shape.specs.declared.point.Point.{Point}
use Rattle.st_shape.specs.Inside.{IsInside}
use Rattle.st_shape.specs.Rules.{Drawing, FitsFrame, IsItem, IsPicture}
use Rattle.st_picture.specs.Items.{IsFigure, IsFigureAt, label_items, labels, place_at, place_in, item_place}
use Rattle.st_picture.specs.Naming.{label_text, vertex_name}
use Rattle.st_picture.proofs.PlaceLemmas.{all_at}

pub place_is : (items : List Item) (v : ℕ) (x : Item) → slice_get items v ≡ Some x → place_at items v ≡ item_place x
unfolding place_at
place_is items v x q = ap place_in q

fits_place : (frame : Point) (x : Item) → IsFigure x → FitsFrame frame x → IsInside frame (item_place x)
fits_place frame (Dot name p) k h = h
fits_place frame (Bar name y from to) k h = h.0
fits_place frame (Line name tail head points) k h = absurd k
fits_place frame (Rect name tail head low high) k h = absurd k
fits_place frame (Face number x from to) k h = absurd k
fits_place frame (Label name p text) k h = absurd k

pub place_inside : (d : Drawing) (v : ℕ) → IsPicture d → IsFigureAt d.items v → IsInside d.frame (place_at d.items v)
place_inside d v P F = subst (IsInside d.frame) (sym (place_is d.items v F.figure F.is)) (fits_place d.frame F.figure F.kind (all_at (IsItem d.frame) d.items v F.figure P.items F.is).1)

pub text_is : (N : Names) (v : ℕ) (t : Option (List ℕ)) → slice_get N.label v ≡ Some t → label_text N v ≡ t
unfolding label_text
text_is N v t q = get_or_from_slice_get N.label v t None q

pub name_is : (N : Names) (v : ℕ) (n : ℤ) → slice_get N.vertex v ≡ Some n → vertex_name N v ≡ n
unfolding vertex_name
name_is N v n q = get_or_from_slice_get N.vertex v n (pos 0) q

pub no_label : (items : List Item) (n : ℤ) (p : Point) (t : Option (List ℕ)) → t ≡ None → items ++ label_items n p t ≡ items
no_label items n p t q = ap (λ z. items ++ label_items n p z) q ∙ append-nil items

pub one_label : (items : List Item) (n m : ℤ) (p r : Point) (t : Option (List ℕ)) (text : List ℕ) → n ≡ m → p ≡ r → t ≡ Some text → items ++ Label m r text ∷ [] ≡ items ++ label_items n p t
one_label items n m p r t text a b q = sym (ap (λ z. items ++ label_items n p z) q ∙ ap (λ z. items ++ Label z p text ∷ []) a ∙ ap (λ z. items ++ Label m z text ∷ []) b)

read_left : (xs ys : List Item) (v : ℕ) → v < length xs → slice_get (xs ++ ys) v ≡ slice_get xs v
read_left [] ys v l = absurd (omega arith)
read_left (x ∷ xs) ys zero l = refl
read_left (x ∷ xs) ys (suc v) l = read_left xs ys v (omega arith)

pub figure_kept : (xs ys : List Item) (v : ℕ) → IsFigureAt xs v → IsFigureAt (xs ++ ys) v
figure_kept xs ys v F = record { figure = F.figure; is = read_left xs ys v (slice_get_within xs v F.figure F.is) ∙ F.is; kind = F.kind }

pub place_kept : (xs ys : List Item) (v : ℕ) → IsFigureAt xs v → place_at (xs ++ ys) v ≡ place_at xs v
unfolding figure_kept
place_kept xs ys v F = place_is (xs ++ ys) v F.figure (figure_kept xs ys v F).is ∙ sym (place_is xs v F.figure F.is)

-- what is read at a place
pub read_is : (items : List Item) (v : ℕ) (x y : Item) → y ≡ get_or items v y → slice_get items v ≡ Some x → x ≡ y
read_is items v x y r q = sym (get_or_from_slice_get items v x y q) ∙ sym r

-- one label more
pub labels_step : (d : Drawing) (N : Names) (v w : ℕ) (d' e : Drawing) → w ≡ suc v → IsFigureAt d.items v → d' ≡ record d { items = d.items ++ labels N (place_at d.items) v } →
    e ≡ record d' { items = d'.items ++ label_items (vertex_name N v) (place_at d'.items v) (label_text N v) } →
    e ≡ record d { items = d.items ++ labels N (place_at d.items) w }
labels_step d N v w d' e s F p q =
    q ∙ ap (λ z. let x : Drawing = record z { items = z.items ++ label_items (vertex_name N v) (place_at z.items v) (label_text N v) } in x) p
    ∙ ap (λ z. let x : Drawing = record d { items = (d.items ++ labels N (place_at d.items) v) ++ label_items (vertex_name N v) z (label_text N v) } in x) (place_kept d.items (labels N (place_at d.items) v) v F)
    ∙ ap (λ z. let x : Drawing = record d { items = z } in x) (append_assoc d.items (labels N (place_at d.items) v) (label_items (vertex_name N v) (place_at d.items v) (label_text N v)))
    ∙ ap (λ z. let x : Drawing = record d { items = d.items ++ labels N (place_at d.items) z } in x) (sym s)

-- a label is one item at most
pub length-label_items : (n : ℤ) (p : Point) (t : Option (List ℕ)) → length (label_items n p t) ≤ 1
length-label_items n p None = omega arith
length-label_items n p (Some text) = omega arith

pub length-labels : (N : Names) (place : ℕ → Point) (n : ℕ) → length (labels N place n) ≤ n
length-labels N place zero = omega arith
length-labels N place (suc n) =
    let h : length (labels N place n) ≤ n = length-labels N place n in
    let k : length (label_items (vertex_name N n) (place n) (label_text N n)) ≤ 1 = length-label_items (vertex_name N n) (place n) (label_text N n) in
    let l = length-append (labels N place n) (label_items (vertex_name N n) (place n) (label_text N n)) in
    omega arith

pub items_few : (d : Drawing) (N : Names) (v : ℕ) (d' : Drawing) → d' ≡ record d { items = d.items ++ labels N (place_at d.items) v } → length d'.items ≤ length d.items + v
items_few d N v d' p =
    let q : length d'.items ≡ length (d.items ++ labels N (place_at d.items) v) = ap (λ z. length z.items) p in
    let l = length-append d.items (labels N (place_at d.items) v) in
    let k : length (labels N (place_at d.items) v) ≤ v = length-labels N (place_at d.items) v in
    omega arith
