-- How long the text of a picture is.
use Rattle.std.proofs.Common.{◌≡◌, ℕ, ◌+◌, ◌*◌, ◌≤◌, List, [], ◌∷◌, ◌++◌, length, ℤ, pos, arith, length-append}
use Rattle.std.specs.Prelude.{codes}
use Rattle.std.specs.List.{AllByRecursion}
use Rattle.std.specs.Fmt.{decimal, signed_decimal}
use Rattle.std.proofs.lemmas.Fmt.{length_signed_le}
use Rattle.st_shape.specs.declared.point.Point.{Point}
use Rattle.st_shape.specs.declared.item.Item.{Item}
use Rattle.st_shape.specs.declared.item.Item.TheVariants.{Dot, Bar, Line, Rect, Face, Label}
use Rattle.st_shape.specs.declared.picture.Form.{Form}
use Rattle.st_shape.specs.Rules.{FitsFrame, HasNames, IsFrame, IsItem, IsPicture, Drawing}
use Rattle.eps_core.specs.Grid.{corner, IsInLargestFrame}
use Rattle.eps_core.specs.Size.{HasShortText}
use Rattle.eps_core.specs.Text.{coordinate, beside, spaced_words, escaped, line_words, name_line, mark_line, item_lines, front_lines, lines, ended, text}
use Rattle.eps_core.proofs.Grids.{fits_corner}
use Rattle.eps_core.proofs.Short.{room, length-spaced_words, name_length, x_length, y_length, words_room, escaped_length, front_short, AreShort}

-- ---- the two lines of an item
one_name : (k : List ℕ) (n : ℤ) (m : ℕ) → length (signed_decimal n) ≤ m → length (spaced_words k (signed_decimal n ∷ [])) ≤ length k + 1 + m
one_name k n m h = omega (arith, length-spaced_words k (signed_decimal n ∷ []), h)

three_names : (k : List ℕ) (n t h : ℤ) (m : ℕ) → length (signed_decimal n) ≤ m → length (signed_decimal t) ≤ m → length (signed_decimal h) ≤ m
    → length (spaced_words k (signed_decimal n ∷ signed_decimal t ∷ signed_decimal h ∷ [])) ≤ length k + 3 + 3 * m
three_names k n t h m a b c = omega (arith, length-spaced_words k (signed_decimal n ∷ signed_decimal t ∷ signed_decimal h ∷ []), a, b, c)

name_room : (it : Item) → HasNames it → length (name_line it) ≤ 66
name_room (Dot n p) h = omega (arith, one_name (codes "%v") n 20 (name_length n h))
name_room (Bar n y from to) h = omega (arith, one_name (codes "%v") n 20 (name_length n h))
name_room (Line n t k points) h = omega (arith, three_names (codes "%e") n t k 20 (name_length n h.0) (name_length t h.1) (name_length k h.2))
name_room (Rect n t k low high) h = omega (arith, three_names (codes "%e") n t k 20 (name_length n h.0) (name_length t h.1) (name_length k h.2))
name_room (Face n x from to) h = omega (arith, length-spaced_words (codes "%f") (decimal n ∷ []), length_signed_le 19 (pos n) (omega (arith, h)) (omega (arith, h)))
name_room (Label n p text) h = omega (arith, one_name (codes "%l") n 20 (name_length n h))

two_points : (a b : Point) → IsInLargestFrame a → IsInLargestFrame b
    → length (spaced_words (codes "newpath") (coordinate a.x ∷ coordinate a.y ∷ codes "moveto" ∷ coordinate b.x ∷ coordinate b.y ∷ codes "lineto" ∷ codes "stroke" ∷ [])) ≤ 76
two_points a b h i =
    omega (
      arith,
      length-spaced_words (codes "newpath") (coordinate a.x ∷ coordinate a.y ∷ codes "moveto" ∷ coordinate b.x ∷ coordinate b.y ∷ codes "lineto" ∷ codes "stroke" ∷ []),
      x_length 36 a (omega arith) h,
      y_length 36 a (omega arith) h,
      x_length 36 b (omega arith) i,
      y_length 36 b (omega arith) i,
    )

-- a label's first line is short
item_room : (it : Item) → HasNames it → FitsFrame corner it → length (name_line it) + length (mark_line it) ≤ 254
item_room (Dot n p) h f =
    omega (
      arith,
      name_room (Dot n p) h,
      length-spaced_words (codes "newpath") (coordinate p.x ∷ coordinate p.y ∷ codes "4" ∷ codes "0" ∷ codes "360" ∷ codes "arc" ∷ codes "fill" ∷ []),
      x_length 36 p (omega arith) f,
      y_length 36 p (omega arith) f,
    )
item_room (Bar n y from to) h f = omega (arith, name_room (Bar n y from to) h, two_points (record { x = from; y = y }) (record { x = to; y = y }) f.0 f.1)
item_room (Line n t k points) h f = omega (arith, name_room (Line n t k points) h, length-spaced_words (codes "newpath") (line_words points), words_room points f.2, f.1)
item_room (Rect n t k low high) h f =
    omega (
      arith,
      name_room (Rect n t k low high) h,
      length-spaced_words (codes "newpath") (coordinate low.x ∷ coordinate low.y ∷ codes "moveto" ∷ coordinate high.x ∷ coordinate low.y ∷ codes "lineto" ∷ coordinate high.x ∷ coordinate high.y ∷ codes "lineto" ∷ coordinate low.x ∷ coordinate high.y ∷ codes "lineto" ∷ codes "closepath" ∷ codes "stroke" ∷ []),
      x_length 36 low (omega arith) f.0,
      y_length 36 low (omega arith) f.0,
      x_length 36 high (omega arith) f.1,
      y_length 36 high (omega arith) f.1,
    )
item_room (Face n x from to) h f = omega (arith, name_room (Face n x from to) h, two_points (record { x = x; y = from }) (record { x = x; y = to }) f.0 f.1)
item_room (Label n p text) h f =
    omega (
      arith,
      one_name (codes "%l") n 20 (name_length n h),
      length-spaced_words (beside p.x) (beside p.y ∷ codes "moveto" ∷ (40 ∷ escaped text ++ 41 ∷ []) ∷ codes "show" ∷ []),
      x_length 42 p (omega arith) f.0,
      y_length 42 p (omega arith) f.0,
      escaped_length text,
      length-append (escaped text) (41 ∷ []),
      f.2,
    )

-- ---- the whole text
length-ended : (l : List ℕ) (ls : List (List ℕ)) → length (ended (l ∷ ls)) ≡ length l + 1 + length (ended ls)
length-ended l ls = omega (arith, length-append (l ++ 10 ∷ []) (ended ls), length-append l (10 ∷ []))

ended-append : (a b : List (List ℕ)) → length (ended (a ++ b)) ≡ length (ended a) + length (ended b)
ended-append [] b = omega arith
ended-append (l ∷ a) b = omega (arith, length-ended l (a ++ b), length-ended l a, ended-append a b)

shorts_room : (ls : List (List ℕ)) → AreShort ls → length (ended ls) ≤ 256 * length ls
shorts_room [] h = omega arith
shorts_room (l ∷ ls) h = omega (arith, length-ended l ls, shorts_room ls h.1, h.0)

items_room : (f : Point) (its : List Item) → IsFrame f → AllByRecursion (IsItem f) its → length (ended (item_lines its)) ≤ 256 * length its
items_room f [] h i = omega arith
items_room f (it ∷ its) h i =
    omega (
      arith,
      length-ended (name_line it) (mark_line it ∷ item_lines its),
      length-ended (mark_line it) (item_lines its),
      item_room it i.0.0 (fits_corner f it h i.0.1),
      items_room f its h i.1,
    )

front_room : (form : Form) (f : Point) → IsFrame f → length (ended (front_lines form f)) ≤ 1536
front_room form f h = omega (arith, shorts_room (front_lines form f) (front_short form f h))

end_room : length (ended (codes "%%EOF" ∷ [])) ≤ 256
end_room = omega arith

pub short_text : HasShortText
unfolding text
short_text d h =
    omega (
      arith,
      ended-append (front_lines d.form d.frame) (item_lines d.items ++ codes "%%EOF" ∷ []),
      ended-append (item_lines d.items) (codes "%%EOF" ∷ []),
      front_room d.form d.frame h.frame,
      items_room d.frame d.items h.frame h.items,
      end_room,
    )
