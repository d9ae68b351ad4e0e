-- No line is longer than 255 bytes.
use Rattle.std.proofs.Common.{◌≡◌, ℕ, ◌+◌, ◌*◌, ◌≤◌, Bool, true, false, List, [], ◌∷◌, ◌++◌, length, ℤ, pos, negsuc, arith, length-append}
use Rattle.std.specs.Prelude.{if◌then◌else◌, ◌||◌, ◌==◌, ◌≤ℤ◌, codes}
use Rattle.std.proofs.lemmas.Fmt.{length_signed_le}
use Rattle.std.proofs.lemmas.Int.{ints}
use Rattle.std.specs.List.{AllByRecursion}
use Rattle.std.specs.Fmt.{decimal, signed_decimal}
use Rattle.std.specs.Int.{w64}
use Rattle.std.specs.Int.RustNames.{FitsSigned}
use Rattle.st_ids.specs.declared.limits.TheConstants.{MOST_COORDINATE}
use Rattle.st_shape.specs.declared.point.Point.{Point}
use Rattle.st_shape.specs.declared.item.Item.{Item}
use Rattle.st_shape.specs.declared.item.Item.TheVariants.{Dot, Bar, Line, Rect, Face, Label}
use Rattle.st_shape.specs.declared.picture.Form.{Form}
use Rattle.st_shape.specs.declared.picture.Form.TheVariants.{Visibility, Tessellation, Constrained, Polyline, Dominance}
use Rattle.st_shape.specs.Rules.{FitsFrame, HasNames, IsFrame, IsItem, IsPicture, Drawing}
use Rattle.eps_core.specs.Grid.{corner, IsInLargestFrame, AreInLargestFrame}
use Rattle.eps_core.specs.Text.{coordinate, beside, spaced_words, escaped, path, line_words, name_line, mark_line, item_lines, front_lines, form_name, lines}
use Rattle.eps_core.specs.Meaning.{IsShort}
use Rattle.eps_core.proofs.Decodes.{put}
use Rattle.eps_core.proofs.Grids.{fits_corner}

-- the bytes of the words, with the spaces before them
abbrev pub room : List (List ℕ) → ℕ
room [] = 0
room (w ∷ ws) = length w + 1 + room ws

pub length-spaced_words : (l : List ℕ) (ws : List (List ℕ)) → length (spaced_words l ws) ≡ length l + room ws
length-spaced_words l [] = omega arith
length-spaced_words l (w ∷ ws) = omega (arith, length-spaced_words (l ++ 32 ∷ w) ws, length-append l (32 ∷ w))

short_spaced : (l : List ℕ) (ws : List (List ℕ)) → length l + room ws ≤ 255 → IsShort (spaced_words l ws)
short_spaced l ws h = omega (arith, length-spaced_words l ws, h)

pub name_length : (z : ℤ) → FitsSigned w64 z → length (signed_decimal z) ≤ 20
name_length (pos n) h = length_signed_le 19 (pos n) (omega (arith, h.sfits)) (omega (arith, h.sfits))
name_length (negsuc n) h = length_signed_le 19 (negsuc n) (omega (arith, h.sfits)) (omega (arith, h.sfits))

put_length : (m : ℕ) (g : ℤ) → m ≤ 100 → pos 0 ≤ℤ g → g ≤ℤ pos MOST_COORDINATE → length (put m g) ≤ 11
put_length m (pos n) s lo hi =
    let small : n ≤ 50000000 = omega (arith, ints, hi) in
    length_signed_le 10 (pos (24 * n + m)) (omega (arith, small, s)) (omega (arith, small, s))
put_length m (negsuc n) s lo hi = absurd (omega (arith, ints, lo))

pub x_length : (m : ℕ) (p : Point) → m ≤ 100 → IsInLargestFrame p → length (put m p.x) ≤ 11
x_length m p s h = put_length m p.x s h.left h.right

pub y_length : (m : ℕ) (p : Point) → m ≤ 100 → IsInLargestFrame p → length (put m p.y) ≤ 11
y_length m p s h = put_length m p.y s h.low h.high

name_short : (it : Item) → HasNames it → IsShort (name_line it)
name_short (Dot n p) h = short_spaced (codes "%v") (signed_decimal n ∷ []) (omega (arith, name_length n h))
name_short (Bar n y from to) h = short_spaced (codes "%v") (signed_decimal n ∷ []) (omega (arith, name_length n h))
name_short (Line n t k points) h = short_spaced (codes "%e") (signed_decimal n ∷ signed_decimal t ∷ signed_decimal k ∷ []) (omega (arith, name_length n h.0, name_length t h.1, name_length k h.2))
name_short (Rect n t k low high) h = short_spaced (codes "%e") (signed_decimal n ∷ signed_decimal t ∷ signed_decimal k ∷ []) (omega (arith, name_length n h.0, name_length t h.1, name_length k h.2))
name_short (Face n x from to) h = short_spaced (codes "%f") (decimal n ∷ []) (omega (arith, length_signed_le 19 (pos n) (omega (arith, h)) (omega (arith, h))))
name_short (Label n p text) h = short_spaced (codes "%l") (signed_decimal n ∷ []) (omega (arith, name_length n h))

path_room : (ps : List Point) → AreInLargestFrame ps → room (path ps) ≤ 31 * length ps + 7
path_room [] h = omega arith
path_room (p ∷ ps) h = omega (arith, x_length 36 p (omega arith) h.0, y_length 36 p (omega arith) h.0, path_room ps h.1)

pub words_room : (ps : List Point) → AreInLargestFrame ps → room (line_words ps) ≤ 31 * length ps + 7
words_room [] h = omega arith
words_room (p ∷ ps) h = omega (arith, x_length 36 p (omega arith) h.0, y_length 36 p (omega arith) h.0, path_room ps h.1)

escaped_case : (b : ℕ) (bs es : List ℕ) (m : Bool) → length es ≤ 2 * length bs → length (if m then 92 ∷ b ∷ es else b ∷ es) ≤ 2 * length (b ∷ bs)
escaped_case b bs es true p = omega (arith, p)
escaped_case b bs es false p = omega (arith, p)

pub escaped_length : (t : List ℕ) → length (escaped t) ≤ 2 * length t
escaped_length [] = omega arith
escaped_length (b ∷ bs) = escaped_case b bs (escaped bs) (b == 40 || b == 41 || b == 92) (escaped_length bs)

two_points : (a b : Point) → IsInLargestFrame a → IsInLargestFrame b
    → IsShort (spaced_words (codes "newpath") (coordinate a.x ∷ coordinate a.y ∷ codes "moveto" ∷ coordinate b.x ∷ coordinate b.y ∷ codes "lineto" ∷ codes "stroke" ∷ []))
two_points a b h i =
    short_spaced (codes "newpath") (coordinate a.x ∷ coordinate a.y ∷ codes "moveto" ∷ coordinate b.x ∷ coordinate b.y ∷ codes "lineto" ∷ codes "stroke" ∷ [])
    (omega (arith, x_length 36 a (omega arith) h, y_length 36 a (omega arith) h, x_length 36 b (omega arith) i, y_length 36 b (omega arith) i))

mark_short : (it : Item) → FitsFrame corner it → IsShort (mark_line it)
mark_short (Dot n p) h =
    short_spaced (codes "newpath") (coordinate p.x ∷ coordinate p.y ∷ codes "4" ∷ codes "0" ∷ codes "360" ∷ codes "arc" ∷ codes "fill" ∷ [])
    (omega (arith, x_length 36 p (omega arith) h, y_length 36 p (omega arith) h))
mark_short (Bar n y from to) h = two_points (record { x = from; y = y }) (record { x = to; y = y }) h.0 h.1
mark_short (Line n t k points) h = short_spaced (codes "newpath") (line_words points) (omega (arith, words_room points h.2, h.1))
mark_short (Rect n t k low high) h =
    short_spaced (codes "newpath") (coordinate low.x ∷ coordinate low.y ∷ codes "moveto" ∷ coordinate high.x ∷ coordinate low.y ∷ codes "lineto" ∷ coordinate high.x ∷ coordinate high.y ∷ codes "lineto" ∷ coordinate low.x ∷ coordinate high.y ∷ codes "lineto" ∷ codes "closepath" ∷ codes "stroke" ∷ [])
    (omega (arith, x_length 36 low (omega arith) h.0, y_length 36 low (omega arith) h.0, x_length 36 high (omega arith) h.1, y_length 36 high (omega arith) h.1))
mark_short (Face n x from to) h = two_points (record { x = x; y = from }) (record { x = x; y = to }) h.0 h.1
mark_short (Label n p text) h =
    short_spaced (beside p.x) (beside p.y ∷ codes "moveto" ∷ (40 ∷ escaped text ++ 41 ∷ []) ∷ codes "show" ∷ [])
    (omega (arith, x_length 42 p (omega arith) h.0, y_length 42 p (omega arith) h.0, escaped_length text, length-append (escaped text) (41 ∷ []), h.2))

abbrev pub AreShort : List (List ℕ) → Type 0
AreShort ls = AllByRecursion IsShort ls

shorts_append : (a b : List (List ℕ)) → AreShort a → AreShort b → AreShort (a ++ b)
shorts_append [] b p q = q
shorts_append (x ∷ a) b p q = (p.0, shorts_append a b p.1 q)

items_short : (f : Point) (its : List Item) → IsFrame f → AllByRecursion (IsItem f) its → AreShort (item_lines its)
items_short f [] h i = tt
items_short f (it ∷ its) h i = (name_short it i.0.0, (mark_short it (fits_corner f it h i.0.1), items_short f its h i.1))

title_short : (f : Form) → IsShort (spaced_words (codes "%%Title:") (form_name f ∷ []))
title_short Visibility = omega arith
title_short Tessellation = omega arith
title_short Constrained = omega arith
title_short Polyline = omega arith
title_short Dominance = omega arith

pub front_short : (form : Form) (f : Point) → IsFrame f → AreShort (front_lines form f)
front_short form f h = (
  omega arith,
  (
    short_spaced (codes "%%BoundingBox:") (codes "0" ∷ codes "0" ∷ put 72 f.x ∷ put 72 f.y ∷ []) (omega (arith, x_length 72 f (omega arith) h, y_length 72 f (omega arith) h)),
    (title_short form, (omega arith, (omega arith, (omega arith, tt)))),
  ),
)

pub lines_short : (d : Drawing) → IsPicture d → AreShort (lines d)
lines_short d h =
    shorts_append (front_lines d.form d.frame) (item_lines d.items ++ codes "%%EOF" ∷ []) (front_short d.form d.frame h.frame)
    (shorts_append (item_lines d.items) (codes "%%EOF" ∷ []) (items_short d.frame d.items h.frame h.items) (omega arith, tt))
