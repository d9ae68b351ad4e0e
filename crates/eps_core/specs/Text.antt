-- The EPS text of a picture, line by line.
--   coordinate g, beside g   a coordinate of the grid: 24 g + 36 in decimal, and 24 g + 42 at a label
--   spaced_words line words  the line and further words, each after one space
--   front_lines form frame   the six lines before the items
--   name_line item           the first line of an item: what it is, and its names
--   mark_line item           the second line of an item: how it is painted
--   lines d                  all lines: the six, two for each item, `%%EOF`
--   ended lines              the lines, each with its line feed
--   text d                   the text of a picture
use Rattle.std.specs.Prelude.{ℕ, ◌==◌, ◌||◌, if◌then◌else◌, ℤ, pos, ◌+ℤ◌, ◌*ℤ◌, List, [], ◌∷◌, ◌++◌, codes}
use Rattle.std.specs.Fmt.{decimal, signed_decimal}
use Rattle.st_shape.specs.declared.point.Point.{Point}
use Rattle.st_shape.specs.declared.item.Item.{Item}
use Rattle.st_shape.specs.declared.item.Item.TheVariants.{Dot, Bar, Line, Rect, Face, Label}
use Rattle.st_shape.specs.declared.picture.Form.{Form}
use Rattle.st_shape.specs.declared.picture.Form.TheVariants.{Visibility, Tessellation, Constrained, Polyline, Dominance}
use Rattle.st_shape.specs.Rules.{Drawing}

-- where a step of the grid is printed, with a margin
abbrev pub printed : ℕ → ℤ → ℤ
printed margin g = pos 24 *ℤ g +ℤ pos margin

-- a coordinate of the grid
abbrev pub coordinate : ℤ → List ℕ
coordinate g = signed_decimal (printed 36 g)

-- a coordinate of a label
abbrev pub beside : ℤ → List ℕ
beside g = signed_decimal (printed 42 g)

-- the words so far, and further words, each after one space
abbrev pub spaced_words : List ℕ → List (List ℕ) → List ℕ
spaced_words line [] = line
spaced_words line (word ∷ words) = spaced_words (line ++ 32 ∷ word) words

-- the title
abbrev pub form_name : Form → List ℕ
form_name Visibility = codes "visibility"
form_name Tessellation = codes "tessellation"
form_name Constrained = codes "constrained"
form_name Polyline = codes "polyline"
form_name Dominance = codes "dominance"

-- the lines before the items; the box is that of the frame alone
abbrev pub front_lines : Form → Point → List (List ℕ)
front_lines form frame =
    codes "%!PS-Adobe-3.0 EPSF-3.0"
    ∷ spaced_words (codes "%%BoundingBox:") (codes "0" ∷ codes "0" ∷ signed_decimal (printed 72 frame.x) ∷ signed_decimal (printed 72 frame.y) ∷ [])
    ∷ spaced_words (codes "%%Title:") (form_name form ∷ [])
    ∷ codes "%%EndComments"
    ∷ codes "/Helvetica findfont 10 scalefont setfont"
    ∷ codes "1 setlinewidth 1 setlinecap"
    ∷ []

-- an item's first line: `%v` and a vertex, `%e` and an edge with its tail and head, `%f` and a face, `%l` and the vertex of a label
abbrev pub name_line : Item → List ℕ
name_line (Dot name p) = spaced_words (codes "%v") (signed_decimal name ∷ [])
name_line (Bar name y from to) = spaced_words (codes "%v") (signed_decimal name ∷ [])
name_line (Line name tail head points) = spaced_words (codes "%e") (signed_decimal name ∷ signed_decimal tail ∷ signed_decimal head ∷ [])
name_line (Rect name tail head low high) = spaced_words (codes "%e") (signed_decimal name ∷ signed_decimal tail ∷ signed_decimal head ∷ [])
name_line (Face number x from to) = spaced_words (codes "%f") (decimal number ∷ [])
name_line (Label name p text) = spaced_words (codes "%l") (signed_decimal name ∷ [])

-- the further points of a line, and its end
abbrev pub path : List Point → List (List ℕ)
path [] = codes "stroke" ∷ []
path (p ∷ ps) = coordinate p.x ∷ coordinate p.y ∷ codes "lineto" ∷ path ps

-- the points of a line
abbrev pub line_words : List Point → List (List ℕ)
line_words [] = []
line_words (p ∷ ps) = coordinate p.x ∷ coordinate p.y ∷ codes "moveto" ∷ path ps

-- a backslash stands before brackets and backslashes
abbrev pub escaped : List ℕ → List ℕ
escaped [] = []
escaped (b ∷ bs) = if b == 40 || b == 41 || b == 92 then 92 ∷ b ∷ escaped bs else b ∷ escaped bs

-- an item's second line
abbrev pub mark_line : Item → List ℕ
mark_line (Dot name p) = spaced_words (codes "newpath") (coordinate p.x ∷ coordinate p.y ∷ codes "4" ∷ codes "0" ∷ codes "360" ∷ codes "arc" ∷ codes "fill" ∷ [])
mark_line (Bar name y from to) = spaced_words (codes "newpath") (coordinate from ∷ coordinate y ∷ codes "moveto" ∷ coordinate to ∷ coordinate y ∷ codes "lineto" ∷ codes "stroke" ∷ [])
mark_line (Line name tail head points) = spaced_words (codes "newpath") (line_words points)
mark_line (Rect name tail head low high) =
    spaced_words (codes "newpath") (coordinate low.x ∷ coordinate low.y ∷ codes "moveto" ∷ coordinate high.x ∷ coordinate low.y ∷ codes "lineto" ∷ coordinate high.x ∷ coordinate high.y ∷ codes "lineto"
    ∷ coordinate low.x ∷ coordinate high.y ∷ codes "lineto" ∷ codes "closepath" ∷ codes "stroke" ∷ [])
mark_line (Face number x from to) = spaced_words (codes "newpath") (coordinate x ∷ coordinate from ∷ codes "moveto" ∷ coordinate x ∷ coordinate to ∷ codes "lineto" ∷ codes "stroke" ∷ [])
mark_line (Label name p text) = spaced_words (beside p.x) (beside p.y ∷ codes "moveto" ∷ (40 ∷ escaped text ++ 41 ∷ []) ∷ codes "show" ∷ [])

-- the lines of the items
abbrev pub item_lines : List Item → List (List ℕ)
item_lines [] = []
item_lines (item ∷ items) = name_line item ∷ mark_line item ∷ item_lines items

-- all lines
abbrev pub lines : Drawing → List (List ℕ)
lines d = front_lines d.form d.frame ++ (item_lines d.items ++ codes "%%EOF" ∷ [])

-- the lines, each with its line feed
abbrev pub ended : List (List ℕ) → List ℕ
ended [] = []
ended (line ∷ lines) = (line ++ 10 ∷ []) ++ ended lines

-- the text of a picture
unfoldable pub text : Drawing → List ℕ
text d = ended (lines d)
