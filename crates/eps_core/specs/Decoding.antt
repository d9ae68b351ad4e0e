-- What lines tell of an item: the way back from its two lines, by which a text is read, and two pictures of one text are
-- one.
--   first_word bs, behind_word bs  the bytes before the first space, and those behind it
--   signed_value bs                the number that is spelt so
--   decoded_point margin s         the point whose two coordinates begin s
--   decoded name mark              the item with these two lines
--   frame_from line                the frame of the box line
--   form_from line                 the form of the title
--   line_from bs                   the first line, or all where no line ends; after_line bs what is behind it
use Rattle.std.specs.Prelude.{ℕ, Bool, true, false, ◌+◌, ◌-◌, ◌*◌, ◌/◌, ◌^◌, ◌==◌, ◌&&◌, if◌then◌else◌, nat_lt, nat_le, ℤ, pos, List, [], ◌∷◌, length, take, drop, slice_index, Option, Some, None}
use Rattle.std.proofs.Common.{neg_ℤ}
use Rattle.std.specs.List.{position_or_len}
use Rattle.std.specs.Char.{is_ascii_digit}
use Rattle.std.specs.Int.RustNames.{unsigned_abs}
use Rattle.st_shape.specs.declared.point.Point.{Point}
use Rattle.st_shape.specs.declared.item.Item.{Item}
use Rattle.st_shape.specs.declared.item.Item.TheVariants.{Dot, Bar, Line, Rect, Face, Label}
use Rattle.st_shape.specs.declared.picture.Form.{Form}
use Rattle.st_shape.specs.declared.picture.Form.TheVariants.{Visibility, Tessellation, Constrained, Polyline, Dominance}
use Rattle.st_shape.specs.Inside.{point}

-- the bytes before the first space, and those behind it
unfoldable pub first_word : List ℕ → List ℕ
first_word bs = take (position_or_len (λ b. b == 32) bs) bs

unfoldable pub behind_word : List ℕ → List ℕ
behind_word bs = drop (position_or_len (λ b. b == 32) bs + 1) bs

-- the number so far, and further digits
abbrev pub value_from : ℕ → List ℕ → Option ℕ
value_from v [] = Some v
value_from v (b ∷ bs) = if is_ascii_digit b && nat_lt v (10 ^ 18) then value_from (10 * v + (b - 48)) bs else None

abbrev pub plus : Option ℕ → ℤ
plus None = pos 0
plus (Some v) = if nat_lt v (2 ^ 63) then pos v else pos 0

abbrev pub minus : Option ℕ → ℤ
minus None = pos 0
minus (Some v) = if nat_le v (2 ^ 63) then neg_ℤ (pos v) else pos 0

unfoldable pub signed_value : List ℕ → ℤ
signed_value bs = if slice_index bs 0 == 45 then minus (value_from 0 (drop 1 bs)) else plus (value_from 0 bs)

-- the step of the grid that is printed so
abbrev pub grid_of : ℕ → ℤ → ℤ
grid_of margin z = pos ((unsigned_abs z - margin) / 24)

unfoldable pub decoded_point : ℕ → List ℕ → Point
decoded_point margin s = point (grid_of margin (signed_value (first_word s))) (grid_of margin (signed_value (first_word (behind_word s))))

-- behind a point
unfoldable pub past_place : List ℕ → List ℕ
past_place s = behind_word (behind_word s)

-- behind a point and a word
unfoldable pub past_step : List ℕ → List ℕ
past_step s = behind_word (past_place s)

abbrev pub decoded_bar : ℤ → Point → Point → Item
decoded_bar name a b = Bar name a.y a.x b.x

abbrev pub decoded_post : ℕ → Point → Point → Item
decoded_post number a b = Face number a.x a.y b.y

-- `4` is next
unfoldable pub dot_or_bar : ℤ → List ℕ → Item
dot_or_bar name s = if slice_index (past_place s) 0 == 52 then Dot name (decoded_point 36 s) else decoded_bar name (decoded_point 36 s) (decoded_point 36 (past_step s))

-- `stroke` is next
abbrev pub ends : List ℕ → Bool
ends s = slice_index s 0 == 115

unfoldable pub four_or_box : ℤ → ℤ → ℤ → Point → Point → Point → List ℕ → Item
four_or_box name tail head a b c s = if ends (past_step s) then Line name tail head (a ∷ b ∷ c ∷ decoded_point 36 s ∷ []) else Rect name tail head a c

unfoldable pub three_or_more : ℤ → ℤ → ℤ → Point → Point → List ℕ → Item
three_or_more name tail head a b s =
    if ends (past_step s) then Line name tail head (a ∷ b ∷ decoded_point 36 s ∷ [])
    else four_or_box name tail head a b (decoded_point 36 s) (past_step s)

unfoldable pub two_or_more : ℤ → ℤ → ℤ → Point → List ℕ → Item
two_or_more name tail head a s =
    if ends (past_step s) then Line name tail head (a ∷ decoded_point 36 s ∷ [])
    else three_or_more name tail head a (decoded_point 36 s) (past_step s)

unfoldable pub line_or_box : ℤ → ℤ → ℤ → List ℕ → Item
line_or_box name tail head s = two_or_more name tail head (decoded_point 36 s) (past_step s)

-- without the marks
abbrev pub unescaped_from : Bool → List ℕ → List ℕ
unescaped_from marked [] = []
unescaped_from true (b ∷ bs) = b ∷ unescaped_from false bs
unescaped_from false (b ∷ bs) = if b == 92 then unescaped_from true bs else b ∷ unescaped_from false bs

-- the text between `(` and `) show`
unfoldable pub decoded_label : List ℕ → List ℕ
decoded_label t = unescaped_from false (take (length (drop 1 t) - 6) (drop 1 t))

unfoldable pub number_32 : List ℕ → ℕ
number_32 bs = if nat_lt (unsigned_abs (signed_value bs)) (2 ^ 32) then unsigned_abs (signed_value bs) else 0

-- by the letter in the first line
unfoldable pub decoded : List ℕ → List ℕ → Option Item
decoded name mark =
    if slice_index name 1 == 118 then Some (dot_or_bar (signed_value (first_word (behind_word name))) (behind_word mark))
    else (if slice_index name 1 == 101 then Some (line_or_box (signed_value (first_word (behind_word name))) (signed_value (first_word (behind_word (behind_word name)))) (signed_value (first_word (behind_word (behind_word (behind_word name))))) (behind_word mark))
    else (if slice_index name 1 == 102 then Some (decoded_post (number_32 (first_word (behind_word name))) (decoded_point 36 (behind_word mark)) (decoded_point 36 (past_step (behind_word mark))))
    else (if slice_index name 1 == 108 then Some (Label (signed_value (first_word (behind_word name))) (decoded_point 42 mark) (decoded_label (past_step mark)))
    else None)))

-- the frame of the box line
abbrev pub frame_from : List ℕ → Point
frame_from line = decoded_point 72 (past_step line)

-- the form by the first letter of its name
abbrev pub form_at : ℕ → Form
form_at b =
    if b == 118 then Visibility
    else (if b == 116 then Tessellation
    else (if b == 99 then Constrained
    else (if b == 112 then Polyline
    else Dominance)))

abbrev pub form_from : List ℕ → Form
form_from line = form_at (slice_index (behind_word line) 0)

-- the bytes before the first line feed, and those behind it
abbrev pub line_from : List ℕ → List ℕ
line_from bs = take (position_or_len (λ b. b == 10) bs) bs

abbrev pub after_line : List ℕ → List ℕ
after_line bs = drop (position_or_len (λ b. b == 10) bs + 1) bs
