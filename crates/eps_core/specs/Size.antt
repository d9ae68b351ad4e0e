-- How long the text of a picture is.
--   HasShortText     256 bytes suffice for each item, and seven times as many for the lines before and behind the items
use Rattle.std.specs.Prelude.{ℕ, ◌+◌, ◌*◌, ◌≤◌, length}
use Rattle.st_shape.specs.Rules.{Drawing, IsPicture}
use Rattle.eps_core.specs.Text.{text}

-- the text of each picture has at most 256 bytes an item, and 1,792 bytes beside
abbrev pub HasShortText : Type 0
HasShortText = (d : Drawing) → IsPicture d → length (text d) ≤ 256 * (length d.items + 7)
