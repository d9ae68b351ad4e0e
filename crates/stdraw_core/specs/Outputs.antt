-- What is written to the output.
--   bytes_of held    a text, or the text of a picture
use Rattle.std.specs.Prelude.{ℕ, List}
use Rattle.eps_core.specs.Text.{text}
use Rattle.stdraw_core.specs.declared.output.Held.{Held}
use Rattle.stdraw_core.specs.declared.output.Held.TheVariants.{Text, Picture}

-- the bytes of a text, or of the text of a picture
abbrev pub bytes_of : Held → List ℕ
bytes_of (Text bytes) = bytes
bytes_of (Picture d) = text d
