-- What bytes tell of a picture, or which line of them is the first that no picture's text has there.
--   IsPlain line            no line feed is in the line
--   IsShort line            the line has at most 255 bytes
--   IsPictureText bytes     the bytes are some picture's text
--   BeginsWith bytes lines  the bytes are these lines, each with its line feed, and maybe more
--   IsBegun bytes k         the bytes have k lines, and some picture's text begins with them
--   IsFirstBad bytes k      the bytes are no picture's text, and line k, from 1, is the first bad one
--   TellsPicture            a text is that of at most one picture
--   HasShortLines           no line of a text is longer than 255 bytes
--   HasOneBadLine           at most one line is the first bad one
use Rattle.std.specs.Prelude.{◌≡◌, ◌≢◌, ℕ, ◌-◌, ◌<◌, ◌≤◌, List, ◌++◌, length}
use Rattle.std.specs.List.{AllByRecursion}
use Rattle.st_shape.specs.Rules.{Drawing, IsPicture}
use Rattle.eps_core.specs.Text.{ended, lines, text}

-- no line feed is in the line
abbrev pub IsPlain : List ℕ → Type 0
IsPlain line = AllByRecursion (λ b. b ≢ 10) line

-- the line has at most 255 bytes
abbrev pub IsShort : List ℕ → Type 0
IsShort line = length line ≤ 255

-- the bytes are the text of some picture
pub record IsPictureText (bytes : List ℕ) : Type 0 where
  pub picture : Drawing
  pub rules : IsPicture picture
  pub is : bytes ≡ text picture

-- the bytes begin with these lines
pub record BeginsWith (bytes : List ℕ) (lines : List (List ℕ)) : Type 0 where
  pub plain : AllByRecursion IsPlain lines
  pub rest : List ℕ
  pub whole : bytes ≡ ended lines ++ rest

-- The bytes have k lines, and the text of some picture begins with them. A line without its line feed is none.
pub record IsBegun (bytes : List ℕ) (k : ℕ) : Type 0 where
  pub lines : List (List ℕ)
  pub count : length lines ≡ k
  pub here : BeginsWith bytes lines
  pub picture : Drawing
  pub rules : IsPicture picture
  pub there : BeginsWith (text picture) lines

-- The bytes are no picture's text. Some picture's text begins with the first k - 1 lines, and none with the first k, which
-- the bytes may not have.
pub record IsFirstBad (bytes : List ℕ) (k : ℕ) : Type 0 where
  pub numbered : 0 < k
  pub before : IsBegun bytes (k - 1)
  pub here : IsBegun bytes k → ⊥
  pub nothing : (p : Drawing) → IsPicture p → bytes ≢ text p

-- no line of a picture's text is longer than 255 bytes
abbrev pub HasShortLines : Type 0
HasShortLines = (d : Drawing) → IsPicture d → AllByRecursion IsShort (lines d)

-- two pictures of one text are one picture: pictures that differ have different texts
abbrev pub TellsPicture : Type 0
TellsPicture = (d e : Drawing) → IsPicture d → IsPicture e → text d ≡ text e → d ≡ e

-- bytes have at most one first bad line
abbrev pub HasOneBadLine : Type 0
HasOneBadLine = (bytes : List ℕ) (j k : ℕ) → IsFirstBad bytes j → IsFirstBad bytes k → j ≡ k
