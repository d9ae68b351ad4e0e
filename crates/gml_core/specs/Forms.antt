-- What a gap and the run of a number are, said by their parts and apart from how they are read.
--   IsOneLine text     no byte of it ends a line
--   IsComment c        a number sign, one line, and the byte that ends it
--   IsGapPart p        a byte of white space, or a comment
--   IsOpenComment c    a number sign and one line, or nothing
--   IsGap g            white space and comments, of which the last may lack its end
--   IsSignPart s       nothing, a plus or a minus
--   AreOnlyDigits ds   digits and nothing else, perhaps none
--   IsPower p          e or E, an optional sign, and digits
--   IsIntegerRun run   an optional sign, and digits
--   IsRealRun run      an optional sign, and digits with a dot or a power or both
use Rattle.std.specs.Prelude.{◌≡◌, ◌<◌, ◌⊎◌, ℕ, true, not, List, [], ◌∷◌, ◌++◌, length}
use Rattle.std.specs.List.{concat, list_all}
use Rattle.std.specs.Char.{is_ascii_digit}
use Rattle.gml_core.specs.Bytes.{is_space, ends_line}

-- ---- gaps

-- no byte of it ends a line
abbrev pub IsOneLine : List ℕ → Type 0
IsOneLine text = list_all (λ b. not (ends_line b)) text ≡ true

-- a number sign, one line, and the byte that ends it
abbrev pub IsComment : List ℕ → Type 0
IsComment c = (text : List ℕ) × (last : ℕ) × IsOneLine text × (ends_line last ≡ true) × (c ≡ 35 ∷ (text ++ last ∷ []))

-- a byte of white space, or a comment
abbrev pub IsGapPart : List ℕ → Type 0
IsGapPart p = ((b : ℕ) × (is_space b ≡ true) × (p ≡ b ∷ [])) ⊎ IsComment p

abbrev pub AreGapParts : List (List ℕ) → Type 0
AreGapParts [] = Unit {0}
AreGapParts (p ∷ ps) = IsGapPart p × AreGapParts ps

-- a comment whose line does not end, or nothing
abbrev pub IsOpenComment : List ℕ → Type 0
IsOpenComment c = (c ≡ []) ⊎ ((text : List ℕ) × IsOneLine text × (c ≡ 35 ∷ text))

-- white space and comments, of which the last may lack its end
pub record IsGap (g : List ℕ) : Type 0 where
  pub parts : List (List ℕ)
  pub last : List ℕ
  pub are : AreGapParts parts
  pub unended : IsOpenComment last
  pub whole : g ≡ concat parts ++ last

-- ---- numbers

-- nothing, a plus or a minus
abbrev pub IsSignPart : List ℕ → Type 0
IsSignPart s = (s ≡ []) ⊎ ((s ≡ 43 ∷ []) ⊎ (s ≡ 45 ∷ []))

-- digits and nothing else, perhaps none
abbrev pub AreOnlyDigits : List ℕ → Type 0
AreOnlyDigits ds = list_all is_ascii_digit ds ≡ true

-- e or E, an optional sign, and digits
pub record IsPower (p : List ℕ) : Type 0 where
  pub mark : ℕ
  pub sign : List ℕ
  pub digits : List ℕ
  pub marked : (mark ≡ 101) ⊎ (mark ≡ 69)
  pub signed : IsSignPart sign
  pub some : 0 < length digits
  pub only : AreOnlyDigits digits
  pub parts : p ≡ mark ∷ (sign ++ digits)

-- an optional sign, and digits
pub record IsIntegerRun (run : List ℕ) : Type 0 where
  pub sign : List ℕ
  pub digits : List ℕ
  pub signed : IsSignPart sign
  pub some : 0 < length digits
  pub only : AreOnlyDigits digits
  pub parts : run ≡ sign ++ digits

-- digits with a dot among them or at either end, and perhaps a power
pub record IsDotted (text : List ℕ) : Type 0 where
  pub before : List ℕ
  pub after : List ℕ
  pub power : List ℕ
  pub some : 0 < length (before ++ after)
  pub front : AreOnlyDigits before
  pub back : AreOnlyDigits after
  pub ending : (power ≡ []) ⊎ IsPower power
  pub parts : text ≡ before ++ 46 ∷ (after ++ power)

-- digits and a power
pub record IsScaled (text : List ℕ) : Type 0 where
  pub digits : List ℕ
  pub power : List ℕ
  pub some : 0 < length digits
  pub only : AreOnlyDigits digits
  pub ending : IsPower power
  pub parts : text ≡ digits ++ power

-- an optional sign, and digits with a dot or a power or both
pub record IsRealRun (run : List ℕ) : Type 0 where
  pub sign : List ℕ
  pub text : List ℕ
  pub signed : IsSignPart sign
  pub form : IsDotted text ⊎ IsScaled text
  pub parts : run ≡ sign ++ text
