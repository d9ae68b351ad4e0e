-- Which bytes are which, and how a number is spelled.
--   is_space, ends_line, is_word, is_sign, begins_number, is_numeric    kinds of bytes
--   unsigned run       the run behind its sign, if it has one
--   digits bs          how many digits are at the front
--   is_exponent bs     e or E, an optional sign and digits
--   number_kind run    whether the run of a number is an integer or a real, or nothing
use Rattle.std.specs.Prelude.{ℕ, ◌+◌, Bool, false, ◌&&◌, ◌||◌, ◌==◌, if◌then◌else◌, nat_lt, nat_le, List, [], ◌∷◌, length, drop, Option, Some, None}
use Rattle.std.specs.List.{prefix_len}
use Rattle.std.specs.Char.{is_ascii_digit, is_ascii_alphanumeric}
use Rattle.gml_core.specs.declared.token.TokenKind.{TokenKind}
use Rattle.gml_core.specs.declared.token.TokenKind.TheVariants.{Int, Real}

abbrev pub is_space : ℕ → Bool
is_space b = b == 32 || (nat_le 9 b && nat_le b 13)

-- ends a comment
abbrev pub ends_line : ℕ → Bool
ends_line b = b == 10 || b == 13

-- stands in a key behind its first letter
abbrev pub is_word : ℕ → Bool
is_word b = is_ascii_alphanumeric b || b == 95

abbrev pub is_sign : ℕ → Bool
is_sign b = b == 43 || b == 45

-- begins a number
abbrev pub begins_number : ℕ → Bool
begins_number b = is_ascii_digit b || is_sign b || b == 46

-- stands in the run of a number
abbrev pub is_numeric : ℕ → Bool
is_numeric b = begins_number b || b == 101 || b == 69

-- the bytes behind an optional sign
abbrev pub unsigned : List ℕ → List ℕ
unsigned [] = []
unsigned (b ∷ bs) = if is_sign b then bs else b ∷ bs

-- how many digits are at the front
abbrev pub digits : List ℕ → ℕ
digits bs = prefix_len is_ascii_digit bs

-- at least one digit, and nothing else
abbrev pub are_digits : List ℕ → Bool
are_digits bs = nat_lt 0 (length bs) && digits bs == length bs

-- e or E, an optional sign and digits
abbrev pub is_exponent : List ℕ → Bool
is_exponent [] = false
is_exponent (b ∷ bs) = (b == 101 || b == 69) && are_digits (unsigned bs)

-- nothing, or an exponent
abbrev pub may_end : List ℕ → Bool
may_end bs = length bs == 0 || is_exponent bs

-- what is spelled by n digits and then these bytes
abbrev pub behind_digits : ℕ → List ℕ → Option TokenKind
behind_digits n [] = if nat_lt 0 n then Some Int else None
behind_digits n (b ∷ bs) =
    if b == 46 then (if nat_lt 0 (n + digits bs) && may_end (drop (digits bs) bs) then Some Real else None)
    else (if nat_lt 0 n && is_exponent (b ∷ bs) then Some Real else None)

-- An integer is an optional sign and digits. A real has one dot among its digits or at either end, or an exponent, or both.
unfoldable pub number_kind : List ℕ → Option TokenKind
number_kind run = behind_digits (digits (unsigned run)) (drop (digits (unsigned run)) (unsigned run))
