-- How bytes are cut into tokens. A place is an offset from the front of the bytes; a token has the places `from` of its
-- first byte and `to` of the byte behind it.
--   gap bs                   how many bytes of white space and comments are at the front
--   token_at at bs           the token at the front of bytes that lie at a place, or its fault: one row a first byte
--   next_token bytes at      what comes from a place on: a token, its fault, or nothing at the end
--   first_place bytes        where reading begins: behind a byte order mark
--   Leads bytes at ts to     these tokens follow one another from one place up to another
--   AreTokens bytes ts       the bytes are these tokens
--   IsFaultyToken bytes f    the first token that is faulty by itself has this fault
--   IsTokenFault f           a token can have this fault by itself
use Rattle.std.specs.Prelude.{◌≡◌, ℕ, ◌+◌, ◌<◌, ◌≤◌, Bool, true, false, not, ◌==◌, if◌then◌else◌, nat_lt, List, [], ◌∷◌, length, take, drop, Option, Some, None, Result, Ok, Err, position}
use Rattle.std.specs.List.{prefix_len}
use Rattle.std.specs.Char.{is_ascii_alphabetic}
use Rattle.gml_core.specs.declared.token.TokenKind.{TokenKind}
use Rattle.gml_core.specs.declared.token.TokenKind.TheVariants.{OpenList, CloseList, Key, Str}
use Rattle.gml_core.specs.declared.token.Token.{Token}
use Rattle.gml_core.specs.declared.fault.GmlFault.{GmlFault}
use Rattle.gml_core.specs.declared.fault.GmlFault.TheVariants.{BadByte, OpenString, BadNumber, BigNumber, NoValue, Unclosed, Stray, TooDeep, NoMemory}
use Rattle.gml_core.specs.Bytes.{is_space, ends_line, is_word, begins_number, is_numeric, number_kind}

-- How many bytes of white space and comments are at the front. The flag says that a comment is open.
abbrev pub gap_from : Bool → List ℕ → ℕ
gap_from comment [] = 0
gap_from true (b ∷ bs) = gap_from (not (ends_line b)) bs + 1
gap_from false (b ∷ bs) = if is_space b then gap_from false bs + 1 else (if b == 35 then gap_from true bs + 1 else 0)

abbrev pub gap : List ℕ → ℕ
gap bs = gap_from false bs

abbrev pub token : TokenKind → ℕ → ℕ → Token
token kind from len = record { kind = kind; from = from; to = from + len }

abbrev pub string_at : ℕ → Option ℕ → Result Token GmlFault
string_at at (Some n) = Ok (token Str at (n + 2))
string_at at None = Err (OpenString at)

abbrev pub number_token_at : ℕ → ℕ → Option TokenKind → Result Token GmlFault
number_token_at at len (Some kind) = Ok (token kind at len)
number_token_at at len None = Err (BadNumber at)

-- the token at the front of the bytes, which lie at this place, or its fault
unfoldable pub token_at : ℕ → List ℕ → Result Token GmlFault
token_at at [] = Err (BadByte at)
token_at at (b ∷ bs) =
    if b == 91 then Ok (token OpenList at 1)
    else (if b == 93 then Ok (token CloseList at 1)
    else (if b == 34 then string_at at (position (λ x. x == 34) bs)
    else (if is_ascii_alphabetic b then Ok (token Key at (prefix_len is_word bs + 1))
    else (if begins_number b then number_token_at at (prefix_len is_numeric (b ∷ bs)) (number_kind (take (prefix_len is_numeric (b ∷ bs)) (b ∷ bs)))
    else Err (BadByte at)))))

abbrev pub found : Result Token GmlFault → Result (Option Token) GmlFault
found (Ok t) = Ok (Some t)
found (Err f) = Err f

-- where the next token begins, or the text ends
abbrev pub next_place : List ℕ → ℕ → ℕ
next_place bytes at = at + gap (drop at bytes)

-- the next token from a place on, or its fault, or nothing at the end
unfoldable pub next_token : List ℕ → ℕ → Result (Option Token) GmlFault
next_token bytes at =
    if nat_lt (next_place bytes at) (length bytes) then found (token_at (next_place bytes at) (drop (next_place bytes at) bytes)) else Ok None

-- behind a byte order mark
abbrev pub first_place : List ℕ → ℕ
first_place (b ∷ c ∷ d ∷ bs) = if b == 239 then (if c == 187 then (if d == 191 then 3 else 0) else 0) else 0
first_place _ = 0

-- A token has at least one byte, a string its two quotes, and all are there.
pub record IsWithin (bytes : List ℕ) (t : Token) : Type 0 where
  pub ordered : t.from < t.to
  pub inside : t.to ≤ length bytes
  pub quotes : t.kind ≡ Str → t.from + 2 ≤ t.to

-- the tokens that follow one another from one place up to another
abbrev pub Leads : List ℕ → ℕ → List Token → ℕ → Type 0
Leads bytes at [] to = at ≡ to
Leads bytes at (t ∷ ts) to = (next_token bytes at ≡ Ok (Some t)) × Leads bytes t.to ts to

-- the bytes are these tokens
abbrev pub AreTokens : List ℕ → List Token → Type 0
AreTokens bytes ts = (end : ℕ) × Leads bytes (first_place bytes) ts end × (next_token bytes end ≡ Ok None)

-- the first token that is faulty by itself has this fault
abbrev pub IsFaultyToken : List ℕ → GmlFault → Type 0
IsFaultyToken bytes f = (ts : List Token) × (at : ℕ) × Leads bytes (first_place bytes) ts at × (next_token bytes at ≡ Err f)

-- a token can have this fault by itself
abbrev pub IsTokenFault : GmlFault → Type 0
IsTokenFault (BadByte at) = Unit {0}
IsTokenFault (OpenString at) = Unit {0}
IsTokenFault (BadNumber at) = Unit {0}
IsTokenFault (BigNumber at) = ⊥
IsTokenFault (NoValue at) = ⊥
IsTokenFault (Unclosed at) = ⊥
IsTokenFault (Stray at) = ⊥
IsTokenFault (TooDeep at) = ⊥
IsTokenFault NoMemory = ⊥
