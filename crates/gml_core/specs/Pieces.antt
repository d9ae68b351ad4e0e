-- What comes next where bytes come in pieces, as far as it is known.
--   after_gap comment at d     what comes behind a gap; the flag says that a comment is open
--   coming state at d          what comes in this state, where d is all that is left, from this place on
--   held_of state              the bytes that are held of a token that a piece cuts
--   IsPlaced state at          what is held ends at this place
--   Sees state at rest seen    what one look at the rest of a piece says of whatever comes behind it
--   IsLast state at last       the token that the end of the bytes ends, if there is one
use Rattle.std.specs.Prelude.{◌≡◌, ℕ, ◌+◌, ◌<◌, ◌≤◌, Bool, true, false, not, ◌==◌, if◌then◌else◌, nat_lt, List, [], ◌∷◌, ◌++◌, length, take, drop, Option, Some, None, Result, Ok, Err}
use Rattle.std.specs.List.{prefix_len}
use Rattle.gml_core.specs.declared.token.TokenKind.{TokenKind}
use Rattle.gml_core.specs.declared.token.TokenKind.TheVariants as kinds
use Rattle.gml_core.specs.declared.token.Token.{Token}
use Rattle.gml_core.specs.declared.fault.GmlFault.{GmlFault}
use Rattle.gml_core.specs.declared.fault.GmlFault.TheVariants.{BadByte, OpenString}
use Rattle.std.specs.Char.{is_ascii_alphabetic}
use Rattle.gml_core.specs.declared.pieces.First.{First}
use Rattle.gml_core.specs.declared.pieces.First.TheVariants.{Open, Close, Quote, Letter, Digit, Other}
use Rattle.gml_core.specs.declared.pieces.Run.{Run}
use Rattle.gml_core.specs.declared.pieces.Run.TheVariants as runs
use Rattle.gml_core.specs.declared.pieces.State.{State}
use Rattle.gml_core.specs.declared.pieces.State.TheVariants.{Start, MarkOne, MarkTwo, Between, Comment, Inside, Failed}
use Rattle.gml_core.specs.declared.pieces.Seen.{Seen}
use Rattle.gml_core.specs.declared.pieces.Seen.TheVariants.{More, Whole}
use Rattle.gml_core.specs.declared.pieces.Last.{Last}
use Rattle.gml_core.specs.Bytes.{is_word, begins_number, is_numeric, is_space, ends_line, number_kind}
use Rattle.gml_core.specs.Lexing.{gap_from, token, token_at, number_token_at, found}

-- what comes behind a gap, from a place on
unfoldable pub after_gap : Bool → ℕ → List ℕ → Result (Option Token) GmlFault
after_gap comment at d =
    if nat_lt (gap_from comment d) (length d) then found (token_at (at + gap_from comment d) (drop (gap_from comment d) d)) else Ok None

-- whether a comment is open behind this byte of a gap; nothing where it is no byte of a gap
abbrev pub gap_step : Bool → ℕ → Option Bool
gap_step true b = Some (not (ends_line b))
gap_step false b = if is_space b then Some false else (if b == 35 then Some true else None)

-- what a token's first byte says
abbrev pub first_of : ℕ → First
first_of b = if b == 91 then Open else (if b == 93 then Close else (if b == 34 then Quote else (if is_ascii_alphabetic b then Letter else (if begins_number b then Digit else Other))))

-- behind two bytes of a mark
abbrev pub after_two : ℕ → List ℕ → Result (Option Token) GmlFault
after_two at [] = Err (BadByte 0)
after_two at (b ∷ bs) = if b == 191 then after_gap false (at + 1) bs else Err (BadByte 0)

-- behind one byte of a mark
abbrev pub after_one : ℕ → List ℕ → Result (Option Token) GmlFault
after_one at [] = Err (BadByte 0)
after_one at (b ∷ bs) = if b == 187 then after_two (at + 1) bs else Err (BadByte 0)

-- where no byte is read
abbrev pub at_start : ℕ → List ℕ → Result (Option Token) GmlFault
at_start at [] = Ok None
at_start at (b ∷ bs) = if b == 239 then after_one (at + 1) bs else after_gap false at (b ∷ bs)

-- stands in a string
abbrev pub is_quoted : ℕ → Bool
is_quoted b = not (b == 34)

-- the string that begins at a place, of which n bytes are held: its quotes are not among them
abbrev pub quoted : ℕ → ℕ → List ℕ → Result (Option Token) GmlFault
quoted from n d = if nat_lt (prefix_len is_quoted d) (length d) then Ok (Some (token kinds.Str from (n + prefix_len is_quoted d + 2))) else Err (OpenString from)

-- in a token that begins at a place, of which some bytes are held
abbrev pub inside_token : Run → ℕ → List ℕ → List ℕ → Result (Option Token) GmlFault
inside_token runs.Key from held d = Ok (Some (token kinds.Key from (length held + prefix_len is_word d)))
inside_token runs.Number from held d = found (number_token_at from (length held + prefix_len is_numeric d) (number_kind (held ++ take (prefix_len is_numeric d) d)))
inside_token runs.Quoted from held d = quoted from (length held) d

-- what comes in this state, where these bytes are all that is left
unfoldable pub coming : State → ℕ → List ℕ → Result (Option Token) GmlFault
coming Start at d = at_start at d
coming MarkOne at d = after_one at d
coming MarkTwo at d = after_two at d
coming Between at d = after_gap false at d
coming Comment at d = after_gap true at d
coming (Inside run from held) at d = inside_token run from held d
coming (Failed fault) at d = Err fault

abbrev pub held_of : State → List ℕ
held_of Start = []
held_of MarkOne = []
held_of MarkTwo = []
held_of Between = []
held_of Comment = []
held_of (Inside run from held) = held
held_of (Failed fault) = []

-- the bytes before what is held
abbrev pub opening : Run → ℕ
opening runs.Key = 0
opening runs.Number = 0
opening runs.Quoted = 1

-- what is held ends at this place
abbrev pub IsPlaced : State → ℕ → Type 0
IsPlaced Start at = Unit {0}
IsPlaced MarkOne at = Unit {0}
IsPlaced MarkTwo at = Unit {0}
IsPlaced Between at = Unit {0}
IsPlaced Comment at = Unit {0}
IsPlaced (Inside run from held) at = at ≡ from + opening run + length held
IsPlaced (Failed fault) at = Unit {0}

-- a token that a piece cuts may end without a further byte
abbrev pub rank : State → ℕ
rank (Inside run from held) = 1
rank Start = 0
rank MarkOne = 0
rank MarkTwo = 0
rank Between = 0
rank Comment = 0
rank (Failed fault) = 0

-- k bytes of the rest are taken, and what comes behind them is what came
pub record Goes (old : State) (at : ℕ) (rest : List ℕ) (new : State) (k : ℕ) : Type 0 where
  pub progress : 0 < k
  pub within : k ≤ length rest
  pub comes : (c : List ℕ) → coming old at (rest ++ c) ≡ coming new (at + k) (drop k rest ++ c)
  pub left : List ℕ
  pub bytes : left ++ held_of new ≡ held_of old ++ take k rest
  pub placed : IsPlaced new (at + k)

-- the bytes of a token before and behind its text
abbrev pub before : TokenKind → ℕ
before kinds.Str = 1
before _ = 0

abbrev pub behind : TokenKind → List ℕ
behind kinds.Str = 34 ∷ []
behind _ = []

-- k bytes of the rest are taken, and whatever comes behind them, this token came, of this text
pub record Closes (old : State) (at : ℕ) (rest : List ℕ) (t : Token) (text : List ℕ) (k : ℕ) : Type 0 where
  pub progress : 0 < k + rank old
  pub within : k ≤ length rest
  pub comes : (c : List ℕ) → coming old at (rest ++ c) ≡ Ok (Some t)
  pub to : t.to ≡ at + k
  pub from : t.from + before t.kind + length (held_of old) ≡ at
  pub bytes : text ++ behind t.kind ≡ held_of old ++ take k rest

-- the text of a token, of which some bytes may be held, and then all are
abbrev pub text_of : List ℕ → List ℕ → List ℕ
text_of [] part = part
text_of (b ∷ bs) part = b ∷ bs

abbrev pub Sees : State → ℕ → List ℕ → Seen → Type 0
Sees state at rest (More new k) = Goes state at rest new k
Sees state at rest (Whole t held n k) = (n ≤ length rest) × Closes state at rest t (text_of held (take n rest)) k

-- the end of the bytes ends this token, of this text
pub record EndsToken (old : State) (at : ℕ) (t : Token) (text : List ℕ) : Type 0 where
  pub comes : coming old at [] ≡ Ok (Some t)
  pub to : t.to ≡ at
  pub from : t.from + before t.kind + length (held_of old) ≡ at
  pub bytes : text ++ behind t.kind ≡ held_of old

abbrev pub IsLast : State → ℕ → Option Last → Type 0
IsLast state at None = coming state at [] ≡ Ok None
IsLast state at (Some l) = EndsToken state at l.token l.text
