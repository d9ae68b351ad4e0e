-- What bytes are a text of a tree, and what the first fault of other bytes is.
--   number ds, integer run    what digits, and the run of an integer, mean
--   part bytes from to        the bytes from one place up to another
--   word bytes t              what a token says
--   IsBounded tree            lists nest at most 32 deep, and integers are within signed 64 bits
--   IsText bytes tree         the bytes are a text of the tree
--   State                     where reading stands: the key that waits for its value, and the open lists
--   said_by kind from text    the same, from the token's text
--   step_at s at w            the state after one word more, or the word's fault
--   step bytes s t            the state after one token more, or the token's fault
--   end_fault s               the fault where the text ends
--   Moves bytes s ts e        the tokens lead from one state to another
--   IsFirstFault bytes f      the first fault of the bytes: that of the first token, or of the end, that is not taken
use Rattle.std.specs.Prelude.{◌≡◌, ℕ, ◌+◌, ◌-◌, ◌*◌, ◌≤◌, ℤ, pos, IsTrue, ◌==◌, if◌then◌else◌, nat_lt, List, [], ◌∷◌, length, take, drop, map, fold, slice_index, Option, Some, None, Result, Ok, Err}
use Rattle.std.proofs.Common.{neg_ℤ}
use Rattle.gml_core.specs.declared.token.TokenKind.{TokenKind}
use Rattle.gml_core.specs.declared.token.TokenKind.TheVariants as kinds
use Rattle.gml_core.specs.declared.token.Token.{Token}
use Rattle.gml_core.specs.declared.fault.GmlFault.{GmlFault}
use Rattle.gml_core.specs.declared.fault.GmlFault.TheVariants.{BigNumber, NoValue, Unclosed, Stray, TooDeep}
use Rattle.gml_core.specs.Bytes.{unsigned}
use Rattle.gml_core.specs.Lexing.{next_token, first_place, Leads, AreTokens}
use Rattle.gml_core.specs.Trees.{int, real, str, Entries, Word, opens, closes, key, value, spelling, depth, max_depth, fits, all_fit}

-- ---- what tokens say

-- the number that digits write
abbrev pub number : List ℕ → ℕ
number ds = fold (λ n b. 10 * n + (b - 48)) 0 ds

abbrev pub integer : List ℕ → ℤ
integer run = if slice_index run 0 == 45 then neg_ℤ (pos (number (unsigned run))) else pos (number (unsigned run))

-- the bytes from one place up to another
abbrev pub part : List ℕ → ℕ → ℕ → List ℕ
part bytes from to = take (to - from) (drop from bytes)

abbrev pub word_of : List ℕ → TokenKind → ℕ → ℕ → Word
word_of bytes kinds.OpenList from to = opens
word_of bytes kinds.CloseList from to = closes
word_of bytes kinds.Key from to = key (part bytes from to) from
word_of bytes kinds.Int from to = value (int (integer (part bytes from to)))
word_of bytes kinds.Real from to = value (real (part bytes from to))
word_of bytes kinds.Str from to = value (str (part bytes (from + 1) (to - 1)))

-- the same, from the token's text, which for a string lies between its quotes
abbrev pub said_by : TokenKind → ℕ → List ℕ → Word
said_by kinds.OpenList from text = opens
said_by kinds.CloseList from text = closes
said_by kinds.Key from text = key text from
said_by kinds.Int from text = value (int (integer text))
said_by kinds.Real from text = value (real text)
said_by kinds.Str from text = value (str text)

abbrev pub word : List ℕ → Token → Word
word bytes t = word_of bytes t.kind t.from t.to

-- ---- texts

-- what can be spelled
pub record IsBounded (tree : Entries) : Type 0 where
  pub nests : depth tree ≤ max_depth
  pub fit : IsTrue (all_fit tree)

-- the bytes are a text of the tree
pub record IsText (bytes : List ℕ) (tree : Entries) : Type 0 where
  pub tokens : List Token
  pub cut : AreTokens bytes tokens
  pub spelled : map (word bytes) tokens ≡ spelling tree
  pub bounded : IsBounded tree

-- ---- the first fault

-- after some tokens: the place of the key whose value comes next, and where the open lists begin, the innermost first
pub record State : Type 0 where
  pub waits : Option ℕ
  pub lists : List ℕ

abbrev pub begin : State
begin = record { waits = None; lists = [] }

-- where a pair may begin
abbrev pub at_pair : List ℕ → ℕ → Word → Result State GmlFault
at_pair lists at (key k place) = Ok (record { waits = Some at; lists = lists })
at_pair [] at closes = Err (Stray at)
at_pair (l ∷ ls) at closes = Ok (record { waits = None; lists = ls })
at_pair lists at opens = Err (Stray at)
at_pair lists at (value a) = Err (Stray at)

-- where the value of the key at k may stand
abbrev pub at_value : ℕ → List ℕ → ℕ → Word → Result State GmlFault
at_value k lists at (key name place) = Err (NoValue k)
at_value k lists at closes = Err (NoValue k)
at_value k lists at opens = if nat_lt (length lists) max_depth then Ok (record { waits = None; lists = at ∷ lists }) else Err (TooDeep at)
at_value k lists at (value a) = if fits a then Ok (record { waits = None; lists = lists }) else Err (BigNumber at)

abbrev pub step_in : Option ℕ → List ℕ → ℕ → Word → Result State GmlFault
step_in None lists at w = at_pair lists at w
step_in (Some k) lists at w = at_value k lists at w

-- the state after one word more at a place, or the word's fault
unfoldable pub step_at : State → ℕ → Word → Result State GmlFault
step_at s at w = step_in s.waits s.lists at w

-- the state after one token more, or the token's fault
unfoldable pub step : List ℕ → State → Token → Result State GmlFault
step bytes s t = step_in s.waits s.lists t.from (word bytes t)

abbrev pub end_fault_in : Option ℕ → List ℕ → Option GmlFault
end_fault_in (Some k) lists = Some (NoValue k)
end_fault_in None [] = None
end_fault_in None (l ∷ ls) = Some (Unclosed l)

-- the fault where the text ends
abbrev pub end_fault : State → Option GmlFault
end_fault s = end_fault_in s.waits s.lists

abbrev pub err_of : Result State GmlFault → Option GmlFault
err_of (Ok s) = None
err_of (Err f) = Some f

-- the fault, if any, of what comes next
abbrev pub fault_of : List ℕ → State → Result (Option Token) GmlFault → Option GmlFault
fault_of bytes s (Err f) = Some f
fault_of bytes s (Ok (Some t)) = err_of (step bytes s t)
fault_of bytes s (Ok None) = end_fault s

-- the tokens lead from one state to another
abbrev pub Moves : List ℕ → State → List Token → State → Type 0
Moves bytes s [] e = s ≡ e
Moves bytes s (t ∷ ts) e = (m : State) × (step bytes s t ≡ Ok m) × Moves bytes m ts e

pub record IsFirstFault (bytes : List ℕ) (f : GmlFault) : Type 0 where
  pub tokens : List Token
  pub at : ℕ
  pub state : State
  pub leads : Leads bytes (first_place bytes) tokens at
  pub moves : Moves bytes begin tokens state
  pub fault : fault_of bytes state (next_token bytes at) ≡ Some f
