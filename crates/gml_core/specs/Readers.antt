-- Readers that are fed in pieces: for which bytes a reader stands, said by what comes whatever bytes still come.
--   Resumes Upto b rest state at    reading stands at a place of b, behind which is the rest; Upto says what is read up to a place
--   StandsFor r b                   the reader of tokens stands for these bytes
--   IsRead bytes builder at         the bytes up to a place are read by this builder
--   TreeStandsFor r b               the reader of a tree stands for these bytes
--   ReadsOn old new at rest n       n bytes of a rest are read by a builder
use Rattle.std.specs.Prelude.{◌≡◌, ℕ, ◌+◌, List, [], ◌++◌, length, drop, map, Option, Some, None}
use Rattle.gml_core.specs.declared.token.Token.{Token}
use Rattle.gml_core.specs.declared.pieces.State.{State}
use Rattle.gml_core.specs.declared.pieces.State.TheVariants.{Between}
use Rattle.gml_core.specs.declared.fault.GmlFault.{GmlFault}
use Rattle.gml_core.specs.declared.parsing.Builder.{Builder}
use Rattle.gml_core.specs.declared.readers.TokenReader.{TokenReader}
use Rattle.gml_core.specs.declared.readers.TreeReader.{TreeReader}
use Rattle.gml_core.specs.Lexing.{next_token, first_place, Leads}
use Rattle.gml_core.specs.Reading.{begin, word, Moves, IsFirstFault}
use Rattle.gml_core.specs.Building.{words_of, state_of}
use Rattle.gml_core.specs.Pieces.{coming, held_of, IsPlaced}

-- Whatever bytes still come, all is read up to some place, and what comes from there on is what comes in this state.
pub record Resumes (Upto : List ℕ → ℕ → Type 0) (b rest : List ℕ) (state : State) (at : ℕ) : Type 0 where
  pub front : List ℕ
  pub bytes : b ≡ front ++ (held_of state ++ rest)
  pub ends : at ≡ length front + length (held_of state)
  pub placed : IsPlaced state at
  pub comes : (c : List ℕ) → (place : ℕ) × Upto (b ++ c) place × (next_token (b ++ c) place ≡ coming state at (rest ++ c))

-- these tokens lead up to a place
abbrev pub LeadUp : List Token → List ℕ → ℕ → Type 0
LeadUp ts bytes at = Leads bytes (first_place bytes) ts at

abbrev pub TokensRead : TokenReader → List ℕ → List ℕ → Type 0
TokensRead r b rest = Resumes (LeadUp r.tokens.items) b rest r.state r.fed

-- the reader stands for these bytes
abbrev pub StandsFor : TokenReader → List ℕ → Type 0
StandsFor r b = TokensRead r b []

-- the bytes up to a place are read
pub record IsRead (bytes : List ℕ) (b : Builder) (at : ℕ) : Type 0 where
  pub tokens : List Token
  pub leads : Leads bytes (first_place bytes) tokens at
  pub words : map (word bytes) tokens ≡ words_of b
  pub moves : Moves bytes begin tokens (state_of b)

abbrev pub BuiltUp : Builder → List ℕ → ℕ → Type 0
BuiltUp builder bytes at = IsRead bytes builder at

-- before a fault; and behind one, which is the first whatever bytes still come
abbrev pub TreeReadsWith : Option GmlFault → TreeReader → List ℕ → List ℕ → Type 0
TreeReadsWith None r b rest = Resumes (BuiltUp r.builder) b rest r.state r.fed
TreeReadsWith (Some f) r b rest = (r.fed + length rest ≡ length b) × IsPlaced r.state r.fed × ((c : List ℕ) → IsFirstFault (b ++ c) f)

pub record TreeReads (r : TreeReader) (b rest : List ℕ) : Type 0 where
  pub reads : TreeReadsWith r.fault r b rest

-- the reader stands for these bytes
abbrev pub TreeStandsFor : TreeReader → List ℕ → Type 0
TreeStandsFor r b = TreeReads r b []

-- where the rest lies at this place, reading with the old builder goes on n bytes further with the new one
abbrev pub ReadsOn : Builder → Builder → ℕ → List ℕ → ℕ → Type 0
ReadsOn old new at rest n = (b : List ℕ) → Resumes (BuiltUp old) b rest Between at → Resumes (BuiltUp new) b (drop n rest) Between (at + n)
