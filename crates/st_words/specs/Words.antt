-- What words ask for.
--   IsName word n          the word writes the vertex name n
--   ArePairNames words ps  the words write the names of the pairs, one after the other
--   AreForm words f        the words name the form of drawing
--   IsCommand words c      the words are a form of the command on a file
--   IsNumber word n        the word writes the number n, in digits alone
--   IsRecipe a b r         two words write which graph is generated
--   AskOrient words s t    the words ask for an orientation with the poles of these names
--   IsTask words t         the words ask for the task: a command on a file, a check, an orientation, a session, or something about a generated graph
use Rattle.st_ids.specs.declared.limits.TheConstants.{MOST_PAIRS, MOST_VERTICES}
use Rattle.std.specs.Prelude.{◌≡◌, ℕ, ◌+◌, ◌*◌, ◌^◌, ◌<◌, ◌≤◌, ℤ, pos, FitsSigned, List, [], ◌∷◌, length, drop, slice_index_or, codes}
use Rattle.std.specs.Int.{w64}
use Rattle.std.specs.Str.Parse.{IsNumeral, digits_value, signed_digits_value, without_leading_sign}
use Rattle.st_words.specs.declared.words.Command.{Command}
use Rattle.st_words.specs.declared.words.Command.TheVariants.{Query, Test, Draw, Lattice}
use Rattle.st_words.specs.declared.words.DrawForm.{DrawForm}
use Rattle.st_words.specs.declared.words.DrawForm.TheVariants.{Visibility, Tessellation, Constrained, Polyline, Dominance}
use Rattle.st_words.specs.declared.words.Operation.{Operation}
use Rattle.st_words.specs.declared.words.Operation.TheVariants.{Join, Meet}
use Rattle.st_words.specs.declared.words.Recipe.{Recipe}
use Rattle.st_words.specs.declared.words.Spot.{Spot}
use Rattle.st_words.specs.declared.words.Spot.TheVariants.{Left, Middle, Right}
use Rattle.st_words.specs.declared.words.Task.{Task}
use Rattle.st_words.specs.declared.words.Task.TheVariants.{File, Check, Orient, Session, Gen, Bench}

-- an optional sign and at least one digit, of a number in signed 64 bits
pub record IsName (word : List ℕ) (n : ℤ) : Type 0 where
  pub digits : IsNumeral 10 (without_leading_sign word)
  pub value : signed_digits_value 10 word ≡ n
  pub fits : FitsSigned w64 n

-- the words write the names of the pairs, one after the other
pub record ArePairNames (words : List (List ℕ)) (pairs : List (ℤ × ℤ)) : Type 0 where
  pub size : length words ≡ 2 * length pairs
  pub first : (i : ℕ) → i < length pairs → IsName (slice_index_or words (2 * i) []) (slice_index_or pairs i (pos 0, pos 0)).0
  pub second : (i : ℕ) → i < length pairs → IsName (slice_index_or words (2 * i + 1) []) (slice_index_or pairs i (pos 0, pos 0)).1

-- the greatest number of pairs of a query
abbrev pub most_pairs : ℕ
most_pairs = MOST_PAIRS

-- the word of a spot
abbrev pub spot_word : Spot → List ℕ
spot_word Left = codes "left"
spot_word Middle = codes "middle"
spot_word Right = codes "right"

-- the words of a form of drawing
abbrev pub form_words : DrawForm → List (List ℕ)
form_words Visibility = codes "visibility" ∷ []
form_words Tessellation = codes "tessellation" ∷ []
form_words Constrained = codes "constrained" ∷ []
form_words (Polyline spot) = codes "polyline" ∷ spot_word spot ∷ []
form_words Dominance = codes "dominance" ∷ []

-- the words name the form
abbrev pub AreForm : List (List ℕ) → DrawForm → Type 0
AreForm words form = words ≡ form_words form

-- the word of a bound
abbrev pub operation_word : Operation → List ℕ
operation_word Join = codes "join"
operation_word Meet = codes "meet"

-- the first word of a command
abbrev pub command_word : Command → List ℕ
command_word Test = codes "test"
command_word (Draw form) = codes "draw"
command_word (Query pairs) = codes "query"
command_word (Lattice operation from to) = operation_word operation

-- what the words behind the first say
abbrev pub AreArguments : List (List ℕ) → Command → Type 0
AreArguments words Test = words ≡ []
AreArguments words (Draw form) = AreForm words form
AreArguments words (Query pairs) = (1 ≤ length pairs) × (length pairs ≤ most_pairs) × ArePairNames words pairs
AreArguments words (Lattice operation from to) = ArePairNames words ((from, to) ∷ [])

-- the words are a form of the command on a file
abbrev pub IsCommand : List (List ℕ) → Command → Type 0
IsCommand [] command = ⊥
IsCommand (name ∷ words) command = (name ≡ command_word command) × AreArguments words command

-- one digit or more and nothing else; zeros may lead
pub record IsNumber (word : List ℕ) (n : ℕ) : Type 0 where
  pub digits : IsNumeral 10 word
  pub value : digits_value 10 word ≡ n

-- the greatest number of vertices of a generated graph
abbrev pub most_vertices : ℕ
most_vertices = MOST_VERTICES

-- two words write a number of vertices within its limits and a seed of 64 bits
pub record IsRecipe (size seed : List ℕ) (r : Recipe) : Type 0 where
  pub vertices : IsNumber size r.vertices
  pub least : 2 ≤ r.vertices
  pub most : r.vertices ≤ most_vertices
  pub words : IsNumber seed r.seed
  pub fits : r.seed < 2 ^ 64

-- the second and the third word write it
abbrev pub AreRecipe : List (List ℕ) → Recipe → Type 0
AreRecipe words r = IsRecipe (slice_index_or words 1 []) (slice_index_or words 2 []) r

-- the words ask for an orientation with a source and a sink of these names
abbrev pub AskOrient : List (List ℕ) → ℤ → ℤ → Type 0
AskOrient [] from to = ⊥
AskOrient (name ∷ words) from to = (name ≡ codes "orient") × ArePairNames words ((from, to) ∷ [])

-- the words ask for the task; the form of a drawing stands last
abbrev pub IsTask : List (List ℕ) → Task → Type 0
IsTask words (File command) = IsCommand words command
IsTask words Check = words ≡ codes "check" ∷ []
IsTask words (Orient from to) = AskOrient words from to
IsTask words Session = words ≡ codes "session" ∷ []
IsTask words (Gen r) = (length words ≡ 3) × (slice_index_or words 0 [] ≡ codes "gen") × AreRecipe words r
IsTask words (Bench r form) = (slice_index_or words 0 [] ≡ codes "bench") × AreRecipe words r × AreForm (drop 3 words) form

-- words ask for at most one task
abbrev pub HasOneTask : Type 0
HasOneTask = (words : List (List ℕ)) (t u : Task) → IsTask words t → IsTask words u → t ≡ u

-- no file is read for the task
abbrev pub IsFileless : Task → Type 0
IsFileless (File command) = ⊥
IsFileless Check = ⊥
IsFileless (Orient from to) = ⊥
IsFileless Session = ⊥
IsFileless (Gen r) = Unit {0}
IsFileless (Bench r form) = Unit {0}
