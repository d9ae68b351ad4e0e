-- Which trees are sound: they can be printed and read again.
--   IsSpelled kind bs   the bytes are one token of this kind
--   AreWell tree        its keys, reals and strings are well formed
--   AreShort tree       each of its lists has fewer than 2^31 pairs
--   IsSound tree        both, its lists nest at most 32 deep, and its integers are within 64 bits
--   IsSoundDatum datum  the value may stand in a sound tree
use Rattle.std.specs.Prelude.{◌≡◌, ◌<◌, ◌≤◌, ◌^◌, List, [], ◌∷◌, ◌++◌, ℕ, length, IsTrue, Ok}
use Rattle.gml_core.specs.declared.token.TokenKind.{TokenKind}
use Rattle.gml_core.specs.declared.token.TokenKind.TheVariants.{Key, Real, Str}
use Rattle.gml_core.specs.Lexing.{gap, token, token_at}
use Rattle.gml_core.specs.Trees.{Atom, int, real, str, Datum, atom, list, Entry, entry, Entries, none, more, listed, depth, datum_depth, max_depth, all_fit, datum_fits}

-- the bytes are one token of this kind
abbrev pub IsSpelled : TokenKind → List ℕ → Type 0
IsSpelled kind bs = (gap bs ≡ 0) × (token_at 0 bs ≡ Ok (token kind 0 (length bs)))

abbrev pub IsWellAtom : Atom → Type 0
IsWellAtom (int z) = Unit {0}
IsWellAtom (real bs) = IsSpelled Real bs
IsWellAtom (str bs) = IsSpelled Str (34 ∷ (bs ++ 34 ∷ []))

-- keys, reals and strings are well formed
abbrev mutual
  pub IsWellDatum : Datum → Type 0
  IsWellDatum (atom a) = IsWellAtom a
  IsWellDatum (list es) = AreWell es

  pub IsWellEntry : Entry → Type 0
  IsWellEntry (entry k at d) = IsSpelled Key k × IsWellDatum d

  pub AreWell : Entries → Type 0
  AreWell none = Unit {0}
  AreWell (more e es) = IsWellEntry e × AreWell es

abbrev pub short_length : ℕ
short_length = 2 ^ 31

-- each list inside has fewer than 2^31 pairs
abbrev mutual
  pub IsShortDatum : Datum → Type 0
  IsShortDatum (atom a) = Unit {0}
  IsShortDatum (list es) = (length (listed es) < short_length) × HaveShortLists es

  pub IsShortEntry : Entry → Type 0
  IsShortEntry (entry k at d) = IsShortDatum d

  pub HaveShortLists : Entries → Type 0
  HaveShortLists none = Unit {0}
  HaveShortLists (more e es) = IsShortEntry e × HaveShortLists es

-- and so has the tree's own list
abbrev pub AreShort : Entries → Type 0
AreShort es = (length (listed es) < short_length) × HaveShortLists es

pub record IsSound (tree : Entries) : Type 0 where
  pub nests : depth tree ≤ max_depth
  pub fit : IsTrue (all_fit tree)
  pub well : AreWell tree
  pub short : AreShort tree

pub record IsSoundDatum (datum : Datum) : Type 0 where
  pub nests : datum_depth datum ≤ max_depth
  pub fit : IsTrue (datum_fits datum)
  pub well : IsWellDatum datum
  pub short : IsShortDatum datum
