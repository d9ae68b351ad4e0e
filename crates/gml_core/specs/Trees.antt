-- What a tree is, and how it is spelled.
--   Entries, Entry, Datum, Atom    a list of pairs, a pair, a value, a value that is no list
--   Word                           a token, by what it says
--   spelling tree                  the words of the tree's text, in order
--   depth tree                     how deep its lists nest; the tree's own list has depth 0
--   all_fit tree                   each of its integers is within signed 64 bits
--   listed tree                    its pairs, as a list
--   push tree entry                the tree with one pair more at its end
use Rattle.std.specs.Prelude.{ℕ, suc, max, ℤ, pos, negsuc, Bool, true, ◌&&◌, int_le, ◌-◌, ◌^◌, List, [], ◌∷◌, ◌++◌}

-- a value that is no list
pub data Atom : Type 0 where
  int : ℤ → Atom
  real : List ℕ → Atom
  str : List ℕ → Atom

mutual
  pub data Datum : Type 0 where
    atom : Atom → Datum
    list : Entries → Datum

  -- a key, its place, and its value
  pub data Entry : Type 0 where
    entry : List ℕ → ℕ → Datum → Entry

  pub data Entries : Type 0 where
    none : Entries
    more : Entry → Entries → Entries

-- a token, by what it says
pub data Word : Type 0 where
  opens : Word
  closes : Word
  key : List ℕ → ℕ → Word
  value : Atom → Word

abbrev mutual
  pub datum_spelling : Datum → List Word
  datum_spelling (atom a) = value a ∷ []
  datum_spelling (list es) = opens ∷ (spelling es ++ closes ∷ [])

  pub entry_spelling : Entry → List Word
  entry_spelling (entry k at d) = key k at ∷ datum_spelling d

  pub spelling : Entries → List Word
  spelling none = []
  spelling (more e es) = entry_spelling e ++ spelling es

-- how deep lists nest
abbrev mutual
  pub datum_depth : Datum → ℕ
  datum_depth (atom a) = 0
  datum_depth (list es) = suc (depth es)

  pub entry_depth : Entry → ℕ
  entry_depth (entry k at d) = datum_depth d

  pub depth : Entries → ℕ
  depth none = 0
  depth (more e es) = max (entry_depth e) (depth es)

abbrev pub max_depth : ℕ
max_depth = 32

-- an integer is within signed 64 bits
abbrev pub fits : Atom → Bool
fits (int z) = int_le (negsuc (2 ^ 63 - 1)) z && int_le z (pos (2 ^ 63 - 1))
fits (real bs) = true
fits (str bs) = true

-- each integer of the tree is
abbrev mutual
  pub datum_fits : Datum → Bool
  datum_fits (atom a) = fits a
  datum_fits (list es) = all_fit es

  pub entry_fits : Entry → Bool
  entry_fits (entry k at d) = datum_fits d

  pub all_fit : Entries → Bool
  all_fit none = true
  all_fit (more e es) = entry_fits e && all_fit es

-- the entries as a list
abbrev pub listed : Entries → List Entry
listed none = []
listed (more e es) = e ∷ listed es

-- the entries, and one more at the end
abbrev pub push : Entries → Entry → Entries
push none e = more e none
push (more d es) e = more d (push es e)
