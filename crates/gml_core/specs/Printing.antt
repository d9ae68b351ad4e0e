-- The printed form of a tree.
--   printed tree    its bytes: no indentation, a line feed behind each pair and each opening bracket
--   at_zero tree    the same tree with each place 0
use Rattle.std.specs.Prelude.{List, [], ◌∷◌, ◌++◌, ℕ}
use Rattle.std.specs.Fmt.{signed_decimal}
use Rattle.gml_core.specs.Trees.{Atom, int, real, str, Datum, atom, list, Entry, entry, Entries, none, more}

abbrev pub atom_text : Atom → List ℕ
atom_text (int z) = signed_decimal z
atom_text (real bs) = bs
atom_text (str bs) = 34 ∷ (bs ++ 34 ∷ [])

abbrev mutual
  pub datum_text : Datum → List ℕ
  datum_text (atom a) = atom_text a
  datum_text (list es) = 91 ∷ 10 ∷ (printed es ++ 93 ∷ [])

  -- each pair ends with a line feed
  pub entry_text : Entry → List ℕ
  entry_text (entry k at d) = (k ++ 32 ∷ datum_text d) ++ 10 ∷ []

  pub printed : Entries → List ℕ
  printed none = []
  printed (more e es) = entry_text e ++ printed es

-- the same with each place 0
abbrev mutual
  pub datum_at_zero : Datum → Datum
  datum_at_zero (atom a) = atom a
  datum_at_zero (list es) = list (at_zero es)

  pub entry_at_zero : Entry → Entry
  entry_at_zero (entry k at d) = entry k 0 (datum_at_zero d)

  pub at_zero : Entries → Entries
  at_zero none = none
  at_zero (more e es) = more (entry_at_zero e) (at_zero es)
