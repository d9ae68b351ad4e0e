-- The tree that a value of the program stands for.
--   view tree          of a `Tree`
--   entry_view pair    of a `Pair`
--   datum value        of a `Value`
--   entries pairs      of a list of pairs
use Rattle.std.specs.Prelude.{List, [], ◌∷◌, map}
use Rattle.gml_core.specs.Trees.{int, real, str, Datum, atom, list, Entry, entry, Entries, none, more}
use Rattle.gml_core.specs.declared.tree.Value.{Value, fold-Value}
use Rattle.gml_core.specs.declared.tree.Value.TheOpen.{Value-F, Pair-F, Tree-F}
use Rattle.gml_core.specs.declared.tree.Pair.{Pair, fold-Pair}
use Rattle.gml_core.specs.declared.tree.Tree.{Tree, fold-Tree}

abbrev pub entries_of : List Entry → Entries
entries_of [] = none
entries_of (e ∷ es) = more e (entries_of es)

-- one level, with what is inside already seen
abbrev pub value_step : Value-F Datum Entry Entries → Datum
value_step (Value-F.Int n) = atom (int n)
value_step (Value-F.Real t) = atom (real t)
value_step (Value-F.Str t) = atom (str t)
value_step (Value-F.List t) = list t

abbrev pub pair_step : Pair-F Datum Entry Entries → Entry
pair_step p = entry p.key p.at p.value

abbrev pub tree_step : Tree-F Datum Entry Entries → Entries
tree_step t = entries_of t.pairs

abbrev pub datum : Value → Datum
datum = fold-Value Datum Entry Entries value_step pair_step tree_step

abbrev pub entry_view : Pair → Entry
entry_view = fold-Pair Datum Entry Entries value_step pair_step tree_step

abbrev pub view : Tree → Entries
view = fold-Tree Datum Entry Entries value_step pair_step tree_step

abbrev pub entries : List Pair → Entries
entries ps = entries_of (map entry_view ps)
