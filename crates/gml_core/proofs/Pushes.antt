-- A list of pairs: one more, how many, and each by its number.
use Rattle.std.proofs.Common.{◌≡◌, ℕ, zero, suc, List, [], ◌∷◌, ◌++◌, length, slice_get, Option, Some, option_map, refl, ap}
use Rattle.std.proofs.lemmas.Option.{none-some}
use Rattle.gml_core.specs.declared.tree.Pair.{Pair}
use Rattle.gml_core.specs.Trees.{Entries, more, push, listed}
use Rattle.gml_core.specs.Views.{entries, entry_view}

pub entries_push : (ps : List Pair) (p : Pair) → entries (ps ++ p ∷ []) ≡ push (entries ps) (entry_view p)
entries_push [] p = refl
entries_push (q ∷ ps) p = ap (λ (es : Entries). more (entry_view q) es) (entries_push ps p)

pub length_listed : (ps : List Pair) → length (listed (entries ps)) ≡ length ps
length_listed [] = refl
length_listed (p ∷ ps) = ap suc (length_listed ps)

pub get_listed : (ps : List Pair) (i : ℕ) (p : Pair) → slice_get ps i ≡ Some p → slice_get (listed (entries ps)) i ≡ Some (entry_view p)
get_listed [] i p e = elim (none-some p e) [ ]
get_listed (q ∷ ps) zero p e = ap (λ (o : Option Pair). option_map entry_view o) e
get_listed (q ∷ ps) (suc i) p e = get_listed ps i p e
