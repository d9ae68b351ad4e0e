-- The graph of a digraph alone: its tables are these, and fit together.
use Rattle.std.proofs.Common.{◌≡◌, ◌≢◌, ◌<◌, ◌+◌, ◌^◌, ℕ, ℤ, pos, Bool, true, false, cond, List, [], ◌∷◌, ◌++◌, length, map, get_or, slice_get, refl, ap, sym, subst, ◌∙◌, zero-add, arith, Option, Some, None, All}
use Rattle.std.specs.Prelude.{replicate}
use Rattle.std.specs.List.{range_with_len}
use Rattle.std.specs.Ordering.{int_eq}
use Rattle.std.proofs.lemmas.List.Folds.{list_any_none}
use Rattle.std.proofs.lemmas.List.{length-replicate, get_or-replicate, get_or_default}
use Rattle.std.proofs.lemmas.List.FromFn.{length-map-range_with_len, get_or-map-range_with_len, map-range_with_len_more}
use Rattle.std.proofs.lemmas.Option.{get_or_from_slice_get, slice_get_within}
use Rattle.st_ids.specs.Graph.{Graph, AreWithin, tail_of, head_of}
use Rattle.st_ids.specs.Lists.{In}
use Rattle.st_input.specs.Found.{tabled}
use Rattle.st_ids.specs.Lengths.{IsLength}
use Rattle.st_input.specs.InputGraph.{IsConsistent, AreShownLabels, AreListed}
use Rattle.st_input.specs.Names.{AreDifferent, is_among, positions}
use Rattle.st_input.specs.Orders.{HasEndsBelow, Filled, default_order}
use Rattle.st_input.specs.Plain.{counted, default_orders, plain_graph}
use Rattle.st_input.proofs.NameLemmas.{positions_length, positions_differ, other_pos}
use Rattle.st_input.proofs.FitLemmas.{default_within}
use Rattle.st_input.proofs.Fills.{same_lists_at}

-- ---- names
pub counted_length : (n : ℕ) → length (counted n) ≡ n
unfolding counted
counted_length n = length-map-range_with_len (λ k. pos k) 1 n

pub counted_more : (n : ℕ) → counted (n + 1) ≡ counted n ++ pos (n + 1) ∷ []
unfolding counted
counted_more n = map-range_with_len_more (λ k. pos k) 1 n (n + 1) (omega arith)

-- the name of vertex v
pub counted_get : (n v : ℕ) (d : ℤ) → v < n → get_or (counted n) v d ≡ pos (v + 1)
unfolding counted
counted_get n v d lt = get_or-map-range_with_len (λ k. pos k) 1 n v (v + 1) d lt (omega arith)

-- which vertex has a name
pub counted_at : (n v : ℕ) (name : ℤ) → slice_get (counted n) v ≡ Some name → (v < n) × (name ≡ pos (v + 1))
counted_at n v name there =
    let within : v < length (counted n) = slice_get_within (counted n) v name there in
    let lt : v < n = omega (arith, counted_length n) in
    (lt, sym (get_or_from_slice_get (counted n) v name (pos 0) there) ∙ counted_get n v (pos 0) lt)

pub counted_differ : (n : ℕ) → AreDifferent (counted n)
counted_differ n u v name a b =
    let p = counted_at n u name a in
    let q = counted_at n v name b in
    let same : pos (u + 1) ≡ pos (v + 1) = sym p.1 ∙ q.1 in
    let next : u + 1 ≡ v + 1 = cc in
    omega arith

-- the next name is a new one
pub counted_fresh : (n : ℕ) → is_among (counted n) (pos (n + 1)) ≡ false
unfolding is_among
counted_fresh n = list_any_none (int_eq (pos (n + 1))) (counted n) (λ k d lt.
    let small : k < n = omega (arith, counted_length n) in
    let differ : n + 1 ≢ k + 1 = omega arith in
    rw (counted_get n k d small) (other_pos (n + 1) (k + 1) differ))

-- one name more
pub counted_pushed : (n : ℕ) (name : ℤ) (old new : List ℤ) → old ≡ counted n → name ≡ pos (n + 1) → new ≡ old ++ name ∷ [] → new ≡ counted (n + 1)
counted_pushed n name old new is next e = e ∙ rw (is, next) (sym (counted_more n))

pub counted_added : (n : ℕ) (name : ℤ) (old new : List ℤ) → old ≡ counted n → name ≡ pos (n + 1) → new ≡ cond (is_among old name) old (old ++ name ∷ []) → new ≡ counted (n + 1)
counted_added n name old new is next e =
    let fresh : is_among old name ≡ false = rw (is, next) (counted_fresh n) in
    e ∙ ap (λ (b : Bool). cond b old (old ++ name ∷ [])) fresh ∙ rw (is, next) (sym (counted_more n))

-- ---- orders
pub ends_within : (n : ℕ) (ends : List (ℕ × ℕ)) → AreWithin n ends → All (HasEndsBelow n) ends
unfolding tail_of head_of
ends_within n ends within k d lt =
    let same : get_or ends k d ≡ get_or ends k (0, 0) = get_or_default ends k d (0, 0) lt in
    subst (HasEndsBelow n) (sym same) (within k lt)

pub free_within : (g : Graph) (n : ℕ) (free : List Bool) (ends : List (ℕ × ℕ)) → free ≡ replicate n true → n ≡ g.vertices → ends ≡ g.ends → AreWithin g.vertices g.ends → All (HasEndsBelow (length free)) ends
free_within g n free ends is count same within =
    let size : length free ≡ g.vertices = ap (λ (l : List Bool). length l) is ∙ length-replicate n true ∙ count in
    rw (size, same) (ends_within g.vertices g.ends within)

-- when both passes are done over empty lists, the lists are the default ones
default_filled : (g : Graph) (free : List Bool) (old new : List (List ℕ)) → free ≡ replicate g.vertices true → old ≡ replicate g.vertices [] → Filled free old new (default_order g.ends) → new ≡ default_orders g
unfolding default_orders
default_filled g free old new all_free empty filled =
    let n : length free ≡ g.vertices = ap (λ (l : List Bool). length l) all_free ∙ length-replicate g.vertices true in
    let count : length (map (default_order g.ends) (range_with_len 0 g.vertices)) ≡ g.vertices = length-map-range_with_len (default_order g.ends) 0 g.vertices in
    let size : length new ≡ length (map (default_order g.ends) (range_with_len 0 g.vertices)) = filled.size ∙ n ∙ sym count in
    same_lists_at new (map (default_order g.ends) (range_with_len 0 g.vertices)) size (λ v lt.
    let here : v < length free = omega (arith, filled.size) in
    let within : v < g.vertices = omega arith in
    let is_free : get_or free v false ≡ true = ap (λ (l : List Bool). get_or l v false) all_free ∙ get_or-replicate g.vertices v true false within in
    let is_empty : get_or old v [] ≡ [] = ap (λ (l : List (List ℕ)). get_or l v []) empty ∙ get_or-replicate g.vertices v [] [] within in
    filled.lists v here ∙ ap (λ (l : List ℕ). l ++ cond (get_or free v false) (default_order g.ends v) []) is_empty ∙ ap (λ (b : Bool). cond b (default_order g.ends v) []) is_free ∙ sym (get_or-map-range_with_len (default_order g.ends) 0 g.vertices v v [] within (zero-add v)))

-- the same of tables that are told by their calls
pub filled_default : (g : Graph) (free : List Bool) (old new : List (List ℕ)) (n m : ℕ) (ends : List (ℕ × ℕ)) → free ≡ replicate n true → n ≡ g.vertices → old ≡ replicate m [] → m ≡ g.vertices → ends ≡ g.ends → Filled free old new (default_order ends) → new ≡ default_orders g
filled_default g free old new n m ends e0 e1 e2 e3 e4 filled =
    default_filled g free old new (e0 ∙ ap (λ (k : ℕ). replicate k true) e1) (e2 ∙ ap (λ (k : ℕ). replicate k []) e3) (subst (λ (l : List (ℕ × ℕ)). Filled free old new (default_order l)) e4 filled)

-- ---- all tables
no_label : (n : ℕ) → AreShownLabels (replicate n None)
no_label n v bs there =
    let within : v < length (replicate n none) = slice_get_within (replicate n none) v (Some bs) there in
    let lt : v < n = omega (arith, length-replicate n none) in
    let is : none ≡ Some bs = sym (get_or-replicate n v none none lt) ∙ get_or_from_slice_get (replicate n none) v (Some bs) none there in
    absurd (cc)
  where
    none : Option (List ℕ)
    none = None

default_listed : (g : Graph) → AreListed g (default_orders g)
unfolding default_orders
default_listed g v e lt i = default_within g.ends v e (subst (λ (l : List ℕ). In e l) (get_or-map-range_with_len (default_order g.ends) 0 g.vertices v v [] lt (zero-add v)) i)

orders_size : (g : Graph) → length (default_orders g) ≡ g.vertices
unfolding default_orders
orders_size g = length-map-range_with_len (default_order g.ends) 0 g.vertices

one_row : (n : ℕ) → All IsLength (replicate n 1)
one_row n k d lt =
    let here : k < n = omega (arith, lt, length-replicate {A = ℕ} n 1) in
    subst IsLength (sym (get_or-replicate {A = ℕ} n k 1 d here)) (omega arith, omega arith)

-- the tables fit together
pub plain_fits : (g : Graph) → g.vertices < 2 ^ 30 → length g.ends < 2 ^ 30 → IsConsistent (plain_graph g)
plain_fits g few_vertices few_edges = record {
  few_vertices = few_vertices;
  few_edges = few_edges;
  vertex_names = counted_length g.vertices;
  edge_names = positions_length (length g.ends);
  lengths = length-replicate {A = ℕ} (length g.ends) 1;
  rows = one_row (length g.ends);
  labels = length-replicate g.vertices None;
  orders = orders_size g;
  different = counted_differ g.vertices;
  edges_different = positions_differ (length g.ends);
  shown = no_label g.vertices;
  listed = default_listed g;
  outer = tt;
}

-- the tables that are built are those of the graph
pub plain_tabled : (g : Graph) (vs es : List ℤ) (ns : List ℕ) (ls : List (Option (List ℕ))) (os : List (List ℕ)) (ps : List (List ℤ)) → vs ≡ counted g.vertices → es ≡ positions (length g.ends) → ns ≡ replicate (length g.ends) 1 → ls ≡ replicate g.vertices None → os ≡ default_orders g → ps ≡ [] → tabled g (record { vertex = vs; edge = es; label = ls }) ns os None ps ≡ plain_graph g
plain_tabled g vs es ns ls os ps e0 e1 e2 e3 e4 e5 = rw (e0, e1, e2, e3, e4, e5) refl

-- the same of tables that are told by their calls
pub plain_built : (g : Graph) (n k m j : ℕ) (vs es : List ℤ) (ns : List ℕ) (ls : List (Option (List ℕ))) (os : List (List ℕ)) (ps : List (List ℤ)) → vs ≡ counted n → n ≡ g.vertices → es ≡ positions m → m ≡ length g.ends → ls ≡ replicate k None → k ≡ g.vertices → ns ≡ replicate j 1 → j ≡ length g.ends → os ≡ default_orders g → ps ≡ [] → tabled g (record { vertex = vs; edge = es; label = ls }) ns os None ps ≡ plain_graph g
plain_built g n k m j vs es ns ls os ps e0 n_is e1 m_is e2 k_is e3 j_is e4 e5 = plain_tabled g vs es ns ls os ps (e0 ∙ ap counted n_is) (e1 ∙ ap positions m_is) (e3 ∙ ap (λ (i : ℕ). replicate i 1) j_is) (e2 ∙ ap (λ (i : ℕ). replicate i None) k_is) e4 e5
