-- What the definitions say together.
use Rattle.std.proofs.Common.{◌≡◌, ◌<◌, ◌≤◌, ◌^◌, ℕ, Bool, true, false, cond, nat_lt, ◌∙◌, List, ◌∷◌, zero, suc, ap, sym, slice_get, Option, Some, None, option_map, [], length, codes, refl, subst, arith}
use Rattle.std.specs.Prelude.{replicate}
use Rattle.std.proofs.lemmas.Bool.Decides.{nat_tests}
use Rattle.std.proofs.lemmas.List.{length-map}
use Rattle.gml_core.specs.Trees.{Entry, Entries, listed}
use Rattle.st_parts.specs.Used.{has_key, first_with, each}
use Rattle.st_parts.specs.Parts.{minlen_of, pairs_in, edge_in, parts_in}
use Rattle.st_input.specs.InputGraph.{InputGraph, IsConsistent}
use Rattle.st_input.specs.Embedding.{embedded_in, embedded_graph}
use Rattle.st_input.specs.Faults.{or_else, first_fault, node_fault, edge_fault, node_names, ids_fault, orders_fault, edge_names, pair_in, ends_in, rows_of, length_in, lengths_in}
use Rattle.st_input.specs.FirstFault.{limits_fault, outer_fault, parts_fault, text_fault, graph_fault, shape_fault}
use Rattle.st_input.specs.Laws.{HasNoLengths}
use Rattle.st_parts.specs.declared.parts.Edge.{Edge}
use Rattle.st_input.specs.declared.fault.ShapeFault.{ShapeFault}
use Rattle.st_input.specs.declared.fault.ShapeFault.TheVariants.{TooManyVertices, TooManyEdges}
use Rattle.st_parts.specs.declared.parts.Parts.{Parts}
use Rattle.st_input.proofs.FitLemmas.{or_none, consistent_in, labels_fit}

some_same : {A : Type 0} (x y : A) → Some x ≡ Some y → x ≡ y
some_same x y e = cc

-- where neither limit is passed, both numbers are within
few_vertices : (n m max_n max_m : ℕ) → limits_fault n m max_n max_m ≡ None → n ≤ max_n
few_vertices n m max_n max_m e = by (nat_lt max_n n) (TooManyVertices n) (cond (nat_lt max_m m) (Some (TooManyEdges m)) None) refl e
  where
    by : (b : Bool) (g : ShapeFault) (f : Option ShapeFault) → nat_lt max_n n ≡ b → cond b (Some g) f ≡ None → n ≤ max_n
    by true g f is h = absurd (cc)
    by false g f is h = grind (arith, nat_tests)

few_edges : (n m max_n max_m : ℕ) → limits_fault n m max_n max_m ≡ None → m ≤ max_m
few_edges n m max_n max_m e = by (nat_lt max_n n) (TooManyVertices n) (cond (nat_lt max_m m) (Some (TooManyEdges m)) None) e rest
  where
    last : (c : Bool) (g : ShapeFault) → nat_lt max_m m ≡ c → cond c (Some g) None ≡ None → m ≤ max_m
    last true g is h = absurd (cc)
    last false g is h = grind (arith, nat_tests)

    rest : cond (nat_lt max_m m) (Some (TooManyEdges m)) None ≡ None → m ≤ max_m
    rest h = last (nat_lt max_m m) (TooManyEdges m) refl h

    by : (b : Bool) (g : ShapeFault) (f : Option ShapeFault) → cond b (Some g) f ≡ None → (f ≡ None → m ≤ max_m) → m ≤ max_m
    by true g f h k = absurd (cc)
    by false g f h k = k h

last_clear : (a b c d f g : Option ShapeFault) → or_else a (or_else b (or_else c (or_else d (or_else f g)))) ≡ None → g ≡ None
last_clear a b c d f g e = (or_none f g (or_none d (or_else f g) (or_none c (or_else d (or_else f g)) (or_none b (or_else c (or_else d (or_else f g))) (or_none a (or_else b (or_else c (or_else d (or_else f g)))) e).1).1).1).1).1

limits_clear : (p : Parts) (max_n max_m : ℕ) → parts_fault p max_n max_m ≡ None → limits_fault (length p.nodes) (length p.edges) max_n max_m ≡ None
limits_clear p max_n max_m e = last_clear (first_fault node_fault [] p.nodes) (first_fault (edge_fault (node_names p.nodes)) [] p.edges) (ids_fault p.edges) (orders_fault (edge_names p.edges) p.nodes) (outer_fault (edge_names p.edges) p.outer) (limits_fault (length p.nodes) (length p.edges) max_n max_m) e

pub fits_together : (text : Entries) (max_n max_m : ℕ) (g : InputGraph) → max_n < 2 ^ 30 → max_m < 2 ^ 30 → shape_fault text max_n max_m ≡ None → embedded_graph text ≡ Some g → IsConsistent g
unfolding shape_fault embedded_graph
fits_together text max_n max_m g few_n few_m clear is = by (first_with (codes "graph") (listed text)) clear is
  where
    by : (o : Option Entry) → graph_fault (listed text) o max_n max_m ≡ None → option_map (λ (e : Entry). embedded_in (parts_in e)) o ≡ Some g → IsConsistent g
    by None h q = absurd (cc)
    by (Some e) h q =
        let none = (or_none (text_fault (listed text)) (parts_fault (parts_in e) max_n max_m) h).1 in
        let within = limits_clear (parts_in e) max_n max_m none in
        let nodes : length (parts_in e).nodes ≤ max_n = few_vertices (length (parts_in e).nodes) (length (parts_in e).edges) max_n max_m within in
        let edges : length (parts_in e).edges ≤ max_m = few_edges (length (parts_in e).nodes) (length (parts_in e).edges) max_n max_m within in
        let small : length (parts_in e).nodes < 2 ^ 30 = omega arith in
        let less : length (parts_in e).edges < 2 ^ 30 = omega arith in
        let fit = labels_fit e in
        let same : embedded_in (parts_in e) ≡ g = some_same (embedded_in (parts_in e)) g q in
        subst IsConsistent same (consistent_in (parts_in e) max_n max_m none small less fit.0 fit.1)

pub within_limits : (text : Entries) (max_n max_m : ℕ) (g : InputGraph) → shape_fault text max_n max_m ≡ None → embedded_graph text ≡ Some g → (g.graph.vertices ≤ max_n) × (length g.graph.ends ≤ max_m)
unfolding shape_fault embedded_graph
within_limits text max_n max_m g clear is = by (first_with (codes "graph") (listed text)) clear is
  where
    by : (o : Option Entry) → graph_fault (listed text) o max_n max_m ≡ None → option_map (λ (e : Entry). embedded_in (parts_in e)) o ≡ Some g → (g.graph.vertices ≤ max_n) × (length g.graph.ends ≤ max_m)
    by None h q = absurd (cc)
    by (Some e) h q =
        let none = (or_none (text_fault (listed text)) (parts_fault (parts_in e) max_n max_m) h).1 in
        let within = limits_clear (parts_in e) max_n max_m none in
        let nodes : length (parts_in e).nodes ≤ max_n = few_vertices (length (parts_in e).nodes) (length (parts_in e).edges) max_n max_m within in
        let edges : length (parts_in e).edges ≤ max_m = few_edges (length (parts_in e).nodes) (length (parts_in e).edges) max_n max_m within in
        let counted : length (ends_in (node_names (parts_in e).nodes) (parts_in e).edges) ≡ length (parts_in e).edges = length-map (parts_in e).edges (pair_in (node_names (parts_in e).nodes)) in
        let same : embedded_in (parts_in e) ≡ g = some_same (embedded_in (parts_in e)) g q in
        subst (λ (z : InputGraph). (z.graph.vertices ≤ max_n) × (length z.graph.ends ≤ max_m)) same (nodes, omega arith)

-- ---- lengths
all_one : (xs : List Entry) → ((e : Entry) (k : ℕ) → slice_get xs k ≡ Some e → has_key (codes "edge") e ≡ true → first_with (codes "minlen") (pairs_in e) ≡ None) → lengths_in (each (codes "edge") edge_in xs) ≡ replicate (length (each (codes "edge") edge_in xs)) 1
all_one [] without = refl
all_one (e ∷ xs) without = by (has_key (codes "edge") e) refl (all_one xs (λ x k. without x (suc k)))
  where
    es : List Edge
    es = each (codes "edge") edge_in xs

    by : (b : Bool) → has_key (codes "edge") e ≡ b → lengths_in es ≡ replicate (length es) 1 → lengths_in (cond b (edge_in e ∷ es) es) ≡ replicate (length (cond b (edge_in e ∷ es) es)) 1
    by true q rest =
        let one : length_in (edge_in e) ≡ 1 = ap (λ (o : Option Entry). rows_of (minlen_of o)) (without e 0 refl q) in
        ap (λ (n : ℕ). n ∷ lengths_in es) one ∙ ap (λ (l : List ℕ). 1 ∷ l) rest
    by false q rest = rest

pub default_lengths : (text : Entries) (g : InputGraph) → HasNoLengths text → embedded_graph text ≡ Some g → g.lengths ≡ replicate (length g.graph.ends) 1
unfolding embedded_graph
default_lengths text g without is = by (first_with (codes "graph") (listed text)) refl is
  where
    by : (o : Option Entry) → first_with (codes "graph") (listed text) ≡ o → option_map (λ (e : Entry). embedded_in (parts_in e)) o ≡ Some g → g.lengths ≡ replicate (length g.graph.ends) 1
    by None there q = absurd (cc)
    by (Some e) there q =
        let counted : length (ends_in (node_names (parts_in e).nodes) (parts_in e).edges) ≡ length (parts_in e).edges = length-map (parts_in e).edges (pair_in (node_names (parts_in e).nodes)) in
        let ones : lengths_in (parts_in e).edges ≡ replicate (length (parts_in e).edges) 1 = all_one (pairs_in e) (λ x k. without e x k there) in
        subst (λ (z : InputGraph). z.lengths ≡ replicate (length z.graph.ends) 1) (some_same (embedded_in (parts_in e)) g q) (ones ∙ ap (λ (n : ℕ). replicate n 1) (sym counted))
