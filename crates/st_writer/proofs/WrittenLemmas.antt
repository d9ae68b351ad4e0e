-- The written tree, pair by pair: what is appended, and that its lists nest three deep.
-- Letters: g graph, v vertex, e edge, es pairs, xs the same as a list.
use Rattle.std.proofs.Common.{◌≡◌, ◌<◌, ◌≤◌, ◌+◌, ◌*◌, ◌^◌, ℕ, zero, suc, ℤ, pos, Bool, true, false, cond, eqb, List, [], ◌∷◌, ◌++◌, length, map, get_or, slice_get, refl, ap, sym, subst, ◌∙◌, append_assoc, arith, codes, Option, None, Some, All}
use Rattle.std.specs.List.{range_with_len}
use Rattle.std.proofs.lemmas.List.{length-append, length-map, get_or-map, same_lists}
use Rattle.std.proofs.lemmas.List.FromFn.{get_or-map-range_with_len, length-map-range_with_len, map-range_with_len_more}
use Rattle.std.proofs.lemmas.Option.{get_or_from_slice_get}
use Rattle.st_ids.specs.declared.ids.EdgeId.{EdgeId}
use Rattle.st_ids.specs.Ends.{edge_of}
use Rattle.st_ids.specs.Graph.{tail_of, head_of}
use Rattle.st_ids.specs.EdgeNumbers.{numbers}
use Rattle.st_ids.specs.Lists.{In, here, there}
use Rattle.gml_core.specs.Trees.{atom, str, list, Entry, entry, Entries, none, more, listed, push, depth, entry_depth}
use Rattle.gml_core.specs.Views.{entries_of}
use Rattle.st_input.specs.InputGraph.{InputGraph, AreListed}
use Rattle.st_input.specs.Writable.{HasNoQuote, IsWritable}
use Rattle.st_writer.specs.Plain.{int_pair, node_pair, edge_pair, graph_pairs, plain_entries}
use Rattle.st_writer.specs.declared.written.Extent.{Extent}
use Rattle.st_writer.specs.declared.written.Extent.TheVariants.{Plain, Whole}
use Rattle.st_writer.specs.Written.{name_pair, order_pair, label_pairs, length_of, length_pairs, rest_pairs, vertex_pairs, node_by, arc_pairs, arc_by, end_pairs, outer_pairs, outer_by, pairs_by, entries_by, written_pairs, written_entries, CanBeWritten}

-- ---- a pair more
pub listed_push : (es : Entries) (e : Entry) → listed (push es e) ≡ listed es ++ e ∷ []
listed_push none e = refl
listed_push (more d es) e = ap (λ (l : List Entry). d ∷ l) (listed_push es e)

pub entries_listed : (es : Entries) → entries_of (listed es) ≡ es
entries_listed none = refl
entries_listed (more e es) = ap (λ (l : Entries). more e l) (entries_listed es)

pub pushed_pairs : (old new : Entries) (e : Entry) → new ≡ push old e → listed new ≡ listed old ++ e ∷ []
pushed_pairs old new e is = ap (λ (l : Entries). listed l) is ∙ listed_push old e

-- ---- what `graph` holds, pair by pair
unfoldable pub all_pairs : Extent → InputGraph → List Entry
all_pairs x g = int_pair (codes "directed") (pos 1) ∷ (outer_pairs g.edge_names (outer_by x g) ++ (map (node_by x g) (range_with_len 0 g.graph.vertices) ++ map (arc_by x g) (range_with_len 0 (length g.graph.ends))))

-- a list made place by place
by_place : {A : Type 0} (f : A → Entry) (d : A) (h : ℕ → Entry) (xs : List A) (n : ℕ) → length xs ≡ n → ((k : ℕ) → h k ≡ f (get_or xs k d)) → map h (range_with_len 0 n) ≡ map f xs
by_place f d h xs n size same =
    same_lists (map h (range_with_len 0 n)) (map f xs) (length-map-range_with_len h 0 n ∙ sym size ∙ sym (length-map xs f)) (λ k e lt.
    let l : k < n = omega (arith, lt, length-map-range_with_len h 0 n) in
    get_or-map-range_with_len h 0 n k k e l (omega arith) ∙ same k ∙ sym (get_or-map f xs k d e (omega (arith, l, size))))

pub pairs_are : (x : Extent) (g : InputGraph) → length g.vertex_names ≡ g.graph.vertices → all_pairs x g ≡ pairs_by x g
unfolding all_pairs written_pairs graph_pairs tail_of head_of
pairs_are Plain g n =
    let nodes : map (node_by Plain g) (range_with_len 0 g.graph.vertices) ≡ map node_pair g.vertex_names = by_place node_pair (pos 0) (node_by Plain g) g.vertex_names g.graph.vertices n (λ k. refl) in
    let edges : map (arc_by Plain g) (range_with_len 0 (length g.graph.ends)) ≡ map (edge_pair g.vertex_names) g.graph.ends = by_place (edge_pair g.vertex_names) (0, 0) (arc_by Plain g) g.graph.ends (length g.graph.ends) refl (λ k. refl) in
    ap (λ (l : List Entry). int_pair (codes "directed") (pos 1) ∷ (l ++ map (arc_by Plain g) (range_with_len 0 (length g.graph.ends)))) nodes
    ∙ ap (λ (l : List Entry). int_pair (codes "directed") (pos 1) ∷ (map node_pair g.vertex_names ++ l)) edges
pairs_are Whole g n = refl

-- ---- depth
abbrev AreShallow : ℕ → List Entry → Type 0
AreShallow n [] = Unit {0}
AreShallow n (e ∷ xs) = (entry_depth e ≤ n) × AreShallow n xs

shallow_append : (n : ℕ) (xs ys : List Entry) → AreShallow n xs → AreShallow n ys → AreShallow n (xs ++ ys)
shallow_append n [] ys p q = q
shallow_append n (x ∷ xs) ys p q = (p.0, shallow_append n xs ys p.1 q)

shallow_map : (n : ℕ) (f : ℕ → Entry) → ((v : ℕ) → entry_depth (f v) ≤ n) → (l : List ℕ) → AreShallow n (map f l)
shallow_map n f p [] = tt
shallow_map n f p (v ∷ l) = (p v, shallow_map n f p l)

shallow_listed : (n : ℕ) (es : Entries) → AreShallow n (listed es) → depth es ≤ n
shallow_listed n none p = omega arith
shallow_listed n (more e es) p = let rest = shallow_listed n es p.1 in omega (arith, p.0, rest)

depth_by : (n : ℕ) (es : Entries) (xs : List Entry) → listed es ≡ xs → AreShallow n xs → depth es ≤ n
depth_by n es xs e p = shallow_listed n es (subst (AreShallow n) (sym e) p)

shallow_entries : (n : ℕ) (xs : List Entry) → AreShallow n xs → depth (entries_of xs) ≤ n
shallow_entries n [] p = omega arith
shallow_entries n (x ∷ xs) p = let rest = shallow_entries n xs p.1 in omega (arith, p.0, rest)

pub order_depth : (names : List ℤ) (es : List ℕ) (t : Entries) → listed t ≡ map (name_pair names) es → depth t ≤ 31
order_depth names es t e = let d = depth_by 0 t (map (name_pair names) es) e (shallow_map 0 (name_pair names) (λ v. omega arith) es) in omega (arith, d)

order_pair_depth : (names : List ℤ) (es : List ℕ) → entry_depth (order_pair names es) ≤ 1
order_pair_depth names es = let d = shallow_entries 0 (map (name_pair names) es) (shallow_map 0 (name_pair names) (λ v. omega arith) es) in omega (arith, d)

label_shallow : (o : Option (List ℕ)) → AreShallow 1 (label_pairs o)
label_shallow None = tt
label_shallow (Some bs) = (omega arith, tt)

rest_shallow : (x : Extent) (g : InputGraph) (v : ℕ) → AreShallow 1 (rest_pairs x g v)
rest_shallow Plain g v = tt
rest_shallow Whole g v = shallow_append 1 (label_pairs (get_or g.labels v None)) (order_pair g.edge_names (get_or g.orders v []) ∷ []) (label_shallow (get_or g.labels v None)) (order_pair_depth g.edge_names (get_or g.orders v []), tt)

vertex_shallow : (x : Extent) (g : InputGraph) (v : ℕ) → AreShallow 1 (vertex_pairs x g v)
vertex_shallow x g v = (omega arith, rest_shallow x g v)

pub node_depth : (x : Extent) (g : InputGraph) (v : ℕ) (t : Entries) → listed t ≡ vertex_pairs x g v → depth t ≤ 31
node_depth x g v t e = let d = depth_by 1 t (vertex_pairs x g v) e (vertex_shallow x g v) in omega (arith, d)

node_by_depth : (x : Extent) (g : InputGraph) (v : ℕ) → entry_depth (node_by x g v) ≤ 2
node_by_depth x g v = let d = shallow_entries 1 (vertex_pairs x g v) (vertex_shallow x g v) in omega (arith, d)

length_shallow : (n : ℕ) → AreShallow 0 (length_pairs n)
length_shallow n = by (eqb n 1)
  where
    by : (b : Bool) → AreShallow 0 (cond b [] (int_pair (codes "minlen") (pos n) ∷ []))
    by true = tt
    by false = (omega arith, tt)

arc_shallow : (x : Extent) (g : InputGraph) (e : ℕ) → AreShallow 0 (arc_pairs x g e)
arc_shallow Plain g e = (omega arith, (omega arith, tt))
arc_shallow Whole g e = (omega arith, (omega arith, (omega arith, length_shallow (length_of g e))))

pub edge_depth : (x : Extent) (g : InputGraph) (e : ℕ) (t : Entries) → listed t ≡ arc_pairs x g e → depth t ≤ 31
edge_depth x g e t q = let d = depth_by 0 t (arc_pairs x g e) q (arc_shallow x g e) in omega (arith, d)

arc_by_depth : (x : Extent) (g : InputGraph) (e : ℕ) → entry_depth (arc_by x g e) ≤ 2
arc_by_depth x g e = let d = shallow_entries 0 (arc_pairs x g e) (arc_shallow x g e) in omega (arith, d)

pub end_depth : (names : List ℤ) (d : ℕ) (t : Entries) → listed t ≡ end_pairs names d → depth t ≤ 31
end_depth names d t q = let h = depth_by 0 t (end_pairs names d) q (omega arith, (omega arith, tt)) in omega (arith, h)

outer_shallow : (names : List ℤ) (o : Option ℕ) → AreShallow 2 (outer_pairs names o)
outer_shallow names None = tt
outer_shallow names (Some d) = (omega arith, tt)

pub graph_depth : (x : Extent) (g : InputGraph) (t : Entries) → listed t ≡ all_pairs x g → depth t ≤ 31
unfolding all_pairs
graph_depth x g t e =
    let rest = shallow_append 2 (outer_pairs g.edge_names (outer_by x g)) _ (outer_shallow g.edge_names (outer_by x g))
    (shallow_append 2 (map (node_by x g) (range_with_len 0 g.graph.vertices)) (map (arc_by x g) (range_with_len 0 (length g.graph.ends)))
    (shallow_map 2 (node_by x g) (node_by_depth x g) (range_with_len 0 g.graph.vertices)) (shallow_map 2 (arc_by x g) (arc_by_depth x g) (range_with_len 0 (length g.graph.ends)))) in
    let d = depth_by 2 t _ e (omega arith, rest) in
    omega (arith, d)

-- ---- one pair more
pub list_pushed : (key : List ℕ) (old new inner : Entries) (xs : List Entry) → listed inner ≡ xs → new ≡ push old (entry key 0 (list inner)) → listed new ≡ listed old ++ entry key 0 (list (entries_of xs)) ∷ []
list_pushed key old new inner xs e is =
    ap listed is ∙ listed_push old (entry key 0 (list inner)) ∙ ap (λ (l : Entries). listed old ++ entry key 0 (list l) ∷ []) (sym (entries_listed inner) ∙ ap entries_of e)

pub map_more : (f : ℕ → Entry) (k : ℕ) (first old new : List Entry) → old ≡ first ++ map f (range_with_len 0 k) → new ≡ old ++ f k ∷ [] → new ≡ first ++ map f (range_with_len 0 (k + 1))
map_more f k first old new e is =
    is ∙ ap (λ (l : List Entry). l ++ f k ∷ []) e ∙ append_assoc first (map f (range_with_len 0 k)) (f k ∷ []) ∙ ap (λ (l : List Entry). first ++ l) (sym (map-range_with_len_more f 0 k k (omega arith)))

pub one_longer : (k : ℕ) (first old new : List Entry) (x : Entry) → length old ≡ length first + k → new ≡ old ++ x ∷ [] → length new ≡ length first + (k + 1)
one_longer k first old new x e is = let size : length new ≡ length old + 1 = ap (λ (l : List Entry). length l) is ∙ length-append old (x ∷ []) in omega arith

-- ---- orders and labels
pub order_short : (g : InputGraph) (v : ℕ) (order : List EdgeId) (es : List ℕ) → IsWritable g → numbers order ≡ es → slice_get g.orders v ≡ Some es → length order < 2 ^ 31
order_short g v order es W e got =
    let is : get_or g.orders v [] ≡ es = get_or_from_slice_get g.orders v es [] got in
    let size : length order ≡ length (get_or g.orders v []) = sym (length-map order (λ x. x.0)) ∙ ap (λ (l : List ℕ). length l) (e ∙ sym is) in
    omega (arith, W.short v, size)

in_at : (l : List ℕ) (k d : ℕ) → k < length l → In (get_or l k d) l
in_at [] k d lt = absurd (omega arith)
in_at (x ∷ l) zero d lt = here refl
in_at (x ∷ l) (suc k) d lt = there (in_at l k d (omega arith))

pub order_within : (g : InputGraph) (v : ℕ) (order : List EdgeId) (es : List ℕ) (names : List ℤ) → AreListed g.graph g.orders → v < g.graph.vertices → length names ≡ length g.graph.ends → numbers order ≡ es → slice_get g.orders v ≡ Some es → All (λ e. e.0 < length names) order
order_within g v order es names L lt size e got k d l =
    let is : get_or g.orders v [] ≡ es = get_or_from_slice_get g.orders v es [] got in
    let within : k < length (numbers order) = omega (arith, l, length-map order (λ x. x.0)) in
    let at : get_or (numbers order) k d.0 ≡ (get_or order k d).0 = get_or-map (λ x. x.0) order k d d.0 l in
    let member : In (get_or (numbers order) k d.0) (get_or g.orders v []) = subst (In (get_or (numbers order) k d.0)) (e ∙ sym is) (in_at (numbers order) k d.0 within) in
    omega (arith, L v (get_or (numbers order) k d.0) lt member, at, size)

pub label_clear : (g : InputGraph) (v : ℕ) (o : Option (List ℕ)) → IsWritable g → slice_get g.labels v ≡ Some o → HasNoQuote o
label_clear g v o W got = subst HasNoQuote (get_or_from_slice_get g.labels v o None got) (W.quotes v)

pub label_pushed : (old new : Entries) (o : Option (List ℕ)) (bs : List ℕ) → o ≡ Some bs → new ≡ push old (entry (codes "label") 0 (atom (str bs))) → listed new ≡ listed old ++ label_pairs o
label_pushed old new o bs e is = ap listed is ∙ listed_push old (entry (codes "label") 0 (atom (str bs))) ∙ ap (λ (x : Option (List ℕ)). listed old ++ label_pairs x) (sym e)

-- ---- the edge of an end
pub edge_below : (d e m : ℕ) → e ≡ edge_of d → d < 2 * m → e < m
unfolding edge_of
edge_below d e m q lt = omega (arith, q, lt)

-- ---- what a vertex, an end and the graph hold
pub rest_made : (g : InputGraph) (v : ℕ) (old labelled whole inner : Entries) (es : List ℤ) (o : Option (List ℕ)) (order : List ℕ) → es ≡ g.edge_names → slice_get g.labels v ≡ Some o → slice_get g.orders v ≡ Some order
    → listed labelled ≡ listed old ++ label_pairs o → listed inner ≡ map (name_pair es) order → whole ≡ push labelled (entry (codes "order") 0 (list inner)) → listed whole ≡ listed old ++ rest_pairs Whole g v
rest_made g v old labelled whole inner es o order e2 e3 e4 p1 p2 p3 =
    let label : get_or g.labels v None ≡ o = get_or_from_slice_get g.labels v o None e3 in
    let edges : get_or g.orders v [] ≡ order = get_or_from_slice_get g.orders v order [] e4 in
    list_pushed (codes "order") labelled whole inner (map (name_pair es) order) p2 p3
    ∙ ap (λ (l : List Entry). l ++ order_pair es order ∷ []) p1
    ∙ append_assoc (listed old) (label_pairs o) (order_pair es order ∷ [])
    ∙ ap (λ (l : List Entry). listed old ++ l) (rw (label, edges, sym e2) refl)

pub outer_pushed : (names : List ℤ) (old new inner : Entries) (o : Option ℕ) (d : ℕ) → o ≡ Some d → listed inner ≡ end_pairs names d → new ≡ push old (entry (codes "outer") 0 (list inner)) → listed new ≡ listed old ++ outer_pairs names o
outer_pushed names old new inner o d e q is = list_pushed (codes "outer") old new inner (end_pairs names d) q is ∙ ap (λ (x : Option ℕ). listed old ++ outer_pairs names x) (sym e)

pub graph_made : (x : Extent) (g : InputGraph) (first directed outer nodes edges : Entries) (names : List ℤ) (o : Option ℕ) → first ≡ none → names ≡ g.edge_names → o ≡ outer_by x g → listed directed ≡ listed first ++ int_pair (codes "directed") (pos 1) ∷ [] → listed outer ≡ listed directed ++ outer_pairs names o
    → listed nodes ≡ listed outer ++ map (node_by x g) (range_with_len 0 g.graph.vertices) → listed edges ≡ listed nodes ++ map (arc_by x g) (range_with_len 0 (length g.graph.ends)) → listed edges ≡ all_pairs x g
unfolding all_pairs
graph_made x g first directed outer nodes edges names o e0 e1 e2 p0 p1 p2 p3 =
    let ns = map (node_by x g) (range_with_len 0 g.graph.vertices) in
    let es = map (arc_by x g) (range_with_len 0 (length g.graph.ends)) in
    let d = int_pair (codes "directed") (pos 1) in
    let one : listed directed ≡ int_pair (codes "directed") (pos 1) ∷ [] = p0 ∙ ap (λ (t : Entries). listed t ++ d ∷ []) e0 in
    let two : listed outer ≡ int_pair (codes "directed") (pos 1) ∷ outer_pairs g.edge_names (outer_by x g) = p1 ∙ ap (λ (l : List Entry). l ++ outer_pairs names o) one ∙ rw (e1, e2) refl in
    p3 ∙ ap (λ (l : List Entry). l ++ es) (p2 ∙ ap (λ (l : List Entry). l ++ ns) two) ∙ append_assoc (d ∷ outer_pairs g.edge_names (outer_by x g)) ns es

outer_count : (names : List ℤ) (o : Option ℕ) → length (outer_pairs names o) ≤ 1
outer_count names None = omega arith
outer_count names (Some d) = omega arith

few_pairs : (x : Extent) (g : InputGraph) → g.graph.vertices < 2 ^ 30 → length g.graph.ends < 2 ^ 30 → CanBeWritten x g → length (outer_pairs g.edge_names (outer_by x g)) + g.graph.vertices + length g.graph.ends + 1 < 2 ^ 31
few_pairs Plain g n m W = omega (arith, n, m)
few_pairs Whole g n m W = omega (arith, outer_count g.edge_names g.outer, W.few)

pub outer_room : (x : Extent) (g : InputGraph) (first directed outer : Entries) (names : List ℤ) (o : Option ℕ) → g.graph.vertices < 2 ^ 30 → length g.graph.ends < 2 ^ 30 → CanBeWritten x g → first ≡ none → names ≡ g.edge_names → o ≡ outer_by x g
    → listed directed ≡ listed first ++ int_pair (codes "directed") (pos 1) ∷ [] → listed outer ≡ listed directed ++ outer_pairs names o → length (listed outer) + g.graph.vertices + length g.graph.ends < 2 ^ 31
outer_room x g first directed outer names o n m W e0 e1 e2 p0 p1 =
    let d = int_pair (codes "directed") (pos 1) in
    let one : length (listed directed) ≡ 1 = ap (λ (l : List Entry). length l) (p0 ∙ ap (λ (t : Entries). listed t ++ d ∷ []) e0) in
    let same : outer_pairs names o ≡ outer_pairs g.edge_names (outer_by x g) = ap (λ (l : List ℤ). outer_pairs l o) e1 ∙ ap (outer_pairs g.edge_names) e2 in
    let two : length (listed outer) ≡ length (listed directed) + length (outer_pairs g.edge_names (outer_by x g)) = ap (λ (l : List Entry). length l) (p1 ∙ ap (λ (l : List Entry). listed directed ++ l) same) ∙ length-append (listed directed) (outer_pairs g.edge_names (outer_by x g)) in
    let few = few_pairs x g n m W in
    omega (arith, few, one, two)

pub nodes_room : (x : Extent) (g : InputGraph) (outer nodes : Entries) → length (listed outer) + g.graph.vertices + length g.graph.ends < 2 ^ 31 → listed nodes ≡ listed outer ++ map (node_by x g) (range_with_len 0 g.graph.vertices) → length (listed nodes) + length g.graph.ends < 2 ^ 31
nodes_room x g outer nodes room p =
    let size : length (listed nodes) ≡ length (listed outer) + length (map (node_by x g) (range_with_len 0 g.graph.vertices)) = ap (λ (l : List Entry). length l) p ∙ length-append (listed outer) (map (node_by x g) (range_with_len 0 g.graph.vertices)) in
    omega (arith, size, room, length-map-range_with_len (node_by x g) 0 g.graph.vertices)

one_pair : (first whole inner : Entries) (xs : List Entry) → first ≡ none → listed inner ≡ xs → whole ≡ push first (entry (codes "graph") 0 (list inner)) → whole ≡ more (entry (codes "graph") 0 (list (entries_of xs))) none
one_pair first whole inner xs e0 e is = is ∙ ap (λ (t : Entries). push t (entry (codes "graph") 0 (list inner))) e0 ∙ ap (λ (l : Entries). more (entry (codes "graph") 0 (list l)) none) (sym (entries_listed inner) ∙ ap entries_of e)

pub whole_made : (x : Extent) (g : InputGraph) (first whole inner : Entries) → first ≡ none → listed inner ≡ pairs_by x g → whole ≡ push first (entry (codes "graph") 0 (list inner)) → whole ≡ entries_by x g
unfolding plain_entries written_entries
whole_made Plain g first whole inner e0 e is = one_pair first whole inner (graph_pairs g) e0 e is
whole_made Whole g first whole inner e0 e is = one_pair first whole inner (written_pairs g) e0 e is
