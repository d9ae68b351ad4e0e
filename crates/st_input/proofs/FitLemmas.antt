-- The tables of a graph without a fault fit together.
use Rattle.std.proofs.Common.{◌≡◌, ◌≢◌, ◌<◌, ◌≤◌, ◌^◌, ◌*◌, ◌+◌, ℕ, suc, zero, ℤ, pos, negsuc, Bool, true, false, cond, eqb, List, [], ◌∷◌, ◌++◌, length, map, take, get_or, slice_get, refl, ap, sym, subst, ◌∙◌, arith, append_assoc, append-nil, Option, Some, None, IfSome, All, is_some, nat_abs, codes, inl, inr}
use Rattle.std.specs.Option.{unwrap_or}
use Rattle.std.proofs.lemmas.Bool.{eqb-false}
use Rattle.std.proofs.lemmas.Bool.Decides.{nat_tests}
use Rattle.std.proofs.lemmas.List.{length-map}
use Rattle.st_ids.specs.Lists.{In}
use Rattle.st_ids.proofs.Public.{not_in_nil, In-cases, in_append}
use Rattle.gml_core.specs.Trees.{Entry}
use Rattle.st_parts.specs.Used.{has_key, each, first_str}
use Rattle.st_parts.specs.Parts.{shown, shown_byte, shown_label, label_in, node_in, parts_in, pairs_in}
use Rattle.st_input.specs.Names.{number_of, is_among, AreDifferent, positions}
use Rattle.st_input.specs.Faults.{or_else, first_fault, name_fault, node_fault, node_name, node_names, mention_fault, order_fault, written_fault, orders_fault, edge_number, edges_in, edge_names, edge_ids, edge_id, edge_fault, ends_fault, is_length, length_fault, rows_of, length_in, lengths_in, all_named, same_fault, id_fault, ids_fault, ends_in, pair_in}
use Rattle.st_input.specs.Orders.{file_outs, file_ins, default_order, order_from, orders_from, full_orders}
use Rattle.st_ids.specs.Lengths.{IsLength}
use Rattle.st_input.specs.InputGraph.{IsShownByte, IsLabel, AreShownLabels, IsConsistent}
use Rattle.st_input.specs.Embedding.{written_end, outer_end, embedded_in}
use Rattle.st_input.specs.FirstFault.{is_side, side_fault, outer_fault, parts_fault}
use Rattle.st_input.specs.declared.fault.ShapeFault.{ShapeFault}
use Rattle.st_input.specs.declared.fault.ShapeFault.TheVariants.{SameId, BadLength, SameEdgeId, UnknownEdge, BadOuter}
use Rattle.st_parts.specs.declared.parts.Mention.{Mention}
use Rattle.st_parts.specs.declared.parts.Node.{Node}
use Rattle.st_parts.specs.declared.parts.Minlen.{Minlen}
use Rattle.st_parts.specs.declared.parts.Edge.{Edge}
use Rattle.st_parts.specs.declared.parts.Outer.{Outer}
use Rattle.st_parts.specs.declared.parts.Parts.{Parts}
use Rattle.st_input.proofs.NameLemmas.{found_within, different_push, positions_length, positions_differ}

-- neither of two faults is found
pub or_none : {A : Type 0} (a b : Option A) → or_else a b ≡ None → (a ≡ None) × (b ≡ None)
or_none None b e = (refl, e)
or_none (Some x) b e = absurd (cc)

-- ---- names of vertices
fresh_name : (before : List ℤ) (at : ℕ) (id : Option ℤ) → name_fault before at id ≡ None → is_among before (unwrap_or id (pos 0)) ≡ false
fresh_name before at None e = absurd (cc)
fresh_name before at (Some name) e = by (is_among before name) (SameId name) e
  where
    by : (b : Bool) (f : ShapeFault) → cond b (Some f) None ≡ None → b ≡ false
    by true f e = absurd (cc)
    by false f e = refl

pub names_push : (ns : List Node) (n : Node) → node_names (ns ++ n ∷ []) ≡ node_names ns ++ node_name n ∷ []
names_push [] n = refl
names_push (m ∷ ns) n = ap (λ (zs : List ℤ). node_name m ∷ zs) (names_push ns n)

-- where no node has a fault, the names differ
pub different_nodes : (before ns : List Node) → AreDifferent (node_names before) → first_fault node_fault before ns ≡ None → AreDifferent (node_names (before ++ ns))
different_nodes before [] different e = subst (λ (l : List Node). AreDifferent (node_names l)) (sym (append-nil before)) different
different_nodes before (n ∷ ns) different e =
    let clear = or_none (node_fault before n) (first_fault node_fault (before ++ n ∷ []) ns) e in
    let fresh : is_among (node_names before) (node_name n) ≡ false = fresh_name (node_names before) n.at n.id clear.0 in
    let pushed : AreDifferent (node_names (before ++ n ∷ [])) = subst AreDifferent (sym (names_push before n)) (different_push (node_names before) (node_name n) fresh different) in
    subst (λ (l : List Node). AreDifferent (node_names l)) (append_assoc before (n ∷ []) ns) (different_nodes (before ++ n ∷ []) ns pushed clear.1)

none_different : AreDifferent []
none_different u v name a b = absurd (cc)

-- ---- names of edges
pub names_length : (es : List Edge) → length (edge_names es) ≡ length es
unfolding edge_names
names_length es = by (all_named es)
  where
    by : (b : Bool) → length (cond b (edge_ids es) (positions (length es))) ≡ length es
    by true = length-map es edge_id
    by false = positions_length (length es)

fresh_id : (before : List ℤ) (name : ℤ) → same_fault before name ≡ None → is_among before name ≡ false
fresh_id before name e = by (is_among before name) (SameEdgeId name) e
  where
    by : (b : Bool) (f : ShapeFault) → cond b (Some f) None ≡ None → b ≡ false
    by true f e = absurd (cc)
    by false f e = refl

ids_push : (es : List Edge) (e : Edge) → edge_ids (es ++ e ∷ []) ≡ edge_ids es ++ edge_id e ∷ []
ids_push [] e = refl
ids_push (d ∷ es) e = ap (λ (zs : List ℤ). edge_id d ∷ zs) (ids_push es e)

-- where no edge has the id of an earlier one, the ids differ
different_ids : (before es : List Edge) → AreDifferent (edge_ids before) → first_fault id_fault before es ≡ None → AreDifferent (edge_ids (before ++ es))
different_ids before [] different h = subst (λ (l : List Edge). AreDifferent (edge_ids l)) (sym (append-nil before)) different
different_ids before (e ∷ es) different h =
    let clear = or_none (id_fault before e) (first_fault id_fault (before ++ e ∷ []) es) h in
    let fresh : is_among (edge_ids before) (edge_id e) ≡ false = fresh_id (edge_ids before) (edge_id e) clear.0 in
    let pushed : AreDifferent (edge_ids (before ++ e ∷ [])) = subst AreDifferent (sym (ids_push before e)) (different_push (edge_ids before) (edge_id e) fresh different) in
    subst (λ (l : List Edge). AreDifferent (edge_ids l)) (append_assoc before (e ∷ []) es) (different_ids (before ++ e ∷ []) es pushed clear.1)

names_differ : (es : List Edge) → ids_fault es ≡ None → AreDifferent (edge_names es)
unfolding edge_names
names_differ es e = by (all_named es) e
  where
    by : (b : Bool) → cond b (first_fault id_fault [] es) None ≡ None → AreDifferent (cond b (edge_ids es) (positions (length es)))
    by true h = different_ids [] es none_different h
    by false h = positions_differ (length es)

-- ---- lengths
rows_are : (n : ℤ) → is_length n ≡ true → IsLength (nat_abs n)
rows_are (pos n) is = (grind (arith, nat_tests), grind (arith, nat_tests))
rows_are (negsuc n) is = absurd (cc)

length_is : (o : Option Minlen) → length_fault o ≡ None → IsLength (rows_of o)
length_is None e = (omega arith, omega arith)
length_is (Some m) e = by (is_length m.rows) refl e
  where
    by : (b : Bool) → is_length m.rows ≡ b → cond b None (Some (BadLength m.at)) ≡ None → IsLength (nat_abs m.rows)
    by true is h = rows_are m.rows is
    by false is h = absurd (cc)

-- where no edge has a fault, each length is one
lengths_are : (vertices : List ℤ) (before es : List Edge) → first_fault (edge_fault vertices) before es ≡ None → All IsLength (lengths_in es)
lengths_are vertices before [] e k d lt = absurd (omega arith)
lengths_are vertices before (x ∷ es) e zero d lt = length_is x.minlen (or_none (ends_fault vertices (length before) x.source x.target) (length_fault x.minlen) (or_none (edge_fault vertices before x) (first_fault (edge_fault vertices) (before ++ x ∷ []) es) e).0).1
lengths_are vertices before (x ∷ es) e (suc k) d lt = lengths_are vertices (before ++ x ∷ []) es (or_none (edge_fault vertices before x) (first_fault (edge_fault vertices) (before ++ x ∷ []) es) e).1 k d (omega arith)

-- ---- labels
each_cond : {A B : Type 0} (b : Bool) (x : A) (xs : List A) (y : B) (ys : List B) → length xs ≡ length ys → length (cond b (x ∷ xs) xs) ≡ length (cond b (y ∷ ys) ys)
each_cond true x xs y ys e = ap suc e
each_cond false x xs y ys e = e

-- what each pair with a key says is as long as the pairs are many
pub each_length : {A B : Type 0} (key : List ℕ) (f : Entry → A) (g : Entry → B) (es : List Entry) → length (each key f es) ≡ length (each key g es)
each_length key f g [] = refl
each_length key f g (e ∷ es) = each_cond (has_key key e) (f e) (each key f es) (g e) (each key g es) (each_length key f g es)

-- what holds of what each pair may say holds of each
pub each_all : {A : Type 0} (P : A → Type 0) (key : List ℕ) (f : Entry → A) (es : List Entry) → ((e : Entry) → P (f e)) → (v : ℕ) (x : A) → slice_get (each key f es) v ≡ Some x → P x
each_all P key f [] all v x found = absurd (cc)
each_all {A} P key f (e ∷ es) all v x found = by (has_key key e) v found (λ u h. each_all P key f es all u x h)
  where
    same : f e ≡ x → P x
    same h = subst P h (all e)

    by : (b : Bool) (u : ℕ) → slice_get (cond b (f e ∷ each key f es) (each key f es)) u ≡ Some x → ((w : ℕ) → slice_get (each key f es) w ≡ Some x → P x) → P x
    by true zero h rest = same (cc)
    by true (suc u) h rest = rest u h
    by false u h rest = rest u h

shown_byte_is : (b : ℕ) → IsShownByte (shown_byte b)
shown_byte_is b = (grind (arith, nat_tests), grind (arith, nat_tests))

all_shown : (bs : List ℕ) (k d : ℕ) → k < length (map shown_byte bs) → IsShownByte (get_or (map shown_byte bs) k d)
all_shown [] k d lt = absurd (omega arith)
all_shown (b ∷ bs) zero d lt = shown_byte_is b
all_shown (b ∷ bs) (suc k) d lt = all_shown bs k d (omega arith)

take_length : (n : ℕ) (bs : List ℕ) → (length (take n bs) ≤ n) × (0 < n → 0 < length bs → 0 < length (take n bs))
take_length zero bs = (omega arith, λ (a : 0 < 0). absurd (omega arith))
take_length (suc n) [] = (omega arith, λ a (b : 0 < 0). absurd (omega arith))
take_length (suc n) (b ∷ bs) = let h = take_length n bs in (omega (arith, h.0), λ a c. omega arith)

-- a label that is shown can be shown
shown_is : (bs out : List ℕ) → shown bs ≡ Some out → IsLabel out
shown_is bs out e = by (eqb (length bs) 0) refl e
  where
    by : (b : Bool) → eqb (length bs) 0 ≡ b → cond b None (Some (map shown_byte (take 80 bs))) ≡ Some out → IsLabel out
    by true is e = absurd (cc)
    by false is e =
        let same : map shown_byte (take 80 bs) ≡ out = cc in
        let h = take_length 80 bs in
        let size : length (map shown_byte (take 80 bs)) ≡ length (take 80 bs) = length-map (take 80 bs) shown_byte in
        let ten : 0 < 80 = omega arith in
        let apart : length bs ≢ 0 = eqb-false (length bs) 0 is in
        let some : 0 < length bs = omega arith in
        let one : 0 < length (take 80 bs) = h.1 ten some in
        subst IsLabel same (omega arith, omega (arith, h.0), λ k d lt. all_shown (take 80 bs) k d lt)

label_is : (e : Entry) (bs : List ℕ) → label_in e ≡ Some bs → IsLabel bs
label_is e bs h = by (first_str (codes "label") (pairs_in e)) h
  where
    by : (o : Option (List ℕ)) → shown_label o ≡ Some bs → IsLabel bs
    by None h = absurd (cc)
    by (Some b) h = shown_is b bs h

pub labels_are : (key : List ℕ) (es : List Entry) → AreShownLabels (each key label_in es)
labels_are key es v bs found = each_all (λ (o : Option (List ℕ)). (b : List ℕ) → o ≡ Some b → IsLabel b) key label_in es label_is v (Some bs) found bs refl

-- ---- orders
one_is : (b : Bool) (e x : ℕ) → In x (cond b (e ∷ []) []) → x ≡ e
one_is true e x i = elim (In-cases i) [ inl q ↦ q | inr n ↦ absurd (not_in_nil n) ]
one_is false e x i = absurd (not_in_nil i)

outs_within : (v e x : ℕ) (ends : List (ℕ × ℕ)) → In x (file_outs v e ends) → x < e + length ends
unfolding file_outs
outs_within v e x [] i = absurd (not_in_nil i)
outs_within v e x (a ∷ ends) i = elim (in_append (cond (eqb a.0 v) (e ∷ []) []) i) [
  | inl h ↦ let same : x ≡ e = one_is (eqb a.0 v) e x h in omega arith
  | inr h ↦ let more = outs_within v (e + 1) x ends h in omega arith
]

ins_within : (v e x : ℕ) (ends : List (ℕ × ℕ)) → In x (file_ins v e ends) → x < e + length ends
unfolding file_ins
ins_within v e x [] i = absurd (not_in_nil i)
ins_within v e x (a ∷ ends) i = elim (in_append (file_ins v (e + 1) ends) i) [
  | inl h ↦ let more = ins_within v (e + 1) x ends h in omega arith
  | inr h ↦ let same : x ≡ e = one_is (eqb a.1 v) e x h in omega arith
]

pub default_within : (ends : List (ℕ × ℕ)) (v x : ℕ) → In x (default_order ends v) → x < length ends
default_within ends v x i = elim (in_append (file_outs v 0 ends) i) [
  | inl h ↦ let more = outs_within v 0 x ends h in omega arith
  | inr h ↦ let more = ins_within v 0 x ends h in omega arith
]

-- a name without a fault is an edge
pub named_within : (names : List ℤ) (m : Mention) → mention_fault names m ≡ None → edge_number names m < length names
named_within names m e = by (number_of names m.name) (UnknownEdge m.at) refl e
  where
    by : (o : Option ℕ) (f : ShapeFault) → number_of names m.name ≡ o → cond (is_some o) None (Some f) ≡ None → unwrap_or o 0 < length names
    by None f same e = absurd (cc)
    by (Some k) f same e = found_within names m.name k same

written_within : (names : List ℤ) (ms : List Mention) (x : ℕ) → order_fault names ms ≡ None → In x (edges_in names ms) → x < length names
written_within names [] x e i = absurd (not_in_nil i)
written_within names (m ∷ ms) x e i =
    let clear = or_none (mention_fault names m) (order_fault names ms) e in
    elim (In-cases i) [
      | inl q ↦ let lt = named_within names m clear.0 in omega arith
      | inr h ↦ written_within names ms x clear.1 h
    ]

order_within : (names : List ℤ) (ends : List (ℕ × ℕ)) (v x : ℕ) (o : Option (List Mention)) → length names ≡ length ends → written_fault names o ≡ None → In x (order_from names ends v o) → x < length ends
order_within names ends v x None size e i = default_within ends v x i
order_within names ends v x (Some ms) size e i = let lt = written_within names ms x e i in omega arith

-- where no order has a fault, every listed edge is there
pub orders_within : (names : List ℤ) (ends : List (ℕ × ℕ)) (k : ℕ) (ns : List Node) (v x : ℕ) → length names ≡ length ends → orders_fault names ns ≡ None → In x (get_or (orders_from names ends k ns) v []) → x < length ends
orders_within names ends k [] v x size e i = absurd (not_in_nil i)
orders_within names ends k (n ∷ ns) v x size e i =
    let clear = or_none (written_fault names n.order) (orders_fault names ns) e in
    by v i clear (λ u h. orders_within names ends (k + 1) ns u x size clear.1 h)
  where
    by : (u : ℕ) → In x (get_or (order_from names ends k n.order ∷ orders_from names ends (k + 1) ns) u []) → (written_fault names n.order ≡ None) × (orders_fault names ns ≡ None) → ((w : ℕ) → In x (get_or (orders_from names ends (k + 1) ns) w []) → x < length ends) → x < length ends
    by zero h clear rest = order_within names ends k x n.order size clear.0 h
    by (suc u) h clear rest = rest u h

pub orders_length : (names : List ℤ) (ends : List (ℕ × ℕ)) (k : ℕ) (ns : List Node) → length (orders_from names ends k ns) ≡ length ns
orders_length names ends k [] = refl
orders_length names ends k (n ∷ ns) = ap suc (orders_length names ends (k + 1) ns)

-- ---- the outer face
side_small : (s : ℤ) → is_side s ≡ true → nat_abs s < 2
side_small (pos k) e = grind (arith, nat_tests)
side_small (negsuc k) e = absurd (cc)

side_within : (names : List ℤ) (at m : ℕ) (edge : Option Mention) (side : Option ℤ) → length names ≡ m → side_fault names at edge side ≡ None → IfSome (written_end names edge side) (λ d. d < 2 * m)
side_within names at m (Some e) (Some s) size clear = by (is_side s) (BadOuter at) refl clear
  where
    by : (b : Bool) (f : ShapeFault) → is_side s ≡ b → cond b (mention_fault names e) (Some f) ≡ None → 2 * edge_number names e + nat_abs s < 2 * m
    by true f is h = let lt = named_within names e h in let small = side_small s is in omega arith
    by false f is h = absurd (cc)
side_within names at m (Some e) None size clear = absurd (cc)
side_within names at m None (Some s) size clear = absurd (cc)
side_within names at m None None size clear = absurd (cc)

outer_within : (names : List ℤ) (m : ℕ) (o : Option Outer) → length names ≡ m → outer_fault names o ≡ None → IfSome (outer_end names o) (λ d. d < 2 * m)
outer_within names m None size clear = tt
outer_within names m (Some o) size clear = side_within names o.at m o.edge o.side size clear

-- ---- all of it
pub consistent_in : (p : Parts) (a b : ℕ) → parts_fault p a b ≡ None → length p.nodes < 2 ^ 30 → length p.edges < 2 ^ 30 → length p.labels ≡ length p.nodes → AreShownLabels p.labels → IsConsistent (embedded_in p)
unfolding full_orders
consistent_in p a b e few_nodes few_edges labels printable =
    let names = node_names p.nodes in
    let ids = edge_names p.edges in
    let ends = ends_in names p.edges in
    let size : length ids ≡ length ends = names_length p.edges ∙ sym (length-map p.edges (pair_in names)) in
    let count : length ends ≡ length p.edges = length-map p.edges (pair_in names) in
    let few : length ends < 2 ^ 30 = omega arith in
    let e0 = or_none _ _ e in
    let e1 = or_none _ _ e0.1 in
    let e2 = or_none _ _ e1.1 in
    let e3 = or_none _ _ e2.1 in
    let e4 = or_none _ _ e3.1 in
    record {
      few_vertices = few_nodes;
      few_edges = few;
      vertex_names = length-map p.nodes node_name;
      edge_names = size;
      lengths = length-map p.edges length_in ∙ sym count;
      rows = lengths_are names [] p.edges e1.0;
      labels = labels;
      orders = orders_length ids ends 0 p.nodes;
      different = different_nodes [] p.nodes none_different e0.0;
      edges_different = names_differ p.edges e2.0;
      shown = printable;
      listed = λ v x lt i. orders_within ids ends 0 p.nodes v x size e3.0 i;
      outer = outer_within ids (length ends) p.outer size e4.0;
    }

-- the labels of what a pair `graph` says
pub labels_fit : (e : Entry) → (length (parts_in e).labels ≡ length (parts_in e).nodes) × AreShownLabels (parts_in e).labels
labels_fit e = (each_length (codes "node") label_in node_in (pairs_in e), labels_are (codes "node") (pairs_in e))
