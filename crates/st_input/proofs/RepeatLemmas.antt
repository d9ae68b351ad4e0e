-- The first fault of a list by its place, and the names that stand twice.
use Rattle.std.proofs.Common.{◌≡◌, ◌≢◌, ◌<◌, ◌↔◌, ◌∙◌, inl, inr, ℕ, zero, suc, ℤ, pos, Bool, true, false, cond}
use Rattle.std.proofs.Common.{◌||◌, List, [], ◌∷◌, ◌++◌, map, take, length, slice_get, Option, Some, None, option_map}
use Rattle.std.proofs.Common.{refl, ap, sym, subst, arith, append_assoc}
use Rattle.std.specs.Ordering.{int_eq}
use Rattle.std.specs.Option.{unwrap_or}
use Rattle.std.proofs.lemmas.Bool.Decides.{Decides-int_eq}
use Rattle.std.proofs.lemmas.List.{length-map}
use Rattle.std.proofs.lemmas.Option.{slice_get-map, slice_get_within}
use Rattle.st_parts.specs.declared.parts.Node.{Node}
use Rattle.st_parts.specs.declared.parts.Edge.{Edge}
use Rattle.st_input.specs.declared.fault.ShapeFault.{ShapeFault}
use Rattle.st_input.specs.declared.fault.ShapeFault.TheVariants.{NoId, SameId, SameEdgeId}
use Rattle.st_input.specs.Names.{is_among}
use Rattle.st_input.specs.Faults.{or_else, first_fault, name_fault, node_fault, node_names, same_fault, id_fault}
use Rattle.st_input.specs.Faults.{edge_id, edge_ids, all_named, ids_fault}
use Rattle.st_input.specs.Repeats.{IsEarlier, AreNew, HaveNames, id_of_node, ids_of_nodes}
use Rattle.st_input.specs.Repeats.{NodesHave, id_of_edge, ids_of_edges, EdgesHave}
use Rattle.st_input.proofs.FitLemmas.{or_none}

-- ---- the first fault, by its place
-- no item before place m has a fault
abbrev IsClear : {A : Type 0} → (List A → A → Option ShapeFault) → List A → List A → ℕ → Type 0
IsClear {A} fault before xs m = (j : ℕ) (y : A) → j < m → slice_get xs j ≡ Some y → fault (before ++ take j xs) y ≡ None

-- the item at place i has the fault, and none before it has one
abbrev IsFault : {A : Type 0} → (List A → A → Option ShapeFault) → List A → List A → ShapeFault → Type 0
IsFault {A} fault before xs f =
    (i : ℕ) × (x : A) × (slice_get xs i ≡ Some x) × (fault (before ++ take i xs) x ≡ Some f) × IsClear fault before xs i

append_none : {A : Type 0} (xs : List A) → xs ++ [] ≡ xs
append_none [] = refl
append_none (x ∷ xs) = ap (λ (l : List _). x ∷ l) (append_none xs)

-- the faults of the rest are those of the items behind the first
clear_more : {A : Type 0} (fault : List A → A → Option ShapeFault) (before : List A) (x : A) (xs : List A) (m : ℕ)
    → fault before x ≡ None → IsClear fault (before ++ x ∷ []) xs m → IsClear fault before (x ∷ xs) (suc m)
clear_more {A} fault before x xs m none clear zero y lt e =
    let same : x ≡ y = cc in
    subst (λ (l : List A). fault l y ≡ None) (sym (append_none before))
    (subst (λ (z : A). fault before z ≡ None) same none)
clear_more {A} fault before x xs m none clear (suc j) y lt e =
    let less : j < m = omega arith in
    subst (λ (l : List A). fault l y ≡ None) (append_assoc before (x ∷ []) (take j xs)) (clear j y less e)

clear_rest : {A : Type 0} (fault : List A → A → Option ShapeFault) (before : List A) (x : A) (xs : List A) (m : ℕ)
    → IsClear fault before (x ∷ xs) (suc m) → (fault before x ≡ None) × IsClear fault (before ++ x ∷ []) xs m
clear_rest {A} fault before x xs m clear =
    (subst (λ (l : List A). fault l x ≡ None) (append_none before) (clear 0 x (omega arith) refl), rest)
  where
    rest : IsClear fault (before ++ x ∷ []) xs m
    rest j y lt e =
        let less : suc j < suc m = omega arith in
        subst (λ (l : List A). fault l y ≡ None) (sym (append_assoc before (x ∷ []) (take j xs)))
        (clear (suc j) y less e)

none_clear : {A : Type 0} (fault : List A → A → Option ShapeFault) (before xs : List A)
    → first_fault fault before xs ≡ None → IsClear fault before xs (length xs)
none_clear fault before [] e = λ j y lt there. absurd (omega arith)
none_clear fault before (x ∷ xs) e =
    let none = or_none (fault before x) (first_fault fault (before ++ x ∷ []) xs) e in
    clear_more fault before x xs (length xs) none.0 (none_clear fault (before ++ x ∷ []) xs none.1)

clear_none : {A : Type 0} (fault : List A → A → Option ShapeFault) (before xs : List A)
    → IsClear fault before xs (length xs) → first_fault fault before xs ≡ None
clear_none fault before [] clear = refl
clear_none fault before (x ∷ xs) clear =
    let both = clear_rest fault before x xs (length xs) clear in
    ap (λ (o : Option ShapeFault). or_else o (first_fault fault (before ++ x ∷ []) xs)) both.0
    ∙ clear_none fault (before ++ x ∷ []) xs both.1

some_fault : {A : Type 0} (fault : List A → A → Option ShapeFault) (before xs : List A) (f : ShapeFault)
    → first_fault fault before xs ≡ Some f → IsFault fault before xs f
some_fault fault before [] f e = absurd (cc)
some_fault {A} fault before (x ∷ xs) f e = by (some_fault fault (before ++ x ∷ []) xs f) (fault before x) refl e
  where
    by : (first_fault fault (before ++ x ∷ []) xs ≡ Some f → IsFault fault (before ++ x ∷ []) xs f)
        → (o : Option ShapeFault) → fault before x ≡ o → or_else o (first_fault fault (before ++ x ∷ []) xs) ≡ Some f
        → IsFault fault before (x ∷ xs) f
    by more None is h =
        let r = more h in
        let there : fault (before ++ x ∷ take r.0 xs) r.1 ≡ Some f =
        subst (λ (l : List A). fault l r.1 ≡ Some f) (append_assoc before (x ∷ []) (take r.0 xs)) r.3 in
        (suc r.0, r.1, r.2, there, clear_more fault before x xs r.0 is r.4)
    by more (Some g) is h =
        let empty : fault (before ++ []) x ≡ Some f =
        subst (λ (l : List A). fault l x ≡ Some f) (sym (append_none before)) (is ∙ h) in
        (0, x, refl, empty, λ j y lt there. absurd (omega arith))

fault_some : {A : Type 0} (fault : List A → A → Option ShapeFault) (before xs : List A) (f : ShapeFault) (i : ℕ) (x : A)
    → slice_get xs i ≡ Some x → fault (before ++ take i xs) x ≡ Some f → IsClear fault before xs i
    → first_fault fault before xs ≡ Some f
fault_some fault before [] f i x there is clear = absurd (cc)
fault_some {A} fault before (y ∷ xs) f zero x there is clear =
    let same : x ≡ y = cc in
    let is_here : fault before y ≡ Some f =
    subst (λ (z : A). fault before z ≡ Some f) same
    (subst (λ (l : List A). fault l x ≡ Some f) (append_none before) is) in
    ap (λ (o : Option ShapeFault). or_else o (first_fault fault (before ++ y ∷ []) xs)) is_here
fault_some {A} fault before (y ∷ xs) f (suc i) x there is clear =
    let both = clear_rest fault before y xs i clear in
    let behind : fault ((before ++ y ∷ []) ++ take i xs) x ≡ Some f =
    subst (λ (l : List A). fault l x ≡ Some f) (sym (append_assoc before (y ∷ []) (take i xs))) is in
    ap (λ (o : Option ShapeFault). or_else o (first_fault fault (before ++ y ∷ []) xs)) both.0
    ∙ fault_some fault (before ++ y ∷ []) xs f i x there behind both.1

-- ---- names among those before a place
-- the names of items, 0 where one has none
abbrev names : {A : Type 0} → (A → Option ℤ) → List A → List ℤ
names id xs = map (λ x. unwrap_or (id x) (pos 0)) xs

earlier_among : {A : Type 0} (id : A → Option ℤ) (xs : List A) (i j : ℕ) (name : ℤ) → j < i
    → slice_get (map id xs) j ≡ Some (Some name) → is_among (names id (take i xs)) name ≡ true
unfolding is_among
earlier_among id [] i j name lt there = absurd (cc)
earlier_among id (x ∷ xs) zero j name lt there = absurd (omega arith)
earlier_among id (x ∷ xs) (suc i) zero name lt there =
    let is : id x ≡ Some name = cc in
    let same : name ≡ unwrap_or (id x) (pos 0) = rw is refl in
    let hit : int_eq name (unwrap_or (id x) (pos 0)) ≡ true = (Decides-int_eq name (unwrap_or (id x) (pos 0))).1 same in
    ap (λ (b : Bool). b || is_among (names id (take i xs)) name) hit
earlier_among id (x ∷ xs) (suc i) (suc j) name lt there =
    let less : j < i = omega arith in
    or_right (int_eq name (unwrap_or (id x) (pos 0))) (is_among (names id (take i xs)) name)
    (earlier_among id xs i j name less there)
  where
    or_right : (a b : Bool) → b ≡ true → (a || b) ≡ true
    or_right true b e = refl
    or_right false b e = e

among_earlier : {A : Type 0} (id : A → Option ℤ) (xs : List A) (i : ℕ) (name : ℤ) → HaveNames (map id xs) i
    → is_among (names id (take i xs)) name ≡ true → IsEarlier (map id xs) i (Some name)
unfolding is_among
among_earlier id [] zero name named e = absurd (cc)
among_earlier id [] (suc i) name named e = absurd (cc)
among_earlier id (x ∷ xs) zero name named e = absurd (cc)
among_earlier id (x ∷ xs) (suc i) name named e =
    by (among_earlier id xs i name (λ j lt. named (suc j) (omega arith)))
    (int_eq name (unwrap_or (id x) (pos 0))) refl e
  where
    here : (o : Option ℤ) → id x ≡ o → name ≡ unwrap_or o (pos 0) → id x ≡ Some name
    here None is same = absurd (named 0 (omega arith) (ap (λ (o : Option ℤ). Some o) is))
    here (Some n) is same = cc

    by : (is_among (names id (take i xs)) name ≡ true → IsEarlier (map id xs) i (Some name)) → (b : Bool)
        → int_eq name (unwrap_or (id x) (pos 0)) ≡ b → (b || is_among (names id (take i xs)) name) ≡ true
        → IsEarlier (map id (x ∷ xs)) (suc i) (Some name)
    by more true is h =
        let same : name ≡ unwrap_or (id x) (pos 0) = (Decides-int_eq name (unwrap_or (id x) (pos 0))).0 is in
        (0, omega arith, ap (λ (o : Option ℤ). Some o) (here (id x) refl same))
    by more false is h =
        let r = more h in
        (suc r.0, omega (arith, r.1), r.2)

-- a name that no place before has is not among them
not_earlier : {A : Type 0} (id : A → Option ℤ) (xs : List A) (i : ℕ) (name : ℤ) → HaveNames (map id xs) i
    → (IsEarlier (map id xs) i (Some name) → ⊥) → is_among (names id (take i xs)) name ≡ false
not_earlier id xs i name named new = by (is_among (names id (take i xs)) name) refl
  where
    by : (b : Bool) → is_among (names id (take i xs)) name ≡ b → is_among (names id (take i xs)) name ≡ false
    by true e = absurd (new (among_earlier id xs i name named e))
    by false e = e

-- the item that has an id
item_of : {A : Type 0} (id : A → Option ℤ) (xs : List A) (i : ℕ) (o : Option ℤ) → slice_get (map id xs) i ≡ Some o
    → (x : A) × (slice_get xs i ≡ Some x) × (id x ≡ o)
item_of id [] i o e = absurd (cc)
item_of id (x ∷ xs) zero o e = (x, refl, cc)
item_of id (x ∷ xs) (suc i) o e = item_of id xs i o e

id_at : {A : Type 0} (id : A → Option ℤ) (xs : List A) (i : ℕ) (x : A) → slice_get xs i ≡ Some x
    → slice_get (map id xs) i ≡ Some (id x)
id_at id xs i x e = slice_get-map id xs i ∙ ap (λ (o : Option _). option_map id o) e

-- ---- nodes
-- a node with a name that is not among those before has no fault, and so on
fresh_node : (before : List ℤ) (at : ℕ) (o : Option ℤ) (name : ℤ) (b : Bool) → o ≡ Some name → is_among before name ≡ b
    → name_fault before at o ≡ cond b (Some (SameId name)) None
fresh_node before at o name b is e = rw is (ap (λ (c : Bool). cond c (Some (SameId name)) None) e)

nodes_named : (ns : List Node) (m : ℕ) → IsClear node_fault [] ns m → HaveNames (ids_of_nodes ns) m
nodes_named ns m clear i lt there =
    let r = item_of id_of_node ns i None there in
    let none = clear i r.0 lt r.1 in
    let fault : name_fault (node_names (take i ns)) r.0.at r.0.id ≡ Some (NoId r.0.at) =
    ap (λ (o : Option ℤ). name_fault (node_names (take i ns)) r.0.at o) r.2 in
    absurd (cc (none, fault))

nodes_new : (ns : List Node) (m : ℕ) → IsClear node_fault [] ns m → AreNew (ids_of_nodes ns) m
nodes_new ns m clear i None lt there earlier = absurd (nodes_named ns m clear i lt there)
nodes_new ns m clear i (Some name) lt there earlier =
    let r = item_of id_of_node ns i (Some name) there in
    let none = clear i r.0 lt r.1 in
    let among = earlier_among id_of_node ns i earlier.0 name earlier.1 earlier.2 in
    let fault = fresh_node (node_names (take i ns)) r.0.at r.0.id name true r.2 among in
    absurd (cc (none, fault))

nodes_clear : (ns : List Node) (m : ℕ) → HaveNames (ids_of_nodes ns) m → AreNew (ids_of_nodes ns) m
    → IsClear node_fault [] ns m
nodes_clear ns m named new j n lt there = by n.id refl
  where
    by : (o : Option ℤ) → n.id ≡ o → name_fault (node_names (take j ns)) n.at n.id ≡ None
    by None is = absurd (named j lt (id_at id_of_node ns j n there ∙ ap (λ (o : Option ℤ). Some o) is))
    by (Some name) is =
        let here = id_at id_of_node ns j n there ∙ ap (λ (o : Option ℤ). Some o) is in
        fresh_node (node_names (take j ns)) n.at n.id name false is
        (not_earlier id_of_node ns j name (λ k less. named k (omega arith)) (new j (Some name) lt here))

nodes_have : (ns : List Node) (fault : Option ShapeFault) → first_fault node_fault [] ns ≡ fault → NodesHave ns fault
nodes_have ns None e =
    let clear = none_clear node_fault [] ns e in
    (nodes_named ns (length ns) clear, nodes_new ns (length ns) clear)
nodes_have ns (Some f) e = from (some_fault node_fault [] ns f e)
  where
    from : IsFault node_fault [] ns f → NodesHave ns (Some f)
    from (i, n, there, fault, clear) = by n.id refl
      where
        named : HaveNames (ids_of_nodes ns) i
        named = nodes_named ns i clear

        new : AreNew (ids_of_nodes ns) i
        new = nodes_new ns i clear

        same : (name : ℤ) → n.id ≡ Some name → (b : Bool) → is_among (node_names (take i ns)) name ≡ b
            → NodesHave ns (Some f)
        same name is true among =
            let known = fresh_node (node_names (take i ns)) n.at n.id name true is among in
            let it : SameId name ≡ f = cc (known, fault) in
            let here = id_at id_of_node ns i n there ∙ ap (λ (o : Option ℤ). Some o) is in
            subst (λ (g : ShapeFault). NodesHave ns (Some g)) it
            (i, record { here = here; earlier = among_earlier id_of_node ns i name named among; first = new }, named)
        same name is false among =
            let known = fresh_node (node_names (take i ns)) n.at n.id name false is among in
            absurd (cc (known, fault))

        by : (o : Option ℤ) → n.id ≡ o → NodesHave ns (Some f)
        by None is =
            let known : name_fault (node_names (take i ns)) n.at n.id ≡ Some (NoId n.at) =
            ap (λ (o : Option ℤ). name_fault (node_names (take i ns)) n.at o) is in
            let it : NoId n.at ≡ f = cc (known, fault) in
            subst (λ (g : ShapeFault). NodesHave ns (Some g)) it
            (i, n, record { here = there; unnamed = is; place = refl; named = named; different = new })
        by (Some name) is = same name is (is_among (node_names (take i ns)) name) refl

have_nodes : (ns : List Node) (fault : Option ShapeFault) → NodesHave ns fault → first_fault node_fault [] ns ≡ fault
have_nodes ns None h = clear_none node_fault [] ns (nodes_clear ns (length ns) h.0 h.1)
have_nodes ns (Some (NoId at)) (i, n, h) =
    let fault : name_fault (node_names (take i ns)) n.at n.id ≡ Some (NoId at) =
    ap (λ (o : Option ℤ). name_fault (node_names (take i ns)) n.at o) h.unnamed
    ∙ ap (λ (a : ℕ). Some (NoId a)) h.place in
    fault_some node_fault [] ns (NoId at) i n h.here fault (nodes_clear ns i h.named h.different)
have_nodes ns (Some (SameId name)) (i, h, named) =
    let r = item_of id_of_node ns i (Some name) h.here in
    let among = earlier_among id_of_node ns i h.earlier.0 name h.earlier.1 h.earlier.2 in
    let fault = fresh_node (node_names (take i ns)) r.0.at r.0.id name true r.2 among in
    fault_some node_fault [] ns (SameId name) i r.0 r.1 fault (nodes_clear ns i named h.first)
have_nodes ns (Some f) h = absurd h

pub first_same_name : (ns : List Node) (fault : Option ShapeFault)
    → (first_fault node_fault [] ns ≡ fault) ↔ NodesHave ns fault
first_same_name ns fault = (nodes_have ns fault, have_nodes ns fault)

-- ---- edges
all_are_named : (es : List Edge) → all_named es ≡ true → (i : ℕ) → slice_get (ids_of_edges es) i ≢ Some None
all_are_named [] e i there = absurd (cc)
all_are_named (x ∷ es) e i there = by (all_are_named es) x.id refl e i there
  where
    by : (all_named es ≡ true → (k : ℕ) → slice_get (ids_of_edges es) k ≢ Some None) → (o : Option ℤ) → x.id ≡ o
        → all_named (x ∷ es) ≡ true → (k : ℕ) → slice_get (ids_of_edges (x ∷ es)) k ≡ Some None → ⊥
    by more None is h k at = absurd (cc (rw is at h))
    by more (Some name) is h zero at = absurd (cc)
    by more (Some name) is h (suc k) at = more (rw is at h) k at

one_is_not : (es : List Edge) → all_named es ≡ false → (i : ℕ) × (slice_get (ids_of_edges es) i ≡ Some None)
one_is_not [] e = absurd (cc)
one_is_not (x ∷ es) e = by (one_is_not es) x.id refl e
  where
    by : (all_named es ≡ false → (i : ℕ) × (slice_get (ids_of_edges es) i ≡ Some None)) → (o : Option ℤ) → x.id ≡ o
        → all_named (x ∷ es) ≡ false → (i : ℕ) × (slice_get (ids_of_edges (x ∷ es)) i ≡ Some None)
    by more None is h = (0, ap (λ (o : Option ℤ). Some o) is)
    by more (Some name) is h = let r = more (rw is at h) in (suc r.0, r.1)

named_edge : (e : Edge) (name : ℤ) → e.id ≡ Some name → edge_id e ≡ name
named_edge e name is = ap (λ (o : Option ℤ). unwrap_or o (pos 0)) is

fresh_edge : (before : List Edge) (e : Edge) (name : ℤ) (b : Bool) → e.id ≡ Some name
    → is_among (edge_ids before) name ≡ b → id_fault before e ≡ cond b (Some (SameEdgeId name)) None
fresh_edge before e name b is among =
    ap (λ (n : ℤ). same_fault (edge_ids before) n) (named_edge e name is)
    ∙ ap (λ (c : Bool). cond c (Some (SameEdgeId name)) None) among

edges_new : (es : List Edge) (m : ℕ) → ((i : ℕ) → slice_get (ids_of_edges es) i ≢ Some None) → IsClear id_fault [] es m
    → AreNew (ids_of_edges es) m
edges_new es m named clear i None lt there earlier = absurd (named i there)
edges_new es m named clear i (Some name) lt there earlier =
    let r = item_of id_of_edge es i (Some name) there in
    let none = clear i r.0 lt r.1 in
    let among = earlier_among id_of_edge es i earlier.0 name earlier.1 earlier.2 in
    let fault = fresh_edge (take i es) r.0 name true r.2 among in
    absurd (cc (none, fault))

edges_clear : (es : List Edge) (m : ℕ) → ((i : ℕ) → slice_get (ids_of_edges es) i ≢ Some None)
    → AreNew (ids_of_edges es) m → IsClear id_fault [] es m
edges_clear es m named new j e lt there = by e.id refl
  where
    by : (o : Option ℤ) → e.id ≡ o → id_fault (take j es) e ≡ None
    by None is = absurd (named j (id_at id_of_edge es j e there ∙ ap (λ (o : Option ℤ). Some o) is))
    by (Some name) is =
        let here = id_at id_of_edge es j e there ∙ ap (λ (o : Option ℤ). Some o) is in
        fresh_edge (take j es) e name false is
        (not_earlier id_of_edge es j name (λ k less. named k) (new j (Some name) lt here))

-- a place that holds something is below the number of edges
named_all : (es : List Edge) → HaveNames (ids_of_edges es) (length es) → (i : ℕ)
    → slice_get (ids_of_edges es) i ≢ Some None
named_all es named i there =
    let within : i < length (ids_of_edges es) = slice_get_within (ids_of_edges es) i None there in
    let count : length (ids_of_edges es) ≡ length es = length-map es id_of_edge in
    named i (omega arith) there

edges_have_ids : (es : List Edge) (fault : Option ShapeFault) → ((i : ℕ) → slice_get (ids_of_edges es) i ≢ Some None)
    → first_fault id_fault [] es ≡ fault → EdgesHave es fault
edges_have_ids es None named e = inr (edges_new es (length es) named (none_clear id_fault [] es e))
edges_have_ids es (Some f) named e = from (some_fault id_fault [] es f e)
  where
    from : IsFault id_fault [] es f → EdgesHave es (Some f)
    from (i, x, there, fault, clear) = by x.id refl
      where
        same : (name : ℤ) → x.id ≡ Some name → (b : Bool) → is_among (edge_ids (take i es)) name ≡ b
            → EdgesHave es (Some f)
        same name is true among =
            let known = fresh_edge (take i es) x name true is among in
            let it : SameEdgeId name ≡ f = cc (known, fault) in
            let here = id_at id_of_edge es i x there ∙ ap (λ (o : Option ℤ). Some o) is in
            subst (λ (g : ShapeFault). EdgesHave es (Some g)) it (
              λ k lt. named k,
              i,
              record {
                here = here;
                earlier = among_earlier id_of_edge es i name (λ k lt. named k) among;
                first = edges_new es i named clear;
              },
            )
        same name is false among =
            let known = fresh_edge (take i es) x name false is among in
            absurd (cc (known, fault))

        by : (o : Option ℤ) → x.id ≡ o → EdgesHave es (Some f)
        by None is = absurd (named i (id_at id_of_edge es i x there ∙ ap (λ (o : Option ℤ). Some o) is))
        by (Some name) is = same name is (is_among (edge_ids (take i es)) name) refl

have_edge_ids : (es : List Edge) (fault : Option ShapeFault) → ((i : ℕ) → slice_get (ids_of_edges es) i ≢ Some None)
    → EdgesHave es fault → first_fault id_fault [] es ≡ fault
have_edge_ids es None named (inl r) = absurd (named r.0 r.1)
have_edge_ids es None named (inr new) = clear_none id_fault [] es (edges_clear es (length es) named new)
have_edge_ids es (Some (SameEdgeId name)) named (all, i, h) =
    let r = item_of id_of_edge es i (Some name) h.here in
    let among = earlier_among id_of_edge es i h.earlier.0 name h.earlier.1 h.earlier.2 in
    let fault = fresh_edge (take i es) r.0 name true r.2 among in
    fault_some id_fault [] es (SameEdgeId name) i r.0 r.1 fault (edges_clear es i named h.first)
have_edge_ids es (Some f) named h = absurd h

-- where an edge has no id, there is no fault
unnamed_edges : (es : List Edge) (r : (i : ℕ) × (slice_get (ids_of_edges es) i ≡ Some None)) (fault : Option ShapeFault)
    → EdgesHave es fault → None ≡ fault
unnamed_edges es r None h = refl
unnamed_edges es r (Some (SameEdgeId name)) h = absurd (named_all es h.0 r.0 r.1)
unnamed_edges es r (Some f) h = absurd h

pub first_same_edge_id : (es : List Edge) (fault : Option ShapeFault) → (ids_fault es ≡ fault) ↔ EdgesHave es fault
first_same_edge_id es fault = by (all_named es) refl
  where
    by : (b : Bool) → all_named es ≡ b → (cond b (first_fault id_fault [] es) None ≡ fault) ↔ EdgesHave es fault
    by true is = (edges_have_ids es fault (all_are_named es is), have_edge_ids es fault (all_are_named es is))
    by false is =
        let r = one_is_not es is in
        (λ (e : None ≡ fault). subst (λ (o : Option ShapeFault). EdgesHave es o) e (inl r), unnamed_edges es r fault)
