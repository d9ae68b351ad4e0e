-- What is found in each sort of list is the least wrong place by the rows, from the innermost sort on.
--   SomeAt P es p         some pair of the list has the property at p
--   Itself k e p          the pair stands at p, and its value is not of the kind
--   At k e p              the pair itself, or a used one in its list, is wrong at p
--   RowAt t key k es p    so is a pair that a row takes
--   ByRow s es p          so is a pair that some row of the sort takes
--   KeyedAt key k e p     the pair has the key, and is wrong at p
-- Letters: P, Q, V, W properties of places, o and f what is found.
use Rattle.std.proofs.Common.{◌≡◌, ◌≢◌, ℕ, zero, suc, ◌<◌, ◌≤◌, min, Bool, true, false, cond, if◌then◌else◌, ◌⊎◌, inl}
use Rattle.std.proofs.Common.{inr, List, [], ◌∷◌, Option, None, Some, slice_get, bytes_eq, codes, refl, sym, subst}
use Rattle.std.proofs.Common.{◌∙◌, arith}
use Rattle.std.specs.Bool.{Decides}
use Rattle.std.proofs.lemmas.Bool.{cases_lt}
use Rattle.std.proofs.lemmas.Slice.Eq.{bytes_eq-Decides}
use Rattle.gml_core.specs.Trees.{int, real, str, atom, list, Entry, entry, Entries, listed}
use Rattle.st_parts.specs.Used.{key_text, place_of, datum_of, has_key, first_with}
use Rattle.st_parts.specs.Kinds.{earlier, earliest, wrong, wrong_of, first_wrong, name_wrong_of, names_wrong}
use Rattle.st_parts.specs.Kinds.{inside, inside_of, first_inside, node_wrong, edge_wrong, outer_wrong, part_wrong}
use Rattle.st_parts.specs.Kinds.{graph_wrong, bad_kind}
use Rattle.st_parts.specs.WrongKinds.{Sort, text, graph, node, edge, outer, names, Kind, integer, pairs, Times, once}
use Rattle.st_parts.specs.WrongKinds.{each_time, Row, text_graph, graph_node, graph_edge, graph_outer, graph_path}
use Rattle.st_parts.specs.WrongKinds.{node_id, node_order, edge_id, edge_source, edge_target, edge_minlen, name}
use Rattle.st_parts.specs.WrongKinds.{outer_edge, outer_side, IsTaken, IsUsed, here, deeper, HasKind, IsWrongAt}
use Rattle.st_parts.specs.WrongKinds.{IsEarliest}

-- ---- the least place of several properties

least_as : (P Q : ℕ → Type 0) (o : Option ℕ) → ((p : ℕ) → P p → Q p) → ((p : ℕ) → Q p → P p)
    → IsEarliest P o → IsEarliest Q o
least_as P Q None to from lacks = λ p x. lacks p (from p x)
least_as P Q (Some p) to from (is, least) = (to p is, λ q x. least q (from q x))

lesser_has : (P Q : ℕ → Type 0) (p q : ℕ) → P p → Q q → P (min p q) ⊎ Q (min p q)
lesser_has P Q p q x y = elim (cases_lt p q) [
  | inl l ↦ let e : p ≡ min p q = omega arith in inl (subst P e x)
  | inr g ↦ let e : q ≡ min p q = omega arith in inr (subst Q e y)
]

least_either : (P Q : ℕ → Type 0) (o f : Option ℕ) → IsEarliest P o → IsEarliest Q f
    → IsEarliest (λ p. P p ⊎ Q p) (earlier o f)
least_either P Q None None lacks misses = λ p. elim [ inl x ↦ lacks p x | inr y ↦ misses p y ]
least_either P Q None (Some q) lacks (y, least) =
    (inr y, λ p. elim [ inl x ↦ absurd (lacks p x) | inr z ↦ least p z ])
least_either P Q (Some p) None (x, least) lacks =
    (inl x, λ q. elim [ inl z ↦ least q z | inr y ↦ absurd (lacks q y) ])
least_either P Q (Some p) (Some q) (x, low) (y, least) = (lesser_has P Q p q x y, below)
  where
    below : (z : ℕ) → P z ⊎ Q z → min p q ≤ z
    below z (inl a) = omega (arith, low z a)
    below z (inr b) = omega (arith, least z b)

abbrev SomeAt : (Entry → ℕ → Type 0) → List Entry → ℕ → Type 0
SomeAt P es p = (i : ℕ) × (e : Entry) × (slice_get es i ≡ Some e) × P e p

some_more : (P : Entry → ℕ → Type 0) (e : Entry) (es : List Entry) (p : ℕ) → P e p ⊎ SomeAt P es p → SomeAt P (e ∷ es) p
some_more P e es p (inl x) = (0, e, refl, x)
some_more P e es p (inr (i, d, there, x)) = (suc i, d, there, x)

some_less : (P : Entry → ℕ → Type 0) (e : Entry) (es : List Entry) (p : ℕ) → SomeAt P (e ∷ es) p → P e p ⊎ SomeAt P es p
some_less P e es p (zero, d, there, x) = let same : d ≡ e = cc in inl (subst (λ y. P y p) same x)
some_less P e es p (suc i, d, there, x) = inr (i, d, there, x)

-- the least place of all pairs of a list
all_least : (P : Entry → ℕ → Type 0) (says : Entry → Option ℕ) → ((e : Entry) → IsEarliest (P e) (says e))
    → (es : List Entry) → IsEarliest (SomeAt P es) (earliest says es)
all_least P says least [] = λ p x. let nothing : None ≡ Some x.1 = x.2 in cc
all_least P says least (e ∷ es) =
    least_as (λ p. P e p ⊎ SomeAt P es p) (SomeAt P (e ∷ es)) _ (some_more P e es) (some_less P e es)
    (least_either (P e) (SomeAt P es) (says e) (earliest says es) (least e) (all_least P says least es))

-- ---- the first pair with a key

key_decides : (key : List ℕ) (e : Entry) → Decides (has_key key e) (key_text e ≡ key)
key_decides key e = bytes_eq-Decides (key_text e) key

keys_apart : (a b key : List ℕ) → bytes_eq a b ≡ false → key ≡ a → key ≢ b
keys_apart a b key differ is h = let same : bytes_eq a b ≡ true = (bytes_eq-Decides a b).1 (sym is ∙ h) in cc

taken_first : (key : List ℕ) (e : Entry) (es : List Entry) → key_text e ≡ key → IsTaken once key (e ∷ es) e
taken_first key e es keyed = record { index = 0; there = refl; keyed = keyed; first = λ h i d l. absurd (omega arith) }

taken_later : (key : List ℕ) (d : Entry) (es : List Entry) (e : Entry) → key_text d ≢ key → IsTaken once key es e
    → IsTaken once key (d ∷ es) e
taken_later key d es e other h = record { index = suc h.index; there = h.there; keyed = h.keyed; first = λ t. before }
  where
    before : (i : ℕ) (c : Entry) → i < suc h.index → slice_get (d ∷ es) i ≡ Some c → key_text c ≢ key
    before zero c l is = let same : d ≡ c = cc in subst (λ x. key_text x ≢ key) same other
    before (suc i) c l is = let less : i < h.index = omega arith in h.first refl i c less is

first_taken : (key : List ℕ) (es : List Entry) (e : Entry) → first_with key es ≡ Some e → IsTaken once key es e
first_taken key [] e h = absurd (cc)
first_taken key (d ∷ es) e h = by (has_key key d) (key_decides key d) (first_taken key es e) h
  where
    by : (t : Bool) → Decides t (key_text d ≡ key) → (first_with key es ≡ Some e → IsTaken once key es e)
        → cond t (Some d) (first_with key es) ≡ Some e → IsTaken once key (d ∷ es) e
    by true k later is =
        let same : d ≡ e = cc in subst (λ x. IsTaken once key (d ∷ es) x) same (taken_first key d es (k.0 refl))
    by false k later is = taken_later key d es e (λ x. let there = k.1 x in cc) (later is)

taken_is_first : (key : List ℕ) (es : List Entry) (e : Entry) → IsTaken once key es e → first_with key es ≡ Some e
taken_is_first key es e h = at es h.index h.there h.keyed (h.first refl)
  where
    at : (es : List Entry) (n : ℕ) → slice_get es n ≡ Some e → key_text e ≡ key
        → ((i : ℕ) (d : Entry) → i < n → slice_get es i ≡ Some d → key_text d ≢ key) → first_with key es ≡ Some e
    at [] n is keyed before = absurd (cc)
    at (d ∷ es) zero is keyed before =
        let same : e ≡ d = cc in rw ((key_decides key d).1 (subst (λ x. key_text x ≡ key) same keyed)) is
    at (d ∷ es) (suc n) is keyed before =
        by (has_key key d) (key_decides key d) (at es n is keyed (λ i c l. before (suc i) c (omega arith)))
      where
        by : (t : Bool) → Decides t (key_text d ≡ key) → first_with key es ≡ Some e
            → cond t (Some d) (first_with key es) ≡ Some e
        by true k later = absurd (before 0 d (omega arith) refl (k.0 refl))
        by false k later = later

abbrev FirstAt : (Entry → ℕ → Type 0) → List ℕ → List Entry → ℕ → Type 0
FirstAt W key es p = (e : Entry) × IsTaken once key es e × W e p

first_least : (W : Entry → ℕ → Type 0) (says : Option Entry → Option ℕ) → says None ≡ None
    → ((e : Entry) → IsEarliest (W e) (says (Some e)))
    → (key : List ℕ) (es : List Entry) → IsEarliest (FirstAt W key es) (says (first_with key es))
first_least W says empty some key es = by (first_with key es) refl
  where
    by : (o : Option Entry) → first_with key es ≡ o → IsEarliest (FirstAt W key es) (says o)
    by None is =
        subst (IsEarliest (FirstAt W key es)) (sym empty) (λ p x. let there = taken_is_first key es x.0 x.1 in cc)
    by (Some e) is =
        least_as (W e) (FirstAt W key es) (says (Some e)) (λ p w. (e, first_taken key es e is, w)) back (some e)
      where
        back : (p : ℕ) → FirstAt W key es p → W e p
        back p (d, taken, w) =
            let there = taken_is_first key es d taken in let same : d ≡ e = cc in subst (λ c. W c p) same w

-- ---- one pair

abbrev Itself : Kind → Entry → ℕ → Type 0
Itself k e p = (place_of e ≡ p) × (HasKind k (datum_of e) → ⊥)

abbrev At : Kind → Entry → ℕ → Type 0
At integer e p = Itself integer e p
At (pairs s) e p = Itself (pairs s) e p ⊎ ((ds : Entries) × (datum_of e ≡ list ds) × IsWrongAt s (listed ds) p)

itself_least : (k : Kind) (e : Entry) → (HasKind k (datum_of e) → ⊥) → IsEarliest (Itself k e) (Some (place_of e))
itself_least k e other = ((refl, other), λ q x. let at = x.0 in omega arith)

int_least : (e : Entry) → IsEarliest (At integer e) (wrong e)
int_least (entry k at (atom (int n))) = λ p x. x.1 (n, refl)
int_least (entry k at (atom (real bs))) =
    itself_least integer (entry k at (atom (real bs))) (λ h. let is = h.1 in cc)
int_least (entry k at (atom (str bs))) = itself_least integer (entry k at (atom (str bs))) (λ h. let is = h.1 in cc)
int_least (entry k at (list ds)) = itself_least integer (entry k at (list ds)) (λ h. let is = h.1 in cc)

-- the least wrong place of each list of a sort is found
abbrev Finds : Sort → (List Entry → Option ℕ) → Type 0
Finds s within = (es : List Entry) → IsEarliest (IsWrongAt s es) (within es)

pairs_least : (s : Sort) (within : List Entry → Option ℕ) → Finds s within
    → (e : Entry) → IsEarliest (At (pairs s) e) (inside within e)
pairs_least s within finds (entry k at (list ds)) =
    least_as (IsWrongAt s (listed ds)) (At (pairs s) e) _ (λ p w. inr (ds, refl, w)) from (finds (listed ds))
  where
    e : Entry
    e = entry k at (list ds)

    from : (p : ℕ) → At (pairs s) e p → IsWrongAt s (listed ds) p
    from p (inl (is, other)) = absurd (other (ds, refl))
    from p (inr (es, is, w)) = let same : es ≡ ds = cc in subst (λ l. IsWrongAt s (listed l) p) same w
pairs_least s within finds (entry k at (atom a)) =
    least_as (Itself (pairs s) e) (At (pairs s) e) (Some at) (λ p x. inl x) from
    (itself_least (pairs s) e (λ h. let is = h.1 in cc))
  where
    e : Entry
    e = entry k at (atom a)

    from : (p : ℕ) → At (pairs s) e p → Itself (pairs s) e p
    from p (inl x) = x
    from p (inr (es, is, w)) = absurd (cc)

-- ---- the pairs of a row

abbrev RowAt : Times → List ℕ → Kind → List Entry → ℕ → Type 0
RowAt t key k es p = (e : Entry) × IsTaken t key es e × At k e p

up : {s : Sort} {t : Times} {key : List ℕ} {k : Kind} (es : List Entry) (p : ℕ)
    → Row s t key k → RowAt t key k es p → IsWrongAt s es p
up {s} {t} {key} {k} es p row (e, is, w) = by k row w
  where
    by : (k : Kind) → Row s t key k → At k e p → IsWrongAt s es p
    by integer row (at, other) = record { kind = integer; pair = e; used = here t key row is; at = at; wrong = other }
    by (pairs r) row (inl (at, other)) =
        record { kind = pairs r; pair = e; used = here t key row is; at = at; wrong = other }
    by (pairs r) row (inr (ds, listing, h)) = record {
      kind = h.kind;
      pair = h.pair;
      used = deeper t key r e ds row is listing h.used;
      at = h.at;
      wrong = h.wrong;
    }

abbrev ByRow : Sort → List Entry → ℕ → Type 0
ByRow s es p = (t : Times) × (key : List ℕ) × (k : Kind) × Row s t key k × RowAt t key k es p

itself : (k : Kind) (e : Entry) (p : ℕ) → Itself k e p → At k e p
itself integer e p x = x
itself (pairs s) e p x = inl x

down : (s : Sort) (es : List Entry) (p : ℕ) → IsWrongAt s es p → ByRow s es p
down s es p h = by s es h.used
  where
    by : (s : Sort) (es : List Entry) → IsUsed h.kind h.pair s es → ByRow s es p
    by s es (here t key row is) = (t, key, h.kind, row, (h.pair, is, itself h.kind h.pair p (h.at, h.wrong)))
    by s es (deeper t key r d ds row is listing used) =
        let w : IsWrongAt r (listed ds) p =
        record { kind = h.kind; pair = h.pair; used = used; at = h.at; wrong = h.wrong } in
        (t, key, pairs r, row, (d, is, inr (ds, listing, w)))

-- a property that each row of a sort has, and no more
rows_least : (s : Sort) (es : List Entry) (P : ℕ → Type 0) (o : Option ℕ) → ((p : ℕ) → P p → IsWrongAt s es p)
    → ((p : ℕ) (t : Times) (key : List ℕ) (k : Kind) → Row s t key k → RowAt t key k es p → P p)
    → IsEarliest P o → IsEarliest (IsWrongAt s es) o
rows_least s es P o to from least = least_as P (IsWrongAt s es) o to (λ p w. by p (down s es p w)) least
  where
    by : (p : ℕ) → ByRow s es p → P p
    by p (t, key, k, row, x) = from p t key k row x

-- an integer that is used once
abbrev IntAt : List ℕ → List Entry → ℕ → Type 0
IntAt key es p = RowAt once key integer es p

first_int : (key : List ℕ) (es : List Entry) → IsEarliest (IntAt key es) (first_wrong key es)
first_int = first_least (At integer) wrong_of refl int_least

first_pairs : (s : Sort) (within : List Entry → Option ℕ) → Finds s within
    → (key : List ℕ) (es : List Entry) → IsEarliest (RowAt once key (pairs s) es) (first_inside within key es)
first_pairs s within finds = first_least (At (pairs s)) (inside_of within) refl (pairs_least s within finds)

-- a pair that is used each time, if it has the key
abbrev KeyedAt : List ℕ → Kind → Entry → ℕ → Type 0
KeyedAt key k e p = (key_text e ≡ key) × At k e p

keyed_least : (key : List ℕ) (k : Kind) (e : Entry) (V : ℕ → Type 0) (o f : Option ℕ)
    → ((p : ℕ) → V p → key_text e ≢ key) → IsEarliest (At k e) o → IsEarliest V f
    → IsEarliest (λ p. KeyedAt key k e p ⊎ V p) (if has_key key e then o else f)
keyed_least key k e V o f apart a b = by (has_key key e) (key_decides key e)
  where
    by : (t : Bool) → Decides t (key_text e ≡ key) → IsEarliest (λ p. KeyedAt key k e p ⊎ V p) (cond t o f)
    by true d =
        least_as (At k e) _ o (λ p w. inl (d.0 refl, w))
        (λ p. elim [ inl x ↦ x.1 | inr v ↦ absurd (apart p v (d.0 refl)) ]) a
    by false d =
        least_as V _ f (λ p v. inr v) (λ p. elim [ inl x ↦ (let there = d.1 x.0 in absurd (cc)) | inr v ↦ v ]) b

up_each : {s : Sort} {key : List ℕ} {k : Kind} (es : List Entry) (p i : ℕ) (e : Entry) → Row s each_time key k
    → slice_get es i ≡ Some e → KeyedAt key k e p → IsWrongAt s es p
up_each es p i e row there (keyed, w) =
    up es p row (e, record { index = i; there = there; keyed = keyed; first = λ h. absurd (cc) }, w)

-- ---- each sort of list

abbrev NameAt : Entry → ℕ → Type 0
NameAt e p = KeyedAt (codes "e") integer e p ⊎ ⊥

name_least : (e : Entry) → IsEarliest (NameAt e) (name_wrong_of e)
name_least e =
    keyed_least (codes "e") integer e (λ p. ⊥) (wrong e) None (λ p v. absurd v) (int_least e) (λ p v. v)

names_least : Finds names names_wrong
names_least es = rows_least names es (SomeAt NameAt es) _ to from (all_least NameAt name_wrong_of name_least es)
  where
    to : (p : ℕ) → SomeAt NameAt es p → IsWrongAt names es p
    to p (i, e, there, inl x) = up_each es p i e name there x
    to p (i, e, there, inr never) = absurd never

    from : (p : ℕ) (t : Times) (key : List ℕ) (k : Kind) → Row names t key k → RowAt t key k es p → SomeAt NameAt es p
    from p t key k name (e, is, w) = (is.index, e, is.there, inl (is.keyed, w))

abbrev NodeAt : List Entry → ℕ → Type 0
NodeAt es p = IntAt (codes "id") es p ⊎ RowAt once (codes "order") (pairs names) es p

node_least : Finds node node_wrong
node_least es =
    rows_least node es (NodeAt es) _ to from
    (least_either _ _ _ _ (first_int (codes "id") es) (first_pairs names names_wrong names_least (codes "order") es))
  where
    to : (p : ℕ) → NodeAt es p → IsWrongAt node es p
    to p (inl x) = up es p node_id x
    to p (inr x) = up es p node_order x

    from : (p : ℕ) (t : Times) (key : List ℕ) (k : Kind) → Row node t key k → RowAt t key k es p → NodeAt es p
    from p t key k node_id x = inl x
    from p t key k node_order x = inr x

abbrev TargetAt : List Entry → ℕ → Type 0
TargetAt es p = IntAt (codes "target") es p ⊎ IntAt (codes "minlen") es p

abbrev EndAt : List Entry → ℕ → Type 0
EndAt es p = IntAt (codes "source") es p ⊎ TargetAt es p

abbrev EdgeAt : List Entry → ℕ → Type 0
EdgeAt es p = IntAt (codes "id") es p ⊎ EndAt es p

edge_least : Finds edge edge_wrong
edge_least es =
    let target = least_either _ _ _ _ (first_int (codes "target") es) (first_int (codes "minlen") es) in
    let ends = least_either _ _ _ _ (first_int (codes "source") es) target in
    rows_least edge es (EdgeAt es) _ to from (least_either _ _ _ _ (first_int (codes "id") es) ends)
  where
    to : (p : ℕ) → EdgeAt es p → IsWrongAt edge es p
    to p (inl x) = up es p edge_id x
    to p (inr (inl x)) = up es p edge_source x
    to p (inr (inr (inl x))) = up es p edge_target x
    to p (inr (inr (inr x))) = up es p edge_minlen x

    from : (p : ℕ) (t : Times) (key : List ℕ) (k : Kind) → Row edge t key k → RowAt t key k es p → EdgeAt es p
    from p t key k edge_id x = inl x
    from p t key k edge_source x = inr (inl x)
    from p t key k edge_target x = inr (inr (inl x))
    from p t key k edge_minlen x = inr (inr (inr x))

abbrev OuterAt : List Entry → ℕ → Type 0
OuterAt es p = IntAt (codes "edge") es p ⊎ IntAt (codes "side") es p

outer_least : Finds outer outer_wrong
outer_least es =
    rows_least outer es (OuterAt es) _ to from
    (least_either _ _ _ _ (first_int (codes "edge") es) (first_int (codes "side") es))
  where
    to : (p : ℕ) → OuterAt es p → IsWrongAt outer es p
    to p (inl x) = up es p outer_edge x
    to p (inr x) = up es p outer_side x

    from : (p : ℕ) (t : Times) (key : List ℕ) (k : Kind) → Row outer t key k → RowAt t key k es p → OuterAt es p
    from p t key k outer_edge x = inl x
    from p t key k outer_side x = inr x

-- the pairs of a graph that are used each time
abbrev PathAt : Entry → ℕ → Type 0
PathAt e p = KeyedAt (codes "path") (pairs names) e p ⊎ ⊥

abbrev LinkAt : Entry → ℕ → Type 0
LinkAt e p = KeyedAt (codes "edge") (pairs edge) e p ⊎ PathAt e p

abbrev PartAt : Entry → ℕ → Type 0
PartAt e p = KeyedAt (codes "node") (pairs node) e p ⊎ LinkAt e p

part_least : (e : Entry) → IsEarliest (PartAt e) (part_wrong e)
part_least e =
    let path =
    keyed_least (codes "path") (pairs names) e (λ p. ⊥) (inside names_wrong e) None (λ p v. absurd v)
    (pairs_least names names_wrong names_least e) (λ p v. v) in
    let link =
    keyed_least (codes "edge") (pairs edge) e (PathAt e) (inside edge_wrong e) _ no_edge
    (pairs_least edge edge_wrong edge_least e) path in
    keyed_least (codes "node") (pairs node) e (LinkAt e) (inside node_wrong e) _ no_node
    (pairs_least node node_wrong node_least e) link
  where
    no_edge : (p : ℕ) → PathAt e p → key_text e ≢ codes "edge"
    no_edge p (inl (keyed, w)) = keys_apart (codes "path") (codes "edge") (key_text e) refl keyed
    no_edge p (inr never) = absurd never

    no_node : (p : ℕ) → LinkAt e p → key_text e ≢ codes "node"
    no_node p (inl (keyed, w)) = keys_apart (codes "edge") (codes "node") (key_text e) refl keyed
    no_node p (inr (inl (keyed, w))) = keys_apart (codes "path") (codes "node") (key_text e) refl keyed
    no_node p (inr (inr never)) = absurd never

abbrev GraphAt : List Entry → ℕ → Type 0
GraphAt es p = RowAt once (codes "outer") (pairs outer) es p ⊎ SomeAt PartAt es p

graph_least : Finds graph graph_wrong
graph_least es =
    rows_least graph es (GraphAt es) _ to from
    (least_either _ _ _ _ (first_pairs outer outer_wrong outer_least (codes "outer") es)
    (all_least PartAt part_wrong part_least es))
  where
    to : (p : ℕ) → GraphAt es p → IsWrongAt graph es p
    to p (inl x) = up es p graph_outer x
    to p (inr (i, e, there, inl x)) = up_each es p i e graph_node there x
    to p (inr (i, e, there, inr (inl x))) = up_each es p i e graph_edge there x
    to p (inr (i, e, there, inr (inr (inl x)))) = up_each es p i e graph_path there x
    to p (inr (i, e, there, inr (inr (inr never)))) = absurd never

    from : (p : ℕ) (t : Times) (key : List ℕ) (k : Kind) → Row graph t key k → RowAt t key k es p → GraphAt es p
    from p t key k graph_outer x = inl x
    from p t key k graph_node (e, is, w) = inr (is.index, e, is.there, inl (is.keyed, w))
    from p t key k graph_edge (e, is, w) = inr (is.index, e, is.there, inr (inl (is.keyed, w)))
    from p t key k graph_path (e, is, w) = inr (is.index, e, is.there, inr (inr (inl (is.keyed, w))))

pub text_least : Finds text bad_kind
text_least es =
    rows_least text es (RowAt once (codes "graph") (pairs graph) es) _ (λ p x. up es p text_graph x) from
    (first_pairs graph graph_wrong graph_least (codes "graph") es)
  where
    from : (p : ℕ) (t : Times) (key : List ℕ) (k : Kind) → Row text t key k → RowAt t key k es p
        → RowAt once (codes "graph") (pairs graph) es p
    from p t key k text_graph x = x
