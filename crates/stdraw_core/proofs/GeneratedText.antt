-- The text of a generated graph: its tree is bounded and well formed, and the text is short.
-- Letters: z name, l names, k key, e pair, es pairs, d how deep lists nest, m and n how many bytes, g graph.
--   IsSmall z           a name below 999,999
--   IsPair d n e        a well-formed pair, whose lists nest at most d deep, with a text of at most n bytes
--   ArePairs d n es     the same of pairs
--   IsPlainText g       the tree of a plain graph can be written, and its text has at most 32 bytes for each vertex, 64 for
--                       each edge and 64 more
use Rattle.std.proofs.Common.{◌≡◌, ℕ, zero, suc, ◌+◌, ◌*◌, ◌-◌, ◌^◌, ◌≤◌, ◌<◌, ℤ, pos, true, List, [], ◌∷◌, ◌++◌, length, map, get_or, refl, sym, subst, arith, codes, length-append}
use Rattle.std.specs.Fmt.{signed_decimal}
use Rattle.std.specs.List.{range_with_len}
use Rattle.std.proofs.lemmas.Bool.{and_from, le-leb}
use Rattle.std.proofs.lemmas.Fmt.{length_signed_le}
use Rattle.std.proofs.lemmas.List.FromFn.{get_or-map-range_with_len}
use Rattle.gml_core.specs.declared.token.TokenKind.TheVariants.{Key}
use Rattle.gml_core.specs.Lexing.{token_at}
use Rattle.gml_core.specs.Printing.{entry_text, printed}
use Rattle.gml_core.specs.Reading.{IsBounded}
use Rattle.gml_core.specs.Sound.{IsSpelled, IsWellEntry, AreWell}
use Rattle.gml_core.specs.Trees.{list, Entry, entry, Entries, none, more, depth, entry_depth, all_fit, entry_fits}
use Rattle.gml_core.specs.Views.{entries_of}
use Rattle.st_input.specs.InputGraph.{InputGraph}
use Rattle.st_input.specs.Plain.{counted}
use Rattle.st_writer.specs.Plain.{int_pair, node_pair, edge_pair, graph_pairs, plain_entries}

-- ---- names
pub record IsSmall (z : ℤ) : Type 0 where
  pub number : ℕ
  pub is : z ≡ pos number
  pub few : number + 1 < 10 ^ 6

abbrev pub AreSmall : List ℤ → Type 0
AreSmall [] = Unit {0}
AreSmall (z ∷ l) = IsSmall z × AreSmall l

small_range : (a n : ℕ) → a + n < 10 ^ 6 → AreSmall (map (λ k. pos k) (range_with_len a n))
small_range a zero lt = tt
small_range a (suc n) lt = (record { number = a; is = refl; few = omega (arith, lt) }, small_range (a + 1) n (omega (arith, lt)))

-- the names that are counted from 1
pub small_counted : (n : ℕ) → n + 1 < 10 ^ 6 → AreSmall (counted n)
unfolding counted
small_counted n lt = small_range 1 n (omega (arith, lt))

pub counted_at : (n v : ℕ) → v < n → get_or (counted n) v (pos 0) ≡ pos (v + 1)
unfolding counted
counted_at n v lt = get_or-map-range_with_len (λ k. pos k) 1 n v (v + 1) (pos 0) lt (omega arith)

small_at : (l : List ℤ) → AreSmall l → (v : ℕ) → IsSmall (get_or l v (pos 0))
small_at [] s v = record { number = 0; is = refl; few = omega arith }
small_at (z ∷ l) s zero = s.0
small_at (z ∷ l) s (suc v) = small_at l s.1 v

-- ---- pairs
record IsPair (d n : ℕ) (e : Entry) : Type 0 where
  nests : entry_depth e ≤ d
  fit : entry_fits e ≡ true
  well : IsWellEntry e
  short : length (entry_text e) ≤ n

record ArePairs (d n : ℕ) (es : Entries) : Type 0 where
  nests : depth es ≤ d
  fit : all_fit es ≡ true
  well : AreWell es
  short : length (printed es) ≤ n

-- with more bytes
longer : (d m n : ℕ) (e : Entry) → m ≤ n → IsPair d m e → IsPair d n e
longer d m n e le h = record { nests = h.nests; fit = h.fit; well = h.well; short = omega (arith, h.short, le) }

longer_are : (d m n : ℕ) (es : Entries) → m ≤ n → ArePairs d m es → ArePairs d n es
longer_are d m n es le h = record { nests = h.nests; fit = h.fit; well = h.well; short = omega (arith, h.short, le) }

none_are : (d : ℕ) → ArePairs d 0 none
none_are d = record { nests = omega arith; fit = refl; well = tt; short = omega arith }

more_are : (d m n : ℕ) (e : Entry) (es : Entries) → IsPair d m e → ArePairs d n es → ArePairs d (m + n) (more e es)
more_are d m n e es h k = record {
  nests = omega (arith, h.nests, k.nests);
  fit = and_from (entry_fits e) (all_fit es) h.fit k.fit;
  well = (h.well, k.well);
  short = omega (arith, length-append (entry_text e) (printed es), h.short, k.short);
}

-- a pair with a number
number_is : (k : List ℕ) (n : ℕ) → IsSpelled Key k → n + 1 < 10 ^ 6 → IsPair 0 (length k + 9) (int_pair k (pos n))
number_is k n s lt =
    let digits : length (signed_decimal (pos n)) ≤ 6 + 1 = length_signed_le 6 (pos n) lt (omega (arith, lt)) in
    record {
      nests = omega arith;
      fit = and_from _ _ refl (le-leb n (2 ^ 63 - 1) (omega (arith, lt)));
      well = (s, tt);
      short = omega (arith, digits, length-append (k ++ 32 ∷ signed_decimal (pos n)) (10 ∷ []), length-append k (32 ∷ signed_decimal (pos n)));
    }

-- a pair with a name
name_is : (k : List ℕ) (z : ℤ) → IsSpelled Key k → IsSmall z → IsPair 0 (length k + 9) (int_pair k z)
name_is k z s m = subst (λ x. IsPair 0 (length k + 9) (int_pair k x)) (sym m.is) (number_is k m.number s m.few)

-- a pair with a list
list_is : (d n : ℕ) (k : List ℕ) (es : Entries) → IsSpelled Key k → ArePairs d n es → IsPair (suc d) (length k + n + 5) (entry k 0 (list es))
list_is d n k es s h = record {
  nests = omega (arith, h.nests);
  fit = h.fit;
  well = (s, h.well);
  short = omega (arith, h.short, length-append (k ++ 32 ∷ 91 ∷ 10 ∷ (printed es ++ 93 ∷ [])) (10 ∷ []), length-append k (32 ∷ 91 ∷ 10 ∷ (printed es ++ 93 ∷ [])), length-append (printed es) (93 ∷ []));
}

-- ---- the pairs of a plain graph
node_is : (z : ℤ) → IsSmall z → IsPair 1 32 (node_pair z)
unfolding token_at
node_is z s =
    let inner = more_are 0 11 0 (int_pair (codes "id") z) none (name_is (codes "id") z (refl, refl) s) (none_are 0) in
    longer 1 (length (codes "node") + 11 + 5) 32 (node_pair z) (omega arith) (list_is 0 11 (codes "node") (more (int_pair (codes "id") z) none) (refl, refl) inner)

edge_is : (l : List ℤ) (a : ℕ × ℕ) → AreSmall l → IsPair 1 64 (edge_pair l a)
unfolding token_at
edge_is l a s =
    let tail : Entry = int_pair (codes "source") (get_or l a.0 (pos 0)) in
    let head : Entry = int_pair (codes "target") (get_or l a.1 (pos 0)) in
    let last = more_are 0 15 0 head none (name_is (codes "target") (get_or l a.1 (pos 0)) (refl, refl) (small_at l s a.1)) (none_are 0) in
    let inner = more_are 0 15 15 tail (more head none) (name_is (codes "source") (get_or l a.0 (pos 0)) (refl, refl) (small_at l s a.0)) last in
    longer 1 (length (codes "edge") + 30 + 5) 64 (edge_pair l a) (omega arith) (list_is 0 30 (codes "edge") (more tail (more head none)) (refl, refl) inner)

edges_are : (l : List ℤ) (ends : List (ℕ × ℕ)) → AreSmall l → ArePairs 1 (length ends * 64) (entries_of (map (edge_pair l) ends))
edges_are l [] s = none_are 1
edges_are l (a ∷ ends) s =
    longer_are 1 (64 + length ends * 64) (length (a ∷ ends) * 64) (entries_of (map (edge_pair l) (a ∷ ends))) (omega arith)
    (more_are 1 64 (length ends * 64) (edge_pair l a) (entries_of (map (edge_pair l) ends)) (edge_is l a s) (edges_are l ends s))

-- nodes, and pairs behind them
nodes_are : (l : List ℤ) (n : ℕ) (xs : List Entry) → AreSmall l → ArePairs 1 n (entries_of xs) → ArePairs 1 (length l * 32 + n) (entries_of (map node_pair l ++ xs))
nodes_are [] n xs s h = longer_are 1 n (0 * 32 + n) (entries_of xs) (omega arith) h
nodes_are (z ∷ l) n xs s h =
    longer_are 1 (32 + (length l * 32 + n)) (length (z ∷ l) * 32 + n) (entries_of (map node_pair (z ∷ l) ++ xs)) (omega arith)
    (more_are 1 32 (length l * 32 + n) (node_pair z) (entries_of (map node_pair l ++ xs)) (node_is z s.0) (nodes_are l n xs s.1 h))

pub record IsPlainText (g : InputGraph) : Type 0 where
  pub bounded : IsBounded (plain_entries g)
  pub well : AreWell (plain_entries g)
  pub short : length (printed (plain_entries g)) ≤ length g.vertex_names * 32 + length g.graph.ends * 64 + 64

pub plain_text : (g : InputGraph) → AreSmall g.vertex_names → IsPlainText g
unfolding plain_entries graph_pairs token_at
plain_text g s =
    let n : ℕ = length g.vertex_names * 32 + length g.graph.ends * 64 in
    let rest : Entries = entries_of (map node_pair g.vertex_names ++ map (edge_pair g.vertex_names) g.graph.ends) in
    let directed : Entry = int_pair (codes "directed") (pos 1) in
    let behind : ArePairs 1 n rest = nodes_are g.vertex_names (length g.graph.ends * 64) (map (edge_pair g.vertex_names) g.graph.ends) s (edges_are g.vertex_names g.graph.ends s) in
    let first : IsPair 1 17 directed = one_deeper (number_is (codes "directed") 1 (refl, refl) (omega arith)) in
    let whole = list_is 1 (17 + n) (codes "graph") (more directed rest) (refl, refl) (more_are 1 17 n directed rest first behind) in
    let all = more_are 2 (length (codes "graph") + (17 + n) + 5) 0 (entry (codes "graph") 0 (list (more directed rest))) none whole (none_are 2) in
    record {
      bounded = record { nests = omega (arith, all.nests); fit = all.fit };
      well = all.well;
      short = omega (arith, all.short);
    }
  where
    one_deeper : IsPair 0 17 (int_pair (codes "directed") (pos 1)) → IsPair 1 17 (int_pair (codes "directed") (pos 1))
    one_deeper h = record { nests = omega arith; fit = h.fit; well = h.well; short = h.short }
