-- The graph of a sound text can be written: no label has a quotation mark, and no order is too long for a list.
-- Letters: es pairs, k key, v vertex, o what may be there.
use Rattle.std.proofs.Common.{◌≡◌, ◌≢◌, ◌<◌, ◌≤◌, ◌+◌, ◌*◌, ◌^◌, ℕ, zero, suc, ℤ, Bool, true, false, cond, eqb, List, [], ◌∷◌, ◌++◌, length, map, take, get_or, refl, ap, sym, subst, ◌∙◌, arith, codes, Option, None, Some, Ok, All}
use Rattle.std.specs.Prelude.{bytes_eq, nat_lt, position}
use Rattle.std.specs.List.{position_or_len}
use Rattle.std.specs.Option.{option_map}
use Rattle.std.proofs.lemmas.Bool.{eqb-false}
use Rattle.std.proofs.lemmas.Bool.Decides.{nat_tests}
use Rattle.std.proofs.lemmas.List.{get_or_append_left, length-append, length-map}
use Rattle.std.proofs.lemmas.List.Sums.{fails_before_first}
use Rattle.gml_core.specs.Trees.{int, real, str, Datum, atom, list, Entry, entry, Entries, none, more, listed}
use Rattle.gml_core.specs.Lexing.{token, token_at, string_at}
use Rattle.gml_core.specs.Sound.{IsSpelled, IsSound, IsWellDatum, IsWellEntry, AreWell, IsShortDatum, IsShortEntry, HaveShortLists}
use Rattle.gml_core.specs.declared.token.TokenKind.TheVariants.{Str}
use Rattle.gml_core.specs.declared.token.Token.{Token}
use Rattle.st_parts.specs.Used.{has_key, first_with, each, str_of, list_of, first_str}
use Rattle.st_parts.specs.Parts.{shown_byte, shown_label, mention_in, mentions_in, label_in, node_in, parts_in}
use Rattle.st_parts.specs.declared.parts.Mention.{Mention}
use Rattle.st_parts.specs.declared.parts.Node.{Node}
use Rattle.st_input.specs.Faults.{edge_names}
use Rattle.st_input.specs.Faults.{edge_number}
use Rattle.st_input.specs.Orders.{file_outs, file_ins, order_from, orders_from, full_orders}
use Rattle.st_input.specs.InputGraph.{InputGraph}
use Rattle.st_input.specs.Embedding.{embedded_in, embedded_graph}
use Rattle.st_input.specs.FirstFault.{shape_fault}
use Rattle.st_input.specs.Writable.{HasNoQuote, IsWritable}
use Rattle.st_input.proofs.LawLemmas.{within_limits}

-- ---- strings
string_length : (n : ℕ) (o : Option ℕ) → string_at 0 o ≡ Ok (token Str 0 (n + 2)) → o ≡ Some n
string_length n None e = absurd (cc)
string_length n (Some m) e =
    let same : token Str 0 (m + 2) ≡ token Str 0 (n + 2) = cc in
    let to : 0 + (m + 2) ≡ 0 + (n + 2) = ap (λ (t : Token). t.to) same in
    let is : m ≡ n = omega arith in
    ap (λ (x : ℕ). Some x) is

found_at : (b : Bool) (p n : ℕ) → cond b (Some p) None ≡ Some n → p ≡ n
found_at true p n e = cc
found_at false p n e = absurd (cc)

string_clear : (bs : List ℕ) → IsSpelled Str (34 ∷ (bs ++ 34 ∷ [])) → All (λ b. b ≢ 34) bs
unfolding token_at
string_clear bs s k d lt e =
    let whole = bs ++ 34 ∷ [] in
    let size : length (34 ∷ (bs ++ 34 ∷ [])) ≡ length bs + 2 = omega (arith, length-append bs (34 ∷ [])) in
    let read : string_at 0 (position (λ x. eqb x 34) (bs ++ 34 ∷ [])) ≡ Ok (token Str 0 (length bs + 2)) = s.1 ∙ ap (λ (n : ℕ). Ok (token Str 0 n)) size in
    let is : position (λ x. eqb x 34) (bs ++ 34 ∷ []) ≡ Some (length bs) = string_length (length bs) (position (λ x. eqb x 34) whole) read in
    let first_at : position_or_len (λ x. eqb x 34) (bs ++ 34 ∷ []) ≡ length bs = found_at (nat_lt (position_or_len (λ x. eqb x 34) whole) (length whole)) (position_or_len (λ x. eqb x 34) whole) (length bs) is in
    let fails : eqb (get_or (bs ++ 34 ∷ []) k d) 34 ≡ false = fails_before_first (λ x. eqb x 34) whole k d (omega (arith, first_at, lt)) in
    eqb-false (get_or whole k d) 34 fails (get_or_append_left bs (34 ∷ []) d k lt ∙ e)

byte_clear : (b : ℕ) → b ≢ 34 → shown_byte b ≢ 34
byte_clear b n = grind (arith, nat_tests, n)

bytes_clear : (n : ℕ) (bs : List ℕ) → All (λ b. b ≢ 34) bs → All (λ b. b ≢ 34) (map shown_byte (take n bs))
bytes_clear zero bs all k d lt = absurd (omega arith)
bytes_clear (suc n) [] all k d lt = absurd (omega arith)
bytes_clear (suc n) (b ∷ bs) all zero d lt = byte_clear b (all 0 d (omega arith))
bytes_clear (suc n) (b ∷ bs) all (suc k) d lt = bytes_clear n bs (λ j e l. all (suc j) e (omega arith)) k d (omega arith)

-- ---- labels
str_clear : (k : List ℕ) (es : Entries) → AreWell es → (bs : List ℕ) → str_of (first_with k (listed es)) ≡ Some bs → All (λ b. b ≢ 34) bs
str_clear k none w bs e = absurd (cc)
str_clear k (more (entry j at d) es) w bs e = by (bytes_eq j k) d w.0.1 (str_clear k es w.1 bs) e
  where
    by : (b : Bool) (d : Datum) → IsWellDatum d → (str_of (first_with k (listed es)) ≡ Some bs → All (λ x. x ≢ 34) bs) → str_of (cond b (Some (entry j at d)) (first_with k (listed es))) ≡ Some bs → All (λ x. x ≢ 34) bs
    by false d v rest e = rest e
    by true (list l) v rest e = absurd (cc)
    by true (atom (int z)) v rest e = absurd (cc)
    by true (atom (real cs)) v rest e = absurd (cc)
    by true (atom (str cs)) v rest e = (let same : cs ≡ bs = cc in subst (λ (l : List ℕ). All (λ x. x ≢ 34) l) same (string_clear cs v))

shown_clear : (o : Option (List ℕ)) → ((bs : List ℕ) → o ≡ Some bs → All (λ b. b ≢ 34) bs) → HasNoQuote (shown_label o)
shown_clear None p = tt
shown_clear (Some bs) p = by (eqb (length bs) 0) (bytes_clear 80 bs (p bs refl))
  where
    by : (b : Bool) → All (λ x. x ≢ 34) (map shown_byte (take 80 bs)) → HasNoQuote (cond b None (Some (map shown_byte (take 80 bs))))
    by true all = tt
    by false all = all

label_clear : (e : Entry) → IsWellEntry e → HasNoQuote (label_in e)
label_clear (entry j at (atom (int z))) w = tt
label_clear (entry j at (atom (real bs))) w = tt
label_clear (entry j at (atom (str bs))) w = tt
label_clear (entry j at (list es)) w = shown_clear (first_str (codes "label") (listed es)) (str_clear (codes "label") es w.1)

labels_clear : (k : List ℕ) (es : Entries) → AreWell es → (v : ℕ) → HasNoQuote (get_or (each k label_in (listed es)) v None)
labels_clear k none w v = tt
labels_clear k (more (entry j at d) es) w v = by (bytes_eq j k) v (label_clear (entry j at d) w.0) (labels_clear k es w.1)
  where
    by : (b : Bool) (v : ℕ) → HasNoQuote (label_in (entry j at d)) → ((u : ℕ) → HasNoQuote (get_or (each k label_in (listed es)) u None)) → HasNoQuote (get_or (cond b (label_in (entry j at d) ∷ each k label_in (listed es)) (each k label_in (listed es))) v None)
    by true zero h rest = h
    by true (suc u) h rest = rest u
    by false v h rest = rest v

-- ---- orders
each_few : {A : Type 0} (k : List ℕ) (says : Entry → A) (xs : List Entry) → length (each k says xs) ≤ length xs
each_few k says [] = omega arith
each_few {A} k says (x ∷ xs) = by (has_key k x) (each_few k says xs)
  where
    by : (b : Bool) → length (each k says xs) ≤ length xs → length (cond b (says x ∷ each k says xs) (each k says xs)) ≤ suc (length xs)
    by true le = omega (arith, le)
    by false le = omega (arith, le)

abbrev IsShortOrder : Option (List Mention) → Type 0
IsShortOrder None = Unit {0}
IsShortOrder (Some ms) = length ms < 2 ^ 31

list_short : (k : List ℕ) (es : Entries) → HaveShortLists es → IsShortOrder (option_map mentions_in (list_of (first_with k (listed es))))
list_short k none s = tt
list_short k (more (entry j at d) es) s = by (bytes_eq j k) d s.0 (list_short k es s.1)
  where
    by : (b : Bool) (d : Datum) → IsShortDatum d → IsShortOrder (option_map mentions_in (list_of (first_with k (listed es)))) → IsShortOrder (option_map mentions_in (list_of (cond b (Some (entry j at d)) (first_with k (listed es)))))
    by false d v rest = rest
    by true (atom (int z)) v rest = tt
    by true (atom (real bs)) v rest = tt
    by true (atom (str bs)) v rest = tt
    by true (list l) v rest = (let few = each_few (codes "e") mention_in (listed l) in omega (arith, v.0, few))

node_short : (e : Entry) → IsShortEntry e → IsShortOrder (node_in e).order
node_short (entry j at (atom (int z))) s = tt
node_short (entry j at (atom (real bs))) s = tt
node_short (entry j at (atom (str bs))) s = tt
node_short (entry j at (list es)) s = list_short (codes "order") es s.1

abbrev AreShortOrders : List Node → Type 0
AreShortOrders [] = Unit {0}
AreShortOrders (n ∷ ns) = IsShortOrder n.order × AreShortOrders ns

nodes_short : (k : List ℕ) (es : Entries) → HaveShortLists es → AreShortOrders (each k node_in (listed es))
nodes_short k none s = tt
nodes_short k (more (entry j at d) es) s = by (bytes_eq j k) (node_short (entry j at d) s.0) (nodes_short k es s.1)
  where
    by : (b : Bool) → IsShortOrder (node_in (entry j at d)).order → AreShortOrders (each k node_in (listed es)) → AreShortOrders (cond b (node_in (entry j at d) ∷ each k node_in (listed es)) (each k node_in (listed es)))
    by true h rest = (h, rest)
    by false h rest = rest

if_short : (b : Bool) (e : ℕ) → length (cond b (e ∷ []) []) ≤ 1
if_short true e = omega arith
if_short false e = omega arith

outs_few : (v e : ℕ) (ends : List (ℕ × ℕ)) → length (file_outs v e ends) ≤ length ends
unfolding file_outs
outs_few v e [] = omega arith
outs_few v e (a ∷ ends) = omega (arith, length-append (cond (eqb a.0 v) (e ∷ []) []) (file_outs v (e + 1) ends), if_short (eqb a.0 v) e, outs_few v (e + 1) ends)

ins_few : (v e : ℕ) (ends : List (ℕ × ℕ)) → length (file_ins v e ends) ≤ length ends
unfolding file_ins
ins_few v e [] = omega arith
ins_few v e (a ∷ ends) = omega (arith, length-append (file_ins v (e + 1) ends) (cond (eqb a.1 v) (e ∷ []) []), if_short (eqb a.1 v) e, ins_few v (e + 1) ends)

order_few : (names : List ℤ) (ends : List (ℕ × ℕ)) (v : ℕ) (o : Option (List Mention)) → 2 * length ends < 2 ^ 31 → IsShortOrder o → length (order_from names ends v o) < 2 ^ 31
order_few names ends v None m s = omega (arith, length-append (file_outs v 0 ends) (file_ins v 0 ends), outs_few v 0 ends, ins_few v 0 ends, m)
order_few names ends v (Some ms) m s = omega (arith, length-map ms (edge_number names), s)

orders_few : (names : List ℤ) (ends : List (ℕ × ℕ)) (a : ℕ) (ns : List Node) → 2 * length ends < 2 ^ 31 → AreShortOrders ns → (v : ℕ) → length (get_or (orders_from names ends a ns) v []) < 2 ^ 31
orders_few names ends a [] m s v = omega arith
orders_few names ends a (n ∷ ns) m s zero = order_few names ends a n.order m s.0
orders_few names ends a (n ∷ ns) m s (suc v) = orders_few names ends (a + 1) ns m s.1 v

-- ---- the graph
record CanBeWritten (g : InputGraph) : Type 0 where
  quotes : (v : ℕ) → HasNoQuote (get_or g.labels v None)
  short : (v : ℕ) → length (get_or g.orders v []) < 2 ^ 31

entry_written : (e : Entry) → IsWellEntry e → IsShortEntry e → 2 * length (embedded_in (parts_in e)).graph.ends < 2 ^ 31 → CanBeWritten (embedded_in (parts_in e))
unfolding full_orders
entry_written (entry j at (atom (int z))) w s m = record { quotes = λ v. tt; short = λ v. omega arith }
entry_written (entry j at (atom (real bs))) w s m = record { quotes = λ v. tt; short = λ v. omega arith }
entry_written (entry j at (atom (str bs))) w s m = record { quotes = λ v. tt; short = λ v. omega arith }
entry_written (entry j at (list es)) w s m = record {
  quotes = labels_clear (codes "node") es w.1;
  short = orders_few (edge_names (parts_in (entry j at (list es))).edges) (embedded_in (parts_in (entry j at (list es)))).graph.ends 0 (parts_in (entry j at (list es))).nodes m (nodes_short (codes "node") es s.1);
}

first_written : (k : List ℕ) (es : Entries) (g : InputGraph) → AreWell es → HaveShortLists es → 2 * length g.graph.ends < 2 ^ 31 → option_map (λ (e : Entry). embedded_in (parts_in e)) (first_with k (listed es)) ≡ Some g → CanBeWritten g
first_written k none g w s m e = absurd (cc)
first_written k (more (entry j at d) es) g w s m e = by (bytes_eq j k) (first_written k es g w.1 s.1 m) e
  where
    same : embedded_in (parts_in (entry j at d)) ≡ g → CanBeWritten g
    same q = subst CanBeWritten q (entry_written (entry j at d) w.0 s.0 (subst (λ (h : InputGraph). 2 * length h.graph.ends < 2 ^ 31) (sym q) m))

    by : (b : Bool) → (option_map (λ (e : Entry). embedded_in (parts_in e)) (first_with k (listed es)) ≡ Some g → CanBeWritten g) → option_map (λ (e : Entry). embedded_in (parts_in e)) (cond b (Some (entry j at d)) (first_with k (listed es))) ≡ Some g → CanBeWritten g
    by true rest q = same (cc)
    by false rest q = rest q

pub read_writable : (text : Entries) (max_n max_m : ℕ) (g : InputGraph) → IsSound text → max_n + max_m + 2 < 2 ^ 31 → max_m < 2 ^ 30 → shape_fault text max_n max_m ≡ None → embedded_graph text ≡ Some g → IsWritable g
unfolding embedded_graph
read_writable text max_n max_m g S room few clear is =
    let sizes = within_limits text max_n max_m g clear is in
    let W = first_written (codes "graph") text g S.well S.short.1 (omega (arith, sizes.1, few)) is in
    record { few = omega (arith, sizes.0, sizes.1, room); short = W.short; quotes = W.quotes }
