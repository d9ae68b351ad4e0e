-- The two passes that fill the open orders.
use Rattle.std.proofs.Common.{zero, zero-add, ◌≡◌, ◌≢◌, ℕ, suc, ◌+◌, ◌<◌, ◌≤◌, eqb, Bool, true, false, cond, List, [], ◌∷◌, ◌++◌, length, get_or, set, take, drop, refl, sym, ap, subst, ◌∙◌, append_assoc, append-nil, add-one, arith, get_or-set_same, get_or-set_other, drop-cons, slice_get, Option, None, Some, ℤ, map, is_none, option_map}
use Rattle.std.proofs.lemmas.Grind.{common_steps}
use Rattle.std.proofs.lemmas.List.{take_more, length-take-le, drop_all}
use Rattle.std.proofs.lemmas.Option.{get_or_from_slice_get, slice_get-get_or, slice_get_within, slice_get-map}
use Rattle.std.proofs.lemmas.Bool.{eqb-true, eqb-false}
use Rattle.st_parts.specs.declared.parts.Mention.{Mention}
use Rattle.st_parts.specs.declared.parts.Node.{Node}
use Rattle.st_input.specs.Faults.{written, written_in}
use Rattle.st_input.proofs.FitLemmas.{orders_length}
use Rattle.st_input.specs.Orders.{is_free, default_order, order_from, orders_from, full_orders, AreAt, Filled, extended, one, file_outs, file_ins, outs_from, ins_from}

-- one edge more at the end
pub file_outs-push : (v e : ℕ) (ends : List (ℕ × ℕ)) (a : ℕ × ℕ) → file_outs v e (ends ++ a ∷ []) ≡ file_outs v e ends ++ one a.0 (e + length ends) v
unfolding file_outs
file_outs-push v e [] a = grind (arith, common_steps)
file_outs-push v e (b ∷ ends) a = grind (arith, common_steps, file_outs-push v (e + 1) ends a)

-- a list in place of the one at t
pub put_more : (free : List Bool) (now : List (List ℕ)) (t : ℕ) (x : ℕ) → t < length now → get_or free t false ≡ true → AreAt (length free) (set now t (get_or now t [] ++ x ∷ [])) (extended free now (one t x))
put_more free now t x lt free_t v v_lt = by (eqb t v) refl
  where
    by : (b : Bool) → eqb t v ≡ b → get_or (set now t (get_or now t [] ++ x ∷ [])) v [] ≡ extended free now (one t x) v
    by true e = let same : t ≡ v = eqb-true t v e in rw (e, ← same, free_t) (rw get_or-set_same refl)
    by false e = let other : v ≢ t = λ s. eqb-false t v e (sym s) in rw (e, get_or-set_other) (grind (arith, common_steps))

-- nothing is put where the order is written
pub put_none : (free : List Bool) (now : List (List ℕ)) (t : ℕ) (x : ℕ) → get_or free t false ≡ false → AreAt (length free) now (extended free now (one t x))
put_none free now t x full v v_lt = by (eqb t v) refl
  where
    by : (b : Bool) → eqb t v ≡ b → get_or now v [] ≡ extended free now (one t x) v
    by true e = let same : t ≡ v = eqb-true t v e in rw (e, ← same, full) (sym (append-nil (get_or now t [])))
    by false e = rw e (grind (arith, common_steps))

-- a pass begins
pub filled_first : (free : List Bool) (old : List (List ℕ)) (more : ℕ → List ℕ) → length old ≡ length free → ((v : ℕ) → more v ≡ []) → Filled free old old more
filled_first free old more size nothing = record { size = size; lists = λ v lt. rw nothing (grind (arith, common_steps)) }

-- and goes on
pub filled_more : (free : List Bool) (old now new : List (List ℕ)) (more next : ℕ → List ℕ) (t : ℕ) (x : ℕ) → Filled free old now more → length new ≡ length free → AreAt (length free) new (extended free now (one t x)) → ((v : ℕ) → next v ≡ more v ++ one t x v) → Filled free old new next
filled_more free old now new more next t x filled size are adds = record { size = size; lists = at }
  where
    -- two pieces behind a list are one
    join : (b : Bool) (p q r : List ℕ) → (p ++ cond b q []) ++ cond b r [] ≡ p ++ cond b (q ++ r) []
    join true p q r = append_assoc p q r
    join false p q r = append-nil (p ++ [])

    at : AreAt (length free) new (extended free old next)
    at v lt = are v lt ∙ ap (λ (l : List ℕ). l ++ cond (get_or free v false) (one t x v) []) (filled.lists v lt) ∙ join (get_or free v false) (get_or old v []) (more v) (one t x v) ∙ ap (λ (l : List ℕ). get_or old v [] ++ cond (get_or free v false) l []) (sym (adds v))

pub outs_none : (v : ℕ) → outs_from 0 [] v ≡ []
unfolding file_outs
outs_none v = refl

pub ins_none : (i v : ℕ) → ins_from i [] v ≡ []
unfolding file_ins
ins_none i v = refl

pub outs_more : (ends : List (ℕ × ℕ)) (i : ℕ) (d : ℕ × ℕ) → i < length ends → (v : ℕ) → outs_from 0 (take (i + 1) ends) v ≡ outs_from 0 (take i ends) v ++ one (get_or ends i d).0 (i) v
outs_more ends i d lt v =
    let within : i ≤ length ends = omega arith in
    let size : length (take i ends) ≡ i = length-take-le i ends within in
    let number : 0 + length (take i ends) ≡ i = omega arith in
    ap (λ (l : List (ℕ × ℕ)). file_outs v 0 l) (take_more ends i d lt) ∙ file_outs-push v 0 (take i ends) (get_or ends i d) ∙ ap (λ (k : ℕ). file_outs v 0 (take i ends) ++ one (get_or ends i d).0 (k) v) number

pub ins_more : (ends : List (ℕ × ℕ)) (i : ℕ) (d : ℕ × ℕ) → i < length ends → (v : ℕ) → ins_from i (drop i ends) v ≡ ins_from (i + 1) (drop (i + 1) ends) v ++ one (get_or ends i d).1 (i) v
unfolding file_ins
ins_more ends i d lt v = rw (drop-cons ends i d) (rw add-one refl)

pub ins_before : (ends : List (ℕ × ℕ)) (i k : ℕ) (d : ℕ × ℕ) → k + 1 ≡ i → i ≤ length ends → (v : ℕ) → ins_from k (drop k ends) v ≡ ins_from i (drop i ends) v ++ one (get_or ends k d).1 (k) v
ins_before ends i k d next le v =
    let lt : k < length ends = omega arith in
    ins_more ends k d lt v ∙ ap (λ (j : ℕ). ins_from j (drop j ends) v ++ one (get_or ends k d).1 (k) v) next

pub ins_end : (ends : List (ℕ × ℕ)) (v : ℕ) → ins_from (length ends) (drop (length ends) ends) v ≡ []
ins_end ends v =
    let le : length ends ≤ length ends = omega arith in
    ap (λ (l : List (ℕ × ℕ)). ins_from (length ends) l v) (drop_all (length ends) ends le) ∙ ins_none (length ends) v

-- two passes are one
pub filled_twice : (free : List Bool) (a b c : List (List ℕ)) (f g : ℕ → List ℕ) → Filled free a b f → Filled free b c g → Filled free a c (λ v. f v ++ g v)
filled_twice free a b c f g fst snd = record { size = snd.size; lists = at }
  where
    join : (y : Bool) (p q r : List ℕ) → (p ++ cond y q []) ++ cond y r [] ≡ p ++ cond y (q ++ r) []
    join true p q r = append_assoc p q r
    join false p q r = append-nil (p ++ [])

    at : AreAt (length free) c (extended free a (λ v. f v ++ g v))
    at v lt = snd.lists v lt ∙ ap (λ (l : List ℕ). l ++ cond (get_or free v false) (g v) []) (fst.lists v lt) ∙ join (get_or free v false) (get_or a v []) (f v) (g v)

-- the order at a vertex, when both passes are done
pub order_is : (names : List ℤ) (nodes : List Node) (ends : List (ℕ × ℕ)) (full : List (List ℕ)) (v : ℕ) (n : Node) → AreAt (length nodes) full (extended (map is_free nodes) (map (written_in names) nodes) (default_order ends)) → slice_get nodes v ≡ Some n → get_or full v [] ≡ order_from names ends v n.order
order_is names nodes ends full v n are there =
    let lt : v < length nodes = slice_get_within nodes v n there in
    let free : get_or (map is_free nodes) v false ≡ is_free n = get_or_from_slice_get (map is_free nodes) v (is_free n) false (slice_get-map is_free nodes v ∙ ap (λ (o : Option Node). option_map is_free o) there) in
    let list : get_or (map (written_in names) nodes) v [] ≡ written_in names n = get_or_from_slice_get (map (written_in names) nodes) v (written_in names n) [] (slice_get-map (written_in names) nodes v ∙ ap (λ (o : Option Node). option_map (written_in names) o) there) in
    are v lt ∙ ap (λ (b : Bool). get_or (map (written_in names) nodes) v [] ++ cond b (default_order ends v) []) free ∙ ap (λ (l : List ℕ). l ++ cond (is_free n) (default_order ends v) []) list ∙ shape n.order
  where
    shape : (o : Option (List Mention)) → written names o ++ cond (is_none o) (default_order ends v) [] ≡ order_from names ends v o
    shape None = refl
    shape (Some ms) = append-nil _

-- lists that agree at each place are one
pub same_lists_at : (xs ys : List (List ℕ)) → length xs ≡ length ys → ((v : ℕ) → v < length xs → get_or xs v [] ≡ get_or ys v []) → xs ≡ ys
same_lists_at [] [] size same = refl
same_lists_at [] (y ∷ ys) size same = absurd (omega arith)
same_lists_at (x ∷ xs) [] size same = absurd (omega arith)
same_lists_at (x ∷ xs) (y ∷ ys) size same =
    let first : x ≡ y = same 0 (omega arith) in
    let count : length xs ≡ length ys = omega arith in
    let rest : xs ≡ ys = same_lists_at xs ys count (λ v lt. same (suc v) (omega arith)) in
    cc

-- the order at a vertex
pub orders_at : (names : List ℤ) (ends : List (ℕ × ℕ)) (k : ℕ) (ns : List Node) (v w : ℕ) (n : Node) → k + v ≡ w → slice_get ns v ≡ Some n → get_or (orders_from names ends k ns) v [] ≡ order_from names ends w n.order
orders_at names ends k [] v w n is there = absurd (cc)
orders_at names ends k (m ∷ ns) zero w n is there =
    let same : m ≡ n = cc in
    let here : k ≡ w = omega arith in
    ap (λ (i : ℕ). order_from names ends i m.order) here ∙ ap (λ (l : Node). order_from names ends w l.order) same
orders_at names ends k (m ∷ ns) (suc v) w n is there =
    let next : (k + 1) + v ≡ w = omega arith in
    orders_at names ends (k + 1) ns v w n next there

-- when both passes are done, the lists are the whole orders
pub full_is : (names : List ℤ) (nodes : List Node) (ends : List (ℕ × ℕ)) (written full : List (List ℕ)) → written ≡ map (written_in names) nodes → length full ≡ length nodes → AreAt (length nodes) full (extended (map is_free nodes) written (default_order ends)) → full ≡ full_orders names ends nodes
unfolding full_orders
full_is names nodes ends written full is size are =
    let at = subst (λ (w : List (List ℕ)). AreAt (length nodes) full (extended (map is_free nodes) w (default_order ends))) is are in
    let count : length full ≡ length (orders_from names ends 0 nodes) = size ∙ sym (orders_length names ends 0 nodes) in
    same_lists_at full (orders_from names ends 0 nodes) count (λ v lt.
    let within : v < length nodes = omega arith in
    let there : slice_get nodes v ≡ Some (get_or nodes v no_node) = slice_get-get_or nodes v no_node within in
    order_is names nodes ends full v (get_or nodes v no_node) at there ∙ sym (orders_at names ends 0 nodes v v (get_or nodes v no_node) (zero-add v) there))
  where
    no_node : Node
    no_node = record { at = 0; id = None; order = None }
