-- The traversal as the code goes through it: a stack of edges, the last of them first, and tables by vertex.
use Rattle.std.proofs.Common.{ℕ, suc, Bool, true, false, cond, List, [], ◌∷◌, ◌++◌, length, reverse, get_or, ◌≡◌, ◌≢◌, ◌<◌, ◌≤◌, ◌+◌, ◌-◌, inl, inr, refl, sym, ap, ◌∙◌, subst, arith}
use Rattle.std.proofs.Math.ListN.{set, replicate}
use Rattle.std.proofs.lemmas.List.{get_or-set_same, get_or-set_other, get_or-replicate, get_or_default, reverse-append, length-set, length-replicate}
use Rattle.std.proofs.lemmas.List.Sums.{sum_by-set}
use Rattle.std.specs.List.{sum_by}
use Rattle.st_ids.specs.declared.ids.EdgeId.{EdgeId}
use Rattle.st_ids.specs.Lists.{here}
use Rattle.st_sides.specs.Sides.{SidesValue, IsSides, edge_count, edge_head, outs, ins}
use Rattle.st_sides.specs.Objects.{vertex, LeftOf}
use Rattle.st_order.proofs.BranchLemmas.{branches_right, branches_left, x_by_order, y_by_order}
use Rattle.st_ids.proofs.Public.{not_in_nil, turn, turn_left, in_turn, turn_once, length-le_from_below}
use Rattle.st_ids.specs.EdgeNumbers.{numbers}
use Rattle.st_order.specs.Labels.{AreSideNumbers}
use Rattle.st_order.proofs.TraversalLemmas.{IsOrdered, IsTraversal, start, some, pass, number, IsKept, kept}

-- ---- the stack
-- edges put one by one before a list
abbrev pub turned : List EdgeId → List ℕ → List ℕ
turned [] ys = ys
turned (e ∷ es) ys = turned es (e.0 ∷ ys)

pub turned-append : (xs ys : List EdgeId) (zs : List ℕ) → turned (xs ++ ys) zs ≡ turned ys (turned xs zs)
turned-append [] ys zs = refl
turned-append (x ∷ xs) ys zs = turned-append xs ys (x.0 ∷ zs)

turned_reverse : (es : List EdgeId) (T : List ℕ) → turned (reverse es) T ≡ numbers es ++ T
turned_reverse [] T = refl
turned_reverse (x ∷ xs) T =
    ap (λ z. turned z T) (reverse-append (x ∷ []) xs) ∙ turned-append (reverse xs) (x ∷ []) T ∙ ap (λ z. x.0 ∷ z) (turned_reverse xs T)

turned_numbers : (es : List EdgeId) (T : List ℕ) → turned es T ≡ turn (numbers es) T
turned_numbers [] T = refl
turned_numbers (x ∷ xs) T = turned_numbers xs (x.0 ∷ T)

turn-append : (xs ys zs : List ℕ) → turn xs (ys ++ zs) ≡ turn xs ys ++ zs
turn-append [] ys zs = refl
turn-append (x ∷ xs) ys zs = turn-append xs (x ∷ ys) zs

abbrev pub entry : List ℕ → ℕ → ℕ
entry xs v = get_or xs v 0

-- ---- the two directions
abbrev pub order_of : SidesValue → Bool → ℕ → List ℕ
order_of g true v = outs g v
order_of g false v = turn (outs g v) []

abbrev pub side_of : SidesValue → Bool → ℕ → ℕ → Type 0
side_of g true u v = LeftOf g (vertex u) (vertex v)
side_of g false u v = LeftOf g (vertex v) (vertex u)

pub stacked : (g : SidesValue) (b : Bool) (v : ℕ) (old es new : List EdgeId) → numbers es ≡ outs g v → new ≡ old ++ cond b (reverse es) es → turned new [] ≡ order_of g b v ++ turned old []
stacked g true v old es new q h =
    ap (λ z. turned z []) h ∙ turned-append old (reverse es) [] ∙ turned_reverse es (turned old []) ∙ ap (λ z. z ++ turned old []) q
stacked g false v old es new q h =
    ap (λ z. turned z []) h ∙ turned-append old es [] ∙ turned_numbers es (turned old []) ∙ turn-append (numbers es) [] (turned old []) ∙ ap (λ z. turn z [] ++ turned old []) q

pub ordered_of : {g : SidesValue} → IsSides g → (b : Bool) → IsOrdered g (order_of g b) (side_of g b)
ordered_of {g} S true = record { are = S.outs_are; branch = branches_right g S }
ordered_of {g} S false = record {
  are = λ v l. let o = S.outs_are v l in record {
    only = λ x i. elim (in_turn (outs g v) [] i) [ inl a ↦ o.only x a | inr b ↦ absurd (not_in_nil b) ];
    all = λ x p. turn_left (outs g v) [] (o.all x p);
    once = turn_once (outs g v) [] o.once tt (λ x i j. not_in_nil j);
  };
  branch = branches_left g S;
}

-- ---- the loop
-- the traversal with the stack and the lists of the code
pub record IsGoing (g : SidesValue) (b : Bool) (stack : List EdgeId) (waiting numbered : List ℕ) (next : ℕ) : Type 0 where
  pub done : List ℕ
  pub count : length done ≡ next
  pub waiting_size : length waiting ≡ g.vertices
  pub numbered_size : length numbered ≡ g.vertices
  pub state : IsTraversal g (order_of g b) (side_of g b) done (turned stack []) (entry waiting) (entry numbered)

-- the edge on top of the stack
pub record Top (g : SidesValue) (e : EdgeId) (waiting : List ℕ) (next : ℕ) : Type 0 where
  pub is_arc : e.0 < edge_count g
  pub head_in : edge_head g e.0 < g.vertices
  pub some : 1 ≤ get_or waiting (edge_head g e.0) 0
  pub next_in : next ≤ g.vertices

-- the head of the edge on top
pub record AtHead (g : SidesValue) (waiting numbered : List ℕ) (k : ℕ) : Type 0 where
  pub in_graph : k < g.vertices
  pub in_waiting : k < length waiting
  pub in_numbered : k < length numbered

-- what a table says of the edges that a vertex waits for
pub record Read (waiting : List ℕ) (k r : ℕ) : Type 0 where
  pub positive : 1 ≤ r
  pub left : r - 1 + 1 ≡ get_or waiting k 0

pub no_items : (xs : List EdgeId) → length xs ≡ 0 → xs ≡ []
no_items [] q = refl
no_items (x ∷ xs) q = let h : suc (length xs) ≡ 0 = q in absurd (omega arith)

module _ {g : SidesValue} (S : IsSides g) {b : Bool} where
  -- the source has its number, and the edges out of it wait
  pub going_start : (es stack : List EdgeId) (waiting numbered : List ℕ) → numbers es ≡ outs g g.source → stack ≡ [] ++ cond b (reverse es) es →
      length waiting ≡ g.vertices → ((v : ℕ) → v < g.vertices → get_or waiting v 0 ≡ length (ins g v)) → numbered ≡ replicate g.vertices 0 → IsGoing g b stack waiting numbered 1
  going_start es stack waiting numbered q h s each r = record {
    done = g.source ∷ [];
    count = refl;
    waiting_size = s;
    numbered_size = ap (λ z. length z) r ∙ length-replicate g.vertices 0;
    state = subst (λ z. IsTraversal g (order_of g b) (side_of g b) (g.source ∷ []) z (entry waiting) (entry numbered))
        (sym (stacked g b g.source [] es stack q h ∙ append_nil (order_of g b g.source)))
        (start S (ordered_of S b) (entry waiting) (entry numbered) each (ap (λ z. get_or z g.source 0) r ∙ get_or-replicate g.vertices g.source 0 0 S.source_in));
  }
    where
      append_nil : (xs : List ℕ) → xs ++ [] ≡ xs
      append_nil [] = refl
      append_nil (x ∷ xs) = ap (λ z. x ∷ z) (append_nil xs)

  module _ {stack : List EdgeId} (rest : List EdgeId) (e : EdgeId) {waiting numbered : List ℕ} {next : ℕ} (R : IsGoing g b stack waiting numbered next) (popped : stack ≡ rest ++ e ∷ []) where
    state : IsTraversal g (order_of g b) (side_of g b) R.done (e.0 ∷ turned rest []) (entry waiting) (entry numbered)
    state = subst (λ z. IsTraversal g (order_of g b) (side_of g b) R.done z (entry waiting) (entry numbered)) (ap (λ z. turned z []) popped ∙ turned-append rest (e ∷ []) []) R.state

    pub top : Top g e waiting next
    top = record {
      is_arc = (state.waits e.0 (here refl)).0;
      head_in = S.head_in e.0 (state.waits e.0 (here refl)).0;
      some = some S (ordered_of S b) state;
      next_in = subst (λ z. z ≤ g.vertices) R.count (length-le_from_below g.vertices R.done R.state.once R.state.within);
    }

    pub at_head : {k : ℕ} → k ≡ edge_head g e.0 → AtHead g waiting numbered k
    at_head {k} q =
        let h : edge_head g e.0 < g.vertices = top.head_in in
        let s : length waiting ≡ g.vertices = R.waiting_size in
        let s' : length numbered ≡ g.vertices = R.numbered_size in
        record { in_graph = omega arith; in_waiting = omega arith; in_numbered = omega arith }

    pub read : {k r : ℕ} → k ≡ edge_head g e.0 → r ≡ get_or waiting k r → Read waiting k r
    read {k} {r} q h =
        let v : r ≡ get_or waiting k 0 = h ∙ get_or_default waiting k r 0 (at_head q).in_waiting in
        let p : 1 ≤ get_or waiting k 0 = subst (λ z. 1 ≤ get_or waiting z 0) (sym q) top.some in
        record { positive = omega arith; left = omega arith }

    -- what was put at the head is read there
    set_at_head : {k : ℕ} (xs : List ℕ) (x : ℕ) → length xs ≡ g.vertices → k ≡ edge_head g e.0 → get_or (set xs k x) (edge_head g e.0) 0 ≡ x
    set_at_head {k} xs x s q = subst (λ z. get_or (set xs k x) z 0 ≡ x) q (get_or-set_same xs k x 0 (let h : edge_head g e.0 < g.vertices = top.head_in in omega arith))

    -- the edge's head has other edges to wait for
    pub going_pass : {k left : ℕ} → k ≡ edge_head g e.0 → left + 1 ≡ get_or waiting k 0 → left ≢ 0 → IsGoing g b rest (set waiting k left) numbered next
    going_pass {k} {left} q l n =
        let same : get_or (set waiting k left) (edge_head g e.0) 0 ≡ left = set_at_head waiting left R.waiting_size q in
        record {
          done = R.done;
          count = R.count;
          waiting_size = length-set waiting k left ∙ R.waiting_size;
          numbered_size = R.numbered_size;
          state = pass S (ordered_of S b) state (entry (set waiting k left))
              (ap (λ z. z + 1) same ∙ l ∙ ap (λ z. get_or waiting z 0) q)
              (omega (arith, n))
              (λ v m. get_or-set_other waiting k v left 0 (λ z. m (z ∙ q)));
        }

    -- the head gets its number, and the edges out of it wait
    pub going_number : {k left : ℕ} → k ≡ edge_head g e.0 → left + 1 ≡ get_or waiting k 0 → left ≡ 0 →
        (es : List EdgeId) {new : List EdgeId} → numbers es ≡ outs g k → new ≡ rest ++ cond b (reverse es) es → IsGoing g b new (set waiting k left) (set numbered k next) (next + 1)
    going_number {k} {left} q l z es {new} o h =
        let same : get_or (set waiting k left) (edge_head g e.0) 0 ≡ left = set_at_head waiting left R.waiting_size q in
        let same' : get_or (set numbered k next) (edge_head g e.0) 0 ≡ next = set_at_head numbered next R.numbered_size q in
        let c : length R.done ≡ next = R.count in
        record {
          done = edge_head g e.0 ∷ R.done;
          count = omega arith;
          waiting_size = length-set waiting k left ∙ R.waiting_size;
          numbered_size = length-set numbered k next ∙ R.numbered_size;
          state = subst (λ t. IsTraversal g (order_of g b) (side_of g b) (edge_head g e.0 ∷ R.done) t (entry (set waiting k left)) (entry (set numbered k next)))
              (sym (stacked g b (edge_head g e.0) rest es new (o ∙ ap (outs g) q) h))
              (number S (ordered_of S b) state (entry (set waiting k left)) (entry (set numbered k next))
              (ap (λ x. get_or waiting x 0) (sym q) ∙ sym l ∙ ap (λ x. x + 1) z)
              (same ∙ z)
              (λ v m. get_or-set_other waiting k v left 0 (λ x. m (x ∙ q)))
              (same' ∙ sym R.count)
              (λ v m. get_or-set_other numbered k v next 0 (λ x. m (x ∙ q))));
        }

    -- one edge less is untaken
    pub untaken_falls : {k : ℕ} (left : ℕ) → k ≡ edge_head g e.0 → left + 1 ≡ get_or waiting k 0 → sum_by (λ z. z) (set waiting k left) < sum_by (λ z. z) waiting
    untaken_falls {k} left q l =
        let h : sum_by (λ z. z) (set waiting k left) + get_or waiting k 0 ≡ sum_by (λ z. z) waiting + left = sum_by-set (λ z. z) waiting k left 0 (at_head q).in_waiting in
        omega arith

-- when no edge waits, the numbers are those meant
pub numbers_end : {g : SidesValue} → IsSides g → (b : Bool) {D : List ℕ} {w : ℕ → ℕ} (numbered : List ℕ) → length numbered ≡ g.vertices → IsTraversal g (order_of g b) (side_of g b) D [] w (entry numbered) → AreSideNumbers b g numbered
numbers_end {g} S true numbered size R =
    let K : IsKept g (side_of g true) (entry numbered) = kept S (ordered_of S true) R in
    record { size = size; each = x_by_order g S (entry numbered) K.below (λ u v i j h. K.grows u v i j (λ p. h.0 (ap vertex p)) h.1) }
numbers_end {g} S false numbered size R =
    let K : IsKept g (side_of g false) (entry numbered) = kept S (ordered_of S false) R in
    record { size = size; each = y_by_order g S (entry numbered) K.below (λ u v i j h. K.grows u v i j (λ p. h.0 (ap vertex p)) h.1) }

pub going_end : {g : SidesValue} → IsSides g → (b : Bool) {stack : List EdgeId} {waiting numbered : List ℕ} {next : ℕ} → length stack ≡ 0 → IsGoing g b stack waiting numbered next → AreSideNumbers b g numbered
going_end {g} S b {stack} {waiting} {numbered} {next} q R =
    numbers_end S b numbered R.numbered_size
    (subst (λ z. IsTraversal g (order_of g b) (side_of g b) R.done (turned z []) (entry waiting) (entry numbered)) (no_items stack q) R.state)
