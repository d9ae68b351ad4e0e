-- The traversal of the reduced graph, as the code goes through it on the sides of the graph itself.
-- Letters: x sides of a graph, r sides of its reduced graph, ds the dummy of each edge, n how many vertices the reduced graph
-- has, e edge of the graph, k vertex or dummy.
--   IsRunning        the traversal of r, with the tables of the code: what the vertices of x wait for, and the numbers
--   IsGoing          so it is at each turn of the loop: edges of x alone wait
--   IsPassed         so it is when the dummy of the edge on top has its number
--   split_start, popped_is, split_dummy, split_pass, split_number, split_end    the steps of the code
use Rattle.std.proofs.Common.{ℕ, Bool, true, false, cond, eqb, List, [], ◌∷◌, ◌++◌, length, reverse, get_or, slice_get, Option, option_map, Some, None, ◌≡◌, ◌≢◌, ◌<◌, ◌≤◌, ◌+◌, ◌-◌, inl, inr, refl, sym, ap, ◌∙◌, subst, arith}
use Rattle.std.proofs.Math.ListN.{set, replicate}
use Rattle.std.proofs.lemmas.Bool.{cases_eq, eq-eqb, ne_eqb, cond-true, cond-false}
use Rattle.std.proofs.lemmas.List.{get_or-set_same, get_or-set_other, get_or-replicate, get_or_default, length-map, length-set, length-replicate}
use Rattle.std.proofs.lemmas.List.Sums.{sum_by-set}
use Rattle.std.specs.List.{sum_by}
use Rattle.st_ids.specs.declared.ids.EdgeId.{EdgeId}
use Rattle.st_ids.specs.declared.ids.VertexId.{VertexId}
use Rattle.st_ids.specs.EdgeNumbers.{numbers}
use Rattle.st_ids.specs.Lists.{In, here, there, NoRepeat, Lists}
use Rattle.st_ids.proofs.Public.{in_append, length-le_from_below, not_in_nil, turn}
use Rattle.st_order.specs.Labels.{AreSideNumbers}
use Rattle.st_order.specs.Orders.{Counts}
use Rattle.st_order.proofs.Public.{IsTraversal, entry, no_items, number, numbers_end, order_of, ordered_of, pass, side_of, some, stacked, start, turned, turned-append}
use Rattle.st_reduce.specs.Marks.{dummy_numbers}
use Rattle.st_reduce.specs.Reduced.{dummy_at}
use Rattle.st_sides.specs.Sides.{SidesValue, IsSides, edge_count, edge_head, edge_tail, ins, outs}
use Rattle.draw_dom.specs.Splitting.{IsSplitSides}
use Rattle.draw_dom.proofs.BuildLemmas.{dummy_is}

-- ---- lists of one
list_of_one : (P : ℕ → Type 0) (xs : List ℕ) (a : ℕ) → Lists xs P → P a → ((b : ℕ) → P b → b ≡ a) → xs ≡ a ∷ []
list_of_one P xs a L p only = go xs (L.all a p) L.once (λ b i. only b (L.only b i))
  where
    go : (ys : List ℕ) → In a ys → NoRepeat ys → ((b : ℕ) → In b ys → b ≡ a) → ys ≡ a ∷ []
    go [] i o f = absurd (not_in_nil i)
    go (y ∷ []) i o f = ap (λ z. z ∷ []) (f y (here refl))
    go (y ∷ z ∷ zs) i o f = absurd (o.0 (here (f y (here refl) ∙ sym (f z (there (here refl))))))

count_of_one : (P : ℕ → Type 0) (m a : ℕ) → Counts P m → P a → ((b : ℕ) → P b → b ≡ a) → m ≡ 1
count_of_one P m a C p only = sym C.is ∙ ap (λ z. length z) (list_of_one P C.list a C.are p only)

-- ---- a table with one entry changed
abbrev changed : (ℕ → ℕ) → ℕ → ℕ → ℕ → ℕ
changed w k a v = cond (eqb v k) a (w v)

changed-same : (w : ℕ → ℕ) (k a v : ℕ) → v ≡ k → changed w k a v ≡ a
changed-same w k a v q = cond-true (eqb v k) a (w v) (eq-eqb v k q)

changed-other : (w : ℕ → ℕ) (k a v : ℕ) → v ≢ k → changed w k a v ≡ w v
changed-other w k a v n = cond-false (eqb v k) a (w v) (ne_eqb v k n)

-- ---- the loop
-- the traversal of r: T waits, and the tables of the code say what the vertices of x wait for and which numbers there are
pub record IsRunning (x r : SidesValue) (b : Bool) (T : List ℕ) (waiting numbered : List ℕ) (next : ℕ) : Type 0 where
  pub done : List ℕ
  pub count : length done ≡ next
  pub waiting_size : length waiting ≡ x.vertices
  pub numbered_size : length numbered ≡ r.vertices
  pub waits_for : ℕ → ℕ
  pub same : (v : ℕ) → v < x.vertices → waits_for v ≡ get_or waiting v 0
  pub state : IsTraversal r (order_of r b) (side_of r b) done T waits_for (entry numbered)

-- at each turn of the loop edges of x alone wait
pub record IsGoing (x r : SidesValue) (b : Bool) (stack : List EdgeId) (waiting numbered : List ℕ) (next : ℕ) : Type 0 where
  pub running : IsRunning x r b (turned stack []) waiting numbered next
  pub old : (a : ℕ) → In a (turned stack []) → a < edge_count x

-- the edge was popped, and its dummy, if any, has its number; the second part of the edge is on top
pub record IsPassed (x r : SidesValue) (b : Bool) (rest : List EdgeId) (last : ℕ) (waiting numbered : List ℕ) (next : ℕ) : Type 0 where
  pub running : IsRunning x r b (last ∷ turned rest []) waiting numbered next
  pub old : (a : ℕ) → In a (turned rest []) → a < edge_count x

-- the edge on top of the stack
pub record IsTop (x : SidesValue) (ds : List (Option ℕ)) (e : ℕ) (numbered : List ℕ) (next n : ℕ) : Type 0 where
  pub is_arc : e < edge_count x
  pub next_in : next ≤ n
  pub dummy_in : (w : ℕ) → dummy_at ds e ≡ Some w → w < length numbered

-- the head of the edge on top
pub record IsAtHead (x : SidesValue) (waiting numbered : List ℕ) (k next n : ℕ) : Type 0 where
  pub in_graph : k < x.vertices
  pub in_waiting : k < length waiting
  pub in_numbered : k < length numbered
  pub some : 1 ≤ get_or waiting k 0
  pub next_in : next ≤ n

-- what a table says of the edges that a vertex waits for
pub record IsRead (waiting : List ℕ) (k a : ℕ) : Type 0 where
  pub positive : 1 ≤ a
  pub left : a - 1 + 1 ≡ get_or waiting k 0

pub read_at : {x : SidesValue} {waiting numbered : List ℕ} {k a next n : ℕ} → IsAtHead x waiting numbered k next n → a ≡ get_or waiting k a → IsRead waiting k a
read_at {x} {waiting} {numbered} {k} {a} H h =
    let v : a ≡ get_or waiting k 0 = h ∙ get_or_default waiting k a 0 H.in_waiting in
    let p : 1 ≤ get_or waiting k 0 = H.some in
    record { positive = omega arith; left = omega arith }

-- one edge less is untaken
pub waits_less : {x : SidesValue} {waiting numbered : List ℕ} {k next n : ℕ} → IsAtHead x waiting numbered k next n → (left : ℕ) → left + 1 ≡ get_or waiting k 0 → sum_by (λ z. z) (set waiting k left) < sum_by (λ z. z) waiting
waits_less {x} {waiting} {numbered} {k} H left l =
    let h : sum_by (λ z. z) (set waiting k left) + get_or waiting k 0 ≡ sum_by (λ z. z) waiting + left = sum_by-set (λ z. z) waiting k left 0 H.in_waiting in
    omega arith

module _ {x r : SidesValue} {ds : List (Option ℕ)} {n : ℕ} (X : IsSides x) (P : IsSplitSides x ds n r) where
  outs_old : (b : Bool) (v : ℕ) → v < x.vertices → order_of r b v ≡ order_of x b v
  outs_old true v l = P.are.outs_are v l
  outs_old false v l = ap (λ es. turn es []) (P.are.outs_are v l)

  edge_old : (b : Bool) (v a : ℕ) → v < x.vertices → In a (order_of r b v) → a < edge_count x
  edge_old b v a l i = (((ordered_of X b).are v l).only a (subst (In a) (outs_old b v l) i)).0

  source_old : r.source < x.vertices
  source_old = subst (λ z. z < x.vertices) (sym P.are.source) X.source_in

module _ {x r : SidesValue} {ds : List (Option ℕ)} {n : ℕ} (X : IsSides x) (P : IsSplitSides x ds n r) {b : Bool} where
  -- the source has its number, and the edges out of it wait
  pub split_start : (es stack : List EdgeId) (waiting numbered : List ℕ) → numbers es ≡ outs x x.source → stack ≡ [] ++ cond b (reverse es) es →
      length waiting ≡ x.vertices → ((v : ℕ) → v < x.vertices → get_or waiting v 0 ≡ length (ins x v)) → numbered ≡ replicate n 0 → IsGoing x r b stack waiting numbered 1
  split_start es stack waiting numbered q h s each z = record {
    running = record {
      done = r.source ∷ [];
      count = refl;
      waiting_size = s;
      numbered_size = ap (λ y. length y) z ∙ length-replicate n 0 ∙ sym P.vertices;
      waits_for = λ v. length (ins r v);
      same = λ v l. ap (λ y. length y) (P.are.ins_are v l) ∙ length-map (ins x v) P.last ∙ sym (each v l);
      state = subst (λ t. IsTraversal r (order_of r b) (side_of r b) (r.source ∷ []) t (λ v. length (ins r v)) (entry numbered)) (sym is)
          (start P.sides (ordered_of P.sides b) (λ v. length (ins r v)) (entry numbered) (λ v l. refl)
          (ap (λ y. get_or y r.source 0) z ∙ get_or-replicate n r.source 0 0 (let m : r.vertices ≡ n = P.vertices in let i : r.source < r.vertices = P.sides.source_in in omega arith)));
    };
    old = λ a i. edge_old X P b r.source a (source_old X P) (subst (In a) is i);
  }
    where
      append_nil : (xs : List ℕ) → xs ++ [] ≡ xs
      append_nil [] = refl
      append_nil (y ∷ ys) = ap (λ u. y ∷ u) (append_nil ys)

      at_source : numbers es ≡ outs r r.source
      at_source = q ∙ ap (outs x) (sym P.are.source) ∙ sym (P.are.outs_are r.source (source_old X P))

      is : turned stack [] ≡ order_of r b r.source
      is = stacked r b r.source [] es stack at_source h ∙ append_nil (order_of r b r.source)

  -- when no edge waits, the numbers are those meant
  pub split_end : {stack : List EdgeId} {waiting numbered : List ℕ} {next : ℕ} → length stack ≡ 0 → IsGoing x r b stack waiting numbered next → AreSideNumbers b r numbered
  split_end {stack} {waiting} {numbered} q G = numbers_end P.sides b numbered G.running.numbered_size
      (subst (λ z. IsTraversal r (order_of r b) (side_of r b) G.running.done (turned z []) G.running.waits_for (entry numbered)) (no_items stack q) G.running.state)

  next_in : {T : List ℕ} {waiting numbered : List ℕ} {next : ℕ} → IsRunning x r b T waiting numbered next → next ≤ n
  next_in {T} {waiting} {numbered} {next} R =
      let c : length R.done ≡ next = R.count in
      let l : length R.done ≤ r.vertices = length-le_from_below r.vertices R.done R.state.once R.state.within in
      let v : r.vertices ≡ n = P.vertices in
      omega arith

  module _ {stack : List EdgeId} (rest : List EdgeId) (e : EdgeId) {waiting numbered : List ℕ} {next : ℕ} (G : IsGoing x r b stack waiting numbered next) (popped : stack ≡ rest ++ e ∷ []) where
    is : turned stack [] ≡ e.0 ∷ turned rest []
    is = ap (λ z. turned z []) popped ∙ turned-append rest (e ∷ []) []

    is_arc : e.0 < edge_count x
    is_arc = G.old e.0 (subst (In e.0) (sym is) (here refl))

    old : (a : ℕ) → In a (turned rest []) → a < edge_count x
    old a i = G.old a (subst (In a) (sym is) (there i))

    state : IsTraversal r (order_of r b) (side_of r b) G.running.done (e.0 ∷ turned rest []) G.running.waits_for (entry numbered)
    state = subst (λ z. IsTraversal r (order_of r b) (side_of r b) G.running.done z G.running.waits_for (entry numbered)) is G.running.state

    pub split_top : IsTop x ds e.0 numbered next n
    split_top = record {
      is_arc = is_arc;
      next_in = next_in G.running;
      dummy_in = λ w q. (let l : w < r.vertices = (P.are.new_vertex e.0 w is_arc q).1 in let s : length numbered ≡ r.vertices = G.running.numbered_size in omega arith);
    }

    -- an edge without a dummy is one edge of the reduced graph
    whole : dummy_at ds e.0 ≡ None → IsPassed x r b rest (P.last e.0) waiting numbered next
    whole q = record {
      running = record {
        done = G.running.done;
        count = G.running.count;
        waiting_size = G.running.waiting_size;
        numbered_size = G.running.numbered_size;
        waits_for = G.running.waits_for;
        same = G.running.same;
        state = subst (λ z. IsTraversal r (order_of r b) (side_of r b) G.running.done (z ∷ turned rest []) G.running.waits_for (entry numbered)) (sym (P.are.plain e.0 is_arc q)) state;
      };
      old = old;
    }

    -- the dummy gets its number, and the second part of the edge is on top
    module _ (k : ℕ) (q : dummy_at ds e.0 ≡ Some k) where
      new : x.vertices ≤ k
      new = (P.are.new_vertex e.0 k is_arc q).0

      there_in : k < r.vertices
      there_in = (P.are.new_vertex e.0 k is_arc q).1

      head_is : edge_head r e.0 ≡ k
      head_is = P.are.into_dummy e.0 k is_arc q

      in_r : e.0 < edge_count r
      in_r = (let m : edge_count x ≤ edge_count r = P.are.edges_in in let l = is_arc in omega arith)

      not_old : (v : ℕ) → v < x.vertices → v ≡ k → ⊥
      not_old v l p = (let m : x.vertices ≤ k = new in omega arith)

      -- no other edge leads to the dummy
      one_in : (d : ℕ) → d < edge_count r → edge_head r d ≡ k → d ≡ e.0
      one_in d l p = elim (P.are.all d l) [
        | inl j ↦ by (dummy_at ds d) refl j
        | inr c ↦ absurd (not_old (edge_head x c.e) (X.head_in c.e c.there) (sym (P.are.head_is c.e c.there) ∙ ap (edge_head r) (sym c.is) ∙ p))
      ]
        where
          by : (o : Option ℕ) → dummy_at ds d ≡ o → d < edge_count x → d ≡ e.0
          by None m j = absurd (not_old (edge_head x d) (X.head_in d j) (sym (P.are.head_is d j) ∙ ap (edge_head r) (P.are.plain d j m) ∙ p))
          by (Some w) m j = P.are.one_edge d e.0 k j is_arc (m ∙ ap Some (sym (P.are.into_dummy d w j m) ∙ p)) q

      -- and one edge leads out of it
      one_out : (d : ℕ) → (d < edge_count r) × (edge_tail r d ≡ k) → d ≡ P.last e.0
      one_out d p = elim (P.are.all d p.0) [
        | inl j ↦ absurd (not_old (edge_tail x d) (X.tail_in d j) (sym (P.are.tail_is d j) ∙ p.1))
        | inr c ↦ c.is ∙ ap P.last (P.are.one_edge c.e e.0 k c.there is_arc (c.split ∙ ap Some (sym (P.are.out_of_dummy c.e c.w c.there c.split) ∙ ap (edge_tail r) (sym c.is) ∙ p.1)) q)
      ]

      outs_one : order_of r b k ≡ P.last e.0 ∷ []
      outs_one = list_of_one (λ d. (d < edge_count r) × (edge_tail r d ≡ k)) (order_of r b k) (P.last e.0) ((ordered_of P.sides b).are k there_in)
          (P.are.last_in e.0 is_arc, P.are.out_of_dummy e.0 k is_arc q) one_out

      waits_one : G.running.waits_for (edge_head r e.0) ≡ 1
      waits_one = count_of_one _ (G.running.waits_for (edge_head r e.0)) e.0 (state.counts (edge_head r e.0) (P.sides.head_in e.0 in_r))
          (in_r, refl, inl (here refl)) (λ d p. one_in d p.0 (p.1 ∙ head_is))

      split : IsPassed x r b rest (P.last e.0) waiting (set numbered k next) (next + 1)
      split = record {
        running = record {
          done = edge_head r e.0 ∷ G.running.done;
          count = (let c : length G.running.done ≡ next = G.running.count in omega arith);
          waiting_size = G.running.waiting_size;
          numbered_size = length-set numbered k next ∙ G.running.numbered_size;
          waits_for = changed G.running.waits_for k 0;
          same = λ v l. changed-other G.running.waits_for k 0 v (not_old v l) ∙ G.running.same v l;
          state = subst (λ z. IsTraversal r (order_of r b) (side_of r b) (edge_head r e.0 ∷ G.running.done) z (changed G.running.waits_for k 0) (entry (set numbered k next)))
              (ap (λ z. order_of r b z ++ turned rest []) head_is ∙ ap (λ z. z ++ turned rest []) outs_one)
              (number P.sides (ordered_of P.sides b) state (changed G.running.waits_for k 0) (entry (set numbered k next)) waits_one
              (changed-same G.running.waits_for k 0 (edge_head r e.0) head_is)
              (λ v m. changed-other G.running.waits_for k 0 v (λ p. m (p ∙ sym head_is)))
              (subst (λ z. get_or (set numbered k next) z 0 ≡ next) (sym head_is) (get_or-set_same numbered k next 0 (let s : length numbered ≡ r.vertices = G.running.numbered_size in let l : k < r.vertices = there_in in omega arith))
              ∙ sym G.running.count)
              (λ v m. get_or-set_other numbered k v next 0 (λ p. m (p ∙ sym head_is))));
        };
        old = old;
      }

    -- both together, as the code does it
    pub split_dummy : (ids : List (Option VertexId)) → ds ≡ dummy_numbers ids → (o : Option VertexId) (numbered' : List ℕ) (next' : ℕ) → slice_get ids e.0 ≡ Some o →
        (option_map (λ (v : VertexId). v.0) o ≡ None → (next' ≡ next) × (numbered' ≡ numbered)) →
        ((w : ℕ) → option_map (λ (v : VertexId). v.0) o ≡ Some w → (next' ≡ next + 1) × (numbered' ≡ set numbered w next)) → IsPassed x r b rest (P.last e.0) waiting numbered' next'
    split_dummy ids same o numbered' next' got none some = go (option_map (λ (v : VertexId). v.0) o) refl
      where
        is_dummy : dummy_at ds e.0 ≡ option_map (λ (v : VertexId). v.0) o
        is_dummy = ap (λ z. dummy_at z e.0) same ∙ dummy_is ids e.0 o got

        go : (d : Option ℕ) → option_map (λ (v : VertexId). v.0) o ≡ d → IsPassed x r b rest (P.last e.0) waiting numbered' next'
        go None q = (let p = none q in subst (λ z. IsPassed x r b rest (P.last e.0) waiting z next') (sym p.1) (subst (λ z. IsPassed x r b rest (P.last e.0) waiting numbered z) (sym p.0) (whole (is_dummy ∙ q))))
        go (Some w) q = (let p = some w q in subst (λ z. IsPassed x r b rest (P.last e.0) waiting z next') (sym p.1) (subst (λ z. IsPassed x r b rest (P.last e.0) waiting (set numbered w next) z) (sym p.0) (split w (is_dummy ∙ q))))

  -- ---- the second part of the edge
  module _ (rest : List EdgeId) (e : ℕ) {waiting numbered : List ℕ} {next k : ℕ} (l : e < edge_count x) (G : IsPassed x r b rest (P.last e) waiting numbered next) (at : k ≡ edge_head x e) where
    abbrev R : IsRunning x r b (P.last e ∷ turned rest []) waiting numbered next
    R = G.running

    top_is : edge_head r (P.last e) ≡ k
    top_is = P.are.head_is e l ∙ sym at

    inside : k < x.vertices
    inside = subst (λ z. z < x.vertices) (sym at) (X.head_in e l)

    waits_is : R.waits_for (edge_head r (P.last e)) ≡ get_or waiting k 0
    waits_is = ap R.waits_for top_is ∙ R.same k inside

    pub split_head : IsAtHead x waiting numbered k next n
    split_head =
        let i : k < x.vertices = inside in
        let s : length waiting ≡ x.vertices = R.waiting_size in
        let t : length numbered ≡ r.vertices = R.numbered_size in
        let m : x.vertices ≤ r.vertices = P.are.vertices in
        record {
          in_graph = i;
          in_waiting = omega arith;
          in_numbered = omega arith;
          some = subst (λ z. 1 ≤ z) waits_is (some P.sides (ordered_of P.sides b) R.state);
          next_in = next_in R;
        }

    waits_then : (left : ℕ) (v : ℕ) → v < x.vertices → changed R.waits_for k left v ≡ get_or (set waiting k left) v 0
    waits_then left v i = elim (cases_eq v k) [
      | inl q ↦ changed-same R.waits_for k left v q ∙ sym (subst (λ z. get_or (set waiting k left) z 0 ≡ left) (sym q) (get_or-set_same waiting k left 0 split_head.in_waiting))
      | inr m ↦ changed-other R.waits_for k left v m ∙ R.same v i ∙ sym (get_or-set_other waiting k v left 0 m)
    ]

    -- the head has other edges to wait for
    pub split_pass : {left : ℕ} → left + 1 ≡ get_or waiting k 0 → left ≢ 0 → IsGoing x r b rest (set waiting k left) numbered next
    split_pass {left} q m =
        let here_is : changed R.waits_for k left (edge_head r (P.last e)) ≡ left = changed-same R.waits_for k left (edge_head r (P.last e)) top_is in
        record {
          running = record {
            done = R.done;
            count = R.count;
            waiting_size = length-set waiting k left ∙ R.waiting_size;
            numbered_size = R.numbered_size;
            waits_for = changed R.waits_for k left;
            same = waits_then left;
            state = pass P.sides (ordered_of P.sides b) R.state (changed R.waits_for k left) (ap (λ z. z + 1) here_is ∙ q ∙ sym waits_is) (omega (arith, m))
                (λ v d. changed-other R.waits_for k left v (λ p. d (p ∙ sym top_is)));
          };
          old = G.old;
        }

    -- the head gets its number, and the edges out of it wait
    pub split_number : {left : ℕ} → left + 1 ≡ get_or waiting k 0 → left ≡ 0 → (es : List EdgeId) {new : List EdgeId} → numbers es ≡ outs x k → new ≡ rest ++ cond b (reverse es) es →
        IsGoing x r b new (set waiting k left) (set numbered k next) (next + 1)
    split_number {left} q z es {new} o h = record {
      running = record {
        done = edge_head r (P.last e) ∷ R.done;
        count = (let c : length R.done ≡ next = R.count in omega arith);
        waiting_size = length-set waiting k left ∙ R.waiting_size;
        numbered_size = length-set numbered k next ∙ R.numbered_size;
        waits_for = changed R.waits_for k left;
        same = waits_then left;
        state = subst (λ t. IsTraversal r (order_of r b) (side_of r b) (edge_head r (P.last e) ∷ R.done) t (changed R.waits_for k left) (entry (set numbered k next)))
            (ap (λ v. order_of r b v ++ turned rest []) top_is ∙ sym is)
            (number P.sides (ordered_of P.sides b) R.state (changed R.waits_for k left) (entry (set numbered k next))
            (waits_is ∙ sym q ∙ ap (λ y. y + 1) z)
            (changed-same R.waits_for k left (edge_head r (P.last e)) top_is ∙ z)
            (λ v d. changed-other R.waits_for k left v (λ p. d (p ∙ sym top_is)))
            (subst (λ y. get_or (set numbered k next) y 0 ≡ next) (sym top_is) (get_or-set_same numbered k next 0 split_head.in_numbered) ∙ sym R.count)
            (λ v d. get_or-set_other numbered k v next 0 (λ p. d (p ∙ sym top_is))));
      };
      old = λ a i. elim (in_append (order_of r b k) (subst (In a) is i)) [
        | inl j ↦ edge_old X P b k a inside j
        | inr j ↦ G.old a j
      ];
    }
      where
        is : turned new [] ≡ order_of r b k ++ turned rest []
        is = stacked r b k rest es new (o ∙ sym (P.are.outs_are k inside)) h
