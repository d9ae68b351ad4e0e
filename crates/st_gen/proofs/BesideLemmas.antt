-- What lies beside each edge and each vertex while the graph grows, by numbers: 0 is the outer face, and j the inner face
-- between ear j and what it covers of the right boundary.
--   RightEdge es u w        an edge from u to w on the right boundary: the last one out of u, and the last one into w
--   IsRow es row c          row is the right boundary of a graph of c vertices
--   IsBeside es row c ears  what lies left and right of each edge and each vertex
-- Letters: es edges, m how many they are, X the boundary up to an ear's beginning u, M what the ear covers, w its end, Y the
-- boundary beyond, c number of vertices, k vertices of the ear.
use Rattle.std.proofs.Common.{ℕ, suc, List, [], ◌∷◌, ◌++◌, length, get_or, ◌≡◌, ◌≢◌, ◌<◌, ◌≤◌, ◌+◌, ◌-◌, ◌*◌, ◌⊎◌, inl, inr, refl, sym, ap, ◌∙◌, subst, arith, append_assoc, length-append}
use Rattle.std.specs.Prelude.{map}
use Rattle.std.proofs.lemmas.Bool.{cases_eq, cases_lt}
use Rattle.std.proofs.lemmas.List.{append-nil, get_or_append_left, get_or-append_right}
use Rattle.std.proofs.lemmas.Nat.{mul-le}
use Rattle.st_ids.specs.Graph.{tail_of, head_of}
use Rattle.st_ids.specs.Lists.{In, here, there, NoRepeat, Linked}
use Rattle.st_ids.proofs.Public.{not_in_nil, In-cases, in_left, in_right, in_append, in_subst, in_dec, in_map}
use Rattle.st_input.specs.Orders.{file_outs, file_ins}
use Rattle.st_gen.specs.Made.{range, ear_edges}
use Rattle.st_gen.proofs.Ears.{length-ear_edges}
use Rattle.st_gen.proofs.EarLists.{last_of, last_of-append, in_mapped, once_right, once_apart, once_swap, linked_cut, linked_join, linked_to, linked_from, next_of, prev_of}
use Rattle.st_gen.proofs.DefaultOrders.{outs_once, ins_once, outs_only, ins_only, outs_all, ins_all, file_outs-append, file_ins-append, range_only, range_all, range_once, ear_outs_none, ear_ins_none, EarEdge, ear_linked, linked_ranks, ear_rises}
use Rattle.st_gen.proofs.FanLemmas.{Fan, Fan-append, Fan-same, Fan-last}

-- an edge that is the last one out of u and the last one into w
pub record RightEdge (es : List (ℕ × ℕ)) (u w : ℕ) : Type 0 where
  pub edge : ℕ
  pub before : List ℕ
  pub after : List ℕ
  pub last_out : file_outs u 0 es ≡ before ++ edge ∷ []
  pub first_in : file_ins w 0 es ≡ edge ∷ after

-- the right boundary of a graph whose vertices are the numbers below c
pub record IsRow (es : List (ℕ × ℕ)) (row : List ℕ) (c : ℕ) : Type 0 where
  pub once : NoRepeat row
  pub below : (v : ℕ) → In v row → v < c
  pub linked : Linked (RightEdge es) row
  pub none_out : (v : ℕ) → c ≤ v → file_outs v 0 es ≡ []
  pub none_in : (v : ℕ) → c ≤ v → file_ins v 0 es ≡ []

-- What lies left and right of each edge and of each vertex. Round a vertex, the edges out lead from its left to its right, and
-- the edges in, last one first, from its right to its left. The outer face lies right of the boundary, left of the source 0
-- and left of the sink 1. Each number up to that of the last ear lies beside some edge.
pub record IsBeside (es : List (ℕ × ℕ)) (row : List ℕ) (c ears : ℕ) : Type 0 where
  pub left : ℕ → ℕ
  pub right : ℕ → ℕ
  pub left_at : ℕ → ℕ
  pub right_at : ℕ → ℕ
  pub outs_fan : (v : ℕ) → v < c → Fan left right (file_outs v 0 es) (left_at v) (right_at v)
  pub ins_fan : (v : ℕ) → v < c → Fan right left (file_ins v 0 es) (right_at v) (left_at v)
  pub row_right : (v : ℕ) → In v row → right_at v ≡ 0
  pub few_left : (e : ℕ) → left e ≤ ears
  pub few_right : (e : ℕ) → right e ≤ ears
  pub each : (y : ℕ) → y ≤ ears → (e : ℕ) × (e < length es) × (left e ≡ y)
  pub source : left_at 0 ≡ 0
  pub sink : left_at 1 ≡ 0

-- Each vertex has a rank that grows along each edge, no edge enters the source 0 or leaves the sink 1, and each other vertex
-- has an edge in and an edge out.
pub record IsRising (es : List (ℕ × ℕ)) (c : ℕ) : Type 0 where
  pub rank : ℕ → ℕ
  pub rises : (e : ℕ) → e < length es → rank (tail_of es e) < rank (head_of es e)
  pub source : file_ins 0 0 es ≡ []
  pub sink : file_outs 1 0 es ≡ []
  pub some_in : (v : ℕ) → v < c → v ≢ 0 → (e : ℕ) × In e (file_ins v 0 es)
  pub some_out : (v : ℕ) → v < c → v ≢ 1 → (e : ℕ) × In e (file_outs v 0 es)

-- ---- one of two numbers
abbrev pub pick : {A B : Type 0} → A ⊎ B → ℕ → ℕ → ℕ
pick (inl a) x y = x
pick (inr b) x y = y

pick-first : {A B : Type 0} (d : A ⊎ B) (x y : ℕ) → (B → ⊥) → pick d x y ≡ x
pick-first (inl a) x y n = refl
pick-first (inr b) x y n = absurd (n b)

pick-second : {A B : Type 0} (d : A ⊎ B) (x y : ℕ) → (A → ⊥) → pick d x y ≡ y
pick-second (inl a) x y n = absurd (n a)
pick-second (inr b) x y n = refl

pick-le : {A B : Type 0} (d : A ⊎ B) (x y n : ℕ) → x ≤ n → y ≤ n → pick d x y ≤ n
pick-le (inl a) x y n l m = l
pick-le (inr b) x y n l m = m

fan_to : (f g : ℕ → ℕ) (es' es : List ℕ) (x' x y' y : ℕ) → es' ≡ es → x' ≡ x → y' ≡ y → Fan f g es x y → Fan f g es' x' y'
fan_to f g es' es x' x y' y p q r h =
    subst (λ z. Fan f g z x' y') (sym p) (subst (λ z. Fan f g es z y') (sym q) (subst (λ z. Fan f g es x z) (sym r) h))

-- ---- an edge of the boundary
edge_out : (es : List (ℕ × ℕ)) (u w : ℕ) (r : RightEdge es u w) → In r.edge (file_outs u 0 es)
edge_out es u w r = subst (In r.edge) (sym r.last_out) (in_right r.before (here refl))

edge_in : (es : List (ℕ × ℕ)) (u w : ℕ) (r : RightEdge es u w) → In r.edge (file_ins w 0 es)
edge_in es u w r = subst (In r.edge) (sym r.first_in) (here refl)

edge_last : (es : List (ℕ × ℕ)) (u w : ℕ) (r : RightEdge es u w) → last_of 0 (file_outs u 0 es) ≡ r.edge
edge_last es u w r = ap (last_of 0) r.last_out ∙ last_of-append 0 r.before r.edge

edge_first : (es : List (ℕ × ℕ)) (u w : ℕ) (r : RightEdge es u w) → get_or (file_ins w 0 es) 0 0 ≡ r.edge
edge_first es u w r = ap (λ (z : List ℕ). get_or z 0 0) r.first_in

along : (es : List (ℕ × ℕ)) (rank : ℕ → ℕ) → ((e : ℕ) → e < length es → rank (tail_of es e) < rank (head_of es e))
    → (u w : ℕ) → RightEdge es u w → rank u < rank w
along es rank rises u w r =
    let o : (r.edge < length es) × (tail_of es r.edge ≡ u) = outs_only es u r.edge (edge_out es u w r) in
    let i : (r.edge < length es) × (head_of es r.edge ≡ w) = ins_only es w r.edge (edge_in es u w r) in
    let l : rank (tail_of es r.edge) < rank (head_of es r.edge) = rises r.edge o.0 in
    subst (λ z. z < rank w) (ap rank o.1) (subst (λ z. rank (tail_of es r.edge) < z) (ap rank i.1) l)

-- where a rank grows along each edge, it grows along the boundary
ranks_rise : (es : List (ℕ × ℕ)) (rank : ℕ → ℕ) → ((e : ℕ) → e < length es → rank (tail_of es e) < rank (head_of es e))
    → (u : ℕ) (M : List ℕ) (w : ℕ) → Linked (RightEdge es) (u ∷ (M ++ w ∷ [])) → rank u < rank w
ranks_rise es rank rises u [] w h = along es rank rises u w h.0
ranks_rise es rank rises u (v ∷ M) w h = omega (arith, along es rank rises u v h.0, ranks_rise es rank rises v M w h.1)

-- an edge of the boundary between u and w
record IsUnder (es : List (ℕ × ℕ)) (u : ℕ) (M : List ℕ) (w e : ℕ) : Type 0 where
  from : ℕ
  to : ℕ
  from_in : In from (u ∷ M)
  to_in : In to (M ++ w ∷ [])
  is_right : RightEdge es from to
  is : e ≡ is_right.edge

-- ---- an ear more
module _ (es : List (ℕ × ℕ)) (X : List ℕ) (u : ℕ) (M : List ℕ) (w : ℕ) (Y : List ℕ) (c k : ℕ) (R : IsRow es (X ++ u ∷ (M ++ w ∷ Y)) c) where
  abbrev ear : List (ℕ × ℕ)
  ear = ear_edges u c k w

  abbrev grown : List (ℕ × ℕ)
  grown = es ++ ear_edges u c k w

  u_old : u < c
  u_old = R.below u (in_right X (here refl))

  w_old : w < c
  w_old = R.below w (in_right X (there (in_right M (here refl))))

  m_old : (v : ℕ) → In v M → v < c
  m_old v i = R.below v (in_right X (there (in_left (w ∷ Y) i)))

  from_u : NoRepeat (u ∷ (M ++ w ∷ Y))
  from_u = once_right X (u ∷ (M ++ w ∷ Y)) R.once

  not_u : (v : ℕ) → In v (M ++ w ∷ Y) → v ≡ u → ⊥
  not_u v i q = from_u.0 (in_subst q i)

  not_w : (v : ℕ) → In v Y → v ≡ w → ⊥
  not_w v i q = (once_right M (w ∷ Y) from_u.1).0 (in_subst q i)

  not_m : (v : ℕ) → In v (w ∷ Y) → In v M → ⊥
  not_m v i j = once_apart M (w ∷ Y) v from_u.1 j i

  before_u : (v : ℕ) → In v X → In v (u ∷ (M ++ w ∷ Y)) → ⊥
  before_u v i j = once_apart X (u ∷ (M ++ w ∷ Y)) v R.once i j

  w_u : w ≢ u
  w_u q = not_u w (in_right M (here refl)) q

  to_u : Linked (RightEdge es) (X ++ u ∷ [])
  to_u = (linked_cut (RightEdge es) X u (M ++ w ∷ Y) R.linked).0

  covered : Linked (RightEdge es) (u ∷ (M ++ w ∷ []))
  covered = (linked_cut (RightEdge es) (u ∷ M) w Y (linked_cut (RightEdge es) X u (M ++ w ∷ Y) R.linked).1).0

  from_w : Linked (RightEdge es) (w ∷ Y)
  from_w = (linked_cut (RightEdge es) (u ∷ M) w Y (linked_cut (RightEdge es) X u (M ++ w ∷ Y) R.linked).1).1

  chain : Linked (EarEdge ear (length es)) (u ∷ (range c k ++ w ∷ []))
  chain = ear_linked u c k w (length es) u_old w_old w_u

  -- ---- the edges at a vertex
  outs_kept : (v : ℕ) → v < c → v ≢ u → file_outs v 0 grown ≡ file_outs v 0 es
  outs_kept v l n = file_outs-append v es ear ∙ ap (λ z. file_outs v 0 es ++ z) (ear_outs_none v u c k w (length es) n (λ a b. omega arith)) ∙ append-nil (file_outs v 0 es)

  ins_kept : (v : ℕ) → v < c → v ≢ w → file_ins v 0 grown ≡ file_ins v 0 es
  ins_kept v l n = file_ins-append v es ear ∙ ap (λ z. z ++ file_ins v 0 es) (ear_ins_none v u c k w (length es) n (λ a b. omega arith))

  outs_more : (v x : ℕ) (E : EarEdge ear (length es) v x) → file_outs v 0 grown ≡ file_outs v 0 es ++ E.edge ∷ []
  outs_more v x E = file_outs-append v es ear ∙ ap (λ z. file_outs v 0 es ++ z) E.out

  ins_more : (x v : ℕ) (E : EarEdge ear (length es) x v) → file_ins v 0 grown ≡ E.edge ∷ file_ins v 0 es
  ins_more x v E = file_ins-append v es ear ∙ ap (λ z. z ++ file_ins v 0 es) E.into

  long : length grown ≡ length es + (k + 1)
  long = length-append es ear ∙ ap (λ z. length es + z) (length-ear_edges u c k w)

  -- ---- the boundary
  kept : (a b : ℕ) → a < c → a ≢ u → b < c → b ≢ w → RightEdge es a b → RightEdge grown a b
  kept a b la na lb nb r = record {
    edge = r.edge;
    before = r.before;
    after = r.after;
    last_out = outs_kept a la na ∙ r.last_out;
    first_in = ins_kept b lb nb ∙ r.first_in;
  }

  new_to_u : Linked (RightEdge grown) (X ++ u ∷ [])
  new_to_u = linked_to (RightEdge es) (RightEdge grown) X u (λ a b i j r. kept a b
      (R.below a (in_left (u ∷ (M ++ w ∷ Y)) i))
      (λ q. before_u a i (here q))
      (elim (in_append X j) [ inl x ↦ R.below b (in_left (u ∷ (M ++ w ∷ Y)) x) | inr y ↦ elim (In-cases y) [ inl q ↦ omega (arith, u_old) | inr e ↦ absurd (not_in_nil e) ] ])
      (λ q. elim (in_append X j) [ inl x ↦ before_u b x (there (in_right M (here q))) | inr y ↦ elim (In-cases y) [ inl p ↦ w_u (sym q ∙ p) | inr e ↦ not_in_nil e ] ])
      r) to_u

  new_from_w : Linked (RightEdge grown) (w ∷ Y)
  new_from_w = linked_from (RightEdge es) (RightEdge grown) w Y (λ a b i j r. kept a b
      (R.below a (in_right X (there (in_right M i))))
      (not_u a (in_right M i))
      (R.below b (in_right X (there (in_right M (there j)))))
      (not_w b j)
      r) from_w

  new_between : Linked (RightEdge grown) (u ∷ (range c k ++ w ∷ []))
  new_between = linked_from (EarEdge ear (length es)) (RightEdge grown) u (range c k ++ w ∷ []) (λ a b i j E. record {
    edge = E.edge;
    before = file_outs a 0 es;
    after = file_ins b 0 es;
    last_out = outs_more a b E;
    first_in = ins_more a b E;
  }) chain

  new_old : (v : ℕ) → In v (X ++ u ∷ (range c k ++ w ∷ Y)) → v < c → In v X ⊎ ((v ≡ u) ⊎ In v (w ∷ Y))
  new_old v i l = elim (in_append X i) [
    | inl a ↦ inl a
    | inr b ↦ elim (In-cases b) [
      | inl q ↦ inr (inl q)
      | inr d ↦ elim (in_append (range c k) d) [
        | inl e ↦ absurd (omega (arith, (range_only c k v e).0))
        | inr f ↦ inr (inr f)
      ]
    ]
  ]

  new_below : (v : ℕ) → In v (X ++ u ∷ (range c k ++ w ∷ Y)) → v < c + k
  new_below v i = elim (in_append X i) [
    | inl a ↦ omega (arith, R.below v (in_left (u ∷ (M ++ w ∷ Y)) a))
    | inr b ↦ elim (In-cases b) [
      | inl q ↦ omega (arith, u_old)
      | inr d ↦ elim (in_append (range c k) d) [
        | inl e ↦ (range_only c k v e).1
        | inr f ↦ omega (arith, R.below v (in_right X (there (in_right M f))))
      ]
    ]
  ]

  pub row_grows : IsRow (es ++ ear_edges u c k w) (X ++ u ∷ (range c k ++ w ∷ Y)) (c + k)
  row_grows = record {
    once = subst NoRepeat (append_assoc X (u ∷ []) (range c k ++ w ∷ Y))
        (once_swap (X ++ u ∷ []) M (range c k) (w ∷ Y) (subst NoRepeat (sym (append_assoc X (u ∷ []) (M ++ w ∷ Y))) R.once) (range_once c k)
        (λ v i j. let l : v < c = R.below v (subst (In v) (append_assoc X (u ∷ []) (M ++ w ∷ Y)) j) in omega (arith, (range_only c k v i).0)));
    below = new_below;
    linked = linked_join (RightEdge grown) X u (range c k ++ w ∷ Y) new_to_u (linked_join (RightEdge grown) (u ∷ range c k) w Y new_between new_from_w);
    none_out = λ v l. file_outs-append v es ear
        ∙ ap (λ z. z ++ file_outs v (length es) ear) (R.none_out v (omega arith))
        ∙ ear_outs_none v u c k w (length es) (λ q. omega (arith, u_old)) (λ a b. omega arith);
    none_in = λ v l. file_ins-append v es ear
        ∙ ap (λ z. z ++ file_ins v 0 es) (ear_ins_none v u c k w (length es) (λ q. omega (arith, w_old)) (λ a b. omega arith))
        ∙ R.none_in v (omega arith);
  }

  -- ---- ranks, and edges in and out
  module _ (K : IsRising es c) where
    -- the ranks before are spread so far that those of the ear's vertices lie between
    new_rank : ℕ → ℕ
    new_rank v = pick (cases_lt v c) ((k + 1) * K.rank v) ((k + 1) * K.rank u + 1 + v - c)

    rank_old : (v : ℕ) → v < c → new_rank v ≡ (k + 1) * K.rank v
    unfolding new_rank
    rank_old v l = pick-first (cases_lt v c) ((k + 1) * K.rank v) ((k + 1) * K.rank u + 1 + v - c) (λ h. omega arith)

    rank_new : (v : ℕ) → c ≤ v → new_rank v + c ≡ (k + 1) * K.rank u + 1 + v
    unfolding new_rank
    rank_new v l =
        let q : new_rank v ≡ (k + 1) * K.rank u + 1 + v - c = pick-second (cases_lt v c) ((k + 1) * K.rank v) ((k + 1) * K.rank u + 1 + v - c) (λ h. omega arith) in
        omega arith

    spread : (a b : ℕ) → a < b → (k + 1) * a + k + 1 ≤ (k + 1) * b
    spread a b l = omega (arith, mul-le (k + 1) (a + 1) (k + 1) b (omega arith) (omega arith))

    tail_old : (e : ℕ) → e < length es → tail_of es e < c
    tail_old e l = elim (cases_lt (tail_of es e) c) [
      | inl a ↦ a
      | inr h ↦ absurd (not_in_nil (subst (In e) (R.none_out (tail_of es e) h) (outs_all es (tail_of es e) e l refl)))
    ]

    head_old : (e : ℕ) → e < length es → head_of es e < c
    head_old e l = elim (cases_lt (head_of es e) c) [
      | inl a ↦ a
      | inr h ↦ absurd (not_in_nil (subst (In e) (R.none_in (head_of es e) h) (ins_all es (head_of es e) e l refl)))
    ]

    rises_old : (e : ℕ) → e < length es → new_rank (tail_of es e) < new_rank (head_of es e)
    rises_old e l = omega (
      arith,
      rank_old (tail_of es e) (tail_old e l),
      rank_old (head_of es e) (head_old e l),
      spread (K.rank (tail_of es e)) (K.rank (head_of es e)) (K.rises e l),
    )

    rises_new : (e : ℕ) → e < length ear → new_rank (tail_of ear e) < new_rank (head_of ear e)
    rises_new e l = ear_rises new_rank u c k w (linked_ranks new_rank c ((k + 1) * K.rank u + 1) u c k w
        (λ v a b. rank_new v a)
        (omega (arith, rank_old u u_old))
        (omega (arith, rank_old w w_old, spread (K.rank u) (K.rank w) (ranks_rise es K.rank K.rises u M w covered)))) e l

    rises_at : (e : ℕ) → e < length grown → new_rank (tail_of grown e) < new_rank (head_of grown e)
    unfolding tail_of head_of
    rises_at e l = elim (cases_lt e (length es)) [
      | inl a ↦ subst (λ (z : ℕ × ℕ). new_rank z.0 < new_rank z.1) (sym (get_or_append_left es ear (0, 0) e a)) (rises_old e a)
      | inr b ↦ subst (λ (z : ℕ × ℕ). new_rank z.0 < new_rank z.1) (sym (get_or-append_right es ear (length es) e (0, 0) refl b))
          (rises_new (e - length es) (omega (arith, length-append es ear)))
    ]

    source_kept : 0 ≡ w → ⊥
    source_kept q =
        let p = prev_of (RightEdge es) u M w w covered (in_right M (here refl)) in
        not_in_nil (subst (In p.2.edge) (ap (λ z. file_ins z 0 es) (sym q) ∙ K.source) (edge_in es p.0 w p.2))

    sink_kept : 1 ≡ u → ⊥
    sink_kept q =
        let n = next_of (RightEdge es) u M w u covered (here refl) in
        not_in_nil (subst (In n.2.edge) (ap (λ z. file_outs z 0 es) (sym q) ∙ K.sink) (edge_out es u n.0 n.2))

    pub rising_grows : IsRising (es ++ ear_edges u c k w) (c + k)
    rising_grows = record {
      rank = new_rank;
      rises = rises_at;
      source = ins_kept 0 (omega (arith, w_old)) source_kept ∙ K.source;
      sink = outs_kept 1 (omega (arith, u_old, w_old, w_u)) sink_kept ∙ K.sink;
      some_in = λ v l n. elim (cases_lt v c) [
        | inl o ↦ let h = K.some_in v o n in (h.0, subst (In h.0) (sym (file_ins-append v es ear)) (in_right (file_ins v (length es) ear) h.1))
        | inr h ↦
            let p = prev_of (EarEdge ear (length es)) u (range c k) w v chain (in_left (w ∷ []) (range_all c k v h l)) in
            (p.2.edge, subst (In p.2.edge) (sym (ins_more p.0 v p.2)) (here refl))
      ];
      some_out = λ v l n. elim (cases_lt v c) [
        | inl o ↦ let h = K.some_out v o n in (h.0, subst (In h.0) (sym (file_outs-append v es ear)) (in_left (file_outs v (length es) ear) h.1))
        | inr h ↦
            let x = next_of (EarEdge ear (length es)) u (range c k) w v chain (there (range_all c k v h l)) in
            (x.2.edge, subst (In x.2.edge) (sym (outs_more v x.0 x.2)) (in_right (file_outs v 0 es) (here refl)))
      ];
    }

  -- ---- the edges that the ear covers
  abbrev under : List ℕ
  under = map (λ v. last_of 0 (file_outs v 0 es)) (u ∷ M)

  under_is : (e : ℕ) → In e under → IsUnder es u M w e
  under_is e i =
      let p = in_map (λ v. last_of 0 (file_outs v 0 es)) e (u ∷ M) i in
      let n = next_of (RightEdge es) u M w p.0 covered p.1 in
      record { from = p.0; to = n.0; from_in = p.1; to_in = n.1; is_right = n.2; is = p.2 ∙ edge_last es p.0 n.0 n.2 }

  is_under : (a b : ℕ) → In a (u ∷ M) → (r : RightEdge es a b) → In r.edge under
  is_under a b i r = in_subst (edge_last es a b r) (in_mapped (λ v. last_of 0 (file_outs v 0 es)) a (u ∷ M) i)

  -- an edge that is no last one at its vertex isn't covered, and none at a vertex that isn't
  clear_out : (v e : ℕ) → (In v (u ∷ M) → ⊥) → In e (file_outs v 0 es) → In e under → ⊥
  clear_out v e n i j =
      let q = under_is e j in
      let a : tail_of es q.is_right.edge ≡ q.from = (outs_only es q.from q.is_right.edge (edge_out es q.from q.to q.is_right)).1 in
      n (in_subst (sym a ∙ ap (tail_of es) (sym q.is) ∙ (outs_only es v e i).1) q.from_in)

  clear_in : (v e : ℕ) → (In v (M ++ w ∷ []) → ⊥) → In e (file_ins v 0 es) → In e under → ⊥
  clear_in v e n i j =
      let q = under_is e j in
      let a : head_of es q.is_right.edge ≡ q.to = (ins_only es q.to q.is_right.edge (edge_in es q.from q.to q.is_right)).1 in
      n (in_subst (sym a ∙ ap (head_of es) (sym q.is) ∙ (ins_only es v e i).1) q.to_in)

  clear_before : (a b : ℕ) (r : RightEdge es a b) (e : ℕ) → In e r.before → In e under → ⊥
  clear_before a b r e i j =
      let q = under_is e j in
      let f : tail_of es e ≡ a = (outs_only es a e (subst (In e) (sym r.last_out) (in_left (r.edge ∷ []) i))).1 in
      let t : tail_of es q.is_right.edge ≡ q.from = (outs_only es q.from q.is_right.edge (edge_out es q.from q.to q.is_right)).1 in
      let v : q.from ≡ a = sym t ∙ ap (tail_of es) (sym q.is) ∙ f in
      let s : e ≡ r.edge = q.is ∙ sym (edge_last es q.from q.to q.is_right) ∙ ap (λ z. last_of 0 (file_outs z 0 es)) v ∙ edge_last es a b r in
      once_apart r.before (r.edge ∷ []) e (subst NoRepeat r.last_out (outs_once a es)) i (here s)

  clear_after : (a b : ℕ) (r : RightEdge es a b) (e : ℕ) → In e r.after → In e under → ⊥
  clear_after a b r e i j =
      let q = under_is e j in
      let f : head_of es e ≡ b = (ins_only es b e (subst (In e) (sym r.first_in) (there i))).1 in
      let t : head_of es q.is_right.edge ≡ q.to = (ins_only es q.to q.is_right.edge (edge_in es q.from q.to q.is_right)).1 in
      let v : q.to ≡ b = sym t ∙ ap (head_of es) (sym q.is) ∙ f in
      let s : e ≡ r.edge = q.is ∙ sym (edge_first es q.from q.to q.is_right) ∙ ap (λ z. get_or (file_ins z 0 es) 0 0) v ∙ edge_first es a b r in
      (subst NoRepeat r.first_in (ins_once b es)).0 (in_subst s i)

  -- ---- what lies beside, with the number of the new ear
  module _ (ears : ℕ) (B : IsBeside es (X ++ u ∷ (M ++ w ∷ Y)) c ears) where
    left' : ℕ → ℕ
    left' e = pick (cases_lt e (length es)) (B.left e) (suc ears)

    right' : ℕ → ℕ
    right' e = pick (cases_lt e (length es)) (pick (in_dec e under) (suc ears) (B.right e)) 0

    left_at' : ℕ → ℕ
    left_at' v = pick (cases_lt v c) (B.left_at v) (suc ears)

    right_at' : ℕ → ℕ
    right_at' v = pick (cases_lt v c) (pick (in_dec v M) (suc ears) (B.right_at v)) 0

    left_old : (e : ℕ) → e < length es → left' e ≡ B.left e
    unfolding left'
    left_old e l = pick-first (cases_lt e (length es)) (B.left e) (suc ears) (λ h. omega arith)

    left_new : (e : ℕ) → length es ≤ e → left' e ≡ suc ears
    unfolding left'
    left_new e l = pick-second (cases_lt e (length es)) (B.left e) (suc ears) (λ h. omega arith)

    right_old : (e : ℕ) → e < length es → (In e under → ⊥) → right' e ≡ B.right e
    unfolding right'
    right_old e l n = pick-first (cases_lt e (length es)) (pick (in_dec e under) (suc ears) (B.right e)) 0 (λ h. omega arith)
        ∙ pick-second (in_dec e under) (suc ears) (B.right e) n

    right_under : (e : ℕ) → e < length es → In e under → right' e ≡ suc ears
    unfolding right'
    right_under e l i = pick-first (cases_lt e (length es)) (pick (in_dec e under) (suc ears) (B.right e)) 0 (λ h. omega arith)
        ∙ pick-first (in_dec e under) (suc ears) (B.right e) (λ n. n i)

    right_new : (e : ℕ) → length es ≤ e → right' e ≡ 0
    unfolding right'
    right_new e l = pick-second (cases_lt e (length es)) (pick (in_dec e under) (suc ears) (B.right e)) 0 (λ h. omega arith)

    left_at_old : (v : ℕ) → v < c → left_at' v ≡ B.left_at v
    unfolding left_at'
    left_at_old v l = pick-first (cases_lt v c) (B.left_at v) (suc ears) (λ h. omega arith)

    left_at_new : (v : ℕ) → c ≤ v → left_at' v ≡ suc ears
    unfolding left_at'
    left_at_new v l = pick-second (cases_lt v c) (B.left_at v) (suc ears) (λ h. omega arith)

    right_at_old : (v : ℕ) → v < c → (In v M → ⊥) → right_at' v ≡ B.right_at v
    unfolding right_at'
    right_at_old v l n = pick-first (cases_lt v c) (pick (in_dec v M) (suc ears) (B.right_at v)) 0 (λ h. omega arith)
        ∙ pick-second (in_dec v M) (suc ears) (B.right_at v) n

    right_at_under : (v : ℕ) → v < c → In v M → right_at' v ≡ suc ears
    unfolding right_at'
    right_at_under v l i = pick-first (cases_lt v c) (pick (in_dec v M) (suc ears) (B.right_at v)) 0 (λ h. omega arith)
        ∙ pick-first (in_dec v M) (suc ears) (B.right_at v) (λ n. n i)

    right_at_new : (v : ℕ) → c ≤ v → right_at' v ≡ 0
    unfolding right_at'
    right_at_new v l = pick-second (cases_lt v c) (pick (in_dec v M) (suc ears) (B.right_at v)) 0 (λ h. omega arith)

    -- the edges out of a vertex, and into it, before the ear's are added
    outs_clear : (v : ℕ) → v < c → (In v (u ∷ M) → ⊥) → Fan left' right' (file_outs v 0 es) (B.left_at v) (B.right_at v)
    outs_clear v l n = Fan-same B.left B.right left' right' (file_outs v 0 es) (B.left_at v) (B.right_at v)
        (λ e i. (left_old e (outs_only es v e i).0, right_old e (outs_only es v e i).0 (clear_out v e n i))) (B.outs_fan v l)

    ins_clear : (v : ℕ) → v < c → (In v (M ++ w ∷ []) → ⊥) → Fan right' left' (file_ins v 0 es) (B.right_at v) (B.left_at v)
    ins_clear v l n = Fan-same B.right B.left right' left' (file_ins v 0 es) (B.right_at v) (B.left_at v)
        (λ e i. (right_old e (ins_only es v e i).0 (clear_in v e n i), left_old e (ins_only es v e i).0)) (B.ins_fan v l)

    outs_under : (v : ℕ) → v < c → In v (u ∷ M) → Fan left' right' (file_outs v 0 es) (B.left_at v) (suc ears)
    outs_under v l i =
        let n = next_of (RightEdge es) u M w v covered i in
        let r : RightEdge es v n.0 = n.2 in
        let le : r.edge < length es = (outs_only es v r.edge (edge_out es v n.0 r)).0 in
        let s : Fan B.left B.right r.before (B.left_at v) (B.left r.edge) × (B.right r.edge ≡ B.right_at v) =
        Fan-last B.left B.right r.before r.edge (B.left_at v) (B.right_at v) (subst (λ z. Fan B.left B.right z (B.left_at v) (B.right_at v)) r.last_out (B.outs_fan v l)) in
        subst (λ z. Fan left' right' z (B.left_at v) (suc ears)) (sym r.last_out)
        (Fan-append left' right' r.before (r.edge ∷ []) (B.left_at v) (B.left r.edge) (suc ears)
        (Fan-same B.left B.right left' right' r.before (B.left_at v) (B.left r.edge)
        (λ e j. let o : e < length es = (outs_only es v e (subst (In e) (sym r.last_out) (in_left (r.edge ∷ []) j))).0 in (left_old e o, right_old e o (clear_before v n.0 r e j))) s.0)
        (left_old r.edge le, right_under r.edge le (is_under v n.0 i r)))

    ins_under : (v : ℕ) → v < c → In v (M ++ w ∷ []) → Fan right' left' (file_ins v 0 es) (suc ears) (B.left_at v)
    ins_under v l i =
        let n = prev_of (RightEdge es) u M w v covered i in
        let r : RightEdge es n.0 v = n.2 in
        let le : r.edge < length es = (outs_only es n.0 r.edge (edge_out es n.0 v r)).0 in
        let s : (B.right r.edge ≡ B.right_at v) × Fan B.right B.left r.after (B.left r.edge) (B.left_at v) =
        subst (λ z. Fan B.right B.left z (B.right_at v) (B.left_at v)) r.first_in (B.ins_fan v l) in
        subst (λ z. Fan right' left' z (suc ears) (B.left_at v)) (sym r.first_in) (
          right_under r.edge le (is_under n.0 v n.1 r),
          subst (λ z. Fan right' left' r.after z (B.left_at v)) (sym (left_old r.edge le))
              (Fan-same B.right B.left right' left' r.after (B.left r.edge) (B.left_at v)
              (λ e j. let o : e < length es = (ins_only es v e (subst (In e) (sym r.first_in) (there j))).0 in (right_old e o (clear_after n.0 v r e j), left_old e o)) s.1),
        )

    -- and after
    new_edge_out : (v x : ℕ) (E : EarEdge ear (length es) v x) → Fan left' right' (E.edge ∷ []) (suc ears) 0
    new_edge_out v x E = (left_new E.edge E.new, right_new E.edge E.new)

    new_edge_in : (v x : ℕ) (E : EarEdge ear (length es) v x) → Fan right' left' (E.edge ∷ []) 0 (suc ears)
    new_edge_in v x E = (right_new E.edge E.new, left_new E.edge E.new)

    outs_u : Fan left' right' (file_outs u 0 grown) (left_at' u) (right_at' u)
    outs_u =
        let n = next_of (EarEdge ear (length es)) u (range c k) w u chain (here refl) in
        fan_to left' right' (file_outs u 0 grown) (file_outs u 0 es ++ n.2.edge ∷ []) (left_at' u) (B.left_at u) (right_at' u) 0
        (outs_more u n.0 n.2) (left_at_old u u_old) (right_at_old u u_old (λ j. not_u u (in_left (w ∷ Y) j) refl) ∙ B.row_right u (in_right X (here refl)))
        (Fan-append left' right' (file_outs u 0 es) (n.2.edge ∷ []) (B.left_at u) (suc ears) 0 (outs_under u u_old (here refl)) (new_edge_out u n.0 n.2))

    ins_w : Fan right' left' (file_ins w 0 grown) (right_at' w) (left_at' w)
    ins_w =
        let n = prev_of (EarEdge ear (length es)) u (range c k) w w chain (in_right (range c k) (here refl)) in
        fan_to right' left' (file_ins w 0 grown) (n.2.edge ∷ file_ins w 0 es) (right_at' w) 0 (left_at' w) (B.left_at w)
        (ins_more n.0 w n.2) (right_at_old w w_old (not_m w (here refl)) ∙ B.row_right w (in_right X (there (in_right M (here refl))))) (left_at_old w w_old)
        (Fan-append right' left' (n.2.edge ∷ []) (file_ins w 0 es) 0 (suc ears) (B.left_at w) (new_edge_in n.0 w n.2) (ins_under w w_old (in_right M (here refl))))

    outs_at : (v : ℕ) → v < c + k → Fan left' right' (file_outs v 0 grown) (left_at' v) (right_at' v)
    outs_at v l = elim (cases_lt v c) [
      | inl o ↦ elim (in_dec v (u ∷ M)) [
        | inl i ↦ elim (In-cases i) [
          | inl q ↦ subst (λ z. Fan left' right' (file_outs z 0 grown) (left_at' z) (right_at' z)) (sym q) outs_u
          | inr j ↦ fan_to left' right' (file_outs v 0 grown) (file_outs v 0 es) (left_at' v) (B.left_at v) (right_at' v) (suc ears)
              (outs_kept v o (not_u v (in_left (w ∷ Y) j))) (left_at_old v o) (right_at_under v o j) (outs_under v o i)
        ]
        | inr n ↦ fan_to left' right' (file_outs v 0 grown) (file_outs v 0 es) (left_at' v) (B.left_at v) (right_at' v) (B.right_at v)
            (outs_kept v o (λ q. n (here q))) (left_at_old v o) (right_at_old v o (λ j. n (there j))) (outs_clear v o n)
      ]
      | inr h ↦
          let n = next_of (EarEdge ear (length es)) u (range c k) w v chain (there (range_all c k v h l)) in
          fan_to left' right' (file_outs v 0 grown) (n.2.edge ∷ []) (left_at' v) (suc ears) (right_at' v) 0
          (outs_more v n.0 n.2 ∙ ap (λ z. z ++ n.2.edge ∷ []) (R.none_out v h)) (left_at_new v h) (right_at_new v h) (new_edge_out v n.0 n.2)
    ]

    ins_at : (v : ℕ) → v < c + k → Fan right' left' (file_ins v 0 grown) (right_at' v) (left_at' v)
    ins_at v l = elim (cases_lt v c) [
      | inl o ↦ elim (in_dec v (M ++ w ∷ [])) [
        | inl i ↦ elim (cases_eq v w) [
          | inl q ↦ subst (λ z. Fan right' left' (file_ins z 0 grown) (right_at' z) (left_at' z)) (sym q) ins_w
          | inr n ↦ fan_to right' left' (file_ins v 0 grown) (file_ins v 0 es) (right_at' v) (suc ears) (left_at' v) (B.left_at v)
              (ins_kept v o n) (right_at_under v o (in_middle v n i)) (left_at_old v o) (ins_under v o i)
        ]
        | inr n ↦ fan_to right' left' (file_ins v 0 grown) (file_ins v 0 es) (right_at' v) (B.right_at v) (left_at' v) (B.left_at v)
            (ins_kept v o (λ q. n (in_right M (here q)))) (right_at_old v o (λ j. n (in_left (w ∷ []) j))) (left_at_old v o) (ins_clear v o n)
      ]
      | inr h ↦
          let n = prev_of (EarEdge ear (length es)) u (range c k) w v chain (in_left (w ∷ []) (range_all c k v h l)) in
          fan_to right' left' (file_ins v 0 grown) (n.2.edge ∷ []) (right_at' v) 0 (left_at' v) (suc ears)
          (ins_more n.0 v n.2 ∙ ap (λ z. n.2.edge ∷ z) (R.none_in v h)) (right_at_new v h) (left_at_new v h) (new_edge_in n.0 v n.2)
    ]
      where
        in_middle : (v : ℕ) → (v ≡ w → ⊥) → In v (M ++ w ∷ []) → In v M
        in_middle v n i = elim (in_append M i) [
          | inl a ↦ a
          | inr b ↦ elim (In-cases b) [ inl q ↦ absurd (n q) | inr e ↦ absurd (not_in_nil e) ]
        ]

    row_right' : (v : ℕ) → In v (X ++ u ∷ (range c k ++ w ∷ Y)) → right_at' v ≡ 0
    row_right' v i = elim (cases_lt v c) [
      | inr h ↦ right_at_new v h
      | inl l ↦ elim (new_old v i l) [
        | inl a ↦ right_at_old v l (λ j. before_u v a (there (in_left (w ∷ Y) j))) ∙ B.row_right v (in_left (u ∷ (M ++ w ∷ Y)) a)
        | inr b ↦ elim b [
          | inl q ↦ right_at_old v l (λ j. not_u v (in_left (w ∷ Y) j) q) ∙ B.row_right v (in_right X (here q))
          | inr d ↦ right_at_old v l (not_m v d) ∙ B.row_right v (in_right X (there (in_right M d)))
        ]
      ]
    ]

    few_left' : (e : ℕ) → left' e ≤ suc ears
    unfolding left'
    few_left' e = pick-le (cases_lt e (length es)) (B.left e) (suc ears) (suc ears) (omega (arith, B.few_left e)) (omega arith)

    few_right' : (e : ℕ) → right' e ≤ suc ears
    unfolding right'
    few_right' e = pick-le (cases_lt e (length es)) (pick (in_dec e under) (suc ears) (B.right e)) 0 (suc ears)
        (pick-le (in_dec e under) (suc ears) (B.right e) (suc ears) (omega arith) (omega (arith, B.few_right e))) (omega arith)

    each' : (y : ℕ) → y ≤ suc ears → (e : ℕ) × (e < length grown) × (left' e ≡ y)
    each' y l = elim (cases_lt y (suc ears)) [
      | inl m ↦ let r = B.each y (omega arith) in (r.0, omega (arith, long, r.1), left_old r.0 r.1 ∙ r.2)
      | inr m ↦ (length es, omega (arith, long), left_new (length es) (omega arith) ∙ omega arith)
    ]

    pub beside_grows : 2 ≤ c → IsBeside (es ++ ear_edges u c k w) (X ++ u ∷ (range c k ++ w ∷ Y)) (c + k) (suc ears)
    beside_grows two = record {
      left = left';
      right = right';
      left_at = left_at';
      right_at = right_at';
      outs_fan = outs_at;
      ins_fan = ins_at;
      row_right = row_right';
      few_left = few_left';
      few_right = few_right';
      each = each';
      source = left_at_old 0 (omega arith) ∙ B.source;
      sink = left_at_old 1 (omega arith) ∙ B.sink;
    }
