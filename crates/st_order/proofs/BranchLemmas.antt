-- A vertex to the right of a walk's end is reached from an edge to the right of the walk, and likewise on the left.
use Rattle.std.proofs.Common.{ℕ, List, [], ◌∷◌, ◌++◌, ◌≡◌, ◌≢◌, ◌<◌, ◌⊎◌, inl, inr, refl, sym, ap, ◌∙◌, arith}
use Rattle.std.proofs.lemmas.Bool.{cases_eq}
use Rattle.st_ids.specs.Lists.{In, here, there, Precedes, EndIs, LastIs}
use Rattle.st_ids.specs.Walks.{Walk, stay, step, Reaches}
use Rattle.st_sides.specs.Sides.{SidesValue, edge_count, edge_tail, edge_head, face_left, face_right, outs, ins, left_of, right_of, primal, dual, IsSides}
use Rattle.st_sides.specs.Sweep.{OnBoundary}
use Rattle.st_sides.specs.Objects.{vertex, LeftOf}
use Rattle.st_order.specs.Orders.{BeforeOrLeft, BeforeOrRight, IsX, IsY}
use Rattle.st_ids.proofs.Public.{not_in_nil, In-cases, in_subst, in_left, in_right, in_append, first_of, turn, turn_before, walk_from, walk_append, reach_refl, on_walk, down}
use Rattle.st_sides.proofs.Public.{order_out, order_out_beside, Swept, closed_reach, swept_below, swept_zero, within, to_sink, fit, across_out, not_before_left, not_before_right}
use Rattle.st_order.proofs.RankLemmas.{rank_by_order}
use Rattle.st_order.proofs.OrderLemmas.{x_vertices, y_vertices}

-- Beside the walk's edge, later in the list of its tail, an edge leads to v.
pub record Branch (g : SidesValue) (order : ℕ → List ℕ) (W : List ℕ) (v : ℕ) : Type 0 where
  pub on_walk : ℕ
  pub is_on : In on_walk W
  pub branch : ℕ
  pub is_arc : branch < edge_count g
  pub later : Precedes on_walk branch (order (edge_tail g on_walk))
  pub leads : Reaches (primal g) (edge_head g branch) v

-- turning a list exchanges what stands before and after
turn_swaps : (xs ys : List ℕ) (a b : ℕ) → Precedes a b xs → Precedes b a (turn xs ys)
turn_swaps [] ys a b h = absurd h
turn_swaps (x ∷ xs) ys a b (inl h) = turn_before xs (x ∷ ys) b a h.1 (here h.0)
turn_swaps (x ∷ xs) ys a b (inr h) = turn_swaps xs (x ∷ ys) a b h

-- a walk from the source, no edge of which has its right in the list
pub record RightWalk (g : SidesValue) (L : List ℕ) (m : ℕ) : Type 0 where
  pub way : List ℕ
  pub walk : Walk (primal g) g.source way m
  pub off : (e : ℕ) → In e way → In (face_right g e) L → ⊥

-- the last element of a list, with its property
pub record Last (Q : ℕ → Type 0) (xs : List ℕ) : Type 0 where
  pub element : ℕ
  pub within : In element xs
  pub holds : Q element

pub end_of : (Q : ℕ → Type 0) (x : ℕ) (ys : List ℕ) → EndIs Q x ys → Last Q (x ∷ ys)
end_of Q x [] h = record { element = x; within = here refl; holds = h }
end_of Q x (y ∷ ys) h = let k = end_of Q y ys h in record { element = k.element; within = there k.within; holds = k.holds }

pub last_of : (Q : ℕ → Type 0) (xs : List ℕ) → LastIs Q xs → Last Q xs
last_of Q [] h = absurd h
last_of Q (x ∷ xs) h = end_of Q x xs h

-- a walk from the source, each edge of which has its left in the list
pub record LeftWalk (g : SidesValue) (L : List ℕ) (m : ℕ) : Type 0 where
  pub way : List ℕ
  pub walk : Walk (primal g) g.source way m
  pub on : (e : ℕ) → In e way → In (face_left g e) L

module _ (g : SidesValue) (S : IsSides g) where
  module _ (L : List ℕ) (s : Swept g L) where
    -- the tail of an edge with its right outside has its right outside
    pub right_out : (x : ℕ) → x < edge_count g → (In (face_right g x) L → ⊥) → In (right_of g (edge_tail g x)) L → ⊥
    right_out x a out i = elim (cases_eq (edge_tail g x) g.source) [
      | inl q ↦
          let h : right_of g (edge_tail g x) < g.t_star = swept_below g S s (right_of g (edge_tail g x)) i in
          let k : right_of g (edge_tail g x) ≡ g.t_star = ap (right_of g) q ∙ S.right_source in
          absurd (omega arith)
      | inr n ↦ out (closed_reach g S s (across_out g S (edge_tail g x) x (S.tail_in x a) n (S.sink_last x a) a refl).1 i)
    ]

    pub right_walk : (m : ℕ) → m < g.vertices → m ≢ g.sink → (In (right_of g m) L → ⊥) → RightWalk g L m
    right_walk = down (primal g) g.vertices S.acyclic (within g S) (λ m. m ≢ g.sink → (In (right_of g m) L → ⊥) → RightWalk g L m) (λ m i ih n out. elim (cases_eq m g.source) [
      | inl q ↦ record { way = []; walk = stay (sym q); off = λ e j. absurd (not_in_nil j) }
      | inr d ↦
          let h = last_of (λ e. right_of g m ≡ face_right g e) (ins g m) (S.right_in m i d n) in
          let k = (S.ins_are m i).only h.element h.within in
          let off : In (face_right g h.element) L → ⊥ = λ j. out (in_subst (sym h.holds) j) in
          let W = ih h.element k.0 k.1 (S.sink_last h.element k.0) (right_out h.element k.0 off) in
          record {
            way = W.way ++ h.element ∷ [];
            walk = walk_append W.walk (step k.0 refl (stay k.1));
            off = λ e j. elim (in_append W.way j) [
              | inl a ↦ W.off e a
              | inr b ↦ elim (In-cases b) [ inl q ↦ (λ z. off (in_subst (ap (face_right g) q) z)) | inr c ↦ absurd (not_in_nil c) ]
            ];
          }
    ])

    left_tail : (x : ℕ) → x < edge_count g → In (face_left g x) L → In (left_of g (edge_tail g x)) L
    left_tail x a i = elim (cases_eq (edge_tail g x) g.source) [
      | inl q ↦ in_subst (sym (ap (left_of g) q ∙ S.left_source)) (swept_zero g S s)
      | inr n ↦ closed_reach g S s (across_out g S (edge_tail g x) x (S.tail_in x a) n (S.sink_last x a) a refl).0 i
    ]

    left_walk : (m : ℕ) → m < g.vertices → m ≢ g.sink → In (left_of g m) L → LeftWalk g L m
    left_walk = down (primal g) g.vertices S.acyclic (within g S) (λ m. m ≢ g.sink → In (left_of g m) L → LeftWalk g L m) (λ m i ih n on. elim (cases_eq m g.source) [
      | inl q ↦ record { way = []; walk = stay (sym q); on = λ e j. absurd (not_in_nil j) }
      | inr d ↦
          let h = first_of (λ e. left_of g m ≡ face_left g e) (ins g m) (S.left_in m i d n) in
          let k = (S.ins_are m i).only h.element h.within in
          let l : In (face_left g h.element) L = in_subst h.holds on in
          let W = ih h.element k.0 k.1 (S.sink_last h.element k.0) (left_tail h.element k.0 l) in
          record {
            way = W.way ++ h.element ∷ [];
            walk = walk_append W.walk (step k.0 refl (stay k.1));
            on = λ e j. elim (in_append W.way j) [
              | inl a ↦ W.on e a
              | inr b ↦ elim (In-cases b) [ inl q ↦ in_subst (sym (ap (face_left g) q)) l | inr c ↦ absurd (not_in_nil c) ]
            ];
          }
    ])

    -- two walks from one vertex, where neither end reaches the other, part somewhere; on the right if the second keeps there
    part_right : (u v m : ℕ) (W Z : List ℕ) → Walk (primal g) m W u → Walk (primal g) m Z v → ((e : ℕ) → In e W → OnBoundary g L e) → ((e : ℕ) → In e Z → In (face_right g e) L → ⊥) → (Reaches (primal g) u v → ⊥) → (Reaches (primal g) v u → ⊥) → Branch g (outs g) W v
    part_right u v m W Z (stay q) k on off not_up not_down = absurd (not_up (record { way = Z; walk = walk_from q k }))
    part_right u v m W Z (step a t r) (stay q) on off not_up not_down = absurd (not_down (record { way = W; walk = walk_from q (step a t r) }))
    part_right u v m W Z (step {e = w} {es = ws} a t r) (step {e = z} {es = zs} b k p) on off not_up not_down =
        elim (order_out g S (edge_tail g w) w z (S.tail_in w a) a b refl (k ∙ sym t)) [
          | inl q ↦
              let h = part_right u v (edge_head g w) ws zs r (walk_from (ap (edge_head g) (sym q)) p) (λ e i. on e (there i)) (λ e i. off e (there i)) not_up not_down in
              record { on_walk = h.on_walk; is_on = there h.is_on; branch = h.branch; is_arc = h.is_arc; later = h.later; leads = h.leads }
          | inr h ↦ elim h [
            | inl o ↦ record { on_walk = w; is_on = here refl; branch = z; is_arc = b; later = o; leads = record { way = zs; walk = p } }
            | inr o ↦ absurd (off z (here refl) (closed_reach g S s (order_out_beside g S (edge_tail g w) z w (S.tail_in w a) o).across (on w (here refl)).left_in))
          ]
        ]

    part_left : (u v m : ℕ) (W Z : List ℕ) → Walk (primal g) m W u → Walk (primal g) m Z v → ((e : ℕ) → In e W → OnBoundary g L e) → ((e : ℕ) → In e Z → In (face_left g e) L) → (Reaches (primal g) u v → ⊥) → (Reaches (primal g) v u → ⊥) → Branch g (λ x. turn (outs g x) []) W v
    part_left u v m W Z (stay q) k on lefts not_up not_down = absurd (not_up (record { way = Z; walk = walk_from q k }))
    part_left u v m W Z (step a t r) (stay q) on lefts not_up not_down = absurd (not_down (record { way = W; walk = walk_from q (step a t r) }))
    part_left u v m W Z (step {e = w} {es = ws} a t r) (step {e = z} {es = zs} b k p) on lefts not_up not_down =
        elim (order_out g S (edge_tail g w) w z (S.tail_in w a) a b refl (k ∙ sym t)) [
          | inl q ↦
              let h = part_left u v (edge_head g w) ws zs r (walk_from (ap (edge_head g) (sym q)) p) (λ e i. on e (there i)) (λ e i. lefts e (there i)) not_up not_down in
              record { on_walk = h.on_walk; is_on = there h.is_on; branch = h.branch; is_arc = h.is_arc; later = h.later; leads = h.leads }
          | inr h ↦ elim h [
            | inr o ↦ record { on_walk = w; is_on = here refl; branch = z; is_arc = b; later = turn_swaps (outs g (edge_tail g w)) [] z w o; leads = record { way = zs; walk = p } }
            | inl o ↦ absurd ((on w (here refl)).right_out (closed_reach g S s (order_out_beside g S (edge_tail g w) w z (S.tail_in w a) o).across (lefts z (here refl))))
          ]
        ]

  -- a list with the walk on its boundary; the right of the walk's end is outside, the left inside
  pub record Fitted (u : ℕ) (W : List ℕ) : Type 0 where
    pub list : List ℕ
    pub swept : Swept g list
    pub on : (e : ℕ) → In e W → OnBoundary g list e
    pub left_in : In (left_of g u) list
    pub right_out : In (right_of g u) list → ⊥

  fitted : (u : ℕ) → u < g.vertices → u ≢ g.source → u ≢ g.sink → (W : List ℕ) → Walk (primal g) g.source W u → Fitted u W
  fitted u i n n' W k =
      let C = to_sink g S u i in
      let F = fit g S (W ++ C.way) (walk_append k C.walk) in
      go C.way C.walk F.list F.swept F.on
    where
      go : (rest : List ℕ) → Walk (primal g) u rest g.sink → (L : List ℕ) → Swept g L → ((e : ℕ) → In e (W ++ rest) → OnBoundary g L e) → Fitted u W
      go rest (stay q) L s on = absurd (n' q)
      go rest (step {e = e} {es = es} a t r) L s on =
          let A = across_out g S u e i n n' a t in
          let o = on e (in_right W (here refl)) in
          record {
            list = L;
            swept = s;
            on = λ d j. on d (in_left (e ∷ es) j);
            left_in = closed_reach g S s A.0 o.left_in;
            right_out = λ j. o.right_out (closed_reach g S s A.1 j);
          }

  -- source and sink are left of nothing and right of nothing
  not_pole : (u v : ℕ) → u < g.vertices → v < g.vertices → LeftOf g (vertex u) (vertex v) ⊎ LeftOf g (vertex v) (vertex u) → (u ≢ g.source) × (u ≢ g.sink)
  not_pole u v i j h = (
    (λ q. apart (inl (record { way = (Rattle.st_sides.proofs.Public.from_source g S v j).way; walk = walk_from (sym q) (Rattle.st_sides.proofs.Public.from_source g S v j).walk })) h),
    (λ q. apart (inr (record { way = (to_sink g S v j).way; walk = Rattle.st_ids.proofs.Public.walk_to (sym q) (to_sink g S v j).walk })) h),
  )
    where
      apart : Reaches (primal g) u v ⊎ Reaches (primal g) v u → LeftOf g (vertex u) (vertex v) ⊎ LeftOf g (vertex v) (vertex u) → ⊥
      apart (inl r) (inl h) = not_before_left g S (vertex u) (vertex v) i j r h
      apart (inl r) (inr h) = not_before_right g S (vertex u) (vertex v) i j r h
      apart (inr r) (inl h) = not_before_right g S (vertex v) (vertex u) j i r h
      apart (inr r) (inr h) = not_before_left g S (vertex v) (vertex u) j i r h

  -- what is right of the walk's end branches off the walk on its right
  pub branches_right : (u v : ℕ) → u < g.vertices → v < g.vertices → LeftOf g (vertex u) (vertex v) → (W : List ℕ) → Walk (primal g) g.source W u → Branch g (outs g) W v
  branches_right u v i j h W k =
      let n = not_pole u v i j (inl h) in
      let m = not_pole v u j i (inr h) in
      let F = fitted u i n.0 n.1 W k in
      let out : In (left_of g v) F.list → ⊥ = λ l. F.right_out (closed_reach g S F.swept h l) in
      let Z = right_walk F.list F.swept v j m.1 (λ l. out (closed_reach g S F.swept (across_v v j m.0 m.1) l)) in
      part_right F.list F.swept u v g.source W Z.way k Z.walk F.on Z.off (λ r. not_before_left g S (vertex u) (vertex v) i j r h) (λ r. not_before_right g S (vertex v) (vertex u) j i r h)
    where
      across_v : (v : ℕ) → v < g.vertices → v ≢ g.source → v ≢ g.sink → Reaches (dual g) (left_of g v) (right_of g v)
      across_v v j n n' =
          let e = S.has_out v j n' in
          let A = across_out g S v e.0 j n n' e.1 e.2 in
          Rattle.st_ids.proofs.Public.reach_trans A.0 (Rattle.st_ids.proofs.Public.reach_trans (Rattle.st_ids.proofs.Public.reach_arc e.0 e.1) A.1)

  -- what is left of the walk's end branches off the walk on its left
  pub branches_left : (u v : ℕ) → u < g.vertices → v < g.vertices → LeftOf g (vertex v) (vertex u) → (W : List ℕ) → Walk (primal g) g.source W u → Branch g (λ x. turn (outs g x) []) W v
  branches_left u v i j h W k =
      let n = not_pole u v i j (inr h) in
      let m = not_pole v u j i (inl h) in
      let F = fitted u i n.0 n.1 W k in
      let right_in : In (right_of g v) F.list = closed_reach g S F.swept h F.left_in in
      let e = S.has_out v j m.1 in
      let A = across_out g S v e.0 j m.0 m.1 e.1 e.2 in
      let left_in : In (left_of g v) F.list = closed_reach g S F.swept (Rattle.st_ids.proofs.Public.reach_trans A.0 (Rattle.st_ids.proofs.Public.reach_trans (Rattle.st_ids.proofs.Public.reach_arc e.0 e.1) A.1)) right_in in
      let Z = left_walk F.list F.swept v j m.1 left_in in
      part_left F.list F.swept u v g.source W Z.way k Z.walk F.on Z.on (λ r. not_before_right g S (vertex u) (vertex v) i j r h) (λ r. not_before_left g S (vertex v) (vertex u) j i r h)

  -- numbers that keep an order are the counts of that order
  pub x_by_order : (h : ℕ → ℕ) → ((v : ℕ) → v < g.vertices → h v < g.vertices) → ((u v : ℕ) → u < g.vertices → v < g.vertices → BeforeOrLeft g (vertex u) (vertex v) → h u < h v) → (v : ℕ) → v < g.vertices → IsX g v (h v)
  x_by_order h into keeps v i = rank_by_order g.vertices (λ u v. BeforeOrLeft g (vertex u) (vertex v)) (x_vertices g S) h into keeps v i

  pub y_by_order : (h : ℕ → ℕ) → ((v : ℕ) → v < g.vertices → h v < g.vertices) → ((u v : ℕ) → u < g.vertices → v < g.vertices → BeforeOrRight g (vertex u) (vertex v) → h u < h v) → (v : ℕ) → v < g.vertices → IsY g v (h v)
  y_by_order h into keeps v i = rank_by_order g.vertices (λ u v. BeforeOrRight g (vertex u) (vertex v)) (y_vertices g S) h into keeps v i
