-- Faces and valid paths can be put in one order from left to right. So the graph of their columns has no cycle.
use Rattle.std.proofs.Common.{ℕ, zero, suc, cond, List, [], ◌∷◌, length, ◌≡◌, ◌≢◌, ◌<◌, ◌≤◌, ◌+◌, ◌-◌, ◌⊎◌, inl, inr, sym, ap, ◌∙◌, subst, arith}
use Rattle.std.proofs.lemmas.Bool.{cases_lt, lt-ltb, le-ltb}
use Rattle.st_ids.specs.Lists.{In, here, there, NoRepeat, Precedes}
use Rattle.st_ids.specs.Walks.{Arcs, Walk, stay, step, IsAcyclic}
use Rattle.st_sides.specs.Sides.{SidesValue, edge_count, face_left, face_right, IsInner, IsSides}
use Rattle.draw_align.specs.Listed.{path_at}
use Rattle.draw_align.specs.Alignment.{Paths, path_count, path_of, AreValid, node_of_path, alignment, alignment_weight, AlignmentLaw}
use Rattle.st_ids.proofs.Public.{not_in_nil, In-cases, in_subst, in_dec, turn, turn_once, turn_before, Precedes_trans, Precedes_irrefl, on_walk, IsWithin, length-le_from_below}
use Rattle.draw_align.proofs.ChoiceLemmas.{Decided, any_below, all_in}
use Rattle.st_sides.proofs.Public.{IsNext, Swept, start, grow, swept_below, swept_zero, swept_once, boundary}
use Rattle.draw_align.proofs.AlignedLemmas.{free_face}
use Rattle.st_number.proofs.Public.{greatest_law, dual_has_in}

-- a path may be added where its edges all have their left in the list
pub record IsFree (g : SidesValue) (P : Paths) (L Q : List ℕ) (p : ℕ) : Type 0 where
  pub is_path : p < path_count P
  pub new : In p Q → ⊥
  pub ready : (e : ℕ) → In e (path_at P.lists p) → In (face_left g e) L

-- the faces, the done paths and the nodes of both, the newest first
pub data Grown (g : SidesValue) (P : Paths) : List ℕ → List ℕ → List ℕ → Type 0 where
  begin : Grown g P (0 ∷ []) [] (0 ∷ [])
  add_face : {L Q N : List ℕ} {f : ℕ} → Grown g P L Q N → IsNext g L f → ((e : ℕ) → e < edge_count g → face_right g e ≡ f → In (path_of P e) Q) → Grown g P (f ∷ L) Q (f ∷ N)
  add_path : {L Q N : List ℕ} {p : ℕ} → Grown g P L Q N → IsFree g P L Q p → Grown g P L (p ∷ Q) (node_of_path g p ∷ N)

-- an order of the nodes shows that there is no cycle
order_walk : (D : Arcs) (xs : List ℕ) → NoRepeat xs → ((a : ℕ) → a < D.count → Precedes (D.from a) (D.to a) xs) → (u e v : ℕ) (es : List ℕ) → Walk D u (e ∷ es) v → Precedes u v xs
order_walk D xs once before u e v [] (step a t (stay q)) = subst (λ z. Precedes z v xs) t (subst (λ z. Precedes (D.from e) z xs) q (before e a))
order_walk D xs once before u e v (d ∷ es) (step a t r) =
    Precedes_trans xs u (D.to e) v once (subst (λ z. Precedes z (D.to e) xs) t (before e a)) (order_walk D xs once before (D.to e) d v es r)

pub acyclic_by_order : (D : Arcs) (xs : List ℕ) → NoRepeat xs → ((a : ℕ) → a < D.count → Precedes (D.from a) (D.to a) xs) → IsAcyclic D
acyclic_by_order D xs once before u e es k = Precedes_irrefl xs u once (order_walk D xs once before u e u es k)

module _ (g : SidesValue) (S : IsSides g) (P : Paths) (V : AreValid g P) where
  swept_of : {L Q N : List ℕ} → Grown g P L Q N → Swept g L
  swept_of begin = start
  swept_of (add_face G n d) = grow (swept_of G) n
  swept_of (add_path G f) = swept_of G

  fresh : {L Q N : List ℕ} → Grown g P L Q N → (e : ℕ) → e < edge_count g → (In (path_of P e) Q → ⊥) → In (face_right g e) L → ⊥
  fresh begin e a n (here q) = let h : 0 < face_right g e = S.right_after e a in absurd (omega arith)
  fresh begin e a n (there j) = not_in_nil j
  fresh (add_face G m d) e a n (here q) = n (d e a q)
  fresh (add_face G m d) e a n (there j) = fresh G e a n j
  fresh (add_path G f) e a n j = fresh G e a (λ i. n (there i)) j

  paths_in : {L Q N : List ℕ} → Grown g P L Q N → (p : ℕ) → In p Q → p < path_count P
  paths_in begin p i = absurd (not_in_nil i)
  paths_in (add_face G m d) p i = paths_in G p i
  paths_in (add_path G f) p (here q) = subst (λ z. z < path_count P) (sym q) f.is_path
  paths_in (add_path G f) p (there j) = paths_in G p j

  paths_once : {L Q N : List ℕ} → Grown g P L Q N → NoRepeat Q
  paths_once begin = tt
  paths_once (add_face G m d) = paths_once G
  paths_once (add_path G f) = (f.new, paths_once G)

  face_node : {L Q N : List ℕ} → Grown g P L Q N → (f : ℕ) → In f L → In f N
  face_node begin f i = i
  face_node (add_face G m d) f (here q) = here q
  face_node (add_face G m d) f (there j) = there (face_node G f j)
  face_node (add_path G k) f i = there (face_node G f i)

  path_node : {L Q N : List ℕ} → Grown g P L Q N → (p : ℕ) → In p Q → In (node_of_path g p) N
  path_node begin p i = absurd (not_in_nil i)
  path_node (add_face G m d) p i = there (path_node G p i)
  path_node (add_path G f) p (here q) = here (ap (node_of_path g) q)
  path_node (add_path G f) p (there j) = there (path_node G p j)

  node_face : {L Q N : List ℕ} → Grown g P L Q N → (f : ℕ) → f < g.t_star → In f N → In f L
  node_face begin f l i = i
  node_face (add_face G m d) f l (here q) = here q
  node_face (add_face G m d) f l (there j) = there (node_face G f l j)
  node_face (add_path G k) f l (here q) = absurd (omega arith)
  node_face (add_path G k) f l (there j) = node_face G f l j

  node_path : {L Q N : List ℕ} → Grown g P L Q N → (p : ℕ) → In (node_of_path g p) N → In p Q
  node_path begin p (here q) = absurd (omega arith)
  node_path begin p (there j) = absurd (not_in_nil j)
  node_path (add_face G m d) p (here q) = let h = m.inner.not_t in absurd (omega arith)
  node_path (add_face G m d) p (there j) = node_path G p j
  node_path (add_path G k) p (here q) = here (omega arith)
  node_path (add_path G k) p (there j) = there (node_path G p j)

  nodes_once : {L Q N : List ℕ} → Grown g P L Q N → NoRepeat N
  nodes_once begin = (not_in_nil, tt)
  nodes_once (add_face {f = f} G m d) = ((λ i. m.new (node_face G f m.inner.not_t i)), nodes_once G)
  nodes_once (add_path {p = p} G k) = ((λ i. k.new (node_path G p i)), nodes_once G)

  no_t : {L Q N : List ℕ} → Grown g P L Q N → In g.t_star N → ⊥
  no_t begin (here q) = let h = S.has_t in omega arith
  no_t begin (there j) = not_in_nil j
  no_t (add_face G m d) (here q) = let h = m.inner.not_t in omega arith
  no_t (add_face G m d) (there j) = no_t G j
  no_t (add_path G k) (here q) = omega arith
  no_t (add_path G k) (there j) = no_t G j

  -- the order from left to right
  before_path : {L Q N : List ℕ} → Grown g P L Q N → (ys : List ℕ) (e : ℕ) → e < edge_count g → In (path_of P e) Q → Precedes (face_left g e) (node_of_path g (path_of P e)) (turn N ys)
  before_path begin ys e a i = absurd (not_in_nil i)
  before_path (add_face {f = f} G m d) ys e a i = before_path G (f ∷ ys) e a i
  before_path (add_path {N = N} {p = p} G k) ys e a (here q) = turn_before N (node_of_path g p ∷ ys) (face_left g e) (node_of_path g (path_of P e)) (face_node G (face_left g e) (k.ready e (subst (λ z. In e (path_at P.lists z)) q (V.home e a)))) (here (ap (node_of_path g) q))
  before_path (add_path {p = p} G k) ys e a (there j) = before_path G (node_of_path g p ∷ ys) e a j

  before_face : {L Q N : List ℕ} → Grown g P L Q N → (ys : List ℕ) (e : ℕ) → e < edge_count g → In (face_right g e) L → Precedes (node_of_path g (path_of P e)) (face_right g e) (turn N ys)
  before_face begin ys e a (here q) = let h : 0 < face_right g e = S.right_after e a in absurd (omega arith)
  before_face begin ys e a (there j) = absurd (not_in_nil j)
  before_face (add_face {N = N} {f = f} G m d) ys e a (here q) = turn_before N (f ∷ ys) (node_of_path g (path_of P e)) (face_right g e) (path_node G (path_of P e) (d e a q)) (here q)
  before_face (add_face {f = f} G m d) ys e a (there j) = before_face G (f ∷ ys) e a j
  before_face (add_path {p = p} G k) ys e a i = before_face G (node_of_path g p ∷ ys) e a i

  -- ---- all of it
  pub record Complete : Type 0 where
    pub faces : List ℕ
    pub paths : List ℕ
    pub nodes : List ℕ
    pub grown : Grown g P faces paths nodes
    pub has_face : (f : ℕ) → f < g.t_star → In f faces
    pub has_path : (p : ℕ) → p < path_count P → In p paths

  pub record More (L Q : List ℕ) : Type 0 where
    pub faces : List ℕ
    pub paths : List ℕ
    pub nodes : List ℕ
    pub grown : Grown g P faces paths nodes
    pub larger : length faces + length paths ≡ suc (length L + length Q)

  more : {L Q N : List ℕ} → Grown g P L Q N → Complete ⊎ More L Q
  more {L} {Q} {N} G = elim (any_below (λ p. (In p Q → ⊥) × ((e : ℕ) → In e (path_at P.lists p) → In (face_left g e) L)) free_dec (path_count P)) [
    | inl h ↦ inr (record { faces = L; paths = h.0 ∷ Q; nodes = node_of_path g h.0 ∷ N; grown = add_path G (record { is_path = h.1; new = h.2.0; ready = h.2.1 }); larger = omega arith })
    | inr none ↦ elim (any_below (λ f. In f L → ⊥) face_dec g.t_star) [
      | inl m ↦
          let B = boundary g S (swept_of G) in
          let inner : IsInner g m.0 = record { not_s = positive m.0 m.2; not_t = m.1 } in
          let F = free_face g S P V L (swept_of G) Q (fresh G) (stuck none) B.way B.walk B.are m.0 inner m.2 in
          inr (record { faces = F.face ∷ L; paths = Q; nodes = F.face ∷ N; grown = add_face G F.next F.done; larger = omega arith })
      | inr full ↦
          let has : (f : ℕ) → f < g.t_star → In f L = λ f l. elim (in_dec f L) [ inl i ↦ i | inr n ↦ absurd (full f l n) ] in
          inl (record {
            faces = L;
            paths = Q;
            nodes = N;
            grown = G;
            has_face = has;
            has_path = λ p l. elim (in_dec p Q) [
              | inl i ↦ i
              | inr n ↦ (let h = stuck none p l n in absurd (h.2 (has (face_left g h.0) (S.left_before h.0 (edge_of p l h.0 h.1)))))
            ];
          })
    ]
  ]
    where
      left_dec : Decided (λ e. In (face_left g e) L)
      left_dec e = in_dec (face_left g e) L

      free_dec : Decided (λ p. (In p Q → ⊥) × ((e : ℕ) → In e (path_at P.lists p) → In (face_left g e) L))
      free_dec p = elim (in_dec p Q) [
        | inl i ↦ inr (λ h. h.0 i)
        | inr n ↦ elim (all_in (λ e. In (face_left g e) L) left_dec (path_at P.lists p)) [ inl h ↦ inl (n, h) | inr h ↦ inr (λ k. h.2 (k.1 h.0 h.1)) ]
      ]

      face_dec : Decided (λ f. In f L → ⊥)
      face_dec f = elim (in_dec f L) [ inl i ↦ inr (λ n. n i) | inr n ↦ inl n ]

      positive : (f : ℕ) → (In f L → ⊥) → 0 < f
      positive f out = elim (cases_lt 0 f) [
        | inl h ↦ h
        | inr h ↦ (let q : 0 ≡ f = omega arith in absurd (out (in_subst q (swept_zero g S (swept_of G)))))
      ]

      edge_of : (p : ℕ) → p < path_count P → (e : ℕ) → In e (path_at P.lists p) → e < edge_count g
      edge_of p l e i = (on_walk (V.walks p l).walk i).arc

      stuck : ((p : ℕ) → p < path_count P → (In p Q → ⊥) × ((e : ℕ) → In e (path_at P.lists p) → In (face_left g e) L) → ⊥) → (p : ℕ) → p < path_count P → (In p Q → ⊥) → (e : ℕ) × In e (path_at P.lists p) × (In (face_left g e) L → ⊥)
      stuck none p l n = elim (all_in (λ e. In (face_left g e) L) left_dec (path_at P.lists p)) [
        | inl h ↦ absurd (none p l (n, h))
        | inr h ↦ h
      ]

  complete_from : (k : ℕ) {L Q N : List ℕ} → Grown g P L Q N → g.t_star + path_count P ≤ length L + length Q + k → Complete
  complete_from zero {L} {Q} {N} G h = elim (more G) [
    | inl c ↦ c
    | inr M ↦
        let a : length M.faces ≤ g.t_star = length-le_from_below g.t_star M.faces (swept_once g S (swept_of M.grown)) (swept_below g S (swept_of M.grown)) in
        let b : length M.paths ≤ path_count P = length-le_from_below (path_count P) M.paths (paths_once M.grown) (paths_in M.grown) in
        let l = M.larger in
        absurd (omega arith)
  ]
  complete_from (suc k) {L} {Q} {N} G h = elim (more G) [
    | inl c ↦ c
    | inr M ↦ (let l = M.larger in complete_from k M.grown (omega arith))
  ]

  complete : Complete
  complete = complete_from (g.t_star + path_count P) begin (omega arith)

  all_nodes : List ℕ
  all_nodes = turn complete.nodes (g.t_star ∷ [])

  nodes_distinct : NoRepeat all_nodes
  unfolding all_nodes
  nodes_distinct = turn_once complete.nodes (g.t_star ∷ []) (nodes_once complete.grown) (not_in_nil, tt) (λ x i j. elim (In-cases j) [ inl q ↦ no_t complete.grown (in_subst q i) | inr k ↦ not_in_nil k ])

  left_first : (e : ℕ) → e < edge_count g → Precedes (face_left g e) (node_of_path g (path_of P e)) all_nodes
  unfolding all_nodes
  left_first e a = before_path complete.grown (g.t_star ∷ []) e a (complete.has_path (path_of P e) (V.home_in e a))

  right_last : (e : ℕ) → e < edge_count g → Precedes (node_of_path g (path_of P e)) (face_right g e) all_nodes
  unfolding all_nodes
  right_last e a = elim (cases_lt (face_right g e) g.t_star) [
    | inl l ↦ before_face complete.grown (g.t_star ∷ []) e a (complete.has_face (face_right g e) l)
    | inr l ↦
        let w : face_right g e ≤ g.t_star = S.right_within e a in
        turn_before complete.nodes (g.t_star ∷ []) (node_of_path g (path_of P e)) (face_right g e) (path_node complete.grown (path_of P e) (complete.has_path (path_of P e) (V.home_in e a))) (here (omega arith))
  ]

  -- ---- the alignment graph
  ordered : (a : ℕ) → a < edge_count g + edge_count g → Precedes ((alignment g P).from a) ((alignment g P).to a) all_nodes
  ordered a l = elim (cases_lt a (edge_count g)) [
    | inl m ↦ subst (λ c. Precedes (cond c (face_left g a) (node_of_path g (path_of P (a - edge_count g)))) (cond c (node_of_path g (path_of P a)) (face_right g (a - edge_count g))) all_nodes) (sym (lt-ltb a (edge_count g) m)) (left_first a m)
    | inr m ↦ subst (λ c. Precedes (cond c (face_left g a) (node_of_path g (path_of P (a - edge_count g)))) (cond c (node_of_path g (path_of P a)) (face_right g (a - edge_count g))) all_nodes) (sym (le-ltb a (edge_count g) m)) (right_last (a - edge_count g) (omega arith))
  ]

  pub alignment_acyclic : IsAcyclic (alignment g P)
  alignment_acyclic = acyclic_by_order (alignment g P) all_nodes nodes_distinct ordered

  alignment_within : IsWithin (alignment g P) (g.t_star + 1 + path_count P)
  alignment_within = record {
    from_in = λ a l. elim (cases_lt a (edge_count g)) [
      | inl m ↦ subst (λ c. cond c (face_left g a) (node_of_path g (path_of P (a - edge_count g))) < g.t_star + 1 + path_count P) (sym (lt-ltb a (edge_count g) m)) (let h : face_left g a < g.t_star = S.left_before a m in omega arith)
      | inr m ↦ subst (λ c. cond c (face_left g a) (node_of_path g (path_of P (a - edge_count g))) < g.t_star + 1 + path_count P) (sym (le-ltb a (edge_count g) m)) (let h : path_of P (a - edge_count g) < path_count P = V.home_in (a - edge_count g) (omega arith) in omega arith)
    ];
    to_in = λ a l. elim (cases_lt a (edge_count g)) [
      | inl m ↦ subst (λ c. cond c (node_of_path g (path_of P a)) (face_right g (a - edge_count g)) < g.t_star + 1 + path_count P) (sym (lt-ltb a (edge_count g) m)) (let h : path_of P a < path_count P = V.home_in a m in omega arith)
      | inr m ↦ subst (λ c. cond c (node_of_path g (path_of P a)) (face_right g (a - edge_count g)) < g.t_star + 1 + path_count P) (sym (le-ltb a (edge_count g) m)) (let h : face_right g (a - edge_count g) ≤ g.t_star = S.right_within (a - edge_count g) (omega arith) in omega arith)
    ];
  }

  -- each node but s* has an arc to it
  pub alignment_has_in : (x : ℕ) → x < g.t_star + 1 + path_count P → x ≢ 0 → (a : ℕ) × (a < edge_count g + edge_count g) × ((alignment g P).to a ≡ x)
  alignment_has_in x l d = elim (cases_lt x (g.t_star + 1)) [
    | inl m ↦ second x (dual_has_in g S x m d)
    | inr m ↦ first (x - (g.t_star + 1)) (omega arith) (omega arith)
  ]
    where
      second : (x : ℕ) → (e : ℕ) × (e < edge_count g) × (face_right g e ≡ x) → (a : ℕ) × (a < edge_count g + edge_count g) × ((alignment g P).to a ≡ x)
      second x h =
          let i : h.0 < edge_count g = h.1 in
          let e : edge_count g + h.0 - edge_count g ≡ h.0 = omega arith in
          (edge_count g + h.0, omega arith, subst (λ c. cond c (node_of_path g (path_of P (edge_count g + h.0))) (face_right g (edge_count g + h.0 - edge_count g)) ≡ x) (sym (le-ltb (edge_count g + h.0) (edge_count g) (omega arith))) (ap (face_right g) e ∙ h.2))

      first : (p : ℕ) → p < path_count P → node_of_path g p ≡ x → (a : ℕ) × (a < edge_count g + edge_count g) × ((alignment g P).to a ≡ x)
      first p i q =
          let K = V.walks p i in
          let a : K.some.0 < edge_count g = (on_walk K.walk K.some.1).arc in
          let e : path_of P K.some.0 ≡ p = V.only_home p K.some.0 i K.some.1 in
          (K.some.0, omega arith, subst (λ c. cond c (node_of_path g (path_of P K.some.0)) (face_right g (K.some.0 - edge_count g)) ≡ x) (sym (lt-ltb K.some.0 (edge_count g) a)) (ap (node_of_path g) e ∙ q))

  pub alignment_law : AlignmentLaw g P
  alignment_law = record {
    acyclic = alignment_acyclic;
    greatest = greatest_law (alignment g P) (g.t_star + 1 + path_count P) (alignment_weight g) 0 alignment_acyclic alignment_within alignment_has_in;
  }
