-- The boundary of a list of dual nodes that is closed to the left is a walk from source to sink.
use Rattle.std.proofs.Common.{ℕ, List, [], ◌∷◌, ◌++◌, ◌≡◌, ◌<◌, ◌≤◌, inl, inr, refl, sym, subst, arith}
use Rattle.st_ids.specs.Lists.{In, here, there, NoRepeat, Lists}
use Rattle.st_ids.specs.Walks.{Walk, stay, step, Reaches}
use Rattle.st_sides.specs.Sides.{SidesValue, edge_count, face_left, face_right, low, high, left_path, right_path, primal, dual, IsInner, IsSides}
use Rattle.st_sides.specs.Sweep.{OnBoundary, Boundary}
use Rattle.st_ids.proofs.Public.{not_in_nil, In-cases, in_left, in_right, in_append, in_subst, walk_from, walk_to, walk_append, walk_once, apart, Part, part_of}

-- f may come next after the list
pub record IsNext (g : SidesValue) (L : List ℕ) (f : ℕ) : Type 0 where
  pub inner : IsInner g f
  pub new : In f L → ⊥
  pub ready : (e : ℕ) → e < edge_count g → face_right g e ≡ f → In (face_left g e) L

-- The lists, the newest node first, that grow from s* in this way.
pub data Swept (g : SidesValue) : List ℕ → Type 0 where
  start : Swept g (0 ∷ [])
  grow : {L : List ℕ} {f : ℕ} → Swept g L → IsNext g L f → Swept g (f ∷ L)

module _ (g : SidesValue) (S : IsSides g) where
  pub closed : {L : List ℕ} → Swept g L → (e : ℕ) → e < edge_count g → In (face_right g e) L → In (face_left g e) L
  closed start e a i = elim (In-cases i) [ inl q ↦ (let h : 0 < face_right g e = S.right_after e a in absurd (omega arith)) | inr j ↦ absurd (not_in_nil j) ]
  closed (grow s n) e a i = elim (In-cases i) [ inl q ↦ there (n.ready e a q) | inr j ↦ there (closed s e a j) ]

  closed_walk : {L : List ℕ} → Swept g L → {a b : ℕ} {es : List ℕ} → Walk (dual g) a es b → In b L → In a L
  closed_walk s (stay q) i = in_subst (sym q) i
  closed_walk s (step {e = e} a f r) i = in_subst f (closed s e a (closed_walk s r i))

  pub closed_reach : {L : List ℕ} → Swept g L → {a b : ℕ} → Reaches (dual g) a b → In b L → In a L
  closed_reach s r i = closed_walk s r.walk i

  pub swept_below : {L : List ℕ} → Swept g L → (f : ℕ) → In f L → f < g.t_star
  swept_below start f (here q) = let h = S.has_t in omega arith
  swept_below start f (there j) = absurd (not_in_nil j)
  swept_below (grow s n) f (here q) = let h = n.inner.not_t in omega arith
  swept_below (grow s n) f (there j) = swept_below s f j

  pub swept_zero : {L : List ℕ} → Swept g L → In 0 L
  swept_zero start = here refl
  swept_zero (grow s n) = there (swept_zero s)

  pub swept_once : {L : List ℕ} → Swept g L → NoRepeat L
  swept_once start = (not_in_nil, tt)
  swept_once (grow s n) = (n.new, swept_once s)

  start_boundary : Boundary g (0 ∷ [])
  start_boundary =
      let w = walk_from S.low_s (walk_to S.high_s (S.right_path_walk 0 S.has_t)) in
      let k = S.right_path_are 0 S.has_t in
      record {
        way = right_path g 0;
        walk = w;
        are = record {
          only = λ e i. record {
            arc = (k.only e i).0;
            left_in = here (k.only e i).1;
            right_out = λ j. elim (In-cases j) [ inl q ↦ (let h : 0 < face_right g e = S.right_after e (k.only e i).0 in absurd (omega arith)) | inr j ↦ absurd (not_in_nil j) ];
          };
          all = λ e o. elim (In-cases o.left_in) [ inl q ↦ k.all e (o.arc, q) | inr j ↦ absurd (not_in_nil j) ];
          once = walk_once S.acyclic w;
        };
      }

  module _ (L : List ℕ) (f : ℕ) (s : Swept g L) (n : IsNext g L f) (B : Boundary g L) where
    f_le : f ≤ g.t_star
    f_le = let h = n.inner.not_t in omega arith

    lefts : Lists (left_path g f) (λ e. (e < edge_count g) × (face_right g e ≡ f))
    lefts = S.left_path_are f n.inner.not_s f_le

    rights : Lists (right_path g f) (λ e. (e < edge_count g) × (face_left g e ≡ f))
    rights = S.right_path_are f n.inner.not_t

    left_walk : Walk (primal g) (low g f) (left_path g f) (high g f)
    left_walk = S.left_path_walk f n.inner.not_s f_le

    on_way : (e : ℕ) → In e (left_path g f) → In e B.way
    on_way e i =
        let h = lefts.only e i in
        B.are.all e (record { arc = h.0; left_in = n.ready e h.0 h.1; right_out = λ j. n.new (in_subst h.1 j) })

    P : Part (primal g) g.source B.way g.sink (low g f) (left_path g f) (high g f)
    P = let some = S.left_path_some f n.inner in part_of S.acyclic (left_path g f) some.0 some.1 B.walk left_walk on_way

    way : List ℕ
    way = P.before ++ (right_path g f ++ P.after)

    -- an old edge whose right is not f
    kept : (e : ℕ) → In e B.way → (face_right g e ≡ f → ⊥) → OnBoundary g (f ∷ L) e
    kept e i other =
        let o = B.are.only e i in
        record { arc = o.arc; left_in = there o.left_in; right_out = λ j. elim (In-cases j) [ inl q ↦ other q | inr j ↦ o.right_out j ] }

    way_only : (e : ℕ) → In e way → OnBoundary g (f ∷ L) e
    unfolding way
    way_only e i = elim (in_append P.before i) [
      | inl a ↦ kept e (subst (λ z. In e z) (sym P.is) (in_left _ a)) (λ q.
          apart S.acyclic P.first (walk_append left_walk P.last) a (in_left _ (lefts.all e (arc_of e (in_left _ a), q))))
      | inr b ↦ elim (in_append (right_path g f) b) [
        | inl c ↦
            let h = rights.only e c in
            record {
              arc = h.0;
              left_in = here h.1;
              right_out = λ j. elim (In-cases j) [
                | inl q ↦ n.new (in_subst h.1 (n.ready e h.0 q))
                | inr j ↦ n.new (in_subst h.1 (closed s e h.0 j))
              ];
            }
        | inr d ↦ kept e (subst (λ z. In e z) (sym P.is) (in_right P.before (in_right (left_path g f) d))) (λ q.
            apart S.acyclic (walk_append P.first left_walk) P.last (in_right P.before (lefts.all e (arc_of e (in_right P.before (in_right (left_path g f) d)), q))) d)
      ]
    ]
      where
        arc_of : (e : ℕ) → In e (P.before ++ (left_path g f ++ P.after)) → e < edge_count g
        arc_of e i = (B.are.only e (subst (λ z. In e z) (sym P.is) i)).arc

    way_all : (e : ℕ) → OnBoundary g (f ∷ L) e → In e way
    unfolding way
    way_all e o = elim (In-cases o.left_in) [
      | inl q ↦ in_right P.before (in_left _ (rights.all e (o.arc, q)))
      | inr j ↦ elim (in_append P.before (subst (λ z. In e z) P.is (B.are.all e (record { arc = o.arc; left_in = j; right_out = λ k. o.right_out (there k) })))) [
        | inl a ↦ in_left _ a
        | inr b ↦ elim (in_append (left_path g f) b) [
          | inl c ↦ absurd (o.right_out (here (lefts.only e c).1))
          | inr d ↦ in_right P.before (in_right (right_path g f) d)
        ]
      ]
    ]

    way_walk : Walk (primal g) g.source way g.sink
    unfolding way
    way_walk = walk_append P.first (walk_append (S.right_path_walk f n.inner.not_t) P.last)

    grow_boundary : Boundary g (f ∷ L)
    grow_boundary = record {
      way = way;
      walk = way_walk;
      are = record { only = way_only; all = way_all; once = walk_once S.acyclic way_walk };
    }

  pub boundary : {L : List ℕ} → Swept g L → Boundary g L
  boundary start = start_boundary
  boundary (grow {L} {f} s n) = grow_boundary L f s n (boundary s)
