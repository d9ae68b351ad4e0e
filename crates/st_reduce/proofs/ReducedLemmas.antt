-- All transitive edges split, one after the other.
use Rattle.std.proofs.Common.{◌≡◌, ◌≢◌, ℕ, zero, suc, ◌+◌, ◌-◌, ◌<◌, ◌≤◌, List, [], ◌∷◌, ◌++◌, length, get_or, Option, Some, None, inl, inr, refl, sym, ap, ◌∙◌, subst, arith, length-append}
use Rattle.std.specs.Prelude.{◌↔◌}
use Rattle.std.proofs.lemmas.Bool.{cases_eq, cases_lt}
use Rattle.std.proofs.lemmas.List.{get_or_past, get_or_append_left, get_or-append-add}
use Rattle.st_ids.specs.Graph.{arcs_of}
use Rattle.st_ids.specs.Walks.{Reaches}
use Rattle.st_map.specs.Embedded.{Embedded, bare, edges}
use Rattle.st_map.specs.Split.{split, SplitsEdge}
use Rattle.st_map.proofs.Public.{split_law}
use Rattle.st_test.specs.Planar.{IsPlanarSt}
use Rattle.st_reduce.specs.Reduced.{IsTransitiveEdge, KeepsPlanar, Splits, begin, keep, cut, dummy_at, ReducedLaw}
use Rattle.st_reduce.proofs.ArcLemmas.{SplitKeeps}
use Rattle.st_reduce.proofs.DecideLemmas.{transitive_dec}
use Rattle.st_reduce.proofs.SplitLemmas.{split_planar, digraph_law}

-- what a split of an edge of a planar st-graph is
pub split_of : (g : Embedded) (s t outer e : ℕ) → IsPlanarSt g s t outer → e < edges g → SplitsEdge g (split g e) e
split_of g s t outer e st l = (split_law g e (record { ends = st.ends_in; orders = st.orders }) l).0

-- an entry for each edge that was gone through
pub length-splits : (g : Embedded) (k : ℕ) (ds : List (Option ℕ)) (h : Embedded) → Splits g k ds h → length ds ≡ k
length-splits g k ds h begin = refl
length-splits g k ds h (keep {k = j} {ds = cs} S n) = length-append cs (None ∷ []) ∙ (let z : length cs ≡ j = length-splits g j cs h S in let w : length cs + 1 ≡ suc j = omega arith in w)
length-splits g k ds h (cut {k = j} {ds = cs} {h = h0} S T) = length-append cs (Some h0.vertices ∷ []) ∙ (let z : length cs ≡ j = length-splits g j cs h0 S in let w : length cs + 1 ≡ suc j = omega arith in w)

-- ---- entries of a list with one more
pub entry_old : (cs : List (Option ℕ)) (x : Option ℕ) (e : ℕ) → e ≢ length cs → dummy_at (cs ++ x ∷ []) e ≡ dummy_at cs e
unfolding dummy_at
entry_old cs x e n = elim (cases_lt e (length cs)) [
  | inl l ↦ get_or_append_left cs (x ∷ []) None e l
  | inr l ↦
      ap (λ z. get_or (cs ++ x ∷ []) z None) (let z : e ≡ length cs + suc (e - length cs - 1) = omega arith in z)
      ∙ get_or-append-add cs (x ∷ []) (suc (e - length cs - 1)) None ∙ past (e - length cs - 1) ∙ sym (get_or_past cs e None l)
]
  where
    past : (k : ℕ) → get_or (x ∷ []) (suc k) None ≡ None
    past k = get_or_past (x ∷ []) (suc k) None (let z : 1 ≤ suc k = omega arith in z)

pub entry_new : (cs : List (Option ℕ)) (x : Option ℕ) (e : ℕ) → e ≡ length cs → dummy_at (cs ++ x ∷ []) e ≡ x
unfolding dummy_at
entry_new cs x e q = ap (λ z. get_or (cs ++ x ∷ []) z None) (let z : e ≡ length cs + 0 = omega arith in z) ∙ get_or-append-add cs (x ∷ []) 0 None

pub entry_none : (cs : List (Option ℕ)) (e : ℕ) → length cs ≤ e → dummy_at cs e ≡ None
unfolding dummy_at
entry_none cs e l = get_or_past cs e None l

-- without a new entry nothing changes
pub entry_kept : (cs : List (Option ℕ)) (e : ℕ) → dummy_at (cs ++ None ∷ []) e ≡ dummy_at cs e
entry_kept cs e = elim (cases_eq e (length cs)) [
  | inl q ↦ entry_new cs None e q ∙ sym (entry_none cs e (omega arith))
  | inr n ↦ entry_old cs None e n
]

-- the dummies of the edges that were gone through
dummies : (g : Embedded) (k : ℕ) (ds : List (Option ℕ)) (h : Embedded) → Splits g k ds h → (e : ℕ) → e < k
    → ((IsTransitiveEdge g e → ⊥) → dummy_at ds e ≡ None) × (IsTransitiveEdge g e → (w : ℕ) × (dummy_at ds e ≡ Some w))
dummies g k ds h begin e l = absurd (omega arith)
dummies g k ds h (keep {k = j} {ds = cs} S n) e l =
    let len : length cs ≡ j = length-splits g j cs h S in
    elim (cases_lt e j) [
      | inl m ↦ (let r = dummies g j cs h S e m in ((λ q. entry_kept cs e ∙ r.0 q), (λ T. let w = r.1 T in (w.0, entry_kept cs e ∙ w.1))))
      | inr m ↦ (let q : e ≡ j = omega arith in ((λ u. entry_new cs None e (q ∙ sym len)), (λ T. absurd (n (subst (IsTransitiveEdge g) q T)))))
    ]
dummies g k ds h (cut {k = j} {ds = cs} {h = h0} S T) e l =
    let len : length cs ≡ j = length-splits g j cs h0 S in
    elim (cases_lt e j) [
      | inl m ↦
          let r = dummies g j cs h0 S e m in
          let o : dummy_at (cs ++ Some h0.vertices ∷ []) e ≡ dummy_at cs e = entry_old cs (Some h0.vertices) e (λ q. omega arith) in
          ((λ q. o ∙ r.0 q), (λ U. let w = r.1 U in (w.0, o ∙ w.1)))
      | inr m ↦ (let q : e ≡ j = omega arith in ((λ u. absurd (u (subst (IsTransitiveEdge g) (sym q) T))), (λ U. (h0.vertices, entry_new cs (Some h0.vertices) e (q ∙ sym len)))))
    ]

-- ---- after the first k edges
pub record After (g : Embedded) (s t outer k : ℕ) (h : Embedded) : Type 0 where
  pub st : IsPlanarSt h s t outer
  pub more_vertices : g.vertices ≤ h.vertices
  pub more_edges : edges g ≤ edges h
  pub as_many : h.vertices + edges g ≡ g.vertices + edges h
  pub reaches : (u v : ℕ) → u < g.vertices → v < g.vertices → Reaches (arcs_of (bare g)) u v ↔ Reaches (arcs_of (bare h)) u v
  pub later : (a : ℕ) → k ≤ a → a < edges g → IsTransitiveEdge h a ↔ IsTransitiveEdge g a
  pub done : (a : ℕ) → a < k → IsTransitiveEdge h a → ⊥
  pub new : (a : ℕ) → edges g ≤ a → a < edges h → IsTransitiveEdge h a → ⊥

module _ (g : Embedded) (s t outer : ℕ) (st : IsPlanarSt g s t outer) where
  pub after : (k : ℕ) (ds : List (Option ℕ)) (h : Embedded) → Splits g k ds h → k ≤ edges g → After g s t outer k h
  after k ds h begin l = record {
    st = st;
    more_vertices = omega arith;
    more_edges = omega arith;
    as_many = omega arith;
    reaches = λ u v a b. ((λ r. r), (λ r. r));
    later = λ a k l. ((λ r. r), (λ r. r));
    done = λ a l T. omega arith;
    new = λ a i j T. omega arith;
  }
  after k ds h (keep {k = j} {ds = cs} S n) l =
      let A = after j cs h S (omega arith) in
      record {
        st = A.st;
        more_vertices = A.more_vertices;
        more_edges = A.more_edges;
        as_many = A.as_many;
        reaches = A.reaches;
        later = λ a i m. A.later a (omega arith) m;
        done = λ a i T. elim (cases_eq a j) [
          | inl q ↦ n ((A.later j (omega arith) (omega arith)).0 (subst (λ z. IsTransitiveEdge h z) q T))
          | inr d ↦ A.done a (omega arith) T
        ];
        new = A.new;
      }
  after k ds h (cut {k = j} {ds = cs} {h = h0} S T) l =
      let A = after j cs h0 S (omega arith) in
      let m0 : edges g ≤ edges h0 = A.more_edges in
      let I : SplitsEdge h0 (split h0 j) j = split_of h0 s t outer j A.st (omega arith) in
      let P : KeepsPlanar h0 (split h0 j) s t outer = split_planar h0 s t outer j A.st I.there in
      let Q : SplitKeeps (arcs_of (bare h0)) (arcs_of (bare (split h0 j))) h0.vertices j = digraph_law h0 (split h0 j) s t outer j A.st I in
      let v : (split h0 j).vertices ≡ suc h0.vertices = I.vertices in
      let e : edges (split h0 j) ≡ suc (edges h0) = I.count in
      let mv : g.vertices ≤ h0.vertices = A.more_vertices in
      let me : edges g ≤ edges h0 = A.more_edges in
      record {
        st = P.planar;
        more_vertices = omega arith;
        more_edges = omega arith;
        as_many = omega (arith, A.as_many);
        reaches = λ u w a b. (
          (λ r. (P.reaches u w (omega arith) (omega arith)).0 ((A.reaches u w a b).0 r)),
          (λ r. (A.reaches u w a b).1 ((P.reaches u w (omega arith) (omega arith)).1 r)),
        );
        later = λ a i m. (
          (λ r. (A.later a (omega arith) m).0 ((Q.others a (omega arith) (λ q. omega arith)).1 r)),
          (λ r. (Q.others a (omega arith) (λ q. omega arith)).0 ((A.later a (omega arith) m).1 r)),
        );
        done = λ a i R. elim (cases_eq a j) [
          | inl q ↦ Q.first (subst (λ z. IsTransitiveEdge (split h0 j) z) q R)
          | inr d ↦ A.done a (omega arith) ((Q.others a (omega arith) d).1 R)
        ];
        new = λ a i m R. elim (cases_eq a (edges h0)) [
          | inl q ↦ Q.second (subst (λ z. IsTransitiveEdge (split h0 j) z) q R)
          | inr d ↦ A.new a i (omega arith) ((Q.others a (omega arith) (λ q. omega arith)).1 R)
        ];
      }

  some : (k : ℕ) → k ≤ edges g → (ds : List (Option ℕ)) × (h : Embedded) × Splits g k ds h
  some zero l = ([], g, begin)
  some (suc k) l =
      let r = some k (omega arith) in
      elim (transitive_dec (arcs_of (bare g)) g.vertices st.no_cycle (record { from_in = λ e i. (st.ends_in e i).0; to_in = λ e i. (st.ends_in e i).1 }) k (omega arith)) [
        | inr n ↦ (r.0 ++ None ∷ [], r.1, keep r.2 n)
        | inl T ↦ (r.0 ++ Some r.1.vertices ∷ [], split r.1 k, cut r.2 T)
      ]

pub reduced_law : ReducedLaw
reduced_law g s t outer st = (
  some g s t outer st (edges g) (omega arith),
  (λ ds h S.
      let A : After g s t outer (edges g) h = after g s t outer st (edges g) ds h S (omega arith) in
      record {
        size = length-splits g (edges g) ds h S;
        plain = λ e l. (dummies g (edges g) ds h S e l).0;
        split = λ e l. (dummies g (edges g) ds h S e l).1;
        keeps = record { planar = A.st; reaches = A.reaches };
        more = A.more_vertices;
        none = λ a l T. elim (cases_lt a (edges g)) [
          | inl k ↦ A.done a k T
          | inr k ↦ A.new a k l T
        ];
      }),
)
