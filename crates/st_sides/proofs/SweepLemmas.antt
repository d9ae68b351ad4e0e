-- While an inner face is outside, some face may come next. So a sweep exists, and the dual has no cycle.
use Rattle.std.proofs.Common.{ℕ, zero, suc, List, [], ◌∷◌, length, ◌≡◌, ◌<◌, ◌≤◌, ◌+◌, ◌⊎◌, inl, inr, refl, sym, ap, ◌∙◌, subst, arith}
use Rattle.std.proofs.lemmas.Bool.{cases_eq, cases_lt}
use Rattle.st_ids.specs.Lists.{In, here, there, Precedes, Linked, FirstIs}
use Rattle.st_ids.specs.Walks.{Walk, stay, step, IsAcyclic}
use Rattle.st_sides.specs.Sides.{SidesValue, edge_count, edge_tail, edge_head, face_left, face_right, outs, ins, low, high, left_path, right_path, left_of, primal, dual, IsInner, MeetsLow, IsSides}
use Rattle.st_sides.specs.Sweep.{OnBoundary, IsLeftPart, BoundaryLaw, IsSweep, SweepLaw}
use Rattle.st_ids.proofs.Public.{not_in_nil, In-cases, in_subst, in_dec, turn, turn_left, turn_right, in_turn, turn_once, turned_once, turned_apart, turn_before, turned_Precedes, Precedes-right, Precedes_trans, Precedes_irrefl, first_of, FirstIs-weaken, walk_from, walk_to, on_walk, no_loop, reach_refl, reach_trans, IsWithin, down, length-le_from_below}
use Rattle.st_sides.proofs.FanLemmas.{beside_after, along}
use Rattle.st_sides.proofs.BoundaryLemmas.{Swept, start, grow, swept_below, swept_zero, swept_once, boundary}
use Rattle.st_sides.proofs.SearchLemmas.{NextLeftOf, search}

module _ (g : SidesValue) (S : IsSides g) where
  pub within : IsWithin (primal g) g.vertices
  within = record { from_in = S.tail_in; to_in = S.head_in }

  -- the first edge out of the source has s* on its left
  pub source_first_left : (e : ℕ) → e < edge_count g → edge_tail g e ≡ g.source → FirstIs (λ d. face_left g d ≡ 0) (outs g g.source)
  source_first_left e a t = go (right_path g 0) (walk_from S.low_s (walk_to S.high_s (S.right_path_walk 0 S.has_t))) (λ d i. ((S.right_path_are 0 S.has_t).only d i).1)
    where
      from : (d : ℕ) (xs : List ℕ) → face_left g d ≡ 0 → ((x : ℕ) → In x xs → x < edge_count g) → Linked (MeetsLow g g.source) xs → In d xs → FirstIs (λ d. face_left g d ≡ 0) xs
      from d [] z in_range lk i = absurd (not_in_nil i)
      from d (x ∷ xs) z in_range lk (here q) = ap (face_left g) (sym q) ∙ z
      from d (x ∷ xs) z in_range lk (there j) =
          let b = beside_after g (MeetsLow g g.source) (λ e e' m. m.same) x xs (λ y i. in_range y (there i)) lk.0 lk.1 d j in
          let h : 0 < face_right g b.last = b.met.inner.not_s in
          let k : face_right g b.last ≡ 0 = b.met.same ∙ z in
          absurd (omega arith)

      go : (P : List ℕ) → Walk (primal g) g.source P g.sink → ((d : ℕ) → In d P → face_left g d ≡ 0) → FirstIs (λ d. face_left g d ≡ 0) (outs g g.source)
      go P (stay q) z = absurd (S.sink_last e a (t ∙ q))
      go P (step {e = d} a' t' r) z =
          let k = S.outs_are g.source S.source_in in
          from d (outs g g.source) (z d (here refl)) (λ x i. (k.only x i).0) (S.outs_meet g.source S.source_in) (k.all d (a', t'))

  -- where no edge on the boundary has an inner face on its right, all edges have their left in the list
  module _ (L : List ℕ) (s : Swept g L) (stops : (e : ℕ) → OnBoundary g L e → face_right g e ≡ g.t_star) where
    pass : (v d d' : ℕ) → d < edge_count g → MeetsLow g v d d' → In (face_left g d) L → In (face_left g d') L
    pass v d d' a m i = elim (in_dec (face_right g d) L) [
      | inl j ↦ in_subst m.same j
      | inr out ↦
          let q : face_right g d ≡ g.t_star = stops d (record { arc = a; left_in = i; right_out = out }) in
          let h = m.inner.not_t in
          absurd (omega arith)
    ]

    firsts : (v : ℕ) → v < g.vertices → ((e : ℕ) → e < edge_count g → edge_head g e ≡ v → (d : ℕ) → d < edge_count g → edge_tail g d ≡ edge_tail g e → In (face_left g d) L) → (d : ℕ) → d < edge_count g → edge_tail g d ≡ v → FirstIs (λ e. In (face_left g e) L) (outs g v)
    firsts v i ih d a t = elim (cases_eq v g.source) [
      | inl q ↦ subst (λ z. FirstIs (λ e. In (face_left g e) L) (outs g z)) (sym q)
          (FirstIs-weaken (λ e. face_left g e ≡ 0) (λ e. In (face_left g e) L) (outs g g.source) (λ x j p. in_subst (sym p) (swept_zero g S s)) (source_first_left d a (t ∙ q)))
      | inr n ↦
          let n' : v ≡ g.sink → ⊥ = λ p. S.sink_last d a (t ∙ p) in
          let f = first_of (λ e. left_of g v ≡ face_left g e) (ins g v) (S.left_in v i n n') in
          let k = (S.ins_are v i).only f.element f.within in
          let j : In (left_of g v) L = in_subst (sym f.holds) (ih f.element k.0 k.1 f.element k.0 refl) in
          FirstIs-weaken (λ e. left_of g v ≡ face_left g e) (λ e. In (face_left g e) L) (outs g v) (λ x m p. in_subst p j) (S.left_out v i n n')
    ]

    lefts_in : (v : ℕ) → v < g.vertices → (d : ℕ) → d < edge_count g → edge_tail g d ≡ v → In (face_left g d) L
    lefts_in = down (primal g) g.vertices S.acyclic within (λ v. (d : ℕ) → d < edge_count g → edge_tail g d ≡ v → In (face_left g d) L) (λ v i ih d a t.
        let k = S.outs_are v i in
        along g (MeetsLow g v) (λ e e' m. m.same) (λ e. In (face_left g e) L) (pass v) (outs g v) (λ x j. (k.only x j).0) (S.outs_meet v i) (firsts v i ih d a t) d (k.all d (a, t)))

  -- the right path of an inner face has an edge
  right_some : (f : ℕ) → IsInner g f → (e : ℕ) × In e (right_path g f)
  right_some f inner = go (right_path g f) (S.right_path_walk f inner.not_t)
    where
      le : f ≤ g.t_star
      le = let h = inner.not_t in omega arith

      go : (Q : List ℕ) → Walk (primal g) (low g f) Q (high g f) → (e : ℕ) × In e Q
      go Q (stay q) =
          let some = S.left_path_some f inner in
          let h = on_walk (S.left_path_walk f inner.not_s le) some.1 in
          absurd (no_loop S.acyclic some.0 h.arc (reach_trans h.after (reach_trans (reach_refl (sym q)) h.before)))
      go Q (step {e = e} a t r) = (e, here refl)

  -- some face may come next where an inner face is outside
  pub next_face : {L : List ℕ} → Swept g L → (f : ℕ) → IsInner g f → (In f L → ⊥) → NextLeftOf g L (left_path g g.t_star)
  next_face {L} s f inner out =
      let B = boundary g S s in
      let le : g.t_star ≤ g.t_star = omega arith in
      let k = S.left_path_are g.t_star S.has_t le in
      elim (search g S L s B.way B.walk B.are (left_path g g.t_star) (walk_from S.low_t (walk_to S.high_t (S.left_path_walk g.t_star S.has_t le))) (λ e i j.
      let h : face_right g e < g.t_star = swept_below g S s (face_right g e) j in
      let q : face_right g e ≡ g.t_star = (k.only e i).1 in
      absurd (omega arith))) [
        | inl q ↦
            let some = right_some f inner in
            let r = (S.right_path_are f inner.not_t).only some.0 some.1 in
            absurd (out (in_subst r.1 (lefts_in L s (λ e o. (k.only e (subst (λ z. In e z) q (B.are.all e o))).1) (edge_tail g some.0) (S.tail_in some.0 r.0) some.0 r.0 refl)))
        | inr h ↦ h
      ]

  -- ---- a list from left to right, seen as one that grows
  pub record AsSwept (xs : List ℕ) : Type 0 where
    pub list : List ℕ
    pub swept : Swept g list
    pub into : (x : ℕ) → In x list → In x xs
    pub back : (x : ℕ) → In x xs → In x list

  as_swept_from : (acc rest : List ℕ) → Swept g acc → IsLeftPart g (turn acc rest) → AsSwept (turn acc rest)
  as_swept_from acc [] s P = record {
    list = acc;
    swept = s;
    into = λ x i. turn_left acc [] i;
    back = λ x i. elim (in_turn acc [] i) [ inl j ↦ j | inr j ↦ absurd (not_in_nil j) ];
  }
  as_swept_from acc (f ∷ rest) s P =
      let out : In f acc → ⊥ = λ i. turned_apart acc (f ∷ rest) P.once f i (here refl) in
      let once = turned_once acc (f ∷ rest) P.once in
      as_swept_from (f ∷ acc) rest (grow s (record {
        inner = record { not_s = positive out; not_t = P.nodes f (turn_right acc (f ∷ rest) (here refl)) };
        new = out;
        ready = λ e a q. elim (turned_Precedes acc (f ∷ rest) (face_left g e) (face_right g e) (P.ordered e a (in_subst (sym q) (turn_right acc (f ∷ rest) (here refl))))) [
          | inl i ↦ i
          | inr k ↦ elim k [
            | inl m ↦ absurd (once.0 (in_subst q m.1))
            | inr m ↦ absurd (once.0 (in_subst q (Precedes-right rest (face_left g e) (face_right g e) m)))
          ]
        ];
      })) P
    where
      positive : (In f acc → ⊥) → 0 < f
      positive out = elim (cases_lt 0 f) [
        | inl h ↦ h
        | inr h ↦ (let q : 0 ≡ f = omega arith in absurd (out (in_subst q (swept_zero g S s))))
      ]

  pub as_swept : (xs : List ℕ) → IsLeftPart g xs → AsSwept xs
  as_swept [] P = absurd P.first
  as_swept (x ∷ xs) P =
      let q : x ≡ 0 = P.first in
      subst (λ z. AsSwept (z ∷ xs)) (sym q) (as_swept_from (0 ∷ []) xs start (subst (λ z. IsLeftPart g (z ∷ xs)) q P))

  pub boundary_law : BoundaryLaw g
  boundary_law = record {
    boundary = λ xs P.
        let A = as_swept xs P in
        let B = boundary g S A.swept in
        record {
          way = B.way;
          walk = B.walk;
          are = record {
            only = λ e i. let o = B.are.only e i in record { arc = o.arc; left_in = A.into _ o.left_in; right_out = λ j. o.right_out (A.back _ j) };
            all = λ e o. B.are.all e (record { arc = o.arc; left_in = A.back _ o.left_in; right_out = λ j. o.right_out (A.into _ j) });
            once = B.are.once;
          };
        };
    grows = λ xs P f inner out.
        let A = as_swept xs P in
        let N = next_face A.swept f inner (λ i. out (A.into f i)) in
        let h = N.next.inner.not_t in
        let le : N.face ≤ g.t_star = omega arith in
        let k = S.left_path_are N.face N.next.inner.not_s le in
        record {
          face = N.face;
          inner = N.next.inner;
          outside = λ i. N.next.new (A.back N.face i);
          left_path_on = λ e i.
              let m = k.only e i in
              record { arc = m.0; left_in = A.into _ (N.next.ready e m.0 m.1); right_out = λ j. N.next.new (A.back N.face (in_subst m.1 j)) };
        };
  }

  -- ---- a sweep
  pub record Full : Type 0 where
    pub list : List ℕ
    pub swept : Swept g list
    pub has : (f : ℕ) → f < g.t_star → In f list

  missing : (L : List ℕ) (n : ℕ) → n ≤ g.t_star → In 0 L → ((f : ℕ) → f < n → In f L) ⊎ ((f : ℕ) × IsInner g f × (In f L → ⊥))
  missing L zero le z = inl (λ f h. absurd (omega arith))
  missing L (suc m) le z = elim (in_dec m L) [
    | inl i ↦ elim (missing L m (omega arith) z) [
      | inl h ↦ inl (λ f k. elim (cases_eq f m) [ inl q ↦ in_subst (sym q) i | inr n ↦ h f (omega arith) ])
      | inr h ↦ inr h
    ]
    | inr n ↦ inr (m, (record { not_s = positive n; not_t = le }), n)
  ]
    where
      positive : (In m L → ⊥) → 0 < m
      positive out = elim (cases_lt 0 m) [
        | inl h ↦ h
        | inr h ↦ (let q : 0 ≡ m = omega arith in absurd (out (in_subst q z)))
      ]

  full_from : (k : ℕ) (L : List ℕ) → Swept g L → g.t_star ≤ length L + k → Full
  full_from zero L s h = elim (missing L g.t_star (omega arith) (swept_zero g S s)) [
    | inl a ↦ record { list = L; swept = s; has = a }
    | inr m ↦
        let l : length (m.0 ∷ L) ≤ g.t_star = length-le_from_below g.t_star (m.0 ∷ L) (m.2, swept_once g S s) (λ x i. elim (In-cases i) [ inl q ↦ subst (λ z. z < g.t_star) (sym q) m.1.not_t | inr j ↦ swept_below g S s x j ]) in
        absurd (omega arith)
  ]
  full_from (suc k) L s h = elim (missing L g.t_star (omega arith) (swept_zero g S s)) [
    | inl a ↦ record { list = L; swept = s; has = a }
    | inr m ↦
        let N = next_face s m.0 m.1 m.2 in
        full_from k (N.face ∷ L) (grow s N.next) (omega arith)
  ]

  pub full : Full
  full = full_from g.t_star (0 ∷ []) start (omega arith)

  swept_ordered : {L : List ℕ} → Swept g L → (ys : List ℕ) (e : ℕ) → e < edge_count g → In (face_right g e) L → Precedes (face_left g e) (face_right g e) (turn L ys)
  swept_ordered start ys e a i = elim (In-cases i) [ inl q ↦ (let h : 0 < face_right g e = S.right_after e a in absurd (omega arith)) | inr j ↦ absurd (not_in_nil j) ]
  swept_ordered (grow {L} {f} s n) ys e a i = elim (In-cases i) [
    | inl q ↦ turn_before L (f ∷ ys) (face_left g e) (face_right g e) (n.ready e a q) (here q)
    | inr j ↦ swept_ordered s (f ∷ ys) e a j
  ]

  pub sweep_items : List ℕ
  sweep_items = turn full.list (g.t_star ∷ [])

  pub is_sweep : IsSweep g sweep_items
  unfolding sweep_items
  is_sweep = record {
    nodes = record {
      only = λ f i. elim (in_turn full.list (g.t_star ∷ []) i) [
        | inl j ↦ (let h : f < g.t_star = swept_below g S full.swept f j in omega arith)
        | inr j ↦ elim (In-cases j) [ inl q ↦ omega arith | inr k ↦ absurd (not_in_nil k) ]
      ];
      all = λ f h. elim (cases_lt f g.t_star) [
        | inl l ↦ turn_left full.list (g.t_star ∷ []) (full.has f l)
        | inr l ↦ turn_right full.list (g.t_star ∷ []) (here (omega arith))
      ];
      once = turn_once full.list (g.t_star ∷ []) (swept_once g S full.swept) (not_in_nil, tt) (λ x i j. elim (In-cases j) [
        | inl q ↦ (let h : x < g.t_star = swept_below g S full.swept x i in absurd (omega arith))
        | inr k ↦ not_in_nil k
      ]);
    };
    ordered = λ e a. elim (cases_lt (face_right g e) g.t_star) [
      | inl l ↦ swept_ordered full.swept (g.t_star ∷ []) e a (full.has (face_right g e) l)
      | inr l ↦
          let w : face_right g e ≤ g.t_star = S.right_within e a in
          turn_before full.list (g.t_star ∷ []) (face_left g e) (face_right g e) (full.has (face_left g e) (S.left_before e a)) (here (omega arith))
    ];
  }

  dual_precedes : (xs : List ℕ) → IsSweep g xs → (u e v : ℕ) (es : List ℕ) → Walk (dual g) u (e ∷ es) v → Precedes u v xs
  dual_precedes xs W u e v [] (step a t (stay q)) = subst (λ z. Precedes z v xs) t (subst (λ z. Precedes (face_left g e) z xs) q (W.ordered e a))
  dual_precedes xs W u e v (d ∷ es) (step a t r) =
      Precedes_trans xs u (face_right g e) v W.nodes.once (subst (λ z. Precedes z (face_right g e) xs) t (W.ordered e a)) (dual_precedes xs W (face_right g e) d v es r)

  pub dual_acyclic : IsAcyclic (dual g)
  dual_acyclic u e es k = Precedes_irrefl sweep_items u is_sweep.nodes.once (dual_precedes sweep_items is_sweep u e u es k)

  pub sweep_law : SweepLaw g
  sweep_law = record { items = sweep_items; sweep = is_sweep; acyclic = dual_acyclic }
