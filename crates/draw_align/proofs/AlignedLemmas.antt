-- While a face is missing and no path can be added, some face can whose left path is on done paths alone.
use Rattle.std.proofs.Common.{ℕ, List, [], ◌∷◌, ◌++◌, ◌≡◌, ◌≢◌, ◌<◌, ◌≤◌, ◌⊎◌, inl, inr, refl, sym, ap, ◌∙◌, subst, arith}
use Rattle.std.proofs.lemmas.Bool.{cases_eq}
use Rattle.st_ids.specs.Lists.{In, here, there, Precedes, LastIs, EndIs, Lists}
use Rattle.st_ids.specs.Walks.{Walk, stay, step, Reaches}
use Rattle.st_sides.specs.Sides.{SidesValue, edge_count, edge_tail, edge_head, face_left, face_right, outs, ins, low, high, left_path, right_of, primal, IsInner, IsSides}
use Rattle.st_sides.specs.Sweep.{OnBoundary}
use Rattle.draw_align.specs.Alignment.{Paths, path_count, path_of, AreValid}
use Rattle.draw_align.specs.Listed.{path_at, IsPath}
use Rattle.st_ids.proofs.Public.{not_in_nil, In-cases, in_subst, in_dec, in_right, in_append, walk_from, walk_to, walk_append, halves, on_walk, no_loop, unique_tail, arrives, departs, reach_refl, reach_trans, reach_arc, down}
use Rattle.st_sides.proofs.Public.{beside_out, beside_in, order_out, order_in, order_out_beside, order_in_beside, IsNext, Swept, closed_reach, swept_below, search, within, next_face, across_out}
use Rattle.draw_align.proofs.ChoiceLemmas.{Decided, any_below, last_with, first_with}

-- a face that may come next, with done paths alone on its left path
pub record FreeFace (g : SidesValue) (P : Paths) (L Q : List ℕ) : Type 0 where
  pub face : ℕ
  pub next : IsNext g L face
  pub done : (e : ℕ) → e < edge_count g → face_right g e ≡ face → In (path_of P e) Q

-- the path of x isn't done, and goes on from x off the boundary
pub record Leaves (g : SidesValue) (P : Paths) (L Q : List ℕ) (x : ℕ) : Type 0 where
  pub undone : In (path_of P x) Q → ⊥
  pub next : ℕ
  pub is_arc : next < edge_count g
  pub same : path_of P next ≡ path_of P x
  pub begins : edge_tail g next ≡ edge_head g x
  pub off : In (face_left g next) L → ⊥

pub leaves_dec : (g : SidesValue) (P : Paths) (L Q : List ℕ) → Decided (Leaves g P L Q)
leaves_dec g P L Q x = elim (in_dec (path_of P x) Q) [
  | inl i ↦ inr (λ h. h.undone i)
  | inr n ↦ elim (any_below (λ y. (path_of P y ≡ path_of P x) × (edge_tail g y ≡ edge_head g x) × (In (face_left g y) L → ⊥)) dec (edge_count g)) [
    | inl h ↦ inl (record { undone = n; next = h.0; is_arc = h.1; same = h.2.0; begins = h.2.1; off = h.2.2 })
    | inr h ↦ inr (λ k. h k.next k.is_arc (k.same, k.begins, k.off))
  ]
]
  where
    dec : Decided (λ y. (path_of P y ≡ path_of P x) × (edge_tail g y ≡ edge_head g x) × (In (face_left g y) L → ⊥))
    dec y = elim (cases_eq (path_of P y) (path_of P x)) [
      | inr n ↦ inr (λ h. n h.0)
      | inl p ↦ elim (cases_eq (edge_tail g y) (edge_head g x)) [
        | inr n ↦ inr (λ h. n h.1)
        | inl q ↦ elim (in_dec (face_left g y) L) [ inl i ↦ inr (λ h. h.2 i) | inr n ↦ inl (p, q, n) ]
      ]
    ]

-- the edge of the same path that comes to where e begins
pub record Comes (g : SidesValue) (P : Paths) (e : ℕ) : Type 0 where
  pub arc : ℕ
  pub is_arc : arc < edge_count g
  pub same : path_of P arc ≡ path_of P e
  pub ends : edge_head g arc ≡ edge_tail g e

pub record DoneRise (g : SidesValue) (P : Paths) (Q : List ℕ) (x : ℕ) : Type 0 where
  pub done : In (path_of P x) Q
  pub inner : IsInner g (face_right g x)
  pub at : low g (face_right g x) ≡ edge_tail g x

pub record DoneRiseIn (g : SidesValue) (P : Paths) (Q rest : List ℕ) : Type 0 where
  pub edge : ℕ
  pub within : In edge rest
  pub rise : DoneRise g P Q edge

-- a walk from the source, no edge of which has its right in the list
pub record RightWalk (g : SidesValue) (L : List ℕ) (m : ℕ) : Type 0 where
  pub way : List ℕ
  pub walk : Walk (primal g) g.source way m
  pub off : (e : ℕ) → In e way → In (face_right g e) L → ⊥

pub record Last (Q : ℕ → Type 0) (xs : List ℕ) : Type 0 where
  pub element : ℕ
  pub within : In element xs
  pub holds : Q element

pub end_of : (Q : ℕ → Type 0) (x : ℕ) (ys : List ℕ) → EndIs Q x ys → Last Q (x ∷ ys)
end_of Q x [] h = record { element = x; within = here refl; holds = h }
end_of Q x (y ∷ ys) h = let k = end_of Q y ys h in record { element = k.element; within = there k.within; holds = k.holds }

pub last_of : (Q : ℕ → Type 0) (xs : List ℕ) → LastIs Q xs → Last Q xs
last_of Q [] h = absurd h
last_of Q (x ∷ xs) h = end_of Q x xs h

module _ (g : SidesValue) (S : IsSides g) (L : List ℕ) (s : Swept g L) where
  -- the tail of an edge with its right outside has its right outside
  pub right_out : (x : ℕ) → x < edge_count g → (In (face_right g x) L → ⊥) → In (right_of g (edge_tail g x)) L → ⊥
  right_out x a out i = elim (cases_eq (edge_tail g x) g.source) [
    | inl q ↦
        let h : right_of g (edge_tail g x) < g.t_star = swept_below g S s (right_of g (edge_tail g x)) i in
        let k : right_of g (edge_tail g x) ≡ g.t_star = ap (right_of g) q ∙ S.right_source in
        absurd (omega arith)
    | inr n ↦ out (closed_reach g S s (across_out g S (edge_tail g x) x (S.tail_in x a) n (S.sink_last x a) a refl).1 i)
  ]

  pub right_walk : (m : ℕ) → m < g.vertices → m ≢ g.sink → (In (right_of g m) L → ⊥) → RightWalk g L m
  right_walk = down (primal g) g.vertices S.acyclic (within g S) (λ m. m ≢ g.sink → (In (right_of g m) L → ⊥) → RightWalk g L m) (λ m i ih n out. elim (cases_eq m g.source) [
    | inl q ↦ record { way = []; walk = stay (sym q); off = λ e j. absurd (not_in_nil j) }
    | inr d ↦
        let h = last_of (λ e. right_of g m ≡ face_right g e) (ins g m) (S.right_in m i d n) in
        let k = (S.ins_are m i).only h.element h.within in
        let off : In (face_right g h.element) L → ⊥ = λ j. out (in_subst (sym h.holds) j) in
        let W = ih h.element k.0 k.1 (S.sink_last h.element k.0) (right_out h.element k.0 off) in
        record {
          way = W.way ++ h.element ∷ [];
          walk = walk_append W.walk (step k.0 refl (stay k.1));
          off = λ e j. elim (in_append W.way j) [
            | inl a ↦ W.off e a
            | inr b ↦ elim (In-cases b) [ inl q ↦ (λ z. off (in_subst (ap (face_right g) q) z)) | inr c ↦ absurd (not_in_nil c) ]
          ];
        }
  ])

module _ (g : SidesValue) (S : IsSides g) (P : Paths) (V : AreValid g P) (L : List ℕ) (s : Swept g L) (Q : List ℕ)
    (fresh : (e : ℕ) → e < edge_count g → (In (path_of P e) Q → ⊥) → In (face_right g e) L → ⊥)
    (stuck : (p : ℕ) → p < path_count P → (In p Q → ⊥) → (e : ℕ) × In e (path_at P.lists p) × (In (face_left g e) L → ⊥))
    (b : List ℕ) (walk : Walk (primal g) g.source b g.sink) (are : Lists b (OnBoundary g L)) where
  -- R is the part of the boundary above which no path leaves it
  module _ (r : ℕ) (R : List ℕ) (R-walk : Walk (primal g) r R g.sink) (sub : (e : ℕ) → In e R → In e b) (none : (x : ℕ) → In x R → Leaves g P L Q x → ⊥) where
    stays_on : (p x u z : ℕ) (es : List ℕ) → In x R → path_of P x ≡ p → (In p Q → ⊥) → edge_head g x ≡ u → Walk (primal g) u es z → ((d : ℕ) → In d es → path_of P d ≡ p) → (d : ℕ) → In d es → In (face_left g d) L
    stays_on p x u z es i home undone hx (stay q) homes d j = absurd (not_in_nil j)
    stays_on p x u z es i home undone hx (step {e = y} {es = ys} a t w) homes d j =
        let y_home : path_of P y ≡ p = homes y (here refl) in
        elim (in_dec (face_left g y) L) [
          | inr out ↦ absurd (none x i (record {
            undone = λ k. undone (in_subst home k);
            next = y;
            is_arc = a;
            same = y_home ∙ sym home;
            begins = t ∙ sym hx;
            off = out;
          }))
          | inl l ↦
              let on : In y b = are.all y (record { arc = a; left_in = l; right_out = fresh y a (λ k. undone (in_subst y_home k)) }) in
              let more : In y R = elim (departs R-walk x i) [
                | inl q ↦ absurd (S.sink_last y a (t ∙ sym hx ∙ q))
                | inr D ↦ in_subst (unique_tail S.acyclic walk D.arc y (sub D.arc D.on) on (D.begins ∙ hx ∙ sym t)) D.on
              ] in
              elim (In-cases j) [
                | inl q ↦ in_subst (ap (face_left g) (sym q)) l
                | inr k ↦ stays_on p y (edge_head g y) z ys more y_home undone refl w (λ d k. homes d (there k)) d k
              ]
        ]

    -- an edge of an undone path on R is not its path's first
    comes : (e : ℕ) → In e R → (In (path_of P e) Q → ⊥) → Comes g P e
    comes e i undone = elim (arrives K.walk e (V.home e a)) [
      | inl q ↦ (let h = stuck (path_of P e) (V.home_in e a) undone in absurd (h.2 (all_left (path_at P.lists (path_of P e)) K.walk (V.home e a) (λ d j. V.only_home (path_of P e) d (V.home_in e a) j) q h.0 h.1)))
      | inr A ↦ record { arc = A.arc; is_arc = (on_walk K.walk A.on).arc; same = V.only_home (path_of P e) A.arc (V.home_in e a) A.on; ends = A.ends }
    ]
      where
        a : e < edge_count g
        a = (are.only e (sub e i)).arc

        K : IsPath g (path_at P.lists (path_of P e))
        K = V.walks (path_of P e) (V.home_in e a)

        all_left : (es : List ℕ) → Walk (primal g) K.from es K.to → In e es → ((d : ℕ) → In d es → path_of P d ≡ path_of P e) → edge_tail g e ≡ K.from → (d : ℕ) → In d es → In (face_left g d) L
        all_left es (stay k) m homes q d j = absurd (not_in_nil m)
        all_left es (step {e = x} {es = xs} c t w) m homes q d j =
            let p : x ≡ e = unique_tail S.acyclic (step c t w) x e (here refl) m (t ∙ sym q) in
            elim (In-cases j) [
              | inl k ↦ in_subst (ap (face_left g) (sym (k ∙ p))) (are.only e (sub e i)).left_in
              | inr k ↦ stays_on (path_of P e) e (edge_head g e) K.to xs i refl undone refl (walk_from (ap (edge_head g) p) w) (λ d k. homes d (there k)) d k
            ]

    -- no undone path passes on along R from the head of x, if x is done and the left path of its right face goes on there
    passes_none : (x e : ℕ) (es : List ℕ) → In x b → In (path_of P x) Q → Walk (primal g) (edge_head g x) (e ∷ es) (high g (face_right g x)) → (d : ℕ) → In d R → edge_tail g d ≡ edge_head g x → In (path_of P d) Q
    passes_none x e es i done up d j q = elim (in_dec (path_of P d) Q) [
      | inl k ↦ k
      | inr undone ↦
          let C = comes d j undone in
          absurd (elim (beside_in g S C.arc x C.is_arc (are.only x i).arc (C.ends ∙ q)) [
            | inl p ↦ undone (in_subst (ap (path_of P) (sym p) ∙ C.same) done)
            | inr h ↦ elim h [
              | inl B ↦ fresh C.arc C.is_arc (λ k. undone (in_subst C.same k)) (closed_reach g S s B.across (are.only x i).left_in)
              | inr B ↦ S.acyclic (edge_head g x) e es (walk_to (B.meets.at ∙ C.ends ∙ q) up)
            ]
          ])
    ]

    trace : (f x u y : ℕ) (rest T : List ℕ) → y ≡ high g f → In x b → In (path_of P x) Q → face_right g x ≡ f → edge_head g x ≡ u → Reaches (primal g) (low g f) (edge_tail g x) → Walk (primal g) u rest g.sink → ((e : ℕ) → In e rest → In e R) → Walk (primal g) u T y → ((e : ℕ) → In e T → face_right g e ≡ f) → ((e : ℕ) → In e T → In e b × In (path_of P e) Q) ⊎ DoneRiseIn g P Q rest
    trace f x u y rest T yq i done rx hx lo wr into (stay q) rp = inl (λ e j. absurd (not_in_nil j))
    trace f x u y rest T yq i done rx hx lo (stay q) into (step a t w) rp = absurd (S.sink_last _ a (t ∙ q))
    trace f x u y rest T yq i done rx hx lo (step {e = z} {es = zs} a' t' w') into (step {e = e} {es = es} a t w) rp =
        let up : Walk (primal g) (edge_head g x) (e ∷ es) (high g (face_right g x)) = walk_from (sym hx) (walk_to (yq ∙ ap (high g) (sym rx)) (step a t w)) in
        let z_in : In z R = into z (here refl) in
        let z_done : In (path_of P z) Q = passes_none x e es i done up z z_in (t' ∙ sym hx) in
        elim (cases_eq z e) [
          | inl q ↦
              let on : In e b = in_subst q (sub z z_in) in
              let e_done : In (path_of P e) Q = in_subst (ap (path_of P) q) z_done in
              elim (trace f e (edge_head g e) y zs es yq on e_done (rp e (here refl)) refl
              (reach_trans (reach_trans lo (reach_arc x (are.only x i).arc)) (reach_refl (hx ∙ sym t)))
              (walk_from (ap (edge_head g) q) w') (λ d j. into d (there j)) w (λ d j. rp d (there j))) [
                | inl h ↦ inl (λ d j. elim (In-cases j) [ inl p ↦ (in_subst (sym p) on, in_subst (ap (path_of P) (sym p)) e_done) | inr k ↦ h d k ])
                | inr h ↦ inr (record { edge = h.edge; within = there h.within; rise = h.rise })
              ]
          | inr apart ↦ elim (beside_out g S z e a' a (t' ∙ sym t)) [
            | inl q ↦ absurd (apart q)
            | inr d ↦ elim d [
              | inl p ↦ inr (record { edge = z; within = here refl; rise = record { done = z_done; inner = p.meets.inner; at = p.meets.at } })
              | inr p ↦ absurd (no_loop S.acyclic x (are.only x i).arc (reach_trans (reach_refl (hx ∙ sym t' ∙ sym p.meets.at ∙ ap (low g) (rp e (here refl)))) lo))
            ]
          ]
        ]

    from_edge : (x : ℕ) (rest : List ℕ) → In x b → DoneRise g P Q x → Walk (primal g) (edge_head g x) rest g.sink → ((e : ℕ) → In e rest → In e R) → FreeFace g P L Q ⊎ DoneRiseIn g P Q rest
    from_edge x rest i h wr into = go (left_path g (face_right g x)) (S.left_path_walk (face_right g x) h.inner.not_s le) (lefts.all x (arc, refl)) lefts.only (λ e a q. lefts.all e (a, q))
      where
        arc : x < edge_count g
        arc = (are.only x i).arc

        le : face_right g x ≤ g.t_star
        le = let k = h.inner.not_t in omega arith

        lefts : Lists (left_path g (face_right g x)) (λ e. (e < edge_count g) × (face_right g e ≡ face_right g x))
        lefts = S.left_path_are (face_right g x) h.inner.not_s le

        go : (T : List ℕ) → Walk (primal g) (low g (face_right g x)) T (high g (face_right g x)) → In x T → ((e : ℕ) → In e T → (e < edge_count g) × (face_right g e ≡ face_right g x)) → ((e : ℕ) → e < edge_count g → face_right g e ≡ face_right g x → In e T) → FreeFace g P L Q ⊎ DoneRiseIn g P Q rest
        go T (stay q) j only all = absurd (not_in_nil j)
        go T (step {e = e} {es = es} a t w) j only all =
            let q : e ≡ x = unique_tail S.acyclic (step a t w) e x (here refl) j (t ∙ h.at) in
            elim (trace (face_right g x) x (edge_head g x) _ rest es refl i h.done refl refl (reach_refl h.at) wr into (walk_from (ap (edge_head g) q) w) (λ d k. (only d (there k)).1)) [
              | inl k ↦
                  let each : (d : ℕ) → In d (e ∷ es) → In d b × In (path_of P d) Q = λ d m. elim (In-cases m) [
                    | inl p ↦ (in_subst (sym (p ∙ q)) i, in_subst (ap (path_of P) (sym (p ∙ q))) h.done)
                    | inr n ↦ k d n
                  ] in
                  inl (record {
                    face = face_right g x;
                    next = record {
                      inner = h.inner;
                      new = (are.only x i).right_out;
                      ready = λ d a p. (are.only d (each d (all d a p)).0).left_in;
                    };
                    done = λ d a p. (each d (all d a p)).1;
                  })
              | inr k ↦ inr k
            ]

    search_up : (u : ℕ) (rest : List ℕ) → Walk (primal g) u rest g.sink → ((e : ℕ) → In e rest → In e R) → (x : ℕ) → In x rest → DoneRise g P Q x → FreeFace g P L Q
    search_up u rest (stay q) into x i h = absurd (not_in_nil i)
    search_up u rest (step {e = y} {es = ys} a t w) into x (here q) h =
        elim (from_edge x ys (sub x (into x (here q))) h (walk_from (ap (edge_head g) (sym q)) w) (λ d j. into d (there j))) [
          | inl found ↦ found
          | inr k ↦ search_up (edge_head g y) ys w (λ d j. into d (there j)) k.edge k.within k.rise
        ]
    search_up u rest (step {e = y} {es = ys} a t w) into x (there j) h = search_up (edge_head g y) ys w (λ d j. into d (there j)) x j h

  -- a path leaves the boundary upwards at its highest such place
  module _ (x : ℕ) (R : List ℕ) (x-on : In x b) (h : Leaves g P L Q x) (R-walk : Walk (primal g) (edge_head g x) R g.sink) (sub : (e : ℕ) → In e R → In e b) (none : (x : ℕ) → In x R → Leaves g P L Q x → ⊥) where
    v_in : edge_head g x < g.vertices
    v_in = S.head_in x (are.only x x-on).arc

    next_undone : In (path_of P h.next) Q → ⊥
    next_undone k = h.undone (in_subst h.same k)

    -- one path doesn't have two edges out of one vertex
    other_path : (z : ℕ) → In z R → edge_tail g z ≡ edge_head g x → path_of P z ≡ path_of P h.next → ⊥
    other_path z i q same =
        let a : z < edge_count g = (are.only z (sub z i)).arc in
        let K = V.walks (path_of P h.next) (V.home_in h.next h.is_arc) in
        let e : z ≡ h.next = unique_tail S.acyclic K.walk z h.next (subst (λ w. In z (path_at P.lists w)) same (V.home z a)) (V.home h.next h.is_arc) (q ∙ sym h.begins) in
        h.off (in_subst (ap (face_left g) e) (are.only z (sub z i)).left_in)

    -- the boundary's next edge is done
    next_done : (z : ℕ) → In z R → edge_tail g z ≡ edge_head g x → Precedes z h.next (outs g (edge_head g x)) → In (path_of P z) Q
    next_done z i q order = elim (in_dec (path_of P z) Q) [
      | inl k ↦ k
      | inr undone ↦
          let a : z < edge_count g = (are.only z (sub z i)).arc in
          let a' : x < edge_count g = (are.only x x-on).arc in
          let C = comes (edge_head g x) R R-walk sub none z i undone in
          absurd (elim (order_in g S (edge_head g x) C.arc x v_in C.is_arc a' (C.ends ∙ q) refl) [
            | inl p ↦ other_path z i q (sym C.same ∙ ap (path_of P) p ∙ sym h.same)
            | inr m ↦ elim m [
              | inl o ↦ fresh C.arc C.is_arc (λ k. undone (in_subst C.same k)) (closed_reach g S s (order_in_beside g S (edge_head g x) C.arc x v_in o).across (are.only x x-on).left_in)
              | inr o ↦ V.apart (path_of P x) (path_of P z) (edge_head g x) (V.home_in x a') (V.home_in z a) (λ s. other_path z i q (sym s ∙ sym h.same)) v_in (record {
                x = x;
                y = h.next;
                x' = C.arc;
                y' = z;
                x_on = V.home x a';
                y_on = subst (λ w. In h.next (path_at P.lists w)) h.same (V.home h.next h.is_arc);
                x'_on = subst (λ w. In C.arc (path_at P.lists w)) C.same (V.home C.arc C.is_arc);
                y'_on = V.home z a;
                in_order = o;
                out_order = order;
              })
            ]
          ])
    ]

    from_leaver : FreeFace g P L Q
    from_leaver = go R R-walk (λ e i. i)
      where
        go : (rest : List ℕ) → Walk (primal g) (edge_head g x) rest g.sink → ((e : ℕ) → In e rest → In e R) → FreeFace g P L Q
        go rest (stay q) into = absurd (S.sink_last h.next h.is_arc (h.begins ∙ q))
        go rest (step {e = z} {es = zs} a t w) into =
            let i : In z R = into z (here refl) in
            elim (order_out g S (edge_head g x) z h.next v_in a h.is_arc t h.begins) [
              | inl q ↦ absurd (h.off (in_subst (ap (face_left g) q) (are.only z (sub z i)).left_in))
              | inr m ↦ elim m [
                | inr o ↦ absurd (fresh h.next h.is_arc next_undone (closed_reach g S s (order_out_beside g S (edge_head g x) h.next z v_in o).across (are.only z (sub z i)).left_in))
                | inl o ↦
                    let B = order_out_beside g S (edge_head g x) z h.next v_in o in
                    search_up (edge_head g x) R R-walk sub none (edge_head g x) rest (step a t w) into z (here refl) (record { done = next_done z i t o; inner = B.meets.inner; at = B.meets.at ∙ sym t })
              ]
            ]

  -- no path leaves the boundary upwards, and e is the lowest edge on it of a path that isn't done
  from_comer : (before after : List ℕ) (e : ℕ) → b ≡ before ++ e ∷ after → (In (path_of P e) Q → ⊥) → ((x : ℕ) → In x before → (In (path_of P x) Q → ⊥) → ⊥) → ((x : ℕ) → In x b → Leaves g P L Q x → ⊥) → FreeFace g P L Q
  from_comer before after e is undone below none =
      let on : (d : ℕ) → In d (e ∷ after) → In d b = λ d i. subst (λ z. In d z) (sym is) (in_right before i) in
      let C = comes g.source b walk (λ d i. i) none e (on e (here refl)) undone in
      let H = halves before (e ∷ after) (subst (λ z. Walk (primal g) g.source z g.sink) is walk) in
      go on C H.mid H.second
    where
      go : ((d : ℕ) → In d (e ∷ after) → In d b) → (C : Comes g P e) → (m : ℕ) → Walk (primal g) m (e ∷ after) g.sink → FreeFace g P L Q
      go on C m (step a t w) =
          let c_undone : In (path_of P C.arc) Q → ⊥ = λ k. undone (in_subst C.same k) in
          let out : In (face_right g C.arc) L → ⊥ = fresh C.arc C.is_arc c_undone in
          let A = right_walk g S L s (edge_tail g C.arc) (S.tail_in C.arc C.is_arc) (S.sink_last C.arc C.is_arc) (right_out g S L s C.arc C.is_arc out) in
          let W-walk = walk_append A.walk (step C.is_arc refl (step a (sym C.ends) w)) in
          elim (search g S L s b walk are (A.way ++ C.arc ∷ (e ∷ after)) W-walk (λ d i. elim (in_append A.way i) [
            | inl j ↦ A.off d j
            | inr j ↦ elim (In-cases j) [
              | inl q ↦ (λ k. out (in_subst (ap (face_right g) q) k))
              | inr k ↦ (are.only d (on d k)).right_out
            ]
          ])) [
            | inl q ↦ absurd (elim (in_append before (subst (λ z. In C.arc z) (sym q ∙ is) (in_right A.way (here refl)))) [
              | inl i ↦ below C.arc i c_undone
              | inr i ↦ elim (In-cases i) [
                | inl p ↦ no_loop S.acyclic e a (reach_refl (ap (edge_head g) (sym p) ∙ C.ends))
                | inr j ↦ no_loop S.acyclic C.arc C.is_arc (reach_trans (reach_refl C.ends) (reach_trans (reach_arc e a) (on_walk w j).before))
              ]
            ])
            | inr N ↦ record {
              face = N.face;
              next = N.next;
              done = λ d k q.
                  let d_on : In d b = are.all d (record { arc = k; left_in = N.next.ready d k q; right_out = λ j. N.next.new (in_subst q j) }) in
                  elim (in_append before (subst (λ z. In d z) is d_on)) [
                    | inl i ↦ elim (in_dec (path_of P d) Q) [ inl j ↦ j | inr n ↦ absurd (below d i n) ]
                    | inr i ↦ absurd (N.off d (in_right A.way (there i)) q)
                  ];
            }
          ]

  pub free_face : (f : ℕ) → IsInner g f → (In f L → ⊥) → FreeFace g P L Q
  free_face f inner missing = elim (last_with (Leaves g P L Q) (leaves_dec g P L Q) b) [
    | inl h ↦
        let H = halves h.before (h.element ∷ h.after) (subst (λ z. Walk (primal g) g.source z g.sink) h.is walk) in
        let on : (d : ℕ) → In d (h.element ∷ h.after) → In d b = λ d i. subst (λ z. In d z) (sym h.is) (in_right h.before i) in
        from_leaver h.element h.after (on h.element (here refl)) h.holds (beyond h.element h.after H.mid H.second) (λ d i. on d (there i)) h.none
    | inr none ↦ elim (first_with (λ e. In (path_of P e) Q → ⊥) undone_dec b) [
      | inl h ↦ from_comer h.before h.after h.element h.is h.holds h.none none
      | inr all ↦
          let N = next_face g S s f inner missing in
          record {
            face = N.face;
            next = N.next;
            done = λ d k q.
                let d_on : In d b = are.all d (record { arc = k; left_in = N.next.ready d k q; right_out = λ j. N.next.new (in_subst q j) }) in
                elim (in_dec (path_of P d) Q) [ inl j ↦ j | inr n ↦ absurd (all d d_on n) ];
          }
    ]
  ]
    where
      undone_dec : Decided (λ e. In (path_of P e) Q → ⊥)
      undone_dec e = elim (in_dec (path_of P e) Q) [ inl i ↦ inr (λ n. n i) | inr n ↦ inl n ]

      beyond : (x : ℕ) (rest : List ℕ) (m : ℕ) → Walk (primal g) m (x ∷ rest) g.sink → Walk (primal g) (edge_head g x) rest g.sink
      beyond x rest m (step a t w) = w
