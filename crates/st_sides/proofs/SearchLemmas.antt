-- Where the boundary differs from a walk from source to sink on its right, a face between them may come next.
use Rattle.std.proofs.Common.{ℕ, List, ◌∷◌, ◌≡◌, ◌<◌, ◌≤◌, ◌⊎◌, inl, inr, refl, sym, ap, ◌∙◌, arith}
use Rattle.std.proofs.lemmas.Bool.{cases_eq}
use Rattle.st_ids.specs.Lists.{In, here, there, Lists}
use Rattle.st_ids.specs.Walks.{Walk, stay, step, Reaches}
use Rattle.st_sides.specs.Sides.{SidesValue, edge_count, edge_tail, edge_head, face_right, low, high, left_path, primal, IsInner, IsSides}
use Rattle.st_sides.specs.Sweep.{OnBoundary}
use Rattle.st_ids.proofs.Public.{not_in_nil, In-cases, in_subst, walk_from, walk_to, on_walk, no_loop, unique_tail, arrives, reach_refl, reach_trans, reach_arc}
use Rattle.st_sides.proofs.FanLemmas.{beside_out, beside_in}
use Rattle.st_sides.proofs.BoundaryLemmas.{IsNext, Swept, closed_reach}

-- a face that may come next, and has no edge of the walk on its left path
pub record NextLeftOf (g : SidesValue) (L W : List ℕ) : Type 0 where
  pub face : ℕ
  pub next : IsNext g L face
  pub off : (e : ℕ) → In e W → face_right g e ≡ face → ⊥

-- an edge of the boundary, off the walk, with which the left path of its right face begins
pub record Rises (g : SidesValue) (b W : List ℕ) (x : ℕ) : Type 0 where
  pub on : In x b
  pub off : In x W → ⊥
  pub inner : IsInner g (face_right g x)
  pub at : low g (face_right g x) ≡ edge_tail g x

pub record RisesIn (g : SidesValue) (b W rest : List ℕ) : Type 0 where
  pub edge : ℕ
  pub within : In edge rest
  pub rises : Rises g b W edge

pub record OnAndOff (b W : List ℕ) (e : ℕ) : Type 0 where
  pub on : In e b
  pub off : In e W → ⊥

module _ (g : SidesValue) (S : IsSides g) (L : List ℕ) (s : Swept g L) (b : List ℕ) (walk : Walk (primal g) g.source b g.sink) (are : Lists b (OnBoundary g L)) (W : List ℕ) (W-walk : Walk (primal g) g.source W g.sink) (right_of : (e : ℕ) → In e W → In (face_right g e) L → ⊥) where
  -- the walk doesn't pass the head of x, if x is off the walk and the left path of its right face goes on there
  passes_none : (x e : ℕ) (es : List ℕ) → In x b → (In x W → ⊥) → Walk (primal g) (edge_head g x) (e ∷ es) (high g (face_right g x)) → (w : ℕ) → In w W → edge_tail g w ≡ edge_head g x → ⊥
  passes_none x e es i off up w j q = elim (arrives W-walk w j) [
    | inl p ↦ S.source_first x (are.only x i).arc (sym q ∙ p)
    | inr h ↦ elim (beside_in g S h.arc x (on_walk W-walk h.on).arc (are.only x i).arc (h.ends ∙ q)) [
      | inl p ↦ off (in_subst p h.on)
      | inr d ↦ elim d [
        | inl p ↦ right_of h.arc h.on (closed_reach g S s p.across (are.only x i).left_in)
        | inr p ↦ S.acyclic (edge_head g x) e es (walk_to (p.meets.at ∙ h.ends ∙ q) up)
      ]
    ]
  ]

  -- up a left path from below its first edge on, beside the boundary
  trace : (f x u y : ℕ) (rest P : List ℕ) → y ≡ high g f → IsInner g f → In x b → (In x W → ⊥) → face_right g x ≡ f → edge_head g x ≡ u → Reaches (primal g) (low g f) (edge_tail g x) → Walk (primal g) u rest g.sink → ((e : ℕ) → In e rest → In e b) → Walk (primal g) u P y → ((e : ℕ) → In e P → face_right g e ≡ f) → ((e : ℕ) → In e P → OnAndOff b W e) ⊎ RisesIn g b W rest
  trace f x u y rest P yq inner i off rx hx lo wr sub (stay q) rp = inl (λ e j. absurd (not_in_nil j))
  trace f x u y rest P yq inner i off rx hx lo (stay q) sub (step a t r) rp = absurd (S.sink_last _ a (t ∙ q))
  trace f x u y rest P yq inner i off rx hx lo (step {e = z} {es = zs} a' t' r') sub (step {e = e} {es = es} a t r) rp =
      let up : Walk (primal g) (edge_head g x) (e ∷ es) (high g (face_right g x)) = walk_from (sym hx) (walk_to (yq ∙ ap (high g) (sym rx)) (step a t r)) in
      let none = passes_none x e es i off up in
      elim (cases_eq z e) [
        | inl q ↦
            let on : In e b = in_subst q (sub z (here refl)) in
            let e_off : In e W → ⊥ = λ j. none e j (t ∙ sym hx) in
            elim (trace f e (edge_head g e) y zs es yq inner on e_off (rp e (here refl)) refl
            (reach_trans (reach_trans lo (reach_arc x (are.only x i).arc)) (reach_refl (hx ∙ sym t)))
            (walk_from (ap (edge_head g) q) r') (λ d j. sub d (there j)) r (λ d j. rp d (there j))) [
              | inl h ↦ inl (λ d j. elim (In-cases j) [ inl p ↦ record { on = in_subst (sym p) on; off = λ k. e_off (in_subst p k) } | inr k ↦ h d k ])
              | inr h ↦ inr (record { edge = h.edge; within = there h.within; rises = h.rises })
            ]
        | inr apart ↦ elim (beside_out g S z e a' a (t' ∙ sym t)) [
          | inl q ↦ absurd (apart q)
          | inr d ↦ elim d [
            | inl p ↦ inr (record {
              edge = z;
              within = here refl;
              rises = record { on = sub z (here refl); off = λ j. none z j (t' ∙ sym hx); inner = p.meets.inner; at = p.meets.at };
            })
            | inr p ↦ absurd (no_loop S.acyclic x (are.only x i).arc (reach_trans (reach_refl (hx ∙ sym t' ∙ sym p.meets.at ∙ ap (low g) (rp e (here refl)))) lo))
          ]
        ]
      ]

  -- the left path of the right face of x is on the boundary and off the walk, or another edge rises further up
  from_edge : (x : ℕ) (rest : List ℕ) → Rises g b W x → Walk (primal g) (edge_head g x) rest g.sink → ((e : ℕ) → In e rest → In e b) → NextLeftOf g L W ⊎ RisesIn g b W rest
  from_edge x rest h wr sub = go (left_path g (face_right g x)) (S.left_path_walk (face_right g x) h.inner.not_s le) (lefts.all x (arc, refl)) lefts.only (λ e a q. lefts.all e (a, q))
    where
      arc : x < edge_count g
      arc = (are.only x h.on).arc

      le : face_right g x ≤ g.t_star
      le = let k = h.inner.not_t in omega arith

      lefts : Lists (left_path g (face_right g x)) (λ e. (e < edge_count g) × (face_right g e ≡ face_right g x))
      lefts = S.left_path_are (face_right g x) h.inner.not_s le

      go : (P : List ℕ) → Walk (primal g) (low g (face_right g x)) P (high g (face_right g x)) → In x P → ((e : ℕ) → In e P → (e < edge_count g) × (face_right g e ≡ face_right g x)) → ((e : ℕ) → e < edge_count g → face_right g e ≡ face_right g x → In e P) → NextLeftOf g L W ⊎ RisesIn g b W rest
      go P (stay q) i only all = absurd (not_in_nil i)
      go P (step {e = e} {es = es} a t r) i only all =
          let q : e ≡ x = unique_tail S.acyclic (step a t r) e x (here refl) i (t ∙ h.at) in
          elim (trace (face_right g x) x (edge_head g x) _ rest es refl h.inner h.on h.off refl refl (reach_refl h.at) wr sub (walk_from (ap (edge_head g) q) r) (λ d j. (only d (there j)).1)) [
            | inl k ↦
                let each : (d : ℕ) → In d (e ∷ es) → OnAndOff b W d = λ d j. elim (In-cases j) [
                  | inl p ↦ record { on = in_subst (sym (p ∙ q)) h.on; off = λ m. h.off (in_subst (p ∙ q) m) }
                  | inr m ↦ k d m
                ] in
                inl (record {
                  face = face_right g x;
                  next = record {
                    inner = h.inner;
                    new = (are.only x h.on).right_out;
                    ready = λ d a p. (are.only d (each d (all d a p)).on).left_in;
                  };
                  off = λ d m p. (each d (all d (on_walk W-walk m).arc p)).off m;
                })
            | inr k ↦ inr k
          ]

  search_up : (u : ℕ) (rest : List ℕ) → Walk (primal g) u rest g.sink → ((e : ℕ) → In e rest → In e b) → (x : ℕ) → In x rest → Rises g b W x → NextLeftOf g L W
  search_up u rest (stay q) sub x i h = absurd (not_in_nil i)
  search_up u rest (step {e = y} {es = ys} a t r) sub x (here q) h =
      elim (from_edge x ys h (walk_from (ap (edge_head g) (sym q)) r) (λ d j. sub d (there j))) [
        | inl found ↦ found
        | inr k ↦ search_up (edge_head g y) ys r (λ d j. sub d (there j)) k.edge k.within k.rises
      ]
  search_up u rest (step {e = y} {es = ys} a t r) sub x (there j) h = search_up (edge_head g y) ys r (λ d j. sub d (there j)) x j h

  -- from the source on, the boundary and the walk agree, or an edge of the boundary rises
  diverge : (u : ℕ) (bs ws : List ℕ) → Walk (primal g) u bs g.sink → Walk (primal g) u ws g.sink → ((e : ℕ) → In e bs → In e b) → ((e : ℕ) → In e ws → In e W) → (bs ≡ ws) ⊎ RisesIn g b W bs
  diverge u bs ws (stay q) (stay q') sub sub' = inl refl
  diverge u bs ws (stay q) (step a t r) sub sub' = absurd (S.sink_last _ a (t ∙ q))
  diverge u bs ws (step a t r) (stay q) sub sub' = absurd (S.sink_last _ a (t ∙ q))
  diverge u bs ws (step {e = z} {es = zs} a t r) (step {e = w} {es = vs} a' t' r') sub sub' =
      elim (cases_eq z w) [
        | inl q ↦ elim (diverge (edge_head g z) zs vs r (walk_from (ap (edge_head g) (sym q)) r') (λ d j. sub d (there j)) (λ d j. sub' d (there j))) [
          | inl p ↦ inl (ap (λ d. d ∷ zs) q ∙ ap (λ ds. w ∷ ds) p)
          | inr k ↦ inr (record { edge = k.edge; within = there k.within; rises = k.rises })
        ]
        | inr apart ↦ elim (beside_out g S z w a a' (t ∙ sym t')) [
          | inl q ↦ absurd (apart q)
          | inr d ↦ elim d [
            | inl p ↦ inr (record {
              edge = z;
              within = here refl;
              rises = record {
                on = sub z (here refl);
                off = λ j. apart (unique_tail S.acyclic W-walk z w j (sub' w (here refl)) (t ∙ sym t'));
                inner = p.meets.inner;
                at = p.meets.at;
              };
            })
            | inr p ↦ absurd (right_of w (sub' w (here refl)) (closed_reach g S s p.across (are.only z (sub z (here refl))).left_in))
          ]
        ]
      ]

  pub search : (b ≡ W) ⊎ NextLeftOf g L W
  search = elim (diverge g.source b W walk W-walk (λ e i. i) (λ e i. i)) [
    | inl q ↦ inl q
    | inr k ↦ inr (search_up g.source b walk (λ e i. i) k.edge k.within k.rises)
  ]
