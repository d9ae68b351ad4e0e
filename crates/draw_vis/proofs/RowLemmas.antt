-- The first and the last edge at each vertex, the poles among them.
--   first_by, last_by       an edge which none comes before, or after, in a linked list
--   out_left, out_right     the node beside a vertex is that beside its first, or last, edge out; so for the poles
--   in_left, in_right       the same for edges in
--   no_out, no_in           the sink has none out, the source none in
use Rattle.std.proofs.Common.{ℕ, List, [], ◌∷◌, ◌≡◌, ◌≢◌, ◌<◌, inl, inr, refl, sym, ap, ◌∙◌, subst, arith}
use Rattle.std.proofs.lemmas.Bool.{cases_eq}
use Rattle.st_ids.specs.Lists.{In, here, there, Linked, NextTo, FirstIs, LastIs}
use Rattle.st_ids.specs.Walks.{Arcs, Walk, stay, step}
use Rattle.st_ids.proofs.Public.{not_in_nil, FirstIs-weaken, walk_from, walk_to}
use Rattle.st_sides.specs.Sides.{SidesValue, face_left, face_right, left_of, right_of, outs, ins, MeetsLow, MeetsHigh, IsSides}
use Rattle.st_picture.proofs.Public.{poles_differ, sink_in}

-- ---- lists
pub LastIs-weaken : (P Q : ℕ → Type 0) (xs : List ℕ) → ((x : ℕ) → In x xs → P x → Q x) → LastIs P xs → LastIs Q xs
LastIs-weaken P Q [] f h = h
LastIs-weaken P Q (x ∷ []) f h = f x (here refl) h
LastIs-weaken P Q (x ∷ y ∷ ys) f h = LastIs-weaken P Q (y ∷ ys) (λ z i. f z (there i)) h

pub Linked-weaken : (R T : ℕ → ℕ → Type 0) (xs : List ℕ) → ((x y : ℕ) → In x xs → In y xs → R x y → T x y) → Linked R xs → Linked T xs
Linked-weaken R T [] f h = tt
Linked-weaken R T (x ∷ []) f h = (tt, tt)
Linked-weaken R T (x ∷ y ∷ ys) f h = (f x y (here refl) (there (here refl)) h.0, Linked-weaken R T (y ∷ ys) (λ a b i j. f a b (there i) (there j)) h.1)

before_first : (M : ℕ → ℕ → Type 0) (x e : ℕ) (ys : List ℕ) → NextTo M x ys → (M x e → ⊥) → FirstIs (λ z. z ≡ e) ys → ⊥
before_first M x e [] m n h = h
before_first M x e (y ∷ ys) m n h = n (subst (M x) h m)

pub first_by : (M : ℕ → ℕ → Type 0) (e : ℕ) (xs : List ℕ) → Linked M xs → In e xs → ((d : ℕ) → M d e → ⊥) → FirstIs (λ z. z ≡ e) xs
first_by M e [] lk i n = absurd (not_in_nil i)
first_by M e (x ∷ xs) lk (here q) n = sym q
first_by M e (x ∷ xs) lk (there j) n = absurd (before_first M x e xs lk.0 (n x) (first_by M e xs lk.1 j n))

pub last_by : (M : ℕ → ℕ → Type 0) (e : ℕ) (xs : List ℕ) → Linked M xs → In e xs → ((d : ℕ) → M e d → ⊥) → LastIs (λ z. z ≡ e) xs
last_by M e [] lk i n = absurd (not_in_nil i)
last_by M e (x ∷ []) lk (here q) n = sym q
last_by M e (x ∷ []) lk (there j) n = absurd (not_in_nil j)
last_by M e (x ∷ y ∷ ys) lk (here q) n = absurd (n y (subst (λ z. M z y) (sym q) lk.0))
last_by M e (x ∷ y ∷ ys) lk (there j) n = last_by M e (y ∷ ys) lk.1 j n

pub nothing_in : (xs : List ℕ) → ((x : ℕ) → In x xs → ⊥) → xs ≡ []
nothing_in [] n = refl
nothing_in (x ∷ xs) n = absurd (n x (here refl))

-- ---- the ends of a walk
pub first_arc : {D : Arcs} {u v : ℕ} {es : List ℕ} → Walk D u es v → u ≢ v → (e : ℕ) × In e es × (D.from e ≡ u)
first_arc (stay q) n = absurd (n q)
first_arc (step {e = e} a t r) n = (e, here refl, t)

pub last_arc : {D : Arcs} {u v : ℕ} {es : List ℕ} → Walk D u es v → u ≢ v → (e : ℕ) × In e es × (D.to e ≡ v)
last_arc (stay q) n = absurd (n q)
last_arc (step {e = e} a t (stay q)) n = (e, here refl, q)
last_arc {D} {u} {v} (step {e = e} a t (step {e = f} b t' r)) n = elim (cases_eq (D.to e) v) [
  | inl q ↦ (e, here refl, q)
  | inr m ↦ (let h = last_arc (step {e = f} b t' r) m in (h.0, there h.1, h.2))
]

module _ (g : SidesValue) (S : IsSides g) where
  -- ---- at the poles
  source_left : FirstIs (λ e. left_of g g.source ≡ face_left g e) (outs g g.source)
  source_left =
      let h = first_arc (walk_from S.low_s (walk_to S.high_s (S.right_path_walk 0 S.has_t))) (poles_differ g S) in
      let k = (S.right_path_are 0 S.has_t).only h.0 h.1 in
      FirstIs-weaken (λ z. z ≡ h.0) (λ e. left_of g g.source ≡ face_left g e) (outs g g.source) (λ x i q. S.left_source ∙ sym k.1 ∙ ap (face_left g) (sym q))
      (first_by (MeetsLow g g.source) h.0 (outs g g.source) (S.outs_meet g.source S.source_in) ((S.outs_are g.source S.source_in).all h.0 (k.0, h.2))
      (λ d m. (let a : 0 < face_right g d = m.inner.not_s in let b : face_right g d ≡ face_left g h.0 = m.same in let c : face_left g h.0 ≡ 0 = k.1 in omega arith)))

  source_right : LastIs (λ e. right_of g g.source ≡ face_right g e) (outs g g.source)
  source_right =
      let h = first_arc (walk_from S.low_t (walk_to S.high_t (S.left_path_walk g.t_star S.has_t (omega arith)))) (poles_differ g S) in
      let k = (S.left_path_are g.t_star S.has_t (omega arith)).only h.0 h.1 in
      LastIs-weaken (λ z. z ≡ h.0) (λ e. right_of g g.source ≡ face_right g e) (outs g g.source) (λ x i q. S.right_source ∙ sym k.1 ∙ ap (face_right g) (sym q))
      (last_by (MeetsLow g g.source) h.0 (outs g g.source) (S.outs_meet g.source S.source_in) ((S.outs_are g.source S.source_in).all h.0 (k.0, h.2))
      (λ d m. (let a : face_right g h.0 < g.t_star = m.inner.not_t in let c : face_right g h.0 ≡ g.t_star = k.1 in omega arith)))

  sink_left : FirstIs (λ e. left_of g g.sink ≡ face_left g e) (ins g g.sink)
  sink_left =
      let h = last_arc (walk_from S.low_s (walk_to S.high_s (S.right_path_walk 0 S.has_t))) (poles_differ g S) in
      let k = (S.right_path_are 0 S.has_t).only h.0 h.1 in
      FirstIs-weaken (λ z. z ≡ h.0) (λ e. left_of g g.sink ≡ face_left g e) (ins g g.sink) (λ x i q. S.left_sink ∙ sym k.1 ∙ ap (face_left g) (sym q))
      (first_by (MeetsHigh g g.sink) h.0 (ins g g.sink) (S.ins_meet g.sink (sink_in g S)) ((S.ins_are g.sink (sink_in g S)).all h.0 (k.0, h.2))
      (λ d m. (let a : 0 < face_right g d = m.inner.not_s in let b : face_right g d ≡ face_left g h.0 = m.same in let c : face_left g h.0 ≡ 0 = k.1 in omega arith)))

  sink_right : LastIs (λ e. right_of g g.sink ≡ face_right g e) (ins g g.sink)
  sink_right =
      let h = last_arc (walk_from S.low_t (walk_to S.high_t (S.left_path_walk g.t_star S.has_t (omega arith)))) (poles_differ g S) in
      let k = (S.left_path_are g.t_star S.has_t (omega arith)).only h.0 h.1 in
      LastIs-weaken (λ z. z ≡ h.0) (λ e. right_of g g.sink ≡ face_right g e) (ins g g.sink) (λ x i q. S.right_sink ∙ sym k.1 ∙ ap (face_right g) (sym q))
      (last_by (MeetsHigh g g.sink) h.0 (ins g g.sink) (S.ins_meet g.sink (sink_in g S)) ((S.ins_are g.sink (sink_in g S)).all h.0 (k.0, h.2))
      (λ d m. (let a : face_right g h.0 < g.t_star = m.inner.not_t in let c : face_right g h.0 ≡ g.t_star = k.1 in omega arith)))

  -- ---- at each vertex
  pub out_left : (v : ℕ) → v < g.vertices → v ≢ g.sink → FirstIs (λ e. left_of g v ≡ face_left g e) (outs g v)
  out_left v i n = elim (cases_eq v g.source) [
    | inl q ↦ subst (λ z. FirstIs (λ e. left_of g z ≡ face_left g e) (outs g z)) (sym q) source_left
    | inr m ↦ S.left_out v i m n
  ]

  pub out_right : (v : ℕ) → v < g.vertices → v ≢ g.sink → LastIs (λ e. right_of g v ≡ face_right g e) (outs g v)
  out_right v i n = elim (cases_eq v g.source) [
    | inl q ↦ subst (λ z. LastIs (λ e. right_of g z ≡ face_right g e) (outs g z)) (sym q) source_right
    | inr m ↦ S.right_out v i m n
  ]

  pub in_left : (v : ℕ) → v < g.vertices → v ≢ g.source → FirstIs (λ e. left_of g v ≡ face_left g e) (ins g v)
  in_left v i n = elim (cases_eq v g.sink) [
    | inl q ↦ subst (λ z. FirstIs (λ e. left_of g z ≡ face_left g e) (ins g z)) (sym q) sink_left
    | inr m ↦ S.left_in v i n m
  ]

  pub in_right : (v : ℕ) → v < g.vertices → v ≢ g.source → LastIs (λ e. right_of g v ≡ face_right g e) (ins g v)
  in_right v i n = elim (cases_eq v g.sink) [
    | inl q ↦ subst (λ z. LastIs (λ e. right_of g z ≡ face_right g e) (ins g z)) (sym q) sink_right
    | inr m ↦ S.right_in v i n m
  ]

  pub no_out : (v : ℕ) → v < g.vertices → v ≡ g.sink → outs g v ≡ []
  no_out v i q = nothing_in (outs g v) (λ e j. (let k = (S.outs_are v i).only e j in S.sink_last e k.0 (k.1 ∙ q)))

  pub no_in : (v : ℕ) → v < g.vertices → v ≡ g.source → ins g v ≡ []
  no_in v i q = nothing_in (ins g v) (λ e j. (let k = (S.ins_are v i).only e j in S.source_first e k.0 (k.1 ∙ q)))
