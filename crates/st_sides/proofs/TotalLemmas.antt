-- Of two different objects one is before the other or left of it: by induction along a sweep.
use Rattle.std.proofs.Common.{ℕ, List, [], ◌∷◌, ◌≡◌, ◌≢◌, ◌<◌, ◌≤◌, ◌⊎◌, inl, inr, refl, sym, ap, ◌∙◌, subst, arith}
use Rattle.std.proofs.lemmas.Bool.{cases_eq}
use Rattle.st_ids.specs.Lists.{In, here, there, Linked, NextTo, EndIs, LastIs}
use Rattle.st_ids.specs.Walks.{Walk, stay, step, Reaches}
use Rattle.st_sides.specs.Sides.{SidesValue, edge_count, edge_tail, edge_head, face_left, face_right, outs, ins, low, high, left_path, left_of, right_of, primal, dual, MeetsHigh, IsSides}
use Rattle.st_sides.specs.Objects.{Object, vertex, edge, IsObject, bottom, top, left, right, Compared, before, after, leftward, rightward, Trichotomy}
use Rattle.st_ids.proofs.Public.{not_in_nil, In-cases, First, first_of, on_walk, in_order, reach_refl, reach_trans, reach_arc, no_loop}
use Rattle.st_sides.proofs.BoundaryLemmas.{IsNext, Swept, start, grow, closed_reach}
use Rattle.st_sides.proofs.SweepLemmas.{source_first_left, full}
use Rattle.st_sides.proofs.ExclusiveLemmas.{to_sink, left_below, top_in, not_before_after, not_before_left, not_before_right, not_left_right}

pub same_object : (o p : Object) → (o ≡ p) ⊎ (o ≡ p → ⊥)
same_object (vertex u) (vertex v) = elim (cases_eq u v) [ inl q ↦ inl (ap vertex q) | inr n ↦ inr (λ h. n (cc h)) ]
same_object (edge u) (edge v) = elim (cases_eq u v) [ inl q ↦ inl (ap edge q) | inr n ↦ inr (λ h. n (cc h)) ]
same_object (vertex u) (edge v) = inr (λ h. cc h)
same_object (edge u) (vertex v) = inr (λ h. cc h)

-- a list without a next neighbour of x has x last
last_or_meets : (P : ℕ → Type 0) (M : ℕ → ℕ → Type 0) (x : ℕ) (ys : List ℕ) → NextTo M x ys → Linked M ys → EndIs P x ys → (e : ℕ) → In e (x ∷ ys) → P e ⊎ ((d : ℕ) × M e d)
last_or_meets P M x [] m lk l e (here q) = inl (subst P (sym q) l)
last_or_meets P M x [] m lk l e (there j) = absurd (not_in_nil j)
last_or_meets P M x (y ∷ ys) m lk l e (here q) = inr (y, subst (λ z. M z y) (sym q) m)
last_or_meets P M x (y ∷ ys) m lk l e (there j) = last_or_meets P M y ys lk.0 lk.1 l e j

last_or : (P : ℕ → Type 0) (M : ℕ → ℕ → Type 0) (xs : List ℕ) → Linked M xs → LastIs P xs → (e : ℕ) → In e xs → P e ⊎ ((d : ℕ) × M e d)
last_or P M [] lk l e i = absurd (not_in_nil i)
last_or P M (x ∷ xs) lk l e i = last_or_meets P M x xs lk.0 lk.1 l e i

-- how an object lies to a face on its right
pub data FaceCase (g : SidesValue) (o : Object) (f : ℕ) : Type 0 where
  below : Reaches (primal g) (top g o) (low g f) → FaceCase g o f
  above : Reaches (primal g) (high g f) (bottom g o) → FaceCase g o f
  beside : Reaches (dual g) (right g o) f → FaceCase g o f

-- the edge of the right path of f with which an object begins, if f is on its left
pub record Lead (g : SidesValue) (n : Object) (f : ℕ) : Type 0 where
  pub arc : ℕ
  pub is_arc : arc < edge_count g
  pub side : face_left g arc ≡ f
  pub begins : edge_tail g arc ≡ bottom g n
  pub upward : Reaches (primal g) (top g n) (edge_head g arc)
  pub kind : (n ≡ edge arc) ⊎ (n ≡ vertex (bottom g n))

-- all objects with their left in the list are compared
abbrev pub ComparedIn : SidesValue → List ℕ → Type 0
ComparedIn g L = (o p : Object) → IsObject g o → IsObject g p → In (left g o) L → In (left g p) L → o ≢ p → Compared g o p

pub flip : {g : SidesValue} {o p : Object} → Compared g o p → Compared g p o
flip (before h) = after h
flip (after h) = before h
flip (leftward h) = rightward h
flip (rightward h) = leftward h

module _ (g : SidesValue) (S : IsSides g) where
  lead : (n : Object) → IsObject g n → n ≢ vertex g.sink → (f : ℕ) → left g n ≡ f → Lead g n f
  lead (edge e) i not_sink f q = record { arc = e; is_arc = i; side = q; begins = refl; upward = reach_refl refl; kind = inl refl }
  lead (vertex v) i not_sink f q = go (first_side (cases_eq v g.source))
    where
      n' : v ≢ g.sink
      n' p = not_sink (ap vertex p)

      first_side : (v ≡ g.source) ⊎ (v ≢ g.source) → First (λ e. face_left g e ≡ f) (outs g v)
      first_side (inl p) =
          let h = S.has_out v i n' in
          let k = first_of (λ e. face_left g e ≡ 0) (outs g g.source) (source_first_left g S h.0 h.1 (h.2 ∙ p)) in
          record { element = k.element; within = subst (λ z. In k.element (outs g z)) (sym p) k.within; holds = k.holds ∙ sym S.left_source ∙ ap (left_of g) (sym p) ∙ q }
      first_side (inr n) =
          let k = first_of (λ e. left_of g v ≡ face_left g e) (outs g v) (S.left_out v i n n') in
          record { element = k.element; within = k.within; holds = sym k.holds ∙ q }

      go : First (λ e. face_left g e ≡ f) (outs g v) → Lead g (vertex v) f
      go k =
          let h = (S.outs_are v i).only k.element k.within in
          record {
            arc = k.element;
            is_arc = h.0;
            side = k.holds;
            begins = h.1;
            upward = reach_trans (reach_refl (sym h.1)) (reach_arc k.element h.0);
            kind = inr refl;
          }

  -- two objects with one dual node on their left
  same_left : (f : ℕ) → f < g.t_star → (n n' : Object) → IsObject g n → IsObject g n' → left g n ≡ f → left g n' ≡ f → n ≢ n' → Compared g n n'
  same_left f l n n' i i' q q' apart = elim (same_object n (vertex g.sink)) [
    | inl p ↦ after (reach_trans (to_sink g S (top g n') (top_in g S n' i')) (reach_refl (ap (bottom g) (sym p))))
    | inr m ↦ elim (same_object n' (vertex g.sink)) [
      | inl p ↦ before (reach_trans (to_sink g S (top g n) (top_in g S n i)) (reach_refl (ap (bottom g) (sym p))))
      | inr m' ↦ go (lead n i m f q) (lead n' i' m' f q')
    ]
  ]
    where
      one : (a : Lead g n f) (a' : Lead g n' f) → a.arc ≡ a'.arc → Compared g n n'
      one a a' p =
          let b : bottom g n ≡ bottom g n' = sym a.begins ∙ ap (edge_tail g) p ∙ a'.begins in
          elim a.kind [
            | inl k ↦ elim a'.kind [
              | inl k' ↦ absurd (apart (k ∙ ap edge p ∙ sym k'))
              | inr k' ↦ after (reach_refl (ap (top g) k' ∙ sym b))
            ]
            | inr k ↦ elim a'.kind [
              | inl k' ↦ before (reach_refl (ap (top g) k ∙ b))
              | inr k' ↦ absurd (apart (k ∙ ap vertex b ∙ sym k'))
            ]
          ]

      go : Lead g n f → Lead g n' f → Compared g n n'
      go a a' =
          let k = S.right_path_are f l in
          elim (in_order (S.right_path_walk f l) a.arc a'.arc (k.all a.arc (a.is_arc, a.side)) (k.all a'.arc (a'.is_arc, a'.side))) [
            | inl p ↦ one a a' p
            | inr h ↦ elim h [
              | inl r ↦ before (reach_trans a.upward (reach_trans r (reach_refl a'.begins)))
              | inr r ↦ after (reach_trans a'.upward (reach_trans r (reach_refl a.begins)))
            ]
          ]

  module _ (L : List ℕ) (f : ℕ) (s : Swept g L) (n : IsNext g L f) (C : ComparedIn g L) where
    f_le : f ≤ g.t_star
    f_le = let h = n.inner.not_t in omega arith

    -- an object is compared with an edge of the left path of f
    against : (o : Object) → IsObject g o → In (left g o) L → (e : ℕ) → e < edge_count g → face_right g e ≡ f → Reaches (dual g) (right g o) f ⊎ (Reaches (primal g) (top g o) (edge_tail g e) ⊎ Reaches (primal g) (edge_head g e) (bottom g o))
    against o i j e a q = elim (same_object o (edge e)) [
      | inl p ↦ inl (reach_refl (ap (right g) p ∙ q))
      | inr m ↦ elim (C o (edge e) i a j (n.ready e a q) m) [
        | before h ↦ inr (inl h)
        | after h ↦ inr (inr h)
        | leftward h ↦ inl (reach_trans h (reach_trans (reach_arc e a) (reach_refl q)))
        | rightward h ↦ absurd (n.new (closed_reach g S s (reach_trans (reach_refl (sym q)) h) j))
      ]
    ]

    -- an inner vertex of the left path of f has f on its right
    inner_right : (x e v : ℕ) → x < edge_count g → face_right g x ≡ f → edge_head g x ≡ v → e < edge_count g → edge_tail g e ≡ v → Reaches (primal g) (edge_head g e) (high g f) → right_of g v ≡ f
    inner_right x e v a q t a' t' up =
        let i : v < g.vertices = subst (λ z. z < g.vertices) t (S.head_in x a) in
        let k = S.ins_are v i in
        elim (last_or (λ d. right_of g v ≡ face_right g d) (MeetsHigh g v) (ins g v) (S.ins_meet v i)
        (S.right_in v i (λ p. S.source_first x a (t ∙ p)) (λ p. S.sink_last e a' (t' ∙ p))) x (k.all x (a, t))) [
          | inl p ↦ p ∙ q
          | inr h ↦ absurd (no_loop S.acyclic e a' (reach_trans up (reach_refl (ap (high g) (sym q) ∙ h.1.at ∙ sym t'))))
        ]

    -- an object that the edge x of the left path comes up to
    climb : (o : Object) → IsObject g o → In (left g o) L → (x u y : ℕ) (P : List ℕ) → y ≡ high g f → x < edge_count g → face_right g x ≡ f → edge_head g x ≡ u → Reaches (primal g) u (bottom g o) → Walk (primal g) u P y → ((e : ℕ) → In e P → face_right g e ≡ f) → FaceCase g o f
    climb o i j x u y P yq a q t up (stay p) rp = above (reach_trans (reach_refl (sym yq ∙ sym p)) up)
    climb o i j x u y P yq a q t up (step {e = e} {es = es} a' t' r) rp =
        elim (against o i j e a' (rp e (here refl))) [
          | inl h ↦ beside h
          | inr d ↦ elim d [
            | inl h ↦ meets o i up h
            | inr h ↦ climb o i j e (edge_head g e) y es yq a' (rp e (here refl)) refl h r (λ d k. rp d (there k))
          ]
        ]
      where
        higher : Reaches (primal g) (edge_head g e) (high g f)
        higher = reach_trans (record { way = es; walk = r }) (reach_refl yq)

        at : (w : ℕ) (es : List ℕ) → Reaches (primal g) u w → Walk (primal g) w es (edge_tail g e) → w ≡ u
        at w es up (stay p) = p ∙ t'
        at w es up (step {e = d} {es = ds} b k m) = absurd (no_loop S.acyclic d b (reach_trans (record { way = ds; walk = m }) (reach_trans (reach_refl t') (reach_trans up (reach_refl (sym k))))))

        meets : (o : Object) → IsObject g o → Reaches (primal g) u (bottom g o) → Reaches (primal g) (top g o) (edge_tail g e) → FaceCase g o f
        meets (vertex w) i up h =
            let p = at w h.way up h.walk in
            beside (reach_refl (inner_right x e w a q (t ∙ sym p) a' (t' ∙ sym p) higher))
        meets (edge d) i up h = absurd (no_loop S.acyclic d i (reach_trans h (reach_trans (reach_refl t') up)))

    face_case : (o : Object) → IsObject g o → In (left g o) L → FaceCase g o f
    face_case o i j = go (left_path g f) (S.left_path_walk f n.inner.not_s f_le) (S.left_path_some f n.inner) (λ e k. ((S.left_path_are f n.inner.not_s f_le).only e k).1)
      where
        go : (P : List ℕ) → Walk (primal g) (low g f) P (high g f) → (e : ℕ) × In e P → ((e : ℕ) → In e P → face_right g e ≡ f) → FaceCase g o f
        go P (stay p) some rp = absurd (not_in_nil some.1)
        go P (step {e = e} {es = es} a t r) some rp = elim (against o i j e a (rp e (here refl))) [
          | inl h ↦ beside h
          | inr d ↦ elim d [
            | inl h ↦ below (reach_trans h (reach_refl t))
            | inr h ↦ climb o i j e (edge_head g e) _ es refl a (rp e (here refl)) refl h r (λ d k. rp d (there k))
          ]
        ]

    -- an object with f on its left stands on the right path of f
    new_ends : (p : Object) → IsObject g p → left g p ≡ f → Reaches (primal g) (low g f) (bottom g p) × Reaches (primal g) (top g p) (high g f)
    new_ends (edge e) i q =
        let h = on_walk (S.right_path_walk f n.inner.not_t) ((S.right_path_are f n.inner.not_t).all e (i, q)) in
        (h.before, h.after)
    new_ends (vertex v) i q =
        let z : (v ≡ g.source) → ⊥ = λ p. zero_not (sym q ∙ ap (left_of g) p ∙ S.left_source) in
        let z' : (v ≡ g.sink) → ⊥ = λ p. zero_not (sym q ∙ ap (left_of g) p ∙ S.left_sink) in
        let a = first_of (λ e. left_of g v ≡ face_left g e) (outs g v) (S.left_out v i z z') in
        let b = first_of (λ e. left_of g v ≡ face_left g e) (ins g v) (S.left_in v i z z') in
        let a' = (S.outs_are v i).only a.element a.within in
        let b' = (S.ins_are v i).only b.element b.within in
        let h = on_walk (S.right_path_walk f n.inner.not_t) ((S.right_path_are f n.inner.not_t).all a.element (a'.0, sym a.holds ∙ q)) in
        let k = on_walk (S.right_path_walk f n.inner.not_t) ((S.right_path_are f n.inner.not_t).all b.element (b'.0, sym b.holds ∙ q)) in
        (reach_trans h.before (reach_refl a'.1), reach_trans (reach_refl (sym b'.1)) k.after)
      where
        zero_not : f ≡ 0 → ⊥
        zero_not q = let h = n.inner.not_s in omega arith

    old_new : (o p : Object) → IsObject g o → IsObject g p → In (left g o) L → left g p ≡ f → Compared g o p
    old_new o p i j k q =
        let ends = new_ends p j q in
        elim (face_case o i k) [
          | below h ↦ before (reach_trans h ends.0)
          | above h ↦ after (reach_trans ends.1 h)
          | beside h ↦ leftward (reach_trans h (reach_refl (sym q)))
        ]

    compared_grow : ComparedIn g (f ∷ L)
    compared_grow o p i j k m apart = elim (In-cases k) [
      | inl q ↦ elim (In-cases m) [
        | inl q' ↦ same_left f n.inner.not_t o p i j q q' apart
        | inr m' ↦ flip (old_new p o j i m' q)
      ]
      | inr k' ↦ elim (In-cases m) [
        | inl q' ↦ old_new o p i j k' q'
        | inr m' ↦ C o p i j k' m' apart
      ]
    ]

  compared_in : {L : List ℕ} → Swept g L → ComparedIn g L
  compared_in start o p i j k m apart = elim (In-cases k) [
    | inl q ↦ elim (In-cases m) [
      | inl q' ↦ same_left 0 S.has_t o p i j q q' apart
      | inr m' ↦ absurd (not_in_nil m')
    ]
    | inr k' ↦ absurd (not_in_nil k')
  ]
  compared_in (grow {L} {f} s n) o p i j k m apart = compared_grow L f s n (compared_in s) o p i j k m apart

  pub compared : (o p : Object) → IsObject g o → IsObject g p → o ≢ p → Compared g o p
  compared o p i j apart =
      let F = full g S in
      compared_in F.swept o p i j (F.has (left g o) (left_below g S o i)) (F.has (left g p) (left_below g S p j)) apart

  pub trichotomy : Trichotomy g
  trichotomy o p i j apart = record {
    some = compared o p i j apart;
    not_before_after = not_before_after g S o p i j apart;
    not_before_left = not_before_left g S o p i j;
    not_before_right = not_before_right g S o p i j;
    not_after_left = λ h k. not_before_right g S p o j i h k;
    not_after_right = λ h k. not_before_left g S p o j i h k;
    not_left_right = not_left_right g S o p i j;
  }
