-- The ranges of what the readers answer.
use Rattle.std.proofs.Common.{ℕ, zero, suc, ◌≡◌, ◌<◌, ◌≤◌, List, [], ◌∷◌, length, get_or, inl, inr, refl, sym, ap, ◌∙◌, subst, arith}
use Rattle.std.specs.List.{All}
use Rattle.std.proofs.lemmas.Bool.{cases_eq}
use Rattle.st_ids.specs.EdgeNumbers.{numbers}
use Rattle.st_ids.specs.declared.ids.EdgeId.{EdgeId}
use Rattle.st_ids.specs.Lists.{In, here, there, EndIs, LastIs}
use Rattle.st_ids.specs.Walks.{Arcs, Walk, stay, step}
use Rattle.st_ids.proofs.Public.{First, first_of, not_in_nil}
use Rattle.st_sides.specs.Sides.{SidesValue, edge_count, face_left, face_right, outs, ins, low, high, left_path, right_path, left_of, right_of, primal, IsSides}

-- each of the edges has a number below n where all numbers are
in_at : (es : List EdgeId) (k : ℕ) (d : EdgeId) → k < length es → In (get_or es k d).0 (numbers es)
in_at [] k d l = absurd (omega arith)
in_at (e ∷ es) zero d l = here refl
in_at (e ∷ es) (suc k) d l = there (in_at es k d (omega arith))

all_below : (n : ℕ) (es : List EdgeId) → ((x : ℕ) → In x (numbers es) → x < n) → All (λ (e : EdgeId). e.0 < n) es
all_below n es h k d l = h (get_or es k d).0 (in_at es k d l)

end_of : (P : ℕ → Type 0) (x : ℕ) (xs : List ℕ) → EndIs P x xs → First P (x ∷ xs)
end_of P x [] h = record { element = x; within = here refl; holds = h }
end_of P x (y ∷ ys) h = let r = end_of P y ys h in record { element = r.element; within = there r.within; holds = r.holds }

last_of : (P : ℕ → Type 0) (xs : List ℕ) → LastIs P xs → First P xs
last_of P [] h = absurd h
last_of P (x ∷ xs) h = end_of P x xs h

-- a walk with an edge begins and ends in range
walk_begin : (D : Arcs) (n : ℕ) → ((e : ℕ) → e < D.count → D.from e < n) → {u v e : ℕ} {es : List ℕ} → Walk D u es v → In e es → u < n
walk_begin D n from (stay q) i = absurd (not_in_nil i)
walk_begin D n from (step {e = x} a f r) i = subst (λ z. z < n) f (from x a)

walk_end : (D : Arcs) (n : ℕ) → ((e : ℕ) → e < D.count → D.to e < n) → {u v : ℕ} {es : List ℕ} → Walk D u es v → u < n → v < n
walk_end D n to (stay q) l = subst (λ z. z < n) q l
walk_end D n to (step {e = x} a f r) l = walk_end D n to r (to x a)

module _ (x : SidesValue) (h : IsSides x) where
  pub left_within : (v : ℕ) → v < x.vertices → left_of x v ≤ x.t_star
  left_within v l = elim (cases_eq v x.source) [
    | inl q ↦ (let z : left_of x v ≡ 0 = ap (left_of x) q ∙ h.left_source in omega arith)
    | inr ns ↦ elim (cases_eq v x.sink) [
      | inl q ↦ (let z : left_of x v ≡ 0 = ap (left_of x) q ∙ h.left_sink in omega arith)
      | inr nt ↦
          let f = first_of (λ e. left_of x v ≡ face_left x e) (outs x v) (h.left_out v l ns nt) in
          let q : left_of x v ≡ face_left x f.element = f.holds in
          let b : face_left x f.element < x.t_star = h.left_before f.element ((h.outs_are v l).only f.element f.within).0 in
          omega arith
    ]
  ]

  pub right_within : (v : ℕ) → v < x.vertices → right_of x v ≤ x.t_star
  right_within v l = elim (cases_eq v x.source) [
    | inl q ↦ (let z : right_of x v ≡ x.t_star = ap (right_of x) q ∙ h.right_source in omega arith)
    | inr ns ↦ elim (cases_eq v x.sink) [
      | inl q ↦ (let z : right_of x v ≡ x.t_star = ap (right_of x) q ∙ h.right_sink in omega arith)
      | inr nt ↦
          let f = last_of (λ e. right_of x v ≡ face_right x e) (outs x v) (h.right_out v l ns nt) in
          let q : right_of x v ≡ face_right x f.element = f.holds in
          let b : face_right x f.element ≤ x.t_star = h.right_within f.element ((h.outs_are v l).only f.element f.within).0 in
          omega arith
    ]
  ]

  pub low_within : (f : ℕ) → f ≤ x.t_star → low x f < x.vertices
  low_within f l = elim (cases_eq f 0) [
    | inl q ↦ subst (λ z. z < x.vertices) (sym (ap (low x) q ∙ h.low_s)) h.source_in
    | inr n0 ↦ elim (cases_eq f x.t_star) [
      | inl q ↦ subst (λ z. z < x.vertices) (sym (ap (low x) q ∙ h.low_t)) h.source_in
      | inr nt ↦
          let e : (e : ℕ) × In e (left_path x f) = h.left_path_some f (record { not_s = omega arith; not_t = omega arith }) in
          walk_begin (primal x) x.vertices h.tail_in (h.left_path_walk f (omega arith) l) e.1
    ]
  ]

  pub high_within : (f : ℕ) → f ≤ x.t_star → high x f < x.vertices
  high_within f l = elim (cases_eq f 0) [
    | inl q ↦ walk_end (primal x) x.vertices h.head_in (h.right_path_walk f (let b : 0 < x.t_star = h.has_t in omega arith)) (low_within f l)
    | inr n0 ↦ walk_end (primal x) x.vertices h.head_in (h.left_path_walk f (omega arith) l) (low_within f l)
  ]

  pub outs_within : (v : ℕ) → v < x.vertices → (es : List EdgeId) → numbers es ≡ outs x v → All (λ (e : EdgeId). e.0 < edge_count x) es
  outs_within v l es q = all_below (edge_count x) es (λ e i. ((h.outs_are v l).only e (subst (λ z. In e z) q i)).0)

  pub ins_within : (v : ℕ) → v < x.vertices → (es : List EdgeId) → numbers es ≡ ins x v → All (λ (e : EdgeId). e.0 < edge_count x) es
  ins_within v l es q = all_below (edge_count x) es (λ e i. ((h.ins_are v l).only e (subst (λ z. In e z) q i)).0)

  pub left_path_within : left_path x 0 ≡ [] → (f : ℕ) → f ≤ x.t_star → (es : List EdgeId) → numbers es ≡ left_path x f → All (λ (e : EdgeId). e.0 < edge_count x) es
  left_path_within none f l es q = all_below (edge_count x) es (λ e i. elim (cases_eq f 0) [
    | inl z ↦ absurd (not_in_nil (subst (λ w. In e w) (q ∙ ap (left_path x) z ∙ none) i))
    | inr n ↦ ((h.left_path_are f (omega arith) l).only e (subst (λ w. In e w) q i)).0
  ])

  pub right_path_within : right_path x x.t_star ≡ [] → (f : ℕ) → f ≤ x.t_star → (es : List EdgeId) → numbers es ≡ right_path x f → All (λ (e : EdgeId). e.0 < edge_count x) es
  right_path_within none f l es q = all_below (edge_count x) es (λ e i. elim (cases_eq f x.t_star) [
    | inl z ↦ absurd (not_in_nil (subst (λ w. In e w) (q ∙ ap (right_path x) z ∙ none) i))
    | inr n ↦ ((h.right_path_are f (omega arith)).only e (subst (λ w. In e w) q i)).0
  ])
