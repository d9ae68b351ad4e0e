-- A graph has at most one cycle that is named.
use Rattle.std.proofs.Common.{◌≡◌, ℕ, zero, suc, ◌-◌, ◌<◌, ◌≤◌, inl, inr, List, sym, ap, ◌∙◌, subst, arith}
use Rattle.std.proofs.lemmas.Bool.{cases_order}
use Rattle.st_ids.specs.Graph.{Graph, tail_of}
use Rattle.st_test.specs.Cycle.{IsFirstEdgeBack, IsNamedCycle, back_list}
use Rattle.st_test.proofs.BackSteps.{back_list-same}

-- one goes back from a vertex along one edge
back_same : (g : Graph) (v e d : ℕ) → IsFirstEdgeBack g v e → IsFirstEdgeBack g v d → e ≡ d
back_same g v e d h k = elim (cases_order e d) [
  | inl q ↦ q
  | inr o ↦ elim o [
    | inl a ↦ absurd (k.first e a h.into h.from)
    | inr a ↦ absurd (h.first d a k.into k.from)
  ]
]

module _ (g : Graph) (es ds : List ℕ) (h : IsNamedCycle g es) (k : IsNamedCycle g ds) where
  first_same : h.c 0 ≡ k.c 0
  first_same = elim (cases_order (h.c 0) (k.c 0)) [
    | inl q ↦ q
    | inr o ↦ elim o [
      | inl a ↦ absurd (k.begins_first (h.c 0) a h.begins)
      | inr a ↦ absurd (h.begins_first (k.c 0) a k.begins)
    ]
  ]

  b_same : (x : ℕ) → h.c x ≡ k.c x → h.b x ≡ k.b x
  b_same x q = back_same g (k.c x) (h.b x) (k.b x) (subst (λ z. IsFirstEdgeBack g z (h.b x)) q (h.back x)) (k.back x)

  c_same : (x : ℕ) → h.c x ≡ k.c x
  c_same zero = first_same
  c_same (suc x) = h.goes x ∙ ap (tail_of g.ends) (b_same x (c_same x)) ∙ sym (k.goes x)

  j_same : h.j ≡ k.j
  j_same = elim (cases_order h.j k.j) [
    | inl q ↦ q
    | inr o ↦ elim o [
      | inl a ↦ absurd (k.apart h.i h.j h.loops a (sym (c_same h.i) ∙ sym h.again ∙ c_same h.j))
      | inr a ↦ absurd (h.apart k.i k.j k.loops a (c_same k.i ∙ sym k.again ∙ sym (c_same k.j)))
    ]
  ]

  -- two places before the repeat have different vertices
  place_same : (x y : ℕ) → x < h.j → y < h.j → h.c x ≡ h.c y → x ≡ y
  place_same x y lx ly q = elim (cases_order x y) [
    | inl e ↦ e
    | inr o ↦ elim o [
      | inl a ↦ absurd (h.apart x y a ly q)
      | inr a ↦ absurd (h.apart y x a lx (sym q))
    ]
  ]

  i_same : h.i ≡ k.i
  i_same =
      let l : k.i < k.j = k.loops in
      place_same h.i k.i h.loops (omega (arith, j_same)) (sym h.again ∙ ap h.c j_same ∙ c_same k.j ∙ k.again ∙ sym (c_same k.i))

  f_same : h.f ≡ k.f
  f_same =
      let hj : h.f < h.j = h.on_loop_too in
      let kj : k.f < k.j = k.on_loop_too in
      let hi : h.i ≤ h.f = h.on_loop in
      let ki : k.i ≤ k.f = k.on_loop in
      let a : h.c h.f ≤ h.c k.f = h.least k.f (omega (arith, i_same)) (omega (arith, j_same)) in
      let b : k.c k.f ≤ k.c h.f = k.least h.f (omega (arith, i_same)) (omega (arith, j_same)) in
      place_same h.f k.f hj (omega (arith, j_same)) (omega (arith, a, b, c_same h.f, c_same k.f))

  pub cycle_same : es ≡ ds
  cycle_same =
      let size : h.j - h.i ≡ k.j - k.i = omega (arith, i_same, j_same) in
      h.edges
      ∙ back_list-same h.b k.b h.f (h.j - h.i) (λ x _ _. b_same x (c_same x))
      ∙ ap (λ z. back_list k.b z (h.j - h.i)) f_same
      ∙ ap (λ z. back_list k.b k.f z) size
      ∙ sym k.edges
