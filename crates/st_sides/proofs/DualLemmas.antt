-- The dual as a list of arcs, and the sweep as a topological order of it.
use Rattle.std.proofs.Common.{ℕ, ◌≡◌, ◌+◌, ◌<◌, List, [], ◌∷◌, ◌++◌, length, get_or, inl, inr, sym, ap, ◌∙◌, subst, arith}
use Rattle.std.proofs.lemmas.Bool.{cases_lt}
use Rattle.std.proofs.lemmas.List.{get_or_append_left, get_or_push, length_push}
use Rattle.st_ids.specs.Graph.{tail_of, head_of, arcs_of}
use Rattle.st_ids.specs.Lists.{Precedes}
use Rattle.st_ids.specs.Walks.{Walk, stay, step, IsAcyclic}
use Rattle.st_ids.proofs.Public.{walk_from}
use Rattle.st_test.specs.Poles.{graph_of}
use Rattle.st_test.specs.Topological.{AreOrdered, IsTopologicalOrder}
use Rattle.st_sides.specs.Sides.{SidesValue, edge_count, face_left, face_right, dual}
use Rattle.st_sides.specs.Sweep.{AreDualArcs, AreSwept, IsSweep}

pub arcs_more : (g : SidesValue) (n : ℕ) (arcs more : List (ℕ × ℕ)) (l r : ℕ) → AreDualArcs g n arcs → more ≡ arcs ++ (l, r) ∷ [] → l ≡ face_left g n → r ≡ face_right g n
    → AreDualArcs g (n + 1) more
unfolding tail_of head_of
arcs_more g n arcs more l r h q left right =
    subst (AreDualArcs g (n + 1)) (sym q) (record {
      count = omega (arith, length_push arcs (l, r), h.count);
      tails = λ e le. elim (cases_lt e n) [
        | inl a ↦ ap (λ (z : ℕ × ℕ). z.0) (get_or_append_left arcs ((l, r) ∷ []) (0, 0) e (omega (arith, h.count))) ∙ h.tails e a
        | inr b ↦
            let i : n ≡ e = omega arith in
            ap (λ (z : ℕ × ℕ). z.0) (get_or_push arcs (l, r) (0, 0) e (omega (arith, h.count))) ∙ left ∙ ap (face_left g) i
      ];
      heads = λ e le. elim (cases_lt e n) [
        | inl a ↦ ap (λ (z : ℕ × ℕ). z.1) (get_or_append_left arcs ((l, r) ∷ []) (0, 0) e (omega (arith, h.count))) ∙ h.heads e a
        | inr b ↦
            let i : n ≡ e = omega arith in
            ap (λ (z : ℕ × ℕ). z.1) (get_or_push arcs (l, r) (0, 0) e (omega (arith, h.count))) ∙ right ∙ ap (face_right g) i
      ];
    })

module _ (g : SidesValue) (n : ℕ) (arcs : List (ℕ × ℕ)) (h : AreDualArcs g (edge_count g) arcs) where
  dual_walk : {u v : ℕ} {es : List ℕ} → Walk (arcs_of (graph_of n arcs)) u es v → Walk (dual g) u es v
  dual_walk (stay q) = stay q
  dual_walk (step {e = x} a f r) =
      let l : x < edge_count g = subst (λ k. x < k) h.count a in
      step l (sym (h.tails x l) ∙ f) (walk_from (h.heads x l) (dual_walk r))

  pub arcs_acyclic : IsAcyclic (dual g) → IsAcyclic (arcs_of (graph_of n arcs))
  arcs_acyclic acyclic u e es w = acyclic u e es (dual_walk w)

  pub order_is_sweep : (vs es : List ℕ) → n ≡ g.t_star + 1 → IsTopologicalOrder (graph_of n arcs) vs es → IsSweep g vs
  order_is_sweep vs es q o = record {
    nodes = record {
      only = λ f i. (let l : f < n = o.vertices.only f i in omega arith);
      all = λ f l. o.vertices.all f (omega arith);
      once = o.vertices.once;
    };
    ordered = λ e l.
        let p : Precedes (face_left g e) (head_of arcs e) vs = subst (λ z. Precedes z (head_of arcs e) vs) (h.tails e l) (o.along e (subst (λ k. e < k) (sym h.count) l)) in
        subst (λ z. Precedes (face_left g e) z vs) (h.heads e l) p;
  }

  pub order_is_swept : (vs es : List ℕ) → n ≡ g.t_star + 1 → AreOrdered (graph_of n arcs) vs es → AreSwept g vs
  order_is_swept vs es q o = record {
    count = o.vertex_count ∙ q;
    within = λ k l. (let m : get_or vs k 0 < n = o.vertex_there k l in omega arith);
    place = λ f l. o.vertex_place f (omega arith);
    apart = o.vertices_apart;
    after = λ k e l m r.
        let a : e < length arcs = omega (arith, h.count) in
        let i : (i : ℕ) × (i < k) × (get_or vs i 0 ≡ tail_of arcs e) = o.vertex_after k e l a (h.heads e m ∙ r) in
        (i.0, i.1, i.2 ∙ h.tails e m);
  }
