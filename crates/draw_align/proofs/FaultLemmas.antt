-- The first fault of listed paths is one.
--   unsound     a path with a fault isn't sound
--   same_fault  a path has one fault
--   fault_law   so the paths have one
use Rattle.std.proofs.Common.{ℕ, List, ◌≡◌, ◌<◌, inl, inr, refl, sym, ap, ◌∙◌, subst, arith, length, get_or}
use Rattle.std.proofs.lemmas.Bool.{cases_eq, cases_lt}
use Rattle.st_ids.specs.declared.ids.EdgeId.{EdgeId}
use Rattle.st_ids.specs.declared.ids.VertexId.{VertexId}
use Rattle.st_sides.specs.Sides.{SidesValue, IsSides, edge_head}
use Rattle.st_sides.proofs.Public.{in_at}
use Rattle.draw_align.specs.declared.path_fault.PathFault.{PathFault}
use Rattle.draw_align.specs.declared.path_fault.PathFault.TheVariants.{NotAPath, SharedEdge, Crossing, NoMemory}
use Rattle.draw_align.specs.Faults.{AreThere, IsUnshared, IsFaultOf, IsFirstPathFault}
use Rattle.draw_align.specs.Laws.{OneFaultLaw}
use Rattle.draw_align.specs.Listed.{path_at, Cross, IsShared, IsFirstShared, IsFirstCrossing, IsSoundPath}

module _ (g : SidesValue) (S : IsSides g) (ps : List (List ℕ)) (A : AreThere g ps) where
  module _ (n : ℕ) (there : n < length ps) where
    shared_not : (e : ℕ) → IsFirstShared ps n e → IsUnshared ps n → ⊥
    shared_not e h none = none e (in_at e (path_at ps n) h.place h.there h.is) h.shared

    unsound : (f : PathFault) → IsFaultOf g ps n f → IsSoundPath g ps n → ⊥
    unsound (NotAPath p) h s = h.1 s.is_path
    unsound (SharedEdge p e) h s = shared_not e.0 h.2 s.unshared
    unsound (Crossing p q v) h s =
        let x = get_or (path_at ps n) h.3.place 0 in
        s.uncrossed q v.0 h.3.earlier (subst (λ z. z < g.vertices) h.3.at (S.head_in x (A n x there (in_at x (path_at ps n) h.3.place h.3.there refl)))) h.3.cross
    unsound NoMemory h s = h

    not_before : (d e : ℕ) → (h : IsFirstShared ps n d) → (k : IsFirstShared ps n e) → h.place < k.place → ⊥
    not_before d e h k l = k.none h.place l (subst (λ z. IsShared ps n z) (sym h.is) h.shared)

    one_shared : (d e : ℕ) → IsFirstShared ps n d → IsFirstShared ps n e → d ≡ e
    one_shared d e h k = elim (cases_eq h.place k.place) [
      | inl q ↦ sym h.is ∙ ap (λ i. get_or (path_at ps n) i 0) q ∙ k.is
      | inr x ↦ elim (cases_lt h.place k.place) [
        | inl l ↦ absurd (not_before d e h k l)
        | inr l ↦ absurd (not_before e d k h (omega arith))
      ]
    ]

    not_crossed_before : (q u r v : ℕ) → (h : IsFirstCrossing g ps n q u) → (k : IsFirstCrossing g ps n r v) → h.place < k.place → ⊥
    not_crossed_before q u r v h k l = k.none h.place q l h.earlier (subst (λ z. Cross g (path_at ps n) (path_at ps q) z) (sym h.at) h.cross)

    one_vertex : (q u r v : ℕ) → IsFirstCrossing g ps n q u → IsFirstCrossing g ps n r v → u ≡ v
    one_vertex q u r v h k = elim (cases_eq h.place k.place) [
      | inl e ↦ sym h.at ∙ ap (λ i. edge_head g (get_or (path_at ps n) i 0)) e ∙ k.at
      | inr x ↦ elim (cases_lt h.place k.place) [
        | inl l ↦ absurd (not_crossed_before q u r v h k l)
        | inr l ↦ absurd (not_crossed_before r v q u k h (omega arith))
      ]
    ]

    one_other : (q u r v : ℕ) → IsFirstCrossing g ps n q u → IsFirstCrossing g ps n r v → q ≡ r
    one_other q u r v h k =
        let e = one_vertex q u r v h k in
        elim (cases_eq q r) [
          | inl x ↦ x
          | inr x ↦ elim (cases_lt q r) [
            | inl l ↦ absurd (k.least q l (subst (λ z. Cross g (path_at ps n) (path_at ps q) z) e h.cross))
            | inr l ↦ absurd (h.least r (omega arith) (subst (λ z. Cross g (path_at ps n) (path_at ps r) z) (sym e) k.cross))
          ]
        ]

    edge_same : (d e : EdgeId) → d.0 ≡ e.0 → d ≡ e
    edge_same d e q = ap (λ (z : ℕ). let t : EdgeId = record { 0 = z } in t) q

    vertex_same : (u v : VertexId) → u.0 ≡ v.0 → u ≡ v
    vertex_same u v q = ap (λ (z : ℕ). let t : VertexId = record { 0 = z } in t) q

    same_fault : (f f' : PathFault) → IsFaultOf g ps n f → IsFaultOf g ps n f' → f ≡ f'
    same_fault (NotAPath p) (NotAPath q) h k = ap (λ z. NotAPath z) (h.0 ∙ sym k.0)
    same_fault (NotAPath p) (SharedEdge q e) h k = absurd (h.1 k.1)
    same_fault (NotAPath p) (Crossing q r v) h k = absurd (h.1 k.1)
    same_fault (NotAPath p) NoMemory h k = absurd k
    same_fault (SharedEdge p e) (NotAPath q) h k = absurd (k.1 h.1)
    same_fault (SharedEdge p d) (SharedEdge q e) h k = ap (λ z. SharedEdge z d) (h.0 ∙ sym k.0) ∙ ap (λ z. SharedEdge q z) (edge_same d e (one_shared d.0 e.0 h.2 k.2))
    same_fault (SharedEdge p e) (Crossing q r v) h k = absurd (shared_not e.0 h.2 k.2)
    same_fault (SharedEdge p e) NoMemory h k = absurd k
    same_fault (Crossing p q v) (NotAPath r) h k = absurd (k.1 h.1)
    same_fault (Crossing p q v) (SharedEdge r e) h k = absurd (shared_not e.0 k.2 h.2)
    same_fault (Crossing p q u) (Crossing p' r v) h k =
        ap (λ z. Crossing z q u) (h.0 ∙ sym k.0)
        ∙ ap (λ z. Crossing p' z u) (one_other q u.0 r v.0 h.3 k.3)
        ∙ ap (λ z. Crossing p' r z) (vertex_same u v (one_vertex q u.0 r v.0 h.3 k.3))
    same_fault (Crossing p q v) NoMemory h k = absurd k
    same_fault NoMemory f' h k = absurd h

  same_path : (f f' : PathFault) → (h : IsFirstPathFault g ps f) → (k : IsFirstPathFault g ps f') → h.path ≡ k.path
  same_path f f' h k = elim (cases_eq h.path k.path) [
    | inl q ↦ q
    | inr d ↦ elim (cases_lt h.path k.path) [
      | inl l ↦ absurd (unsound h.path h.there f h.fault (k.before h.path l))
      | inr l ↦ absurd (unsound k.path k.there f' k.fault (h.before k.path (omega arith)))
    ]
  ]

  pub fault_law : OneFaultLaw g ps
  fault_law = record {
    one = λ f f' h k. same_fault k.path k.there f f' (subst (λ z. IsFaultOf g ps z f) (same_path f f' h k) h.fault) k.fault;
    none = λ f sound h. unsound h.path h.there f h.fault (sound h.path h.there);
  }
