-- What two comparisons say of the walks of a graph, and one answer more.
use Rattle.std.proofs.Common.{◌≡◌, ℕ, ◌+◌, ◌<◌, Bool, false, List, [], ◌∷◌, ◌++◌, length, get_or, Result, Ok, Err, IfOk, inl, inr, sym, subst, ap, ◌∙◌, arith, length-append}
use Rattle.std.specs.Prelude.{◌↔◌, IsTrue}
use Rattle.std.proofs.Math.Seq.{get_or-append_seam}
use Rattle.std.proofs.lemmas.Bool.{cases_eq}
use Rattle.std.proofs.lemmas.List.{get_or_append_left}
use Rattle.st_ids.specs.Graph.{arcs_of}
use Rattle.st_ids.specs.Walks.{Reaches}
use Rattle.st_ids.specs.declared.ids.VertexId.{VertexId}
use Rattle.st_map.specs.Embedded.{Embedded, bare}
use Rattle.st_order.specs.Labels.{AreAtMost, AreLabels}
use Rattle.st_order.specs.declared.table.Labels.{Labels}
use Rattle.st_sides.specs.Sides.{SidesValue, edge_count, edge_tail, edge_head, primal}
use Rattle.st_sides.specs.SidesOf.{IsSidesOf}
use Rattle.st_callers.specs.Reaching.{AnswersEach, ArePairsBelow, pair_at}

-- the walks of a graph are those along the edges of its sides
same_walks : (g : Embedded) (s t outer : ℕ) (x : SidesValue) → IsSidesOf g s t outer x → primal x ≡ arcs_of (bare g)
unfolding edge_count edge_tail edge_head
same_walks g s t outer x of = ap (λ (es : List (ℕ × ℕ)). arcs_of (record { vertices = 0; ends = es })) of.ends

-- pairs of vertices have their numbers in both lists
pub below_x : (g : Embedded) (s t outer : ℕ) (x : SidesValue) → IsSidesOf g s t outer x → (l : Labels) → AreLabels x l
    → (pairs : List (VertexId × VertexId)) → ArePairsBelow g.vertices pairs → ArePairsBelow (length l.x) pairs
below_x g s t outer x of l are pairs below = subst (λ n. ArePairsBelow n pairs) (sym (are.x.size ∙ of.vertices)) below

pub below_y : (g : Embedded) (s t outer : ℕ) (x : SidesValue) → IsSidesOf g s t outer x → (l : Labels) → AreLabels x l
    → (pairs : List (VertexId × VertexId)) → ArePairsBelow g.vertices pairs → ArePairsBelow (length l.y) pairs
below_y g s t outer x of l are pairs below = subst (λ n. ArePairsBelow n pairs) (sym (are.y.size ∙ of.vertices)) below

-- where comparisons decide walks along the edges of the sides, answers to the ones are answers to the others
answers_walks : (g : Embedded) (s t outer : ℕ) (x : SidesValue) → IsSidesOf g s t outer x → (l : Labels)
    → ((u v : ℕ) → u < x.vertices → v < x.vertices → Reaches (primal x) u v ↔ AreAtMost l u v)
    → (pairs : List (VertexId × VertexId)) → ArePairsBelow g.vertices pairs → (answers : List Bool) → length answers ≡ length pairs
    → AnswersEach (AreAtMost l) pairs answers → AnswersEach (Reaches (arcs_of (bare g))) pairs answers
answers_walks g s t outer x of l decides pairs below answers size each i k =
    let there : ArePairsBelow x.vertices pairs = subst (λ n. ArePairsBelow n pairs) (sym of.vertices) below in
    let both = there i (omega (arith, k, size)) in
    let walk = decides (pair_at pairs i).0.0 (pair_at pairs i).1.0 both.0 both.1 in
    let same = same_walks g s t outer x of in
    let h = each i k in (
      (λ y. subst (λ D. Reaches D (pair_at pairs i).0.0 (pair_at pairs i).1.0) same (walk.1 (h.0 y))),
      (λ w. h.1 (walk.0 (subst (λ D. Reaches D (pair_at pairs i).0.0 (pair_at pairs i).1.0) (sym same) w))),
    )

-- the same where a call gives the answers
pub walks_each : {T E : Type 0} (g : Embedded) (s t outer : ℕ) (x : SidesValue) → IsSidesOf g s t outer x → (l : Labels)
    → ((u v : ℕ) → u < x.vertices → v < x.vertices → Reaches (primal x) u v ↔ AreAtMost l u v)
    → (pairs : List (VertexId × VertexId)) → ArePairsBelow g.vertices pairs → (r : Result T E) (items : T → List Bool)
    → IfOk r (λ a. length (items a) ≡ length pairs) → IfOk r (λ a. AnswersEach (AreAtMost l) pairs (items a))
    → IfOk r (λ a. AnswersEach (Reaches (arcs_of (bare g))) pairs (items a))
walks_each g s t outer x of l decides pairs below (Ok a) items size each = answers_walks g s t outer x of l decides pairs below (items a) size each
walks_each g s t outer x of l decides pairs below (Err e) items size each = each

-- one answer more
pub answers_push : (P : ℕ → ℕ → Type 0) (pairs : List (VertexId × VertexId)) (n : ℕ) (answers answers' : List Bool) (b : Bool) → AnswersEach P pairs answers
    → length answers ≡ n → IsTrue b ↔ P (pair_at pairs n).0.0 (pair_at pairs n).1.0 → answers' ≡ answers ++ b ∷ [] → AnswersEach P pairs answers'
answers_push P pairs n answers answers' b h size new e =
    let seam : get_or (answers ++ b ∷ []) n false ≡ b = subst (λ z. get_or (answers ++ b ∷ []) z false ≡ b) size (get_or-append_seam answers b [] false) in
    let more : length answers' ≡ length answers + 1 = ap length e ∙ length-append answers (b ∷ []) in
    λ i l. subst (λ z. IsTrue (get_or z i false) ↔ P (pair_at pairs i).0.0 (pair_at pairs i).1.0) (sym e) (elim (cases_eq i n) [
      | inl q ↦ subst (λ z. IsTrue (get_or (answers ++ b ∷ []) z false) ↔ P (pair_at pairs z).0.0 (pair_at pairs z).1.0) (sym q)
          (subst (λ z. IsTrue z ↔ P (pair_at pairs n).0.0 (pair_at pairs n).1.0) (sym seam) new)
      | inr q ↦ subst (λ z. IsTrue z ↔ P (pair_at pairs i).0.0 (pair_at pairs i).1.0) (sym (get_or_append_left answers (b ∷ []) false i (omega (arith, q, l, size, more))))
          (h i (omega (arith, q, l, size, more)))
    ])
