-- The numbers of the vertices, kept and read.
use Rattle.std.proofs.Common.{◌≡◌, ◌<◌, ℕ, Bool, List, length, get_or, sym, ◌∙◌, subst, arith}
use Rattle.std.specs.Prelude.{◌↔◌, IsTrue}
use Rattle.std.proofs.lemmas.List.{get_or_default}
use Rattle.st_ids.specs.Graph.{arcs_of}
use Rattle.st_ids.specs.Walks.{Reaches}
use Rattle.st_map.specs.Embedded.{Embedded}
use Rattle.st_order.specs.Labels.{AreAtMost, AreLabels}
use Rattle.st_order.specs.Orders.{IsX, IsY}
use Rattle.st_order.specs.declared.table.Labels.{Labels}
use Rattle.st_sides.specs.Held.{HasSizes}
use Rattle.st_sides.specs.Sides.{SidesValue, edge_count, edge_head, edge_tail, primal}
use Rattle.st_sides.specs.SidesOf.{IsSidesOf}
use Rattle.st_test.specs.Planar.{IsPlanarSt}
use Rattle.st_session.specs.Kept.{AreLabelsOf}
use Rattle.st_session.specs.Replies.{AreReplyNumbers}

-- the labels of sides of a graph are those of the graph
pub labels_are : (g : Embedded) (s t outer : ℕ) (x : SidesValue) (l : Labels) → IsSidesOf g s t outer x → HasSizes x → AreLabels x l
    → ((u v : ℕ) → u < x.vertices → v < x.vertices → Reaches (primal x) u v ↔ AreAtMost l u v) → AreLabelsOf g s t outer l
unfolding edge_count edge_tail edge_head
labels_are g s t outer x l S Z A R = record {
  sides = x;
  are_sides = S;
  sizes = Z;
  are = A;
  reaches = λ u v lu lv. subst (λ (es : List (ℕ × ℕ)). Reaches (arcs_of (record { vertices = g.vertices; ends = es })) u v ↔ AreAtMost l u v) S.ends (R u v (subst (λ n. u < n) (sym S.vertices) lu) (subst (λ n. v < n) (sym S.vertices) lv));
}

pub x_within : (g : Embedded) (s t outer : ℕ) (l : Labels) (u : ℕ) → AreLabelsOf g s t outer l → u < g.vertices → u < length l.x
x_within g s t outer l u A lu = (let a : length l.x ≡ A.sides.vertices = A.are.x.size in let b : A.sides.vertices ≡ g.vertices = A.are_sides.vertices in omega arith)

pub y_within : (g : Embedded) (s t outer : ℕ) (l : Labels) (u : ℕ) → AreLabelsOf g s t outer l → u < g.vertices → u < length l.y
y_within g s t outer l u A lu = (let a : length l.y ≡ A.sides.vertices = A.are.y.size in let b : A.sides.vertices ≡ g.vertices = A.are_sides.vertices in omega arith)

-- what is read of them
pub numbers_are : (g : Embedded) (s t outer : ℕ) (l : Labels) (u v : ℕ) (b : Bool) (fx fy tx ty : ℕ) → IsPlanarSt g s t outer → AreLabelsOf g s t outer l → u < g.vertices → v < g.vertices
    → IsTrue b ↔ AreAtMost l u v → fx ≡ get_or l.x u fx → fy ≡ get_or l.y u fy → tx ≡ get_or l.x v tx → ty ≡ get_or l.y v ty
    → AreReplyNumbers g outer u v (record { reaches = b; from_x = fx; from_y = fy; to_x = tx; to_y = ty })
numbers_are g s t outer l u v b fx fy tx ty st A lu lv r a1 a2 a3 a4 =
    let n : A.sides.vertices ≡ g.vertices = A.are_sides.vertices in
    let us : u < A.sides.vertices = subst (λ n. u < n) (sym A.are_sides.vertices) lu in
    let vs : v < A.sides.vertices = subst (λ n. v < n) (sym A.are_sides.vertices) lv in
    record {
      reaches = ((λ w. (A.reaches u v lu lv).1 (r.0 w)), (λ w. r.1 ((A.reaches u v lu lv).0 w)));
      source = s;
      sink = t;
      sides = A.sides;
      planar = st;
      are_sides = A.are_sides;
      sizes = A.sizes;
      from_x = subst (λ k. IsX A.sides u k) (get_or_default l.x u 0 fx (x_within g s t outer l u A lu) ∙ sym a1) (A.are.x.each u us);
      from_y = subst (λ k. IsY A.sides u k) (get_or_default l.y u 0 fy (y_within g s t outer l u A lu) ∙ sym a2) (A.are.y.each u us);
      to_x = subst (λ k. IsX A.sides v k) (get_or_default l.x v 0 tx (x_within g s t outer l v A lv) ∙ sym a3) (A.are.x.each v vs);
      to_y = subst (λ k. IsY A.sides v k) (get_or_default l.y v 0 ty (y_within g s t outer l v A lv) ∙ sym a4) (A.are.y.each v vs);
    }
