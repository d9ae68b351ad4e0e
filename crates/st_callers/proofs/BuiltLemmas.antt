-- The triangle's sides and names.
use Rattle.std.proofs.Common.{◌≡◌, ℕ, ◌+◌, ◌<◌, zero, suc, refl, ap, ◌∙◌, sym, subst, arith, List, length}
use Rattle.std.specs.Prelude.{pos, Some, None, Result, Ok, Err, IfOk, IfSome}
use Rattle.std.specs.declared.option.Option.{Option}
use Rattle.std.specs.Result.{result_ok}
use Rattle.st_ids.specs.declared.ids.EdgeId.{EdgeId}
use Rattle.st_ids.specs.declared.names.Names.{Names}
use Rattle.st_map.specs.Embedded.{Embedded}
use Rattle.st_map.specs.Orders.{embed}
use Rattle.st_picture.specs.Naming.{AreNames, IsLabelText, vertex_name, label_text}
use Rattle.st_sides.specs.Sides.{SidesValue, edge_count}
use Rattle.st_sides.specs.SidesOf.{IsSidesOf}
use Rattle.st_test.specs.Planar.{StValue}
use Rattle.st_callers.specs.Built.{IsLengthBy, IsTriangleLength, own_weight, triangle_naming}
use Rattle.st_callers.specs.Triangle.{triangle_graph, triangle_orders}

-- the triangle has three vertices and three edges
pub three_vertices : (g : Embedded) (s t outer : ℕ) (x : SidesValue) → g ≡ embed triangle_graph triangle_orders → IsSidesOf g s t outer x → x.vertices ≡ 3
three_vertices g s t outer x e of = of.vertices ∙ ap (λ (m : Embedded). m.vertices) e

pub three_edges : (g : Embedded) (s t outer : ℕ) (x : SidesValue) → g ≡ embed triangle_graph triangle_orders → IsSidesOf g s t outer x → edge_count x ≡ 3
unfolding edge_count
three_edges g s t outer x e of = ap (λ (es : List (ℕ × ℕ)). length es) of.ends ∙ ap (λ (m : Embedded). length m.ends) e

name_at : (v : ℕ) → v < 3 → vertex_name triangle_naming v ≡ pos (v + 1)
unfolding vertex_name
name_at zero l = refl
name_at (suc zero) l = refl
name_at (suc (suc zero)) l = refl
name_at (suc (suc (suc v))) l = absurd (omega (arith, l))

no_label : (v : ℕ) (text : List ℕ) → v < 3 → label_text triangle_naming v ≡ Some text → IsLabelText text
unfolding label_text
no_label zero text l e = absurd (cc)
no_label (suc zero) text l e = absurd (cc)
no_label (suc (suc zero)) text l e = absurd (cc)
no_label (suc (suc (suc v))) text l e = absurd (omega (arith, l))

apart : (u v : ℕ) → u < 3 → v < 3 → vertex_name triangle_naming u ≡ vertex_name triangle_naming v → u ≡ v
apart u v lu lv e =
    let a : pos (u + 1) ≡ pos (v + 1) = sym (name_at u lu) ∙ e ∙ name_at v lv in
    let b : u + 1 ≡ v + 1 = cc in
    omega (arith, b)

-- its names name it
pub named : (x : SidesValue) → x.vertices ≡ 3 → edge_count x ≡ 3 → AreNames x triangle_naming
named x n m = record {
  vertices = sym n;
  edges = sym m;
  labels = sym n;
  differ = λ u v lu lv e. apart u v (omega (arith, lu, n)) (omega (arith, lv, n)) e;
  texts = λ v text l e. no_label v text (omega (arith, l, n)) e;
}

-- what a call that may have no memory says, is said of its answer
pub length_told : (answer : EdgeId → ℕ → Type 0) → ((e : EdgeId) (w : ℕ) → answer e w → w ≡ own_weight e.0) → (st : StValue) → st.map.graph ≡ embed triangle_graph triangle_orders
    → (x : SidesValue) → IsSidesOf st.map.graph st.source st.sink st.outer x → (N : Names) → N ≡ triangle_naming → {E : Type 0} (r : Result ℕ E) → IfOk r (IsLengthBy answer x N)
    → (o : Option ℕ) → o ≡ result_ok r → IfSome o IsTriangleLength
length_told answer own st graph x of N same (Ok n) h o e =
    let h' : IsLengthBy answer x triangle_naming n = subst (λ z. IsLengthBy answer x z n) same h in
    subst (λ z. IfSome z IsTriangleLength) (sym e) (record {
      st = st;
      graph = graph;
      sides = x;
      of = of;
      drawn = record {
        picture = h'.picture;
        is = record { weight = h'.is.weight; taken = λ d l. own (record { 0 = d }) (h'.is.weight d) (h'.is.taken d l); from_one = h'.is.from_one; picture = h'.is.picture };
        count = h'.count;
      };
    })
length_told answer own st graph x of N same (Err f) h o e = subst (λ z. IfSome z IsTriangleLength) (sym e) tt
