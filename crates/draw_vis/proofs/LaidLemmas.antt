-- Tables of heights and columns that a call gave.
--   numbers_are     they have the heights and the columns of the graph
--   laid_out        they grow, and are in a picture's range
--   same_edges      the sides have the edges of the graph
--   by_tables, laid   the same of the heights and the columns that the calls give
--   by_bars, by_boxes   bars and lines, or boxes, of these tables are the pictures under the weights that were taken
--   left_columns    a table of the columns on the left of edges
use Rattle.std.proofs.Common.{ℕ, List, ◌≡◌, ◌<◌, ◌≤◌, ◌+◌, ◌-◌, ◌*◌, ℤ, arith, sym, ap, ◌∙◌, subst, length}
use Rattle.std.proofs.lemmas.Nat.{mul-le}
use Rattle.st_ids.specs.declared.limits.TheConstants.{MOST_COORDINATE}
use Rattle.st_ids.specs.declared.ids.EdgeId.{EdgeId}
use Rattle.st_ids.specs.declared.names.Names.{Names}
use Rattle.st_map.specs.Embedded.{Embedded, edges}
use Rattle.st_shape.specs.declared.picture.Form.TheVariants.{Visibility}
use Rattle.st_shape.specs.Rules.{Drawing}
use Rattle.st_sides.specs.SidesOf.{IsSidesOf}
use Rattle.st_sides.specs.Sides.{SidesValue, edge_count, face_left, face_right, IsSides}
use Rattle.st_number.specs.Greatest.{IsHeight, IsColumn}
use Rattle.st_number.proofs.Public.{bounds_law, to_sides, numbers_law}
use Rattle.st_number.specs.Heights.{AreHeights, AreColumns}
use Rattle.st_number.specs.Numbers.{AreNumbers, AreWeights}
use Rattle.st_picture.specs.Bars.{number_at, bars, AreTables, HasFrame}
use Rattle.st_picture.proofs.Public.{sink_in, Has, number_of, naturals}
use Rattle.draw_vis.specs.Tables.{AreEdgeColumns, AreTablesBy, IsLaidOut}
use Rattle.draw_vis.specs.Tessellation.{boxes, IsTessellationBy}
use Rattle.draw_vis.specs.Visibility.{in_left_column, IsVisibilityBy}
use Rattle.draw_vis.proofs.SameLemmas.{bars_of_lines}

module _ (g : SidesValue) (S : IsSides g) (w : ℕ → ℕ) (hs cs : List ℤ) (y c : ℕ → ℕ) (H : Has hs g.vertices y) (C : Has cs (g.t_star + 1) c) (heights : (v : ℕ) → v < g.vertices → IsHeight g w v (y v)) (columns : (f : ℕ) → f ≤ g.t_star → IsColumn g f (c f)) where
  pub numbers_are : AreNumbers g w (number_at hs) (number_at cs)
  numbers_are = record {
    height = λ v l. subst (IsHeight g w v) (sym (number_of hs g.vertices y H v l)) (heights v l);
    column = λ f l. subst (IsColumn g f) (sym (number_of cs (g.t_star + 1) c C f (omega arith))) (columns f l);
  }

  pub laid_out : AreWeights g w → (most : ℕ) → ((e : ℕ) → e < edge_count g → w e ≤ most) → g.vertices * most ≤ MOST_COORDINATE → edge_count g ≤ MOST_COORDINATE → IsLaidOut g hs cs
  laid_out W most M high wide =
      let top : number_at hs g.sink ≤ (g.vertices - 1) * most = (bounds_law g S).heights w most M g.sink (number_at hs g.sink) (numbers_are.height g.sink (sink_in g S)) in
      let less : (g.vertices - 1) * most ≤ g.vertices * most = mul-le (g.vertices - 1) most g.vertices most (omega arith) (omega arith) in
      let last : number_at cs g.t_star ≤ edge_count g = (bounds_law g S).columns g.t_star (number_at cs g.t_star) (numbers_are.column g.t_star (omega arith)) in
      record {
        heights_are = naturals hs g.vertices y H;
        columns_are = naturals cs (g.t_star + 1) c C;
        up = (numbers_law g S).heights_grow w (number_at hs) W numbers_are.height;
        rightward = (numbers_law g S).columns_grow (number_at cs) numbers_are.column;
        high = omega arith;
        wide = omega arith;
      }

pub left_columns : (g : SidesValue) (cs lines : List ℤ) → Has lines (edge_count g) (λ e. number_at cs (face_left g e)) → AreEdgeColumns g (number_at cs) lines
left_columns g cs lines H = record {
  lines_are = naturals lines (edge_count g) (λ e. number_at cs (face_left g e)) H;
  each = λ e l. number_of lines (edge_count g) (λ e. number_at cs (face_left g e)) H e l;
}

-- tables for bars and lines
pub tables : (g : SidesValue) (hs cs lines : List ℤ) → IsLaidOut g hs cs → AreEdgeColumns g (number_at cs) lines → AreTables g hs cs lines
tables g hs cs lines T L = record {
  heights_are = T.heights_are;
  columns_are = T.columns_are;
  lines_are = L.lines_are;
  up = T.up;
  rightward = T.rightward;
  between = record {
    after_left = λ e a. (let q : number_at lines e ≡ number_at cs (face_left g e) = L.each e a in omega arith);
    before_right = λ e a. (let q : number_at lines e ≡ number_at cs (face_left g e) = L.each e a in let r : number_at cs (face_left g e) < number_at cs (face_right g e) = T.rightward e a in omega arith);
  };
}

pub frame : (g : SidesValue) (hs cs : List ℤ) → IsLaidOut g hs cs → HasFrame g hs cs
frame g hs cs T = record { wide = (let h : number_at cs g.t_star ≤ MOST_COORDINATE = T.wide in omega arith); high = T.high }

module _ (E : Embedded) (s t outer : ℕ) (g : SidesValue) (Q : IsSidesOf E s t outer g) where
  pub same_edges : edge_count g ≡ edges E
  unfolding edge_count
  same_edges = ap length Q.ends

  module _ (S : IsSides g) (answer : EdgeId → ℕ → Type 0) (most : ℕ) (hs cs : List ℤ) (H : AreHeights answer E s most hs) (C : AreColumns g cs) where
    has_heights : Has hs g.vertices H.height
    has_heights = record { size = H.size ∙ sym Q.vertices; at = λ v l. H.at v (subst (λ z. v < z) Q.vertices l) }

    has_columns : Has cs (g.t_star + 1) C.column
    has_columns = record { size = C.size; at = λ f l. C.at f (omega arith) }

    weights : AreWeights g H.weight
    weights e a = H.from_one e (subst (λ z. e < z) same_edges a)

    are_heights : (v : ℕ) → v < g.vertices → IsHeight g H.weight v (H.height v)
    are_heights v l = to_sides E s t outer g Q H.weight v (H.height v) (H.greatest v (subst (λ z. v < z) Q.vertices l))

    numbers : AreNumbers g H.weight (number_at hs) (number_at cs)
    numbers = numbers_are g S H.weight hs cs H.height C.column has_heights has_columns are_heights C.greatest

    pub laid : g.vertices * most ≤ MOST_COORDINATE → edge_count g ≤ MOST_COORDINATE → IsLaidOut g hs cs
    laid = laid_out g S H.weight hs cs H.height C.column has_heights has_columns are_heights C.greatest weights most (λ e a. H.to_most e (subst (λ z. e < z) same_edges a))

    pub by_tables : AreTablesBy answer g hs cs
    by_tables = record { weight = H.weight; taken = λ e a. H.taken e (subst (λ z. e < z) same_edges a); from_one = weights; numbers = numbers }

module _ (answer : EdgeId → ℕ → Type 0) (g : SidesValue) (hs cs : List ℤ) (T : AreTablesBy answer g hs cs) (N : Names) where
  pub by_bars : (lines : List ℤ) → AreEdgeColumns g (number_at cs) lines → (d : Drawing) → d ≡ bars g N Visibility (number_at hs) (number_at cs) (number_at lines) → IsVisibilityBy answer g N d
  by_bars lines L d q = record {
    weight = T.weight;
    taken = T.taken;
    from_one = T.from_one;
    picture = record {
      y = number_at hs;
      c = number_at cs;
      numbers = T.numbers;
      is = q ∙ bars_of_lines g N Visibility (number_at hs) (number_at cs) (number_at lines) (in_left_column g (number_at cs)) L.each;
    };
  }

  pub by_boxes : (d : Drawing) → d ≡ boxes g N (number_at hs) (number_at cs) → IsTessellationBy answer g N d
  by_boxes d q = record {
    weight = T.weight;
    taken = T.taken;
    from_one = T.from_one;
    picture = record { y = number_at hs; c = number_at cs; numbers = T.numbers; is = q };
  }
