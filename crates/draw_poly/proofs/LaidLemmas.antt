-- Tables that calls gave.
--   same_edges, same_tail, same_head   the sides have the edges of the graph
--   long            weights that closures answer are long where they are long on parallels
--   by_tables, tables_are   the tables are those of weights and places, and keep lines apart
--   polyline_by     dots and lines of these tables are the picture under these weights and places
--   drawn_by        so they are drawn right
use Rattle.std.proofs.Common.{ℕ, List, ◌≡◌, ◌<◌, ◌≤◌, ◌+◌, ◌-◌, ◌*◌, ℤ, arith, sym, ap, ◌∙◌, subst, length}
use Rattle.std.proofs.lemmas.Nat.{mul-le}
use Rattle.st_ids.specs.declared.limits.TheConstants.{MOST_COORDINATE}
use Rattle.st_ids.specs.declared.ids.EdgeId.{EdgeId}
use Rattle.st_ids.specs.declared.names.Names.{Names}
use Rattle.st_ids.specs.Graph.{tail_of, head_of}
use Rattle.st_map.specs.Embedded.{Embedded, edges, tail, head}
use Rattle.st_shape.specs.Rules.{Drawing}
use Rattle.st_sides.specs.Sides.{SidesValue, edge_count, edge_tail, edge_head, IsSides}
use Rattle.st_sides.specs.SidesOf.{IsSidesOf}
use Rattle.st_number.specs.Greatest.{IsHeight}
use Rattle.st_number.specs.Heights.{AreHeights, AreColumns}
use Rattle.st_number.specs.Numbers.{AreNumbers}
use Rattle.st_number.proofs.Public.{bounds_law, to_sides}
use Rattle.st_picture.specs.Bars.{number_at}
use Rattle.st_picture.specs.Drawn.{IsDrawn}
use Rattle.st_picture.specs.Naming.{AreNames}
use Rattle.st_picture.proofs.Public.{sink_in, Has, number_of, naturals}
use Rattle.draw_poly.specs.Numbers.{AreLong, IsLongOnParallels}
use Rattle.draw_poly.specs.Polyline.{polylines, IsPolylineBy}
use Rattle.draw_poly.specs.Tables.{ArePlaces, ArePolylineTables, ArePolylineTablesBy}
use Rattle.draw_poly.proofs.NumberLemmas.{tracks, polyline_drawn}
use Rattle.draw_poly.proofs.TableLemmas.{columns_are, has_columns, places_have, places_natural}

module _ (E : Embedded) (s t outer : ℕ) (g : SidesValue) (Q : IsSidesOf E s t outer g) where
  pub same_edges : edge_count g ≡ edges E
  unfolding edge_count
  same_edges = ap length Q.ends

  same_tail : (e : ℕ) → edge_tail g e ≡ tail E e
  unfolding edge_tail
  same_tail e = ap (λ z. tail_of z e) Q.ends

  same_head : (e : ℕ) → edge_head g e ≡ head E e
  unfolding edge_head
  same_head e = ap (λ z. head_of z e) Q.ends

  there : (e : ℕ) → e < edge_count g → e < edges E
  there e a = subst (λ z. e < z) same_edges a

  module _ (S : IsSides g) (answer : EdgeId → ℕ → Type 0) (L : IsLongOnParallels answer E) (most : ℕ) (hs cs : List ℤ) (H : AreHeights answer E s most hs) (C : AreColumns g cs) where
    long : AreLong g H.weight
    long = record {
      from_one = λ e a. H.from_one e (there e a);
      from_two = λ e d a b n q r. L (record { 0 = e }) (H.weight e) (there e a)
          (d, there d b, record { other = λ z. n (sym z); tails = sym (same_tail d) ∙ sym q ∙ same_tail e; heads = sym (same_head d) ∙ sym r ∙ same_head e })
          (H.taken e (there e a));
    }

    has_heights : Has hs g.vertices H.height
    has_heights = record { size = H.size ∙ sym Q.vertices; at = λ v l. H.at v (subst (λ z. v < z) Q.vertices l) }

    are_heights : (v : ℕ) → v < g.vertices → IsHeight g H.weight v (H.height v)
    are_heights v l = to_sides E s t outer g Q H.weight v (H.height v) (H.greatest v (subst (λ z. v < z) Q.vertices l))

    numbers : AreNumbers g H.weight (number_at hs) (number_at cs)
    numbers = record {
      height = λ v l. subst (IsHeight g H.weight v) (sym (number_of hs g.vertices H.height has_heights v l)) (are_heights v l);
      column = columns_are g S cs C;
    }

    module _ (place : ℤ → ℤ → ℤ → Type 0) (ps : List ℤ) (P : ArePlaces place g (number_at cs) g.vertices ps) where
      pub by_tables : ArePolylineTablesBy answer place g hs cs ps
      by_tables = record {
        weight = H.weight;
        taken = λ e a. H.taken e (there e a);
        long = long;
        numbers = numbers;
        placed = P;
      }

      pub tables_are : g.vertices * most ≤ MOST_COORDINATE → edge_count g ≤ MOST_COORDINATE → ArePolylineTables g hs cs ps
      tables_are high wide =
          let top : number_at hs g.sink ≤ (g.vertices - 1) * most = (bounds_law g S).heights H.weight most (λ e a. H.to_most e (there e a)) g.sink (number_at hs g.sink) (numbers.height g.sink (sink_in g S)) in
          let less : (g.vertices - 1) * most ≤ g.vertices * most = mul-le (g.vertices - 1) most g.vertices most (omega arith) (omega arith) in
          let last : number_at cs g.t_star ≤ edge_count g = (bounds_law g S).columns g.t_star (number_at cs g.t_star) (numbers.column g.t_star (omega arith)) in
          record {
            heights_are = naturals hs g.vertices H.height has_heights;
            columns_are = naturals cs (g.t_star + 1) C.column (has_columns g S cs C);
            places_are = places_natural place g (number_at cs) g.vertices ps P;
            tracks = tracks g S H.weight long (number_at hs) (number_at cs) (number_at ps) numbers
                (λ v i. (places_have place g (number_at cs) g.vertices ps P v i).from)
                (λ v i. (places_have place g (number_at cs) g.vertices ps P v i).to);
            high = omega arith;
            wide = omega arith;
          }

pub polyline_by : (answer : EdgeId → ℕ → Type 0) (place : ℤ → ℤ → ℤ → Type 0) (g : SidesValue) (hs cs ps : List ℤ) → ArePolylineTablesBy answer place g hs cs ps → (N : Names) (d : Drawing) → d ≡ polylines g N (number_at hs) (number_at cs) (number_at ps) → IsPolylineBy answer place g N d
polyline_by answer place g hs cs ps T N d q = record {
  weight = T.weight;
  taken = T.taken;
  long = T.long;
  at = number_at ps;
  picture = record {
    y = number_at hs;
    c = number_at cs;
    numbers = T.numbers;
    from = λ v i. (places_have place g (number_at cs) g.vertices ps T.placed v i).from;
    to = λ v i. (places_have place g (number_at cs) g.vertices ps T.placed v i).to;
    is = q;
  };
  placed = λ v i. (places_have place g (number_at cs) g.vertices ps T.placed v i).answer;
}

pub drawn_by : (answer : EdgeId → ℕ → Type 0) (place : ℤ → ℤ → ℤ → Type 0) (g : SidesValue) → IsSides g → (N : Names) → AreNames g N → (d : Drawing) → IsPolylineBy answer place g N d → IsDrawn g d
drawn_by answer place g S N A d D = polyline_drawn g S D.weight D.long D.at N A d D.picture
