-- Tables of heights, columns and lines are those of the constrained picture.
--   aligned_of        the edges of each listed path stand in one column
--   tables_of, frame_of, picture_by   the tables that the calls give
use Rattle.std.proofs.Common.{ℕ, List, [], ◌∷◌, ◌≡◌, ◌<◌, ◌≤◌, ◌+◌, ◌-◌, ◌*◌, ℤ, pos, ◌≤ℤ◌, nat_abs, map, arith, refl, sym, ap, ◌∙◌, subst, length, get_or, Some}
use Rattle.std.specs.Prelude.{slice_get}
use Rattle.std.proofs.Math.ListN.{get_or-map}
use Rattle.std.proofs.lemmas.Int.{ints}
use Rattle.std.proofs.lemmas.List.{length-map}
use Rattle.std.proofs.lemmas.Nat.{mul-le}
use Rattle.st_ids.specs.declared.limits.TheConstants.{MOST_COORDINATE}
use Rattle.st_ids.specs.declared.ids.EdgeId.{EdgeId}
use Rattle.st_ids.specs.declared.names.Names.{Names}
use Rattle.st_ids.specs.Lists.{In}
use Rattle.st_map.specs.Embedded.{Embedded, edges}
use Rattle.st_shape.specs.declared.item.Item.TheVariants.{Line}
use Rattle.st_shape.specs.declared.picture.Form.TheVariants.{Constrained}
use Rattle.st_shape.specs.Rules.{Drawing}
use Rattle.st_sides.specs.SidesOf.{IsSidesOf}
use Rattle.st_sides.specs.Sides.{SidesValue, edge_count, edge_tail, edge_head, face_left, face_right, IsSides}
use Rattle.st_number.specs.Greatest.{IsGreatest, IsHeight}
use Rattle.st_number.proofs.Public.{bounds_law, to_sides, numbers_law}
use Rattle.st_number.specs.Heights.{AreHeights, AreColumns}
use Rattle.st_number.specs.Numbers.{AreWeights, GivesHeights}
use Rattle.draw_align.specs.Crossing.{IsRanked}
use Rattle.st_picture.specs.Bars.{number_at, bars, bar, bar_start, upright, AreTables, HasFrame}
use Rattle.st_picture.specs.Growing.{HasLines}
use Rattle.st_picture.specs.Items.{grid_point}
use Rattle.st_picture.specs.Naming.{vertex_name, edge_name}
use Rattle.st_picture.proofs.Public.{bars_same, line_is, sink_in, Has, number_of, naturals}
use Rattle.draw_align.specs.Alignment.{path_count, path_of, node_of_path, alignment, alignment_weight}
use Rattle.draw_align.specs.Built.{AreNodeColumns, AreLines}
use Rattle.draw_align.specs.Constrained.{path_column, IsConstrained, IsConstrainedBy, IsAligned, ConstrainedLaw}
use Rattle.draw_align.specs.Listed.{path_at, AreSound}
use Rattle.draw_align.specs.Faults.{AreThere}
use Rattle.draw_align.proofs.ConstrainedLemmas.{columns_grow, lines_between, constrained_drawn}

abs_is : (k : ℕ) → nat_abs (pos k) ≡ k
abs_is k = refl

natural : (z : ℤ) (k : ℕ) → z ≡ pos k → pos 0 ≤ℤ z
natural z k q = omega (arith, ints)

-- ---- the edges of a listed path
pub aligned_of : (g : SidesValue) (ps : List (List ℕ)) → ((p e : ℕ) → p < length ps → In e (path_at ps p) → e < edge_count g) → (w : ℕ → ℕ) (N : Names) (d : Drawing) → IsConstrained g w ps N d → IsAligned g ps d
aligned_of g ps A w N d D p l = record {
  column = pos (D.x (node_of_path g p));
  stands = λ e i.
      let home : path_of D.paths e ≡ p = D.completed.only_home p e (let s : length ps ≤ path_count D.paths = D.completed.size in omega arith) (subst (λ z. In e z) (sym (D.completed.listed p l)) i) in
      record {
        name = edge_name N e;
        tail = vertex_name N (edge_tail g e);
        head = vertex_name N (edge_head g e);
        low = pos (D.y (edge_tail g e));
        high = pos (D.y (edge_head g e));
        is = subst (λ (z : Drawing). slice_get z.items (g.vertices + e) ≡ Some (Line (edge_name N e) (vertex_name N (edge_tail g e)) (vertex_name N (edge_head g e)) (grid_point (D.x (node_of_path g p)) (D.y (edge_tail g e)) ∷ grid_point (D.x (node_of_path g p)) (D.y (edge_head g e)) ∷ []))) (sym D.is)
            (line_is g N Constrained (grid_point (D.x g.t_star - 1) (D.y g.sink)) (bar g N D.y D.x) (upright g D.y (path_column g D.paths D.x)) (bar_start g D.y D.x) e (A p e l i)
            ∙ ap (λ z. Some (Line (edge_name N e) (vertex_name N (edge_tail g e)) (vertex_name N (edge_head g e)) (grid_point (D.x (node_of_path g z)) (D.y (edge_tail g e)) ∷ grid_point (D.x (node_of_path g z)) (D.y (edge_head g e)) ∷ []))) home);
      };
}

-- ---- the heights
pub same_edges : (E : Embedded) (s t outer : ℕ) (g : SidesValue) → IsSidesOf E s t outer g → edge_count g ≡ edges E
unfolding edge_count
same_edges E s t outer g Q = ap length Q.ends

module _ (E : Embedded) (s t outer : ℕ) (g : SidesValue) (Q : IsSidesOf E s t outer g) (S : IsSides g) (answer : EdgeId → ℕ → Type 0) (most : ℕ) (hs : List ℤ) (H : AreHeights answer E s most hs) where
  heights : Has hs g.vertices H.height
  heights = record { size = H.size ∙ sym Q.vertices; at = λ v l. H.at v (subst (λ z. v < z) Q.vertices l) }

  height_is : (v : ℕ) → v < g.vertices → number_at hs v ≡ H.height v
  height_is v l = number_of hs g.vertices H.height heights v l

  weights : AreWeights g H.weight
  weights e a = H.from_one e (subst (λ z. e < z) (same_edges E s t outer g Q) a)

  are_heights : GivesHeights g H.weight (number_at hs)
  are_heights v l = subst (IsHeight g H.weight v) (sym (height_is v l)) (to_sides E s t outer g Q H.weight v (H.height v) (H.greatest v (subst (λ z. v < z) Q.vertices l)))

  module _ (ps : List (List ℕ)) (sound : AreSound g ps (length ps)) (homes : List ℕ) (next : ℕ) (cs : List ℕ) (C : AreNodeColumns g ps homes next cs) (table : List ℤ) (T : table ≡ map (λ n. pos n) cs)
      (lines : List ℤ) (L : AreLines g homes table (edge_count g) lines) where
    column_is : (f : ℕ) → get_or table f (pos 0) ≡ pos (get_or cs f 0)
    column_is f = ap (λ z. get_or z f (pos 0)) T ∙ get_or-map (λ n. pos n) cs f 0

    number_is : (f : ℕ) → number_at table f ≡ get_or cs f 0
    unfolding number_at
    number_is f = ap nat_abs (column_is f) ∙ abs_is (get_or cs f 0)

    line_number : (e : ℕ) → e < edge_count g → number_at lines e ≡ path_column g C.paths.paths (number_at table) e
    unfolding number_at path_of
    line_number e a = ap nat_abs (L.each e a) ∙ ap (λ z. nat_abs (get_or table (node_of_path g (get_or z e 0)) (pos 0))) (sym C.paths.homes_are)

    columns_are : (f : ℕ) → f < g.t_star + 1 + path_count C.paths.paths → IsGreatest (alignment g C.paths.paths) (alignment_weight g) 0 f (number_at table f)
    columns_are f l = subst (IsGreatest (alignment g C.paths.paths) (alignment_weight g) 0 f) (sym (number_is f)) (C.greatest f (subst (λ z. f < g.t_star + 1 + z) C.paths.count l))

    between : HasLines g (number_at table) (path_column g C.paths.paths (number_at table))
    between = lines_between g S ps sound C.paths.paths C.paths.completed (number_at table) columns_are

    pub tables_of : AreTables g hs table lines
    tables_of = record {
      heights_are = naturals hs g.vertices H.height heights;
      columns_are = record {
        size = (let q : length table ≡ length cs = ap length T ∙ length-map cs (λ n. pos n) in let r : length cs ≡ g.t_star + 1 + next = C.size in omega arith);
        natural = λ f l. natural (get_or table f (pos 0)) (get_or cs f 0) (column_is f);
      };
      lines_are = record {
        size = (let q : length lines ≡ edge_count g = L.size in omega arith);
        natural = λ e a. natural (get_or lines e (pos 0)) (get_or cs (node_of_path g (get_or homes e 0)) 0) (L.each e a ∙ column_is (node_of_path g (get_or homes e 0)));
      };
      up = (numbers_law g S).heights_grow H.weight (number_at hs) weights are_heights;
      rightward = columns_grow g S ps sound C.paths.paths C.paths.completed (number_at table) columns_are;
      between = record {
        after_left = λ e a. subst (λ z. number_at table (face_left g e) ≤ z) (sym (line_number e a)) (between.after_left e a);
        before_right = λ e a. subst (λ z. z < number_at table (face_right g e)) (sym (line_number e a)) (between.before_right e a);
      };
    }

    pub frame_of : g.vertices * most ≤ MOST_COORDINATE → edge_count g ≤ MOST_COORDINATE → HasFrame g hs table
    frame_of high wide = record {
      wide = (let a : get_or cs g.t_star 0 ≤ edge_count g = C.few g.t_star (omega arith) in let b : number_at table g.t_star ≡ get_or cs g.t_star 0 = number_is g.t_star in omega arith);
      high =
          let l : g.sink < g.vertices = sink_in g S in
          let top : number_at hs g.sink ≤ (g.vertices - 1) * most = (bounds_law g S).heights H.weight most (λ e a. H.to_most e (subst (λ z. e < z) (same_edges E s t outer g Q) a)) g.sink (number_at hs g.sink) (are_heights g.sink l) in
          let less : (g.vertices - 1) * most ≤ g.vertices * most = mul-le (g.vertices - 1) most g.vertices most (omega arith) (omega arith) in
          omega arith;
    }

    pub picture_by : (N : Names) (d : Drawing) → d ≡ bars g N Constrained (number_at hs) (number_at table) (number_at lines) → IsConstrainedBy answer g ps N d
    picture_by N d q = record {
      weight = H.weight;
      taken = λ e a. H.taken e (subst (λ z. e < z) (same_edges E s t outer g Q) a);
      from_one = weights;
      picture = record {
        y = number_at hs;
        paths = C.paths.paths;
        x = number_at table;
        heights = are_heights;
        completed = C.paths.completed;
        columns = columns_are;
        is = q ∙ bars_same g S N Constrained (number_at hs) (number_at table) (number_at lines) (number_at hs) (number_at table) (path_column g C.paths.paths (number_at table)) (λ v l. refl) (λ f l. refl) line_number;
      };
    }

-- ---- the columns of the dual
module _ (g : SidesValue) (S : IsSides g) (cs : List ℤ) (C : AreColumns g cs) where
  has : Has cs (g.t_star + 1) C.column
  has = record { size = C.size; at = λ f l. C.at f (omega arith) }

  pub ranked : IsRanked g cs
  ranked = record {
    columns_are = naturals cs (g.t_star + 1) C.column has;
    rightward = λ e a.
        let l : face_left g e < g.t_star = S.left_before e a in
        let r : face_right g e ≤ g.t_star = S.right_within e a in
        let h : C.column (face_left g e) < C.column (face_right g e) = (numbers_law g S).columns_grow C.column C.greatest e a in
        let x : number_at cs (face_left g e) ≡ C.column (face_left g e) = number_of cs (g.t_star + 1) C.column has (face_left g e) (omega arith) in
        let y : number_at cs (face_right g e) ≡ C.column (face_right g e) = number_of cs (g.t_star + 1) C.column has (face_right g e) (omega arith) in
        omega arith;
  }

pub constrained_law : (g : SidesValue) → IsSides g → (ps : List (List ℕ)) → AreThere g ps → AreSound g ps (length ps) → ConstrainedLaw g ps
constrained_law g S ps A sound = record {
  drawn = λ w W N M d D. constrained_drawn g S ps sound w W N M d D;
  aligned = λ w N d D. aligned_of g ps A w N d D;
}
