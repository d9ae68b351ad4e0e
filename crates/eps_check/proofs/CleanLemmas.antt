-- A picture whose items are in place and whose strips lie apart is clean.
use Rattle.std.proofs.Common.{◌≡◌, ◌≢◌, ℕ, ◌+◌, ◌-◌, ◌≤◌, ◌⊎◌, ℤ, pos, nat_abs, Bool, Some, List, length, slice_get, get_or, All, Any, inl, inr, ap, sym, subst, ◌∙◌, refl, arith}
use Rattle.std.proofs.lemmas.Bool.{cases_eq, cases_lt}
use Rattle.std.proofs.lemmas.Option.{get_or_from_slice_get, slice_get_within, slice_get-get_or}
use Rattle.st_shape.specs.declared.point.Point.{Point}
use Rattle.st_shape.specs.declared.point.Segment.{Segment}
use Rattle.st_shape.specs.declared.item.Item.{Item}
use Rattle.st_shape.specs.declared.item.Item.TheVariants.{Dot, Bar, Line, Rect, Face, Label}
use Rattle.st_shape.specs.declared.picture.Form.{Form}
use Rattle.st_shape.specs.Clean.{FaultyAlone, FaultyPair, IsSegmentOf, IsVertexNamed, shape_of}
use Rattle.st_shape.specs.Least.{NoPair}
use Rattle.st_shape.specs.Meeting.{IsAt, IsOnGrid, LiesOn, Ratio}
use Rattle.st_shape.specs.Verdict.{IsClean}
use Rattle.st_shape.proofs.Public.{on_grid_at, one_point}
use Rattle.eps_check.specs.declared.strip.Strip.{Strip}
use Rattle.eps_check.specs.declared.names.Vertex.{Vertex}
use Rattle.eps_check.specs.Names.{AreDistinct, AreInPlace, IsOnVertex, IsInPlace, IsLineInPlace}
use Rattle.eps_check.specs.Shapes.{AreLaid, flat_strip, height, IsOnSheet, slope_strip}
use Rattle.eps_check.specs.Strips.{IsInCell}
use Rattle.eps_check.specs.Sweeps.{AllApart, LieApart}
use Rattle.eps_check.specs.Views.{is_slanted}
use Rattle.eps_check.proofs.LodgeLemmas.{Flat, flat_on_vertex, flat_owner, flat_scaled, dot_flat, bar_flat, listed_at, IsOwner, no_bar, one_name, rises_in_view, shape_has, shape_named}
use Rattle.eps_check.proofs.NameLemmas.{one_place}
use Rattle.eps_check.proofs.PairLemmas.{Allowed, not_faulty, ShapeEnd, ShapeHas, ShapeNamed, ShapePoint}
use Rattle.eps_check.proofs.PointLemmas.{at_a, at_b, cell_of, flat_point, height_at, height_of_point, slope_point, weighted}
use Rattle.eps_check.proofs.TileLemmas.{sheet_at}

same_item : (e f : Item) → Some e ≡ Some f → e ≡ f
same_item e f h = cc

item_at : (items : List Item) (k m : ℕ) (e f : Item) → k ≡ m → slice_get items k ≡ Some e → slice_get items m ≡ Some f → e ≡ f
item_at items k m e f z h g = same_item e f (sym h ∙ ap (slice_get items) z ∙ g)

module _ (form : Form) (vertices : List Vertex) (items : List Item) (strips : List Strip) (sheet : All (λ e. IsOnSheet e) items)
    (laid : AreLaid (is_slanted form) items (length items) strips) (apart : AllApart strips)
    (distinct : AreDistinct vertices (length vertices)) (in_place : AreInPlace form (is_slanted form) vertices items (length items)) where
  place_at : (k : ℕ) (e : Item) → slice_get items k ≡ Some e → IsInPlace form (is_slanted form) vertices items k e
  place_at k e h = in_place.each k e (slice_get_within items k e h) h

  owner_at : (k : ℕ) (e : Item) → slice_get items k ≡ Some e → (c x y q : ℕ) → Flat (is_slanted form) e x y q → IsInCell c y q → IsOwner strips k c x y q
  owner_at k e h c x y q flat cell =
      let w = laid.has k e (slice_get_within items k e h) h in
      flat_owner (is_slanted form) k w.0 e strips c x y q w.1 flat cell

  -- the point is the end, named like the vertex at l, of the line e
  record EndOn (e : Item) (l : ℕ) (p : Ratio) : Type 0 where
    n : ℤ
    v : Point
    grid : IsOnGrid v
    end : ShapeEnd (shape_of e) n v
    at : IsAt p v
    f : Item
    f_is : slice_get items l ≡ Some f
    named : IsVertexNamed n f

  -- the point belongs to a strip of the item at k, or to one of the vertex whose name it has as an end of the item
  record Lodged (e : Item) (k c : ℕ) (p : Ratio) : Type 0 where
    l : ℕ
    owner : IsOwner strips l c (nat_abs p.x) (height_at (is_slanted form) p) p.q
    why : (l ≡ k) ⊎ EndOn e l p

  lodge_end : (e : Item) (k c : ℕ) (p : Ratio) → IsInCell c (height_at (is_slanted form) p) p.q → (n : ℤ) (v : Point) → IsOnGrid v → ShapeEnd (shape_of e) n v → IsAt p v →
      IsOnVertex items n v → Lodged e k c p
  lodge_end e k c p cell n v g end at there =
      let numbers = height_of_point (is_slanted form) p v g at in
      let flat = flat_on_vertex (is_slanted form) there.e (sheet_at items sheet there.k there.e there.e_is) (no_bar form (is_slanted form) vertices items there.k there.e (place_at there.k there.e there.e_is))
      v g there.vertex.on in
      record {
        l = there.k;
        owner =
            owner_at there.k there.e there.e_is c (nat_abs p.x) (height_at (is_slanted form) p) p.q
            (flat_scaled (is_slanted form) there.e (nat_abs p.x) (height_at (is_slanted form) p) (nat_abs v.x) (height (is_slanted form) v) p.q numbers.0 numbers.1 flat) cell;
        why = inr (record { n = n; v = v; grid = g; end = end; at = at; f = there.e; f_is = there.e_is; named = there.vertex.named });
      }

  module _ (k : ℕ) (name tail head : ℤ) (points : List Point) (e_is : slice_get items k ≡ Some (Line name tail head points)) (c : ℕ) (p : Ratio) (divides : 1 ≤ p.q)
      (cell : IsInCell c (height_at (is_slanted form) p) p.q) where
    line_sheet : (2 ≤ length points) × All (λ p. IsOnGrid p) points
    line_sheet = sheet_at items sheet k (Line name tail head points) e_is

    line_place : IsLineInPlace form items tail head points
    line_place = place_at k (Line name tail head points) e_is

    -- a point of the line that is one of its points
    lodge_point : (j : ℕ) (v : Point) → slice_get points j ≡ Some v → IsAt p v → Lodged (Line name tail head points) k c p
    lodge_point j v h at =
        let g = on_grid_at points line_sheet.1 j v h in
        let within = slice_get_within points j v h in
        elim (cases_lt 0 j) [
          | inr none ↦
              let z : j ≡ 0 = omega arith in
              let first = ap (slice_get points) (sym z) ∙ h in
              lodge_end (Line name tail head points) k c p cell tail v g (inl (first, refl)) at (line_place.first v first)
          | inl some ↦ elim (cases_lt (j + 1) (length points)) [
            | inr end ↦
                let z : j ≡ length points - 1 = omega arith in
                let last = ap (slice_get points) (sym z) ∙ h in
                lodge_end (Line name tail head points) k c p cell head v g (inr (last, refl)) at (line_place.last v last)
            | inl inner ↦
                let numbers = height_of_point (is_slanted form) p v g at in
                let w = laid.has k (Line name tail head points) (slice_get_within items k _ e_is) e_is in
                record {
                  l = k;
                  owner = record {
                    s = flat_strip k w.0 (nat_abs v.x) (nat_abs v.x) (height (is_slanted form) v);
                    of = refl;
                    there = w.1.bends j v (omega arith) within inner h;
                    point =
                        flat_point k w.0 _ _ _ c (nat_abs p.x) (height_at (is_slanted form) p) p.q cell
                        (let x = numbers.0 in record { left = omega (arith, x); right = omega (arith, x); level = numbers.1 });
                  };
                  why = inl refl;
                }
          ]
        ]

    lodge_line : (s : Segment) → IsSegmentOf points s → LiesOn s p → Lodged (Line name tail head points) k c p
    lodge_line s seg on =
        let ga = on_grid_at points line_sheet.1 seg.k s.a seg.a_is in
        let gb = on_grid_at points line_sheet.1 (seg.k + 1) s.b seg.b_is in
        let w = weighted (is_slanted form) s ga gb p on in
        elim (cases_lt 0 w.i) [
          | inr none ↦ lodge_point seg.k s.a seg.a_is (at_a (is_slanted form) s p ga w (omega arith))
          | inl some ↦ elim (cases_lt 0 w.m) [
            | inr none ↦ lodge_point (seg.k + 1) s.b seg.b_is (at_b (is_slanted form) s p gb w (omega arith))
            | inl more ↦
                let has = laid.has k (Line name tail head points) (slice_get_within items k _ e_is) e_is in
                let within = slice_get_within points (seg.k + 1) s.b seg.b_is in
                record {
                  l = k;
                  owner = record {
                    s = slope_strip k has.0 (is_slanted form) s.a s.b;
                    of = refl;
                    there = has.1.slopes seg.k s.a s.b within seg.a_is seg.b_is;
                    point =
                        slope_point k has.0 (is_slanted form) s.a s.b c (nat_abs p.x) (height_at (is_slanted form) p) p.q w.m w.i cell
                        (rises_in_view form s ga gb (line_place.rises s seg)) more some w.same w.h w.x;
                  };
                  why = inl refl;
                }
          ]
        ]

  lodge : (k : ℕ) (e : Item) → slice_get items k ≡ Some e → (c : ℕ) (p : Ratio) → 1 ≤ p.q → IsInCell c (height_at (is_slanted form) p) p.q →
      ShapePoint (shape_of e) p → Lodged e k c p
  lodge k (Dot name v) e_is c p divides cell on =
      record {
        l = k;
        owner = owner_at k (Dot name v) e_is c _ _ p.q (dot_flat (is_slanted form) v (sheet_at items sheet k (Dot name v) e_is) p on) cell;
        why = inl refl;
      }
  lodge k (Bar name y from to) e_is c p divides cell on =
      let g = sheet_at items sheet k (Bar name y from to) e_is in
      record {
        l = k;
        owner = owner_at k (Bar name y from to) e_is c _ _ p.q (bar_flat (is_slanted form) y from to (place_at k (Bar name y from to) e_is).0 g.0 g.1 g.2 p on) cell;
        why = inl refl;
      }
  lodge k (Line name tail head points) e_is c p divides cell on = lodge_line k name tail head points e_is c p divides cell on.0 on.1 on.2
  lodge k (Rect name tail head low high) e_is c p divides cell on = absurd on
  lodge k (Face number x from to) e_is c p divides cell on = absurd on
  lodge k (Label name v text) e_is c p divides cell on = absurd on

  module _ (k m : ℕ) (e f : Item) (e_is : slice_get items k ≡ Some e) (f_is : slice_get items m ≡ Some f) (differ : k ≢ m) where
    -- the vertex at k, named n, is e
    named_at : (l : ℕ) (x : Item) (n : ℤ) (j : ℕ) (y : Item) → slice_get items l ≡ Some x → slice_get items j ≡ Some y → l ≡ j → IsVertexNamed n x → ShapeNamed (shape_of y) n
    named_at l x n j y x_is y_is z named = subst (λ (i : Item). ShapeNamed (shape_of i) n) (item_at items l j x y z x_is y_is) (shape_named x n named)

    allowed_by : (c : ℕ) (p : Ratio) → 1 ≤ p.q → (a : Lodged e k c p) (b : Lodged f m c p) → a.l ≡ b.l → (a.l ≡ k) ⊎ EndOn e a.l p → (b.l ≡ m) ⊎ EndOn f b.l p →
        Allowed (shape_of e) (shape_of f) p
    allowed_by c p divides a b z (inl ea) (inl eb) = absurd (differ (sym ea ∙ z ∙ eb))
    allowed_by c p divides a b z (inl ea) (inr eb) =
        record { n = eb.n; v = eb.v; at = eb.at; why = inl (eb.end, named_at b.l eb.f eb.n k e eb.f_is e_is (sym z ∙ ea) eb.named) }
    allowed_by c p divides a b z (inr ea) (inl eb) =
        record { n = ea.n; v = ea.v; at = ea.at; why = inr (inl (ea.end, named_at a.l ea.f ea.n m f ea.f_is f_is (z ∙ eb) ea.named)) }
    allowed_by c p divides a b z (inr ea) (inr eb) =
        let name = one_name ea.f eb.n ea.n (named_at b.l eb.f eb.n a.l ea.f eb.f_is ea.f_is (sym z) eb.named) (shape_named ea.f ea.n ea.named) in
        let point = one_point p eb.v ea.v eb.grid ea.grid divides eb.at ea.at in
        record {
          n = ea.n;
          v = ea.v;
          at = ea.at;
          why = inr (inr (ea.end, subst (λ (w : Point). ShapeEnd (shape_of f) ea.n w) point (subst (λ n. ShapeEnd (shape_of f) n eb.v) name eb.end)));
        }

    allowed : (p : Ratio) → 1 ≤ p.q → ShapePoint (shape_of e) p → ShapePoint (shape_of f) p → Allowed (shape_of e) (shape_of f) p
    allowed p divides on on' =
        let c = cell_of (height_at (is_slanted form) p) p.q divides in
        let a = lodge k e e_is c.0 p divides c.1 on in
        let b = lodge m f f_is c.0 p divides c.1 on' in
        elim (cases_eq a.l b.l) [
          | inl z ↦ allowed_by c.0 p divides a b z a.why b.why
          | inr ne ↦
              absurd ((apart.pairs a.owner.s b.owner.s a.owner.there b.owner.there (λ z. ne (sym a.owner.of ∙ z ∙ b.owner.of))).at
              c.0 (nat_abs p.x) (height_at (is_slanted form) p) p.q c.1 a.owner.point b.owner.point)
        ]

    names_differ : (n : ℤ) → ShapeNamed (shape_of e) n → ShapeNamed (shape_of f) n → ⊥
    names_differ n h g =
        differ (one_place vertices distinct n k m (listed_at form (is_slanted form) vertices items k e n (place_at k e e_is) h) (listed_at form (is_slanted form) vertices items m f n (place_at m f f_is) g))

  -- an end of a line lies on the figure of the vertex whose name it has
  vertex_has : (m : ℕ) (f : Item) → slice_get items m ≡ Some f → (n : ℤ) (v : Point) → IsOnVertex items n v → ShapeNamed (shape_of f) n → ShapeHas (shape_of f) v
  vertex_has m f f_is n v there named =
      let z = one_place vertices distinct n there.k m (listed_at form (is_slanted form) vertices items there.k there.e n (place_at there.k there.e there.e_is) (shape_named there.e n there.vertex.named))
      (listed_at form (is_slanted form) vertices items m f n (place_at m f f_is) named) in
      subst (λ (i : Item). ShapeHas (shape_of i) v) (item_at items there.k m there.e f z there.e_is f_is) (shape_has there.e v there.vertex.on)

  ends_on : (k m : ℕ) (e f : Item) → slice_get items k ≡ Some e → slice_get items m ≡ Some f → (n : ℤ) (v : Point) → ShapeEnd (shape_of e) n v → ShapeNamed (shape_of f) n → ShapeHas (shape_of f) v
  ends_on k m (Dot name p) f e_is f_is n v end named = absurd end
  ends_on k m (Bar name y from to) f e_is f_is n v end named = absurd end
  ends_on k m (Line name tail head points) f e_is f_is n v end named =
      let place : IsLineInPlace form items tail head points = place_at k (Line name tail head points) e_is in
      elim end [
        | inl u ↦ vertex_has m f f_is n v (subst (λ z. IsOnVertex items z v) u.1 (place.first v u.0)) named
        | inr u ↦ vertex_has m f f_is n v (subst (λ z. IsOnVertex items z v) u.1 (place.last v u.0)) named
      ]
  ends_on k m (Rect name tail head low high) f e_is f_is n v end named = absurd end
  ends_on k m (Face number x from to) f e_is f_is n v end named = absurd end
  ends_on k m (Label name p text) f e_is f_is n v end named = absurd end

  no_pair : NoPair (length items) (FaultyPair items)
  no_pair k m less within h =
      let differ : k ≢ m = λ z. omega (arith, less, z) in
      not_faulty (shape_of h.e) (shape_of h.f) (allowed k m h.e h.f h.e_is h.f_is differ) (names_differ k m h.e h.f h.e_is h.f_is differ)
      (ends_on k m h.e h.f h.e_is h.f_is) (ends_on m k h.f h.e h.f_is h.e_is) h.faulty

  -- some item is a vertex of the name
  some_vertex : (n : ℤ) (v : Point) → IsOnVertex items n v → Any (λ e. IsVertexNamed n e) items
  some_vertex n v there = (there.k, there.e, slice_get_within items there.k there.e there.e_is, get_or_from_slice_get items there.k there.e there.e there.e_is, there.vertex.named)

  right_alone : (k : ℕ) (e : Item) → slice_get items k ≡ Some e → FaultyAlone form items e → ⊥
  right_alone k (Dot name p) e_is h = h
  right_alone k (Bar name y from to) e_is h = h
  right_alone k (Line name tail head points) e_is h =
      let place : IsLineInPlace form items tail head points = place_at k (Line name tail head points) e_is in
      let some : 2 ≤ length points = (sheet_at items sheet k (Line name tail head points) e_is).0 in
      let d : Point = record { x = pos 0; y = pos 0 } in
      elim h [
        | inl r ↦ r place.rises
        | inr u ↦ elim u [
          | inl t ↦ t (some_vertex tail _ (place.first (get_or points 0 d) (slice_get-get_or points 0 d (omega arith))))
          | inr t ↦ t (some_vertex head _ (place.last (get_or points (length points - 1) d) (slice_get-get_or points (length points - 1) d (omega arith))))
        ]
      ]
  right_alone k (Rect name tail head low high) e_is h = place_at k (Rect name tail head low high) e_is
  right_alone k (Face number x from to) e_is h = place_at k (Face number x from to) e_is
  right_alone k (Label name p text) e_is h = h

  pub clean : IsClean form items
  clean = record { alone = λ k less h. right_alone k h.e h.e_is h.faulty; pairs = no_pair }

pub clean_from : (form : Form) (slanted : Bool) (vertices : List Vertex) (items : List Item) → slanted ≡ is_slanted form →
    All (λ e. IsOnSheet e) items → AreDistinct vertices (length vertices) → AreInPlace form slanted vertices items (length items) → LieApart slanted items → IsClean form items
clean_from form slanted vertices items e sheet distinct place lie =
    clean form vertices items lie.strips sheet (subst (λ (b : Bool). AreLaid b items (length items) lie.strips) e lie.laid) lie.apart distinct
    (subst (λ (b : Bool). AreInPlace form b vertices items (length items)) e place)
