-- When a picture of vertices, lines and labels is clean: one lemma for all forms but the tessellation.
--   IsEndAt, EndsAt, JoinAt   a point is an end of a line at a vertex; a fraction is one, of one line or of two
--   IsNeat                    figures are apart, and lines meet them and one another only at their ends
--   neat_clean                a neat picture whose vertices have different names is clean
use Rattle.std.proofs.Common.{ℕ, List, ◌≡◌, ◌≢◌, ◌<◌, ◌+◌, inl, inr, refl, ap, ◌∙◌, subst, arith, slice_get, Some, Any, ℤ}
use Rattle.std.proofs.lemmas.Option.{slice_get_within, get_or_from_slice_get}
use Rattle.st_ids.specs.declared.names.Names.{Names}
use Rattle.st_shape.specs.declared.item.Item.{Item}
use Rattle.st_shape.specs.declared.item.Item.TheVariants.{Dot, Bar, Line, Rect, Face, Label}
use Rattle.st_shape.specs.declared.picture.Form.{Form}
use Rattle.st_shape.specs.declared.point.Point.{Point}
use Rattle.st_shape.specs.declared.point.Segment.{Segment}
use Rattle.st_shape.specs.Meeting.{Ratio, Share, Meet, IsAt}
use Rattle.st_shape.specs.Clean.{Shape, vertex, line, other, shape_of, point_of, IsVertexNamed, IsSegmentOf, RisesIn, IsEnd, IsEndNamed, FaultyAlone, IsFaultyAt, CrossAway, FaultyShapes}
use Rattle.st_shape.specs.Rules.{Drawing}
use Rattle.st_shape.specs.Verdict.{IsClean}
use Rattle.st_sides.specs.Sides.{SidesValue, edge_count, edge_tail, edge_head, IsSides}
use Rattle.st_picture.specs.Items.{drawing, line as edge_line}
use Rattle.st_picture.specs.Naming.{vertex_name, AreNames}
use Rattle.st_picture.proofs.PlaceLemmas.{IsLabel, vertex_at, line_at, label_at, stands, vertex_is}

-- the point v is an end of the line of e, at the vertex m
abbrev pub IsEndAt : SidesValue → (ℕ → List Point) → ℕ → ℕ → Point → Type 0
IsEndAt g points e m v = IsEnd (edge_tail g e ≡ m) (edge_head g e ≡ m) (points e) v

-- p is an end of the line of e, at the vertex m
pub record EndsAt (g : SidesValue) (points : ℕ → List Point) (e m : ℕ) (p : Ratio) : Type 0 where
  pub v : Point
  pub end : IsEndAt g points e m v
  pub is : IsAt p v

-- p is an end of both lines, at one vertex
pub record JoinAt (g : SidesValue) (points : ℕ → List Point) (e f : ℕ) (p : Ratio) : Type 0 where
  pub m : ℕ
  pub v : Point
  pub first : IsEndAt g points e m v
  pub second : IsEndAt g points f m v
  pub is : IsAt p v

-- the figures of the vertices are apart, and lines meet them and one another only at their ends
pub record IsNeat (g : SidesValue) (form : Form) (figure : ℕ → Segment) (points : ℕ → List Point) : Type 0 where
  pub rises : (e : ℕ) (s : Segment) → e < edge_count g → IsSegmentOf (points e) s → RisesIn form s
  pub apart : (u v : ℕ) → u < g.vertices → v < g.vertices → u ≢ v → Meet (figure u) (figure v) → ⊥
  pub passes : (v e : ℕ) (s : Segment) (p : Ratio) → v < g.vertices → e < edge_count g → IsSegmentOf (points e) s → Share s (figure v) p → EndsAt g points e v p
  pub ends : (e m : ℕ) (v : Point) → e < edge_count g → m < g.vertices → IsEndAt g points e m v → Meet (point_of v) (figure m)
  pub lines : (e f : ℕ) (s t : Segment) (p : Ratio) → e < edge_count g → f < edge_count g → e ≢ f → IsSegmentOf (points e) s → IsSegmentOf (points f) t → Share s t p → JoinAt g points e f p

module _ (g : SidesValue) (S : IsSides g) (N : Names) (A : AreNames g N) (form : Form) (frame : Point) (item : ℕ → Item) (points : ℕ → List Point) (place : ℕ → Point) (figure : ℕ → Segment)
    (shapes : (v : ℕ) → v < g.vertices → shape_of (item v) ≡ vertex (vertex_name N v) (figure v)) (H : IsNeat g form figure points) where
  abbrev picture : Drawing
  picture = drawing g N form frame item points place

  abbrev shape : ℕ → Shape
  shape e = line (vertex_name N (edge_tail g e)) (vertex_name N (edge_head g e)) (points e)

  data Kind (i : ℕ) (h : Shape) : Type 0 where
    vertex_kind : i < g.vertices → h ≡ vertex (vertex_name N i) (figure i) → Kind i h
    line_kind : (e : ℕ) → e < edge_count g → i ≡ g.vertices + e → h ≡ shape e → Kind i h
    label_kind : h ≡ other → Kind i h

  label_shape : (x : Item) → IsLabel x → shape_of x ≡ other
  label_shape (Dot name p) l = absurd l
  label_shape (Bar name y from to) l = absurd l
  label_shape (Line name tail head points) l = absurd l
  label_shape (Rect name tail head low high) l = absurd l
  label_shape (Face number x from to) l = absurd l
  label_shape (Label name p text) l = refl

  kind : (i : ℕ) (x : Item) → slice_get picture.items i ≡ Some x → Kind i (shape_of x)
  kind i x q = elim (stands g N form frame item points place i x q) [
    | vertex_at a e ↦ vertex_kind a (ap shape_of e ∙ shapes i a)
    | line_at e a p r ↦ line_kind e a p (ap shape_of r)
    | label_at l ↦ label_kind (label_shape x l)
  ]

  -- an end with a vertex's name is one at the vertex
  end_of : (e m : ℕ) (v : Point) → e < edge_count g → m < g.vertices → IsEndNamed (vertex_name N (edge_tail g e)) (vertex_name N (edge_head g e)) (points e) (vertex_name N m) v → IsEndAt g points e m v
  end_of e m v a i (inl h) = inl (h.0, A.differ (edge_tail g e) m (S.tail_in e a) i h.1)
  end_of e m v a i (inr h) = inr (h.0, A.differ (edge_head g e) m (S.head_in e a) i h.1)

  named : (e m : ℕ) (v : Point) → IsEndAt g points e m v → IsEndNamed (vertex_name N (edge_tail g e)) (vertex_name N (edge_head g e)) (points e) (vertex_name N m) v
  named e m v (inl h) = inl (h.0, ap (vertex_name N) h.1)
  named e m v (inr h) = inr (h.0, ap (vertex_name N) h.1)

  -- ---- alone
  named_shape : (n : ℤ) (s : Segment) (x : Item) → shape_of x ≡ vertex n s → IsVertexNamed n x
  named_shape n s (Dot name p) q = cc q
  named_shape n s (Bar name y from to) q = cc q
  named_shape n s (Line name tail head points) q = absurd (cc q)
  named_shape n s (Rect name tail head low high) q = absurd (cc q)
  named_shape n s (Face number x from to) q = absurd (cc q)
  named_shape n s (Label name p text) q = absurd (cc q)

  is_there : (v : ℕ) → v < g.vertices → Any (λ e. IsVertexNamed (vertex_name N v) e) picture.items
  is_there v i =
      let q = vertex_is g N form frame item points place v i in
      (v, item v, slice_get_within picture.items v (item v) q, get_or_from_slice_get picture.items v (item v) (item v) q, named_shape (vertex_name N v) (figure v) (item v) (shapes v i))

  vertex_alone : (x : Item) (n : ℤ) (s : Segment) → shape_of x ≡ vertex n s → FaultyAlone form picture.items x → ⊥
  vertex_alone (Dot name p) n s q F = F
  vertex_alone (Bar name y from to) n s q F = F
  vertex_alone (Line name tail head points) n s q F = cc q
  vertex_alone (Rect name tail head low high) n s q F = cc q
  vertex_alone (Face number x from to) n s q F = cc q
  vertex_alone (Label name p text) n s q F = cc q

  label_alone : (x : Item) → IsLabel x → FaultyAlone form picture.items x → ⊥
  label_alone (Dot name p) l F = l
  label_alone (Bar name y from to) l F = l
  label_alone (Line name tail head points) l F = l
  label_alone (Rect name tail head low high) l F = l
  label_alone (Face number x from to) l F = l
  label_alone (Label name p text) l F = F

  line_alone : (e : ℕ) → e < edge_count g → FaultyAlone form picture.items (edge_line g N points e) → ⊥
  line_alone e a (inl h) = h (λ s Q. H.rises e s a Q)
  line_alone e a (inr h) = elim h [ inl n ↦ n (is_there (edge_tail g e) (S.tail_in e a)) | inr n ↦ n (is_there (edge_head g e) (S.head_in e a)) ]

  alone : (i : ℕ) (x : Item) → slice_get picture.items i ≡ Some x → FaultyAlone form picture.items x → ⊥
  alone i x q F = elim (stands g N form frame item points place i x q) [
    | vertex_at a e ↦ vertex_alone x (vertex_name N i) (figure i) (ap shape_of e ∙ shapes i a) F
    | line_at e a p r ↦ line_alone e a (subst (FaultyAlone form picture.items) r F)
    | label_at l ↦ label_alone x l F
  ]

  -- ---- pairs
  vertices_apart : (u v : ℕ) → u < g.vertices → v < g.vertices → u ≢ v → FaultyShapes (vertex (vertex_name N u) (figure u)) (vertex (vertex_name N v) (figure v)) → ⊥
  vertices_apart u v i j n (inl q) = n (A.differ u v i j q)
  vertices_apart u v i j n (inr M) = H.apart u v i j n M

  vertex_and_line : (v e : ℕ) → v < g.vertices → e < edge_count g → IsFaultyAt (vertex_name N (edge_tail g e) ≡ vertex_name N v) (vertex_name N (edge_head g e) ≡ vertex_name N v) (figure v) (points e) → ⊥
  vertex_and_line v e i a (inl h) = (let E = H.passes v e h.s h.p i a h.segment h.shared in h.inside E.v (named e v E.v E.end) E.is)
  vertex_and_line v e i a (inr h) = h.off (H.ends e v h.v a i (end_of e v h.v a i h.end))

  lines_apart : (e f : ℕ) → e < edge_count g → f < edge_count g → e ≢ f → CrossAway (vertex_name N (edge_tail g e)) (vertex_name N (edge_head g e)) (points e) (vertex_name N (edge_tail g f)) (vertex_name N (edge_head g f)) (points f) → ⊥
  lines_apart e f a b n C = (let J = H.lines e f C.s C.t C.p a b n C.first C.second C.shared in C.away (vertex_name N J.m) J.v (named e J.m J.v J.first) (named f J.m J.v J.second) J.is)

  label_first : (k : Shape) → FaultyShapes other k → ⊥
  label_first (vertex n s) F = F
  label_first (line tail head points) F = F
  label_first other F = F

  pair : (i j : ℕ) → i < j → (h k : Shape) → Kind i h → Kind j k → FaultyShapes h k → ⊥
  pair i j l h k (label_kind q) K F = label_first k (subst (λ z. FaultyShapes z k) q F)
  pair i j l h k (vertex_kind a q) (vertex_kind b r) F = vertices_apart i j a b (λ z. omega arith) (subst (FaultyShapes (vertex (vertex_name N i) (figure i))) r (subst (λ z. FaultyShapes z k) q F))
  pair i j l h k (vertex_kind a q) (line_kind e b p r) F = vertex_and_line i e a b (subst (FaultyShapes (vertex (vertex_name N i) (figure i))) r (subst (λ z. FaultyShapes z k) q F))
  pair i j l h k (vertex_kind a q) (label_kind r) F = subst (FaultyShapes (vertex (vertex_name N i) (figure i))) r (subst (λ z. FaultyShapes z k) q F)
  pair i j l h k (line_kind e a p q) (vertex_kind b r) F = vertex_and_line j e b a (subst (FaultyShapes (shape e)) r (subst (λ z. FaultyShapes z k) q F))
  pair i j l h k (line_kind e a p q) (line_kind f b p' r) F = lines_apart e f a b (λ z. omega arith) (subst (FaultyShapes (shape e)) r (subst (λ z. FaultyShapes z k) q F))
  pair i j l h k (line_kind e a p q) (label_kind r) F = subst (FaultyShapes (shape e)) r (subst (λ z. FaultyShapes z k) q F)

  pub neat_clean : IsClean form picture.items
  neat_clean = record {
    alone = λ i m F. alone i F.e F.e_is F.faulty;
    pairs = λ i j l m F. pair i j l (shape_of F.e) (shape_of F.f) (kind i F.e F.e_is) (kind j F.f F.f_is) F.faulty;
  }
