-- Each point of an item belongs to a strip: one of the item itself, or where the point is an end of a line, one of its vertex.
use Rattle.std.proofs.Common.{◌≡◌, ℕ, ◌+◌, ◌*◌, ◌<◌, ◌≤◌, Bool, false, ℤ, pos, nat_abs, ◌<ℤ◌, ◌≤ℤ◌, ◌+ℤ◌, List, Contains, ap, sym, subst, ◌∙◌, refl, arith, mul-le-mul_left}
use Rattle.std.proofs.lemmas.Int.{ints}
use Rattle.st_shape.specs.declared.point.Point.{Point}
use Rattle.st_shape.specs.declared.point.Segment.{Segment}
use Rattle.st_shape.specs.declared.item.Item.{Item}
use Rattle.st_shape.specs.declared.item.Item.TheVariants.{Dot, Bar, Line, Rect, Face, Label}
use Rattle.st_shape.specs.declared.picture.Form.{Form}
use Rattle.st_shape.specs.declared.picture.Form.TheVariants.{Visibility, Tessellation, Constrained, Polyline, Dominance}
use Rattle.st_shape.specs.Clean.{IsVertexNamed, point_of, RisesIn, shape_of}
use Rattle.st_shape.specs.Inside.{point}
use Rattle.st_shape.specs.Meeting.{IsOnGrid, LiesOn, Ratio}
use Rattle.eps_check.specs.declared.strip.Strip.{Strip}
use Rattle.eps_check.specs.declared.names.Vertex.{Vertex}
use Rattle.eps_check.specs.Names.{IsOnFigure, IsListed, IsInPlace}
use Rattle.eps_check.specs.Shapes.{flat_strip, HasStrips, height, IsOnSheet}
use Rattle.eps_check.specs.Strips.{IsInCell, IsPointOf}
use Rattle.eps_check.specs.Views.{is_slanted}
use Rattle.eps_check.proofs.PairLemmas.{ShapeHas, ShapeNamed}
use Rattle.eps_check.proofs.PointLemmas.{flat_point, height_at, le_of, OnFlat, same_of, weighted}

-- ---- vertices

-- the point lies on the figure of the vertex
abbrev pub Flat : Bool → Item → ℕ → ℕ → ℕ → Type 0
Flat slanted (Dot name p) x y q = OnFlat (nat_abs p.x) (nat_abs p.x) (height slanted p) x y q
Flat slanted (Bar name h from to) x y q = OnFlat (nat_abs from) (nat_abs to) (nat_abs h) x y q
Flat slanted (Line name tail head points) x y q = ⊥
Flat slanted (Rect name tail head low high) x y q = ⊥
Flat slanted (Face number a from to) x y q = ⊥
Flat slanted (Label name p text) x y q = ⊥

-- no bar is seen in a slanted view
abbrev pub NoBar : Bool → Item → Type 0
NoBar slanted (Dot name p) = Unit {0}
NoBar slanted (Bar name y from to) = slanted ≡ false
NoBar slanted (Line name tail head points) = Unit {0}
NoBar slanted (Rect name tail head low high) = Unit {0}
NoBar slanted (Face number x from to) = Unit {0}
NoBar slanted (Label name p text) = Unit {0}

bar : ℤ → ℤ → ℤ → Segment
bar y from to = record { a = point from y; b = point to y }

nat_order : (a b : ℤ) → pos 0 ≤ℤ a → a ≤ℤ b → nat_abs a ≤ nat_abs b
nat_order a b h k = omega (arith, ints)

same_mean : (m i q a : ℕ) → m + i ≡ q → m * a + i * a ≡ q * a
same_mean m i q a e = omega (arith, ap (λ t. t * a) e)

low_mean : (m i q a b : ℕ) → m + i ≡ q → a ≤ b → q * a ≤ m * a + i * b
low_mean m i q a b e h = omega (arith, ap (λ t. t * a) e, mul-le-mul_left i h)

high_mean : (m i q a b : ℕ) → m + i ≡ q → a ≤ b → m * a + i * b ≤ q * b
high_mean m i q a b e h = omega (arith, ap (λ t. t * b) e, mul-le-mul_left m h)

pub dot_flat : (slanted : Bool) (p : Point) → IsOnGrid p → (r : Ratio) → LiesOn (point_of p) r →
    OnFlat (nat_abs p.x) (nat_abs p.x) (height slanted p) (nat_abs r.x) (height_at slanted r) r.q
dot_flat slanted p g r on =
    let w = weighted slanted (point_of p) g g r on in
    let x = w.x ∙ same_mean w.m w.i r.q (nat_abs p.x) w.same in
    record { left = omega (arith, x); right = omega (arith, x); level = w.h ∙ same_mean w.m w.i r.q (height slanted p) w.same }

pub bar_flat : (slanted : Bool) (y from to : ℤ) → slanted ≡ false → IsOnGrid (point from y) → IsOnGrid (point to y) → from ≤ℤ to → (r : Ratio) →
    LiesOn (record { a = record { x = from; y = y }; b = record { x = to; y = y } }) r →
    OnFlat (nat_abs from) (nat_abs to) (nat_abs y) (nat_abs r.x) (height_at slanted r) r.q
bar_flat slanted y from to e ga gb order r on =
    let w = weighted false (record { a = record { x = from; y = y }; b = record { x = to; y = y } }) ga gb r on in
    let h = nat_order from to ga.x_low order in
    let level : height_at false r ≡ r.q * nat_abs y = w.h ∙ same_mean w.m w.i r.q (nat_abs y) w.same in
    record {
      left = let a = low_mean w.m w.i r.q (nat_abs from) (nat_abs to) w.same h in omega (arith, w.x, a);
      right = let a = high_mean w.m w.i r.q (nat_abs from) (nat_abs to) w.same h in omega (arith, w.x, a);
      level = subst (λ (b : Bool). height_at b r ≡ r.q * nat_abs y) (sym e) level;
    }

-- the same for a point of the grid
cancelled : (from to h x y a b q : ℕ) → 1 ≤ q → x ≡ q * a → y ≡ q * b → OnFlat from to h x y q → OnFlat from to h a b 1
cancelled from to h x y a b q p e f on =
    let l = le_of q from a p (omega (arith, on.left, e)) in
    let r = le_of q a to p (omega (arith, on.right, e)) in
    let s = same_of q b h p (sym f ∙ on.level) in
    record { left = omega (arith, l); right = omega (arith, r); level = omega (arith, s) }

scaled : (from to h x y a b q : ℕ) → x ≡ q * a → y ≡ q * b → OnFlat from to h a b 1 → OnFlat from to h x y q
scaled from to h x y a b q e f on =
    let l : from ≤ a = let z = on.left in omega arith in
    let r : a ≤ to = let z = on.right in omega arith in
    let s : b ≡ h = let z = on.level in omega arith in
    record { left = omega (arith, e, mul-le-mul_left q l); right = omega (arith, e, mul-le-mul_left q r); level = f ∙ ap (λ t. q * t) s }

pub flat_scaled : (slanted : Bool) (e : Item) (x y a b q : ℕ) → x ≡ q * a → y ≡ q * b → Flat slanted e a b 1 → Flat slanted e x y q
flat_scaled slanted (Dot name p) x y a b q e f on = scaled _ _ _ x y a b q e f on
flat_scaled slanted (Bar name h from to) x y a b q e f on = scaled _ _ _ x y a b q e f on
flat_scaled slanted (Line name tail head points) x y a b q e f on = on
flat_scaled slanted (Rect name tail head low high) x y a b q e f on = on
flat_scaled slanted (Face number z from to) x y a b q e f on = on
flat_scaled slanted (Label name p text) x y a b q e f on = on

own_numbers : (slanted : Bool) (v : Point) → IsOnGrid v → (r : Ratio) → LiesOn (point_of v) r → (nat_abs r.x ≡ r.q * nat_abs v.x) × (height_at slanted r ≡ r.q * height slanted v)
own_numbers slanted v g r on =
    let w = weighted slanted (point_of v) g g r on in
    (w.x ∙ same_mean w.m w.i r.q (nat_abs v.x) w.same, w.h ∙ same_mean w.m w.i r.q (height slanted v) w.same)

pub flat_on_vertex : (slanted : Bool) (e : Item) → IsOnSheet e → NoBar slanted e → (v : Point) → IsOnGrid v → IsOnFigure e v → Flat slanted e (nat_abs v.x) (height slanted v) 1
flat_on_vertex slanted (Dot name p) sheet bars v g h =
    let own = own_numbers slanted v g h.0 h.1.first in
    cancelled _ _ _ _ _ _ _ h.0.q h.1.divides own.0 own.1 (dot_flat slanted p sheet h.0 h.1.second)
flat_on_vertex slanted (Bar name y from to) sheet bars v g h =
    let own = own_numbers slanted v g h.0 h.1.first in
    cancelled _ _ _ _ _ _ _ h.0.q h.1.divides own.0 own.1 (bar_flat slanted y from to bars sheet.0 sheet.1 sheet.2 h.0 h.1.second)
flat_on_vertex slanted (Line name tail head points) sheet bars v g h = absurd h
flat_on_vertex slanted (Rect name tail head low high) sheet bars v g h = absurd h
flat_on_vertex slanted (Face number x from to) sheet bars v g h = absurd h
flat_on_vertex slanted (Label name p text) sheet bars v g h = absurd h

-- ---- owners

-- a strip of the item at l has the point
pub record IsOwner (strips : List Strip) (l c x y q : ℕ) : Type 0 where
  pub s : Strip
  pub of : s.item ≡ l
  pub there : Contains strips s
  pub point : IsPointOf s c x y q

pub flat_owner : (slanted : Bool) (k rank : ℕ) (e : Item) (strips : List Strip) (c x y q : ℕ) → HasStrips slanted k rank e strips →
    Flat slanted e x y q → IsInCell c y q → IsOwner strips k c x y q
flat_owner slanted k rank (Dot name p) strips c x y q has flat cell =
    record { s = flat_strip k rank (nat_abs p.x) (nat_abs p.x) (height slanted p); of = refl; there = has; point = flat_point k rank _ _ _ c x y q cell flat }
flat_owner slanted k rank (Bar name h from to) strips c x y q has flat cell =
    record { s = flat_strip k rank (nat_abs from) (nat_abs to) (nat_abs h); of = refl; there = has; point = flat_point k rank _ _ _ c x y q cell flat }
flat_owner slanted k rank (Line name tail head points) strips c x y q has flat cell = absurd flat
flat_owner slanted k rank (Rect name tail head low high) strips c x y q has flat cell = absurd flat
flat_owner slanted k rank (Face number z from to) strips c x y q has flat cell = absurd flat
flat_owner slanted k rank (Label name p text) strips c x y q has flat cell = absurd flat

-- ---- lines rise in their view

sum_order : (ax ay bx bk : ℤ) → pos 0 ≤ℤ ax → pos 0 ≤ℤ ay → pos 0 ≤ℤ bx → pos 0 ≤ℤ bk → (ax +ℤ ay) <ℤ (bx +ℤ bk) → nat_abs ax + nat_abs ay < nat_abs bx + nat_abs bk
sum_order ax ay bx bk a b c d h = omega (arith, ints)

y_order : (a b : ℤ) → pos 0 ≤ℤ a → a <ℤ b → nat_abs a < nat_abs b
y_order a b h k = omega (arith, ints)

pub rises_in_view : (form : Form) (s : Segment) → IsOnGrid s.a → IsOnGrid s.b → RisesIn form s → height (is_slanted form) s.a < height (is_slanted form) s.b
rises_in_view Visibility s a b h = y_order s.a.y s.b.y a.y_low h
rises_in_view Tessellation s a b h = y_order s.a.y s.b.y a.y_low h
rises_in_view Constrained s a b h = y_order s.a.y s.b.y a.y_low h
rises_in_view Polyline s a b h = y_order s.a.y s.b.y a.y_low h
rises_in_view Dominance s a b h = sum_order s.a.x s.a.y s.b.x s.b.y a.x_low a.y_low b.x_low b.y_low h.sum

-- ---- what being in place gives

pub no_bar : (form : Form) (slanted : Bool) (vertices : List Vertex) (items : List Item) (k : ℕ) (e : Item) → IsInPlace form slanted vertices items k e → NoBar slanted e
no_bar form slanted vertices items k (Dot name p) h = tt
no_bar form slanted vertices items k (Bar name y from to) h = h.0
no_bar form slanted vertices items k (Line name tail head points) h = tt
no_bar form slanted vertices items k (Rect name tail head low high) h = tt
no_bar form slanted vertices items k (Face number x from to) h = tt
no_bar form slanted vertices items k (Label name p text) h = tt

pub listed_at : (form : Form) (slanted : Bool) (vertices : List Vertex) (items : List Item) (k : ℕ) (e : Item) (n : ℤ) → IsInPlace form slanted vertices items k e →
    ShapeNamed (shape_of e) n → IsListed vertices n k
listed_at form slanted vertices items k (Dot name p) n h e = subst (λ z. IsListed vertices z k) e h
listed_at form slanted vertices items k (Bar name y from to) n h e = subst (λ z. IsListed vertices z k) e h.1
listed_at form slanted vertices items k (Line name tail head points) n h e = absurd e
listed_at form slanted vertices items k (Rect name tail head low high) n h e = absurd e
listed_at form slanted vertices items k (Face number x from to) n h e = absurd e
listed_at form slanted vertices items k (Label name p text) n h e = absurd e

pub shape_named : (e : Item) (n : ℤ) → IsVertexNamed n e → ShapeNamed (shape_of e) n
shape_named (Dot name p) n h = h
shape_named (Bar name y from to) n h = h
shape_named (Line name tail head points) n h = h
shape_named (Rect name tail head low high) n h = h
shape_named (Face number x from to) n h = h
shape_named (Label name p text) n h = h

pub shape_has : (e : Item) (v : Point) → IsOnFigure e v → ShapeHas (shape_of e) v
shape_has (Dot name p) v h = h
shape_has (Bar name y from to) v h = h
shape_has (Line name tail head points) v h = h
shape_has (Rect name tail head low high) v h = h
shape_has (Face number x from to) v h = h
shape_has (Label name p text) v h = h

pub one_name : (e : Item) (m n : ℤ) → ShapeNamed (shape_of e) m → ShapeNamed (shape_of e) n → m ≡ n
one_name (Dot name p) m n h k = sym h ∙ k
one_name (Bar name y from to) m n h k = sym h ∙ k
one_name (Line name tail head points) m n h k = absurd h
one_name (Rect name tail head low high) m n h k = absurd h
one_name (Face number x from to) m n h k = absurd h
one_name (Label name p text) m n h k = absurd h
