-- Dots and straight lines with dummies: the dominance picture is clean and shows the orders.
use Rattle.std.proofs.Common.{ℕ, List, [], ◌∷◌, ◌≡◌, ◌≢◌, ◌<◌, ◌≤◌, ◌+◌, ◌-◌, ◌*◌, ◌⊎◌, inl, inr, refl, sym, ap, ◌∙◌, subst, arith, length, map, slice_get, Option, Some, None, pos, ◌+ℤ◌, ◌<ℤ◌, ◌≤ℤ◌}
use Rattle.std.specs.List.{AllByRecursion}
use Rattle.std.proofs.Math.Nat.{eq_of_mul-eq-mul_left}
use Rattle.std.proofs.lemmas.Int.{ints}
use Rattle.st_ids.specs.Lists.{In, here, there, Precedes}
use Rattle.st_ids.specs.Walks.{Walk, stay, step, Reaches}
use Rattle.st_sides.specs.Sides.{SidesValue, edge_count, edge_tail, edge_head, outs, ins, primal, IsSides}
use Rattle.draw_dom.specs.Compact.{point_x, point_y}
use Rattle.draw_dom.specs.Dominance.{HasNoTransitive, IsDominance, HasOnLine, DominanceLaw}
use Rattle.st_ids.proofs.Public.{not_in_nil, reach_refl, reach_trans, reach_arc}
use Rattle.st_sides.proofs.Public.{to_sink}
use Rattle.draw_dom.proofs.DominanceLemmas.{compact_dominance_law}
use Rattle.st_ids.specs.declared.names.Names.{Names}
use Rattle.st_shape.specs.declared.picture.Form.TheVariants.{Dominance}
use Rattle.st_shape.specs.declared.point.Point.{Point}
use Rattle.st_shape.specs.declared.point.Segment.{Segment}
use Rattle.st_shape.specs.Clean.{IsSegmentOf, RisesIn}
use Rattle.st_shape.specs.Inside.{IsInside}
use Rattle.st_shape.specs.Meeting.{Ratio, LiesOn, Share, Meet}
use Rattle.st_shape.specs.Rules.{Drawing, FitsFrame}
use Rattle.st_reduce.specs.ReducedSides.{IsReducedSides}
use Rattle.st_picture.specs.Drawn.{IsDrawn, IsFitting}
use Rattle.st_picture.specs.Items.{grid_point, line}
use Rattle.st_picture.specs.Naming.{AreNames, edge_name, vertex_name}
use Rattle.st_picture.specs.Order.{point_minus, cross_of_directions, leaving, arriving, IsShown, IsLeftOut, IsLeftIn}
use Rattle.st_picture.proofs.Public.{on_level, segment, pos_same, pos_most, inside, Lies, lies, is_at, at_same, IsEndAt, EndsAt, JoinAt, IsNeat, neat_clean, vertex_is, line_is, fits, of_two, of_three, out_first, out_second, in_first, in_second, sink_in}
use Rattle.draw_dom.specs.Pictures.{ShowsReaching, point_dot, through, dummied, points_and_lines, IsDominancePicture}
use Rattle.draw_dom.proofs.DirectionLemmas.{cross_below_by, cross_above_by}

option_cases : (o : Option ℕ) → (o ≡ None) ⊎ ((w : ℕ) × (o ≡ Some w))
option_cases None = inl refl
option_cases (Some w) = inr (w, refl)

in_map : (f : ℕ → ℕ) (x : ℕ) (xs : List ℕ) → In x xs → In (f x) (map f xs)
in_map f x [] i = absurd (not_in_nil i)
in_map f x (y ∷ ys) (here q) = here (ap f q)
in_map f x (y ∷ ys) (there j) = there (in_map f x ys j)

Precedes_map : (f : ℕ → ℕ) (a b : ℕ) (xs : List ℕ) → Precedes a b xs → Precedes (f a) (f b) (map f xs)
Precedes_map f a b [] h = absurd h
Precedes_map f a b (x ∷ xs) (inl h) = inl (ap f h.0, in_map f b xs h.1)
Precedes_map f a b (x ∷ xs) (inr h) = inr (Precedes_map f a b xs h)

sum_less : (a b c d : ℕ) → a + b < c + d → (pos a +ℤ pos b) <ℤ (pos c +ℤ pos d)
sum_less a b c d h = omega (arith, ints)

most_pos : (a b : ℕ) → pos a ≤ℤ pos b → a ≤ b
most_pos a b h = omega (arith, ints)

module _ (g r : SidesValue) (S : IsSides g) (R : IsSides r) (dummy : ℕ → Option ℕ) (last : ℕ → ℕ) (Q : IsReducedSides g r dummy last) (px py : ℕ → ℕ) (D : IsDominance r px py) (L : DominanceLaw r px py) where
  abbrev points : ℕ → List Point
  points = dummied g dummy (λ v. grid_point (px v) (py v))

  abbrev place : ℕ → Point
  place v = grid_point (px v) (py v)

  abbrev figure : ℕ → Segment
  figure v = segment (grid_point (px v) (py v)) (grid_point (px v) (py v))

  within : (v : ℕ) → v < g.vertices → v < r.vertices
  within v i = let h = Q.vertices in omega arith

  old_in : (e : ℕ) → e < edge_count g → e < edge_count r
  old_in e a = let h = Q.edges_in in omega arith

  -- ---- the points of a line
  data Kind (e : ℕ) : Type 0 where
    plain : dummy e ≡ None → last e ≡ e → points e ≡ place (edge_tail g e) ∷ place (edge_head g e) ∷ [] → Kind e
    by : (w : ℕ) → dummy e ≡ Some w → points e ≡ place (edge_tail g e) ∷ place w ∷ place (edge_head g e) ∷ [] → Kind e

  kind : (e : ℕ) → e < edge_count g → Kind e
  kind e a = elim (option_cases (dummy e)) [
    | inl q ↦ plain q (Q.plain e a q) (ap (through (place (edge_tail g e)) (place (edge_head g e)) (λ w. grid_point (px w) (py w))) q)
    | inr h ↦ by h.0 h.1 (ap (through (place (edge_tail g e)) (place (edge_head g e)) (λ w. grid_point (px w) (py w))) h.1)
  ]

  first_is : (e : ℕ) → e < edge_count g → slice_get (points e) 0 ≡ Some (place (edge_tail g e))
  first_is e a = elim (kind e a) [
    | plain n l q ↦ ap (λ z. slice_get z 0) q
    | by w n q ↦ ap (λ z. slice_get z 0) q
  ]

  last_is : (e : ℕ) → e < edge_count g → slice_get (points e) (length (points e) - 1) ≡ Some (place (edge_head g e))
  last_is e a = elim (kind e a) [
    | plain n l q ↦ ap (λ z. slice_get z (length z - 1)) q
    | by w n q ↦ ap (λ z. slice_get z (length z - 1)) q
  ]

  -- the segment of an edge of the reduced graph
  abbrev stretch : ℕ → Segment
  stretch f = segment (grid_point (px (edge_tail r f)) (py (edge_tail r f))) (grid_point (px (edge_head r f)) (py (edge_head r f)))

  same_stretch : (a b c d : ℕ) → a ≡ c → b ≡ d → segment (place a) (place b) ≡ segment (place c) (place d)
  same_stretch a b c d e f = ap (λ z. segment (place z) (place b)) e ∙ ap (λ z. segment (place c) (place z)) f

  record Part (e : ℕ) (s : Segment) : Type 0 where
    pub f : ℕ
    pub arc : f < edge_count r
    pub of : (f ≡ e) ⊎ (f ≡ last e)
    pub is : s ≡ stretch f

  part : (e : ℕ) (s : Segment) → e < edge_count g → IsSegmentOf (points e) s → Part e s
  part e s a H = elim (kind e a) [
    | plain n l q ↦ record {
      f = e;
      arc = old_in e a;
      of = inl refl;
      is = of_two (place (edge_tail g e)) (place (edge_head g e)) s (subst (λ z. IsSegmentOf z s) q H)
          ∙ same_stretch (edge_tail g e) (edge_head g e) (edge_tail r e) (edge_head r e) (sym (Q.tail_is e a)) (sym (Q.head_is e a) ∙ ap (edge_head r) l);
    }
    | by w n q ↦ elim (of_three (place (edge_tail g e)) (place w) (place (edge_head g e)) s (subst (λ z. IsSegmentOf z s) q H)) [
      | inl h ↦ record {
        f = e;
        arc = old_in e a;
        of = inl refl;
        is = h ∙ same_stretch (edge_tail g e) w (edge_tail r e) (edge_head r e) (sym (Q.tail_is e a)) (sym (Q.into_dummy e w a n));
      }
      | inr h ↦ record {
        f = last e;
        arc = Q.last_in e a;
        of = inr refl;
        is = h ∙ same_stretch w (edge_head g e) (edge_tail r (last e)) (edge_head r (last e)) (sym (Q.out_of_dummy e w a n)) (sym (Q.head_is e a));
      }
    ]
  ]

  on_line : (f : ℕ) (P : Ratio) → (M : Lies (px (edge_tail r f)) (py (edge_tail r f)) (px (edge_head r f)) (py (edge_head r f)) P) → HasOnLine r px py f P.q M.x M.y
  on_line f P M = record { i = M.i; k = M.k; x = record { parts = M.at_x.parts; is = M.at_x.is }; y = record { parts = M.at_y.parts; is = M.at_y.is } }

  -- what stands at an end of a part: an end of the edge, or its dummy
  data Place (e m : ℕ) : Type 0 where
    old : m < g.vertices → (m ≡ edge_tail g e) ⊎ (m ≡ edge_head g e) → Place e m
    new : g.vertices ≤ m → dummy e ≡ Some m → Place e m

  place_of : (e f m : ℕ) → e < edge_count g → (f ≡ e) ⊎ (f ≡ last e) → (m ≡ edge_tail r f) ⊎ (m ≡ edge_head r f) → Place e m
  place_of e f m a (inl q) (inl h) = (let p : m ≡ edge_tail g e = h ∙ ap (edge_tail r) q ∙ Q.tail_is e a in old (subst (λ z. z < g.vertices) (sym p) (S.tail_in e a)) (inl p))
  place_of e f m a (inr q) (inr h) = (let p : m ≡ edge_head g e = h ∙ ap (edge_head r) q ∙ Q.head_is e a in old (subst (λ z. z < g.vertices) (sym p) (S.head_in e a)) (inr p))
  place_of e f m a (inl q) (inr h) = elim (kind e a) [
    | plain n l _ ↦ (let p : m ≡ edge_head g e = h ∙ ap (edge_head r) (q ∙ sym l) ∙ Q.head_is e a in old (subst (λ z. z < g.vertices) (sym p) (S.head_in e a)) (inr p))
    | by w n _ ↦ (let p : m ≡ w = h ∙ ap (edge_head r) q ∙ Q.into_dummy e w a n in new (subst (λ z. g.vertices ≤ z) (sym p) (Q.new_vertex e w a n).0) (n ∙ ap Some (sym p)))
  ]
  place_of e f m a (inr q) (inl h) = elim (kind e a) [
    | plain n l _ ↦ (let p : m ≡ edge_tail g e = h ∙ ap (edge_tail r) (q ∙ l) ∙ Q.tail_is e a in old (subst (λ z. z < g.vertices) (sym p) (S.tail_in e a)) (inl p))
    | by w n _ ↦ (let p : m ≡ w = h ∙ ap (edge_tail r) q ∙ Q.out_of_dummy e w a n in new (subst (λ z. g.vertices ≤ z) (sym p) (Q.new_vertex e w a n).0) (n ∙ ap Some (sym p)))
  ]

  old_only : (e m : ℕ) → m < g.vertices → Place e m → (m ≡ edge_tail g e) ⊎ (m ≡ edge_head g e)
  old_only e m l (old i h) = h
  old_only e m l (new i h) = absurd (omega arith)

  -- parts of different edge_count are different
  last_same : (e f : ℕ) → e < edge_count g → f < edge_count g → e ≢ f → last e ≢ last f
  last_same e f a b d q = elim (kind e a) [
    | plain n l _ ↦ elim (kind f b) [
      | plain n' l' _ ↦ d (sym l ∙ q ∙ l')
      | by w n' _ ↦ (let h : edge_count g ≤ last f = Q.new_edge f w b n' in omega arith)
    ]
    | by w n _ ↦ elim (kind f b) [
      | plain n' l' _ ↦ (let h : edge_count g ≤ last e = Q.new_edge e w a n in omega arith)
      | by w' n' _ ↦ d (Q.one_edge e f w a b n (n' ∙ ap Some (sym (sym (Q.out_of_dummy e w a n) ∙ ap (edge_tail r) q ∙ Q.out_of_dummy f w' b n'))))
    ]
  ]

  not_last : (e f : ℕ) → e < edge_count g → f < edge_count g → e ≢ f → e ≢ last f
  not_last e f a b d q = elim (kind f b) [
    | plain n l _ ↦ d (q ∙ l)
    | by w n _ ↦ (let h : edge_count g ≤ last f = Q.new_edge f w b n in omega arith)
  ]

  parts_differ : (e f e' f' : ℕ) → e < edge_count g → f < edge_count g → e ≢ f → (e' ≡ e) ⊎ (e' ≡ last e) → (f' ≡ f) ⊎ (f' ≡ last f) → e' ≢ f'
  parts_differ e f e' f' a b d (inl p) (inl q) h = d (sym p ∙ h ∙ q)
  parts_differ e f e' f' a b d (inl p) (inr q) h = not_last e f a b d (sym p ∙ h ∙ q)
  parts_differ e f e' f' a b d (inr p) (inl q) h = not_last f e b a (λ z. d (sym z)) (sym q ∙ sym h ∙ p)
  parts_differ e f e' f' a b d (inr p) (inr q) h = last_same e f a b d (sym p ∙ h ∙ q)

  -- ---- neat
  rises : (e : ℕ) (s : Segment) → e < edge_count g → IsSegmentOf (points e) s → RisesIn Dominance s
  rises e s a H =
      let P = part e s a H in
      let k = L.rises P.f P.arc in
      subst (RisesIn Dominance) (sym P.is) (record {
        x = pos_most (px (edge_tail r P.f)) (px (edge_head r P.f)) k.0;
        y = pos_most (py (edge_tail r P.f)) (py (edge_head r P.f)) k.1;
        sum = sum_less (px (edge_tail r P.f)) (py (edge_tail r P.f)) (px (edge_head r P.f)) (py (edge_head r P.f)) k.2;
      })

  apart : (u v : ℕ) → u < g.vertices → v < g.vertices → u ≢ v → Meet (figure u) (figure v) → ⊥
  apart u v i j n M =
      let P = M.0 in
      let H = M.1 in
      let A = lies (px u) (py u) (px u) (py u) P H.first in
      let B = lies (px v) (py v) (px v) (py v) P H.second in
      let x : P.q * px u ≡ P.q * px v = sym (at_same P.q (px u) A.x A.i A.k A.at_x) ∙ pos_same (sym A.x_is ∙ B.x_is) ∙ at_same P.q (px v) B.x B.i B.k B.at_x in
      let h : P.q * py u ≡ P.q * py v = sym (at_same P.q (py u) A.y A.i A.k A.at_y) ∙ pos_same (sym A.y_is ∙ B.y_is) ∙ at_same P.q (py v) B.y B.i B.k B.at_y in
      n (L.different u v (within u i) (within v j) (eq_of_mul-eq-mul_left P.q H.divides (px u) (px v) x) (eq_of_mul-eq-mul_left P.q H.divides (py u) (py v) h))

  end_at : (e m : ℕ) → e < edge_count g → (m ≡ edge_tail g e) ⊎ (m ≡ edge_head g e) → IsEndAt g points e m (place m)
  end_at e m a (inl q) = inl (first_is e a ∙ ap (λ z. Some (place z)) (sym q), sym q)
  end_at e m a (inr q) = inr (last_is e a ∙ ap (λ z. Some (place z)) (sym q), sym q)

  passes : (v e : ℕ) (s : Segment) (P : Ratio) → v < g.vertices → e < edge_count g → IsSegmentOf (points e) s → Share s (figure v) P → EndsAt g points e v P
  passes v e s P i a H T =
      let F = part e s a H in
      let M = lies (px (edge_tail r F.f)) (py (edge_tail r F.f)) (px (edge_head r F.f)) (py (edge_head r F.f)) P (subst (λ z. LiesOn z P) F.is T.first) in
      let B = lies (px v) (py v) (px v) (py v) P T.second in
      let x : M.x ≡ P.q * px v = pos_same (sym M.x_is ∙ B.x_is) ∙ at_same P.q (px v) B.x B.i B.k B.at_x in
      let h : M.y ≡ P.q * py v = pos_same (sym M.y_is ∙ B.y_is) ∙ at_same P.q (py v) B.y B.i B.k B.at_y in
      let O = subst (λ z. HasOnLine r px py F.f P.q z (P.q * py v)) x (subst (λ z. HasOnLine r px py F.f P.q M.x z) h (on_line F.f P M)) in
      let K = L.vertices F.f v F.arc (within v i) P.q T.divides O in
      record { v = place v; end = end_at e v a (old_only e v i (place_of e F.f v a F.of K)); is = is_at P M.x M.y (px v) (py v) M.x_is M.y_is x h }

  some_point : (x z : Point) → Some x ≡ Some z → x ≡ z
  some_point x z e = cc e

  ends : (e m : ℕ) (v : Point) → e < edge_count g → m < g.vertices → IsEndAt g points e m v → Meet (segment v v) (figure m)
  ends e m v a i (inl (q, t)) =
      subst (λ z. Meet (segment z z) (figure m)) (some_point (place (edge_tail g e)) v (sym (first_is e a) ∙ q))
      (subst (λ z. Meet (segment (place (edge_tail g e)) (place (edge_tail g e))) (figure z)) t (on_level (px (edge_tail g e)) (px (edge_tail g e)) (px (edge_tail g e)) (py (edge_tail g e)) (omega arith) (omega arith)))
  ends e m v a i (inr (q, t)) =
      subst (λ z. Meet (segment z z) (figure m)) (some_point (place (edge_head g e)) v (sym (last_is e a) ∙ q))
      (subst (λ z. Meet (segment (place (edge_head g e)) (place (edge_head g e))) (figure z)) t (on_level (px (edge_head g e)) (px (edge_head g e)) (px (edge_head g e)) (py (edge_head g e)) (omega arith) (omega arith)))

  -- a common end of two edge_count is no dummy
  common : (e f m : ℕ) → e < edge_count g → f < edge_count g → e ≢ f → Place e m → Place f m → ((m ≡ edge_tail g e) ⊎ (m ≡ edge_head g e)) × ((m ≡ edge_tail g f) ⊎ (m ≡ edge_head g f))
  common e f m a b d (old i h) K = (h, old_only f m i K)
  common e f m a b d (new i h) (new j k) = absurd (d (Q.one_edge e f m a b h k))
  common e f m a b d (new i h) (old j k) = absurd (omega arith)

  lines : (e f : ℕ) (s t : Segment) (P : Ratio) → e < edge_count g → f < edge_count g → e ≢ f → IsSegmentOf (points e) s → IsSegmentOf (points f) t → Share s t P → JoinAt g points e f P
  lines e f s t P a b d H K T =
      let E = part e s a H in
      let F = part f t b K in
      let M = lies (px (edge_tail r E.f)) (py (edge_tail r E.f)) (px (edge_head r E.f)) (py (edge_head r E.f)) P (subst (λ z. LiesOn z P) E.is T.first) in
      let W = lies (px (edge_tail r F.f)) (py (edge_tail r F.f)) (px (edge_head r F.f)) (py (edge_head r F.f)) P (subst (λ z. LiesOn z P) F.is T.second) in
      let x : W.x ≡ M.x = pos_same (sym W.x_is ∙ M.x_is) in
      let h : W.y ≡ M.y = pos_same (sym W.y_is ∙ M.y_is) in
      let O = subst (λ z. HasOnLine r px py F.f P.q z M.y) x (subst (λ z. HasOnLine r px py F.f P.q W.x z) h (on_line F.f P W)) in
      let C = L.lines E.f F.f E.arc F.arc (parts_differ e f E.f F.f a b d E.of F.of) P.q M.x M.y T.divides (on_line E.f P M) O in
      let Z = common e f C.at a b d (place_of e E.f C.at a E.of C.of_first) (place_of f F.f C.at b F.of C.of_second) in
      record { m = C.at; v = place C.at; first = end_at e C.at a Z.0; second = end_at f C.at b Z.1; is = is_at P M.x M.y (px C.at) (py C.at) M.x_is M.y_is C.x C.y }

  neat : IsNeat g Dominance figure points
  neat = record { rises = rises; apart = apart; passes = passes; ends = ends; lines = lines }

  -- ---- the order at a dot
  leaving_is : (e v : ℕ) → e < edge_count g → edge_tail g e ≡ v → leaving (points e) ≡ point_minus (place (edge_head r e)) (place v)
  leaving_is e v a t = subst (λ z. leaving (points e) ≡ point_minus (place (edge_head r e)) (place z)) t (elim (kind e a) [
    | plain n l q ↦ ap leaving q ∙ ap (λ z. point_minus (place z) (place (edge_tail g e))) (sym (Q.head_is e a) ∙ ap (edge_head r) l)
    | by w n q ↦ ap leaving q ∙ ap (λ z. point_minus (place z) (place (edge_tail g e))) (sym (Q.into_dummy e w a n))
  ])

  arriving_is : (e v : ℕ) → e < edge_count g → edge_head g e ≡ v → arriving (points e) ≡ point_minus (place v) (place (edge_tail r (last e)))
  arriving_is e v a t = subst (λ z. arriving (points e) ≡ point_minus (place z) (place (edge_tail r (last e)))) t (elim (kind e a) [
    | plain n l q ↦ ap arriving q ∙ ap (λ z. point_minus (place (edge_head g e)) (place z)) (sym (Q.tail_is e a) ∙ ap (edge_tail r) (sym l))
    | by w n q ↦ ap arriving q ∙ ap (λ z. point_minus (place (edge_head g e)) (place z)) (sym (Q.out_of_dummy e w a n))
  ])

  -- an edge of the reduced graph out of v, or into it
  above : (v f : ℕ) → f < edge_count r → edge_tail r f ≡ v → (px v ≤ px (edge_head r f)) × (py v ≤ py (edge_head r f))
  above v f a t = (let k = L.rises f a in (subst (λ z. px z ≤ px (edge_head r f)) t k.0, subst (λ z. py z ≤ py (edge_head r f)) t k.1))

  under : (v f : ℕ) → f < edge_count r → edge_head r f ≡ v → (px (edge_tail r f) ≤ px v) × (py (edge_tail r f) ≤ py v)
  under v f a t = (let k = L.rises f a in (subst (λ z. px (edge_tail r f) ≤ px z) t k.0, subst (λ z. py (edge_tail r f) ≤ py z) t k.1))

  -- ---- old vertices reach one another as before
  keeps_edge : (e : ℕ) → e < edge_count g → Reaches (primal r) (edge_tail g e) (edge_head g e)
  keeps_edge e a = elim (kind e a) [
    | plain n l q ↦ reach_trans (reach_refl (sym (Q.tail_is e a))) (reach_trans (reach_arc e (old_in e a)) (reach_refl (ap (edge_head r) (sym l) ∙ Q.head_is e a)))
    | by w n q ↦ reach_trans (reach_refl (sym (Q.tail_is e a))) (reach_trans (reach_arc e (old_in e a)) (reach_trans (reach_refl (Q.into_dummy e w a n ∙ sym (Q.out_of_dummy e w a n))) (reach_trans (reach_arc (last e) (Q.last_in e a)) (reach_refl (Q.head_is e a)))))
  ]

  keeps : {u v : ℕ} {es : List ℕ} → Walk (primal g) u es v → Reaches (primal r) u v
  keeps (stay q) = reach_refl q
  keeps (step {e = e} a t k) = reach_trans (reach_refl (sym t)) (reach_trans (keeps_edge e a) (keeps k))

  keeps_reach : {u v : ℕ} → Reaches (primal g) u v → Reaches (primal r) u v
  keeps_reach h = keeps h.walk

  -- a walk of the reduced graph that ends at an old vertex, from an old one or from a dummy
  pub record Back (u v : ℕ) : Type 0 where
    pub from_old : u < g.vertices → Reaches (primal g) u v
    pub from_dummy : (e : ℕ) → e < edge_count g → dummy e ≡ Some u → Reaches (primal g) (edge_head g e) v

  back : {u v : ℕ} {es : List ℕ} → Walk (primal r) u es v → v < g.vertices → Back u v
  back {u} {v} (stay q) j = record {
    from_old = λ i. reach_refl q;
    from_dummy = λ e a n. (let h : g.vertices ≤ u = (Q.new_vertex e u a n).0 in absurd (omega arith));
  }
  back {u} {v} (step {e = x} a t k) j = elim (Q.all x a) [
    | inl b ↦ record {
      from_old = λ i. reach_trans (reach_refl (sym t ∙ Q.tail_is x b)) (reach_trans (reach_arc x b) (elim (kind x b) [
        | plain n l q ↦ reach_trans (reach_refl (sym (Q.head_is x b) ∙ ap (edge_head r) l)) ((back k j).from_old (subst (λ z. z < g.vertices) (sym (Q.head_is x b) ∙ ap (edge_head r) l) (S.head_in x b)))
        | by w n q ↦ (back k j).from_dummy x b (n ∙ ap Some (sym (Q.into_dummy x w b n)))
      ]));
      from_dummy = λ e b' n. (let h : g.vertices ≤ u = (Q.new_vertex e u b' n).0 in let m : edge_tail g x < g.vertices = S.tail_in x b in let p : edge_tail g x ≡ u = sym (Q.tail_is x b) ∙ t in absurd (omega arith));
    }
    | inr B ↦
        let w_is : u ≡ B.w = sym t ∙ ap (edge_tail r) B.is ∙ Q.out_of_dummy B.e B.w B.there B.split in
        let h : edge_head r x ≡ edge_head g B.e = ap (edge_head r) B.is ∙ Q.head_is B.e B.there in
        record {
          from_old = λ i. (let m : g.vertices ≤ B.w = (Q.new_vertex B.e B.w B.there B.split).0 in absurd (omega arith));
          from_dummy = λ e b n.
              let same : e ≡ B.e = Q.one_edge e B.e B.w b B.there (n ∙ ap Some w_is) B.split in
              reach_trans (reach_refl (ap (edge_head g) same ∙ sym h)) ((back k j).from_old (subst (λ z. z < g.vertices) (sym h) (S.head_in B.e B.there)));
        }
  ]

  back_old : {u v : ℕ} {es : List ℕ} → Walk (primal r) u es v → v < g.vertices → u < g.vertices → Reaches (primal g) u v
  back_old k j i = (back k j).from_old i

  module _ (N : Names) where
    abbrev picture : Drawing
    picture = points_and_lines g N dummy place

    abbrev corner : Point
    corner = grid_point (px g.sink) (py g.sink)

    dot_is : (v : ℕ) → v < g.vertices → slice_get picture.items v ≡ Some (point_dot N place v)
    dot_is v i = vertex_is g N Dominance corner (point_dot N place) points place v i

    edge_is : (e : ℕ) → e < edge_count g → slice_get picture.items (g.vertices + e) ≡ Some (line g N points e)
    edge_is e a = line_is g N Dominance corner (point_dot N place) points place e a

    shows_out : (v e f : ℕ) → v < g.vertices → Precedes e f (outs g v) → IsShown IsLeftOut picture.items v (g.vertices + e) (g.vertices + f)
    shows_out v e f i P =
        let E = out_first g S v e f i P in
        let F = out_second g S v e f i P in
        let o = L.order_out v e f (within v i) (subst (Precedes e f) (sym (Q.outs_are v i)) P) in
        let ke = above v e (old_in e E.0) (Q.tail_is e E.0 ∙ E.1) in
        let kf = above v f (old_in f F.0) (Q.tail_is f F.0 ∙ F.1) in
        record {
          figure = point_dot N place v;
          ps = points e;
          qs = points f;
          figure_is = dot_is v i;
          first = record { name = edge_name N e; tail = vertex_name N (edge_tail g e); head = vertex_name N (edge_head g e); is = edge_is e E.0 };
          second = record { name = edge_name N f; tail = vertex_name N (edge_tail g f); head = vertex_name N (edge_head g f); is = edge_is f F.0 };
          is_left = subst (λ z. cross_of_directions (leaving (points e)) z <ℤ pos 0) (sym (leaving_is f v F.0 F.1))
              (subst (λ z. cross_of_directions z (point_minus (place (edge_head r f)) (place v)) <ℤ pos 0) (sym (leaving_is e v E.0 E.1))
              (cross_below_by (px v) (py v) (px (edge_head r e)) (py (edge_head r e)) (px v) (py v) (px (edge_head r f)) (py (edge_head r f)) ke.0 ke.1 kf.0 kf.1 o));
        }

    shows_in : (v e f : ℕ) → v < g.vertices → Precedes e f (ins g v) → IsShown IsLeftIn picture.items v (g.vertices + e) (g.vertices + f)
    shows_in v e f i P =
        let E = in_first g S v e f i P in
        let F = in_second g S v e f i P in
        let o = L.order_in v (last e) (last f) (within v i) (subst (Precedes (last e) (last f)) (sym (Q.ins_are v i)) (Precedes_map last e f (ins g v) P)) in
        let ke = under v (last e) (Q.last_in e E.0) (Q.head_is e E.0 ∙ E.1) in
        let kf = under v (last f) (Q.last_in f F.0) (Q.head_is f F.0 ∙ F.1) in
        record {
          figure = point_dot N place v;
          ps = points e;
          qs = points f;
          figure_is = dot_is v i;
          first = record { name = edge_name N e; tail = vertex_name N (edge_tail g e); head = vertex_name N (edge_head g e); is = edge_is e E.0 };
          second = record { name = edge_name N f; tail = vertex_name N (edge_tail g f); head = vertex_name N (edge_head g f); is = edge_is f F.0 };
          is_left = subst (λ z. pos 0 <ℤ cross_of_directions (arriving (points e)) z) (sym (arriving_is f v F.0 F.1))
              (subst (λ z. pos 0 <ℤ cross_of_directions z (point_minus (place v) (place (edge_tail r (last f))))) (sym (arriving_is e v E.0 E.1))
              (cross_above_by (px (edge_tail r (last e))) (py (edge_tail r (last e))) (px v) (py v) (px (edge_tail r (last f))) (py (edge_tail r (last f))) (px v) (py v) ke.0 ke.1 kf.0 kf.1 o));
        }

    pub dot_inside : (v : ℕ) → v < r.vertices → IsInside corner (place v)
    dot_inside v i =
        let t = Q.sink in
        let s : g.sink < r.vertices = within g.sink (sink_in g S) in
        let k = D.up v g.sink i s (reach_trans (to_sink r R v i) (reach_refl t)) in
        inside (px g.sink) (py g.sink) (px v) (py v) k.0 k.1

    line_fits : (e : ℕ) → e < edge_count g → FitsFrame corner (line g N points e)
    line_fits e a =
        let t = dot_inside (edge_tail g e) (within (edge_tail g e) (S.tail_in e a)) in
        let h = dot_inside (edge_head g e) (within (edge_head g e) (S.head_in e a)) in
        elim (kind e a) [
          | plain n l q ↦ subst (λ z. (2 ≤ length z) × (length z ≤ 4) × AllByRecursion (IsInside corner) z) (sym q) (omega arith, omega arith, (t, (h, tt)))
          | by w n q ↦ subst (λ z. (2 ≤ length z) × (length z ≤ 4) × AllByRecursion (IsInside corner) z) (sym q) (omega arith, omega arith, (t, (dot_inside w (Q.new_vertex e w a n).1, (h, tt))))
        ]

    fitting : AreNames g N → IsFitting picture
    fitting A = fits g N Dominance corner (point_dot N place) points place (λ v i. dot_inside v (within v i)) line_fits (λ v text i q. (dot_inside v (within v i), (A.texts v text i q).0, (A.texts v text i q).1, (A.texts v text i q).2))

    pub dots_reaching : ShowsReaching g picture
    dots_reaching = record {
      point = place;
      dots = λ v i. record { name = vertex_name N v; is = dot_is v i };
      reaching = λ u v i j. (
        (λ h. (let k = D.up u v (within u i) (within v j) (keeps_reach h) in (pos_most (px u) (px v) k.0, pos_most (py u) (py v) k.1))),
        (λ h. back_old (D.back u v (within u i) (within v j) (most_pos (px u) (px v) h.0) (most_pos (py u) (py v) h.1)).walk j i),
      );
    }

    pub dots_drawn : AreNames g N → IsDrawn g picture
    dots_drawn A = record {
      right = neat_clean g S N A Dominance corner (point_dot N place) points place figure (λ v i. refl) neat;
      order = λ v i. record { out = λ e f P. shows_out v e f i P; into = λ e f P. shows_in v e f i P };
      fitting = fitting A;
    }

-- ---- the form
pub dominance_drawn : (g r : SidesValue) → IsSides g → IsSides r → (dummy : ℕ → Option ℕ) (last : ℕ → ℕ) → IsReducedSides g r dummy last → HasNoTransitive r → (N : Names) → AreNames g N → (d : Drawing) → IsDominancePicture g r dummy N d → IsDrawn g d
dominance_drawn g r S R dummy last Q T N A d D =
    let C = compact_dominance_law r R D.x D.y D.at_x D.at_y D.numbers in
    subst (IsDrawn g) (sym D.is) (dots_drawn g r S R dummy last Q (point_x D.x D.y D.at_x) (point_y D.x D.y D.at_y) C.points (C.drawing T) N A)

pub dominance_reaching : (g r : SidesValue) → IsSides g → IsSides r → (dummy : ℕ → Option ℕ) (last : ℕ → ℕ) → IsReducedSides g r dummy last → HasNoTransitive r → (N : Names) (d : Drawing) → IsDominancePicture g r dummy N d → ShowsReaching g d
dominance_reaching g r S R dummy last Q T N d D =
    let C = compact_dominance_law r R D.x D.y D.at_x D.at_y D.numbers in
    subst (ShowsReaching g) (sym D.is) (dots_reaching g r S R dummy last Q (point_x D.x D.y D.at_x) (point_y D.x D.y D.at_y) C.points (C.drawing T) N)
