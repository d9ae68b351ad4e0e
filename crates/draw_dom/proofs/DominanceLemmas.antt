-- Without transitive edges, the lines of a dominance drawing meet only at common ends.
use Rattle.std.proofs.Common.{ℕ, zero, suc, List, [], ◌∷◌, ◌++◌, ◌≡◌, ◌≢◌, ◌<◌, ◌≤◌, ◌+◌, ◌-◌, ◌*◌, ◌⊎◌, inl, inr, refl, sym, ap, ◌∙◌, subst, arith}
use Rattle.std.proofs.lemmas.Bool.{cases_eq, cases_lt}
use Rattle.std.proofs.lemmas.Nat.{mul-le, mul-lt}
use Rattle.std.proofs.Math.Nat.{mul_comm}
use Rattle.st_ids.specs.Lists.{Precedes}
use Rattle.st_ids.specs.Walks.{Walk, stay, step, Reaches}
use Rattle.st_sides.specs.Sides.{SidesValue, edge_count, edge_tail, edge_head, face_left, face_right, outs, ins, primal, dual, IsSides}
use Rattle.st_sides.specs.Objects.{vertex, edge, LeftOf, before, after, leftward, rightward}
use Rattle.draw_dom.specs.Dominance.{HasNoTransitive, IsDominance, IsPartWay, HasOnLine, IsCommonEnd, DominanceLaw, CompactDominance}
use Rattle.st_ids.proofs.Public.{not_in_nil, In-cases, in_append, Precedes-right, Precedes-left, walk_append, on_walk, no_loop, reach_refl, reach_trans, reach_arc}
use Rattle.st_sides.proofs.Public.{order_out_beside, order_in_beside, dual_acyclic, from_source, to_sink, across_out, not_left_right, compared}
use Rattle.st_order.specs.Numbers.{AreNumberings, HasNumbers}
use Rattle.draw_dom.specs.Compact.{point_x, point_y}
use Rattle.st_order.specs.Orders.{BeforeOrLeft, BeforeOrRight, IsX, IsY}
use Rattle.st_picture.proofs.Public.{across_in}
use Rattle.draw_dom.proofs.CompactLemmas.{compact_law}
use Rattle.st_order.proofs.Public.{reaching, reached, x_vertices, y_vertices, rank_grows}

-- ---- arithmetic
smaller : (i j b c : ℕ) → 1 ≤ i → i ≤ j → b < c → i * b ≡ j * c → ⊥
smaller i j b c p l h q =
    let k : i * (b + 1) ≤ j * c = mul-le i (b + 1) j c l (omega arith) in
    omega arith

-- two directions of which one is steeper share no point but their beginning
steeper : (i j b c b' c' : ℕ) → i * b ≡ j * c → i * b' ≡ j * c' → b < c → c' < b' → i ≡ 0
steeper zero j b c b' c' p q l m = refl
steeper (suc i) j b c b' c' p q l m = elim (cases_lt j (suc i)) [
  | inr h ↦ absurd (smaller (suc i) j b c (omega arith) h l p)
  | inl h ↦
      let k : j * c' ≤ suc i * c' = mul-le j c' (suc i) c' (omega arith) (omega arith) in
      let n : suc i * (c' + 1) ≤ suc i * b' = mul-le (suc i) (c' + 1) (suc i) b' (omega arith) (omega arith) in
      absurd (omega arith)
]

-- from a common beginning
from_start : (q a b c P i k j l : ℕ) → IsPartWay q a b P i k → IsPartWay q a c P j l → a ≤ b → a ≤ c → i * (b - a) ≡ j * (c - a)
from_start q a b c P i k j l A B h m = go (b - a) (c - a) (omega arith) (omega arith)
  where
    go : (b' c' : ℕ) → b ≡ a + b' → c ≡ a + c' → i * b' ≡ j * c'
    go b' c' e f =
        let p : P ≡ k * a + i * b = A.is in
        let p' : P ≡ l * a + j * c = B.is in
        let s : i * b ≡ i * (a + b') = ap (λ z. i * z) e in
        let t : j * c ≡ j * (a + c') = ap (λ z. j * z) f in
        let u : q * a ≡ (i + k) * a = ap (λ z. z * a) (sym A.parts) in
        let v : q * a ≡ (j + l) * a = ap (λ z. z * a) (sym B.parts) in
        omega arith

-- to a common end
to_end : (q a b c P i k j l : ℕ) → IsPartWay q b a P i k → IsPartWay q c a P j l → b ≤ a → c ≤ a → k * (a - b) ≡ l * (a - c)
to_end q a b c P i k j l A B h m = go (a - b) (a - c) (omega arith) (omega arith)
  where
    go : (b' c' : ℕ) → a ≡ b + b' → a ≡ c + c' → k * b' ≡ l * c'
    go b' c' e f =
        let p : P ≡ k * b + i * a = A.is in
        let p' : P ≡ l * c + j * a = B.is in
        let s : k * a ≡ k * (b + b') = ap (λ z. k * z) e in
        let t : l * a ≡ l * (c + c') = ap (λ z. l * z) f in
        let u : q * a ≡ (i + k) * a = ap (λ z. z * a) (sym A.parts) in
        let v : q * a ≡ (j + l) * a = ap (λ z. z * a) (sym B.parts) in
        omega arith

at_start : (q a b P i k : ℕ) → IsPartWay q a b P i k → i ≡ 0 → P ≡ q * a
at_start q a b P i k A z =
    let p : P ≡ k * a + i * b = A.is in
    let s : i * b ≡ 0 * b = ap (λ w. w * b) z in
    let u : q * a ≡ (i + k) * a = ap (λ w. w * a) (sym A.parts) in
    let v : i * a ≡ 0 * a = ap (λ w. w * a) z in
    omega arith

at_end : (q a b P i k : ℕ) → IsPartWay q a b P i k → k ≡ 0 → P ≡ q * b
at_end q a b P i k A z =
    let p : P ≡ k * a + i * b = A.is in
    let s : k * a ≡ 0 * a = ap (λ w. w * a) z in
    let u : q * b ≡ (i + k) * b = ap (λ w. w * b) (sym A.parts) in
    let v : k * b ≡ 0 * b = ap (λ w. w * b) z in
    omega arith

-- a point of a line lies between the line's ends
above_start : (q a b P i k : ℕ) → IsPartWay q a b P i k → a ≤ b → q * a ≤ P
above_start q a b P i k A h =
    let p : P ≡ k * a + i * b = A.is in
    let m : i * a ≤ i * b = mul-le i a i b (omega arith) h in
    let u : q * a ≡ (i + k) * a = ap (λ w. w * a) (sym A.parts) in
    omega arith

below_end : (q a b P i k : ℕ) → IsPartWay q a b P i k → a ≤ b → P ≤ q * b
below_end q a b P i k A h =
    let p : P ≡ k * a + i * b = A.is in
    let m : k * a ≤ k * b = mul-le k a k b (omega arith) h in
    let u : q * b ≡ (i + k) * b = ap (λ w. w * b) (sym A.parts) in
    omega arith

times_le : (q a b : ℕ) → 1 ≤ q → q * a ≤ q * b → a ≤ b
times_le q a b p h = elim (cases_lt b a) [
  | inr l ↦ l
  | inl l ↦ (let m : q * (b + 1) ≤ q * a = mul-le q (b + 1) q a (omega arith) (omega arith) in absurd (omega arith))
]

-- lines of which one is on one side throughout: the first's numbers are less at both ends
side_less : (q u v w z P i k j l : ℕ) → 1 ≤ q → IsPartWay q u v P i k → IsPartWay q w z P j l → u < w → v < z → u ≤ v → i ≤ j → ⊥
side_less q u v w z P i k j l p A B h m n le = go (j - i) (omega arith)
  where
    go : (d : ℕ) → j ≡ i + d → ⊥
    go d e =
        let kd : k ≡ l + d = (let s = A.parts in let t = B.parts in omega arith) in
        let a : P ≡ k * u + i * v = A.is in
        let b : P ≡ l * w + j * z = B.is in
        let c1 : k * u ≡ (l + d) * u = ap (λ x. x * u) kd in
        let c2 : j * z ≡ (i + d) * z = ap (λ x. x * z) e in
        let m1 : l * (u + 1) ≤ l * w = mul-le l (u + 1) l w (omega arith) (omega arith) in
        let m2 : i * (v + 1) ≤ i * z = mul-le i (v + 1) i z (omega arith) (omega arith) in
        let m3 : d * (u + 1) ≤ d * z = mul-le d (u + 1) d z (omega arith) (omega arith) in
        let s = A.parts in
        omega arith

-- the same with the first's numbers greater
side_more : (q u v w z P i k j l : ℕ) → 1 ≤ q → IsPartWay q u v P i k → IsPartWay q w z P j l → w < u → z < v → u ≤ v → j ≤ i → ⊥
side_more q u v w z P i k j l p A B h m n le = go (i - j) (omega arith)
  where
    go : (d : ℕ) → i ≡ j + d → ⊥
    go d e =
        let ld : l ≡ k + d = (let s = A.parts in let t = B.parts in omega arith) in
        let a : P ≡ k * u + i * v = A.is in
        let b : P ≡ l * w + j * z = B.is in
        let c1 : l * w ≡ (k + d) * w = ap (λ x. x * w) ld in
        let c2 : i * v ≡ (j + d) * v = ap (λ x. x * v) e in
        let m1 : k * (w + 1) ≤ k * u = mul-le k (w + 1) k u (omega arith) (omega arith) in
        let m2 : j * (z + 1) ≤ j * v = mul-le j (z + 1) j v (omega arith) (omega arith) in
        let m3 : d * (w + 1) ≤ d * v = mul-le d (w + 1) d v (omega arith) (omega arith) in
        let s = A.parts in
        omega arith

-- ---- the drawing
module _ (g : SidesValue) (S : IsSides g) where
  both_ways : (u v : ℕ) → Reaches (primal g) u v → Reaches (primal g) v u → u ≡ v
  both_ways u v h k = go h.way h.walk
    where
      go : (es : List ℕ) → Walk (primal g) u es v → u ≡ v
      go es (stay q) = q
      go es (step {e = e} a t r) = absurd (no_loop S.acyclic e a (reach_trans (record { way = _; walk = r }) (reach_trans k (reach_refl (sym t)))))

  module _ (none : HasNoTransitive g) (px py : ℕ → ℕ) (D : IsDominance g px py) where
    -- no vertex lies between the ends of an edge
    through : (e m : ℕ) → e < edge_count g → Reaches (primal g) (edge_tail g e) m → Reaches (primal g) m (edge_head g e) → (m ≡ edge_tail g e) ⊎ (m ≡ edge_head g e)
    through e m a h k = elim (cases_eq m (edge_tail g e)) [
      | inl q ↦ inl q
      | inr n ↦ elim (cases_eq m (edge_head g e)) [
        | inl q ↦ inr q
        | inr n' ↦ absurd (none e a (record {
          way = h.way ++ k.way;
          walk = walk_append h.walk k.walk;
          without = λ i. elim (in_append h.way i) [
            | inl j ↦ n' (both_ways m (edge_head g e) k (on_walk h.walk j).after)
            | inr j ↦ n (both_ways m (edge_tail g e) (on_walk k.walk j).before h)
          ];
        }))
      ]
    ]

    -- two edge_count with one edge_tail and one edge_head are one
    parallel : (e f : ℕ) → e < edge_count g → f < edge_count g → edge_tail g e ≡ edge_tail g f → edge_head g e ≡ edge_head g f → e ≡ f
    parallel e f a b t h = elim (cases_eq e f) [
      | inl q ↦ q
      | inr n ↦ absurd (none e a (record {
        way = f ∷ [];
        walk = step b (sym t) (stay (sym h));
        without = λ i. elim (In-cases i) [ inl q ↦ n q | inr j ↦ not_in_nil j ];
      }))
    ]

    -- neither reaches the other
    abbrev Apart : ℕ → ℕ → Type 0
    Apart u v = (Reaches (primal g) u v → ⊥) × (Reaches (primal g) v u → ⊥)

    not_pole : (u v : ℕ) → v < g.vertices → Apart u v → (u ≢ g.source) × (u ≢ g.sink)
    not_pole u v j A = (
      (λ q. A.0 (reach_trans (reach_refl q) (from_source g S v j))),
      (λ q. A.1 (reach_trans (to_sink g S v j) (reach_refl (sym q)))),
    )

    apart_flip : (u v : ℕ) → Apart u v → Apart v u
    apart_flip u v A = (A.1, A.0)

    -- of two vertices apart, the left one has the smaller x and the greater y
    aside : (u v : ℕ) → u < g.vertices → v < g.vertices → Apart u v → LeftOf g (vertex u) (vertex v) → (px u < px v) × (py v < py u)
    aside u v i j A h =
        let k = D.left u v i j h in
        let kx : px u ≤ px v = k.0 in
        let ky : py v ≤ py u = k.1 in (
          elim (cases_lt (px u) (px v)) [ inl l ↦ l | inr l ↦ absurd (A.1 (D.back v u j i l ky)) ],
          elim (cases_lt (py v) (py u)) [ inl l ↦ l | inr l ↦ absurd (A.0 (D.back u v i j kx l)) ],
        )

    -- the tails, and the heads, of an edge and one on its right
    tails_aside : (e f : ℕ) → e < edge_count g → f < edge_count g → Reaches (dual g) (face_right g e) (face_left g f) → Apart (edge_tail g e) (edge_tail g f) → (px (edge_tail g e) < px (edge_tail g f)) × (py (edge_tail g f) < py (edge_tail g e))
    tails_aside e f a b r A =
        let u = S.tail_in e a in
        let v = S.tail_in f b in
        let n = not_pole (edge_tail g e) (edge_tail g f) v A in
        let n' = not_pole (edge_tail g f) (edge_tail g e) u (apart_flip (edge_tail g e) (edge_tail g f) A) in
        aside (edge_tail g e) (edge_tail g f) u v A (elim (compared g S (vertex (edge_tail g e)) (vertex (edge_tail g f)) u v (λ q. A.0 (reach_refl (cc q)))) [
          | before h ↦ absurd (A.0 h)
          | after h ↦ absurd (A.1 h)
          | leftward h ↦ h
          | rightward h ↦ absurd (no_loop (dual_acyclic g S) f b (reach_trans (across_out g S (edge_tail g f) f v n'.0 n'.1 b refl).1 (reach_trans h (reach_trans (across_out g S (edge_tail g e) e u n.0 n.1 a refl).0 (reach_trans (reach_arc e a) r)))))
        ])

    heads_aside : (e f : ℕ) → e < edge_count g → f < edge_count g → Reaches (dual g) (face_right g e) (face_left g f) → Apart (edge_head g e) (edge_head g f) → (px (edge_head g e) < px (edge_head g f)) × (py (edge_head g f) < py (edge_head g e))
    heads_aside e f a b r A =
        let u = S.head_in e a in
        let v = S.head_in f b in
        let n = not_pole (edge_head g e) (edge_head g f) v A in
        let n' = not_pole (edge_head g f) (edge_head g e) u (apart_flip (edge_head g e) (edge_head g f) A) in
        aside (edge_head g e) (edge_head g f) u v A (elim (compared g S (vertex (edge_head g e)) (vertex (edge_head g f)) u v (λ q. A.0 (reach_refl (cc q)))) [
          | before h ↦ absurd (A.0 h)
          | after h ↦ absurd (A.1 h)
          | leftward h ↦ h
          | rightward h ↦ absurd (no_loop (dual_acyclic g S) f b (reach_trans (across_in g S (edge_head g f) f v n'.0 n'.1 b refl).1 (reach_trans h (reach_trans (across_in g S (edge_head g e) e u n.0 n.1 a refl).0 (reach_trans (reach_arc e a) r)))))
        ])

    along_edge : (e : ℕ) → e < edge_count g → (px (edge_tail g e) ≤ px (edge_head g e)) × (py (edge_tail g e) ≤ py (edge_head g e))
    along_edge e a = D.up (edge_tail g e) (edge_head g e) (S.tail_in e a) (S.head_in e a) (reach_arc e a)

    different : (u v : ℕ) → u < g.vertices → v < g.vertices → px u ≡ px v → py u ≡ py v → u ≡ v
    different u v i j p q = both_ways u v (D.back u v i j (omega arith) (omega arith)) (D.back v u j i (omega arith) (omega arith))

    rises : (e : ℕ) → e < edge_count g → (px (edge_tail g e) ≤ px (edge_head g e)) × (py (edge_tail g e) ≤ py (edge_head g e)) × (px (edge_tail g e) + py (edge_tail g e) < px (edge_head g e) + py (edge_head g e))
    rises e a =
        let k = along_edge e a in
        let kx : px (edge_tail g e) ≤ px (edge_head g e) = k.0 in
        let ky : py (edge_tail g e) ≤ py (edge_head g e) = k.1 in (
          kx,
          ky,
          elim (cases_lt (px (edge_tail g e) + py (edge_tail g e)) (px (edge_head g e) + py (edge_head g e))) [
            | inl l ↦ l
            | inr l ↦ absurd (no_loop S.acyclic e a (D.back (edge_head g e) (edge_tail g e) (S.head_in e a) (S.tail_in e a) (omega arith) (omega arith)))
          ],
        )

    -- vertices reach one another along lines that share a point
    meets_below : (e f : ℕ) → e < edge_count g → f < edge_count g → (q X Y : ℕ) → 1 ≤ q → HasOnLine g px py e q X Y → HasOnLine g px py f q X Y → Reaches (primal g) (edge_tail g e) (edge_head g f)
    meets_below e f a b q X Y p A B =
        let ke = along_edge e a in
        let kf = along_edge f b in
        let x1 : q * px (edge_tail g e) ≤ X = above_start q (px (edge_tail g e)) (px (edge_head g e)) X A.i A.k A.x ke.0 in
        let x2 : X ≤ q * px (edge_head g f) = below_end q (px (edge_tail g f)) (px (edge_head g f)) X B.i B.k B.x kf.0 in
        let y1 : q * py (edge_tail g e) ≤ Y = above_start q (py (edge_tail g e)) (py (edge_head g e)) Y A.i A.k A.y ke.1 in
        let y2 : Y ≤ q * py (edge_head g f) = below_end q (py (edge_tail g f)) (py (edge_head g f)) Y B.i B.k B.y kf.1 in
        D.back (edge_tail g e) (edge_head g f) (S.tail_in e a) (S.head_in f b) (times_le q (px (edge_tail g e)) (px (edge_head g f)) p (omega arith)) (times_le q (py (edge_tail g e)) (py (edge_head g f)) p (omega arith))

    -- the point is where one line begins and the other ends
    at_joint : (e f : ℕ) → e < edge_count g → f < edge_count g → (q X Y : ℕ) → HasOnLine g px py e q X Y → HasOnLine g px py f q X Y → edge_tail g e ≡ edge_head g f → (X ≡ q * px (edge_tail g e)) × (Y ≡ q * py (edge_tail g e))
    at_joint e f a b q X Y A B h =
        let ke = along_edge e a in
        let kf = along_edge f b in
        let x1 : q * px (edge_tail g e) ≤ X = above_start q (px (edge_tail g e)) (px (edge_head g e)) X A.i A.k A.x ke.0 in
        let x2 : X ≤ q * px (edge_head g f) = below_end q (px (edge_tail g f)) (px (edge_head g f)) X B.i B.k B.x kf.0 in
        let y1 : q * py (edge_tail g e) ≤ Y = above_start q (py (edge_tail g e)) (py (edge_head g e)) Y A.i A.k A.y ke.1 in
        let y2 : Y ≤ q * py (edge_head g f) = below_end q (py (edge_tail g f)) (py (edge_head g f)) Y B.i B.k B.y kf.1 in
        let ex : q * px (edge_tail g e) ≡ q * px (edge_head g f) = ap (λ z. q * px z) h in
        let ey : q * py (edge_tail g e) ≡ q * py (edge_head g f) = ap (λ z. q * py z) h in
        (omega arith, omega arith)

    -- e on the left of f, and neither begins where the other ends
    left_lines : (e f : ℕ) → e < edge_count g → f < edge_count g → e ≢ f → Reaches (dual g) (face_right g e) (face_left g f) → (q X Y : ℕ) → 1 ≤ q → HasOnLine g px py e q X Y → HasOnLine g px py f q X Y → ((edge_tail g e ≡ edge_tail g f) ⊎ Apart (edge_tail g e) (edge_tail g f)) → ((edge_head g e ≡ edge_head g f) ⊎ Apart (edge_head g e) (edge_head g f)) → IsCommonEnd g px py e f q X Y
    left_lines e f a b d r q X Y p A B (inl t) (inl h) = absurd (d (parallel e f a b t h))
    left_lines e f a b d r q X Y p A B (inl t) (inr H) =
        let k = heads_aside e f a b r H in
        let kx : px (edge_head g e) < px (edge_head g f) = k.0 in
        let ky : py (edge_head g f) < py (edge_head g e) = k.1 in
        let ke = along_edge e a in
        let kf = along_edge f b in
        let ex : px (edge_tail g f) ≡ px (edge_tail g e) = ap px (sym t) in
        let ey : py (edge_tail g f) ≡ py (edge_tail g e) = ap py (sym t) in
        let mx : A.i * (px (edge_head g e) - px (edge_tail g e)) ≡ B.i * (px (edge_head g f) - px (edge_tail g e)) = from_start q (px (edge_tail g e)) (px (edge_head g e)) (px (edge_head g f)) X A.i A.k B.i B.k A.x (subst (λ z. IsPartWay q z (px (edge_head g f)) X B.i B.k) ex B.x) ke.0 (subst (λ z. z ≤ px (edge_head g f)) ex kf.0) in
        let my : A.i * (py (edge_head g e) - py (edge_tail g e)) ≡ B.i * (py (edge_head g f) - py (edge_tail g e)) = from_start q (py (edge_tail g e)) (py (edge_head g e)) (py (edge_head g f)) Y A.i A.k B.i B.k A.y (subst (λ z. IsPartWay q z (py (edge_head g f)) Y B.i B.k) ey B.y) ke.1 (subst (λ z. z ≤ py (edge_head g f)) ey kf.1) in
        let lx : px (edge_tail g e) ≤ px (edge_head g e) = ke.0 in
        let ly : py (edge_tail g e) ≤ py (edge_head g f) = subst (λ z. z ≤ py (edge_head g f)) ey kf.1 in
        let z : A.i ≡ 0 = steeper A.i B.i (px (edge_head g e) - px (edge_tail g e)) (px (edge_head g f) - px (edge_tail g e)) (py (edge_head g e) - py (edge_tail g e)) (py (edge_head g f) - py (edge_tail g e)) mx my (omega arith) (omega arith) in
        record {
          at = edge_tail g e;
          of_first = inl refl;
          of_second = inl t;
          x = at_start q (px (edge_tail g e)) (px (edge_head g e)) X A.i A.k A.x z;
          y = at_start q (py (edge_tail g e)) (py (edge_head g e)) Y A.i A.k A.y z;
        }
    left_lines e f a b d r q X Y p A B (inr T) (inl h) =
        let k = tails_aside e f a b r T in
        let kx : px (edge_tail g e) < px (edge_tail g f) = k.0 in
        let ky : py (edge_tail g f) < py (edge_tail g e) = k.1 in
        let ke = along_edge e a in
        let kf = along_edge f b in
        let ex : px (edge_head g f) ≡ px (edge_head g e) = ap px (sym h) in
        let ey : py (edge_head g f) ≡ py (edge_head g e) = ap py (sym h) in
        let mx : A.k * (px (edge_head g e) - px (edge_tail g e)) ≡ B.k * (px (edge_head g e) - px (edge_tail g f)) = to_end q (px (edge_head g e)) (px (edge_tail g e)) (px (edge_tail g f)) X A.i A.k B.i B.k A.x (subst (λ z. IsPartWay q (px (edge_tail g f)) z X B.i B.k) ex B.x) ke.0 (subst (λ z. px (edge_tail g f) ≤ z) ex kf.0) in
        let my : A.k * (py (edge_head g e) - py (edge_tail g e)) ≡ B.k * (py (edge_head g e) - py (edge_tail g f)) = to_end q (py (edge_head g e)) (py (edge_tail g e)) (py (edge_tail g f)) Y A.i A.k B.i B.k A.y (subst (λ z. IsPartWay q (py (edge_tail g f)) z Y B.i B.k) ey B.y) ke.1 (subst (λ z. py (edge_tail g f) ≤ z) ey kf.1) in
        let lx : px (edge_tail g f) ≤ px (edge_head g e) = subst (λ z. px (edge_tail g f) ≤ z) ex kf.0 in
        let ly : py (edge_tail g e) ≤ py (edge_head g e) = ke.1 in
        let z : A.k ≡ 0 = steeper A.k B.k (py (edge_head g e) - py (edge_tail g e)) (py (edge_head g e) - py (edge_tail g f)) (px (edge_head g e) - px (edge_tail g e)) (px (edge_head g e) - px (edge_tail g f)) my mx (omega arith) (omega arith) in
        record {
          at = edge_head g e;
          of_first = inr refl;
          of_second = inr h;
          x = at_end q (px (edge_tail g e)) (px (edge_head g e)) X A.i A.k A.x z;
          y = at_end q (py (edge_tail g e)) (py (edge_head g e)) Y A.i A.k A.y z;
        }
    left_lines e f a b d r q X Y p A B (inr T) (inr H) =
        let t = tails_aside e f a b r T in
        let h = heads_aside e f a b r H in
        let ke = along_edge e a in
        absurd (elim (cases_lt B.i A.i) [
          | inr l ↦ side_less q (px (edge_tail g e)) (px (edge_head g e)) (px (edge_tail g f)) (px (edge_head g f)) X A.i A.k B.i B.k p A.x B.x t.0 h.0 ke.0 l
          | inl l ↦ side_more q (py (edge_tail g e)) (py (edge_head g e)) (py (edge_tail g f)) (py (edge_head g f)) Y A.i A.k B.i B.k p A.y B.y t.1 h.1 ke.1 (omega arith)
        ])

    swap_ends : (e f q X Y : ℕ) → IsCommonEnd g px py f e q X Y → IsCommonEnd g px py e f q X Y
    swap_ends e f q X Y C = record { at = C.at; of_first = C.of_second; of_second = C.of_first; x = C.x; y = C.y }

    -- two tails with a common place above them are one or apart, and so are two heads
    tails_case : (e f : ℕ) → e < edge_count g → f < edge_count g → edge_tail g e ≢ edge_head g f → edge_tail g f ≢ edge_head g e → Reaches (primal g) (edge_tail g e) (edge_head g f) → Reaches (primal g) (edge_tail g f) (edge_head g e) → (edge_tail g e ≡ edge_tail g f) ⊎ Apart (edge_tail g e) (edge_tail g f)
    tails_case e f a b n n' h k = elim (cases_eq (edge_tail g e) (edge_tail g f)) [
      | inl q ↦ inl q
      | inr d ↦ inr (
        (λ r. elim (through e (edge_tail g f) a r k) [ inl q ↦ d (sym q) | inr q ↦ n' q ]),
        (λ r. elim (through f (edge_tail g e) b r h) [ inl q ↦ d q | inr q ↦ n q ]),
      )
    ]

    heads_case : (e f : ℕ) → e < edge_count g → f < edge_count g → edge_tail g e ≢ edge_head g f → edge_tail g f ≢ edge_head g e → Reaches (primal g) (edge_tail g e) (edge_head g f) → Reaches (primal g) (edge_tail g f) (edge_head g e) → (edge_head g e ≡ edge_head g f) ⊎ Apart (edge_head g e) (edge_head g f)
    heads_case e f a b n n' h k = elim (cases_eq (edge_head g e) (edge_head g f)) [
      | inl q ↦ inl q
      | inr d ↦ inr (
        (λ r. elim (through f (edge_head g e) b k r) [ inl q ↦ n' (sym q) | inr q ↦ d q ]),
        (λ r. elim (through e (edge_head g f) a h r) [ inl q ↦ n (sym q) | inr q ↦ d (sym q) ]),
      )
    ]

    lines : (e f : ℕ) → e < edge_count g → f < edge_count g → e ≢ f → (q X Y : ℕ) → 1 ≤ q → HasOnLine g px py e q X Y → HasOnLine g px py f q X Y → IsCommonEnd g px py e f q X Y
    lines e f a b d q X Y p A B = elim (cases_eq (edge_tail g e) (edge_head g f)) [
      | inl h ↦ (let k = at_joint e f a b q X Y A B h in record { at = edge_tail g e; of_first = inl refl; of_second = inr h; x = k.0; y = k.1 })
      | inr n ↦ elim (cases_eq (edge_tail g f) (edge_head g e)) [
        | inl h ↦ (let k = at_joint f e b a q X Y B A h in record { at = edge_tail g f; of_first = inr h; of_second = inl refl; x = k.0; y = k.1 })
        | inr n' ↦
            let up = meets_below e f a b q X Y p A B in
            let up' = meets_below f e b a q X Y p B A in
            elim (compared g S (edge e) (edge f) a b (λ z. d (cc z))) [
              | before h ↦ absurd (n' (sym (both_ways (edge_head g e) (edge_tail g f) h up')))
              | after h ↦ absurd (n (sym (both_ways (edge_head g f) (edge_tail g e) h up)))
              | leftward h ↦ left_lines e f a b d h q X Y p A B (tails_case e f a b n n' up up') (heads_case e f a b n n' up up')
              | rightward h ↦ swap_ends e f q X Y (left_lines f e b a (λ z. d (sym z)) h q X Y p B A (tails_case f e b a n' n up' up) (heads_case f e b a n' n up' up))
            ]
      ]
    ]

    vertices : (e v : ℕ) → e < edge_count g → v < g.vertices → (q : ℕ) → 1 ≤ q → HasOnLine g px py e q (q * px v) (q * py v) → (v ≡ edge_tail g e) ⊎ (v ≡ edge_head g e)
    vertices e v a i q p A =
        let ke = along_edge e a in
        through e v a
        (D.back (edge_tail g e) v (S.tail_in e a) i
        (times_le q (px (edge_tail g e)) (px v) p (above_start q (px (edge_tail g e)) (px (edge_head g e)) (q * px v) A.i A.k A.x ke.0))
        (times_le q (py (edge_tail g e)) (py v) p (above_start q (py (edge_tail g e)) (py (edge_head g e)) (q * py v) A.i A.k A.y ke.1)))
        (D.back v (edge_head g e) i (S.head_in e a)
        (times_le q (px v) (px (edge_head g e)) p (below_end q (px (edge_tail g e)) (px (edge_head g e)) (q * px v) A.i A.k A.x ke.0))
        (times_le q (py v) (py (edge_head g e)) p (below_end q (py (edge_tail g e)) (py (edge_head g e)) (q * py v) A.i A.k A.y ke.1)))

    order_out : (v e f : ℕ) → v < g.vertices → Precedes e f (outs g v) → (px (edge_head g e) - px v) * (py (edge_head g f) - py v) < (py (edge_head g e) - py v) * (px (edge_head g f) - px v)
    order_out v e f i o =
        let E = (S.outs_are v i).only e (Precedes-left (outs g v) e f o) in
        let F = (S.outs_are v i).only f (Precedes-right (outs g v) e f o) in
        let B = order_out_beside g S v e f i o in
        let d : e ≢ f = λ q. no_loop (dual_acyclic g S) e E.0 (reach_trans B.across (reach_refl (ap (face_left g) (sym q)))) in
        let n : edge_head g e ≢ edge_head g f = λ q. d (parallel e f E.0 F.0 (E.1 ∙ sym F.1) q) in
        let A : Apart (edge_head g e) (edge_head g f) = (
          (λ r. elim (through f (edge_head g e) F.0 (reach_trans (reach_refl (F.1 ∙ sym E.1)) (reach_arc e E.0)) r) [
            | inl q ↦ no_loop S.acyclic e E.0 (reach_refl (q ∙ F.1 ∙ sym E.1))
            | inr q ↦ n q
          ]),
          (λ r. elim (through e (edge_head g f) E.0 (reach_trans (reach_refl (E.1 ∙ sym F.1)) (reach_arc f F.0)) r) [
            | inl q ↦ no_loop S.acyclic f F.0 (reach_refl (q ∙ E.1 ∙ sym F.1))
            | inr q ↦ n (sym q)
          ]),
        ) in
        let k = heads_aside e f E.0 F.0 B.across A in
        let kx : px (edge_head g e) < px (edge_head g f) = k.0 in
        let ky : py (edge_head g f) < py (edge_head g e) = k.1 in
        let ux : px v ≤ px (edge_head g e) = subst (λ z. px z ≤ px (edge_head g e)) E.1 (along_edge e E.0).0 in
        let uy : py v ≤ py (edge_head g f) = subst (λ z. py z ≤ py (edge_head g f)) F.1 (along_edge f F.0).1 in
        let m : (px (edge_head g e) - px v) * (py (edge_head g f) - py v) < (px (edge_head g f) - px v) * (py (edge_head g e) - py v) = mul-lt (px (edge_head g e) - px v) (py (edge_head g f) - py v) (px (edge_head g f) - px v) (py (edge_head g e) - py v) (omega arith) (omega arith) in
        subst (λ z. (px (edge_head g e) - px v) * (py (edge_head g f) - py v) < z) (mul_comm (px (edge_head g f) - px v) (py (edge_head g e) - py v)) m

    order_in : (v e f : ℕ) → v < g.vertices → Precedes e f (ins g v) → (py v - py (edge_tail g e)) * (px v - px (edge_tail g f)) < (px v - px (edge_tail g e)) * (py v - py (edge_tail g f))
    order_in v e f i o =
        let E = (S.ins_are v i).only e (Precedes-left (ins g v) e f o) in
        let F = (S.ins_are v i).only f (Precedes-right (ins g v) e f o) in
        let B = order_in_beside g S v e f i o in
        let d : e ≢ f = λ q. no_loop (dual_acyclic g S) e E.0 (reach_trans B.across (reach_refl (ap (face_left g) (sym q)))) in
        let n : edge_tail g e ≢ edge_tail g f = λ q. d (parallel e f E.0 F.0 q (E.1 ∙ sym F.1)) in
        let A : Apart (edge_tail g e) (edge_tail g f) = (
          (λ r. elim (through e (edge_tail g f) E.0 r (reach_trans (reach_arc f F.0) (reach_refl (F.1 ∙ sym E.1)))) [
            | inl q ↦ n (sym q)
            | inr q ↦ no_loop S.acyclic f F.0 (reach_refl (F.1 ∙ sym E.1 ∙ sym q))
          ]),
          (λ r. elim (through f (edge_tail g e) F.0 r (reach_trans (reach_arc e E.0) (reach_refl (E.1 ∙ sym F.1)))) [
            | inl q ↦ n q
            | inr q ↦ no_loop S.acyclic e E.0 (reach_refl (E.1 ∙ sym F.1 ∙ sym q))
          ]),
        ) in
        let k = tails_aside e f E.0 F.0 B.across A in
        let kx : px (edge_tail g e) < px (edge_tail g f) = k.0 in
        let ky : py (edge_tail g f) < py (edge_tail g e) = k.1 in
        let ux : px (edge_tail g f) ≤ px v = subst (λ z. px (edge_tail g f) ≤ px z) F.1 (along_edge f F.0).0 in
        let uy : py (edge_tail g e) ≤ py v = subst (λ z. py (edge_tail g e) ≤ py z) E.1 (along_edge e E.0).1 in
        let m : (py v - py (edge_tail g e)) * (px v - px (edge_tail g f)) < (py v - py (edge_tail g f)) * (px v - px (edge_tail g e)) = mul-lt (py v - py (edge_tail g e)) (px v - px (edge_tail g f)) (py v - py (edge_tail g f)) (px v - px (edge_tail g e)) (omega arith) (omega arith) in
        subst (λ z. (py v - py (edge_tail g e)) * (px v - px (edge_tail g f)) < z) (mul_comm (py v - py (edge_tail g f)) (px v - px (edge_tail g e))) m

    pub dominance_law : DominanceLaw g px py
    dominance_law = record {
      different = different;
      rises = rises;
      lines = lines;
      vertices = vertices;
      order_out = order_out;
      order_in = order_in;
    }

  -- the compact points of the two numbers
  pub compact_dominance : (X Y at_x at_y : ℕ → ℕ) → AreNumberings g.vertices X Y at_x at_y → ((v : ℕ) → v < g.vertices → IsX g v (X v)) → ((v : ℕ) → v < g.vertices → IsY g v (Y v)) → IsDominance g (point_x X Y at_x) (point_y X Y at_y)
  compact_dominance X Y at_x at_y N isX isY =
      let C = compact_law g.vertices X Y at_x at_y N in
      record {
        up = λ u v i j r.
            let k = reaching g S u v i j (X u) (Y u) (X v) (Y v) (isX u i) (isY u i) (isX v j) (isY v j) r in
            (C.x_grows u v i j k.0, C.y_grows u v i j k.1);
        back = λ u v i j a b.
            let k = C.back u v i j a b in
            reached g S u v i j (X u) (Y u) (X v) (Y v) (isX u i) (isY u i) (isX v j) (isY v j) k.0 k.1;
        left = λ u v i j h.
            let d : vertex u ≢ vertex v = λ q. not_left_right g S (vertex u) (vertex v) i j h (subst (λ z. LeftOf g z (vertex u)) q (subst (λ z. LeftOf g (vertex u) z) (sym q) h)) in
            let kx : X u < X v = rank_grows g.vertices (λ u v. BeforeOrLeft g (vertex u) (vertex v)) (x_vertices g S) u v (X u) (X v) i j (isX u i) (isX v j) (d, inr h) in
            let ky : Y v < Y u = rank_grows g.vertices (λ u v. BeforeOrRight g (vertex u) (vertex v)) (y_vertices g S) v u (Y v) (Y u) j i (isY v j) (isY u i) ((λ q. d (sym q)), inr h) in
            (C.x_grows u v i j (omega arith), C.y_grows v u j i (omega arith));
      }

  pub compact_dominance_law : (X Y at_x at_y : ℕ → ℕ) → HasNumbers g X Y at_x at_y → CompactDominance g (point_x X Y at_x) (point_y X Y at_y)
  compact_dominance_law X Y at_x at_y N =
      let D = compact_dominance X Y at_x at_y N.numberings N.x N.y in
      record { points = D; drawing = λ none. dominance_law none (point_x X Y at_x) (point_y X Y at_y) D }
