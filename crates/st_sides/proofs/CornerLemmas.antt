-- The count of corners, for a permutation phi of n ends, a test out on ends, and a vertex below m for each end.
-- Each orbit of phi has a turn up and a turn down, each vertex but s and t has a corner of each other kind, and
-- Euler's formula leaves room for no more.
use Rattle.std.proofs.Common.{◌≡◌, ℕ, ◌+◌, ◌*◌, ◌<◌, ◌≤◌, Bool, true, false, not, eqb, ◌&&◌, refl, sym, ap, ◌∙◌, arith}
use Rattle.std.proofs.lemmas.Bool.{eqb-true, eq-eqb, and_from}
use Rattle.st_map.specs.Counting.{total, bit, count_below, fibre}
use Rattle.st_map.specs.Orbits.{Permutes, SameOrbit, least_within}
use Rattle.st_sides.specs.Corners.{turns_up, turns_down, goes_up, goes_down, is_inner}
use Rattle.st_map.proofs.Public.{total-add, total-one, total-same, total-le, once, cover, cover-exact, same_counted, some_counted, bit_positive, bit_le, orbit-trans, orbit-sym, orbit-stays, root-same, root-below, change_between, root-root}

-- each corner is of one kind
four_kinds : (a b : Bool) → (bit (not a && b) + bit (a && not b)) + (bit (a && b) + bit (not a && not b)) ≡ 1
four_kinds true true = refl
four_kinds true false = refl
four_kinds false true = refl
four_kinds false false = refl

pub all_corners : (n : ℕ) (phi : ℕ → ℕ) (out : ℕ → Bool)
    → (count_below n (turns_up phi out) + count_below n (turns_down phi out)) + (count_below n (goes_up phi out) + count_below n (goes_down phi out)) ≡ n
all_corners n phi out =
    let a : total n (λ d. bit (turns_up phi out d) + bit (turns_down phi out d)) ≡ count_below n (turns_up phi out) + count_below n (turns_down phi out) =
    total-add n (λ d. bit (turns_up phi out d)) (λ d. bit (turns_down phi out d)) in
    let b : total n (λ d. bit (goes_up phi out d) + bit (goes_down phi out d)) ≡ count_below n (goes_up phi out) + count_below n (goes_down phi out) =
    total-add n (λ d. bit (goes_up phi out d)) (λ d. bit (goes_down phi out d)) in
    let c : total n (λ d. (bit (turns_up phi out d) + bit (turns_down phi out d)) + (bit (goes_up phi out d) + bit (goes_down phi out d)))
    ≡ total n (λ d. bit (turns_up phi out d) + bit (turns_down phi out d)) + total n (λ d. bit (goes_up phi out d) + bit (goes_down phi out d)) =
    total-add n (λ d. bit (turns_up phi out d) + bit (turns_down phi out d)) (λ d. bit (goes_up phi out d) + bit (goes_down phi out d)) in
    let e : total n (λ d. (bit (turns_up phi out d) + bit (turns_down phi out d)) + (bit (goes_up phi out d) + bit (goes_down phi out d))) ≡ n =
    total-same n (λ d. (bit (turns_up phi out d) + bit (turns_down phi out d)) + (bit (goes_up phi out d) + bit (goes_down phi out d))) (λ _. 1) (λ d _. four_kinds (out d) (out (phi d))) ∙ total-one n in
    omega arith

-- all vertices but two are inner
inner_or : (a b : Bool) → 1 ≤ bit (not a && not b) + (bit a + bit b)
inner_or true true = omega arith
inner_or true false = omega arith
inner_or false true = omega arith
inner_or false false = omega arith

pub inner_many : (m s t : ℕ) → s < m → t < m → m ≤ count_below m (is_inner s t) + 2
inner_many m s t ls lt =
    let a : total m (λ v. bit (is_inner s t v) + (bit (eqb s v) + bit (eqb t v))) ≡ count_below m (is_inner s t) + total m (λ v. bit (eqb s v) + bit (eqb t v)) =
    total-add m (λ v. bit (is_inner s t v)) (λ v. bit (eqb s v) + bit (eqb t v)) in
    let b : total m (λ v. bit (eqb s v) + bit (eqb t v)) ≡ total m (λ v. bit (eqb s v)) + total m (λ v. bit (eqb t v)) =
    total-add m (λ v. bit (eqb s v)) (λ v. bit (eqb t v)) in
    let c : total m (λ v. 1) ≤ total m (λ v. bit (is_inner s t v) + (bit (eqb s v) + bit (eqb t v))) =
    total-le m (λ v. 1) (λ v. bit (is_inner s t v) + (bit (eqb s v) + bit (eqb t v))) (λ v _. inner_or (eqb s v) (eqb t v)) in
    omega (arith, total-one m, once m s ls, once m t lt)

inner_or_one : (a b : Bool) → a ≡ b → 1 ≤ bit (not a && not b) + bit a
inner_or_one true true e = omega arith
inner_or_one true false e = omega arith
inner_or_one false true e = cc
inner_or_one false false e = omega arith

inner_more : (m s t : ℕ) → s < m → s ≡ t → m ≤ count_below m (is_inner s t) + 1
inner_more m s t ls e =
    let a : total m (λ v. bit (is_inner s t v) + bit (eqb s v)) ≡ count_below m (is_inner s t) + total m (λ v. bit (eqb s v)) =
    total-add m (λ v. bit (is_inner s t v)) (λ v. bit (eqb s v)) in
    let c : total m (λ v. 1) ≤ total m (λ v. bit (is_inner s t v) + bit (eqb s v)) =
    total-le m (λ v. 1) (λ v. bit (is_inner s t v) + bit (eqb s v)) (λ v _. inner_or_one (eqb s v) (eqb t v) (ap (λ x. eqb x v) e)) in
    omega (arith, total-one m, once m s ls)

module _ (n m s t : ℕ) (phi vertex : ℕ → ℕ) (out : ℕ → Bool)
    (perm : Permutes n phi)
    (below : (d : ℕ) → d < n → vertex d < m)
    (s_in : s < m) (t_in : t < m)
    (has_out : (d : ℕ) → d < n → (e : ℕ) × SameOrbit phi d e × (out e ≡ true))
    (has_in : (d : ℕ) → d < n → (e : ℕ) × SameOrbit phi d e × (out e ≡ false))
    (has_up : (v : ℕ) → v < m → is_inner s t v ≡ true → (d : ℕ) × (d < n) × (goes_up phi out d ≡ true) × (vertex (phi d) ≡ v))
    (has_down : (v : ℕ) → v < m → is_inner s t v ≡ true → (d : ℕ) × (d < n) × (goes_down phi out d ≡ true) × (vertex (phi d) ≡ v))
    (euler : 2 * m + 2 * count_below n (λ d. eqb (least_within n phi d) d) ≡ n + 4) where
  root : ℕ → ℕ
  root d = least_within n phi d

  is_root : ℕ → Bool
  is_root d = eqb (least_within n phi d) d

  place : ℕ → ℕ
  place d = vertex (phi d)

  place_below : (d : ℕ) → d < n → place d < m
  unfolding place
  place_below d l = below (phi d) (perm.stays d l)

  root_lt : (d : ℕ) → d < n → root d < n
  unfolding root
  root_lt d l = root-below n phi perm d l

  -- an orbit has a turn up
  has_turn_up : (y : ℕ) → y < n → is_root y ≡ true → (x : ℕ) × (x < n) × (turns_up phi out x ≡ true) × (root x ≡ y)
  unfolding root is_root
  has_turn_up y l e =
      let i : (e : ℕ) × SameOrbit phi y e × (out e ≡ false) = has_in y l in
      let o : (e : ℕ) × SameOrbit phi y e × (out e ≡ true) = has_out y l in
      let li : i.0 < n = orbit_in i.0 i.1 in
      let io : SameOrbit phi i.0 o.0 = orbit-trans phi i.0 y o.0 (orbit-sym n phi perm y i.0 l i.1) o.1 in
      let c : (c : ℕ) × SameOrbit phi i.0 c × (out c ≡ false) × (out (phi c) ≡ true) = change_between n phi perm out false i.0 o.0 io i.2 o.2 in
      let yc : SameOrbit phi y c.0 = orbit-trans phi y i.0 c.0 i.1 c.1 in (
        c.0,
        orbit_in c.0 yc,
        and_from (not (out c.0)) (out (phi c.0)) (ap not c.2) c.3,
        sym (root-same n phi perm y c.0 l yc) ∙ eqb-true (least_within n phi y) y e,
      )
    where
      orbit_in : (z : ℕ) → SameOrbit phi y z → z < n
      orbit_in z s = orbit-stays n phi perm y z l s

  has_turn_down : (y : ℕ) → y < n → is_root y ≡ true → (x : ℕ) × (x < n) × (turns_down phi out x ≡ true) × (root x ≡ y)
  unfolding root is_root
  has_turn_down y l e =
      let i : (e : ℕ) × SameOrbit phi y e × (out e ≡ true) = has_out y l in
      let o : (e : ℕ) × SameOrbit phi y e × (out e ≡ false) = has_in y l in
      let io : SameOrbit phi i.0 o.0 = orbit-trans phi i.0 y o.0 (orbit-sym n phi perm y i.0 l i.1) o.1 in
      let c : (c : ℕ) × SameOrbit phi i.0 c × (out c ≡ true) × (out (phi c) ≡ false) = change_between n phi perm out true i.0 o.0 io i.2 o.2 in
      let yc : SameOrbit phi y c.0 = orbit-trans phi y i.0 c.0 i.1 c.1 in (
        c.0,
        orbit-stays n phi perm y c.0 l yc,
        and_from (out c.0) (not (out (phi c.0))) c.2 (ap not c.3),
        sym (root-same n phi perm y c.0 l yc) ∙ eqb-true (least_within n phi y) y e,
      )

  -- the four lower bounds
  up_bound : count_below n is_root ≤ count_below n (turns_up phi out)
  up_bound = cover n n (turns_up phi out) root is_root root_lt has_turn_up

  down_bound : count_below n is_root ≤ count_below n (turns_down phi out)
  down_bound = cover n n (turns_down phi out) root is_root root_lt has_turn_down

  go_up_bound : count_below m (is_inner s t) ≤ count_below n (goes_up phi out)
  unfolding place
  go_up_bound = cover m n (goes_up phi out) place (is_inner s t) place_below has_up

  go_down_bound : count_below m (is_inner s t) ≤ count_below n (goes_down phi out)
  unfolding place
  go_down_bound = cover m n (goes_down phi out) place (is_inner s t) place_below has_down

  euler_roots : 2 * m + 2 * count_below n is_root ≡ n + 4
  unfolding is_root
  euler_roots = euler

  -- each orbit has exactly one turn up
  pub one_turn_up : (c d : ℕ) → c < n → d < n → turns_up phi out c ≡ true → turns_up phi out d ≡ true → SameOrbit phi c d → c ≡ d
  unfolding root is_root
  one_turn_up c d lc ld tc td so =
      let e : bit (is_root (root c)) ≡ count_below n (fibre (turns_up phi out) root (root c)) =
      cover-exact n n (turns_up phi out) root is_root root_lt has_turn_up
      (omega (arith, down_bound, go_up_bound, go_down_bound, inner_many m s t s_in t_in, all_corners n phi out, euler_roots)) (root c) (root_lt c lc) in
      let one : bit (is_root (root c)) ≡ 1 = ap bit (eq-eqb (root (root c)) (root c) (root-root n phi perm c lc)) in
      same_counted n (fibre (turns_up phi out) root (root c)) (omega arith) c d lc ld
      (and_from (turns_up phi out c) (eqb (root c) (root c)) tc (eq-eqb (root c) (root c) refl))
      (and_from (turns_up phi out d) (eqb (root d) (root c)) td (eq-eqb (root d) (root c) (sym (root-same n phi perm c d lc so))))

  -- and exactly one turn down
  pub one_turn_down : (c d : ℕ) → c < n → d < n → turns_down phi out c ≡ true → turns_down phi out d ≡ true → SameOrbit phi c d → c ≡ d
  unfolding root is_root
  one_turn_down c d lc ld tc td so =
      let e : bit (is_root (root c)) ≡ count_below n (fibre (turns_down phi out) root (root c)) =
      cover-exact n n (turns_down phi out) root is_root root_lt has_turn_down
      (omega (arith, up_bound, go_up_bound, go_down_bound, inner_many m s t s_in t_in, all_corners n phi out, euler_roots)) (root c) (root_lt c lc) in
      let one : bit (is_root (root c)) ≡ 1 = ap bit (eq-eqb (root (root c)) (root c) (root-root n phi perm c lc)) in
      same_counted n (fibre (turns_down phi out) root (root c)) (omega arith) c d lc ld
      (and_from (turns_down phi out c) (eqb (root c) (root c)) tc (eq-eqb (root c) (root c) refl))
      (and_from (turns_down phi out d) (eqb (root d) (root c)) td (eq-eqb (root d) (root c) (sym (root-same n phi perm c d lc so))))

  -- each inner vertex has exactly one corner of each other kind
  pub one_goes_up : (c d : ℕ) → c < n → d < n → goes_up phi out c ≡ true → goes_up phi out d ≡ true → vertex (phi c) ≡ vertex (phi d) → c ≡ d
  unfolding place
  one_goes_up c d lc ld tc td same =
      let e : bit (is_inner s t (place c)) ≡ count_below n (fibre (goes_up phi out) place (place c)) =
      cover-exact m n (goes_up phi out) place (is_inner s t) place_below has_up
      (omega (arith, up_bound, down_bound, go_down_bound, inner_many m s t s_in t_in, all_corners n phi out, euler_roots)) (place c) (place_below c lc) in
      same_counted n (fibre (goes_up phi out) place (place c)) (omega (arith, bit_le (is_inner s t (place c)))) c d lc ld
      (and_from (goes_up phi out c) (eqb (place c) (place c)) tc (eq-eqb (place c) (place c) refl))
      (and_from (goes_up phi out d) (eqb (place d) (place c)) td (eq-eqb (place d) (place c) (sym same)))

  pub one_goes_down : (c d : ℕ) → c < n → d < n → goes_down phi out c ≡ true → goes_down phi out d ≡ true → vertex (phi c) ≡ vertex (phi d) → c ≡ d
  unfolding place
  one_goes_down c d lc ld tc td same =
      let e : bit (is_inner s t (place c)) ≡ count_below n (fibre (goes_down phi out) place (place c)) =
      cover-exact m n (goes_down phi out) place (is_inner s t) place_below has_down
      (omega (arith, up_bound, down_bound, go_up_bound, inner_many m s t s_in t_in, all_corners n phi out, euler_roots)) (place c) (place_below c lc) in
      same_counted n (fibre (goes_down phi out) place (place c)) (omega (arith, bit_le (is_inner s t (place c)))) c d lc ld
      (and_from (goes_down phi out c) (eqb (place c) (place c)) tc (eq-eqb (place c) (place c) refl))
      (and_from (goes_down phi out d) (eqb (place d) (place c)) td (eq-eqb (place d) (place c) (sym same)))

  -- and s and t have none
  pub goes_up_inner : (c : ℕ) → c < n → goes_up phi out c ≡ true → is_inner s t (vertex (phi c)) ≡ true
  unfolding place
  goes_up_inner c lc tc =
      let e : bit (is_inner s t (place c)) ≡ count_below n (fibre (goes_up phi out) place (place c)) =
      cover-exact m n (goes_up phi out) place (is_inner s t) place_below has_up
      (omega (arith, up_bound, down_bound, go_down_bound, inner_many m s t s_in t_in, all_corners n phi out, euler_roots)) (place c) (place_below c lc) in
      bit_positive (is_inner s t (place c)) (omega (
        arith,
        some_counted n (fibre (goes_up phi out) place (place c)) c lc (and_from (goes_up phi out c) (eqb (place c) (place c)) tc (eq-eqb (place c) (place c) refl)),
      ))

  pub goes_down_inner : (c : ℕ) → c < n → goes_down phi out c ≡ true → is_inner s t (vertex (phi c)) ≡ true
  unfolding place
  goes_down_inner c lc tc =
      let e : bit (is_inner s t (place c)) ≡ count_below n (fibre (goes_down phi out) place (place c)) =
      cover-exact m n (goes_down phi out) place (is_inner s t) place_below has_down
      (omega (arith, up_bound, down_bound, go_up_bound, inner_many m s t s_in t_in, all_corners n phi out, euler_roots)) (place c) (place_below c lc) in
      bit_positive (is_inner s t (place c)) (omega (
        arith,
        some_counted n (fibre (goes_down phi out) place (place c)) c lc (and_from (goes_down phi out c) (eqb (place c) (place c)) tc (eq-eqb (place c) (place c) refl)),
      ))

  -- s and t differ
  pub poles_differ : s ≡ t → ⊥
  poles_differ e =
      let b : m ≤ count_below m (is_inner s t) + 1 = inner_more m s t s_in e in
      omega (arith, up_bound, down_bound, go_up_bound, go_down_bound, all_corners n phi out, euler_roots)
