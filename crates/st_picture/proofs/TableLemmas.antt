-- Tables of numbers that code reads.
--   number_is, number_before   a natural number that a table has, and the one before it
--   HasAt, has_at              a table has a natural number at a place
--   Has, number_of, naturals   a table has these natural numbers
--   left_at, right_at          the table of columns has the nodes beside a vertex
use Rattle.std.proofs.Common.{ℕ, ◌≡◌, ◌<◌, ◌≤◌, ◌+◌, ◌-◌, List, length, slice_get, slice_index_or, Some, ℤ, pos, ◌-ℤ◌, ◌≤ℤ◌, nat_abs, refl, sym, subst, arith, ap, ◌∙◌}
use Rattle.std.proofs.lemmas.Int.{ints}
use Rattle.std.proofs.lemmas.Option.{get_or_from_slice_get}
use Rattle.st_shape.specs.declared.item.Item.TheVariants.{Bar, Line}
use Rattle.st_shape.specs.declared.point.Point.{Point}
use Rattle.st_sides.specs.Objects.{vertex}
use Rattle.st_sides.specs.Sides.{SidesValue, left_of, right_of, IsSides}
use Rattle.st_sides.proofs.Public.{left_below}
use Rattle.st_picture.specs.Bars.{HasNaturals, number_at}
use Rattle.st_picture.specs.Growing.{GrowsRight}
use Rattle.st_picture.proofs.SpanLemmas.{right_in, wide}

natural_is : (z : ℤ) → pos 0 ≤ℤ z → z ≡ pos (nat_abs z)
natural_is z h = omega (arith, ints)

before_is : (z : ℤ) → pos 0 ≤ℤ z → 1 ≤ nat_abs z → z -ℤ pos 1 ≡ pos (nat_abs z - 1)
before_is z h k = omega (arith, ints)

pub number_is : (table : List ℤ) (i : ℕ) → pos 0 ≤ℤ slice_index_or table i (pos 0) → slice_index_or table i (pos 0) ≡ pos (number_at table i)
unfolding number_at
number_is table i h = natural_is (slice_index_or table i (pos 0)) h

pub number_before : (table : List ℤ) (i : ℕ) → pos 0 ≤ℤ slice_index_or table i (pos 0) → 1 ≤ number_at table i → slice_index_or table i (pos 0) -ℤ pos 1 ≡ pos (number_at table i - 1)
unfolding number_at
number_before table i h k = before_is (slice_index_or table i (pos 0)) h k

-- the table has a natural number at i
pub record HasAt (table : List ℤ) (i : ℕ) : Type 0 where
  pub there : i < length table
  pub natural : pos 0 ≤ℤ slice_index_or table i (pos 0)

pub has_at : (table : List ℤ) (n i : ℕ) → HasNaturals table n → i < n → HasAt table i
has_at table n i h l = (let m : n ≤ length table = h.size in record { there = omega arith; natural = h.natural i l })

-- the table has these natural numbers, and no others
pub record Has (table : List ℤ) (n : ℕ) (h : ℕ → ℕ) : Type 0 where
  pub size : length table ≡ n
  pub at : (i : ℕ) → i < n → slice_get table i ≡ Some (pos (h i))

abs_is : (k : ℕ) → nat_abs (pos k) ≡ k
abs_is k = refl

natural : (z : ℤ) (k : ℕ) → z ≡ pos k → pos 0 ≤ℤ z
natural z k q = omega (arith, ints)

pub number_of : (table : List ℤ) (n : ℕ) (h : ℕ → ℕ) → Has table n h → (i : ℕ) → i < n → number_at table i ≡ h i
unfolding number_at
number_of table n h H i l = ap nat_abs (get_or_from_slice_get table i (pos (h i)) (pos 0) (H.at i l)) ∙ abs_is (h i)

pub naturals : (table : List ℤ) (n : ℕ) (h : ℕ → ℕ) → Has table n h → HasNaturals table n
naturals table n h H = record {
  size = (let q : length table ≡ n = H.size in omega arith);
  natural = λ i l. natural (slice_index_or table i (pos 0)) (h i) (get_or_from_slice_get table i (pos (h i)) (pos 0) (H.at i l));
}

pub bar_is : {n m y j a b r s : ℤ} → n ≡ m → y ≡ j → a ≡ b → r ≡ s → Bar n y a r ≡ Bar m j b s
bar_is {n} {m} {y} {j} {a} {b} {r} {s} p q t u = ap (λ z. Bar z y a r) p ∙ ap (λ z. Bar m z a r) q ∙ ap (λ z. Bar m j z r) t ∙ ap (λ z. Bar m j b z) u

pub line_is : {n m t u h k : ℤ} {ps qs : List Point} → n ≡ m → t ≡ u → h ≡ k → ps ≡ qs → Line n t h ps ≡ Line m u k qs
line_is {n} {m} {t} {u} {h} {k} {ps} {qs} p q r s = ap (λ z. Line z t h ps) p ∙ ap (λ z. Line m z h ps) q ∙ ap (λ z. Line m u z ps) r ∙ ap (λ z. Line m u k z) s

module _ (g : SidesValue) (S : IsSides g) (columns : List ℤ) (C : HasNaturals columns (g.t_star + 1)) (R : GrowsRight g (number_at columns)) where
  pub left_there : (v : ℕ) → v < g.vertices → left_of g v < g.t_star + 1
  left_there v i = let l : left_of g v < g.t_star = left_below g S (vertex v) i in omega arith

  pub right_there : (v : ℕ) → v < g.vertices → right_of g v < g.t_star + 1
  right_there v i = let l : right_of g v ≤ g.t_star = right_in g S v i in omega arith

  pub left_at : (v i : ℕ) → v < g.vertices → i ≡ left_of g v → HasAt columns i
  left_at v i l q = subst (HasAt columns) (sym q) (has_at columns (g.t_star + 1) (left_of g v) C (left_there v l))

  pub right_at : (v i : ℕ) → v < g.vertices → i ≡ right_of g v → HasAt columns i
  right_at v i l q = subst (HasAt columns) (sym q) (has_at columns (g.t_star + 1) (right_of g v) C (right_there v l))

  pub right_positive : (v : ℕ) → v < g.vertices → 1 ≤ number_at columns (right_of g v)
  right_positive v i = let w : number_at columns (left_of g v) < number_at columns (right_of g v) = wide g S (number_at columns) R (vertex v) i in omega arith

  -- the frame has a column
  pub last_positive : (f : ℕ) → f + 1 ≡ g.t_star + 1 → 1 ≤ number_at columns f
  last_positive f q =
      let p : f ≡ g.t_star = omega arith in
      subst (λ z. 1 ≤ number_at columns z) (S.right_source ∙ sym p) (right_positive g.source S.source_in)

  pub last_at : (f : ℕ) → f + 1 ≡ g.t_star + 1 → HasAt columns f
  last_at f q = has_at columns (g.t_star + 1) f C (omega arith)
