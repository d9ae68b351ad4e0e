-- What stands in tables of heights, columns and places.
--   has_columns, columns_are, rightward   the columns of the nodes are natural numbers that grow
--   Ends, ends_of    the columns of the left and the right of a vertex
--   are_ends         they are ends between which a closure may place the vertex
--   is_place         what it answers is a place
--   last_fits        the last column of a bar is an i64
--   one_more         a table with a place more
--   Placed, places_have, places_natural   the numbers in a table of places
use Rattle.std.proofs.Common.{ℕ, zero, suc, List, [], ◌∷◌, ◌++◌, ◌≡◌, ◌<◌, ◌≤◌, ◌+◌, ◌-◌, inl, inr, refl, w64, FitsSigned, ℤ, pos, ◌-ℤ◌, ◌≤ℤ◌, nat_abs, arith, sym, ap, ◌∙◌, subst, length, slice_get, slice_index_or, Some}
use Rattle.std.proofs.lemmas.Bool.{cases_lt}
use Rattle.std.proofs.lemmas.Int.{ints}
use Rattle.std.proofs.lemmas.List.{length-append}
use Rattle.std.proofs.lemmas.Option.{get_or_from_slice_get}
use Rattle.st_ids.specs.declared.limits.TheConstants.{MOST_COORDINATE}
use Rattle.st_sides.specs.Objects.{vertex}
use Rattle.st_sides.specs.Sides.{SidesValue, edge_count, left_of, right_of, IsSides}
use Rattle.st_sides.proofs.Public.{left_below}
use Rattle.st_number.specs.Greatest.{IsColumn}
use Rattle.st_number.specs.Heights.{AreColumns}
use Rattle.st_number.proofs.Public.{numbers_law}
use Rattle.st_picture.specs.Bars.{number_at, HasNaturals}
use Rattle.st_picture.specs.Growing.{GrowsRight}
use Rattle.st_picture.proofs.Public.{right_in, wide, Has, number_of}
use Rattle.draw_poly.specs.Placing.{AreEnds}
use Rattle.draw_poly.specs.Tables.{IsPlace, ArePlaces}

abs_is : (k : ℕ) → nat_abs (pos k) ≡ k
abs_is k = refl

natural : (z : ℤ) (k : ℕ) → z ≡ pos k → pos 0 ≤ℤ z
natural z k q = omega (arith, ints)

number_there : (table : List ℤ) (i : ℕ) (z : ℤ) (k : ℕ) → slice_get table i ≡ Some z → z ≡ pos k → number_at table i ≡ k
unfolding number_at
number_there table i z k q r = ap nat_abs (get_or_from_slice_get table i z (pos 0) q ∙ r) ∙ abs_is k

-- ---- columns
pub record Ends (g : SidesValue) (c : ℕ → ℕ) (v : ℕ) (lo hi : ℤ) : Type 0 where
  pub lo_is : lo ≡ pos (c (left_of g v))
  pub hi_is : hi ≡ pos (c (right_of g v))
  pub wide : c (left_of g v) < c (right_of g v)
  pub few : c (right_of g v) ≤ MOST_COORDINATE

module _ (g : SidesValue) (S : IsSides g) (cs : List ℤ) (C : AreColumns g cs) where
  pub has_columns : Has cs (g.t_star + 1) C.column
  has_columns = record { size = C.size; at = λ f l. C.at f (omega arith) }

  pub columns_are : (f : ℕ) → f ≤ g.t_star → IsColumn g f (number_at cs f)
  columns_are f l = subst (IsColumn g f) (sym (number_of cs (g.t_star + 1) C.column has_columns f (omega arith))) (C.greatest f l)

  pub rightward : GrowsRight g (number_at cs)
  rightward = (numbers_law g S).columns_grow (number_at cs) columns_are

  pub left_there : (v f : ℕ) → v < g.vertices → f ≡ left_of g v → f < length cs
  left_there v f i q =
      let l : left_of g v < g.t_star = left_below g S (vertex v) i in
      let n : length cs ≡ g.t_star + 1 = C.size in
      omega arith

  pub right_there : (v f : ℕ) → v < g.vertices → f ≡ right_of g v → f < length cs
  right_there v f i q =
      let l : right_of g v ≤ g.t_star = right_in g S v i in
      let n : length cs ≡ g.t_star + 1 = C.size in
      omega arith

  some_same : (x y : ℤ) → Some x ≡ Some y → x ≡ y
  some_same x y q = cc q

  column_is : (f h : ℕ) (z : ℤ) → f ≤ g.t_star → h ≡ f → slice_get cs h ≡ Some z → z ≡ pos (number_at cs f)
  column_is f h z l q r = some_same z (pos (number_at cs f)) (sym r ∙ ap (slice_get cs) q ∙ C.at f l ∙ ap (λ k. Some (pos k)) (sym (number_of cs (g.t_star + 1) C.column has_columns f (omega arith))))

  pub ends_of : edge_count g ≤ MOST_COORDINATE → (v f h : ℕ) (lo hi : ℤ) → v < g.vertices → f ≡ left_of g v → h ≡ right_of g v → slice_get cs f ≡ Some lo → slice_get cs h ≡ Some hi → Ends g (number_at cs) v lo hi
  ends_of few v f h lo hi i p q r s =
      let l : left_of g v < g.t_star = left_below g S (vertex v) i in
      let m : right_of g v ≤ g.t_star = right_in g S v i in
      let n : number_at cs (right_of g v) ≡ C.column (right_of g v) = number_of cs (g.t_star + 1) C.column has_columns (right_of g v) (omega arith) in
      let o : C.column (right_of g v) ≤ edge_count g = C.few (right_of g v) m in
      record {
        lo_is = column_is (left_of g v) f lo (omega arith) p r;
        hi_is = column_is (right_of g v) h hi m q s;
        wide = wide g S (number_at cs) rightward (vertex v) i;
        few = omega arith;
      }

-- ---- places
before_is : (z : ℤ) (k l : ℕ) → l < k → z ≡ pos k → z -ℤ pos 1 ≡ pos (k - 1)
before_is z k l m q = omega (arith, ints)

pub last_is : (g : SidesValue) (c : ℕ → ℕ) (v : ℕ) (lo hi : ℤ) → Ends g c v lo hi → hi -ℤ pos 1 ≡ pos (c (right_of g v) - 1)
last_is g c v lo hi E = before_is hi (c (right_of g v)) (c (left_of g v)) E.wide E.hi_is

between : (a b : ℕ) → a < b → b ≤ MOST_COORDINATE → AreEnds (pos a) (pos (b - 1))
between a b h k = record { from_zero = omega (arith, ints); in_order = omega (arith, ints); to_greatest = omega (arith, ints) }

pub are_ends : (g : SidesValue) (c : ℕ → ℕ) (v : ℕ) (lo hi : ℤ) → Ends g c v lo hi → AreEnds lo (hi -ℤ pos 1)
are_ends g c v lo hi E =
    subst (λ z. AreEnds z (hi -ℤ pos 1)) (sym E.lo_is)
    (subst (AreEnds (pos (c (left_of g v)))) (sym (last_is g c v lo hi E)) (between (c (left_of g v)) (c (right_of g v)) E.wide E.few))

from_pos : (a : ℕ) (x : ℤ) → pos a ≤ℤ x → a ≤ nat_abs x
from_pos a x h = omega (arith, ints)

to_pos : (a b : ℕ) (x : ℤ) → pos a ≤ℤ x → x ≤ℤ pos b → nat_abs x ≤ b
to_pos a b x h k = omega (arith, ints)

at_pos : (a : ℕ) (x : ℤ) → pos a ≤ℤ x → x ≡ pos (nat_abs x)
at_pos a x h = omega (arith, ints)

pub is_place : (place : ℤ → ℤ → ℤ → Type 0) (g : SidesValue) (c : ℕ → ℕ) (v : ℕ) (lo hi x : ℤ) → Ends g c v lo hi → place lo (hi -ℤ pos 1) x → lo ≤ℤ x → x ≤ℤ (hi -ℤ pos 1) → IsPlace place g c v x
is_place place g c v lo hi x E a l m =
    let b = last_is g c v lo hi E in
    let l' : pos (c (left_of g v)) ≤ℤ x = subst (λ z. z ≤ℤ x) E.lo_is l in
    let m' : x ≤ℤ pos (c (right_of g v) - 1) = subst (λ z. x ≤ℤ z) b m in
    let q = at_pos (c (left_of g v)) x l' in
    record {
      column = nat_abs x;
      is = q;
      from = from_pos (c (left_of g v)) x l';
      to = to_pos (c (left_of g v)) (c (right_of g v) - 1) x l' m';
      answer = subst (place (pos (c (left_of g v))) (pos (c (right_of g v) - 1))) q (subst (λ z. place (pos (c (left_of g v))) z x) b (subst (λ z. place z (hi -ℤ pos 1) x) E.lo_is a));
    }

few_fit : (n : ℕ) → n ≤ MOST_COORDINATE → FitsSigned w64 (pos n)
few_fit n l = record { sfits = omega arith }

pub last_fits : (g : SidesValue) (c : ℕ → ℕ) (v : ℕ) (lo hi : ℤ) → Ends g c v lo hi → FitsSigned w64 (hi -ℤ pos 1)
last_fits g c v lo hi E = subst (FitsSigned w64) (sym (last_is g c v lo hi E)) (few_fit (c (right_of g v) - 1) (let l = E.few in omega arith))

-- ---- a table of places, one more
read_left : (xs ys : List ℤ) (v : ℕ) → v < length xs → slice_get (xs ++ ys) v ≡ slice_get xs v
read_left [] ys v l = absurd (omega arith)
read_left (x ∷ xs) ys zero l = refl
read_left (x ∷ xs) ys (suc v) l = read_left xs ys v (omega arith)

read_last : (xs : List ℤ) (x : ℤ) → slice_get (xs ++ x ∷ []) (length xs) ≡ Some x
read_last [] x = refl
read_last (y ∷ xs) x = read_last xs x

module _ (place : ℤ → ℤ → ℤ → Type 0) (g : SidesValue) (c : ℕ → ℕ) where
  pub one_more : (n m : ℕ) (places places' : List ℤ) (x z : ℤ) → m ≡ n + 1 → ArePlaces place g c n places → IsPlace place g c n x → places' ≡ places ++ z ∷ [] → z ≡ x → ArePlaces place g c m places'
  one_more n m places places' x z s A P q' w = let q : places' ≡ places ++ x ∷ [] = q' ∙ ap (λ t. places ++ t ∷ []) w in record {
    size = (let k : length places ≡ n = A.size in let l = length-append places (x ∷ []) in let r : length places' ≡ length (places ++ x ∷ []) = ap length q in omega arith);
    each = λ v l. elim (cases_lt v n) [
      | inl h ↦ (let B = A.each v h in record { x = B.x; at = ap (λ z. slice_get z v) q ∙ read_left places (x ∷ []) v (let k : length places ≡ n = A.size in omega arith) ∙ B.at; is = B.is })
      | inr h ↦
          let e : v ≡ n = omega arith in
          let k : v ≡ length places = e ∙ sym A.size in
          record { x = x; at = ap (λ z. slice_get z v) q ∙ ap (slice_get (places ++ x ∷ [])) k ∙ read_last places x; is = subst (λ z. IsPlace place g c z x) (sym e) P }
    ];
  }

  pub record Placed (places : List ℤ) (v : ℕ) : Type 0 where
    pub from : c (left_of g v) ≤ number_at places v
    pub to : number_at places v ≤ c (right_of g v) - 1
    pub answer : place (pos (c (left_of g v))) (pos (c (right_of g v) - 1)) (pos (number_at places v))

  pub places_have : (n : ℕ) (places : List ℤ) → ArePlaces place g c n places → (v : ℕ) → v < n → Placed places v
  places_have n places A v l =
      let B = A.each v l in
      let q : number_at places v ≡ B.is.column = number_there places v B.x B.is.column B.at B.is.is in
      let f : c (left_of g v) ≤ B.is.column = B.is.from in
      let t : B.is.column ≤ c (right_of g v) - 1 = B.is.to in
      record { from = omega arith; to = omega arith; answer = subst (λ z. place (pos (c (left_of g v))) (pos (c (right_of g v) - 1)) (pos z)) (sym q) B.is.answer }

  pub places_natural : (n : ℕ) (places : List ℤ) → ArePlaces place g c n places → HasNaturals places n
  places_natural n places A = record {
    size = (let k : length places ≡ n = A.size in omega arith);
    natural = λ v l. (let B = A.each v l in natural (slice_index_or places v (pos 0)) B.is.column (get_or_from_slice_get places v B.x (pos 0) B.at ∙ B.is.is));
  }
