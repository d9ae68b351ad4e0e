-- Vertices without an edge in or out.
use Rattle.std.proofs.Common.{◌≡◌, ℕ, ◌-◌, ◌<◌, ◌≤◌, inl, inr, true, List, length, get_or, sym, ap, ◌∙◌, arith}
use Rattle.std.proofs.lemmas.Bool.{cases_eq, eq-eqb, eqb-true}
use Rattle.std.proofs.lemmas.List.{get_or_default}
use Rattle.st_ids.specs.Graph.{tail_of, head_of, AreWithin}
use Rattle.st_map.specs.Counting.{count_below}
use Rattle.st_map.proofs.Public.{none_counted, counted_place}
use Rattle.st_map.specs.Tables.{enters, leaves}
use Rattle.st_test.specs.Poles.{IsOnlySource, IsOnlySink, NoneIn, NoneOut, graph_of}
use Rattle.st_test.specs.Stripping.{IsStripped, AreInDegrees, AreOutDegrees}
use Rattle.st_test.specs.StripState.{AreZeros}
use Rattle.st_test.proofs.StripSteps.{short}
use Rattle.st_test.specs.BackTables.{AllListed}
use Rattle.st_test.specs.PolesAnswer.{AreInOrder, AreFirstTwo}

zero_or : (k : ℕ) → (1 ≤ k → ⊥) → k ≡ 0
zero_or k h = elim (cases_eq k 0) [ inl e ↦ e | inr n ↦ absurd (h (omega arith)) ]

pub are_sources : (n : ℕ) (ends : List (ℕ × ℕ)) (degree vs : List ℕ) → AreInDegrees n ends degree → AreZeros n degree vs → AreInOrder n (NoneIn (graph_of n ends)) vs
are_sources n ends degree vs d z = record {
  only = λ k l. ((z.only k l).0, λ e le q. none_counted (length ends) (enters ends (get_or vs k 0)) (sym (d.each (get_or vs k 0) (z.only k l).0) ∙ (z.only k l).1) e le (eq-eqb (head_of ends e) (get_or vs k 0) q));
  each = λ v l none. z.each v l (d.each v l ∙ zero_or (count_below (length ends) (enters ends v)) (λ some.
      let p : (e : ℕ) × (e < length ends) × (enters ends v e ≡ true) = counted_place (length ends) (enters ends v) some in
      none p.0 p.1 (eqb-true (head_of ends p.0) v p.2)));
  ordered = z.ordered;
}

pub are_sinks : (n : ℕ) (ends : List (ℕ × ℕ)) (degree vs : List ℕ) → AreOutDegrees n ends degree → AreZeros n degree vs → AreInOrder n (NoneOut (graph_of n ends)) vs
are_sinks n ends degree vs d z = record {
  only = λ k l. ((z.only k l).0, λ e le q. none_counted (length ends) (leaves ends (get_or vs k 0)) (sym (d.each (get_or vs k 0) (z.only k l).0) ∙ (z.only k l).1) e le (eq-eqb (tail_of ends e) (get_or vs k 0) q));
  each = λ v l none. z.each v l (d.each v l ∙ zero_or (count_below (length ends) (leaves ends v)) (λ some.
      let p : (e : ℕ) × (e < length ends) × (leaves ends v e ≡ true) = counted_place (length ends) (leaves ends v) some in
      none p.0 p.1 (eqb-true (tail_of ends p.0) v p.2)));
  ordered = z.ordered;
}

pub those-short : (n : ℕ) (P : ℕ → Type 0) (vs : List ℕ) → AreInOrder n P vs → length vs ≤ n
those-short n P vs h = short n vs (λ k l. (h.only k l).0) (λ i k l m q. omega (arith, h.ordered i k l m))

module _ (n : ℕ) (ends : List (ℕ × ℕ)) (order es : List ℕ) (within : AreWithin n ends) (st : IsStripped n ends order es) (all : AllListed n order) (two : 2 ≤ n) where
  pub some_source : (vs : List ℕ) → AreInOrder n (NoneIn (graph_of n ends)) vs → 1 ≤ length vs
  some_source vs h =
      let p : (k : ℕ) × (k < length order) × (get_or order k 0 ≡ 0) = all 0 (omega arith) in
      let l : 0 < length order = omega (arith, p.1) in
      let r : (k : ℕ) × (k < length vs) × (get_or vs k 0 ≡ get_or order 0 0) = h.each (get_or order 0 0) (st.vertices 0 l) (λ e le q.
      let b : (i : ℕ) × (i < 0) × (get_or order i 0 ≡ tail_of ends e) = st.before 0 e l le q in
      omega (arith, b.1)) in
      omega (arith, r.1)

  pub some_sink : (vs : List ℕ) → AreInOrder n (NoneOut (graph_of n ends)) vs → 1 ≤ length vs
  some_sink vs h =
      let p : (k : ℕ) × (k < length order) × (get_or order k 0 ≡ 0) = all 0 (omega arith) in
      let l : length order - 1 < length order = omega (arith, p.1) in
      let r : (k : ℕ) × (k < length vs) × (get_or vs k 0 ≡ get_or order (length order - 1) 0) = h.each (get_or order (length order - 1) 0) (st.vertices (length order - 1) l) (λ e le q.
      let at : (k : ℕ) × (k < length order) × (get_or order k 0 ≡ head_of ends e) = all (head_of ends e) (within e le).1 in
      let b : (i : ℕ) × (i < at.0) × (get_or order i 0 ≡ tail_of ends e) = st.before at.0 e at.1 le (sym at.2) in
      st.apart b.0 (length order - 1) (omega (arith, b.1, at.1)) l (b.2 ∙ q)) in
      omega (arith, r.1)

pub only_source : (n : ℕ) (ends : List (ℕ × ℕ)) (vs : List ℕ) → AreInOrder n (NoneIn (graph_of n ends)) vs → 1 ≤ length vs → length vs ≤ 1 → IsOnlySource (graph_of n ends) (get_or vs 0 0)
only_source n ends vs h some one = record {
  there = (h.only 0 (omega arith)).0;
  none_in = (h.only 0 (omega arith)).1;
  only = λ v l none.
      let r : (k : ℕ) × (k < length vs) × (get_or vs k 0 ≡ v) = h.each v l none in
      sym r.2 ∙ ap (λ k. get_or vs k 0) (let q : r.0 ≡ 0 = omega (arith, r.1) in q);
}

pub only_sink : (n : ℕ) (ends : List (ℕ × ℕ)) (vs : List ℕ) → AreInOrder n (NoneOut (graph_of n ends)) vs → 1 ≤ length vs → length vs ≤ 1 → IsOnlySink (graph_of n ends) (get_or vs 0 0)
only_sink n ends vs h some one = record {
  there = (h.only 0 (omega arith)).0;
  none_out = (h.only 0 (omega arith)).1;
  only = λ v l none.
      let r : (k : ℕ) × (k < length vs) × (get_or vs k 0 ≡ v) = h.each v l none in
      sym r.2 ∙ ap (λ k. get_or vs k 0) (let q : r.0 ≡ 0 = omega (arith, r.1) in q);
}

pub first_two : (n : ℕ) (P : ℕ → Type 0) (vs : List ℕ) (a b count : ℕ) → AreInOrder n P vs → length vs ≡ count → 1 < count → a ≡ get_or vs 0 a → b ≡ get_or vs 1 b → AreFirstTwo n P a b count
first_two n P vs a b count h len two qa qb = record {
  all = vs;
  are = h;
  many = len;
  two = two;
  is_first = sym (qa ∙ get_or_default vs 0 a 0 (omega arith));
  is_second = sym (qb ∙ get_or_default vs 1 b 0 (omega arith));
}
