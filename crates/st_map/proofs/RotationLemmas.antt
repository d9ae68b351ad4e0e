-- The clockwise next permutes the ends, and goes through all ends of a vertex; so phi permutes the ends.
use Rattle.std.proofs.Common.{◌≡◌, ◌≢◌, ℕ, zero, suc, ◌+◌, ◌-◌, ◌<◌, eqb, ◌⊎◌, List, [], ◌∷◌, length, get_or, refl, sym, ap, ◌∙◌, subst, inl, inr, arith}
use Rattle.std.proofs.lemmas.Bool.{eq-eqb, ne_eqb, cases_lt, cases_order, cond-true, cond-false}
use Rattle.std.proofs.lemmas.List.{get_or_past, get_or_default}
use Rattle.st_map.specs.Orbits.{iterate, Permutes, SameOrbit}
use Rattle.st_ids.specs.Ends.{twin}
use Rattle.st_map.specs.Embedded.{Embedded, HasOrders, edges, darts, order, at, after, next, phi}
use Rattle.st_map.proofs.OrbitLemmas.{orbit-trans, iterate-stays}
use Rattle.st_map.proofs.EndLemmas.{twin-below, twin-apart}

-- at the first place of d, the entry after it is the one at the next place
pub after-at : (first : ℕ) (l : List ℕ) (i d : ℕ) → i < length l → get_or l i 0 ≡ d → ((j : ℕ) → j < i → get_or l j 0 ≢ d)
    → after first l d ≡ get_or l (suc i) first
after-at first [] i d l e n = absurd (omega arith)
after-at first (x ∷ xs) zero d l e n = cond-true (eqb x d) (get_or xs 0 first) (after first xs d) (eq-eqb x d e)
after-at first (x ∷ xs) (suc i) d l e n =
    cond-false (eqb x d) (get_or xs 0 first) (after first xs d) (ne_eqb x d (n 0 (omega arith)))
    ∙ after-at first xs i d (omega arith) e (λ j lj. n (suc j) (omega arith))

-- the place of a dart in the list of v, and the place of its next
record Step (g : Embedded) (v d : ℕ) : Type 0 where
  i : ℕ
  j : ℕ
  i_in : i < length (order g v)
  j_in : j < length (order g v)
  here : get_or (order g v) i 0 ≡ d
  there : get_or (order g v) j 0 ≡ next g d
  how : ((suc i < length (order g v)) × (j ≡ suc i)) ⊎ ((suc i ≡ length (order g v)) × (j ≡ 0))

same_place : (n i j i' j' : ℕ) → ((suc i < n) × (j ≡ suc i)) ⊎ ((suc i ≡ n) × (j ≡ 0))
    → ((suc i' < n) × (j' ≡ suc i')) ⊎ ((suc i' ≡ n) × (j' ≡ 0)) → j ≡ j' → i ≡ i'
same_place n i j i' j' (inl p) (inl q) e = omega arith
same_place n i j i' j' (inl p) (inr q) e = absurd (omega arith)
same_place n i j i' j' (inr p) (inl q) e = absurd (omega arith)
same_place n i j i' j' (inr p) (inr q) e = omega arith

module _ (g : Embedded) (orders : HasOrders g) (at_below : (d : ℕ) → d < darts g → at g d < g.vertices) where
  -- one place for each dart
  pub one_place : (v i j : ℕ) → v < g.vertices → i < length (order g v) → j < length (order g v)
      → get_or (order g v) i 0 ≡ get_or (order g v) j 0 → i ≡ j
  one_place v i j lv li lj e = elim (cases_order i j) [
    | inl q ↦ q
    | inr o ↦ elim o [
      | inl a ↦ absurd (orders.once v i j lv a lj e)
      | inr a ↦ absurd (orders.once v j i lv a li (sym e))
    ]
  ]

  -- next at a place of the list, and at its last place
  pub next-at : (v i : ℕ) → v < g.vertices → suc i < length (order g v) → next g (get_or (order g v) i 0) ≡ get_or (order g v) (suc i) 0
  unfolding next
  next-at v i lv l =
      let w : ℕ = get_or (order g v) i 0 in
      let own : (w < darts g) × (at g w ≡ v) = orders.own v i lv (omega arith) in
      ap (λ u. after (get_or (order g u) 0 w) (order g u) w) own.1
      ∙ after-at (get_or (order g v) 0 w) (order g v) i w (omega arith) refl (λ j lj e. orders.once v j i lv lj (omega arith) e)
      ∙ get_or_default (order g v) (suc i) (get_or (order g v) 0 w) 0 l

  pub next-last : (v i : ℕ) → v < g.vertices → suc i ≡ length (order g v) → next g (get_or (order g v) i 0) ≡ get_or (order g v) 0 0
  unfolding next
  next-last v i lv l =
      let w : ℕ = get_or (order g v) i 0 in
      let own : (w < darts g) × (at g w ≡ v) = orders.own v i lv (omega arith) in
      ap (λ u. after (get_or (order g u) 0 w) (order g u) w) own.1
      ∙ after-at (get_or (order g v) 0 w) (order g v) i w (omega arith) refl (λ j lj e. orders.once v j i lv lj (omega arith) e)
      ∙ get_or_past (order g v) (suc i) (get_or (order g v) 0 w) (omega arith)
      ∙ get_or_default (order g v) 0 w 0 (omega arith)

  step_here : (d : ℕ) → d < darts g → Step g (at g d) d
  step_here d l =
      let r : (i : ℕ) × (i < length (order g (at g d))) × (get_or (order g (at g d)) i 0 ≡ d) = orders.listed d l in
      elim (cases_lt (suc r.0) (length (order g (at g d)))) [
        | inl m ↦ record {
          i = r.0;
          j = suc r.0;
          i_in = r.1;
          j_in = m;
          here = r.2;
          there = sym (next-at (at g d) r.0 (at_below d l) m) ∙ ap (next g) r.2;
          how = inl (m, refl);
        }
        | inr m ↦
            let e : suc r.0 ≡ length (order g (at g d)) = omega (arith, r.1) in
            record {
              i = r.0;
              j = 0;
              i_in = r.1;
              j_in = omega arith;
              here = r.2;
              there = sym (next-last (at g d) r.0 (at_below d l) e) ∙ ap (next g) r.2;
              how = inr (e, refl);
            }
      ]

  -- the places of a dart at v and of its next
  step_at : (d : ℕ) → d < darts g → (v : ℕ) → at g d ≡ v → Step g v d
  step_at d l v e = subst (λ u. Step g u d) e (step_here d l)

  pub next-below : (d : ℕ) → d < darts g → next g d < darts g
  next-below d l =
      let r : Step g (at g d) d = step_here d l in
      let o : (get_or (order g (at g d)) r.j 0 < darts g) × (at g (get_or (order g (at g d)) r.j 0) ≡ at g d) = orders.own (at g d) r.j (at_below d l) r.j_in in
      let e : get_or (order g (at g d)) r.j 0 ≡ next g d = r.there in omega (arith, o.0)

  -- the next is at the same vertex
  pub at-next : (d : ℕ) → d < darts g → at g (next g d) ≡ at g d
  at-next d l =
      let r : Step g (at g d) d = step_here d l in
      let o : (get_or (order g (at g d)) r.j 0 < darts g) × (at g (get_or (order g (at g d)) r.j 0) ≡ at g d) = orders.own (at g d) r.j (at_below d l) r.j_in in
      ap (at g) (sym r.there) ∙ o.1

  pub next-apart : (c d : ℕ) → c < darts g → d < darts g → next g c ≡ next g d → c ≡ d
  next-apart c d lc ld e =
      let v : ℕ = at g d in
      let ev : at g c ≡ v = sym (at-next c lc) ∙ ap (at g) e ∙ at-next d ld in
      let rc : Step g v c = step_at c lc v ev in
      let rd : Step g v d = step_at d ld v refl in
      let js : rc.j ≡ rd.j = one_place v rc.j rd.j (at_below d ld) rc.j_in rd.j_in (rc.there ∙ e ∙ sym rd.there) in
      let same : rc.i ≡ rd.i = same_place (length (order g v)) rc.i rc.j rd.i rd.j rc.how rd.how js in
      sym rc.here ∙ ap (λ k. get_or (order g v) k 0) same ∙ rd.here

  pub next-permutes : Permutes (darts g) (next g)
  next-permutes = record { stays = next-below; apart = next-apart }

  pub phi-permutes : Permutes (darts g) (phi g)
  unfolding phi
  phi-permutes = record {
    stays = λ d l. next-below (twin d) (twin-below (edges g) d l);
    apart = λ c d lc ld e. twin-apart c d (next-apart (twin c) (twin d) (twin-below (edges g) c lc) (twin-below (edges g) d ld) e);
  }

  -- phi leads to the other end of the edge
  pub at-phi : (d : ℕ) → d < darts g → at g (phi g d) ≡ at g (twin d)
  unfolding phi
  at-phi d l = at-next (twin d) (twin-below (edges g) d l)

  -- from place i on to place i + k
  onward : (v i k : ℕ) → v < g.vertices → i + k < length (order g v) → iterate k (next g) (get_or (order g v) i 0) ≡ get_or (order g v) (i + k) 0
  onward v i zero lv l = ap (λ m. get_or (order g v) m 0) (let e : i ≡ i + 0 = omega arith in e)
  onward v i (suc k) lv l =
      let e : suc (i + k) ≡ i + suc k = omega arith in
      ap (next g) (onward v i k lv (omega arith)) ∙ next-at v (i + k) lv (omega arith) ∙ ap (λ m. get_or (order g v) m 0) e

  -- to the last place, to the first, and on
  around : (v i j : ℕ) → v < g.vertices → i < length (order g v) → j < length (order g v) → SameOrbit (next g) (get_or (order g v) i 0) (get_or (order g v) j 0)
  around v i j lv li lj =
      let n : ℕ = length (order g v) in
      let last : i + (n - 1 - i) ≡ n - 1 = omega arith in
      let a : SameOrbit (next g) (get_or (order g v) i 0) (get_or (order g v) (n - 1) 0) =
      (n - 1 - i, onward v i (n - 1 - i) lv (omega arith) ∙ ap (λ m. get_or (order g v) m 0) last) in
      let b : SameOrbit (next g) (get_or (order g v) (n - 1) 0) (get_or (order g v) 0 0) = (1, next-last v (n - 1) lv (omega arith)) in
      let c : SameOrbit (next g) (get_or (order g v) 0 0) (get_or (order g v) j 0) = (j, onward v 0 j lv (omega arith) ∙ ap (λ m. get_or (order g v) m 0) (let e : 0 + j ≡ j = omega arith in e)) in
      orbit-trans (next g) (get_or (order g v) i 0) (get_or (order g v) (n - 1) 0) (get_or (order g v) j 0) a
      (orbit-trans (next g) (get_or (order g v) (n - 1) 0) (get_or (order g v) 0 0) (get_or (order g v) j 0) b c)

  -- the darts at one vertex are one orbit of next
  pub same_vertex : (c d : ℕ) → c < darts g → d < darts g → at g c ≡ at g d → SameOrbit (next g) c d
  same_vertex c d lc ld e =
      let v : ℕ = at g d in
      let rc : Step g v c = step_at c lc v e in
      let rd : Step g v d = step_at d ld v refl in
      let s : SameOrbit (next g) (get_or (order g v) rc.i 0) (get_or (order g v) rd.i 0) = around v rc.i rd.i (at_below d ld) rc.i_in rd.i_in in
      (s.0, ap (iterate s.0 (next g)) (sym rc.here) ∙ s.1 ∙ rd.here)

  pub at-iterate : (k d : ℕ) → d < darts g → at g (iterate k (next g) d) ≡ at g d
  at-iterate zero d l = refl
  at-iterate (suc k) d l = at-next (iterate k (next g) d) (iterate-stays (darts g) (next g) next-permutes k d l) ∙ at-iterate k d l
