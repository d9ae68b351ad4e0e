-- What the search for the least faulty pair keeps from one pair of spans to the next.
use Rattle.std.proofs.Common.{◌≡◌, ℕ, ◌+◌, ◌<◌, ◌≤◌, Option, List, length, slice_get, Some, Contains, inl, inr, ap, sym, ◌∙◌, subst, arith}
use Rattle.std.proofs.lemmas.Bool.{cases_lt, cases_order}
use Rattle.std.proofs.lemmas.Option.{slice_get-get_or, slice_get_within}
use Rattle.st_shape.specs.declared.item.Item.{Item}
use Rattle.eps_check.specs.declared.pairs.Pair.{Pair}
use Rattle.eps_check.specs.declared.spans.Span.{Span}
use Rattle.eps_check.specs.Pairs.{AreSorted, AreThese, IsBetterBeside, IsBest, IsBetter, IsSearched}

same_span : (s t : Span) → Some s ≡ Some t → s ≡ t
same_span s t e = cc

read_span : (spans : List Span) (i k : ℕ) (s t : Span) → i ≡ k → slice_get spans i ≡ Some s → slice_get spans k ≡ Some t → s ≡ t
read_span spans i k s t z e f = same_span s t (sym e ∙ ap (slice_get spans) z ∙ f)

module _ (items : List Item) (spans : List Span) where
  pub beside_none : (p : ℕ) (best : Option Pair) → IsBetterBeside items spans p (p + 1) best best
  beside_none p best = record { real = λ h. h; keeps = λ i j h. h; own = λ r s t h k e f l i j m these g. absurd (omega (arith, h, k)) }

  pub beside_next : (p q : ℕ) (s t : Span) (best found new : Option Pair) → slice_get spans p ≡ Some s → slice_get spans q ≡ Some t →
      IsBetter items s.item t.item found new → IsBetterBeside items spans p q best found → IsBetterBeside items spans p (q + 1) best new
  beside_next p q s t best found new s_is t_is b old =
      record {
        real = λ h. b.real (old.real h);
        keeps = λ i j h. b.keeps i j (old.keeps i j h);
        own = λ r s' t' h k e f l i j m these g.
            elim (cases_lt r q) [
              | inl less ↦ b.keeps i j (old.own r s' t' h less e f l i j m these g)
              | inr more ↦
                  let s_same = same_span s' s (sym e ∙ s_is) in
                  let t_same = read_span spans r q t' t (omega (arith, k, more)) f t_is in
                  b.own i j m (subst (λ (x : Span). AreThese x.item t.item i j) s_same (subst (λ (x : Span). AreThese s'.item x.item i j) t_same these)) g
            ];
      }

  -- all spans further behind begin above the span
  pub beside_stop : AreSorted spans → (p q : ℕ) (s t : Span) (best found : Option Pair) → slice_get spans p ≡ Some s → slice_get spans q ≡ Some t →
      s.high < t.low → IsBetterBeside items spans p q best found → IsBetterBeside items spans p (length spans) best found
  beside_stop sorted p q s t best found s_is t_is above old =
      record {
        real = old.real;
        keeps = old.keeps;
        own = λ r s' t' h k e f l i j m these g.
            elim (cases_lt r q) [
              | inl less ↦ old.own r s' t' h less e f l i j m these g
              | inr more ↦
                  let high = ap (λ (x : Span). x.high) (same_span s' s (sym e ∙ s_is)) in
                  elim (cases_lt q r) [
                    | inl behind ↦ let low = sorted.order q r t t' behind t_is f in absurd (omega (arith, low, high, above, l))
                    | inr here ↦
                        let low = ap (λ (x : Span). x.low) (read_span spans r q t' t (omega (arith, more, here)) f t_is) in
                        absurd (omega (arith, low, high, above, l))
                  ]
            ];
      }

  pub beside_all : (p q : ℕ) (best found : Option Pair) → length spans ≤ q → IsBetterBeside items spans p q best found → IsBetterBeside items spans p (length spans) best found
  beside_all p q best found all old =
      record { real = old.real; keeps = old.keeps; own = λ r s t h k e f l i j m these g. old.own r s t h (omega (arith, k, all)) e f l i j m these g }

  pub searched_next : (k : ℕ) (best new : Option Pair) → IsSearched items spans k best → IsBetterBeside items spans k (length spans) best new →
      IsSearched items spans (k + 1) new
  searched_next k best new old b =
      record {
        real = b.real old.real;
        own = λ p r s t h less e f l i j m these g.
            elim (cases_lt p k) [
              | inl before ↦ b.keeps i j (old.own p r s t before less e f l i j m these g)
              | inr here ↦
                  let z : p ≡ k = omega (arith, h, here) in
                  b.own r s t (omega (arith, z, less)) (slice_get_within spans r t f) (ap (slice_get spans) (sym z) ∙ e) f l i j m these g
            ];
      }

  contains_at : (s : Span) (h : Contains spans s) → slice_get spans h.0 ≡ Some s
  contains_at s h = slice_get-get_or spans h.0 s h.1 ∙ ap Some h.2

  pub best_from : (k : ℕ) (best : Option Pair) → length spans ≤ k → IsSearched items spans k best → IsBest items spans best
  best_from k best all old =
      record {
        real = old.real;
        covers = λ i j m o g.
            let a = contains_at o.s o.s_there in
            let b = contains_at o.t o.t_there in
            let a_in = slice_get_within spans o.s_there.0 o.s a in
            let b_in = slice_get_within spans o.t_there.0 o.t b in
            elim (cases_order o.s_there.0 o.t_there.0) [
              | inl z ↦
                  let e = ap (λ (x : Span). x.item) (read_span spans o.s_there.0 o.t_there.0 o.s o.t z a b) in
                  let of = o.s_of in
                  let of' = o.t_of in
                  absurd (omega (arith, m, e, of, of'))
              | inr rest ↦ elim rest [
                | inl less ↦ old.own o.s_there.0 o.t_there.0 o.s o.t (omega (arith, a_in, all)) less a b o.t_low i j m (inl (sym o.s_of, sym o.t_of)) g
                | inr more ↦ old.own o.t_there.0 o.s_there.0 o.t o.s (omega (arith, b_in, all)) more b a o.s_low i j m (inr (sym o.s_of, sym o.t_of)) g
              ]
            ];
      }
