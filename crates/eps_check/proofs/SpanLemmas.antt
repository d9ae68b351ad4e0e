-- How the spans of items come together, and which of them overlap.
use Rattle.std.proofs.Common.{◌≡◌, ℕ, ◌+◌, ℤ, nat_abs, List, [], ◌∷◌, ◌++◌, slice_get, get_or, Some, Contains, inl, inr, ap, sym, ◌∙◌, subst, arith}
use Rattle.std.proofs.lemmas.Bool.{cases_lt}
use Rattle.std.proofs.lemmas.List.Elements.{Contains-append_left, Contains-push}
use Rattle.std.proofs.lemmas.Option.{get_or_from_slice_get}
use Rattle.st_shape.specs.declared.point.Point.{Point}
use Rattle.st_shape.specs.declared.point.Segment.{Segment}
use Rattle.st_shape.specs.declared.item.Item.{Item}
use Rattle.st_shape.specs.Clean.{Shape, vertex, line, other, shape_of}
use Rattle.eps_check.specs.declared.spans.Span.{Span}
use Rattle.eps_check.specs.Spans.{AreSpanned, end_span, HasRange, IsSpanned, IsInSpan, KeepsSpans, vertex_span}

pub keeps_trans : (a b c : List Span) → KeepsSpans a b → KeepsSpans b c → KeepsSpans a c
keeps_trans a b c h k = record { each = λ s m. k.each s (h.each s m) }

pub keeps_push : (old new : List Span) (s : Span) → new ≡ old ++ s ∷ [] → KeepsSpans old new
keeps_push old new s e = record { each = λ t h. subst (λ xs. Contains xs t) (sym e) (Contains-append_left old (s ∷ []) t h) }

pub pushed : (old new : List Span) (s : Span) → new ≡ old ++ s ∷ [] → Contains new s
pushed old new s e = subst (λ xs. Contains xs s) (sym e) (Contains-push old s)

pub vertex_spanned : (old mid new : List Span) (k : ℕ) (n : ℤ) (p : Point) (s t : Span) → s ≡ record { low = nat_abs p.y; high = nat_abs p.y; item = k } →
    t ≡ vertex_span k n → mid ≡ old ++ s ∷ [] → new ≡ mid ++ t ∷ [] → (figure : Segment) → figure.a.y ≡ p.y → figure.b.y ≡ p.y →
    IsSpanned new k (vertex n figure)
vertex_spanned old mid new k n p s t s_is t_is first second figure a b = (
  record {
    span = s;
    there = (keeps_push mid new t second).each s (pushed old mid s first);
    of = ap (λ (x : Span). x.item) s_is;
    covers = λ v h. elim h [
      | inl e ↦ level v (ap (λ (w : Point). w.y) e ∙ a)
      | inr e ↦ level v (ap (λ (w : Point). w.y) e ∙ b)
    ];
  },
  subst (λ x. Contains new x) t_is (pushed mid new t second),
)
  where
    level : (v : Point) → v.y ≡ p.y → IsInSpan s v
    level v e =
        let y = ap nat_abs e in
        let low = ap (λ (x : Span). x.low) s_is in
        let high = ap (λ (x : Span). x.high) s_is in
        record { low = omega (arith, y, low); high = omega (arith, y, high) }

pub line_spanned : (old a b new : List Span) (k : ℕ) (tail head : ℤ) (points : List Point) (r s t : Span) → r.item ≡ k →
    ((j : ℕ) (v : Point) → slice_get points j ≡ Some v → IsInSpan r v) → s ≡ end_span k tail → t ≡ end_span k head →
    a ≡ old ++ r ∷ [] → b ≡ a ++ s ∷ [] → new ≡ b ++ t ∷ [] → IsSpanned new k (line tail head points)
line_spanned old a b new k tail head points r s t of covers s_is t_is first second third =
    let keeps = keeps_push b new t third in (
      record {
        span = r;
        there = keeps.each r ((keeps_push a b s second).each r (pushed old a r first));
        of = of;
        covers = λ v h. covers h.0 v h.1;
      },
      keeps.each _ (subst (λ x. Contains b x) s_is (pushed a b s second)),
      subst (λ x. Contains new x) t_is (pushed b new t third),
    )

range_kept : (old new : List Span) (k : ℕ) (IsPoint : Point → Type 0) → KeepsSpans old new → HasRange old k IsPoint → HasRange new k IsPoint
range_kept old new k IsPoint keeps r = record { span = r.span; there = keeps.each r.span r.there; of = r.of; covers = r.covers }

pub spanned_kept : (old new : List Span) (k : ℕ) (a : Shape) → KeepsSpans old new → IsSpanned old k a → IsSpanned new k a
spanned_kept old new k (vertex n s) keeps h = (range_kept old new k _ keeps h.0, keeps.each _ h.1)
spanned_kept old new k (line tail head points) keeps h = (range_kept old new k _ keeps h.0, keeps.each _ h.1, keeps.each _ h.2)
spanned_kept old new k other keeps h = tt

pub spans_next : (items : List Item) (k : ℕ) (x : Item) (spans new : List Span) → x ≡ get_or items k x → AreSpanned items k spans →
    KeepsSpans spans new → IsSpanned new k (shape_of x) → AreSpanned items (k + 1) new
spans_next items k x spans new is all keeps h =
    record {
      has = λ j e less f.
          elim (cases_lt j k) [
            | inl before ↦ spanned_kept spans new j (shape_of e) keeps (all.has j e before f)
            | inr after ↦
                let here : j ≡ k = omega arith in
                let same : x ≡ e = is ∙ get_or_from_slice_get items k e x (ap (slice_get items) (sym here) ∙ f) in
                subst (λ (n : ℕ). IsSpanned new n (shape_of e)) (sym here) (subst (λ (y : Item). IsSpanned new k (shape_of y)) same h)
          ];
    }
