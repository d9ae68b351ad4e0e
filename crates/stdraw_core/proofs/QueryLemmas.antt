-- A query answered pair by pair.
use Rattle.std.proofs.Common.{◌≡◌, ℕ, suc, ◌+◌, ◌<◌, ℤ, Bool, inl, inr, List, [], ◌∷◌, ◌++◌, length, get_or, take, drop, slice_get, Some, refl, sym, ap, ◌∙◌, subst, append_assoc, append-nil, drop-cons, arith}
use Rattle.std.specs.Prelude.{◌↔◌, IsTrue}
use Rattle.std.proofs.lemmas.List.{take-append-drop, take_more}
use Rattle.std.proofs.lemmas.Option.{get_or_from_slice_get}
use Rattle.st_ids.specs.Walks.{Reaches}
use Rattle.st_ids.specs.Graph.{arcs_of}
use Rattle.st_input.specs.InputGraph.{InputGraph}
use Rattle.st_picture.specs.Items.{origin}
use Rattle.st_shape.specs.declared.point.Point.{Point}
use Rattle.draw_dom.specs.Points.{IsPointAtMost, vertex_point}
use Rattle.st_report.specs.declared.stop.Refusal.TheVariants.{UnknownVertex}
use Rattle.st_report.specs.declared.stop.Stop.{Stop}
use Rattle.st_report.specs.declared.stop.Stop.TheVariants.{Refused}
use Rattle.st_verdict.specs.Stops.{IsStop}
use Rattle.stdraw_core.specs.Query.{AnswersPairs, IsNamed, IsKnownName, IsUnknown, names_of, AreKnown, IsFirstUnknown, line_of_pair, IsLine, AreQueryLines, no_line, one_line}

-- ---- names
pub known_push : (g : InputGraph) (ps : List (ℤ × ℤ)) (p : ℤ × ℤ) → AreKnown g (names_of ps) → IsKnownName g p.0 → IsKnownName g p.1 → AreKnown g (names_of (ps ++ p ∷ []))
known_push g [] p all a b = (a, (b, tt))
known_push g (q ∷ ps) p all a b = (all.0, (all.1.0, known_push g ps p all.1.1 a b))

pub unknown_first : (g : InputGraph) (ps qs : List (ℤ × ℤ)) (p : ℤ × ℤ) → AreKnown g (names_of ps) → IsUnknown g p.0 → IsFirstUnknown g (names_of (ps ++ p ∷ qs)) p.0
unknown_first g [] qs p all bad = inl (bad, refl)
unknown_first g (q ∷ ps) qs p all bad = inr (all.0, inr (all.1.0, unknown_first g ps qs p all.1.1 bad))

pub unknown_second : (g : InputGraph) (ps qs : List (ℤ × ℤ)) (p : ℤ × ℤ) → AreKnown g (names_of ps) → IsKnownName g p.0 → IsUnknown g p.1 → IsFirstUnknown g (names_of (ps ++ p ∷ qs)) p.1
unknown_second g [] qs p all good bad = inr (good, inl (bad, refl))
unknown_second g (q ∷ ps) qs p all good bad = inr (all.0, inr (all.1.0, unknown_second g ps qs p all.1.1 good bad))

-- ---- lines
pub lines_push : (g : InputGraph) (points : List Point) (ps : List (ℤ × ℤ)) (p : ℤ × ℤ) (out line : List ℕ) → AreQueryLines g points ps out → IsLine g points p line → AreQueryLines g points (ps ++ p ∷ []) (out ++ line)
lines_push g points ps p out line (no_line e) new = one_line line [] new (no_line refl) (ap (λ l. l ++ line) e ∙ sym (append-nil line))
lines_push g points ps p out line (one_line first rest l more e) new =
    one_line first (rest ++ line) l (lines_push g points _ p rest line more new) (ap (λ z. z ++ line) e ∙ append_assoc first rest line)

-- ---- a list cut at a place
pub split_at : {X : Type 0} (xs : List X) (i : ℕ) (d : X) → i < length xs → xs ≡ take i xs ++ get_or xs i d ∷ drop (i + 1) xs
split_at xs i d l = sym (take-append-drop i xs) ∙ ap (λ z. take i xs ++ z) (drop-cons xs i d l) ∙ ap (λ k. take i xs ++ get_or xs i d ∷ drop k xs) (let e : suc i ≡ i + 1 = omega arith in e)

pub take_push : {X : Type 0} (xs : List X) (i : ℕ) (d : X) → i < length xs → take (i + 1) xs ≡ take i xs ++ get_or xs i d ∷ []
take_push xs i d l = take_more xs i d l

-- ---- one pair more, whose names are n and m
pub stops_first : (g : InputGraph) (ps qs : List (ℤ × ℤ)) (p : ℤ × ℤ) (n : ℤ) → n ≡ p.0 → AreKnown g (names_of ps) → IsUnknown g n → IsFirstUnknown g (names_of (ps ++ p ∷ qs)) n
stops_first g ps qs p n e all bad = subst (λ z. IsFirstUnknown g (names_of (ps ++ p ∷ qs)) z) (sym e) (unknown_first g ps qs p all (subst (IsUnknown g) e bad))

pub stops_second : (g : InputGraph) (ps qs : List (ℤ × ℤ)) (p : ℤ × ℤ) (n m : ℤ) → n ≡ p.0 → m ≡ p.1 → AreKnown g (names_of ps) → IsKnownName g n → IsUnknown g m → IsFirstUnknown g (names_of (ps ++ p ∷ qs)) m
stops_second g ps qs p n m e f all good bad =
    subst (λ z. IsFirstUnknown g (names_of (ps ++ p ∷ qs)) z) (sym f) (unknown_second g ps qs p all (subst (IsKnownName g) e good) (subst (IsUnknown g) f bad))

-- the two vertices of a pair's names with their points, and whether the one reaches the other
pub record IsPair (g : InputGraph) (points : List Point) (n m : ℤ) (u v : ℕ) (answer : Bool) (p q : Point) : Type 0 where
  pub from : IsNamed g u n
  pub to : IsNamed g v m
  pub at_most : IsTrue answer ↔ IsPointAtMost points u v
  pub decides : Reaches (arcs_of g.graph) u v ↔ IsPointAtMost points u v
  pub first : slice_get points u ≡ Some p
  pub second : slice_get points v ≡ Some q

point_read : (points : List Point) (v : ℕ) (p : Point) → slice_get points v ≡ Some p → vertex_point points v ≡ p
unfolding vertex_point
point_read points v p e = get_or_from_slice_get points v p origin e

pair_line : (g : InputGraph) (points : List Point) (r : ℤ × ℤ) (u v : ℕ) (answer : Bool) (p q : Point) → IsPair g points r.0 r.1 u v answer p q → IsLine g points r (line_of_pair r.0 r.1 answer p q)
pair_line g points r u v answer p q h = record {
  from = u;
  to = v;
  from_named = h.from;
  to_named = h.to;
  answer = answer;
  reaches = ((λ y. h.decides.1 (h.at_most.0 y)), (λ w. h.at_most.1 (h.decides.0 w)));
  at_most = h.at_most;
  text = ap (λ z. line_of_pair r.0 r.1 answer z q) (sym (point_read points u p h.first)) ∙ ap (λ z. line_of_pair r.0 r.1 answer (vertex_point points u) z) (sym (point_read points v q h.second));
}

same_pair : (g : InputGraph) (points : List Point) (n m n' m' : ℤ) (u v : ℕ) (answer : Bool) (p q : Point) → n ≡ n' → m ≡ m' → IsPair g points n m u v answer p q → IsPair g points n' m' u v answer p q
same_pair g points n m n' m' u v answer p q e f h = subst (λ z. IsPair g points z m' u v answer p q) e (subst (λ z. IsPair g points n z u v answer p q) f h)

-- the names and the lines so far
pub record AreAnswered (g : InputGraph) (points : List Point) (ps : List (ℤ × ℤ)) (out : List ℕ) : Type 0 where
  pub known : AreKnown g (names_of ps)
  pub lines : AreQueryLines g points ps out

pub answered_push : (g : InputGraph) (points : List Point) (ps : List (ℤ × ℤ)) (r : ℤ × ℤ) (out out' : List ℕ) (n m : ℤ) (u v : ℕ) (answer : Bool) (p q : Point) → AreAnswered g points ps out → n ≡ r.0 → m ≡ r.1
    → IsPair g points n m u v answer p q → out' ≡ out ++ line_of_pair n m answer p q → AreAnswered g points (ps ++ r ∷ []) out'
answered_push g points ps r out out' n m u v answer p q h e f pair text =
    let same : IsPair g points r.0 r.1 u v answer p q = same_pair g points n m r.0 r.1 u v answer p q e f pair in
    let line : IsLine g points r (line_of_pair r.0 r.1 answer p q) = pair_line g points r u v answer p q same in
    let text' : out' ≡ out ++ line_of_pair r.0 r.1 answer p q = text ∙ ap (λ z. out ++ line_of_pair z m answer p q) e ∙ ap (λ z. out ++ line_of_pair r.0 z answer p q) f in
    record {
      known = known_push g ps r h.known (u, same.from) (v, same.to);
      lines = subst (λ t. AreQueryLines g points (ps ++ r ∷ []) t) (sym text') (lines_push g points ps r out (line_of_pair r.0 r.1 answer p q) h.lines line);
    }

-- what is told of the first name that no vertex has
pub unknown_stop : (g : InputGraph) (points : List Point) (ps : List (ℤ × ℤ)) (stop : Stop) (name : ℤ) → stop ≡ Refused (UnknownVertex name) → IsFirstUnknown g (names_of ps) name → IsStop (AnswersPairs ps g points) stop
unknown_stop g points ps stop name e h = subst (λ s. IsStop (AnswersPairs ps g points) s) (sym e) (record { fault = name; is = refl; holds = h })

-- ---- names that are known, or not
pub known_unknown : (g : InputGraph) (ns : List ℤ) (n : ℤ) → AreKnown g ns → IsFirstUnknown g ns n → ⊥
known_unknown g [] n h k = k
known_unknown g (m ∷ ns) n h k = elim k [ inl a ↦ a.0 h.0.0 h.0.1 | inr b ↦ known_unknown g ns n h.1 b.1 ]

pub same_unknown : (g : InputGraph) (ns : List ℤ) (n m : ℤ) → IsFirstUnknown g ns n → IsFirstUnknown g ns m → n ≡ m
same_unknown g [] n m h k = absurd h
same_unknown g (x ∷ ns) n m h k = elim h [
  | inl a ↦ elim k [ inl b ↦ a.1 ∙ sym b.1 | inr b ↦ absurd (a.0 b.0.0 b.0.1) ]
  | inr a ↦ elim k [ inl b ↦ absurd (b.0 a.0.0 a.0.1) | inr b ↦ same_unknown g ns n m a.1 b.1 ]
]
