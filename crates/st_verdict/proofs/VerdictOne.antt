-- A graph is found to be a planar st-graph in at most one way, or refused for at most one reason: where the tests on its
-- digraph have one answer, as a law of st_test says.
use Rattle.std.proofs.Common.{◌≡◌, ◌≢◌, ℕ, ◌+◌, ◌⊎◌, ◌↔◌, inl, inr, Bool, IsTrue, sym, ap, ◌∙◌, subst}
use Rattle.std.specs.Prelude.{Result, Ok, Err}
use Rattle.std.proofs.lemmas.Bool.{cases_order}
use Rattle.st_ids.specs.declared.ids.VertexId.{VertexId}
use Rattle.st_map.specs.Embedded.{Embedded, Touches, edges, faces}
use Rattle.st_map.specs.Fault.{IsMapFault}
use Rattle.st_map.specs.declared.orders.MapFault.TheVariants as map_fault
use Rattle.st_test.specs.Planar.{IsPlanarSt, StValue}
use Rattle.st_test.specs.PolesAnswer.{OnePolesAnswer}
use Rattle.st_test.specs.Verdict.{IsEmbedFault}
use Rattle.st_test.specs.declared.digraph_fault.Poles.{Poles}
use Rattle.st_test.specs.declared.digraph_fault.DigraphFault.{DigraphFault}
use Rattle.st_test.specs.declared.digraph_fault.DigraphFault.TheVariants as digraph
use Rattle.st_test.specs.declared.verdict.EmbedFault.{EmbedFault}
use Rattle.st_test.specs.declared.verdict.EmbedFault.TheVariants as embedding
use Rattle.st_input.specs.InputGraph.{InputGraph}
use Rattle.st_report.specs.declared.stop.NotSt.{NotSt}
use Rattle.st_report.specs.declared.stop.NotSt.TheVariants.{BadOrder, BadFaces, Outer}
use Rattle.st_report.specs.declared.stop.Refusal.{Refusal}
use Rattle.st_report.specs.declared.stop.Refusal.TheVariants as refusal
use Rattle.st_verdict.specs.Stages.{Then, IsOne}
use Rattle.st_verdict.specs.Verdict.{TellsDigraph, TellsEmbedding, HasNoPoles, HasPoles, HasMap, IsNotPlanar, IsPlanar, IsAccepted, outer_or_first, file_vertex_name}
use Rattle.st_verdict.proofs.StageLemmas.{ok, err, one_then, told_one, same_bool}

-- ---- the poles
-- want of memory is never told
is_told : (g : InputGraph) (fault : DigraphFault) (why : NotSt) → TellsDigraph g fault why → fault ≢ digraph.NoMemory
is_told g fault why h e = subst (λ (f : DigraphFault). TellsDigraph g f why) e h

-- a fault is told in one way
told_same : (g : InputGraph) (fault : DigraphFault) (a b : NotSt) → TellsDigraph g fault a → TellsDigraph g fault b → a ≡ b
told_same g (digraph.TooFew n) a b h k = h ∙ sym k
told_same g (digraph.Cycle es) a b h k = h ∙ sym k
told_same g (digraph.Sources u v n) a b h k = h ∙ sym k
told_same g (digraph.Sinks u v n) a b h k = h ∙ sym k
told_same g digraph.NoMemory a b h k = absurd h

-- answers of the tests on a digraph, taken apart
abbrev found : Poles → Result Poles DigraphFault
found p = Ok p

abbrev failed : DigraphFault → Result Poles DigraphFault
failed f = Err f

found_same : (p q : Poles) → found p ≡ found q → p ≡ q
found_same p q e = cc

failed_same : (f d : DigraphFault) → failed f ≡ failed d → f ≡ d
failed_same f d e = cc

found_failed : (p : Poles) (f : DigraphFault) → found p ≡ failed f → ⊥
found_failed p f e = cc

failed_memory : (f : DigraphFault) → f ≢ digraph.NoMemory → failed f ≢ failed digraph.NoMemory
failed_memory f n e = n (failed_same f digraph.NoMemory e)

-- where the tests on a digraph have one answer, the first stage has
module _ (answer_same : OnePolesAnswer) where
  poles_apart : (g : InputGraph) (p : Poles) (r : Refusal) → HasPoles g (Ok p) → HasPoles g (Err r) → ⊥
  poles_apart g p r h k =
      let why = k.fault in
      let (fault, first, tells) = k.holds in
      found_failed p fault (answer_same g.graph (found p) (failed fault) h first (found_failed p digraph.NoMemory) (failed_memory fault (is_told g fault why tells)))

  -- the first fault is told in one way
  why_same : (g : InputGraph) (why why' : NotSt) → HasNoPoles g why → HasNoPoles g why' → why ≡ why'
  why_same g why why' (fault, first, tells) (fault', first', tells') =
      let same : fault ≡ fault' = failed_same fault fault' (answer_same g.graph (failed fault) (failed fault') first first'
      (failed_memory fault (is_told g fault why tells)) (failed_memory fault' (is_told g fault' why' tells'))) in
      let tells_same : TellsDigraph g fault' why = subst (λ (f : DigraphFault). TellsDigraph g f why) same tells in
      told_same g fault' why why' tells_same tells'

  poles_one : (g : InputGraph) → IsOne (HasPoles g)
  poles_one g (Ok p) (Ok q) h k = ok p q (found_same p q (answer_same g.graph (found p) (found q) h k (found_failed p digraph.NoMemory) (found_failed q digraph.NoMemory)))
  poles_one g (Ok p) (Err s) h k = absurd (poles_apart g p s h k)
  poles_one g (Err r) (Ok q) h k = absurd (poles_apart g q r k h)
  poles_one g (Err r) (Err s) h k = err r s (told_one (λ why. refusal.NotSt why) (HasNoPoles g) (why_same g) r s h k)

-- ---- the map
same_vertex : (u v : VertexId) → u.0 ≡ v.0 → u ≡ v
same_vertex u v e = ap (λ n. let w : VertexId = record { 0 = n } in w) e

-- the first vertex with a bad order is one
first_bad_same : (g : InputGraph) (u v : VertexId) → IsMapFault g.graph g.orders (map_fault.BadOrder u) → IsMapFault g.graph g.orders (map_fault.BadOrder v) → u.0 ≡ v.0
first_bad_same g u v (below, bad, before) (below', bad', before') = elim (cases_order u.0 v.0) [
  | inl e ↦ e
  | inr (inl l) ↦ absurd (bad (before' u.0 l))
  | inr (inr l) ↦ absurd (bad' (before v.0 l))
]

map_apart : (g : InputGraph) (m : Embedded) (r : Refusal) → HasMap g (Ok m) → HasMap g (Err r) → ⊥
map_apart g m r good bad = let (below, wrong, before) = bad.holds in wrong (good.1 bad.fault.0 below)

pub map_one : (g : InputGraph) → IsOne (HasMap g)
map_one g (Ok m) (Ok l) h k = ok m l (h.0 ∙ sym k.0)
map_one g (Ok m) (Err s) h k = absurd (map_apart g m s h k)
map_one g (Err r) (Ok l) h k = absurd (map_apart g l r k h)
map_one g (Err r) (Err s) h k =
    err r s (told_one (λ (v : VertexId). refusal.NotSt (BadOrder (file_vertex_name g v.0))) (λ v. IsMapFault g.graph g.orders (map_fault.BadOrder v)) (λ u v bad bad'. same_vertex u v (first_bad_same g u v bad bad')) r s h k)

-- ---- the planar st-graph
-- Euler's formula
abbrev Euler : Embedded → Type 0
Euler m = m.vertices + faces m ≡ edges m + 2

-- what is told of an embedding: the numbers, or the poles that the outer face misses
data Told (m : Embedded) (s t outer : ℕ) (why : NotSt) : Type 0 where
  bad_faces : why ≡ BadFaces m.vertices (edges m) (faces m) → (Euler m → ⊥) → Told m s t outer why
  bad_outer : (a b : Bool) → why ≡ Outer a b → Euler m → (IsTrue a ↔ (Touches m outer s → ⊥)) → (IsTrue b ↔ (Touches m outer t → ⊥)) → IsTrue a ⊎ IsTrue b → Told m s t outer why

numbers : (v e f v' e' f' : ℕ) → v ≡ v' → e ≡ e' → f ≡ f' → BadFaces v e f ≡ BadFaces v' e' f'
numbers v e f v' e' f' p q r = ap (λ z. BadFaces z e f) p ∙ ap (λ z. BadFaces v' z f) q ∙ ap (λ z. BadFaces v' e' z) r

told : (m : Embedded) (s t outer : ℕ) (fault : EmbedFault) (why : NotSt) → IsEmbedFault m s t outer fault → TellsEmbedding fault why → Told m s t outer why
told m s t outer (embedding.BadFaces v e f) why (p, q, r, no_euler) is = bad_faces (is ∙ numbers v e f m.vertices (edges m) (faces m) p q r) no_euler
told m s t outer (embedding.Outer a b) why (euler, misses_s, misses_t, one) is = bad_outer a b is euler misses_s misses_t one
told m s t outer embedding.NoMemory why h k = absurd k

told_embedding_same : (m : Embedded) (s t outer : ℕ) (why why' : NotSt) → Told m s t outer why → Told m s t outer why' → why ≡ why'
told_embedding_same m s t outer why why' (bad_faces is n) (bad_faces is' n') = is ∙ sym is'
told_embedding_same m s t outer why why' (bad_faces is n) (bad_outer a b is' e p q o) = absurd (n e)
told_embedding_same m s t outer why why' (bad_outer a b is e p q o) (bad_faces is' n) = absurd (n e)
told_embedding_same m s t outer why why' (bad_outer a b is e p q o) (bad_outer a' b' is' e' p' q' o') =
    is ∙ ap (λ z. Outer z b) (same_bool a a' p p') ∙ ap (λ z. Outer a' z) (same_bool b b' q q') ∙ sym is'

-- a planar st-graph has no fault
planar_apart : (m : Embedded) (s t outer : ℕ) (why : NotSt) → IsPlanarSt m s t outer → Told m s t outer why → ⊥
planar_apart m s t outer why h (bad_faces is n) = n h.euler
planar_apart m s t outer why h (bad_outer a b is e p q (inl o)) = p.0 o h.outer_s
planar_apart m s t outer why h (bad_outer a b is e p q (inr o)) = q.0 o h.outer_t

not_planar_same : (g : InputGraph) (p : Poles) (m : Embedded) (why why' : NotSt) → IsNotPlanar g p m why → IsNotPlanar g p m why' → why ≡ why'
not_planar_same g p m why why' (fault, is, tells) (fault', is', tells') =
    let outer = outer_or_first g m p.source.0 in
    told_embedding_same m p.source.0 p.sink.0 outer why why' (told m p.source.0 p.sink.0 outer fault why is tells) (told m p.source.0 p.sink.0 outer fault' why' is' tells')

planar_no_refusal : (g : InputGraph) (p : Poles) (m : Embedded) (st : StValue) (r : Refusal) → IsPlanar g p m (Ok st) → IsPlanar g p m (Err r) → ⊥
planar_no_refusal g p m st r h k =
    let why = k.fault in
    let (fault, is, tells) = k.holds in
    planar_apart m p.source.0 p.sink.0 (outer_or_first g m p.source.0) why h.0 (told m p.source.0 p.sink.0 (outer_or_first g m p.source.0) fault why is tells)

planar_one : (g : InputGraph) (p : Poles) (m : Embedded) → IsOne (IsPlanar g p m)
planar_one g p m (Ok a) (Ok b) h k = ok a b (h.1 ∙ sym k.1)
planar_one g p m (Ok a) (Err s) h k = absurd (planar_no_refusal g p m a s h k)
planar_one g p m (Err r) (Ok b) h k = absurd (planar_no_refusal g p m b r k h)
planar_one g p m (Err r) (Err s) h k = err r s (told_one (λ why. refusal.NotSt why) (IsNotPlanar g p m) (not_planar_same g p m) r s h k)

-- ---- all tests
pub accepted_one : OnePolesAnswer → (g : InputGraph) → IsOne (IsAccepted g)
accepted_one answer_same g = one_then (HasPoles g) (λ p. Then (HasMap g) (IsPlanar g p)) (poles_one answer_same g) (λ p _. one_then (HasMap g) (IsPlanar g p) (map_one g) (λ m _. planar_one g p m))
