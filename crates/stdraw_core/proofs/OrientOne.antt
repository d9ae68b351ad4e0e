-- To one file and two names there is one refusal, or there are orientations alone.
use Rattle.std.proofs.Common.{◌≡◌, ◌≢◌, ℕ, ◌+◌, ℤ, ◌⊎◌, ◌↔◌, inl, inr, Bool, List, [], ◌∷◌, refl, sym, ap, ◌∙◌, subst}
use Rattle.std.specs.Prelude.{Result, Ok, Err, IsTrue}
use Rattle.std.proofs.lemmas.Bool.{cases_order}
use Rattle.st_ids.specs.Graph.{Graph}
use Rattle.st_bipolar.specs.Faults.{IsFirstApart}
use Rattle.st_bipolar.specs.Orientation.{IsOrientation, IsPlane}
use Rattle.st_bipolar.specs.OrientFault.{IsOrientFault}
use Rattle.st_ids.specs.Undirected.{IsConnected}
use Rattle.st_bipolar.specs.Cuts.{IsFirstCut}
use Rattle.st_bipolar.specs.declared.orienting.OrientFault.{OrientFault}
use Rattle.st_bipolar.specs.declared.orienting.OrientFault.TheVariants as orient_fault
use Rattle.st_input.specs.InputGraph.{InputGraph, IsConsistent}
use Rattle.st_map.specs.Embedded.{Embedded, Touches, bare, edges, faces}
use Rattle.st_map.specs.Orders.{HasNoLoop}
use Rattle.st_report.specs.declared.stop.NoOrientation.TheVariants.{Loop, Apart, Cut}
use Rattle.st_report.specs.declared.stop.NotSt.TheVariants.{BadFaces, Outer}
use Rattle.st_report.specs.declared.stop.Refusal.{Refusal}
use Rattle.st_report.specs.declared.stop.Refusal.TheVariants.{NoOrientation, NotSt, UnknownVertex}
use Rattle.st_report.specs.declared.stop.Stop.{Stop}
use Rattle.st_report.specs.declared.stop.Stop.TheVariants.{Refused, ReadFault, WriteFault, NoMemory}
use Rattle.st_test.specs.Planar.{AcyclicIsLoopless}
use Rattle.st_verdict.specs.Stops.{IsStop}
use Rattle.st_test.specs.declared.digraph_fault.Poles.{Poles}
use Rattle.st_verdict.specs.File.{IsGraphWithin}
use Rattle.st_verdict.specs.Stages.{Then, refuses, goes_on, IsOne}
use Rattle.st_verdict.specs.Verdict.{HasMap, file_vertex_name, file_edge_name}
use Rattle.st_verdict.proofs.Public.{ok, err, same_ok, mixed, next_says, told_one, same_bool, graph_within_one, consistent_within, map_one}
use Rattle.stdraw_core.specs.Answer.{AreOutputs}
use Rattle.stdraw_core.specs.Headline.{IsOrientable}
use Rattle.stdraw_core.specs.Oriented.{ArePolesNamed, AreTwo, IsFirstLoop, IsLoopless, outer_at, TellsOrient, TellsAt, HasOrientFault, AnswersPlane, AnswersPoles, AnswersGraphOriented, AnswersOrient}
use Rattle.stdraw_core.specs.Query.{AreKnown, IsFirstUnknown}
use Rattle.stdraw_core.proofs.PlaneLemmas.{plane_before}
use Rattle.stdraw_core.proofs.QueryLemmas.{known_unknown, same_unknown}

-- ---- stages whose answers are alike
same_err : {A : Type 0} (r s : Refusal) → (let a : Result A Refusal = Err r in a) ≡ Err s → r ≡ s
same_err r s h = cc

-- the next stage may use that the first has found its value
pub alike_then : {A B : Type 0} (R : Result B Refusal → Result B Refusal → Type 0) → ((x y : Result B Refusal) → x ≡ y → R x y)
    → (first : Result A Refusal → Type 0) (next : A → Result B Refusal → Type 0) → IsOne first → ((a : A) → first (Ok a) → (x y : Result B Refusal) → next a x → next a y → R x y)
    → (x y : Result B Refusal) → Then first next x → Then first next y → R x y
alike_then R same first next one like x y (refuses r h e) (refuses s k f) = same x y (e ∙ err r s (same_err r s (one (Err r) (Err s) h k)) ∙ sym f)
alike_then R same first next one like x y (refuses r h e) (goes_on b k f) = absurd (mixed b r (one (Ok b) (Err r) k h))
alike_then R same first next one like x y (goes_on a h e) (refuses s k f) = absurd (mixed a s (one (Ok a) (Err s) h k))
alike_then R same first next one like x y (goes_on a h e) (goes_on b k f) = like b k x y (subst (λ z. next z x) (same_ok a b (one (Ok a) (Ok b) h k)) e) f

-- one and the same, or both outputs
abbrev pub Like : Result (List ℕ) Refusal → Result (List ℕ) Refusal → Type 0
Like x y = (x ≡ y) ⊎ AreOutputs x y

abbrev AllLike : (Result (List ℕ) Refusal → Type 0) → Type 0
AllLike P = (x y : Result (List ℕ) Refusal) → P x → P y → Like x y

-- ---- the poles
same_poles : (p q : Poles) → p.source.0 ≡ q.source.0 → p.sink.0 ≡ q.sink.0 → p ≡ q
same_poles p q e f =
    ap (λ z. let r : Poles = record { source = record { 0 = z }; sink = p.sink } in r) e
    ∙ ap (λ z. let r : Poles = record { source = q.source; sink = record { 0 = z } } in r) f

both_named : (from to : ℤ) (g : InputGraph) (p : Poles) → ArePolesNamed from to g (Ok p) → AreKnown g (from ∷ to ∷ [])
both_named from to g p h = ((p.source.0, h.0), ((p.sink.0, h.1), tt))

pub poles_one : (from to : ℤ) (g : InputGraph) → IsConsistent g → IsOne (ArePolesNamed from to g)
poles_one from to g tables (Ok p) (Ok q) h k = ok p q (same_poles p q (tables.different p.source.0 q.source.0 from h.0 k.0) (tables.different p.sink.0 q.sink.0 to h.1 k.1))
poles_one from to g tables (Ok p) (Err s) h k = absurd (known_unknown g (from ∷ to ∷ []) k.fault (both_named from to g p h) k.holds)
poles_one from to g tables (Err r) (Ok q) h k = absurd (known_unknown g (from ∷ to ∷ []) h.fault (both_named from to g q k) h.holds)
poles_one from to g tables (Err r) (Err s) h k = err r s (told_one (λ name. UnknownVertex name) (IsFirstUnknown g (from ∷ to ∷ [])) (same_unknown g (from ∷ to ∷ [])) r s h k)

pub two_one : (p : Poles) → IsOne (AreTwo p)
two_one p (Ok a) (Ok b) h k = refl
two_one p (Ok a) (Err s) h k = absurd (h k.1)
two_one p (Err r) (Ok b) h k = absurd (k h.1)
two_one p (Err r) (Err s) h k = err r s (h.0 ∙ sym k.0)

-- ---- loops
first_loop_same : (f : Graph) (d e : ℕ) → IsFirstLoop f d → IsFirstLoop f e → d ≡ e
first_loop_same f d e h k = elim (cases_order d e) [
  | inl q ↦ q
  | inr (inl l) ↦ absurd (k.first d l h.loop)
  | inr (inr l) ↦ absurd (h.first e l k.loop)
]

pub loopless_one : (g : InputGraph) → IsOne (IsLoopless g)
loopless_one g (Ok a) (Ok b) h k = refl
loopless_one g (Ok a) (Err s) h k = absurd (h k.fault k.holds.there k.holds.loop)
loopless_one g (Err r) (Ok b) h k = absurd (k h.fault h.holds.there h.holds.loop)
loopless_one g (Err r) (Err s) h k = err r s (told_one (λ e. NoOrientation (Loop (file_edge_name g e))) (IsFirstLoop g.graph) (first_loop_same g.graph) r s h k)

-- ---- the faults of the map
abbrev Euler : Embedded → Type 0
Euler m = m.vertices + faces m ≡ edges m + 2

data Told (g : InputGraph) (m : Embedded) (s t outer : ℕ) (r : Refusal) : Type 0 where
  apart : (v : ℕ) → r ≡ NoOrientation (Apart (file_vertex_name g v)) → IsFirstApart (bare m) s v → Told g m s t outer r
  bad_faces : r ≡ NotSt (BadFaces m.vertices (edges m) (faces m)) → IsConnected (bare m) s → (Euler m → ⊥) → Told g m s t outer r
  bad_outer : (a b : Bool) → r ≡ NotSt (Outer a b) → IsConnected (bare m) s → Euler m → (IsTrue a ↔ (Touches m outer s → ⊥)) → (IsTrue b ↔ (Touches m outer t → ⊥)) → IsTrue a ⊎ IsTrue b → Told g m s t outer r
  cut_off : (c v : ℕ) → r ≡ NoOrientation (Cut (file_vertex_name g c) (file_vertex_name g v)) → IsConnected (bare m) s → Euler m → Touches m outer s → Touches m outer t → IsFirstCut (bare m) s t c v → Told g m s t outer r

numbers : (v e f v' e' f' : ℕ) → v ≡ v' → e ≡ e' → f ≡ f' → NotSt (BadFaces v e f) ≡ NotSt (BadFaces v' e' f')
numbers v e f v' e' f' p q r = ap (λ z. NotSt (BadFaces z e f)) p ∙ ap (λ z. NotSt (BadFaces v' z f)) q ∙ ap (λ z. NotSt (BadFaces v' e' z)) r

told : (g : InputGraph) (m : Embedded) (s t outer : ℕ) (fault : OrientFault) (r : Refusal) → IsOrientFault m s t outer fault → TellsOrient g fault r → Told g m s t outer r
told g m s t outer (orient_fault.Apart v) r h e = apart v.0 e h
told g m s t outer (orient_fault.BadFaces v e f) r (joined, p, q, z, no_euler) is = bad_faces (is ∙ numbers v e f m.vertices (edges m) (faces m) p q z) joined no_euler
told g m s t outer (orient_fault.Outer a b) r (joined, euler, misses_s, misses_t, one) is = bad_outer a b is joined euler misses_s misses_t one
told g m s t outer (orient_fault.Cut c v) r (joined, euler, at_s, at_t, cut) is = cut_off c.0 v.0 is joined euler at_s at_t cut
told g m s t outer orient_fault.NoMemory r h k = absurd k

first_apart_same : (f : Graph) (s u v : ℕ) → IsFirstApart f s u → IsFirstApart f s v → u ≡ v
first_apart_same f s u v h k = elim (cases_order u v) [
  | inl q ↦ q
  | inr (inl l) ↦ absurd (h.apart (k.first u l))
  | inr (inr l) ↦ absurd (k.apart (h.first v l))
]

no_apart : (f : Graph) (s v : ℕ) → IsConnected f s → IsFirstApart f s v → ⊥
no_apart f s v joined h = h.apart (joined v h.within)

cut_same : (f : Graph) (s t c v c' v' : ℕ) → IsFirstCut f s t c v → IsFirstCut f s t c' v' → c ≡ c'
cut_same f s t c v c' v' h k = elim (cases_order c c') [
  | inl q ↦ q
  | inr (inl l) ↦ absurd (k.first_cut c v l h.cuts)
  | inr (inr l) ↦ absurd (h.first_cut c' v' l k.cuts)
]

off_same : (f : Graph) (s t c v v' : ℕ) → IsFirstCut f s t c v → IsFirstCut f s t c v' → v ≡ v'
off_same f s t c v v' h k = elim (cases_order v v') [
  | inl q ↦ q
  | inr (inl l) ↦ absurd (k.first_apart v l h.cuts)
  | inr (inr l) ↦ absurd (h.first_apart v' l k.cuts)
]

-- the outer face touches what it is said to miss
touched : (m : Embedded) (s t outer : ℕ) (a b : Bool) → (IsTrue a ↔ (Touches m outer s → ⊥)) → (IsTrue b ↔ (Touches m outer t → ⊥)) → IsTrue a ⊎ IsTrue b → Touches m outer s → Touches m outer t → ⊥
touched m s t outer a b misses_s misses_t (inl o) at_s at_t = misses_s.0 o at_s
touched m s t outer a b misses_s misses_t (inr o) at_s at_t = misses_t.0 o at_t

told_same : (g : InputGraph) (m : Embedded) (s t outer : ℕ) (r r' : Refusal) → Told g m s t outer r → Told g m s t outer r' → r ≡ r'
told_same g m s t outer r r' (apart v e h) (apart v' e' h') = e ∙ ap (λ z. NoOrientation (Apart (file_vertex_name g z))) (first_apart_same (bare m) s v v' h h') ∙ sym e'
told_same g m s t outer r r' (apart v e h) (bad_faces e' j n) = absurd (no_apart (bare m) s v j h)
told_same g m s t outer r r' (apart v e h) (bad_outer a b e' j u p q o) = absurd (no_apart (bare m) s v j h)
told_same g m s t outer r r' (apart v e h) (cut_off c w e' j u p q x) = absurd (no_apart (bare m) s v j h)
told_same g m s t outer r r' (bad_faces e j n) (apart v e' h) = absurd (no_apart (bare m) s v j h)
told_same g m s t outer r r' (bad_faces e j n) (bad_faces e' j' n') = e ∙ sym e'
told_same g m s t outer r r' (bad_faces e j n) (bad_outer a b e' j' u p q o) = absurd (n u)
told_same g m s t outer r r' (bad_faces e j n) (cut_off c w e' j' u p q x) = absurd (n u)
told_same g m s t outer r r' (bad_outer a b e j u p q o) (apart v e' h) = absurd (no_apart (bare m) s v j h)
told_same g m s t outer r r' (bad_outer a b e j u p q o) (bad_faces e' j' n) = absurd (n u)
told_same g m s t outer r r' (bad_outer a b e j u p q o) (bad_outer a' b' e' j' u' p' q' o') =
    e ∙ ap (λ z. NotSt (Outer z b)) (same_bool a a' p p') ∙ ap (λ z. NotSt (Outer a' z)) (same_bool b b' q q') ∙ sym e'
told_same g m s t outer r r' (bad_outer a b e j u p q o) (cut_off c w e' j' u' p' q' x) = absurd (touched m s t outer a b p q o p' q')
told_same g m s t outer r r' (cut_off c w e j u p q x) (apart v e' h) = absurd (no_apart (bare m) s v j h)
told_same g m s t outer r r' (cut_off c w e j u p q x) (bad_faces e' j' n) = absurd (n u)
told_same g m s t outer r r' (cut_off c w e j u p q x) (bad_outer a b e' j' u' p' q' o) = absurd (touched m s t outer a b p' q' o p q)
told_same g m s t outer r r' (cut_off c w e j u p q x) (cut_off c' w' e' j' u' p' q' x') =
    let same : c ≡ c' = cut_same (bare m) s t c w c' w' x x' in
    let moved : IsFirstCut (bare m) s t c w' = subst (λ z. IsFirstCut (bare m) s t z w') (sym same) x' in
    e ∙ ap (λ z. NoOrientation (Cut (file_vertex_name g z) (file_vertex_name g w))) same ∙ ap (λ z. NoOrientation (Cut (file_vertex_name g c') (file_vertex_name g z))) (off_same (bare m) s t c w w' x moved) ∙ sym e'

-- what a call says of a fault is an answer to the map
pub plane_stop : (g : InputGraph) (p : Poles) (m : Embedded) (fault : OrientFault) (stop : Stop) → IsOrientFault m p.source.0 p.sink.0 (outer_at g p m) fault → IsStop (TellsAt g fault) stop → IsStop (AnswersPlane g p m) stop
plane_stop g p m fault (Refused r) is h = (fault, is, h)
plane_stop g p m fault ReadFault is h = absurd h
plane_stop g p m fault WriteFault is h = absurd h
plane_stop g p m fault NoMemory is h = tt

-- ---- an orientation and a fault
-- a fault forbids every orientation
abbrev pub FaultForbids : Type 0
FaultForbids = (g : Embedded) (s t outer : ℕ) → IsPlane g s t outer → (f : OrientFault) → f ≢ orient_fault.NoMemory → IsOrientFault g s t outer f → (b : ℕ → Bool) (h : Embedded) → IsOrientation g s t outer b h → ⊥

-- want of memory is never told
is_told : (g : InputGraph) (fault : OrientFault) (r : Refusal) → TellsOrient g fault r → fault ≢ orient_fault.NoMemory
is_told g fault r h e = subst (λ (f : OrientFault). TellsOrient g f r) e h

module _ (forbids : FaultForbids) (loopless : AcyclicIsLoopless) where
  pub no_fault : (g : InputGraph) (p : Poles) (m : Embedded) (r : Refusal) (b : ℕ → Bool) (h : Embedded) → IsOrientation m p.source.0 p.sink.0 (outer_at g p m) b h → HasOrientFault g p m r → ⊥
  no_fault g p m r b h O (fault, is, tells) =
      forbids m p.source.0 p.sink.0 (outer_at g p m) (plane_before loopless m p.source.0 p.sink.0 (outer_at g p m) b h O) fault (is_told g fault r tells) is b h O

  plane_alike : (g : InputGraph) (p : Poles) (m : Embedded) → AllLike (AnswersPlane g p m)
  plane_alike g p m (Ok a) (Ok b) h k = inr tt
  plane_alike g p m (Ok a) (Err s) h k = absurd (no_fault g p m s h.b h.h h.is k)
  plane_alike g p m (Err r) (Ok b) h k = absurd (no_fault g p m r k.b k.h k.is h)
  plane_alike g p m (Err r) (Err s) (fault, is, tells) (fault', is', tells') =
      inl (err r s (told_same g m p.source.0 p.sink.0 (outer_at g p m) r s (told g m p.source.0 p.sink.0 (outer_at g p m) fault r is tells) (told g m p.source.0 p.sink.0 (outer_at g p m) fault' s is' tells')))

  like_same : (x y : Result (List ℕ) Refusal) → x ≡ y → Like x y
  like_same x y e = inl e

  poles_alike : (g : InputGraph) (p : Poles) → AllLike (AnswersPoles g p)
  poles_alike g p =
      alike_then Like like_same (AreTwo p) (λ _. Then (IsLoopless g) (λ _. Then (HasMap g) (AnswersPlane g p))) (two_one p)
      (λ _ _. alike_then Like like_same (IsLoopless g) (λ _. Then (HasMap g) (AnswersPlane g p)) (loopless_one g)
      (λ _ _. alike_then Like like_same (HasMap g) (AnswersPlane g p) (map_one g) (λ m _. plane_alike g p m)))

  graph_alike : (from to : ℤ) (g : InputGraph) → IsConsistent g → AllLike (AnswersGraphOriented from to g)
  graph_alike from to g tables = alike_then Like like_same (ArePolesNamed from to g) (AnswersPoles g) (poles_one from to g tables) (λ p _. poles_alike g p)

  pub orient_alike : (from to : ℤ) (bytes : List ℕ) → AllLike (AnswersOrient from to bytes)
  orient_alike from to bytes =
      alike_then Like like_same (IsGraphWithin bytes) (AnswersGraphOriented from to) (graph_within_one bytes) (λ g is. graph_alike from to g (consistent_within bytes g is))

  -- ---- a graph with an orientation
  -- what has an orientation isn't refused one
  pub orientable_given : (from to : ℤ) (bytes : List ℕ) (g : InputGraph) → IsGraphWithin bytes (Ok g) → IsOrientable from to g → (r : Refusal) → AnswersOrient from to bytes (Err r) → ⊥
  orientable_given from to bytes g graph o r h =
      let plane : IsPlane o.m o.p.source.0 o.p.sink.0 (outer_at g o.p o.m) = plane_before loopless o.m o.p.source.0 o.p.sink.0 (outer_at g o.p o.m) o.b o.h o.is in
      let none : HasNoLoop g.graph = subst (λ (z : Embedded). HasNoLoop (bare z)) o.map.0 plane.no_loop in
      let first = next_says (IsGraphWithin bytes) (AnswersGraphOriented from to) (graph_within_one bytes) g graph (Err r) h in
      let second = next_says (ArePolesNamed from to g) (AnswersPoles g) (poles_one from to g (consistent_within bytes g graph)) o.p o.named (Err r) first in
      let third = next_says (AreTwo o.p) (λ _. Then (IsLoopless g) (λ _. Then (HasMap g) (AnswersPlane g o.p))) (two_one o.p) tt plane.poles (Err r) second in
      let fourth = next_says (IsLoopless g) (λ _. Then (HasMap g) (AnswersPlane g o.p)) (loopless_one g) tt none (Err r) third in
      let last = next_says (HasMap g) (AnswersPlane g o.p) (map_one g) o.m o.map (Err r) fourth in
      no_fault g o.p o.m r o.b o.h o.is last
