-- A graph has at most one answer of the tests.
use Rattle.std.proofs.Common.{◌≡◌, ◌≢◌, ℕ, zero, suc, ◌<◌, ◌≤◌, inl, inr, List, [], ◌∷◌, length, get_or, refl, sym, ap, ◌∙◌, subst, arith}
use Rattle.std.specs.Prelude.{Result, Ok, Err}
use Rattle.std.proofs.lemmas.Bool.{cases_eq}
use Rattle.st_ids.specs.Graph.{Graph, arcs_of}
use Rattle.st_ids.specs.Walks.{IsAcyclic}
use Rattle.st_ids.specs.declared.ids.VertexId.{VertexId}
use Rattle.st_test.specs.Cycle.{IsLoop}
use Rattle.st_test.specs.Poles.{NoneIn, NoneOut, ArePoles}
use Rattle.st_test.specs.PolesAnswer.{AreInOrder, AreFirstTwo, IsFirstDigraphFault, IsPolesAnswer}
use Rattle.st_test.specs.declared.digraph_fault.Poles.{Poles}
use Rattle.st_test.specs.declared.digraph_fault.DigraphFault.{DigraphFault}
use Rattle.st_test.specs.declared.digraph_fault.DigraphFault.TheVariants.{TooFew, Cycle, Sources, Sinks, NoMemory}
use Rattle.st_test.proofs.OneCycle.{cycle_same}

-- ---- a list in order is the only one
first_le : (n : ℕ) (P : ℕ → Type 0) (x : ℕ) (xs : List ℕ) → AreInOrder n P (x ∷ xs) → (v : ℕ) → v < n → P v → x ≤ v
first_le n P x xs h v l p =
    let r : (k : ℕ) × (k < length (x ∷ xs)) × (get_or (x ∷ xs) k 0 ≡ v) = h.each v l p in
    elim (cases_eq r.0 0) [
      | inl q ↦ (let e : x ≡ v = ap (λ k. get_or (x ∷ xs) k 0) (sym q) ∙ r.2 in omega arith)
      | inr ne ↦ (let e : x < get_or (x ∷ xs) r.0 0 = h.ordered 0 r.0 (omega arith) r.1 in omega (arith, r.2))
    ]

place_after : (x v : ℕ) (xs : List ℕ) (k : ℕ) → k < length (x ∷ xs) → get_or (x ∷ xs) k 0 ≡ v → x < v → (j : ℕ) × (j < length xs) × (get_or xs j 0 ≡ v)
place_after x v xs zero l q lt = absurd (omega arith)
place_after x v xs (suc k) l q lt = (k, omega arith, q)

rest_in_order : (n : ℕ) (P : ℕ → Type 0) (x : ℕ) (xs : List ℕ) → AreInOrder n P (x ∷ xs) → AreInOrder n (λ v. P v × (x < v)) xs
rest_in_order n P x xs h = record {
  only = λ k l. ((h.only (suc k) (omega arith)).0, ((h.only (suc k) (omega arith)).1, h.ordered 0 (suc k) (omega arith) (omega arith)));
  each = λ v l p.
      let r : (k : ℕ) × (k < length (x ∷ xs)) × (get_or (x ∷ xs) k 0 ≡ v) = h.each v l p.0 in
      place_after x v xs r.0 r.1 r.2 p.1;
  ordered = λ i k l m. h.ordered (suc i) (suc k) (omega arith) (omega arith);
}

in_order_same : (n : ℕ) (P : ℕ → Type 0) (xs ys : List ℕ) → AreInOrder n P xs → AreInOrder n P ys → xs ≡ ys
in_order_same n P [] [] h k = refl
in_order_same n P [] (y ∷ ys) h k =
    let p : (y < n) × P y = k.only 0 (omega arith) in
    absurd (omega (arith, (h.each y p.0 p.1).1))
in_order_same n P (x ∷ xs) [] h k =
    let p : (x < n) × P x = h.only 0 (omega arith) in
    absurd (omega (arith, (k.each x p.0 p.1).1))
in_order_same n P (x ∷ xs) (y ∷ ys) h k =
    let p : (x < n) × P x = h.only 0 (omega arith) in
    let q : (y < n) × P y = k.only 0 (omega arith) in
    let e : x ≡ y = omega (arith, first_le n P x xs h y q.0 q.1, first_le n P y ys k x p.0 p.1) in
    let r : xs ≡ ys = in_order_same n (λ v. P v × (x < v)) xs ys (rest_in_order n P x xs h)
    (subst (λ z. AreInOrder n (λ v. P v × (z < v)) ys) (sym e) (rest_in_order n P y ys k)) in
    ap (λ z. z ∷ xs) e ∙ ap (λ zs. y ∷ zs) r

module _ (n : ℕ) (P : ℕ → Type 0) (a b k c d l : ℕ) (x : AreFirstTwo n P a b k) (y : AreFirstTwo n P c d l) where
  all_same : x.all ≡ y.all
  all_same = in_order_same n P x.all y.all x.are y.are

  count_same : k ≡ l
  count_same = sym x.many ∙ ap length all_same ∙ y.many

  one_same : a ≡ c
  one_same = sym x.is_first ∙ ap (λ zs. get_or zs 0 0) all_same ∙ y.is_first

  two_same : b ≡ d
  two_same = sym x.is_second ∙ ap (λ zs. get_or zs 1 0) all_same ∙ y.is_second

-- ---- two vertices are not one
not_one : (n : ℕ) (P : ℕ → Type 0) (a b k s : ℕ) → AreFirstTwo n P a b k → ((v : ℕ) → v < n → P v → v ≡ s) → ⊥
not_one n P a b k s h only =
    let l : 1 < length h.all = omega (arith, h.many, h.two) in
    let p : (get_or h.all 0 0 < n) × P (get_or h.all 0 0) = h.are.only 0 (omega arith) in
    let q : (get_or h.all 1 0 < n) × P (get_or h.all 1 0) = h.are.only 1 l in
    let o : get_or h.all 0 0 < get_or h.all 1 0 = h.are.ordered 0 1 (omega arith) l in
    omega (arith, only (get_or h.all 0 0) p.0 p.1, only (get_or h.all 1 0) q.0 q.1)

few : {n : ℕ} → n < 2 → 2 ≤ n → ⊥
few {n} a b = omega arith

no_loop : (g : Graph) (es : List ℕ) → IsLoop g es → IsAcyclic (arcs_of g) → ⊥
no_loop g [] h acyclic = let l : 0 < 0 = h.2 in omega arith
no_loop g (e ∷ es) h acyclic = acyclic h.0 e es h.1

abbrev vertex : ℕ → VertexId
vertex v = record { 0 = v }

abbrev sources : ℕ → ℕ → ℕ → DigraphFault
sources a b k = Sources (vertex a) (vertex b) k

abbrev sinks : ℕ → ℕ → ℕ → DigraphFault
sinks a b k = Sinks (vertex a) (vertex b) k

abbrev are_poles : ℕ → ℕ → Poles
are_poles s t = record { source = vertex s; sink = vertex t }

three : (f : ℕ → ℕ → ℕ → DigraphFault) (a b k c d l : ℕ) → a ≡ c → b ≡ d → k ≡ l → f a b k ≡ f c d l
three f a b k c d l p q r = ap (λ z. f z b k) p ∙ ap (λ z. f c z k) q ∙ ap (λ z. f c d z) r

-- ---- a fault is the only one
module _ (g : Graph) where
  fault_same : (x y : DigraphFault) → IsFirstDigraphFault g x → IsFirstDigraphFault g y → x ≢ NoMemory → y ≢ NoMemory → x ≡ y
  fault_same NoMemory y h k nx ny = absurd (nx refl)
  fault_same (TooFew a) NoMemory h k nx ny = absurd (ny refl)
  fault_same (TooFew a) (TooFew b) h k nx ny = ap TooFew (h.0 ∙ sym k.0)
  fault_same (TooFew a) (Cycle es) h k nx ny = absurd (few h.1 k.0)
  fault_same (TooFew a) (Sources c d l) h k nx ny = absurd (few h.1 k.0)
  fault_same (TooFew a) (Sinks c d l) h k nx ny = absurd (few h.1 k.0)
  fault_same (Cycle es) NoMemory h k nx ny = absurd (ny refl)
  fault_same (Cycle es) (TooFew b) h k nx ny = absurd (few k.1 h.0)
  fault_same (Cycle es) (Cycle ds) h k nx ny = ap Cycle (cycle_same g es ds h.1 k.1)
  fault_same (Cycle es) (Sources c d l) h k nx ny = absurd (no_loop g es h.2 k.1)
  fault_same (Cycle es) (Sinks c d l) h k nx ny = absurd (no_loop g es h.2 k.1)
  fault_same (Sources a b m) NoMemory h k nx ny = absurd (ny refl)
  fault_same (Sources a b m) (TooFew c) h k nx ny = absurd (few k.1 h.0)
  fault_same (Sources a b m) (Cycle es) h k nx ny = absurd (no_loop g es k.2 h.1)
  fault_same (Sources a b m) (Sources c d l) h k nx ny = three sources a.0 b.0 m c.0 d.0 l
      (one_same g.vertices (NoneIn g) a.0 b.0 m c.0 d.0 l h.2 k.2)
      (two_same g.vertices (NoneIn g) a.0 b.0 m c.0 d.0 l h.2 k.2)
      (count_same g.vertices (NoneIn g) a.0 b.0 m c.0 d.0 l h.2 k.2)
  fault_same (Sources a b m) (Sinks c d l) h k nx ny = absurd (not_one g.vertices (NoneIn g) a.0 b.0 m k.2.0 h.2 k.2.1.only)
  fault_same (Sinks a b m) NoMemory h k nx ny = absurd (ny refl)
  fault_same (Sinks a b m) (TooFew c) h k nx ny = absurd (few k.1 h.0)
  fault_same (Sinks a b m) (Cycle es) h k nx ny = absurd (no_loop g es k.2 h.1)
  fault_same (Sinks a b m) (Sources c d l) h k nx ny = absurd (not_one g.vertices (NoneIn g) c.0 d.0 l h.2.0 k.2 h.2.1.only)
  fault_same (Sinks a b m) (Sinks c d l) h k nx ny = three sinks a.0 b.0 m c.0 d.0 l
      (one_same g.vertices (NoneOut g) a.0 b.0 m c.0 d.0 l h.3 k.3)
      (two_same g.vertices (NoneOut g) a.0 b.0 m c.0 d.0 l h.3 k.3)
      (count_same g.vertices (NoneOut g) a.0 b.0 m c.0 d.0 l h.3 k.3)

  -- where there are poles there is no fault
  no_fault : (s t : ℕ) (x : DigraphFault) → ArePoles g s t → IsFirstDigraphFault g x → x ≢ NoMemory → ⊥
  no_fault s t NoMemory p h nx = nx refl
  no_fault s t (TooFew a) p h nx = few h.1 p.two
  no_fault s t (Cycle es) p h nx = no_loop g es h.2 p.no_cycle
  no_fault s t (Sources a b m) p h nx = not_one g.vertices (NoneIn g) a.0 b.0 m s h.2 p.source.only
  no_fault s t (Sinks a b m) p h nx = not_one g.vertices (NoneOut g) a.0 b.0 m t h.3 p.sink.only

pub answer_same : (g : Graph) (x y : Result Poles DigraphFault) → IsPolesAnswer g x → IsPolesAnswer g y
    → x ≢ Err NoMemory → y ≢ Err NoMemory → x ≡ y
answer_same g (Ok p) (Ok q) h k nx ny =
    ap (λ z. Ok (are_poles z p.sink.0)) (k.source.only p.source.0 h.source.there h.source.none_in)
    ∙ ap (λ z. Ok (are_poles q.source.0 z)) (k.sink.only p.sink.0 h.sink.there h.sink.none_out)
answer_same g (Ok p) (Err f) h k nx ny = absurd (no_fault g p.source.0 p.sink.0 f h k (λ e. ny (ap Err e)))
answer_same g (Err f) (Ok p) h k nx ny = absurd (no_fault g p.source.0 p.sink.0 f k h (λ e. nx (ap Err e)))
answer_same g (Err f) (Err d) h k nx ny = ap Err (fault_same g f d h k (λ e. nx (ap Err e)) (λ e. ny (ap Err e)))
