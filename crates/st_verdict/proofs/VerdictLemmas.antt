-- What joins the tests of a planar st-graph to the graph of a file.
use Rattle.std.proofs.Common.{◌≡◌, ℕ, zero, suc, ◌<◌, List, [], ◌∷◌, length, get_or, Some, None, refl, sym, ap, ◌∙◌, subst, arith}
use Rattle.std.specs.Prelude.{slice_index, unwrap_or, option_map, Result, Ok, Err, IfOk}
use Rattle.std.specs.declared.option.Option.{Option}
use Rattle.std.proofs.lemmas.List.{get_or-map, length-map}
use Rattle.st_ids.specs.declared.ids.EdgeId.{EdgeId}
use Rattle.st_ids.specs.declared.ends.Dart.{Dart}
use Rattle.st_ids.specs.EdgeNumbers.{numbers}
use Rattle.st_ids.specs.Graph.{Graph}
use Rattle.st_ids.specs.Lists.{In, here, there}
use Rattle.st_ids.specs.Walks.{Arcs, Walk, stay, step}
use Rattle.st_map.specs.Embedded.{Embedded}
use Rattle.st_map.specs.Orders.{HasEdges}
use Rattle.st_test.specs.Cycle.{IsLoop}
use Rattle.st_test.specs.Planar.{IsPlanarSt, StValue, outer_of}
use Rattle.st_input.specs.InputGraph.{InputGraph, AreListed}
use Rattle.st_report.specs.declared.stop.Refusal.{Refusal}
use Rattle.st_report.specs.declared.stop.Stop.{Stop}
use Rattle.st_verdict.specs.Stages.{refuses, goes_on}
use Rattle.st_verdict.specs.Stops.{StopsAt, Gives}
use Rattle.st_verdict.specs.Verdict.{IsAccepted, IsFound, outer_or_first}

-- ---- orders
same_default : {X : Type 0} (xs : List X) (k : ℕ) (a b : X) → k < length xs → get_or xs k a ≡ get_or xs k b
same_default [] k a b l = absurd (omega arith)
same_default (x ∷ xs) zero a b l = refl
same_default (x ∷ xs) (suc k) a b l = same_default xs k a b (omega arith)

item_in : (xs : List ℕ) (k d : ℕ) → k < length xs → In (get_or xs k d) xs
item_in [] k d l = absurd (omega arith)
item_in (x ∷ xs) zero d l = here refl
item_in (x ∷ xs) (suc k) d l = there (item_in xs k d (omega arith))

-- where each listed edge is there, so are the edges of each list
pub all_listed : (g : Graph) (orders : List (List ℕ)) → length orders ≡ g.vertices → AreListed g orders → HasEdges g orders
all_listed g orders n listed = λ k d l j e m.
    let same : get_or orders k d ≡ get_or orders k [] = same_default orders k d [] l in
    let there' : In (get_or (get_or orders k d) j e) (get_or orders k d) = item_in (get_or orders k d) j e m in
    listed k (get_or (get_or orders k d) j e) (omega arith) (subst (λ z. In (get_or (get_or orders k d) j e) z) same there')

-- ---- the edges of a cycle
walk_at : {D : Arcs} {u v : ℕ} {es : List ℕ} → Walk D u es v → (i : ℕ) → i < length es → get_or es i 0 < D.count
walk_at (stay q) i l = absurd (omega arith)
walk_at (step a f r) zero l = a
walk_at (step a f r) (suc i) l = walk_at r i (omega arith)

pub loop_within : (g : Graph) (es : List ℕ) (items : List EdgeId) → numbers items ≡ es → IsLoop g es → (i : ℕ) → i < length items → slice_index (numbers items) i < length g.ends
loop_within g es items is loop i l =
    let n : length (numbers items) ≡ length items = length-map items (λ e. e.0) in
    let n' : length (numbers items) ≡ length es = ap length is in
    subst (λ z. get_or z i 0 < length g.ends) (sym is) (walk_at loop.1 i (omega arith))

abbrev edge_number : EdgeId → ℕ
edge_number e = e.0

pub item_within : (items : List EdgeId) (n i : ℕ) (d : EdgeId) → i < length items → ((k : ℕ) → k < length items → slice_index (numbers items) k < n) → (get_or items i d).0 < n
item_within items n i d l all = let at : get_or (numbers items) i 0 ≡ (get_or items i d).0 = get_or-map edge_number items i d 0 l in let h : get_or (numbers items) i 0 < n = all i l in omega arith

-- ---- the outer end
pub outer_same : (g : InputGraph) (m : Embedded) (s : ℕ) (o : Option Dart) → option_map (λ d. d.0) o ≡ g.outer → outer_of m s o ≡ outer_or_first g m s
outer_same g m s None h = ap (λ (z : Option ℕ). unwrap_or z (outer_of m s None)) h
outer_same g m s (Some d) h = ap (λ (z : Option ℕ). unwrap_or z (outer_of m s None)) h

-- ---- stages
pub gives_of : {A : Type 0} (stage : Result A Refusal → Type 0) (result : Result A Stop) → IfOk result (λ x. stage (Ok x)) → StopsAt stage result → Gives stage result
gives_of stage (Ok x) ok err = ok
gives_of stage (Err stop) ok err = err

-- what follows of each value that is found
pub if_ok : {A E : Type 0} {P Q : A → Type 0} (r : Result A E) → IfOk r P → ((a : A) → P a → Q a) → IfOk r Q
if_ok (Ok a) h f = f a h
if_ok (Err e) h f = tt

-- ---- what is accepted
mixed : (x : StValue) (r : Refusal) → (let a : Result StValue Refusal = Ok x in a) ≡ Err r → ⊥
mixed x r h = cc

pub found : (g : InputGraph) (st : StValue) → IsAccepted g (Ok st) → IsFound g st
found g st (refuses r h e) = absurd (mixed st r e)
found g st (goes_on p h (refuses r k e)) = absurd (mixed st r e)
found g st (goes_on p h (goes_on m k planar)) = record {
  planar = subst (λ (z : StValue). IsPlanarSt z.map.graph z.source z.sink z.outer) (sym planar.1) planar.0;
  vertices = ap (λ (z : StValue). z.map.graph.vertices) planar.1 ∙ ap (λ (z : Embedded). z.vertices) k.0;
  ends = ap (λ (z : StValue). z.map.graph.ends) planar.1 ∙ ap (λ (z : Embedded). z.ends) k.0;
}
