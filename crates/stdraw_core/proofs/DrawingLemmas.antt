-- What a drawing needs of an accepted graph, and what follows for its output.
use Rattle.std.proofs.Common.{◌≡◌, ℕ, suc, ◌+◌, ◌-◌, ◌<◌, ◌≤◌, List, [], ◌∷◌, length, get_or, Option, Some, None, ℤ, pos, nat_abs, refl, sym, ap, ◌∙◌, subst, arith}
use Rattle.std.specs.Prelude.{All, Result, Ok, Err, IfOk}
use Rattle.std.specs.List.{AllByRecursion}
use Rattle.std.proofs.lemmas.List.Elements.{All-get_or}
use Rattle.std.proofs.lemmas.Int.{ints}
use Rattle.std.proofs.lemmas.Option.{slice_get-get_or}
use Rattle.st_ids.specs.declared.names.Names.{Names}
use Rattle.st_map.specs.Embedded.{Embedded}
use Rattle.st_test.specs.Planar.{StValue}
use Rattle.st_sides.specs.Sides.{SidesValue, edge_count}
use Rattle.st_sides.specs.SidesOf.{IsSidesOf}
use Rattle.st_picture.specs.Naming.{AreNames, IsLabelText, vertex_name, label_text}
use Rattle.st_ids.specs.Lengths.{IsLength}
use Rattle.st_input.specs.InputGraph.{InputGraph, IsConsistent, IsLabel, IsShownByte}
use Rattle.st_verdict.specs.Verdict.{IsFound}
use Rattle.st_ids.specs.declared.ids.EdgeId.{EdgeId}
use Rattle.st_ids.specs.Walks.{Arcs, Walk, stay, step}
use Rattle.st_shape.specs.Rules.{Drawing, IsPrintable}
use Rattle.st_number.specs.Greatest.{weigh, IsGreatest}
use Rattle.st_number.specs.Numbers.{AreNumbers}
use Rattle.draw_poly.specs.Placing.{AreEnds}
use Rattle.draw_poly.specs.Polyline.{IsPolylineBy}
use Rattle.st_sides.specs.Sides.{IsSides, left_of, right_of}
use Rattle.st_sides.proofs.Public.{right_within}
use Rattle.st_number.proofs.Public.{bounds_law}
use Rattle.st_words.specs.declared.words.Spot.{Spot}
use Rattle.draw_vis.specs.Visibility.{IsVisibility, IsVisibilityBy}
use Rattle.draw_vis.specs.Tessellation.{IsTessellation, IsTessellationBy}
use Rattle.stdraw_core.specs.Drawing.{file_names, edge_length, AnswersLengths, AnswersRows, AnswersPlaces, IsPlacedPolyline}

-- ---- names
all_by_place : (P : ℕ → Type 0) (xs : List ℕ) → ((i : ℕ) → i < length xs → P (get_or xs i 0)) → AllByRecursion P xs
all_by_place P [] each = tt
all_by_place P (x ∷ xs) each = (each 0 (omega arith), all_by_place P xs (λ i l. each (suc i) (omega arith)))

label_prints : (text : List ℕ) → IsLabel text → IsLabelText text
label_prints text h = (h.0, h.1, all_by_place IsPrintable text (λ i l. All-get_or IsShownByte text i 0 l h.2))

-- the names of a file are names for its sides
pub names_meet : (g : InputGraph) (st : StValue) (x : SidesValue) → IsConsistent g → IsFound g st → IsSidesOf st.map.graph st.source st.sink st.outer x → AreNames x (file_names g)
unfolding vertex_name label_text edge_count
names_meet g st x tables is of =
    let n : x.vertices ≡ g.graph.vertices = of.vertices ∙ is.vertices in
    let named : length g.vertex_names ≡ g.graph.vertices = tables.vertex_names in
    let shown : length g.labels ≡ g.graph.vertices = tables.labels in
    record {
      vertices = tables.vertex_names ∙ sym n;
      edges = tables.edge_names ∙ sym (ap length (of.ends ∙ is.ends));
      labels = tables.labels ∙ sym n;
      differ = λ u v lu lv e. tables.different u v (get_or g.vertex_names v (pos 0))
          (slice_get-get_or g.vertex_names u (pos 0) (omega arith) ∙ ap (λ (z : ℤ). Some z) e) (slice_get-get_or g.vertex_names v (pos 0) (omega arith));
      texts = λ v text lv e. label_prints text (tables.shown v text (slice_get-get_or g.labels v None (omega arith) ∙ ap (λ (z : Option (List ℕ)). Some z) e));
    }

-- ---- weights
-- equal weights of the arcs give equal weights of walks
same_weigh : {D : Arcs} (w w' : ℕ → ℕ) → ((e : ℕ) → e < D.count → w e ≡ w' e) → {u v : ℕ} {es : List ℕ} → Walk D u es v → weigh w es ≡ weigh w' es
same_weigh w w' same (stay q) = refl
same_weigh w w' same (step {e = e} {es = es} l f rest) = ap (λ z. z + weigh w es) (same e l) ∙ ap (λ z. w' e + z) (same_weigh w w' same rest)

pub same_greatest : {D : Arcs} (w w' : ℕ → ℕ) → ((e : ℕ) → e < D.count → w e ≡ w' e) → (a v n : ℕ) → IsGreatest D w a v n → IsGreatest D w' a v n
same_greatest w w' same a v n h = record {
  way = h.way;
  walk = h.walk;
  weighs = sym (same_weigh w w' same h.walk) ∙ h.weighs;
  most = λ es r. subst (λ z. z ≤ n) (same_weigh w w' same r) (h.most es r);
}

pub same_numbers : (x : SidesValue) (w w' y c : ℕ → ℕ) → ((e : ℕ) → e < edge_count x → w e ≡ w' e) → AreNumbers x w y c → AreNumbers x w' y c
same_numbers x w w' y c same h = record { height = λ v l. same_greatest w w' same x.source v (y v) (h.height v l); column = h.column }

-- the picture under answers that are these weights
pub visibility_by : (post : EdgeId → ℕ → Type 0) (x : SidesValue) (w : ℕ → ℕ) (N : Names) (d : Drawing) → ((e : EdgeId) (n : ℕ) → e.0 < edge_count x → post e n → n ≡ w e.0)
    → IsVisibilityBy post x N d → IsVisibility x w N d
visibility_by post x w N d answers h = record {
  y = h.picture.y;
  c = h.picture.c;
  numbers = same_numbers x h.weight w h.picture.y h.picture.c (λ e l. answers (record { 0 = e }) (h.weight e) l (h.taken e l)) h.picture.numbers;
  is = h.picture.is;
}

pub tessellation_by : (post : EdgeId → ℕ → Type 0) (x : SidesValue) (w : ℕ → ℕ) (N : Names) (d : Drawing) → ((e : EdgeId) (n : ℕ) → e.0 < edge_count x → post e n → n ≡ w e.0)
    → IsTessellationBy post x N d → IsTessellation x w N d
tessellation_by post x w N d answers h = record {
  y = h.picture.y;
  c = h.picture.c;
  numbers = same_numbers x h.weight w h.picture.y h.picture.c (λ e l. answers (record { 0 = e }) (h.weight e) l (h.taken e l)) h.picture.numbers;
  is = h.picture.is;
}

-- the lengths of the file are those of the edges of its sides
pub lengths_there : (g : InputGraph) (st : StValue) (x : SidesValue) → IsConsistent g → IsFound g st → IsSidesOf st.map.graph st.source st.sink st.outer x → length g.lengths ≡ edge_count x
unfolding edge_count
lengths_there g st x tables is of = tables.lengths ∙ sym (ap length (of.ends ∙ is.ends))

-- an edge has a length of at least 1
pub long_enough : (ls : List ℕ) → All IsLength ls → (e : ℕ) → e < length ls → 1 ≤ get_or ls e 0
long_enough ls all e l = let is : IsLength (get_or ls e 0) = All-get_or IsLength ls e 0 l all in is.0

pub lengths_from_one : (g : InputGraph) (st : StValue) (x : SidesValue) → IsConsistent g → IsFound g st → IsSidesOf st.map.graph st.source st.sink st.outer x → (e : ℕ) → e < edge_count x → 1 ≤ edge_length g e
lengths_from_one g st x tables is of e l = long_enough g.lengths tables.rows e (let m : length g.lengths ≡ edge_count x = lengths_there g st x tables is of in omega arith)

-- a closure that answers the lengths of the file answers those of the edges of its sides
pub answers_there : (answer : EdgeId → ℕ → Type 0) (g : InputGraph) (st : StValue) (x : SidesValue) → IsConsistent g → IsFound g st → IsSidesOf st.map.graph st.source st.sink st.outer x
    → AnswersLengths answer g → (e : EdgeId) (n : ℕ) → e.0 < edge_count x → answer e n → n ≡ edge_length g e.0
answers_there answer g st x tables is of answers e n l h = answers e n (let m : length g.lengths ≡ edge_count x = lengths_there g st x tables is of in omega arith) h

pub if_ok : {A E : Type 0} {P Q : A → Type 0} (r : Result A E) → IfOk r P → ((a : A) → P a → Q a) → IfOk r Q
if_ok (Ok a) h f = f a h
if_ok (Err e) h f = tt

-- ---- the numbers of a picture
pub names_are : (g : InputGraph) (N : Names) → N.vertex ≡ g.vertex_names → N.edge ≡ g.edge_names → N.label ≡ g.labels → N ≡ file_names g
names_are g N v e l =
    ap (λ (z : List ℤ). let r : Names = record { vertex = z; edge = N.edge; label = N.label } in r) v
    ∙ ap (λ (z : List ℤ). let r : Names = record { vertex = g.vertex_names; edge = z; label = N.label } in r) e
    ∙ ap (λ (z : List (Option (List ℕ))). let r : Names = record { vertex = g.vertex_names; edge = g.edge_names; label = z } in r) l

pub edges_within : (g : InputGraph) (st : StValue) (x : SidesValue) → IsFound g st → IsSidesOf st.map.graph st.source st.sink st.outer x → (n : ℕ) → length g.graph.ends ≤ n → edge_count x ≤ n
unfolding edge_count
edges_within g st x is of n few = let q : length x.ends ≡ length g.graph.ends = ap length (of.ends ∙ is.ends) in omega arith

pub edges_are : (st : StValue) (x : SidesValue) → IsSidesOf st.map.graph st.source st.sink st.outer x → edge_count x ≡ length st.map.graph.ends
unfolding edge_count
edges_are st x of = ap length of.ends

-- ---- polylines
pos_same : (m n : ℕ) → pos m ≡ pos n → m ≡ n
pos_same m n e = ap nat_abs e

-- the picture under what the closures answered
pub placed_polyline : (answer : EdgeId → ℕ → Type 0) (place : ℤ → ℤ → ℤ → Type 0) (spot : Spot) (g : Embedded) (s t outer : ℕ) (x : SidesValue) → IsSidesOf g s t outer x → IsSides x → edge_count x ≤ 50000000
    → (l : ℕ → ℕ) (N : Names) (d : Drawing) → AnswersRows answer g l → AnswersPlaces spot place → IsPolylineBy answer place x N d → IsPlacedPolyline spot g l x N d
unfolding edge_count
placed_polyline answer place spot g s t outer x of S few long N d rows places h = record {
  weight = h.weight;
  rows = record {
    double = λ e l p. rows.double (record { 0 = e }) (h.weight e) l p (h.taken e (there e l));
    single = λ e l n. rows.single (record { 0 = e }) (h.weight e) l n (h.taken e (there e l));
  };
  column = h.at;
  picture = h.picture;
  placed = λ v l.
      let low : h.picture.c (left_of x v) ≤ h.at v = h.picture.from v l in
      let high : h.at v ≤ h.picture.c (right_of x v) - 1 = h.picture.to v l in
      let most : h.picture.c (right_of x v) ≤ edge_count x = (bounds_law x S).columns (right_of x v) (h.picture.c (right_of x v)) (h.picture.numbers.column (right_of x v) (right_within x S v l)) in
      pos_same (h.at v) _ (places (h.picture.c (left_of x v)) (h.picture.c (right_of x v) - 1) (pos (h.at v)) (ends (h.picture.c (left_of x v)) (h.picture.c (right_of x v) - 1) (omega arith) (omega arith)) (h.placed v l));
}
  where
    there : (e : ℕ) → e < length g.ends → e < length x.ends
    there e l = let q : length x.ends ≡ length g.ends = ap length of.ends in omega arith

    ends : (l h : ℕ) → l ≤ h → h ≤ 50000000 → AreEnds (pos l) (pos h)
    ends l h a b = record { from_zero = omega (arith, ints); in_order = omega (arith, ints, a); to_greatest = omega (arith, ints, b) }
