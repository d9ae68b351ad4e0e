-- The edges out of a vertex that is no pole are some, and are read from its list.
use Rattle.std.proofs.Common.{◌≡◌, ◌≢◌, ℕ, ◌-◌, ◌<◌, ◌⊎◌, inr, true, List, [], length, get_or, sym, ap, ◌∙◌, subst, arith}
use Rattle.std.specs.Prelude.{Some, slice_get}
use Rattle.std.proofs.lemmas.List.{length-map, get_or-map}
use Rattle.std.proofs.lemmas.Option.{get_or_from_slice_get}
use Rattle.st_ids.specs.EdgeNumbers.{numbers}
use Rattle.st_ids.specs.Ends.{is_out, edge_of}
use Rattle.st_ids.specs.declared.ids.EdgeId.{EdgeId}
use Rattle.st_map.specs.Embedded.{Embedded, at, darts, edges}
use Rattle.st_map.proofs.Public.{at-out, edge_of-below}
use Rattle.st_test.specs.Planar.{IsPlanarSt}
use Rattle.st_sides.specs.Conditions.{AreOuts}
use Rattle.st_sides.specs.Filled.{IsFilled}
use Rattle.st_sides.specs.LocalSides.{first, last}
use Rattle.st_sides.proofs.FaceRuns.{end_out}

abbrev pub none_edge : EdgeId
none_edge = record { 0 = 0 }

pub edge_there : (g : Embedded) (s t outer : ℕ) → IsPlanarSt g s t outer → (os : List (List ℕ)) → IsFilled [] (λ v es. AreOuts g s outer v es) g.vertices os
    → (v : ℕ) → v < g.vertices → ((v ≡ s) ⊎ (v ≡ t) → ⊥) → (list : List EdgeId) → slice_get os v ≡ Some (numbers list)
    → (0 < length list) × (length list ≡ length (get_or os v [])) × ((i : ℕ) → i < length list → ((get_or list i none_edge).0 ≡ get_or (get_or os v []) i 0) × ((get_or list i none_edge).0 < edges g))
edge_there g s t outer st os h v lv np list q =
    let es : List ℕ = get_or os v [] in
    let is : es ≡ numbers list = get_or_from_slice_get os v (numbers list) [] q in
    let len : length list ≡ length es = sym (length-map list (λ (z : EdgeId). z.0)) ∙ ap (λ (z : List ℕ). length z) (sym is) in
    let a : AreOuts g s outer v es = h.each v lv in
    let d : (d : ℕ) × (d < darts g) × (at g d ≡ v) × (is_out d ≡ true) = end_out g s t outer st v lv (λ e. np (inr e)) in
    let r : (i : ℕ) × (i < length es) × (get_or es i 0 ≡ edge_of d.0) = a.has.each (edge_of d.0) (edge_of-below (edges g) d.0 d.1) (sym (at-out g d.0 d.3) ∙ d.2) in (
      omega (arith, r.1, len),
      len,
      λ i l.
          let e : (get_or list i none_edge).0 ≡ get_or es i 0 = sym (get_or-map (λ (z : EdgeId). z.0) list i none_edge 0 l) ∙ ap (λ (z : List ℕ). get_or z i 0) (sym is) in
          (e, subst (λ z. z < edges g) (sym e) (a.has.only i (omega (arith, len))).0),
    )

pub some_end : (g : Embedded) (s t outer : ℕ) → IsPlanarSt g s t outer → (v : ℕ) → v < g.vertices → v ≢ t → (es : List ℕ) → AreOuts g s outer v es → (first es < edges g) × (last es < edges g)
some_end g s t outer st v lv nt es a =
    let d : (d : ℕ) × (d < darts g) × (at g d ≡ v) × (is_out d ≡ true) = end_out g s t outer st v lv nt in
    let r : (i : ℕ) × (i < length es) × (get_or es i 0 ≡ edge_of d.0) = a.has.each (edge_of d.0) (edge_of-below (edges g) d.0 d.1) (sym (at-out g d.0 d.3) ∙ d.2) in
    ((a.has.only 0 (omega (arith, r.1))).0, (a.has.only (length es - 1) (omega (arith, r.1))).0)
