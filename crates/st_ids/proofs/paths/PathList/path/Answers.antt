use Rattle.std.proofs.Common.{◌≡◌, ◌<◌, ◌∷◌, ◌∙◌, ℕ, List, ap, arith, get_or, length, sym, Some}
use Rattle.std.specs.Prelude.{slice_get, slice_range}
use Rattle.st_ids.specs.EdgeNumbers.{numbers}
use Rattle.st_ids.specs.declared.ids.EdgeId.{EdgeId}
use Rattle.st_ids.proofs.PieceLemmas.{length-pieces, piece_at, piece_bounds, slice_range-map}
use Rattle.st_ids.proofs.paths.PathList.path.Goals as goal

pub bounds-at-requires : goal.bounds-at-requires
bounds-at-requires c =
    let count : length c.args.self.now ≡ length c.self.inside.ends.items = ap length (sym c.self.view_is) ∙ length-pieces 0 c.self.inside.ends.items (numbers c.self.inside.edges.items) in
    let same : length c.deref.result.now ≡ length c.self.inside.ends.items = ap length c.deref.ensures.value in
    let below : c.args.i < length c.args.self.now = c.requires in
    omega arith

pub part-requires : goal.part-requires
part-requires c =
    let ends : List ℕ = c.self.inside.ends.items in
    let count : length c.args.self.now ≡ length ends = ap length (sym c.self.view_is) ∙ length-pieces 0 ends (numbers c.self.inside.edges.items) in
    let below : c.args.i < length c.args.self.now = c.requires in
    let held = piece_bounds 0 ends (length c.self.inside.edges.items) c.args.i c.self.invariant.2 (omega arith) in
    let from : c.bounds-at.result.0 ≡ get_or (0 ∷ ends) c.args.i 0 = c.bounds-at.ensures.from ∙ ap (λ (z : List ℕ). get_or (0 ∷ z) c.args.i 0) c.deref.ensures.value in
    let to : c.bounds-at.result.1 ≡ get_or ends c.args.i 0 = c.bounds-at.ensures.to ∙ ap (λ (z : List ℕ). get_or z c.args.i 0) c.deref.ensures.value in
    let block : length c.deref-2.result.now ≡ length c.self.inside.edges.items = ap length c.deref-2.ensures.value in
    record { order = omega (arith, held.0); within = omega (arith, held.1) }

pub returns : goal.returns
returns c =
    let ends : List ℕ = c.self.inside.ends.items in
    let es : List EdgeId = c.self.inside.edges.items in
    let count : length c.args.self.now ≡ length ends = ap length (sym c.self.view_is) ∙ length-pieces 0 ends (numbers es) in
    let below : c.args.i < length c.args.self.now = c.requires in
    let from : get_or (0 ∷ ends) c.args.i 0 ≡ c.bounds-at.result.0 = sym (c.bounds-at.ensures.from ∙ ap (λ (z : List ℕ). get_or (0 ∷ z) c.args.i 0) c.deref.ensures.value) in
    let to : get_or ends c.args.i 0 ≡ c.bounds-at.result.1 = sym (c.bounds-at.ensures.to ∙ ap (λ (z : List ℕ). get_or z c.args.i 0) c.deref.ensures.value) in
    ap (λ (z : List (List ℕ)). slice_get z c.args.i) (sym c.self.view_is)
    ∙ piece_at 0 ends (numbers es) c.args.i (omega arith)
    ∙ ap (λ n. Some (slice_range (numbers es) n (get_or ends c.args.i 0))) from
    ∙ ap (λ n. Some (slice_range (numbers es) c.bounds-at.result.0 n)) to
    ∙ ap (λ (z : List ℕ). Some z) (slice_range-map (λ (e : EdgeId). e.0) es c.bounds-at.result.0 c.bounds-at.result.1)
    ∙ ap (λ (z : List EdgeId). Some (numbers (slice_range z c.bounds-at.result.0 c.bounds-at.result.1))) (sym c.deref-2.ensures.value)
    ∙ ap (λ (z : List EdgeId). Some (numbers z)) (sym c.part.ensures)
