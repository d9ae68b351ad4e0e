use Rattle.std.proofs.Common.{◌≡◌, ◌+◌, ◌<◌, ℕ, List, length, get_or, sym, ap, ◌∙◌, subst, arith}
use Rattle.std.proofs.lemmas.Option.{get_or_from_slice_get}
use Rattle.st_ids.specs.EdgeNumbers.{numbers}
use Rattle.st_sides.specs.Sides.{SidesValue, face_left, left_path}
use Rattle.st_number.specs.Filling.{IsReaching}
use Rattle.st_number.specs.Greatest.{IsColumn}
use Rattle.st_number.proofs.FillLemmas.{column_start, column_most, column_by, on_path, reach_more, reach_keep}
use Rattle.st_number.proofs.PassLemmas.{number_at, numbers_size}
use Rattle.st_number.proofs.dual_pass.column.Goals as goal
use Rattle.st_number.proofs.dual_pass.column.Goals.{then-greatest-reached, else-greatest-reached}

-- an edge of the path, which is read from a list of ids
at : (es : List ℕ) (path : List _) (k : ℕ) → numbers path ≡ es → get_or es k 0 ≡ (get_or path k (record { 0 = 0 })).0
at es path k q = ap (λ (z : List ℕ). get_or z k 0) (sym q) ∙ number_at path k

size : (es : List ℕ) (path : List _) → numbers path ≡ es → length es ≡ length path
size es path q = ap (λ (z : List ℕ). length z) (sym q) ∙ numbers_size path

pub returns-then-f-eq0 : goal.returns-then-f-eq0
returns-then-f-eq0 c = subst (λ f. IsColumn c.args.sides.now f 0) (let q : 0 ≡ c.args.f.0 = sym c.if-f-eq0.true in q) (column_start c.args.sides.now c.requires.sides)

pub overflow_add-reached : goal.overflow_add-reached
overflow_add-reached c =
    let es : List ℕ = left_path c.args.sides.now c.args.f.0 in
    let l : c.loop-k.k < length (left_path c.args.sides.now c.args.f.0) = omega (arith, size es c.left_path-path.result.now c.left_path-path.ensures.value, c.loop-k-test.true) in
    let p = on_path c.args.sides.now c.requires.sides c.args.columns.now c.args.f.0 c.requires.there (λ q. omega (arith, q, c.if-f-eq0.false)) c.requires.lefts c.loop-k.k l in
    let e : ℕ = get_or (left_path c.args.sides.now c.args.f.0) c.loop-k.k 0 in
    let h : c.face_left.result.0 ≡ face_left c.args.sides.now (get_or (left_path c.args.sides.now c.args.f.0) c.loop-k.k 0) =
    c.face_left.ensures.value ∙ ap (λ z. face_left c.args.sides.now z) (sym (at es c.left_path-path.result.now c.loop-k.k c.left_path-path.ensures.value)) in
    let v : get_or c.args.columns.now (face_left c.args.sides.now (get_or (left_path c.args.sides.now c.args.f.0) c.loop-k.k 0)) 0 ≡ c.get.result.now =
    ap (λ z. get_or c.args.columns.now z 0) (sym h) ∙ get_or_from_slice_get c.args.columns.now c.face_left.result.0 c.get.result.now 0 c.get.ensures.value in
    let m = column_most c.args.sides.now c.requires.sides (face_left c.args.sides.now e) (get_or c.args.columns.now (face_left c.args.sides.now e) 0) (c.requires.lefts e p.0 p.1) in
    omega (arith, v, m, c.requires.few)

pub loop-k-preserved : goal.loop-k-preserved
loop-k-preserved c =
    let x : SidesValue = c.args.sides.now in
    let es : List ℕ = left_path c.args.sides.now c.args.f.0 in
    let h : c.face_left.result.0 ≡ face_left c.args.sides.now (get_or (left_path c.args.sides.now c.args.f.0) c.loop-k.k 0) =
    c.face_left.ensures.value ∙ ap (λ z. face_left c.args.sides.now z) (sym (at es c.left_path-path.result.now c.loop-k.k c.left_path-path.ensures.value)) in
    let v : get_or c.args.columns.now (face_left c.args.sides.now (get_or (left_path c.args.sides.now c.args.f.0) c.loop-k.k 0)) 0 ≡ c.get.result.now =
    ap (λ z. get_or c.args.columns.now z 0) (sym h) ∙ get_or_from_slice_get c.args.columns.now c.face_left.result.0 c.get.result.now 0 c.get.ensures.value in
    let q : c.get.result.now + 1 ≡ get_or c.args.columns.now (face_left c.args.sides.now (get_or (left_path c.args.sides.now c.args.f.0) c.loop-k.k 0)) 0 + 1 = ap (λ z. z + 1) (sym v) in
    elim c.if-greatest-reached.branch [
      | then-greatest-reached u ↦
          subst (λ z. IsReaching x c.args.columns.now c.args.f.0 (c.loop-k.k + 1) z) (sym u.greatest-is)
          (reach_more x c.args.columns.now c.args.f.0 c.loop-k.k c.loop-k.greatest (c.get.result.now + 1) c.loop-k.invariant q (omega (arith, u.if-greatest-reached.true)))
      | else-greatest-reached u ↦
          subst (λ z. IsReaching x c.args.columns.now c.args.f.0 (c.loop-k.k + 1) z) (sym u.greatest-is)
          (reach_keep x c.args.columns.now c.args.f.0 c.loop-k.k c.loop-k.greatest (c.get.result.now + 1) c.loop-k.invariant q (omega (arith, u.if-greatest-reached.false)))
    ]

pub returns : goal.returns
returns c =
    let es : List ℕ = left_path c.args.sides.now c.args.f.0 in
    let s : length (left_path c.args.sides.now c.args.f.0) ≡ length c.left_path-path.result.now = size es c.left_path-path.result.now c.left_path-path.ensures.value in
    column_by c.args.sides.now c.requires.sides c.args.columns.now c.args.f.0 c.requires.there (λ q. omega (arith, q, c.if-f-eq0.false)) c.requires.lefts c.loop-k.greatest c.loop-k.k
    (omega (arith, s, c.loop-k-test.false)) (omega (arith, s, c.loop-k.auto.k-end)) c.loop-k.invariant
