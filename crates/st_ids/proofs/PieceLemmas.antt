-- Lists in one block: what one more does, and what the i-th of them is.
use Rattle.std.proofs.Common.{ℕ, zero, suc, List, [], ◌∷◌, ◌++◌, ◌+◌, ◌-◌, ◌≡◌, ◌<◌, ◌≤◌, length, map, take, drop, get_or, Some, refl, ap, ◌∙◌, arith, length-drop}
use Rattle.std.specs.Prelude.{slice_range, slice_get}
use Rattle.std.proofs.lemmas.List.{take-append-le, drop-append-le, take-map, drop-map}
use Rattle.std.proofs.Math.Seq.{drop-append_seam, take-length}
use Rattle.st_ids.specs.Pieces.{pieces, ArePieces}

pub length-pieces : (from : ℕ) (es xs : List ℕ) → length (pieces from es xs) ≡ length es
length-pieces from [] xs = refl
length-pieces from (e ∷ es) xs = ap suc (length-pieces e es xs)

from_le : (from : ℕ) (es : List ℕ) (n : ℕ) → ArePieces from es n → from ≤ n
from_le from [] n h = omega (arith, h)
from_le from (e ∷ es) n h = omega (arith, h.0, from_le e es n h.1)

-- ---- more elements behind the block
slice_range_append : (xs ys : List ℕ) (a b : ℕ) → a ≤ b → b ≤ length xs → slice_range (xs ++ ys) a b ≡ slice_range xs a b
slice_range_append xs ys a b h k =
    let l : length (drop a xs) ≡ length xs - a = length-drop a xs in
    let p : a ≤ length xs = omega arith in
    let q : b - a ≤ length (drop a xs) = omega arith in
    ap (λ z. take (b - a) z) (drop-append-le a xs ys p) ∙ take-append-le (b - a) (drop a xs) ys q

pieces_append : (from : ℕ) (es xs ys : List ℕ) → ArePieces from es (length xs) → pieces from es (xs ++ ys) ≡ pieces from es xs
pieces_append from [] xs ys h = refl
pieces_append from (e ∷ es) xs ys h =
    ap (λ z. z ∷ pieces e es (xs ++ ys)) (slice_range_append xs ys from e h.0 (from_le e es (length xs) h.1))
    ∙ ap (λ z. slice_range xs from e ∷ z) (pieces_append e es xs ys h.1)

-- ---- one more list
pub ArePieces_push : (from : ℕ) (es : List ℕ) (n m : ℕ) → ArePieces from es n → n ≤ m → ArePieces from (es ++ m ∷ []) m
ArePieces_push from [] n m h k = (omega arith, refl)
ArePieces_push from (e ∷ es) n m h k = (h.0, ArePieces_push e es n m h.1 k)

pieces_push : (from : ℕ) (es xs : List ℕ) (n m : ℕ) → ArePieces from es n → pieces from (es ++ m ∷ []) xs ≡ pieces from es xs ++ slice_range xs n m ∷ []
pieces_push from [] xs n m h = ap (λ z. slice_range xs z m ∷ []) h
pieces_push from (e ∷ es) xs n m h = ap (λ z. slice_range xs from e ∷ z) (pieces_push e es xs n m h.1)

slice_range_seam : (xs ys : List ℕ) → slice_range (xs ++ ys) (length xs) (length xs + length ys) ≡ ys
slice_range_seam xs ys =
    let q : length xs + length ys - length xs ≡ length ys = omega arith in
    ap (λ z. take z (drop (length xs) (xs ++ ys))) q ∙ ap (λ z. take (length ys) z) (drop-append_seam xs ys) ∙ take-length ys

pub pieces_more : (es xs ys : List ℕ) → ArePieces 0 es (length xs) → pieces 0 (es ++ (length xs + length ys) ∷ []) (xs ++ ys) ≡ pieces 0 es xs ++ ys ∷ []
pieces_more es xs ys h =
    pieces_push 0 es (xs ++ ys) (length xs) (length xs + length ys) h
    ∙ ap (λ z. z ++ slice_range (xs ++ ys) (length xs) (length xs + length ys) ∷ []) (pieces_append 0 es xs ys h)
    ∙ ap (λ z. pieces 0 es xs ++ z ∷ []) (slice_range_seam xs ys)

-- ---- the i-th list
pub piece_at : (from : ℕ) (es xs : List ℕ) (i : ℕ) → i < length es → slice_get (pieces from es xs) i ≡ Some (slice_range xs (get_or (from ∷ es) i 0) (get_or es i 0))
piece_at from [] xs i h = absurd (omega (arith, h))
piece_at from (e ∷ es) xs zero h = refl
piece_at from (e ∷ es) xs (suc i) h = piece_at e es xs i (omega arith)

pub piece_bounds : (from : ℕ) (es : List ℕ) (n i : ℕ) → ArePieces from es n → i < length es → (get_or (from ∷ es) i 0 ≤ get_or es i 0) × (get_or es i 0 ≤ n)
piece_bounds from [] n i h k = absurd (omega (arith, k))
piece_bounds from (e ∷ es) n zero h k = (h.0, from_le e es n h.1)
piece_bounds from (e ∷ es) n (suc i) h k = piece_bounds e es n i h.1 (omega arith)

pub slice_range-map : {X : Type 0} (f : X → ℕ) (xs : List X) (a b : ℕ) → slice_range (map f xs) a b ≡ map f (slice_range xs a b)
slice_range-map f xs a b = ap (λ z. take (b - a) z) (drop-map f a xs) ∙ take-map f (b - a) (drop a xs)
