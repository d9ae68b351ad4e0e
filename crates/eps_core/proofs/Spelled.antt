-- A number that is spelled at the end of a block, and is copied with the bytes behind it.
use Rattle.std.proofs.Common.{◌≡◌, ℕ, ◌+◌, ◌-◌, ◌≤◌, List, ◌∷◌, ◌++◌, length, take, drop, refl, sym, ap, ◌∙◌, subst, arith, append_assoc, ℤ, pos, negsuc, int_le, unsigned_abs, false, true≢false}
use lib.Dec.{leb-zero}
use Rattle.std.specs.Fmt.{decimal, signed_decimal}
use Rattle.std.proofs.lemmas.List.{length-take-le}
use Rattle.std.proofs.Math.Seq.{take-append_seam, take-append-add}

-- bytes l with w, which is followed by more bytes, are cut behind w
cut_behind : (l w r : List ℕ) → take (length l + length w) (l ++ (w ++ r)) ≡ l ++ w
cut_behind l w r = take-append-add l (w ++ r) (length w) ∙ ap (λ x. l ++ x) (take-append_seam w r)

-- w stands at i of the new bytes, with others behind it
kept_there : (b w r : List ℕ) (i k : ℕ) → i ≤ length b → k ≡ length w → take (i + k) (take i b ++ (w ++ r)) ≡ take i b ++ w
kept_there b w r i k h e =
    let n : length (take i b) ≡ i = length-take-le i b h in
    subst (λ m. take m (take i b ++ (w ++ r)) ≡ take i b ++ w) (omega (arith, n, e)) (cut_behind (take i b) w r)

-- as many bytes from m on as are copied begin with w
begins_with : (s w r : List ℕ) (m k : ℕ) → drop m s ≡ w ++ r → k ≡ length w + m → take k (drop m s) ≡ w ++ take m r
begins_with s w r m k e f = ap (λ l. take k l) e ∙ subst (λ n. take n (w ++ r) ≡ w ++ take m r) (sym f) (take-append-add w r m)

-- the bytes b have the copy y at i, and are kept up to the end of the word w
pub word_put : (b y s w r p : List ℕ) (i k m : ℕ)
    → i ≤ length b → drop m s ≡ w ++ r → m + length w ≡ 21 → k ≡ 21 → y ≡ take k (drop m s)
    → take (i + (21 - m)) (take i b ++ (y ++ p)) ≡ take i b ++ w
word_put b y s w r p i k m h e f g copied =
    let begun : y ≡ w ++ take m r = copied ∙ begins_with s w r m k e (omega (arith, f, g)) in
    let joined : y ++ p ≡ w ++ (take m r ++ p) = ap (λ l. l ++ p) begun ∙ append_assoc w (take m r) p in
    ap (λ l. take (i + (21 - m)) (take i b ++ l)) joined ∙ kept_there b w (take m r ++ p) i (21 - m) h (omega (arith, f))

-- a negative number is a minus and its digits
pub minus_first : (z : ℤ) → int_le (pos 0) z ≡ false → 45 ∷ decimal (unsigned_abs z) ≡ signed_decimal z
minus_first (pos n) e = absurd (true≢false (sym (leb-zero n) ∙ e))
minus_first (negsuc n) e = refl

pub minus_length : (z : ℤ) → int_le (pos 0) z ≡ false → length (decimal (unsigned_abs z)) + 1 ≡ length (signed_decimal z)
minus_length z e = omega (arith, ap length (minus_first z e))
