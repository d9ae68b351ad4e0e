-- A text in which no byte needs a backslash.
use Rattle.std.proofs.Common.{◌≡◌, ℕ, ◌<◌, ◌+◌, List, [], ◌∷◌, ◌++◌, length, take, drop, get_or, add-one, Bool, true, false, refl, sym, ap, ◌∙◌, append_assoc}
use Rattle.std.specs.Prelude.{◌==◌, ◌||◌, if◌then◌else◌}
use Rattle.std.proofs.lemmas.List.{take_more}
use Rattle.std.proofs.Math.Seq.{drop-cons}
use Rattle.eps_core.specs.Text.{escaped}

if_false : (m : Bool) (xs ys : List ℕ) → m ≡ false → (if m then xs else ys) ≡ ys
if_false true xs ys e = cc
if_false false xs ys e = refl

escaped_first : (b : ℕ) (bs : List ℕ) → (b == 40 || b == 41 || b == 92) ≡ false → escaped (b ∷ bs) ≡ b ∷ escaped bs
escaped_first b bs e = if_false (b == 40 || b == 41 || b == 92) (92 ∷ b ∷ escaped bs) (b ∷ escaped bs) e

-- one byte more that needs none
pub bare_more : (t : List ℕ) (i : ℕ) → i < length t → (get_or t i 0 == 40 || get_or t i 0 == 41 || get_or t i 0 == 92) ≡ false
    → escaped t ≡ take i t ++ escaped (drop i t) → escaped t ≡ take (i + 1) t ++ escaped (drop (i + 1) t)
bare_more t i there plain so_far =
    let b = get_or t i 0 in
    let cut : drop i t ≡ b ∷ drop (i + 1) t = rw add-one (drop-cons t i 0 there) in
    so_far
    ∙ ap (λ l. take i t ++ escaped l) cut
    ∙ ap (λ l. take i t ++ l) (escaped_first b (drop (i + 1) t) plain)
    ∙ sym (append_assoc (take i t) (b ∷ []) (escaped (drop (i + 1) t)))
    ∙ ap (λ l. l ++ escaped (drop (i + 1) t)) (sym (take_more t i 0 there))
