-- The length of a picture's text, counted while it is written, and pieces appended one after the other.
use Rattle.std.proofs.Common.{◌≡◌, ℕ, ◌+◌, ◌*◌, ◌-◌, ◌^◌, ◌<◌, ◌≤◌, List, [], ◌∷◌, ◌++◌, length, Some, None, inl, inr, refl, ap, ◌∙◌, arith, length-append, append_assoc, Bool, true, false, codes}
use Rattle.std.specs.Prelude.{OnOk, OnErr, Result, Ok, Err, ◌==◌, if◌then◌else◌}
use Rattle.std.specs.List.{AllByRecursion}
use Rattle.eps_core.specs.Meaning.{IsShort, HasShortLines}
use Rattle.eps_core.specs.Text.{front_lines, item_lines, lines, ended, text}
use Rattle.st_port.specs.Faults.{Rose, no_fault}
use Rattle.st_port.specs.Streams.{Gains}
use Rattle.st_port.specs.Sure.{told, count_state}
use Rattle.st_shape.specs.declared.item.Item.{Item}
use Rattle.st_shape.specs.Rules.{Drawing, IsPicture}

-- a piece behind others, as one piece
pub two_pieces : (old mid new a b : List ℕ) → mid ≡ old ++ a → new ≡ mid ++ b → new ≡ old ++ (a ++ b)
two_pieces old mid new a b p q = q ∙ ap (λ z. z ++ b) p ∙ append_assoc old a b

-- ---- how long a text is
ended_length : (ls : List (List ℕ)) → AllByRecursion IsShort ls → length (ended ls) ≤ 256 * length ls
ended_length [] h = omega arith
ended_length (l ∷ ls) h =
    omega (arith, h.0, ended_length ls h.1, length-append l (10 ∷ []), length-append (l ++ 10 ∷ []) (ended ls))

item_count : (its : List Item) → length (item_lines its) ≡ 2 * length its
item_count [] = refl
item_count (it ∷ its) = omega (arith, item_count its)

line_count : (d : Drawing) → length (lines d) ≡ 2 * length d.items + 7
line_count d =
    omega (arith, item_count d.items, length-append (item_lines d.items) (codes "%%EOF" ∷ []), length-append (front_lines d.form d.frame) (item_lines d.items ++ codes "%%EOF" ∷ []))

pub text_fits : HasShortLines → (d : Drawing) → IsPicture d → length (text d) < 2 ^ 64 - 1
unfolding text
text_fits short d h = omega (arith, ended_length (lines d) (short d h), line_count d, h.few)

-- ---- what a counting sink tells
told_case : (b : Bool) (n k : ℕ) → (if b then None else Some n) ≡ Some k → n ≡ k
told_case true n k e = absurd (cc)
told_case false n k e = cc

told_is : (n k : ℕ) → told n ≡ Some k → n ≡ k
told_is n k e = told_case (n == 2 ^ 64 - 1) n k e

-- a sink that had counted nothing, and never fails, has counted what was written to it
pub counted : {T E : Type 0} (r : Result T E) (n : ℕ) (xs : List ℕ) → length xs < 2 ^ 64 - 1 → OnOk r (Gains (count_state 0) (count_state n) xs) → OnErr r (Rose no_fault no_fault) → n ≡ length xs
counted (Ok v) n xs fits h k =
    let grown : told n ≡ Some (0 + length xs) = h.number (omega (arith, fits)) in
    told_is n (0 + length xs) grown ∙ omega arith
counted (Err e) n xs fits h (inl l) = absurd (omega (arith, l))
counted (Err e) n xs fits h (inr t) = absurd (cc)
