-- A gap is the longest list of white space and comments at the front.
use Rattle.std.proofs.Common.{◌≡◌, ℕ, suc, ◌+◌, ◌≤◌, Bool, true, false, cond, ◌⊎◌, inl, inr, List, [], ◌∷◌, ◌++◌, length, take, refl, sym, ap, subst, ◌∙◌, append_assoc, arith}
use Rattle.std.specs.Prelude.{not, ◌==◌}
use Rattle.std.specs.List.{concat, list_all}
use Rattle.std.proofs.lemmas.List.{length-append}
use Rattle.std.proofs.lemmas.Bool.{and_parts, and_from, eqb-true}
use Rattle.gml_core.specs.Bytes.{is_space, ends_line}
use Rattle.gml_core.specs.Lexing.{gap, gap_from}
use Rattle.gml_core.specs.Forms.{IsOneLine, IsComment, IsGapPart, AreGapParts, IsOpenComment, IsGap}

-- ---- what is taken is a gap

no_gap : IsGap []
no_gap = record { parts = []; last = []; are = tt; unended = inl refl; whole = refl }

more_parts : (p g : List ℕ) → IsGapPart p → IsGap g → IsGap (p ++ g)
more_parts p g is h = record {
  parts = p ∷ h.parts;
  last = h.last;
  are = (is, h.are);
  unended = h.unended;
  whole = ap (λ (x : List ℕ). p ++ x) h.whole ∙ sym (append_assoc p (concat h.parts) h.last);
}

-- what stands behind the sign of a comment: one line, and then perhaps its end and a gap
abbrev IsBehindSign : List ℕ → Type 0
IsBehindSign t = IsOneLine t ⊎ ((text : List ℕ) × (last : ℕ) × (g : List ℕ) × IsOneLine text × (ends_line last ≡ true) × IsGap g × (t ≡ text ++ last ∷ g))

take_more : (n b : ℕ) (bs : List ℕ) → take (n + 1) (b ∷ bs) ≡ b ∷ take n bs
take_more n b bs = let e : n + 1 ≡ suc n = omega arith in ap (λ (m : ℕ). take m (b ∷ bs)) e

line_more : (b : ℕ) (text : List ℕ) → ends_line b ≡ false → IsOneLine text → IsOneLine (b ∷ text)
line_more b text e h = and_from _ _ (ap not e) h

commented : (b : ℕ) (t : List ℕ) → b ≡ 35 → IsBehindSign t → IsGap (b ∷ t)
commented b t e (inl line) = record { parts = []; last = b ∷ t; are = tt; unended = inr (t, line, ap (λ (x : ℕ). x ∷ t) e); whole = refl }
commented b t e (inr (text, last, g, line, ends, is, parts)) =
    let whole : b ∷ t ≡ (35 ∷ (text ++ last ∷ [])) ++ g = rw (e, parts) (ap (λ (x : List ℕ). 35 ∷ x) (sym (append_assoc text (last ∷ []) g))) in
    subst IsGap (sym whole) (more_parts (35 ∷ (text ++ last ∷ [])) g (inr (text, last, line, ends, refl)) is)

behind_more : (b : ℕ) (t : List ℕ) → ends_line b ≡ false → IsBehindSign t → IsBehindSign (b ∷ t)
behind_more b t e (inl line) = inl (line_more b t e line)
behind_more b t e (inr (text, last, g, line, ends, is, parts)) = inr (b ∷ text, last, g, line_more b text e line, ends, is, ap (λ (x : List ℕ). b ∷ x) parts)

closed_step : (b m n : ℕ) (bs : List ℕ) (s c : Bool) → is_space b ≡ s → (b == 35) ≡ c → IsGap (take m bs) → IsBehindSign (take n bs) → IsGap (take (cond s (m + 1) (cond c (n + 1) 0)) (b ∷ bs))
closed_step b m n bs true c e f h k = subst IsGap (sym (take_more m b bs)) (more_parts (b ∷ []) (take m bs) (inl (b, e, refl)) h)
closed_step b m n bs false true e f h k = subst IsGap (sym (take_more n b bs)) (commented b (take n bs) (eqb-true b 35 f) k)
closed_step b m n bs false false e f h k = no_gap

opened_step : (b : ℕ) (bs : List ℕ) (t : Bool) → ends_line b ≡ t → IsGap (take (gap_from false bs) bs) → IsBehindSign (take (gap_from true bs) bs) → IsBehindSign (take (gap_from (not t) bs + 1) (b ∷ bs))
opened_step b bs true e h k = subst IsBehindSign (sym (take_more (gap_from false bs) b bs)) (inr ([], b, take (gap_from false bs) bs, refl, e, h, refl))
opened_step b bs false e h k = subst IsBehindSign (sym (take_more (gap_from true bs) b bs)) (behind_more b (take (gap_from true bs) bs) e k)

both : (bs : List ℕ) → IsGap (take (gap_from false bs) bs) × IsBehindSign (take (gap_from true bs) bs)
both [] = (no_gap, inl refl)
both (b ∷ bs) = (closed_step b (gap_from false bs) (gap_from true bs) bs (is_space b) (b == 35) refl refl (both bs).0 (both bs).1, opened_step b bs (ends_line b) refl (both bs).0 (both bs).1)

pub gap_is : (bytes : List ℕ) → IsGap (take (gap bytes) bytes)
gap_is bytes = (both bytes).0

-- ---- and none is longer

within_line : (text rest : List ℕ) → IsOneLine text → gap_from true (text ++ rest) ≡ length text + gap_from true rest
within_line [] rest h = omega arith
within_line (b ∷ text) rest h =
    let parts = and_parts (not (ends_line b)) (list_all (λ x. not (ends_line x)) text) h in
    rw parts.0 (omega (arith, within_line text rest parts.1))

part_passed : (p rest : List ℕ) → IsGapPart p → length p + gap_from false rest ≤ gap_from false (p ++ rest)
part_passed p rest (inl (b, e, is)) = rw (is, e) (omega arith)
part_passed p rest (inr (text, last, line, ends, is)) =
    let long : length (text ++ last ∷ []) ≡ length text + 1 = length-append text (last ∷ []) in
    let line-is : gap_from true (text ++ last ∷ rest) ≡ length text + gap_from true (last ∷ rest) = within_line text (last ∷ rest) line in
    let last-is : gap_from true (last ∷ rest) ≡ gap_from false rest + 1 = rw ends refl in
    rw (is, append_assoc text (last ∷ []) rest) (omega (arith, long, line-is, last-is))

open_passed : (last rest : List ℕ) → IsOpenComment last → length last ≤ gap_from false (last ++ rest)
open_passed last rest (inl e) = rw e (omega arith)
open_passed last rest (inr (text, line, is)) = rw is (omega (arith, within_line text rest line))

passed : (parts : List (List ℕ)) (last rest : List ℕ) → AreGapParts parts → IsOpenComment last → length (concat parts ++ last) ≤ gap_from false ((concat parts ++ last) ++ rest)
passed [] last rest are unended = open_passed last rest unended
passed (p ∷ ps) last rest are unended =
    let one = part_passed p ((concat ps ++ last) ++ rest) are.0 in
    let others = passed ps last rest are.1 unended in
    rw (append_assoc p (concat ps) last, append_assoc p (concat ps ++ last) rest) (omega (arith, one, others, length-append p (concat ps ++ last)))

pub gap_longest : (g rest : List ℕ) → IsGap g → length g ≤ gap (g ++ rest)
gap_longest g rest h = subst (λ (x : List ℕ). length x ≤ gap_from false (x ++ rest)) (sym h.whole) (passed h.parts h.last rest h.are h.unended)
