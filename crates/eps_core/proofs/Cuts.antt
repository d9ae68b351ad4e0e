-- Where a line is cut off, and what it is compared with.
use Rattle.std.proofs.Common.{◌≡◌, ◌≢◌, ℕ, ◌+◌, ◌<◌, ◌≤◌, suc, Bool, true, false, not, eqb, cond, List, [], ◌∷◌, ◌++◌, length, take, drop, get_or, refl, sym, ap, ◌∙◌, subst, arith, append_assoc}
use Rattle.std.proofs.lemmas.Bool.Decides.{nat_tests}
use Rattle.std.proofs.lemmas.Grind.{common_steps}
use Rattle.std.proofs.lemmas.List.{take_all, take_at, take_more, take-append-drop, drop_at, drop_more, get_or_default, append-nil}
use Rattle.std.proofs.lemmas.List.Sums.{prefix_len_stops}
use Rattle.std.specs.List.{position_or_len}
use Rattle.eps_core.specs.Decoding.{line_from, after_line}
use Rattle.eps_core.specs.Meaning.{IsPlain}
use Rattle.eps_core.specs.Reading.{MissesLine}
use Rattle.eps_core.specs.Text.{ended}
use Rattle.eps_core.proofs.Endings.{line_one}
use Rattle.eps_core.proofs.Grids.{ended-append}

plain_case : (b : ℕ) (bs : List ℕ) (t : Bool) → eqb b 10 ≡ t → (q : ℕ) → IsPlain (take q bs) → IsPlain (take (cond (not t) (1 + q) 0) (b ∷ bs))
plain_case b bs true e q h = tt
plain_case b bs false e q h =
    let s : 1 + q ≡ suc q = omega arith in
    let apart : b ≢ 10 = grind (arith, nat_tests, e) in
    rw s (apart, h)

pub plain_front : (s : List ℕ) → IsPlain (take (position_or_len (λ b. eqb b 10) s) s)
plain_front [] = tt
plain_front (b ∷ bs) = plain_case b bs (eqb b 10) refl _ (plain_front bs)

-- what `next_line` finds
pub line_split : (s : List ℕ) (n : ℕ) → n ≡ position_or_len (λ b. eqb b 10) s → n < length s → s ≡ take n s ++ 10 ∷ drop (n + 1) s
line_split s n e h =
    let stop : not (eqb (get_or s n 0) 10) ≡ false = rw e (prefix_len_stops (λ b. not (eqb b 10)) s 0 (subst (λ k. k < length s) e h)) in
    let ten : get_or s n 0 ≡ 10 = grind (arith, nat_tests, stop) in
    sym (take-append-drop n s) ∙ ap (λ l. take n s ++ l) (drop_more s n 0 h ∙ ap (λ b. b ∷ drop (n + 1) s) ten)

pub line_none : (s : List ℕ) (n : ℕ) → n ≡ position_or_len (λ b. eqb b 10) s → length s ≤ n → IsPlain s
line_none s n e h = subst IsPlain (ap (λ k. take k s) (sym e) ∙ take_all n s h) (plain_front s)

-- a first line is where the first line feed is
feed_after : (w rest : List ℕ) → IsPlain w → position_or_len (λ b. eqb b 10) (w ++ 10 ∷ rest) ≡ length w
feed_after [] rest h = refl
feed_after (b ∷ bs) rest h =
    let p : eqb b 10 ≡ false = grind (arith, nat_tests, h.0) in
    rw (p, feed_after bs rest h.1) (omega arith)

pub line_front : (w rest : List ℕ) → IsPlain w → line_from (w ++ 10 ∷ rest) ≡ w
line_front w rest h = rw (feed_after w rest h) (take_at w (10 ∷ rest) (length w) refl)

pub after_front : (w rest : List ℕ) → IsPlain w → after_line (w ++ 10 ∷ rest) ≡ rest
after_front w rest h = rw (feed_after w rest h) (ap (λ l. drop (length w + 1) l) (sym (append_assoc w (10 ∷ []) rest)) ∙ drop_at (w ++ 10 ∷ []) rest (length w + 1) (grind (arith, common_steps)))

pub plain_no_line : (x y s : List ℕ) → IsPlain x → x ≡ y ++ 10 ∷ s → ⊥
plain_no_line [] [] s p e = cc
plain_no_line [] (b ∷ y) s p e = cc
plain_no_line (a ∷ x) [] s p e = p.0 (cc)
plain_no_line (a ∷ x) (b ∷ y) s p e = plain_no_line x y s p.1 (cc)

pub misses_none : (bytes rest : List ℕ) (xs : List (List ℕ)) (k : ℕ) → bytes ≡ ended (take k xs) ++ rest → IsPlain rest → MissesLine bytes xs k
misses_none bytes rest xs k e p = record { rest = rest; whole = e; other = λ behind _ s. plain_no_line rest (get_or xs k []) behind p s }

pub misses_other : (bytes rest found behind x : List ℕ) (xs : List (List ℕ)) (k : ℕ) → bytes ≡ ended (take k xs) ++ rest → rest ≡ found ++ 10 ∷ behind → IsPlain found
    → k < length xs → x ≡ get_or xs k x → (found ≡ x → ⊥) → MissesLine bytes xs k
misses_other bytes rest found behind x xs k e s p h is apart = record {
  rest = rest;
  whole = e;
  other = λ after q t.
      let one = line_one found (get_or xs k []) behind after p q (sym s ∙ t) in
      apart (one.0 ∙ get_or_default xs k [] x h ∙ sym is);
}

pub not_so : (r : Bool) → r ≡ false → r ≡ true → ⊥
not_so r e f = cc

-- one more line was found
pub lines_more : (xs : List (List ℕ)) (k : ℕ) (x : List ℕ) (bytes rest found behind : List ℕ) → k < length xs → x ≡ get_or xs k x
    → bytes ≡ ended (take k xs) ++ rest → rest ≡ found ++ 10 ∷ behind → found ≡ x → bytes ≡ ended (take (k + 1) xs) ++ behind
lines_more xs k x bytes rest found behind h e whole split is =
    let step : take (k + 1) xs ≡ take k xs ++ x ∷ [] = take_more xs k x h ∙ ap (λ y. take k xs ++ y ∷ []) (sym e) in
    let tail : rest ≡ (x ++ 10 ∷ []) ++ behind = split ∙ ap (λ (l : List ℕ). l ++ 10 ∷ behind) is ∙ sym (append_assoc x (10 ∷ []) behind) in
    let ends : ended (take (k + 1) xs) ≡ ended (take k xs) ++ ((x ++ 10 ∷ []) ++ []) = ap ended step ∙ ended-append (take k xs) (x ∷ []) in
    whole ∙ ap (λ l. ended (take k xs) ++ l) tail
    ∙ sym (append_assoc (ended (take k xs)) (x ++ 10 ∷ []) behind)
    ∙ ap (λ l. l ++ behind) (sym (ends ∙ ap (λ l. ended (take k xs) ++ l) (append-nil (x ++ 10 ∷ []))))
