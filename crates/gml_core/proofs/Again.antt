-- A token that is written is read again, whatever delimits it.
use Rattle.std.proofs.Common.{◌≡◌, ℕ, suc, ◌+◌, ◌-◌, ◌<◌, Bool, true, false, cond, List, [], ◌∷◌, ◌++◌, length, drop, take, Option, Some, None, Result, Ok, Err, refl, sym, ap, subst, ◌∙◌, append_assoc, arith}
use Rattle.std.specs.Prelude.{position, nat_lt, ◌==◌, not}
use Rattle.std.specs.List.{prefix_len, position_or_len}
use Rattle.std.specs.Char.{is_ascii_alphabetic}
use Rattle.std.proofs.lemmas.List.{drop_at, take_at, length-append, take-append-le}
use Rattle.std.proofs.lemmas.List.Sums.{prefix_len-le-length}
use Rattle.std.proofs.lemmas.Option.{cond_some}
use Rattle.std.proofs.lemmas.Bool.{lt-ltb, ltb-true}
use Rattle.gml_core.specs.declared.token.TokenKind.{TokenKind}
use Rattle.gml_core.specs.declared.token.TokenKind.TheVariants as kinds
use Rattle.gml_core.specs.declared.token.Token.{Token}
use Rattle.gml_core.specs.declared.fault.GmlFault.{GmlFault}
use Rattle.gml_core.specs.declared.fault.GmlFault.TheVariants.{BadByte}
use Rattle.gml_core.specs.Bytes.{is_space, is_word, begins_number, is_numeric, number_kind}
use Rattle.gml_core.specs.Lexing.{gap, gap_from, token, string_at, number_token_at, token_at, next_place, next_token}
use Rattle.gml_core.specs.Reading.{part}

-- ---- fronts

-- what follows doesn't lengthen a front, if it doesn't pass the test
pub prefix_kept : (p : ℕ → Bool) (xs ys : List ℕ) → prefix_len p ys ≡ 0 → prefix_len p (xs ++ ys) ≡ prefix_len p xs
prefix_kept p [] ys h = h
prefix_kept p (x ∷ xs) ys h = ap (λ (n : ℕ). cond (p x) (1 + n) 0) (prefix_kept p xs ys h)

-- nor one that ends before the end
pub prefix_within : (p : ℕ → Bool) (xs ys : List ℕ) → prefix_len p xs < length xs → prefix_len p (xs ++ ys) ≡ prefix_len p xs
prefix_within p [] ys h = absurd (omega arith)
prefix_within p (x ∷ xs) ys h = within_at (p x) (prefix_len p (xs ++ ys)) (prefix_len p xs) (length xs) h (λ lt. prefix_within p xs ys lt)
  where
    within_at : (b : Bool) (m n k : ℕ) → cond b (1 + n) 0 < suc k → (n < k → m ≡ n) → cond b (1 + m) 0 ≡ cond b (1 + n) 0
    within_at true m n k lt h = ap (λ (x : ℕ). 1 + x) (h (omega arith))
    within_at false m n k lt h = refl

position_kept : (p : ℕ → Bool) (xs ys : List ℕ) (n : ℕ) → position p xs ≡ Some n → position p (xs ++ ys) ≡ Some n
position_kept p xs ys n h =
    let g = cond_some (nat_lt (position_or_len p xs) (length xs)) (position_or_len p xs) n h in
    let lt : position_or_len p xs < length xs = ltb-true _ _ g.0 in
    let same : position_or_len p (xs ++ ys) ≡ n = prefix_within (λ x. not (p x)) xs ys lt ∙ g.1 in
    let within : n < length (xs ++ ys) = omega (arith, length-append xs ys, g.1) in
    rw (same, lt-ltb _ _ within) refl

pub record Delimits (rest : List ℕ) : Type 0 where
  pub word : prefix_len is_word rest ≡ 0
  pub number : prefix_len is_numeric rest ≡ 0

-- ---- the same token at another place, with more behind it

record Same (kind : TokenKind) (at len : ℕ) (x y : Result Token GmlFault) : Type 0 where
  again : x ≡ Ok (token kind 0 len) → y ≡ Ok (token kind at len)

by_cond : (kind : TokenKind) (at len : ℕ) (b : Bool) (x y v w : Result Token GmlFault) → Same kind at len x v → Same kind at len y w → Same kind at len (cond b x y) (cond b v w)
by_cond kind at len true x y v w h k = h
by_cond kind at len false x y v w h k = k

abbrev good : Token → Result Token GmlFault
good t = Ok t

good_is : (x y : Token) → good x ≡ good y → x ≡ y
good_is x y e = cc

moved : (kind : TokenKind) (at len : ℕ) (k : TokenKind) (n : ℕ) → Same kind at len (Ok (token k 0 n)) (Ok (token k at n))
moved kind at len k n = record {
  again = λ e.
      let same = good_is (token k 0 n) (token kind 0 len) e in
      let n-is : n ≡ len = omega (arith, ap (λ (t : Token). t.to) same) in
      let kind-is : k ≡ kind = ap (λ (t : Token). t.kind) same in
      λ i. Ok (token (kind-is i) at (n-is i));
}

string_again : (kind : TokenKind) (at len : ℕ) (o p : Option ℕ) → ((n : ℕ) → o ≡ Some n → p ≡ Some n) → Same kind at len (string_at 0 o) (string_at at p)
string_again kind at len (Some n) p h = subst (λ (q : Option ℕ). Same kind at len (string_at 0 (Some n)) (string_at at q)) (sym (h n refl)) (moved kind at len kinds.Str (n + 2))
string_again kind at len None p h = record { again = λ e. absurd cc }

number_again : (kind : TokenKind) (at len n : ℕ) (o : Option TokenKind) → Same kind at len (number_token_at 0 n o) (number_token_at at n o)
number_again kind at len n (Some k) = moved kind at len k n
number_again kind at len n None = record { again = λ e. absurd cc }

fails : (kind : TokenKind) (at len : ℕ) (f g : GmlFault) → Same kind at len (Err f) (Err g)
fails kind at len f g = record { again = λ e. absurd cc }

pub token_again : (kind : TokenKind) (at len : ℕ) (bs rest : List ℕ) → Delimits rest → token_at 0 bs ≡ Ok (token kind 0 len) → token_at at (bs ++ rest) ≡ Ok (token kind at len)
unfolding token_at
token_again kind at len [] rest del h = absurd cc
token_again kind at len (b ∷ bs) rest del h =
    let word-is : prefix_len is_word (bs ++ rest) ≡ prefix_len is_word bs = prefix_kept is_word bs rest del.word in
    let run = prefix_len is_numeric (b ∷ bs) in
    let run-is : prefix_len is_numeric ((b ∷ bs) ++ rest) ≡ run = prefix_kept is_numeric (b ∷ bs) rest del.number in
    let text-is : take run ((b ∷ bs) ++ rest) ≡ take run (b ∷ bs) = take-append-le run (b ∷ bs) rest (prefix_len-le-length is_numeric (b ∷ bs)) in
    let key : Same kind at len (Ok (token kinds.Key 0 (prefix_len is_word bs + 1))) (Ok (token kinds.Key at (prefix_len is_word (bs ++ rest) + 1))) =
    subst (λ (n : ℕ). Same kind at len (Ok (token kinds.Key 0 (prefix_len is_word bs + 1))) (Ok (token kinds.Key at (n + 1)))) (sym word-is) (moved kind at len kinds.Key (prefix_len is_word bs + 1)) in
    let number : Same kind at len (number_token_at 0 run (number_kind (take run (b ∷ bs)))) (number_token_at at (prefix_len is_numeric ((b ∷ bs) ++ rest)) (number_kind (take (prefix_len is_numeric ((b ∷ bs) ++ rest)) ((b ∷ bs) ++ rest)))) =
    subst (λ (n : ℕ). Same kind at len (number_token_at 0 run (number_kind (take run (b ∷ bs)))) (number_token_at at n (number_kind (take n ((b ∷ bs) ++ rest))))) (sym run-is)
    (subst (λ (l : List ℕ). Same kind at len (number_token_at 0 run (number_kind (take run (b ∷ bs)))) (number_token_at at run (number_kind l))) (sym text-is) (number_again kind at len run (number_kind (take run (b ∷ bs))))) in
    (by_cond kind at len (b == 91) _ _ _ _ (moved kind at len kinds.OpenList 1)
    (by_cond kind at len (b == 93) _ _ _ _ (moved kind at len kinds.CloseList 1)
    (by_cond kind at len (b == 34) _ _ _ _ (string_again kind at len (position (λ x. x == 34) bs) (position (λ x. x == 34) (bs ++ rest)) (λ n e. position_kept (λ x. x == 34) bs rest n e))
    (by_cond kind at len (is_ascii_alphabetic b) _ _ _ _ key
    (by_cond kind at len (begins_number b) _ _ _ _ number (fails kind at len (BadByte 0) (BadByte at))))))).again h

-- ---- the next token

gap_first : (b : ℕ) (bs rest : List ℕ) → gap (b ∷ bs) ≡ 0 → gap (b ∷ (bs ++ rest)) ≡ 0
gap_first b bs rest h = at_tests (is_space b) (b == 35) (gap bs) (gap_from true bs) (gap (bs ++ rest)) (gap_from true (bs ++ rest)) h
  where
    at_tests : (s c : Bool) (m n k l : ℕ) → cond s (m + 1) (cond c (n + 1) 0) ≡ 0 → cond s (k + 1) (cond c (l + 1) 0) ≡ 0
    at_tests true c m n k l h = absurd (omega arith)
    at_tests false true m n k l h = absurd (omega arith)
    at_tests false false m n k l h = refl

pub gap_kept : (w rest : List ℕ) → 0 < length w → gap w ≡ 0 → gap (w ++ rest) ≡ 0
gap_kept [] rest lt h = absurd (omega arith)
gap_kept (b ∷ bs) rest lt h = gap_first b bs rest h

-- nothing, a space or a line feed
abbrev pub IsGap : List ℕ → Type 0
IsGap g = (rest : List ℕ) → gap rest ≡ 0 → gap (g ++ rest) ≡ length g

pub token_step : (bytes pre g w rest : List ℕ) (kind : TokenKind) → bytes ≡ pre ++ (g ++ (w ++ rest)) → gap (g ++ (w ++ rest)) ≡ length g → 0 < length w
    → token_at (length pre + length g) (w ++ rest) ≡ Ok (token kind (length pre + length g) (length w)) → next_token bytes (length pre) ≡ Ok (Some (token kind (length pre + length g) (length w)))
unfolding next_token
token_step bytes pre g w rest kind e gap-is positive tok =
    let at = length pre in
    let here : drop at bytes ≡ g ++ (w ++ rest) = ap (drop at) e ∙ drop_at pre (g ++ (w ++ rest)) at refl in
    let place : next_place bytes at ≡ at + length g = ap (λ (l : List ℕ). at + gap l) here ∙ ap (λ (n : ℕ). at + n) gap-is in
    let behind : drop (at + length g) bytes ≡ w ++ rest = ap (drop (at + length g)) (e ∙ sym (append_assoc pre g (w ++ rest))) ∙ drop_at (pre ++ g) (w ++ rest) (at + length g) (length-append pre g) in
    let lt : at + length g < length bytes = omega (arith, ap length e, length-append pre (g ++ (w ++ rest)), length-append g (w ++ rest), length-append w rest) in
    rw (place, lt-ltb _ _ lt, behind, tok) refl

pub part_is : (bytes front w rest : List ℕ) (from to : ℕ) → bytes ≡ front ++ (w ++ rest) → from ≡ length front → to ≡ from + length w → part bytes from to ≡ w
part_is bytes front w rest from to e f t =
    let behind : drop from bytes ≡ w ++ rest = ap (drop from) e ∙ drop_at front (w ++ rest) from (sym f) in
    let len : length w ≡ to - from = omega arith in
    rw behind (take_at w rest (to - from) len)
