-- An integer that is written is read again.
use Rattle.std.proofs.Common.{◌≡◌, ℕ, suc, ◌+◌, ◌-◌, ◌*◌, ◌^◌, ◌<◌, ◌≤◌, Bool, true, false, cond, fold, ℤ, pos, negsuc, neg_ℤ, List, [], ◌∷◌, length, drop, take, Some, Ok, refl, ap, ◌∙◌, arith, rules}
use Rattle.std.specs.Prelude.{◌==◌, int_le}
use Rattle.std.specs.List.{prefix_len}
use Rattle.std.specs.Char.{is_ascii_digit, is_ascii_alphabetic}
use Rattle.std.specs.Fmt.{decimal, signed_decimal}
use Rattle.std.specs.Str.Parse.{AllDigits}
use Rattle.std.proofs.lemmas.Bool.{and_parts, and_from, le-leb, leb-true, ne_eqb, lt-leb, and_left, and_right, or_from, or_left, lt-ltb, cond-false}
use Rattle.std.proofs.lemmas.List.{take_all, drop_all}
use Rattle.std.proofs.lemmas.Str.Parse.{IsNumeralModel, numerals_by_fold, tells_digits, digit_from_value}
use Rattle.std.proofs.lemmas.Fmt.{decimal_is_IsNumeral, digits_value-decimal}
use Rattle.gml_core.specs.declared.token.TokenKind.TheVariants as kinds
use Rattle.gml_core.specs.Bytes.{is_space, is_sign, begins_number, is_numeric, unsigned, digits, behind_digits, number_kind}
use Rattle.gml_core.specs.Lexing.{token, token_at, number_token_at}
use Rattle.gml_core.specs.Trees.{int, fits}
use Rattle.gml_core.specs.Reading.{number, integer}
use Rattle.gml_core.specs.Sound.{IsSpelled}

-- ---- digits

abbrev pub AreDigits : List ℕ → Type 0
AreDigits [] = Unit {0}
AreDigits (c ∷ cs) = (48 ≤ c) × (c ≤ 57) × AreDigits cs

digits_from : (ds : List ℕ) → AllDigits 10 ds → AreDigits ds
digits_from [] h = tt
digits_from (c ∷ cs) h = let range = digit_from_value c h.0 in (omega (arith, range), omega (arith, range), digits_from cs h.1)

pub is_digit : (c : ℕ) → 48 ≤ c → c ≤ 57 → is_ascii_digit c ≡ true
is_digit c low high = and_from _ _ (le-leb 48 c low) (le-leb c 57 high)

pub is_run : (c : ℕ) → 48 ≤ c → c ≤ 57 → is_numeric c ≡ true
is_run c low high = or_left _ _ (or_left _ _ (or_left _ _ (or_left _ _ (is_digit c low high))))

all_digits : (ds : List ℕ) → AreDigits ds → prefix_len is_ascii_digit ds ≡ length ds
all_digits [] h = refl
all_digits (c ∷ cs) h = rw (is_digit c h.0 h.1) (omega (arith, all_digits cs h.2))

all_run : (ds : List ℕ) → AreDigits ds → prefix_len is_numeric ds ≡ length ds
all_run [] h = refl
all_run (c ∷ cs) h = rw (is_run c h.0 h.1) (omega (arith, all_run cs h.2))

not_sign : (c : ℕ) → 48 ≤ c → is_sign c ≡ false
not_sign c low = or_from _ _ (ne_eqb c 43 (λ e. omega arith)) (ne_eqb c 45 (λ e. omega arith))

pub not_space : (c : ℕ) → 48 ≤ c → is_space c ≡ false
not_space c low = or_from _ _ (ne_eqb c 32 (λ e. omega arith)) (and_right _ _ (lt-leb c 13 (omega arith)))

pub not_letter : (c : ℕ) → c ≤ 57 → is_ascii_alphabetic c ≡ false
not_letter c high = or_from _ _ (and_left _ _ (lt-leb 65 c (omega arith))) (and_left _ _ (lt-leb 97 c (omega arith)))

-- ---- the token

unsigned_is : (ds : List ℕ) → AreDigits ds → unsigned ds ≡ ds
unsigned_is [] h = refl
unsigned_is (c ∷ cs) h = rw (not_sign c h.0) refl

behind : (ds : List ℕ) → 0 < length ds → AreDigits ds → behind_digits (digits ds) (drop (digits ds) ds) ≡ Some kinds.Int
behind ds positive h = rw (all_digits ds h, drop_all (length ds) ds (omega arith), lt-ltb 0 (length ds) positive) refl

pub kind_plain : (ds : List ℕ) → 0 < length ds → AreDigits ds → number_kind ds ≡ Some kinds.Int
unfolding number_kind
kind_plain ds positive h = rw (unsigned_is ds h) (behind ds positive h)

kind_minus : (ds : List ℕ) → 0 < length ds → AreDigits ds → number_kind (45 ∷ ds) ≡ Some kinds.Int
unfolding number_kind
kind_minus ds positive h = behind ds positive h

pub fifth : {A : Type 0} (a b c d e : Bool) (u v w x y z : A) → a ≡ false → b ≡ false → c ≡ false → d ≡ false → e ≡ true → cond a u (cond b v (cond c w (cond d x (cond e y z)))) ≡ y
fifth a b c d e u v w x y z p q r s t = rw (p, q, r, s, t) refl

-- a run of digits is read whole
whole_run : (run : List ℕ) → prefix_len is_numeric run ≡ length run → number_kind run ≡ Some kinds.Int → number_token_at 0 (prefix_len is_numeric run) (number_kind (take (prefix_len is_numeric run) run)) ≡ Ok (token kinds.Int 0 (length run))
whole_run run len kind = ap (λ (n : ℕ). number_token_at 0 n (number_kind (take n run))) len ∙ ap (λ (l : List ℕ). number_token_at 0 (length run) (number_kind l)) (take_all (length run) run (omega arith)) ∙ ap (number_token_at 0 (length run)) kind

plain : (ds : List ℕ) → 0 < length ds → AreDigits ds → IsSpelled kinds.Int ds
unfolding token_at
plain [] positive h = absurd (omega arith)
plain (c ∷ cs) positive h =
    let begins : begins_number c ≡ true = or_left _ _ (or_left _ _ (is_digit c h.0 h.1)) in
    let no91 : (c == 91) ≡ false = ne_eqb c 91 (λ e. omega arith) in
    let no93 : (c == 93) ≡ false = ne_eqb c 93 (λ e. omega arith) in
    let no34 : (c == 34) ≡ false = ne_eqb c 34 (λ e. omega arith) in
    let no35 : (c == 35) ≡ false = ne_eqb c 35 (λ e. omega arith) in
    (rw (not_space c h.0, no35) refl, fifth (c == 91) (c == 93) (c == 34) (is_ascii_alphabetic c) (begins_number c) _ _ _ _ _ _ no91 no93 no34 (not_letter c h.1) begins ∙ whole_run (c ∷ cs) (all_run (c ∷ cs) h) (kind_plain (c ∷ cs) positive h))

minus : (ds : List ℕ) → 0 < length ds → AreDigits ds → IsSpelled kinds.Int (45 ∷ ds)
unfolding token_at
minus ds positive h =
    let run : prefix_len is_numeric (45 ∷ ds) ≡ length (45 ∷ ds) = omega (arith, all_run ds h) in
    (refl, whole_run (45 ∷ ds) run (kind_minus ds positive h))

-- ---- decimals

own : IsNumeralModel (AllDigits 10) number
own = numerals_by_fold (AllDigits 10) tells_digits (λ n ds. fold (λ m b. 10 * m + (b - 48)) n ds) (search rules)

small : (n : ℕ) → fits (int (pos n)) ≡ true → n < 2 ^ 64
small n fit = let g = and_parts (int_le (negsuc (2 ^ 63 - 1)) (pos n)) (int_le (pos n) (pos (2 ^ 63 - 1))) fit in omega (arith, leb-true n (2 ^ 63 - 1) g.1)

small_minus : (n : ℕ) → fits (int (negsuc n)) ≡ true → suc n < 2 ^ 64
small_minus n fit = let g = and_parts (int_le (negsuc (2 ^ 63 - 1)) (negsuc n)) (int_le (negsuc n) (pos (2 ^ 63 - 1))) fit in omega (arith, leb-true n (2 ^ 63 - 1) g.0)

pub decimal_spelled : (z : ℤ) → fits (int z) ≡ true → IsSpelled kinds.Int (signed_decimal z)
decimal_spelled (pos n) fit = let d = decimal_is_IsNumeral n (small n fit) in plain (decimal n) d.0.0 (digits_from (decimal n) d.0.1)
decimal_spelled (negsuc n) fit = let d = decimal_is_IsNumeral (suc n) (small_minus n fit) in minus (decimal (suc n)) d.0.0 (digits_from (decimal (suc n)) d.0.1)

pub plain_integer : (ds : List ℕ) → 0 < length ds → AreDigits ds → integer ds ≡ pos (number ds)
plain_integer [] positive h = absurd (omega arith)
plain_integer (c ∷ cs) positive h =
    let no45 : (c == 45) ≡ false = ne_eqb c 45 (λ e. omega arith) in
    cond-false (c == 45) (neg_ℤ (pos (number (unsigned (c ∷ cs))))) (pos (number (unsigned (c ∷ cs)))) no45 ∙ ap (λ (ds : List ℕ). pos (number ds)) (unsigned_is (c ∷ cs) h)

pub integer-decimal : (z : ℤ) → fits (int z) ≡ true → integer (signed_decimal z) ≡ z
integer-decimal (pos n) fit =
    let d = decimal_is_IsNumeral n (small n fit) in
    plain_integer (decimal n) d.0.0 (digits_from (decimal n) d.0.1) ∙ ap pos (digits_value-decimal own n (small n fit))
integer-decimal (negsuc n) fit = ap (λ (m : ℕ). neg_ℤ (pos m)) (digits_value-decimal own (suc n) (small_minus n fit))
