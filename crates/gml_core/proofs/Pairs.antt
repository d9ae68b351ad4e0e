-- Keys, integers and white space that are read at once, and what a reader keeps over them.
use Rattle.std.proofs.Common.{◌≡◌, ℕ, zero, suc, ◌+◌, ◌-◌, ◌*◌, ◌^◌, ◌<◌, ◌≤◌, Bool, true, false, cond, ℤ, pos, List, [], ◌∷◌, ◌++◌, length, drop, take, get_or, drop-cons, fold, Option, Some, None, refl, sym, ap, subst, ◌∙◌, arith, add-zero, add-one, ◌⊎◌, inl, inr, rules}
use Rattle.std.specs.Prelude.{◌==◌, ◌||◌, ◌&&◌, nat_le, position}
use Rattle.std.specs.List.{prefix_len}
use Rattle.std.specs.Char.{is_ascii_digit, is_ascii_alphabetic}
use Rattle.std.proofs.lemmas.Bool.{and_from, and_parts, and_left, or_from, or_left, le-leb, leb-true, lt-leb, ne_eqb, eqb-true}
use Rattle.std.proofs.lemmas.List.{length-take, length-drop, take_all, take_more}
use Rattle.std.proofs.lemmas.List.Sums.{fold_more}
use Rattle.std.proofs.lemmas.Str.Parse.{IsNumeralModel, numerals_by_fold, digits_value_short}
use Rattle.gml_core.specs.declared.token.TokenKind.TheVariants as kinds
use Rattle.gml_core.specs.declared.pieces.First.TheVariants.{Open, Close, Quote, Letter, Digit, Other}
use Rattle.gml_core.specs.declared.pieces.State.{State}
use Rattle.gml_core.specs.declared.pieces.State.TheVariants.{Between, Inside}
use Rattle.gml_core.specs.declared.pieces.Run.TheVariants as runs
use Rattle.gml_core.specs.declared.token.Token.{Token}
use Rattle.gml_core.specs.declared.tree.Value.{Value}
use Rattle.gml_core.specs.declared.parsing.Waiting.{Waiting}
use Rattle.gml_core.specs.declared.parsing.Builder.{Builder}
use Rattle.gml_core.specs.Bytes.{is_space, is_sign, is_word, is_numeric, begins_number}
use Rattle.gml_core.specs.Pieces.{after_gap, first_of, Goes, Closes}
use Rattle.gml_core.specs.Reading.{number, integer, begin, Moves}
use Rattle.gml_core.specs.Trees.{int, str, atom, fits, key, value}
use Rattle.gml_core.specs.Views.{datum}
use Rattle.gml_core.specs.Building.{words_of, state_of, TakesWord, IsAtom}
use Rattle.gml_core.specs.Readers.{Resumes, BuiltUp}
use Rattle.gml_core.proofs.Begins.{letter, Begins, begin_quote}
use Rattle.gml_core.proofs.Looks.{quoted_closes}
use Rattle.gml_core.proofs.Decimals.{AreDigits, is_digit, is_run, not_space, not_letter, kind_plain, plain_integer, fifth}
use Rattle.gml_core.proofs.Looked.{space_goes}
use Rattle.gml_core.proofs.Resuming.{goes_on, drop_further}
use Rattle.gml_core.proofs.Builds.{wait_takes}
use Rattle.gml_core.proofs.TreeRead.{tree_more}
use Rattle.gml_core.proofs.Wholes.{begins, first_space, whole_key, whole_number, whole_open, whole_close}

-- ---- bytes

space_low : (b : ℕ) → is_space b ≡ true → b ≤ 32
space_low b e = tests (b == 32) (nat_le 9 b && nat_le b 13) refl refl e
  where
    tests : (t s : Bool) → (b == 32) ≡ t → (nat_le 9 b && nat_le b 13) ≡ s → (t || s) ≡ true → b ≤ 32
    tests true s q p h = omega (arith, eqb-true b 32 q)
    tests false true q p h = omega (arith, leb-true b 13 (and_parts (nat_le 9 b) (nat_le b 13) p).1)
    tests false false q p h = absurd cc

space_ends : (b : ℕ) → is_space b ≡ true → is_numeric b ≡ false
space_ends b e =
    let low = space_low b e in
    let digit : is_ascii_digit b ≡ false = and_left _ _ (lt-leb 48 b (omega (arith, low))) in
    let sign : is_sign b ≡ false = or_from _ _ (ne_eqb b 43 (λ q. omega (arith, low))) (ne_eqb b 45 (λ q. omega (arith, low))) in
    or_from _ _ (or_from _ _ (or_from _ _ (or_from _ _ digit sign) (ne_eqb b 46 (λ q. omega (arith, low)))) (ne_eqb b 101 (λ q. omega (arith, low)))) (ne_eqb b 69 (λ q. omega (arith, low)))

space_no_word : (b : ℕ) → is_space b ≡ true → is_word b ≡ false
space_no_word b e =
    let low = space_low b e in
    or_from _ _ (or_from _ _ (or_from _ _ (and_left _ _ (lt-leb 48 b (omega (arith, low)))) (and_left _ _ (lt-leb 65 b (omega (arith, low))))) (and_left _ _ (lt-leb 97 b (omega (arith, low))))) (ne_eqb b 95 (λ q. omega (arith, low)))

pub letter_solid : (b : ℕ) → first_of b ≡ Letter → is_space b ≡ false
letter_solid b e = by (is_space b) refl
  where
    by : (t : Bool) → is_space b ≡ t → t ≡ false
    by false q = refl
    by true q =
        let yes : is_ascii_alphabetic b ≡ true = letter (b == 91) (b == 93) (b == 34) (is_ascii_alphabetic b) (begins_number b) e in
        let no : is_ascii_alphabetic b ≡ false = not_letter b (omega (arith, space_low b q)) in
        sym yes ∙ no

first_digit : (c : ℕ) → 48 ≤ c → c ≤ 57 → first_of c ≡ Digit
first_digit c low high =
    let begins : begins_number c ≡ true = or_left _ _ (or_left _ _ (is_digit c low high)) in
    let no91 : (c == 91) ≡ false = ne_eqb c 91 (λ e. omega arith) in
    let no93 : (c == 93) ≡ false = ne_eqb c 93 (λ e. omega arith) in
    let no34 : (c == 34) ≡ false = ne_eqb c 34 (λ e. omega arith) in
    fifth (c == 91) (c == 93) (c == 34) (is_ascii_alphabetic c) (begins_number c) Open Close Quote Letter Digit Other no91 no93 no34 (not_letter c high) begins

digit_range : (c : ℕ) → is_ascii_digit c ≡ true → (48 ≤ c) × (c ≤ 57)
digit_range c e = let g = and_parts (nat_le 48 c) (nat_le c 57) e in (leb-true 48 c g.0, leb-true c 57 g.1)

-- ---- fronts

-- the front ends where the test fails
no_front : (p : ℕ → Bool) (n : ℕ) (rest : List ℕ) → n < length rest → p (get_or rest n 0) ≡ false → prefix_len p (drop n rest) ≡ 0
no_front p n rest lt e = ap (prefix_len p) (drop-cons rest n 0 lt) ∙ ap (λ (t : Bool). cond t (1 + prefix_len p (drop (suc n) rest)) 0) e

front_more : (p : ℕ → Bool) (n : ℕ) (rest : List ℕ) → n < length rest → p (get_or rest n 0) ≡ true → n + prefix_len p (drop n rest) ≡ prefix_len p rest → n + 1 + prefix_len p (drop (n + 1) rest) ≡ prefix_len p rest
front_more p n rest lt e count =
    let one : prefix_len p (drop n rest) ≡ 1 + prefix_len p (drop (suc n) rest) = ap (prefix_len p) (drop-cons rest n 0 lt) ∙ ap (λ (t : Bool). cond t (1 + prefix_len p (drop (suc n) rest)) 0) e in
    let next : prefix_len p (drop (n + 1) rest) ≡ prefix_len p (drop (suc n) rest) = ap (λ (m : ℕ). prefix_len p (drop m rest)) (add-one n) in
    omega (arith, one, next, count)

digits_push : (ds : List ℕ) (c : ℕ) → AreDigits ds → 48 ≤ c → c ≤ 57 → AreDigits (ds ++ c ∷ [])
digits_push [] c h low high = (low, high, tt)
digits_push (d ∷ ds) c h low high = (h.0, h.1, digits_push ds c h.2 low high)

-- digits, and the number that they write
counted : IsNumeralModel AreDigits number
counted = numerals_by_fold AreDigits (record { empty = tt; parts = λ c cs h. ((h.0, h.1), h.2); more = λ c cs r h. (r.0, r.1, h) }) (λ n ds. fold (λ m b. 10 * m + (b - 48)) n ds) (search rules)

-- one digit more of at most 9
pub digit_more : (n v d : ℕ) (rest : List ℕ) → 10 ≤ length rest → is_ascii_digit (get_or rest n 0) ≡ true → d ≡ get_or rest n 0 - 48
    → (n ≤ 9) × (v < 1000000000) × (v ≡ number (take n rest)) × AreDigits (take n rest) × (n + prefix_len is_numeric (drop n rest) ≡ prefix_len is_numeric rest) → n < 9
    → (n + 1 ≤ 9) × (10 * v + d < 1000000000) × (10 * v + d ≡ number (take (n + 1) rest)) × AreDigits (take (n + 1) rest) × (n + 1 + prefix_len is_numeric (drop (n + 1) rest) ≡ prefix_len is_numeric rest)
digit_more n v d rest long digit d-is h small =
    let c = get_or rest n 0 in
    let lt : n < length rest = omega arith in
    let range = digit_range c digit in
    let digits : AreDigits (take (n + 1) rest) = subst AreDigits (sym (take_more rest n 0 lt)) (digits_push (take n rest) c h.3 range.0 range.1) in
    let value : 10 * v + d ≡ number (take (n + 1) rest) =
    ap (λ (x : ℕ). 10 * x + d) h.2 ∙ ap (λ (x : ℕ). 10 * number (take n rest) + x) d-is ∙ sym (fold_more (λ m b. 10 * m + (b - 48)) 0 rest n 0 lt) in
    let bound : number (take (n + 1) rest) < 10 ^ 9 = digits_value_short counted (take (n + 1) rest) 9 digits (omega (arith, length-take (n + 1) rest)) in (
      omega arith,
      omega (arith, value, bound),
      value,
      digits,
      front_more is_numeric n rest lt (is_run c range.0 range.1) h.4,
    )

digits_begin : (n : ℕ) (rest : List ℕ) → 0 < n → 0 < length rest → AreDigits (take n rest) → (48 ≤ get_or rest 0 0) × (get_or rest 0 0 ≤ 57)
digits_begin zero rest some more h = absurd (omega arith)
digits_begin (suc n) [] some more h = absurd (omega arith)
digits_begin (suc n) (c ∷ cs) some more h = (h.0, h.1)

taken : (n : ℕ) (rest : List ℕ) → 0 < n → n < length rest → 0 < length (take n rest)
taken n rest some lt = omega (arith, length-take n rest)

-- ---- tokens

pub key_at : (n : ℕ) (rest : List ℕ) → 0 < n → n < length rest → first_of (get_or rest 0 0) ≡ Letter → n + prefix_len is_word (drop n rest) ≡ prefix_len is_word rest → is_space (get_or rest n 0) ≡ true
    → (at : ℕ) → Closes Between at rest (record { kind = kinds.Key; from = at; to = at + n }) (take n rest) n
key_at n rest some lt first count ends at =
    whole_key at n rest (omega arith) (letter_solid (get_or rest 0 0) first) first (omega (arith, count, no_front is_word n rest lt (space_no_word (get_or rest n 0) ends))) lt

pub int_at : (n : ℕ) (rest : List ℕ) → 0 < n → n < length rest → AreDigits (take n rest) → n + prefix_len is_numeric (drop n rest) ≡ prefix_len is_numeric rest → is_space (get_or rest n 0) ≡ true
    → (at : ℕ) → Closes Between at rest (record { kind = kinds.Int; from = at; to = at + n }) (take n rest) n
int_at n rest some lt digits count ends at =
    let c = get_or rest 0 0 in
    let range = digits_begin n rest some (omega arith) digits in
    whole_number at n rest (take n rest) kinds.Int (omega arith) (not_space c range.0) (first_digit c range.0 range.1) (omega (arith, count, no_front is_numeric n rest lt (space_ends (get_or rest n 0) ends))) lt refl
    (kind_plain (take n rest) (taken n rest some lt) digits) (λ q. cc)

pub int_value : (n v : ℕ) (rest : List ℕ) → 0 < n → n < length rest → AreDigits (take n rest) → v ≡ number (take n rest) → integer (take n rest) ≡ pos v
int_value n v rest some lt digits e = plain_integer (take n rest) (taken n rest some lt) digits ∙ ap pos (sym e)

pub small_int : (text : List ℕ) (v : Value) (n : ℕ) → integer text ≡ pos n → n < 2 ^ 63 → datum v ≡ atom (int (pos n)) → IsAtom (value (int (integer text))) v
small_int text v n e lt view = record {
  said = int (integer text);
  value = view ∙ ap (λ (z : ℤ). atom (int z)) (sym e);
  word = refl;
  fit = ap (λ (z : ℤ). fits (int z)) e ∙ and_from _ _ refl (le-leb n (2 ^ 63 - 1) (omega (arith, lt)));
}

-- ---- readers

pub white_goes : (Upto : List ℕ → ℕ → Type 0) (b rest : List ℕ) (at n : ℕ) → ((at : ℕ) (c : List ℕ) → after_gap false at (rest ++ c) ≡ after_gap false (at + n) (drop n rest ++ c)) → n ≤ length rest
    → Resumes Upto b rest Between at → Resumes Upto b (drop n rest) Between (at + n)
white_goes Upto b rest at zero goes within r = subst (Resumes Upto b rest Between) (sym (add-zero at)) r
white_goes Upto b rest at (suc n) goes within r = goes_on Upto b rest Between Between at (suc n) r (space_goes Between at (suc n) rest refl goes (omega arith) within)

-- two steps are one
both : (Upto : List ℕ → ℕ → Type 0) (b rest : List ℕ) (at k m : ℕ) → Resumes Upto b (drop m (drop k rest)) Between ((at + k) + m) → Resumes Upto b (drop (k + m) rest) Between (at + (k + m))
both Upto b rest at k m r =
    let place : (at + k) + m ≡ at + (k + m) = omega arith in
    subst (λ (l : List ℕ). Resumes Upto b l Between (at + (k + m))) (sym (drop_further k m rest)) (subst (Resumes Upto b (drop m (drop k rest)) Between) place r)

-- a byte of white space more
pub one_white : (Upto : List ℕ → ℕ → Type 0) (b rest : List ℕ) (at n : ℕ) → n < length rest → is_space (get_or rest n 0) ≡ true → Resumes Upto b (drop n rest) Between (at + n) → Resumes Upto b (drop (n + 1) rest) Between (at + (n + 1))
one_white Upto b rest at n lt space r =
    let some : 0 < length (drop n rest) = omega (arith, length-drop n rest) in
    let first : is_space (get_or (drop n rest) 0 0) ≡ true = ap is_space (ap (λ (l : List ℕ). get_or l 0 0) (drop-cons rest n 0 lt)) ∙ space in
    both Upto b rest at n 1 (white_goes Upto b (drop n rest) (at + n) 1 (first_space (drop n rest) some first) some r)

pub past_goes : (Upto : List ℕ → ℕ → Type 0) (b rest : List ℕ) (at n m : ℕ) → (m ≡ n) ⊎ ((m ≡ n + 1) × (n < length rest) × (is_space (get_or rest n 0) ≡ true)) → Resumes Upto b (drop n rest) Between (at + n) → Resumes Upto b (drop m rest) Between (at + m)
past_goes Upto b rest at n m (inl e) r = subst (λ (k : ℕ). Resumes Upto b (drop k rest) Between (at + k)) (sym e) r
past_goes Upto b rest at n m (inr h) r = subst (λ (k : ℕ). Resumes Upto b (drop k rest) Between (at + k)) (sym h.0) (one_white Upto b rest at n h.1 h.2 r)

-- a step behind k bytes, of which the second is read from a slice
pub behind : (U V : List ℕ → ℕ → Type 0) (b rest : List ℕ) (at k m : ℕ) → k ≤ length rest
    → (Resumes U b (take (length rest - k) (drop k rest)) Between (at + k) → Resumes V b (drop m (take (length rest - k) (drop k rest))) Between ((at + k) + m))
    → Resumes U b (drop k rest) Between (at + k) → Resumes V b (drop (k + m) rest) Between (at + (k + m))
behind U V b rest at k m within goes r =
    let all : take (length rest - k) (drop k rest) ≡ drop k rest = take_all (length rest - k) (drop k rest) (omega (arith, length-drop k rest)) in
    both V b rest at k m (subst (λ (l : List ℕ). Resumes U b l Between (at + k) → Resumes V b (drop m l) Between ((at + k) + m)) all goes r)

-- a reader sees no more of a builder than its words and its state
alike_read : (old new : Builder) (b rest : List ℕ) (at : ℕ) → words_of old ≡ words_of new → state_of old ≡ state_of new → Resumes (BuiltUp old) b rest Between at → Resumes (BuiltUp new) b rest Between at
alike_read old new b rest at words state r = record {
  front = r.front;
  bytes = r.bytes;
  ends = r.ends;
  placed = r.placed;
  comes = λ c.
      let h = r.comes c in
      (h.0, record { tokens = h.1.tokens; leads = h.1.leads; words = h.1.words ∙ words; moves = subst (Moves (b ++ c) begin h.1.tokens) state h.1.moves }, h.2);
}

pub same_read : (w : Option Waiting) (old new : Builder) (b rest : List ℕ) (at : ℕ) → old.waits ≡ w → new.waits ≡ w → new.stack ≡ old.stack → new.pairs ≡ old.pairs → Resumes (BuiltUp old) b rest Between at → Resumes (BuiltUp new) b rest Between at
same_read w old new b rest at before after stack pairs r = alike_read old new b rest at (rw (before, after, stack, pairs) refl) (rw (before, after, stack) refl) r

pub none_more : (Upto : List ℕ → ℕ → Type 0) (b rest : List ℕ) (at : ℕ) → Resumes Upto b rest Between at → Resumes Upto b rest Between (at + 0)
none_more Upto b rest at r = subst (Resumes Upto b rest Between) (sym (add-zero at)) r

-- ---- tokens that a builder takes

pub open_at : (rest : List ℕ) → 0 < length rest → get_or rest 0 0 ≡ 91 → (at : ℕ) → Closes Between at rest (record { kind = kinds.OpenList; from = at; to = at + 1 }) (take 1 rest) 1
open_at rest some e at = whole_open at rest some (ap is_space e) (ap first_of e)

pub close_at : (rest : List ℕ) → 0 < length rest → get_or rest 0 0 ≡ 93 → (at : ℕ) → Closes Between at rest (record { kind = kinds.CloseList; from = at; to = at + 1 }) (take 1 rest) 1
close_at rest some e at = whole_close at rest some (ap is_space e) (ap first_of e)

-- a key is read, whose value comes next
pub key_read : (old : Builder) (w : Waiting) (b rest : List ℕ) (at n : ℕ) → old.waits ≡ None → w.key ≡ take n rest → w.at ≡ at → Closes Between at rest (record { kind = kinds.Key; from = at; to = at + n }) (take n rest) n
    → Resumes (BuiltUp old) b rest Between at → Resumes (BuiltUp (record old { waits = Some w })) b (drop n rest) Between (at + n)
key_read old w b rest at n none key-is at-is closes r =
    tree_more old (record old { waits = Some w }) b rest (take n rest) Between at n (record { kind = kinds.Key; from = at; to = at + n }) r closes
    (wait_takes at (key (take n rest) at) old (record old { waits = Some w }) (take n rest) w refl none refl key-is at-is refl refl)

-- where nothing is taken, reading stands where it stood
pub none_taken : (Upto : List ℕ → ℕ → Type 0) (b rest : List ℕ) (at n : ℕ) → n ≡ 0 → Resumes Upto b (drop n rest) Between (at + n) → Resumes Upto b rest Between at
none_taken Upto b rest at n none r = subst (Resumes Upto b rest Between) (add-zero at) (subst (λ (k : ℕ). Resumes Upto b (drop k rest) Between (at + k)) none r)

-- a string is read, of which the first quote is at the front
pub text_read : (old new : Builder) (b rest text : List ℕ) (at n : ℕ) → 0 < length rest → get_or rest 0 0 ≡ 34 → position (λ x. x == 34) (take (length rest - 1) (drop 1 rest)) ≡ Some n → text ≡ take n (take (length rest - 1) (drop 1 rest))
    → TakesWord at (value (str text)) old new → Resumes (BuiltUp old) b rest Between at → Resumes (BuiltUp new) b (drop (n + 2) rest) Between (at + (n + 2))
text_read old new b rest text at n some e quote text-is takes r =
    let inside : State = Inside runs.Quoted at [] in
    let all : take (length rest - 1) (drop 1 rest) ≡ drop 1 rest = take_all (length rest - 1) (drop 1 rest) (omega (arith, length-drop 1 rest)) in
    let starts : Begins Between at rest = begins at rest Quote some (ap is_space e) (ap first_of e) (λ q. cc) in
    let opens : Goes Between at rest inside 1 = begin_quote Between at rest [] some (ap first_of e) refl refl starts in
    let t : Token = record { kind = kinds.Str; from = at; to = (at + 1) + n + 1 } in
    let ends : Closes inside (at + 1) (drop 1 rest) t text (n + 1) =
    quoted_closes at (at + 1) n (n + 1) ((at + 1) + n + 1) [] (drop 1 rest) text (omega arith) (ap (position (λ x. x == 34)) (sym all) ∙ quote) refl refl (text-is ∙ ap (take n) all) in
    let read = tree_more old new b (drop 1 rest) text inside (at + 1) (n + 1) t (goes_on (BuiltUp old) b rest Between inside at 1 r opens) ends takes in
    let two : 1 + (n + 1) ≡ n + 2 = omega arith in
    subst (λ (k : ℕ). Resumes (BuiltUp new) b (drop k rest) Between (at + k)) two (both (BuiltUp new) b rest at 1 (n + 1) read)
