-- What one look at the rest of a piece says.
use Rattle.std.proofs.Common.{◌≡◌, ℕ, zero, suc, ◌+◌, ◌<◌, ◌≤◌, Bool, true, false, cond, List, [], ◌∷◌, ◌++◌, length, drop, take, Option, Some, None, Result, Ok, Err, refl, sym, ap, ◌∙◌, append_assoc, arith, add-one, add-zero, zero-add, get_or, drop-cons}
use Rattle.std.specs.Prelude.{position, nat_lt, ◌==◌, not}
use Rattle.std.specs.List.{prefix_len}
use Rattle.std.proofs.lemmas.Option.{cond_some}
use Rattle.std.proofs.Math.Seq.{drop-length, take-length, take-append-add}
use Rattle.std.proofs.lemmas.List.{length-append, append-nil, take-append-le}
use Rattle.std.proofs.lemmas.List.Sums.{prefix_len-le-length}
use Rattle.std.proofs.lemmas.Bool.{lt-ltb, le-ltb, ltb-true, ltb-false, eqb-true}
use Rattle.gml_core.specs.declared.token.TokenKind.{TokenKind}
use Rattle.gml_core.specs.declared.token.TokenKind.TheVariants as kinds
use Rattle.gml_core.specs.declared.token.Token.{Token}
use Rattle.gml_core.specs.declared.fault.GmlFault.{GmlFault}
use Rattle.gml_core.specs.declared.fault.GmlFault.TheVariants.{OpenString, BadNumber}
use Rattle.gml_core.specs.declared.pieces.Run.{Run}
use Rattle.gml_core.specs.declared.pieces.Run.TheVariants as runs
use Rattle.gml_core.specs.declared.pieces.State.TheVariants.{Inside, Failed}
use Rattle.gml_core.specs.Bytes.{is_space, ends_line, is_word, is_numeric, number_kind}
use Rattle.gml_core.specs.Lexing.{gap_from, token, number_token_at, token_at, found}
use Rattle.gml_core.specs.Pieces.{after_gap, gap_step, is_quoted, inside_token, opening, coming, before, behind, Goes, Closes, EndsToken}
use Rattle.gml_core.proofs.Again.{prefix_within}

-- ---- gaps

gap_more : (f g : Bool) (b : ℕ) (d : List ℕ) → gap_step f b ≡ Some g → gap_from f (b ∷ d) ≡ gap_from g d + 1
gap_more true g b d e = let same : not (ends_line b) ≡ g = cc in ap (λ (x : Bool). gap_from x d + 1) same
gap_more false g b d e = tests (is_space b) (b == 35) e
  where
    tests : (s c : Bool) → cond s (Some false) (cond c (Some true) None) ≡ Some g → cond s (gap_from false d + 1) (cond c (gap_from true d + 1) 0) ≡ gap_from g d + 1
    tests true c e = let same : false ≡ g = cc in ap (λ (x : Bool). gap_from x d + 1) same
    tests false true e = let same : true ≡ g = cc in ap (λ (x : Bool). gap_from x d + 1) same
    tests false false e = absurd cc

gap_none : (f : Bool) (b : ℕ) (d : List ℕ) → gap_step f b ≡ None → gap_from f (b ∷ d) ≡ 0
gap_none true b d e = absurd cc
gap_none false b d e = tests (is_space b) (b == 35) e
  where
    tests : (s c : Bool) → cond s (Some false) (cond c (Some true) None) ≡ None → cond s (gap_from false d + 1) (cond c (gap_from true d + 1) 0) ≡ 0
    tests true c e = absurd cc
    tests false true e = absurd cc
    tests false false e = refl

pub same_lt : (a b x y : ℕ) → (a < b → x < y) → (b ≤ a → y ≤ x) → nat_lt x y ≡ nat_lt a b
same_lt a b x y h k = by (nat_lt a b) refl
  where
    by : (t : Bool) → nat_lt a b ≡ t → nat_lt x y ≡ t
    by true e = lt-ltb x y (h (ltb-true a b e))
    by false e = le-ltb x y (k (ltb-false a b e))

-- with n bytes of a gap
abbrev behind_gap : ℕ → ℕ → List ℕ → Result (Option Token) GmlFault
behind_gap n at d = cond (nat_lt n (length d)) (found (token_at (at + n) (drop n d))) (Ok None)

-- one byte of a gap more
pub gap_goes : (f g : Bool) (b at : ℕ) (d : List ℕ) → gap_step f b ≡ Some g → after_gap f at (b ∷ d) ≡ after_gap g (at + 1) d
unfolding after_gap
gap_goes f g b at d e =
    let n = gap_from g d in
    let more : gap_from f (b ∷ d) ≡ suc n = gap_more f g b d e ∙ add-one n in
    let place : at + suc n ≡ (at + 1) + n = omega arith in
    let test : nat_lt (suc n) (suc (length d)) ≡ nat_lt n (length d) = same_lt n (length d) (suc n) (suc (length d)) (λ h. omega arith) (λ h. omega arith) in
    let first : behind_gap (gap_from f (b ∷ d)) at (b ∷ d) ≡ behind_gap (suc n) at (b ∷ d) = ap (λ (m : ℕ). behind_gap m at (b ∷ d)) more in
    let second : behind_gap (suc n) at (b ∷ d) ≡ behind_gap n (at + 1) d = λ i. cond (test i) (found (token_at (place i) (drop n d))) (Ok None) in
    first ∙ second

pub gap_ends : (f : Bool) (b at : ℕ) (d : List ℕ) → gap_step f b ≡ None → after_gap f at (b ∷ d) ≡ found (token_at at (b ∷ d))
unfolding after_gap
gap_ends f b at d e =
    let test : nat_lt 0 (suc (length d)) ≡ true = lt-ltb 0 (suc (length d)) (omega arith) in
    let place : at + 0 ≡ at = add-zero at in
    let first : behind_gap (gap_from f (b ∷ d)) at (b ∷ d) ≡ behind_gap 0 at (b ∷ d) = ap (λ (m : ℕ). behind_gap m at (b ∷ d)) (gap_none f b d e) in
    let second : behind_gap 0 at (b ∷ d) ≡ found (token_at at (b ∷ d)) = λ i. cond (test i) (found (token_at (place i) (b ∷ d))) (Ok None) in
    first ∙ second

-- the same behind n bytes of a text
pub skip_more : (f g : Bool) (text : List ℕ) (n at : ℕ) (c : List ℕ) → n < length text → gap_step f (get_or text n 0) ≡ Some g → after_gap f (at + n) (drop n text ++ c) ≡ after_gap g (at + (n + 1)) (drop (n + 1) text ++ c)
skip_more f g text n at c lt e =
    let here : drop n text ≡ get_or text n 0 ∷ drop (suc n) text = drop-cons text n 0 lt in
    let place : (at + n) + 1 ≡ at + (n + 1) = omega arith in
    ap (λ (l : List ℕ). after_gap f (at + n) (l ++ c)) here ∙ gap_goes f g (get_or text n 0) (at + n) (drop (suc n) text ++ c) e
    ∙ ap (λ (p : ℕ). after_gap g p (drop (suc n) text ++ c)) place ∙ ap (λ (m : ℕ). after_gap g (at + (n + 1)) (drop m text ++ c)) (sym (add-one n))

pub skip_ends : (f : Bool) (text : List ℕ) (n at : ℕ) (c : List ℕ) → n < length text → gap_step f (get_or text n 0) ≡ None → after_gap f at (drop n text ++ c) ≡ found (token_at at (drop n text ++ c))
skip_ends f text n at c lt e =
    let here : drop n text ≡ get_or text n 0 ∷ drop (suc n) text = drop-cons text n 0 lt in
    ap (λ (l : List ℕ). after_gap f at (l ++ c)) here ∙ gap_ends f (get_or text n 0) at (drop (suc n) text ++ c) e ∙ ap (λ (l : List ℕ). found (token_at at (l ++ c))) (sym here)

-- ---- fronts

prefix_all : (p : ℕ → Bool) (xs ys : List ℕ) → prefix_len p xs ≡ length xs → prefix_len p (xs ++ ys) ≡ length xs + prefix_len p ys
prefix_all p [] ys h = sym (zero-add (prefix_len p ys))
prefix_all p (x ∷ xs) ys h = passes (p x) (prefix_len p xs) (prefix_len p (xs ++ ys)) (length xs) (prefix_len p ys) h (λ e. prefix_all p xs ys e)
  where
    passes : (b : Bool) (n m k l : ℕ) → cond b (1 + n) 0 ≡ suc k → (n ≡ k → m ≡ k + l) → cond b (1 + m) 0 ≡ suc k + l
    passes true n m k l e h = omega (arith, h (omega arith))
    passes false n m k l e h = absurd (omega arith)

abbrev came : Token → Result (Option Token) GmlFault
came t = Ok (Some t)

drop_whole : (xs : List ℕ) (k : ℕ) → k ≡ length xs → drop k xs ≡ []
drop_whole xs k e = ap (λ (n : ℕ). drop n xs) e ∙ drop-length xs

take_whole : (xs : List ℕ) (k : ℕ) → k ≡ length xs → take k xs ≡ xs
take_whole xs k e = ap (λ (n : ℕ). take n xs) e ∙ take-length xs

-- ---- a token goes on to the end of the rest

inside_goes : (run : Run) (from at k : ℕ) (held rest h : List ℕ) (to : ℕ) → to ≡ at + k → to ≡ from + opening run + length h → 0 < length rest → h ≡ held ++ rest → k ≡ length rest
    → ((c : List ℕ) → inside_token run from held (rest ++ c) ≡ inside_token run from (held ++ rest) c) → Goes (Inside run from held) at rest (Inside run from h) k
unfolding coming
inside_goes run from at k held rest h to to-is placed positive h-is k-is comes = record {
  progress = omega arith;
  within = omega arith;
  comes = λ c. comes c ∙ ap (λ (l : List ℕ). inside_token run from l c) (sym h-is) ∙ ap (λ (l : List ℕ). inside_token run from h (l ++ c)) (sym (drop_whole rest k k-is));
  left = [];
  bytes = h-is ∙ ap (λ (l : List ℕ). held ++ l) (sym (take_whole rest k k-is));
  placed = sym to-is ∙ placed;
}

-- ---- keys

key_more : (from : ℕ) (held rest c : List ℕ) → prefix_len is_word rest ≡ length rest → inside_token runs.Key from held (rest ++ c) ≡ inside_token runs.Key from (held ++ rest) c
key_more from held rest c e =
    let n : length held + prefix_len is_word (rest ++ c) ≡ length (held ++ rest) + prefix_len is_word c = omega (arith, prefix_all is_word rest c e, length-append held rest) in
    ap (λ (m : ℕ). came (token kinds.Key from m)) n

pub key_goes : (from at k : ℕ) (held rest h : List ℕ) → at ≡ from + 0 + length held → 0 < length rest → prefix_len is_word rest ≡ length rest → h ≡ held ++ rest → k ≡ length rest → Goes (Inside runs.Key from held) at rest (Inside runs.Key from h) k
key_goes from at k held rest h at-is positive all h-is k-is =
    inside_goes runs.Key from at k held rest h (at + k) refl (omega (arith, ap length h-is, length-append held rest)) positive h-is k-is (λ c. key_more from held rest c all)

pub key_closes : (from at k to : ℕ) (held rest text : List ℕ) → at ≡ from + 0 + length held → prefix_len is_word rest < length rest → k ≡ prefix_len is_word rest → to ≡ at + k → text ≡ held ++ take k rest
    → Closes (Inside runs.Key from held) at rest (record { kind = kinds.Key; from = from; to = to }) text k
unfolding coming
key_closes from at k to held rest text at-is lt k-is to-is text-is = record {
  progress = omega arith;
  within = omega arith;
  comes = λ c.
      let n : from + (length held + prefix_len is_word (rest ++ c)) ≡ to = omega (arith, prefix_within is_word rest c lt) in
      ap (λ (m : ℕ). came (record { kind = kinds.Key; from = from; to = m })) n;
  to = to-is;
  from = omega arith;
  bytes = append-nil text ∙ text-is;
}

-- ---- numbers

abbrev number_text : List ℕ → ℕ → List ℕ → List ℕ
number_text held n d = held ++ take n d

number_more : (from : ℕ) (held rest c : List ℕ) → prefix_len is_numeric rest ≡ length rest → inside_token runs.Number from held (rest ++ c) ≡ inside_token runs.Number from (held ++ rest) c
number_more from held rest c e =
    let m = prefix_len is_numeric c in
    let all : prefix_len is_numeric (rest ++ c) ≡ length rest + m = prefix_all is_numeric rest c e in
    let n : length held + (length rest + m) ≡ length (held ++ rest) + m = omega (arith, length-append held rest) in
    let text : held ++ take (length rest + m) (rest ++ c) ≡ (held ++ rest) ++ take m c = ap (λ (l : List ℕ). held ++ l) (take-append-add rest c m) ∙ sym (append_assoc held rest (take m c)) in
    ap (λ (x : ℕ). found (number_token_at from (length held + x) (number_kind (held ++ take x (rest ++ c))))) all
    ∙ ap (λ (x : ℕ). found (number_token_at from x (number_kind (held ++ take (length rest + m) (rest ++ c))))) n
    ∙ ap (λ (l : List ℕ). found (number_token_at from (length (held ++ rest) + m) (number_kind l))) text

pub number_goes : (from at k : ℕ) (held rest h : List ℕ) → at ≡ from + 0 + length held → 0 < length rest → prefix_len is_numeric rest ≡ length rest → h ≡ held ++ rest → k ≡ length rest → Goes (Inside runs.Number from held) at rest (Inside runs.Number from h) k
number_goes from at k held rest h at-is positive all h-is k-is =
    inside_goes runs.Number from at k held rest h (at + k) refl (omega (arith, ap length h-is, length-append held rest)) positive h-is k-is (λ c. number_more from held rest c all)

number_ends : (from k : ℕ) (held rest text c : List ℕ) (o : Option TokenKind) → prefix_len is_numeric rest < length rest → k ≡ prefix_len is_numeric rest → text ≡ held ++ take k rest → number_kind text ≡ o
    → inside_token runs.Number from held (rest ++ c) ≡ found (number_token_at from (length held + k) o)
number_ends from k held rest text c o lt k-is text-is kind =
    let n : prefix_len is_numeric (rest ++ c) ≡ k = prefix_within is_numeric rest c lt ∙ sym k-is in
    let own : held ++ take k (rest ++ c) ≡ text = ap (λ (l : List ℕ). held ++ l) (take-append-le k rest c (omega arith)) ∙ sym text-is in
    ap (λ (x : ℕ). found (number_token_at from (length held + x) (number_kind (held ++ take x (rest ++ c))))) n
    ∙ ap (λ (l : List ℕ). found (number_token_at from (length held + k) (number_kind l))) own
    ∙ ap (λ (p : Option TokenKind). found (number_token_at from (length held + k) p)) kind

plain : (kind : TokenKind) → (kind ≡ kinds.Str → ⊥) → (before kind ≡ 0) × (behind kind ≡ [])
plain kinds.OpenList h = (refl, refl)
plain kinds.CloseList h = (refl, refl)
plain kinds.Key h = (refl, refl)
plain kinds.Int h = (refl, refl)
plain kinds.Real h = (refl, refl)
plain kinds.Str h = absurd (h refl)

pub number_closes : (from at k to : ℕ) (held rest text : List ℕ) (kind : TokenKind) → at ≡ from + 0 + length held → prefix_len is_numeric rest < length rest → k ≡ prefix_len is_numeric rest → to ≡ at + k
    → text ≡ held ++ take k rest → number_kind text ≡ Some kind → (kind ≡ kinds.Str → ⊥) → Closes (Inside runs.Number from held) at rest (record { kind = kind; from = from; to = to }) text k
unfolding coming
number_closes from at k to held rest text kind at-is lt k-is to-is text-is kind-is other = record {
  progress = omega arith;
  within = omega arith;
  comes = λ c.
      let n : from + (length held + k) ≡ to = omega arith in
      number_ends from k held rest text c (Some kind) lt k-is text-is kind-is ∙ ap (λ (m : ℕ). came (record { kind = kind; from = from; to = m })) n;
  to = to-is;
  from = omega (arith, (plain kind other).0);
  bytes = ap (λ (l : List ℕ). text ++ l) (plain kind other).1 ∙ append-nil text ∙ text-is;
}

pub number_fails : (from at k n : ℕ) (held rest text : List ℕ) → 0 < length rest → prefix_len is_numeric rest < length rest → n ≡ prefix_len is_numeric rest → text ≡ held ++ take n rest → number_kind text ≡ None → k ≡ length rest
    → Goes (Inside runs.Number from held) at rest (Failed (BadNumber from)) k
unfolding coming
number_fails from at k n held rest text positive lt n-is text-is none k-is = record {
  progress = omega arith;
  within = omega arith;
  comes = λ c. number_ends from n held rest text c None lt n-is text-is none;
  left = held ++ take k rest;
  bytes = append-nil (held ++ take k rest);
  placed = tt;
}

-- ---- strings

-- a string of n bytes, closed or not
abbrev string_of : ℕ → ℕ → Bool → Result (Option Token) GmlFault
string_of from n closed = cond closed (Ok (Some (token kinds.Str from (n + 2)))) (Err (OpenString from))

quoted_more : (from : ℕ) (held rest c : List ℕ) → prefix_len is_quoted rest ≡ length rest → inside_token runs.Quoted from held (rest ++ c) ≡ inside_token runs.Quoted from (held ++ rest) c
quoted_more from held rest c e =
    let m = prefix_len is_quoted c in
    let all : prefix_len is_quoted (rest ++ c) ≡ length rest + m = prefix_all is_quoted rest c e in
    let n : length held + prefix_len is_quoted (rest ++ c) ≡ length (held ++ rest) + m = omega (arith, length-append held rest) in
    let len = length-append rest c in
    let closed : nat_lt (prefix_len is_quoted (rest ++ c)) (length (rest ++ c)) ≡ nat_lt m (length c) = same_lt m (length c) _ _ (λ h. omega arith) (λ h. omega arith) in
    λ i. string_of from (n i) (closed i)

none_left : (rest : List ℕ) → position (λ x. x == 34) rest ≡ None → prefix_len is_quoted rest ≡ length rest
none_left rest e = by (nat_lt (prefix_len is_quoted rest) (length rest)) refl e
  where
    by : (t : Bool) → nat_lt (prefix_len is_quoted rest) (length rest) ≡ t → cond t (Some (prefix_len is_quoted rest)) None ≡ None → prefix_len is_quoted rest ≡ length rest
    by true e h = absurd cc
    by false e h = omega (arith, ltb-false _ _ e, prefix_len-le-length is_quoted rest)

pub quoted_goes : (from at k : ℕ) (held rest h : List ℕ) → at ≡ from + 1 + length held → 0 < length rest → position (λ x. x == 34) rest ≡ None → h ≡ held ++ rest → k ≡ length rest → Goes (Inside runs.Quoted from held) at rest (Inside runs.Quoted from h) k
quoted_goes from at k held rest h at-is positive none h-is k-is =
    inside_goes runs.Quoted from at k held rest h (at + k) refl (omega (arith, ap length h-is, length-append held rest)) positive h-is k-is (λ c. quoted_more from held rest c (none_left rest none))

-- the quote behind the bytes up to it
take_quote : (xs : List ℕ) (n : ℕ) → prefix_len is_quoted xs ≡ n → n < length xs → take (suc n) xs ≡ take n xs ++ 34 ∷ []
take_quote [] n e lt = absurd (omega arith)
take_quote (x ∷ xs) n e lt = by (λ m. take_quote xs m) (x == 34) refl n e lt
  where
    by : ((m : ℕ) → prefix_len is_quoted xs ≡ m → m < length xs → take (suc m) xs ≡ take m xs ++ 34 ∷ []) → (t : Bool) → (x == 34) ≡ t → (n : ℕ) → cond (not t) (1 + prefix_len is_quoted xs) 0 ≡ n → n < suc (length xs)
        → take (suc n) (x ∷ xs) ≡ take n (x ∷ xs) ++ 34 ∷ []
    by again true q zero e lt = let is : x ≡ 34 = eqb-true x 34 q in ap (λ (b : ℕ). b ∷ []) is
    by again true q (suc n) e lt = absurd (omega arith)
    by again false q zero e lt = absurd (omega arith)
    by again false q (suc n) e lt = ap (λ (l : List ℕ). x ∷ l) (again n (omega arith) (omega arith))

pub quoted_closes : (from at n k to : ℕ) (held rest text : List ℕ) → at ≡ from + 1 + length held → position (λ x. x == 34) rest ≡ Some n → k ≡ n + 1 → to ≡ at + n + 1 → text ≡ held ++ take n rest
    → Closes (Inside runs.Quoted from held) at rest (record { kind = kinds.Str; from = from; to = to }) text k
unfolding coming
quoted_closes from at n k to held rest text at-is some k-is to-is text-is =
    let g = cond_some (nat_lt (prefix_len is_quoted rest) (length rest)) (prefix_len is_quoted rest) n some in
    let lt : prefix_len is_quoted rest < length rest = ltb-true _ _ g.0 in
    let own : prefix_len is_quoted rest ≡ n = g.1 in
    let k-suc : k ≡ suc n = omega arith in
    record {
      progress = omega arith;
      within = omega arith;
      comes = λ c.
          let same : prefix_len is_quoted (rest ++ c) ≡ prefix_len is_quoted rest = prefix_within is_quoted rest c lt in
          let closed : nat_lt (prefix_len is_quoted (rest ++ c)) (length (rest ++ c)) ≡ true = lt-ltb _ _ (omega (arith, length-append rest c)) in
          let size : from + (length held + prefix_len is_quoted (rest ++ c) + 2) ≡ to = omega arith in
          ap (string_of from (length held + prefix_len is_quoted (rest ++ c))) closed ∙ ap (λ (m : ℕ). came (record { kind = kinds.Str; from = from; to = m })) size;
      to = omega arith;
      from = omega arith;
      bytes =
          ap (λ (l : List ℕ). l ++ 34 ∷ []) text-is ∙ append_assoc held (take n rest) (34 ∷ [])
          ∙ ap (λ (l : List ℕ). held ++ l) (sym (take_quote rest n own (omega arith))) ∙ ap (λ (m : ℕ). held ++ take m rest) (sym k-suc);
    }

-- ---- the end

pub key_last : (from at : ℕ) (held : List ℕ) → at ≡ from + 0 + length held → EndsToken (Inside runs.Key from held) at (record { kind = kinds.Key; from = from; to = at }) held
unfolding coming
key_last from at held at-is = record {
  comes = let n : from + (length held + 0) ≡ at = omega arith in ap (λ (m : ℕ). came (record { kind = kinds.Key; from = from; to = m })) n;
  to = refl;
  from = omega arith;
  bytes = append-nil held;
}

number_at_end : (from : ℕ) (held text : List ℕ) (o : Option TokenKind) → text ≡ held → number_kind text ≡ o → inside_token runs.Number from held [] ≡ found (number_token_at from (length held + 0) o)
number_at_end from held text o text-is kind = ap (λ (l : List ℕ). found (number_token_at from (length held + 0) (number_kind l))) (append-nil held ∙ sym text-is) ∙ ap (λ (p : Option TokenKind). found (number_token_at from (length held + 0) p)) kind

pub number_last : (from at : ℕ) (held text : List ℕ) (kind : TokenKind) → at ≡ from + 0 + length held → text ≡ held → number_kind text ≡ Some kind → (kind ≡ kinds.Str → ⊥) → EndsToken (Inside runs.Number from held) at (record { kind = kind; from = from; to = at }) held
unfolding coming
number_last from at held text kind at-is text-is kind-is other = record {
  comes = let n : from + (length held + 0) ≡ at = omega arith in number_at_end from held text (Some kind) text-is kind-is ∙ ap (λ (m : ℕ). came (record { kind = kind; from = from; to = m })) n;
  to = refl;
  from = omega (arith, (plain kind other).0);
  bytes = ap (λ (l : List ℕ). held ++ l) (plain kind other).1 ∙ append-nil held;
}

pub number_last_fails : (from at : ℕ) (held text : List ℕ) → text ≡ held → number_kind text ≡ None → coming (Inside runs.Number from held) at [] ≡ Err (BadNumber from)
unfolding coming
number_last_fails from at held text text-is none = number_at_end from held text None text-is none
