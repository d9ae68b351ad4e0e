-- What a look says where a token or a gap begins, and of the mark.
use Rattle.std.proofs.Common.{◌≡◌, ◌≢◌, ℕ, ◌+◌, ◌<◌, ◌≤◌, inl, inr, Bool, true, false, cond, List, [], ◌∷◌, ◌++◌, length, drop, take, get_or, Option, Some, None, Result, Ok, Err, refl, sym, ap, subst, ◌∙◌, arith, zero-add}
use Rattle.std.specs.Prelude.{position, nat_lt, ◌==◌, ◌||◌, IfOk}
use Rattle.std.specs.List.{prefix_len}
use Rattle.std.specs.Char.{is_ascii_alphabetic, is_ascii_digit}
use Rattle.std.specs.Int.{is_in_range}
use Rattle.std.proofs.lemmas.List.{append-nil}
use Rattle.std.proofs.lemmas.Bool.Decides.{eqb_tells}
use Rattle.std.proofs.lemmas.Result.{IfOk-weaker}
use Rattle.gml_core.specs.declared.token.TokenKind.TheVariants as kinds
use Rattle.gml_core.specs.declared.token.Token.{Token}
use Rattle.gml_core.specs.declared.fault.GmlFault.{GmlFault}
use Rattle.gml_core.specs.declared.fault.GmlFault.TheVariants.{BadByte, OpenString}
use Rattle.gml_core.specs.declared.pieces.First.{First}
use Rattle.gml_core.specs.declared.pieces.First.TheVariants.{Open, Close, Quote, Letter, Digit, Other}
use Rattle.gml_core.specs.declared.pieces.Run.{Run}
use Rattle.gml_core.specs.declared.pieces.Run.TheVariants as runs
use Rattle.gml_core.specs.declared.pieces.State.{State}
use Rattle.gml_core.specs.declared.pieces.State.TheVariants.{Start, MarkOne, MarkTwo, Between, Comment, Inside, Failed}
use Rattle.gml_core.specs.declared.pieces.Seen.{Seen}
use Rattle.gml_core.specs.declared.pieces.Seen.TheVariants.{More, Whole}
use Rattle.gml_core.specs.Bytes.{is_word, begins_number, is_numeric, number_kind}
use Rattle.gml_core.specs.Lexing.{token, string_at, number_token_at, token_at, found}
use Rattle.gml_core.specs.Pieces.{after_gap, at_start, first_of, is_quoted, inside_token, coming, held_of, before, behind, IsPlaced, Goes, Closes, Sees}
use Rattle.gml_core.proofs.Total.{found_moves, token_at_moves}

-- ---- one row a first byte

abbrev row : First → ℕ → ℕ → List ℕ → Result Token GmlFault
row Open at b bs = Ok (token kinds.OpenList at 1)
row Close at b bs = Ok (token kinds.CloseList at 1)
row Quote at b bs = string_at at (position (λ x. x == 34) bs)
row Letter at b bs = Ok (token kinds.Key at (prefix_len is_word bs + 1))
row Digit at b bs = number_token_at at (prefix_len is_numeric (b ∷ bs)) (number_kind (take (prefix_len is_numeric (b ∷ bs)) (b ∷ bs)))
row Other at b bs = Err (BadByte at)

abbrev picked : Bool → Bool → Bool → Bool → Bool → First
picked o c q l n = cond o Open (cond c Close (cond q Quote (cond l Letter (cond n Digit Other))))

token_row : (at b : ℕ) (bs : List ℕ) (f : First) → first_of b ≡ f → token_at at (b ∷ bs) ≡ row f at b bs
unfolding token_at
token_row at b bs f e = rows (b == 91) (b == 93) (b == 34) (is_ascii_alphabetic b) (begins_number b) ∙ ap (λ (g : First). row g at b bs) e
  where
    rows : (o c q l n : Bool) → cond o (row Open at b bs) (cond c (row Close at b bs) (cond q (row Quote at b bs) (cond l (row Letter at b bs) (cond n (row Digit at b bs) (row Other at b bs))))) ≡ row (picked o c q l n) at b bs
    rows true c q l n = refl
    rows false true q l n = refl
    rows false false true l n = refl
    rows false false false true n = refl
    rows false false false false true = refl
    rows false false false false false = refl

pub letter : (o c q l n : Bool) → picked o c q l n ≡ Letter → l ≡ true
letter true c q l n e = absurd cc
letter false true q l n e = absurd cc
letter false false true l n e = absurd cc
letter false false false true n e = refl
letter false false false false true e = absurd cc
letter false false false false false e = absurd cc

in_word : (d u l w : Bool) → (u || l) ≡ true → (((d || u) || l) || w) ≡ true
in_word true u l w e = refl
in_word false true l w e = refl
in_word false false true w e = refl
in_word false false false w e = absurd cc

-- ---- what begins a token

abbrev came : Token → Result (Option Token) GmlFault
came t = Ok (Some t)

is_key : (at b : ℕ) (bs : List ℕ) → first_of b ≡ Letter → found (token_at at (b ∷ bs)) ≡ inside_token runs.Key at [] (b ∷ bs)
is_key at b bs e =
    let alphabetic : is_ascii_alphabetic b ≡ true = letter (b == 91) (b == 93) (b == 34) (is_ascii_alphabetic b) (begins_number b) e in
    let word : is_word b ≡ true = in_word (is_ascii_digit b) (is_in_range 65 90 b) (is_in_range 97 122 b) (b == 95) alphabetic in
    let len : prefix_len is_word bs + 1 ≡ 0 + prefix_len is_word (b ∷ bs) = omega (arith, ap (λ (t : Bool). cond t (1 + prefix_len is_word bs) 0) word) in
    ap found (token_row at b bs Letter e) ∙ ap (λ (n : ℕ). came (token kinds.Key at n)) len

is_number : (at b : ℕ) (bs : List ℕ) → first_of b ≡ Digit → found (token_at at (b ∷ bs)) ≡ inside_token runs.Number at [] (b ∷ bs)
is_number at b bs e =
    let run = prefix_len is_numeric (b ∷ bs) in
    ap found (token_row at b bs Digit e) ∙ ap (λ (n : ℕ). found (number_token_at at n (number_kind (take run (b ∷ bs))))) (sym (zero-add run))

is_string : (at b : ℕ) (bs : List ℕ) → first_of b ≡ Quote → found (token_at at (b ∷ bs)) ≡ inside_token runs.Quoted at [] bs
is_string at b bs e =
    let n = prefix_len is_quoted bs in
    ap found (token_row at b bs Quote e) ∙ closed n (nat_lt n (length bs)) ∙ ap (λ (m : ℕ). cond (nat_lt n (length bs)) (came (token kinds.Str at (m + 2))) (Err (OpenString at))) (sym (zero-add n))
  where
    closed : (n : ℕ) (t : Bool) → found (string_at at (cond t (Some n) None)) ≡ cond t (came (token kinds.Str at (n + 2))) (Err (OpenString at))
    closed n true = refl
    closed n false = refl

-- ---- the state is any in which a token begins here

abbrev pub Begins : State → ℕ → List ℕ → Type 0
Begins s at rest = (c : List ℕ) → coming s at (rest ++ c) ≡ found (token_at at (rest ++ c))

sees_from : (s : State) (run : Run) (at : ℕ) (rest : List ℕ) (seen : Seen) → held_of s ≡ [] → Begins s at rest → ((c : List ℕ) → found (token_at at (rest ++ c)) ≡ inside_token run at [] (rest ++ c)) → Sees (Inside run at []) at rest seen → Sees s at rest seen
unfolding coming
sees_from s run at rest (More new k) none begins same sees = record {
  progress = sees.progress;
  within = sees.within;
  comes = λ c. begins c ∙ same c ∙ sees.comes c;
  left = sees.left;
  bytes = sees.bytes ∙ ap (λ (l : List ℕ). l ++ take k rest) (sym none);
  placed = sees.placed;
}
sees_from s run at rest (Whole t held n k) none begins same sees =
    let moved : at < t.to = found_moves at (token_at at (rest ++ [])) t (token_at_moves at (rest ++ [])).moves (same [] ∙ sees.1.comes []) in (
      sees.0,
      record {
        progress = omega (arith, sees.1.to);
        within = sees.1.within;
        comes = λ c. begins c ∙ same c ∙ sees.1.comes c;
        to = sees.1.to;
        from = omega (arith, sees.1.from, ap length none);
        bytes = sees.1.bytes ∙ ap (λ (l : List ℕ). l ++ take k rest) (sym none);
      },
    )

pub begin_key : {E : Type 0} (s : State) (at : ℕ) (rest held : List ℕ) (r : Result Seen E) → 0 < length rest → first_of (get_or rest 0 0) ≡ Letter → held ≡ [] → held_of s ≡ [] → Begins s at rest → IfOk r (Sees (Inside runs.Key at held) at rest) → IfOk r (Sees s at rest)
begin_key s at [] held r some e held-is none begins ok = absurd (omega arith)
begin_key s at (b ∷ bs) held r some e held-is none begins ok =
    IfOk-weaker r (Sees (Inside runs.Key at []) at (b ∷ bs)) (Sees s at (b ∷ bs)) (λ seen sees. sees_from s runs.Key at (b ∷ bs) seen none begins (λ c. is_key at b (bs ++ c) e) sees)
    (subst (λ (h : List ℕ). IfOk r (Sees (Inside runs.Key at h) at (b ∷ bs))) held-is ok)

pub begin_number : {E : Type 0} (s : State) (at : ℕ) (rest held : List ℕ) (r : Result Seen E) → 0 < length rest → first_of (get_or rest 0 0) ≡ Digit → held ≡ [] → held_of s ≡ [] → Begins s at rest → IfOk r (Sees (Inside runs.Number at held) at rest) → IfOk r (Sees s at rest)
begin_number s at [] held r some e held-is none begins ok = absurd (omega arith)
begin_number s at (b ∷ bs) held r some e held-is none begins ok =
    IfOk-weaker r (Sees (Inside runs.Number at []) at (b ∷ bs)) (Sees s at (b ∷ bs)) (λ seen sees. sees_from s runs.Number at (b ∷ bs) seen none begins (λ c. is_number at b (bs ++ c) e) sees)
    (subst (λ (h : List ℕ). IfOk r (Sees (Inside runs.Number at h) at (b ∷ bs))) held-is ok)

pub begin_quote : (s : State) (at : ℕ) (rest held : List ℕ) → 0 < length rest → first_of (get_or rest 0 0) ≡ Quote → held ≡ [] → held_of s ≡ [] → Begins s at rest → Goes s at rest (Inside runs.Quoted at held) 1
unfolding coming
begin_quote s at [] held some e held-is none begins = absurd (omega arith)
begin_quote s at (b ∷ bs) held some e held-is none begins = record {
  progress = omega arith;
  within = omega arith;
  comes = λ c. begins c ∙ is_string at b (bs ++ c) e ∙ ap (λ (h : List ℕ). inside_token runs.Quoted at h (bs ++ c)) (sym held-is);
  left = b ∷ [];
  bytes = ap (λ (h : List ℕ). b ∷ h) held-is ∙ ap (λ (h : List ℕ). h ++ b ∷ []) (sym none);
  placed = omega (arith, ap length held-is);
}

pub begin_other : (s : State) (at : ℕ) (rest : List ℕ) → 0 < length rest → first_of (get_or rest 0 0) ≡ Other → held_of s ≡ [] → Begins s at rest → Goes s at rest (Failed (BadByte at)) (length rest)
unfolding coming
begin_other s at [] some e none begins = absurd (omega arith)
begin_other s at (b ∷ bs) some e none begins = record {
  progress = some;
  within = omega arith;
  comes = λ c. begins c ∙ ap found (token_row at b (bs ++ c) Other e);
  left = held_of s ++ take (length (b ∷ bs)) (b ∷ bs);
  bytes = append-nil _;
  placed = tt;
}

bracket_closes : (s : State) (at b : ℕ) (bs : List ℕ) (t : Token) → t.from ≡ at → t.to ≡ at + 1 → before t.kind ≡ 0 → behind t.kind ≡ [] → held_of s ≡ [] → ((c : List ℕ) → coming s at (b ∷ (bs ++ c)) ≡ came t) → Closes s at (b ∷ bs) t (b ∷ []) 1
bracket_closes s at b bs t from-is to-is zero-is nil-is none comes = record {
  progress = omega arith;
  within = omega arith;
  comes = comes;
  to = to-is;
  from = omega (arith, ap length none);
  bytes = ap (λ (l : List ℕ). b ∷ l) nil-is ∙ ap (λ (l : List ℕ). l ++ b ∷ []) (sym none);
}

pub begin_open : (s : State) (at : ℕ) (rest : List ℕ) (seen : Seen) → 0 < length rest → first_of (get_or rest 0 0) ≡ Open → seen ≡ Whole (record { kind = kinds.OpenList; from = at; to = at + 1 }) [] 1 1 → held_of s ≡ [] → Begins s at rest → Sees s at rest seen
begin_open s at [] seen some e seen-is none begins = absurd (omega arith)
begin_open s at (b ∷ bs) seen some e seen-is none begins = subst (Sees s at (b ∷ bs)) (sym seen-is) (omega arith, bracket_closes s at b bs _ refl refl refl refl none (λ c. begins c ∙ ap found (token_row at b (bs ++ c) Open e)))

pub begin_close : (s : State) (at : ℕ) (rest : List ℕ) (seen : Seen) → 0 < length rest → first_of (get_or rest 0 0) ≡ Close → seen ≡ Whole (record { kind = kinds.CloseList; from = at; to = at + 1 }) [] 1 1 → held_of s ≡ [] → Begins s at rest → Sees s at rest seen
begin_close s at [] seen some e seen-is none begins = absurd (omega arith)
begin_close s at (b ∷ bs) seen some e seen-is none begins = subst (Sees s at (b ∷ bs)) (sym seen-is) (omega arith, bracket_closes s at b bs _ refl refl refl refl none (λ c. begins c ∙ ap found (token_row at b (bs ++ c) Close e)))

-- ---- gaps

pub gap_goes_on : (s : State) (f g : Bool) (at k : ℕ) (rest : List ℕ) (state : State) → state ≡ cond g Comment Between → held_of s ≡ [] → ((c : List ℕ) → coming s at (rest ++ c) ≡ after_gap f at (rest ++ c))
    → ((at : ℕ) (c : List ℕ) → after_gap f at (rest ++ c) ≡ after_gap g (at + k) (drop k rest ++ c)) → 0 < k → k ≤ length rest → Goes s at rest state k
unfolding coming
gap_goes_on s f g at k rest state state-is none comes goes some within = subst (λ (t : State). Goes s at rest t k) (sym state-is) (by g goes)
  where
    by : (g : Bool) → ((at : ℕ) (c : List ℕ) → after_gap f at (rest ++ c) ≡ after_gap g (at + k) (drop k rest ++ c)) → Goes s at rest (cond g Comment Between) k
    by true goes = record { progress = some; within = within; comes = λ c. comes c ∙ goes at c; left = held_of s ++ take k rest; bytes = append-nil _; placed = tt }
    by false goes = record { progress = some; within = within; comes = λ c. comes c ∙ goes at c; left = held_of s ++ take k rest; bytes = append-nil _; placed = tt }

-- ---- the mark

pub start_goes : (at : ℕ) (rest : List ℕ) → 0 < length rest → get_or rest 0 0 ≡ 239 → Goes Start at rest MarkOne 1
unfolding coming
start_goes at [] some e = absurd (omega arith)
start_goes at (b ∷ bs) some e = record {
  progress = omega arith;
  within = omega arith;
  comes = λ c. ap (λ (x : ℕ). at_start at (x ∷ (bs ++ c))) e;
  left = b ∷ [];
  bytes = refl;
  placed = tt;
}

pub start_ends : (at : ℕ) (rest c : List ℕ) → 0 < length rest → get_or rest 0 0 ≢ 239 → coming Start at (rest ++ c) ≡ after_gap false at (rest ++ c)
unfolding coming
start_ends at [] c some e = absurd (omega arith)
start_ends at (b ∷ bs) c some e = elim (eqb_tells b 239) [ inl h ↦ absurd (e h.1) | inr h ↦ rw h.0 refl ]

marked : (s new : State) (at b wanted : ℕ) (bs : List ℕ) → held_of s ≡ [] → held_of new ≡ [] → IsPlaced new (at + 1) → ((c : List ℕ) → coming s at (b ∷ (bs ++ c)) ≡ cond (b == wanted) (coming new (at + 1) (bs ++ c)) (Err (BadByte 0)))
    → Sees s at (b ∷ bs) (cond (b == wanted) (More new 1) (More (Failed (BadByte 0)) (length (b ∷ bs))))
unfolding coming
marked s new at b wanted bs none none' placed comes = by (b == wanted) comes
  where
    by : (t : Bool) → ((c : List ℕ) → coming s at (b ∷ (bs ++ c)) ≡ cond t (coming new (at + 1) (bs ++ c)) (Err (BadByte 0))) → Sees s at (b ∷ bs) (cond t (More new 1) (More (Failed (BadByte 0)) (length (b ∷ bs))))
    by true comes = record { progress = omega arith; within = omega arith; comes = comes; left = b ∷ []; bytes = ap (λ (l : List ℕ). b ∷ l) none' ∙ ap (λ (l : List ℕ). l ++ b ∷ []) (sym none); placed = placed }
    by false comes = record { progress = omega arith; within = omega arith; comes = comes; left = held_of s ++ take (length (b ∷ bs)) (b ∷ bs); bytes = append-nil _; placed = tt }

pub one_goes : (at : ℕ) (rest : List ℕ) (seen : Seen) → 0 < length rest → seen ≡ cond (get_or rest 0 0 == 187) (More MarkTwo 1) (More (Failed (BadByte 0)) (length rest)) → Sees MarkOne at rest seen
unfolding coming
one_goes at [] seen some e = absurd (omega arith)
one_goes at (b ∷ bs) seen some e = subst (Sees MarkOne at (b ∷ bs)) (sym e) (marked MarkOne MarkTwo at b 187 bs refl refl tt (λ c. refl))

pub two_goes : (at : ℕ) (rest : List ℕ) (seen : Seen) → 0 < length rest → seen ≡ cond (get_or rest 0 0 == 191) (More Between 1) (More (Failed (BadByte 0)) (length rest)) → Sees MarkTwo at rest seen
unfolding coming
two_goes at [] seen some e = absurd (omega arith)
two_goes at (b ∷ bs) seen some e = subst (Sees MarkTwo at (b ∷ bs)) (sym e) (marked MarkTwo Between at b 191 bs refl refl tt (λ c. refl))

pub failed_goes : (fault : GmlFault) (at : ℕ) (rest : List ℕ) → 0 < length rest → Goes (Failed fault) at rest (Failed fault) (length rest)
unfolding coming
failed_goes fault at rest some = record { progress = some; within = omega arith; comes = λ c. refl; left = take (length rest) rest; bytes = append-nil _; placed = tt }
