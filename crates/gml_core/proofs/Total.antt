-- All bytes are a text or have a first fault.
use Rattle.std.proofs.Common.{◌≡◌, ℕ, zero, suc, ◌+◌, ◌-◌, ◌<◌, Bool, true, false, cond, ◌⊎◌, inl, inr, List, [], ◌∷◌, ◌++◌, length, drop, take, map, Option, Some, None, Result, Ok, Err, refl, sym, ap, subst, ◌∙◌, arith}
use Rattle.std.specs.Prelude.{is_some, position, nat_lt, ◌==◌}
use Rattle.std.specs.List.{prefix_len}
use Rattle.std.specs.Char.{is_ascii_alphabetic}
use Rattle.std.proofs.lemmas.List.{append-nil, nil_from_length}
use Rattle.std.proofs.lemmas.Bool.{or_left, ltb-true}
use Rattle.gml_core.specs.declared.token.TokenKind.{TokenKind}
use Rattle.gml_core.specs.declared.token.TokenKind.TheVariants as kinds
use Rattle.gml_core.specs.declared.token.Token.{Token}
use Rattle.gml_core.specs.declared.fault.GmlFault.{GmlFault}
use Rattle.gml_core.specs.Bytes.{is_word, begins_number, is_numeric, number_kind}
use Rattle.gml_core.specs.Trees.{Entries, spelling}
use Rattle.gml_core.specs.Lexing.{token, string_at, number_token_at, token_at, found, next_place, next_token, first_place, Leads, AreTokens, IsFaultyToken}
use Rattle.gml_core.specs.Reading.{State, begin, step, word, fault_of, end_fault_in, Moves, IsText, IsFirstFault}
use Rattle.gml_core.proofs.Cuts.{Leads-push}
use Rattle.gml_core.proofs.Walks.{moves_bounded}
use Rattle.gml_core.proofs.SoFar.{Moves-push}
use Rattle.gml_core.proofs.Partial.{nothing, grow_all}

-- ---- a token has a byte

abbrev good : Token → Result Token GmlFault
good t = Ok t

good_is : (x y : Token) → good x ≡ good y → x ≡ y
good_is x y e = cc

token_moves : (kind : TokenKind) (at len : ℕ) (t : Token) → 0 < len → good (token kind at len) ≡ good t → at < t.to
token_moves kind at len t positive e = omega (arith, ap (λ (x : Token). x.to) (good_is (token kind at len) t e))

string_moves : (at : ℕ) (o : Option ℕ) (t : Token) → string_at at o ≡ Ok t → at < t.to
string_moves at (Some n) t e = token_moves kinds.Str at (n + 2) t (omega arith) e
string_moves at None t e = absurd cc

number_moves : (at len : ℕ) (o : Option TokenKind) (t : Token) → 0 < len → number_token_at at len o ≡ Ok t → at < t.to
number_moves at len (Some kind) t positive e = token_moves kind at len t positive e
number_moves at len None t positive e = absurd cc

run_positive : (b : ℕ) (bs : List ℕ) → begins_number b ≡ true → 0 < prefix_len is_numeric (b ∷ bs)
run_positive b bs e =
    let numeric : is_numeric b ≡ true = or_left _ _ (or_left _ _ e) in
    let len : prefix_len is_numeric (b ∷ bs) ≡ 1 + prefix_len is_numeric bs = rw numeric refl in
    omega arith

-- a token that is there ends behind the place
pub record IsAfter (at : ℕ) (r : Result Token GmlFault) : Type 0 where
  pub moves : (t : Token) → r ≡ Ok t → at < t.to

by_cond : (at : ℕ) (b : Bool) (x y : Result Token GmlFault) → (b ≡ true → IsAfter at x) → IsAfter at y → IsAfter at (cond b x y)
by_cond at true x y h k = h refl
by_cond at false x y h k = k

pub token_at_moves : (at : ℕ) (bs : List ℕ) → IsAfter at (token_at at bs)
unfolding token_at
token_at_moves at [] = record { moves = λ t e. absurd cc }
token_at_moves at (b ∷ bs) =
    by_cond at (b == 91) _ _ (λ _. record { moves = λ t e. token_moves kinds.OpenList at 1 t (omega arith) e })
    (by_cond at (b == 93) _ _ (λ _. record { moves = λ t e. token_moves kinds.CloseList at 1 t (omega arith) e })
    (by_cond at (b == 34) _ _ (λ _. record { moves = λ t e. string_moves at (position (λ x. x == 34) bs) t e })
    (by_cond at (is_ascii_alphabetic b) _ _ (λ _. record { moves = λ t e. token_moves kinds.Key at (prefix_len is_word bs + 1) t (omega arith) e })
    (by_cond at (begins_number b) _ _ (λ h. record { moves = λ t e. number_moves at (prefix_len is_numeric (b ∷ bs)) (number_kind (take (prefix_len is_numeric (b ∷ bs)) (b ∷ bs))) t (run_positive b bs h) e })
    (record { moves = λ t e. absurd cc })))))

pub found_moves : (from : ℕ) (r : Result Token GmlFault) (t : Token) → ((u : Token) → r ≡ Ok u → from < u.to) → found r ≡ Ok (Some t) → from < t.to
found_moves from (Ok u) t h e = let same : u ≡ t = cc in subst (λ (v : Token). from < v.to) same (h u refl)
found_moves from (Err f) t h e = absurd cc

-- and a next token, behind the place that it was looked for from
record IsBehind (bytes : List ℕ) (at : ℕ) (r : Result (Option Token) GmlFault) : Type 0 where
  moves : (t : Token) → r ≡ Ok (Some t) → (at < t.to) × (at < length bytes)

behind_cond : (bytes : List ℕ) (at : ℕ) (b : Bool) (x y : Result (Option Token) GmlFault) → (b ≡ true → IsBehind bytes at x) → IsBehind bytes at y → IsBehind bytes at (cond b x y)
behind_cond bytes at true x y h k = h refl
behind_cond bytes at false x y h k = k

next_behind : (bytes : List ℕ) (at : ℕ) → IsBehind bytes at (next_token bytes at)
unfolding next_token
next_behind bytes at =
    let from = next_place bytes at in
    behind_cond bytes at (nat_lt from (length bytes)) _ _
    (λ h. record {
      moves = λ t e.
          let lt = ltb-true from (length bytes) h in
          let moved = found_moves from (token_at from (drop from bytes)) t (token_at_moves from (drop from bytes)).moves e in
          (omega arith, omega arith);
    })
    (record { moves = λ t e. absurd cc })

pub next_moves : (bytes : List ℕ) (at : ℕ) (t : Token) → next_token bytes at ≡ Ok (Some t) → (at < t.to) × (at < length bytes)
next_moves bytes at t e = (next_behind bytes at).moves t e

-- ---- the answer

abbrev Answer : List ℕ → Type 0
Answer bytes = ((tree : Entries) × IsText bytes tree) ⊎ ((f : GmlFault) × IsFirstFault bytes f)

-- what was read up to a place
record Read (bytes : List ℕ) (at : ℕ) : Type 0 where
  tokens : List Token
  state : State
  leads : Leads bytes (first_place bytes) tokens at
  moves : Moves bytes begin tokens state

comes_cases : (r : Result (Option Token) GmlFault) → ((t : Token) × (r ≡ Ok (Some t))) ⊎ ((r ≡ Ok None) ⊎ ((f : GmlFault) × (r ≡ Err f)))
comes_cases (Ok (Some t)) = inl (t, refl)
comes_cases (Ok None) = inr (inl refl)
comes_cases (Err f) = inr (inr (f, refl))

step_cases : (r : Result State GmlFault) → ((m : State) × (r ≡ Ok m)) ⊎ ((f : GmlFault) × (r ≡ Err f))
step_cases (Ok m) = inl (m, refl)
step_cases (Err f) = inr (f, refl)

end_cases : (w : Option ℕ) (ls : List ℕ) → ((f : GmlFault) × (end_fault_in w ls ≡ Some f)) ⊎ ((w ≡ None) × (ls ≡ []))
end_cases (Some k) ls = inl (_, refl)
end_cases None [] = inr (refl, refl)
end_cases None (l ∷ ls) = inl (_, refl)

none_is : (o : Option (List ℕ × ℕ)) → false ≡ is_some o → o ≡ None
none_is None e = refl
none_is (Some w) e = absurd cc

faulty : (bytes : List ℕ) (at : ℕ) (r : Read bytes at) (comes : Result (Option Token) GmlFault) (f : GmlFault) → next_token bytes at ≡ comes → fault_of bytes r.state comes ≡ Some f → Answer bytes
faulty bytes at r comes f e fault = inr (f, record { tokens = r.tokens; at = at; state = r.state; leads = r.leads; moves = r.moves; fault = ap (fault_of bytes r.state) e ∙ fault })

whole : (bytes : List ℕ) (at : ℕ) (r : Read bytes at) → next_token bytes at ≡ Ok None → r.state.waits ≡ None → r.state.lists ≡ [] → Answer bytes
whole bytes at r e waits lists =
    let g = grow_all bytes begin r.state r.tokens nothing (record { waits = refl; layers = refl }) r.moves in
    let none = none_is g.after.waits (sym (ap is_some waits) ∙ g.is_in.waits) in
    let nil = nil_from_length g.after.layers (sym g.is_in.layers ∙ ap length lists) in
    let spelled : map (word bytes) r.tokens ≡ spelling g.after.entries = sym g.words ∙ rw (none, nil) (append-nil (spelling g.after.entries)) in
    let ends : Moves bytes begin r.tokens begin = subst (Moves bytes begin r.tokens) (λ i. record { waits = waits i; lists = lists i }) r.moves in
    inl (g.after.entries, record { tokens = r.tokens; cut = (at, r.leads, e); spelled = spelled; bounded = moves_bounded bytes r.tokens g.after.entries spelled ends })

read_on : (n : ℕ) (bytes : List ℕ) (at : ℕ) → length bytes - at < n → Read bytes at → Answer bytes
read_on zero bytes at lt r = absurd (omega arith)
read_on (suc n) bytes at lt r =
    elim (comes_cases (next_token bytes at)) [
      | inl some ↦ elim (step_cases (step bytes r.state some.0)) [
        | inl ok ↦
            let moved = next_moves bytes at some.0 some.1 in
            read_on n bytes some.0.to (omega (arith, moved.0, moved.1)) (record {
              tokens = r.tokens ++ some.0 ∷ [];
              state = ok.0;
              leads = Leads-push bytes (first_place bytes) at r.tokens some.0 r.leads some.1;
              moves = Moves-push bytes begin r.state ok.0 r.tokens some.0 r.moves ok.1;
            })
        | inr bad ↦ faulty bytes at r (Ok (Some some.0)) bad.0 some.1 (ap (λ (x : Result State GmlFault). elim x [ Ok m ↦ None | Err f ↦ Some f ]) bad.1)
      ]
      | inr others ↦ elim others [
        | inl end ↦ elim (end_cases r.state.waits r.state.lists) [
          | inl left ↦ faulty bytes at r (Ok None) left.0 end left.1
          | inr done ↦ whole bytes at r end done.0 done.1
        ]
        | inr bad ↦ faulty bytes at r (Err bad.0) bad.0 bad.1 refl
      ]
    ]

pub answer : (bytes : List ℕ) → ((tree : Entries) × IsText bytes tree) ⊎ ((f : GmlFault) × IsFirstFault bytes f)
answer bytes = read_on (suc (length bytes)) bytes (first_place bytes) (omega arith) (record { tokens = []; state = begin; leads = refl; moves = refl })

-- ---- the tokens

cut_on : (n : ℕ) (bytes : List ℕ) (at : ℕ) (ts : List Token) → length bytes - at < n → Leads bytes (first_place bytes) ts at → ((us : List Token) × AreTokens bytes us) ⊎ ((f : GmlFault) × IsFaultyToken bytes f)
cut_on zero bytes at ts lt leads = absurd (omega arith)
cut_on (suc n) bytes at ts lt leads =
    elim (comes_cases (next_token bytes at)) [
      | inl some ↦
          let moved = next_moves bytes at some.0 some.1 in
          cut_on n bytes some.0.to (ts ++ some.0 ∷ []) (omega (arith, moved.0, moved.1)) (Leads-push bytes (first_place bytes) at ts some.0 leads some.1)
      | inr others ↦ elim others [
        | inl end ↦ inl (ts, (at, leads, end))
        | inr bad ↦ inr (bad.0, (ts, at, leads, bad.1))
      ]
    ]

pub cut : (bytes : List ℕ) → ((ts : List Token) × AreTokens bytes ts) ⊎ ((f : GmlFault) × IsFaultyToken bytes f)
cut bytes = cut_on (suc (length bytes)) bytes (first_place bytes) [] (omega arith) refl
