-- The tree of a text is well formed.
use Rattle.std.proofs.Common.{◌≡◌, ℕ, zero, suc, ◌+◌, ◌-◌, ◌<◌, ◌≤◌, Bool, true, false, cond, List, [], ◌∷◌, ◌++◌, length, get_or, drop, take, map, Option, Some, None, Result, Ok, Err, refl, sym, ap, subst, ◌∙◌, arith}
use Rattle.std.specs.Prelude.{position, nat_lt, ◌==◌}
use Rattle.std.specs.List.{prefix_len, position_or_len}
use Rattle.std.specs.Char.{is_ascii_alphabetic}
use Rattle.std.proofs.lemmas.Option.{cond_some}
use Rattle.std.proofs.lemmas.List.{take-append-drop, drop_more, drop_all, drop-drop, take-take}
use Rattle.std.proofs.lemmas.List.Sums.{passes_at_first}
use Rattle.std.proofs.lemmas.Bool.{ltb-true, eqb-true}
use Rattle.gml_core.specs.declared.token.TokenKind.{TokenKind}
use Rattle.gml_core.specs.declared.token.TokenKind.TheVariants as kinds
use Rattle.gml_core.specs.declared.token.Token.{Token}
use Rattle.gml_core.specs.declared.fault.GmlFault.{GmlFault}
use Rattle.gml_core.specs.declared.fault.GmlFault.TheVariants.{BadByte}
use Rattle.gml_core.specs.Bytes.{is_word, begins_number, is_numeric, unsigned, digits, behind_digits, number_kind}
use Rattle.gml_core.specs.Lexing.{gap, token, string_at, number_token_at, token_at, found, next_place, next_token, first_place, Leads}
use Rattle.gml_core.specs.Trees.{Datum, atom, list, Entry, entry, Entries, none, more, Word, opens, closes, key, value, spelling, entry_spelling, datum_spelling}
use Rattle.gml_core.specs.Reading.{part, word_of, word, IsText}
use Rattle.gml_core.specs.Sound.{IsSpelled, IsWellAtom, IsWellDatum, IsWellEntry, AreWell}
use Rattle.gml_core.proofs.Alone.{gap_behind, spelled_alone}

-- ---- strings

abbrev good : Token → Result Token GmlFault
good t = Ok t

good_is : (x y : Token) → good x ≡ good y → x ≡ y
good_is x y e = cc

record IsString (b len : ℕ) (bs : List ℕ) (r : Result Token GmlFault) : Type 0 where
  string : r ≡ Ok (token kinds.Str 0 len) → (b ≡ 34) × ((n : ℕ) × (position (λ x. x == 34) bs ≡ Some n) × (n + 2 ≡ len))

by_string : (b len : ℕ) (bs : List ℕ) (c : Bool) (x y : Result Token GmlFault) → (c ≡ true → IsString b len bs x) → IsString b len bs y → IsString b len bs (cond c x y)
by_string b len bs true x y h k = h refl
by_string b len bs false x y h k = k

no_string : (b len : ℕ) (bs : List ℕ) (k : TokenKind) (n : ℕ) → (k ≡ kinds.Str → ⊥) → IsString b len bs (Ok (token k 0 n))
no_string b len bs k n h = record { string = λ e. absurd (h (ap (λ (t : Token). t.kind) (good_is (token k 0 n) (token kinds.Str 0 len) e))) }

some_kind : (b : Bool) (x y : TokenKind) → cond b (Some x) None ≡ Some y → x ≡ y
some_kind true x y e = cc
some_kind false x y e = absurd cc

behind_is : (n : ℕ) (bs : List ℕ) → behind_digits n bs ≡ Some kinds.Str → ⊥
behind_is n [] e = let same = some_kind (nat_lt 0 n) kinds.Int kinds.Str e in absurd cc
behind_is n (b ∷ bs) e = tests (b == 46) _ _ e
  where
    tests : (c x y : Bool) → cond c (cond x (Some kinds.Real) None) (cond y (Some kinds.Real) None) ≡ Some kinds.Str → ⊥
    tests true x y e = let same = some_kind x kinds.Real kinds.Str e in absurd cc
    tests false x y e = let same = some_kind y kinds.Real kinds.Str e in absurd cc

number_is : (run : List ℕ) → number_kind run ≡ Some kinds.Str → ⊥
unfolding number_kind
number_is run e = behind_is (digits (unsigned run)) (drop (digits (unsigned run)) (unsigned run)) e

number_no : (b len : ℕ) (bs : List ℕ) (n : ℕ) (o : Option TokenKind) → (o ≡ Some kinds.Str → ⊥) → IsString b len bs (number_token_at 0 n o)
number_no b len bs n (Some k) h = no_string b len bs k n (λ e. h (ap Some e))
number_no b len bs n None h = record { string = λ e. absurd cc }

string_is : (b len : ℕ) (bs : List ℕ) (o : Option ℕ) → b ≡ 34 → position (λ x. x == 34) bs ≡ o → IsString b len bs (string_at 0 o)
string_is b len bs (Some n) h p = record { string = λ e. (h, (n, p, omega (arith, ap (λ (t : Token). t.to) (good_is (token kinds.Str 0 (n + 2)) (token kinds.Str 0 len) e)))) }
string_is b len bs None h p = record { string = λ e. absurd cc }

failed : (b len : ℕ) (bs : List ℕ) (f : GmlFault) → IsString b len bs (Err f)
failed b len bs f = record { string = λ e. absurd cc }

string_token : (b len : ℕ) (bs : List ℕ) → IsString b len bs (token_at 0 (b ∷ bs))
unfolding token_at
string_token b len bs =
    by_string b len bs (b == 91) _ _ (λ _. no_string b len bs kinds.OpenList 1 (λ e. cc))
    (by_string b len bs (b == 93) _ _ (λ _. no_string b len bs kinds.CloseList 1 (λ e. cc))
    (by_string b len bs (b == 34) _ _ (λ h. string_is b len bs (position (λ x. x == 34) bs) (eqb-true b 34 h) refl)
    (by_string b len bs (is_ascii_alphabetic b) _ _ (λ _. no_string b len bs kinds.Key (prefix_len is_word bs + 1) (λ e. cc))
    (by_string b len bs (begins_number b) _ _ (λ _. number_no b len bs (prefix_len is_numeric (b ∷ bs)) (number_kind (take (prefix_len is_numeric (b ∷ bs)) (b ∷ bs))) (number_is (take (prefix_len is_numeric (b ∷ bs)) (b ∷ bs))))
    (failed b len bs (BadByte 0))))))

-- a string token is its content between two quotes
between : (w : List ℕ) → token_at 0 w ≡ Ok (token kinds.Str 0 (length w)) → (2 ≤ length w) × (w ≡ 34 ∷ (take (length w - 2) (drop 1 w) ++ 34 ∷ []))
unfolding token_at
between [] h = absurd cc
between (b ∷ bs) h =
    let s = (string_token b (length (b ∷ bs)) bs).string h in
    let n = s.1.0 in
    let g = cond_some (nat_lt (position_or_len (λ x. x == 34) bs) (length bs)) (position_or_len (λ x. x == 34) bs) n s.1.1 in
    let lt : position_or_len (λ x. x == 34) bs < length bs = ltb-true _ _ g.0 in
    let quote : get_or bs n 0 ≡ 34 = eqb-true _ _ (ap (λ (k : ℕ). get_or bs k 0 == 34) (sym g.1) ∙ passes_at_first (λ x. x == 34) bs 0 lt) in
    let tail : drop n bs ≡ 34 ∷ [] = drop_more bs n 0 (omega (arith, s.1.2)) ∙ (λ i. quote i ∷ drop_all (n + 1) bs (omega (arith, s.1.2)) i) in
    let inner : take (length (b ∷ bs) - 2) bs ≡ take n bs = ap (λ (k : ℕ). take k bs) (omega (arith, s.1.2)) in
    let parts : bs ≡ take (length (b ∷ bs) - 2) bs ++ 34 ∷ [] = sym (take-append-drop n bs) ∙ (λ i. sym inner i ++ tail i) in
    (omega (arith, s.1.2), (λ i. s.0 i ∷ parts i))

-- ---- tokens

found_is : (r : Result Token GmlFault) (t : Token) → found r ≡ Ok (Some t) → r ≡ Ok t
found_is (Ok u) t e = let same : u ≡ t = cc in ap good same
found_is (Err f) t e = absurd cc

record IsAlone (bytes : List ℕ) (r : Result (Option Token) GmlFault) : Type 0 where
  alone : (t : Token) → r ≡ Ok (Some t) → IsSpelled t.kind (part bytes t.from t.to) × (t.to - t.from ≡ length (part bytes t.from t.to))

by_alone : (bytes : List ℕ) (b : Bool) (x y : Result (Option Token) GmlFault) → IsAlone bytes x → IsAlone bytes y → IsAlone bytes (cond b x y)
by_alone bytes true x y h k = h
by_alone bytes false x y h k = k

next_alone : (bytes : List ℕ) (at : ℕ) → IsAlone bytes (next_token bytes at)
unfolding next_token
next_alone bytes at =
    let from = next_place bytes at in
    by_alone bytes (nat_lt from (length bytes)) _ _
    (record {
      alone = λ t e.
          let solid : gap (drop from bytes) ≡ 0 = ap gap (sym (drop-drop (gap (drop at bytes)) at bytes)) ∙ gap_behind false (drop at bytes) in
          let s = spelled_alone from (drop from bytes) t (found_is (token_at from (drop from bytes)) t e) solid in
          let cut : take (t.to - t.from) (drop from bytes) ≡ part bytes t.from t.to = ap (λ (k : ℕ). take (t.to - t.from) (drop k bytes)) (sym s.1) in
          (subst (IsSpelled t.kind) cut s.0, s.2 ∙ ap length cut);
    })
    (record { alone = λ t e. absurd cc })

-- ---- words

abbrev IsWellWord : Word → Type 0
IsWellWord opens = Unit {0}
IsWellWord closes = Unit {0}
IsWellWord (key k at) = IsSpelled kinds.Key k
IsWellWord (value a) = IsWellAtom a

take_nil : (k : ℕ) → ◌≡◌ {A = List ℕ} [] (take k [])
take_nil zero = refl
take_nil (suc k) = refl

drop_one : (m : ℕ) (xs : List ℕ) → drop 1 (take m xs) ≡ take (m - 1) (drop 1 xs)
drop_one zero [] = refl
drop_one zero (x ∷ xs) = refl
drop_one (suc m) [] = take_nil (suc m - 1)
drop_one (suc m) (x ∷ xs) = ap (λ (k : ℕ). take k xs) (omega arith)

word_well : (bytes : List ℕ) (kind : TokenKind) (from to : ℕ) → IsSpelled kind (part bytes from to) → to - from ≡ length (part bytes from to) → IsWellWord (word_of bytes kind from to)
word_well bytes kinds.OpenList from to h len = tt
word_well bytes kinds.CloseList from to h len = tt
word_well bytes kinds.Key from to h len = h
word_well bytes kinds.Int from to h len = tt
word_well bytes kinds.Real from to h len = h
word_well bytes kinds.Str from to h len =
    let w = part bytes from to in
    let b = between w h.1 in
    let rest : drop 1 w ≡ take (to - from - 1) (drop (from + 1) bytes) = drop_one (to - from) (drop from bytes) ∙ ap (take (to - from - 1)) (drop-drop 1 from bytes) in
    let inner : take (length w - 2) (drop 1 w) ≡ part bytes (from + 1) (to - 1) =
    ap (take (length w - 2)) rest ∙ take-take (length w - 2) (to - from - 1) (drop (from + 1) bytes) (omega (arith, len)) ∙ ap (λ (k : ℕ). take k (drop (from + 1) bytes)) (omega (arith, len, b.0)) in
    subst (IsSpelled kinds.Str) (b.1 ∙ ap (λ (x : List ℕ). 34 ∷ (x ++ 34 ∷ [])) inner) h

abbrev All : List Word → Type 0
All [] = Unit {0}
All (w ∷ ws) = IsWellWord w × All ws

words_well : (bytes : List ℕ) (at e : ℕ) (ts : List Token) → Leads bytes at ts e → All (map (word bytes) ts)
words_well bytes at e [] leads = tt
words_well bytes at e (t ∷ ts) leads = let a = (next_alone bytes at).alone t leads.0 in (word_well bytes t.kind t.from t.to a.0 a.1, words_well bytes t.to e ts leads.1)

All-parts : (xs ys : List Word) → All (xs ++ ys) → All xs × All ys
All-parts [] ys h = (tt, h)
All-parts (x ∷ xs) ys h = let p = All-parts xs ys h.1 in ((h.0, p.0), p.1)

mutual
  datum_well : (d : Datum) → All (datum_spelling d) → IsWellDatum d
  datum_well (atom a) h = h.0
  datum_well (list es) h = tree_well es (All-parts (spelling es) (closes ∷ []) h.1).0

  entry_well : (e : Entry) → All (entry_spelling e) → IsWellEntry e
  entry_well (entry k at d) h = (h.0, datum_well d h.1)

  tree_well : (es : Entries) → All (spelling es) → AreWell es
  tree_well none h = tt
  tree_well (more e es) h = let p = All-parts (entry_spelling e) (spelling es) h in (entry_well e p.0, tree_well es p.1)

pub text_well : (bytes : List ℕ) (tree : Entries) → IsText bytes tree → AreWell tree
text_well bytes tree text = tree_well tree (subst All text.spelled (words_well bytes (first_place bytes) text.cut.0 text.tokens text.cut.1))
