-- A token cut out of its text alone is that token.
use Rattle.std.proofs.Common.{◌≡◌, ℕ, zero, suc, ◌+◌, ◌-◌, ◌<◌, ◌≤◌, Bool, true, false, cond, List, [], ◌∷◌, length, drop, take, Option, Some, None, Result, Ok, Err, refl, sym, ap, subst, ◌∙◌, arith, add-one}
use Rattle.std.specs.Prelude.{position, nat_lt, ◌==◌, not}
use Rattle.std.specs.List.{prefix_len, position_or_len}
use Rattle.std.specs.Char.{is_ascii_alphabetic}
use Rattle.std.proofs.lemmas.Option.{cond_some}
use Rattle.std.proofs.lemmas.List.{length-take}
use Rattle.std.proofs.lemmas.List.Sums.{prefix_len-le-length}
use Rattle.std.proofs.lemmas.Bool.{lt-ltb, ltb-true, or_left}
use Rattle.gml_core.specs.declared.token.TokenKind.{TokenKind}
use Rattle.gml_core.specs.declared.token.TokenKind.TheVariants as kinds
use Rattle.gml_core.specs.declared.token.Token.{Token}
use Rattle.gml_core.specs.declared.fault.GmlFault.{GmlFault}
use Rattle.gml_core.specs.declared.fault.GmlFault.TheVariants.{BadByte}
use Rattle.gml_core.specs.Bytes.{is_space, ends_line, is_word, begins_number, is_numeric, number_kind}
use Rattle.gml_core.specs.Lexing.{gap, gap_from, token, string_at, number_token_at, token_at}
use Rattle.gml_core.specs.Sound.{IsSpelled}

-- a front that ends within the first m is the same in these
prefix_take : (p : ℕ → Bool) (xs : List ℕ) (m : ℕ) → prefix_len p xs < m → prefix_len p (take m xs) ≡ prefix_len p xs
prefix_take p xs zero lt = absurd (omega arith)
prefix_take p [] (suc m) lt = refl
prefix_take p (x ∷ xs) (suc m) lt = within (p x) (prefix_len p (take m xs)) (prefix_len p xs) lt (λ h. prefix_take p xs m h)
  where
    within : (b : Bool) (k n : ℕ) → cond b (1 + n) 0 < suc m → (n < m → k ≡ n) → cond b (1 + k) 0 ≡ cond b (1 + n) 0
    within true k n lt h = ap (λ (y : ℕ). 1 + y) (h (omega arith))
    within false k n lt h = refl

-- and the front alone passes whole
prefix_alone : (p : ℕ → Bool) (xs : List ℕ) (m : ℕ) → m ≤ prefix_len p xs → prefix_len p (take m xs) ≡ m
prefix_alone p xs zero le = refl
prefix_alone p [] (suc m) le = absurd (omega arith)
prefix_alone p (x ∷ xs) (suc m) le = alone (p x) (prefix_len p (take m xs)) (prefix_len p xs) le (λ h. prefix_alone p xs m h)
  where
    alone : (b : Bool) (k n : ℕ) → suc m ≤ cond b (1 + n) 0 → (m ≤ n → k ≡ m) → cond b (1 + k) 0 ≡ suc m
    alone true k n le h = omega (arith, h (omega arith))
    alone false k n le h = absurd (omega arith)

-- ---- the same token at 0, of its own bytes

record Back (kind : TokenKind) (at m : ℕ) (x y : Result Token GmlFault) : Type 0 where
  alone : x ≡ Ok (token kind at (suc m)) → y ≡ Ok (token kind 0 (suc m))

by_cond : (kind : TokenKind) (at m : ℕ) (b : Bool) (x y v w : Result Token GmlFault) → Back kind at m x v → Back kind at m y w → Back kind at m (cond b x y) (cond b v w)
by_cond kind at m true x y v w h k = h
by_cond kind at m false x y v w h k = k

abbrev good : Token → Result Token GmlFault
good t = Ok t

good_is : (x y : Token) → good x ≡ good y → x ≡ y
good_is x y e = cc

len_is : (k kind : TokenKind) (at n m : ℕ) → good (token k at n) ≡ good (token kind at m) → n ≡ m
len_is k kind at n m e = omega (arith, ap (λ (t : Token). t.to) (good_is (token k at n) (token kind at m) e))

-- with the length that the token has, whatever length is found in its own bytes
back : (kind : TokenKind) (at m : ℕ) (k : TokenKind) (n l : ℕ) → (n ≡ suc m → l ≡ suc m) → Back kind at m (Ok (token k at n)) (Ok (token k 0 l))
back kind at m k n l h = record {
  alone = λ e.
      let n-is = len_is k kind at n (suc m) e in
      let l-is = h n-is in
      let kind-is : k ≡ kind = ap (λ (t : Token). t.kind) (good_is (token k at n) (token kind at (suc m)) e) in
      λ i. Ok (token (kind-is i) 0 (l-is i));
}

string_back : (kind : TokenKind) (at m : ℕ) (o p : Option ℕ) → ((n : ℕ) → o ≡ Some n → n + 2 ≡ suc m → p ≡ Some n) → Back kind at m (string_at at o) (string_at 0 p)
string_back kind at m (Some n) p h = record {
  alone = λ e.
      let n-is = len_is kinds.Str kind at (n + 2) (suc m) e in
      ap (string_at 0) (h n refl n-is) ∙ (back kind at m kinds.Str (n + 2) (n + 2) (λ x. x)).alone e;
}
string_back kind at m None p h = record { alone = λ e. absurd cc }

number_back : (kind : TokenKind) (at m n l : ℕ) (o p : Option TokenKind) → (n ≡ suc m → (l ≡ suc m) × (p ≡ o)) → Back kind at m (number_token_at at n o) (number_token_at 0 l p)
number_back kind at m n l (Some k) p h = record {
  alone = λ e.
      let n-is = len_is k kind at n (suc m) e in
      ap (number_token_at 0 l) (h n-is).1 ∙ (back kind at m k n l (λ x. (h x).0)).alone e;
}
number_back kind at m n l None p h = record { alone = λ e. absurd cc }

fails_back : (kind : TokenKind) (at m : ℕ) (f g : GmlFault) → Back kind at m (Err f) (Err g)
fails_back kind at m f g = record { alone = λ e. absurd cc }

position_take : (p : ℕ → Bool) (xs : List ℕ) (m n : ℕ) → position p xs ≡ Some n → n + 2 ≡ suc m → position p (take m xs) ≡ Some n
position_take p xs m n h e =
    let g = cond_some (nat_lt (position_or_len p xs) (length xs)) (position_or_len p xs) n h in
    let lt : position_or_len p xs < length xs = ltb-true _ _ g.0 in
    let same : position_or_len p (take m xs) ≡ n = prefix_take (λ x. not (p x)) xs m (omega (arith, g.1)) ∙ g.1 in
    let within : n < length (take m xs) = omega (arith, length-take m xs, g.1) in
    rw (same, lt-ltb _ _ within) refl

take_twice : (m : ℕ) (xs : List ℕ) → take m (take m xs) ≡ take m xs
take_twice zero xs = refl
take_twice (suc m) [] = refl
take_twice (suc m) (x ∷ xs) = ap (λ (ys : List ℕ). x ∷ ys) (take_twice m xs)

token_alone : (kind : TokenKind) (at m b : ℕ) (bs : List ℕ) → token_at at (b ∷ bs) ≡ Ok (token kind at (suc m)) → token_at 0 (b ∷ take m bs) ≡ Ok (token kind 0 (suc m))
unfolding token_at
token_alone kind at m b bs h =
    let run = prefix_len is_numeric (b ∷ bs) in
    let own : List ℕ = b ∷ take m bs in
    (by_cond kind at m (b == 91) _ _ _ _ (back kind at m kinds.OpenList 1 1 (λ x. x))
    (by_cond kind at m (b == 93) _ _ _ _ (back kind at m kinds.CloseList 1 1 (λ x. x))
    (by_cond kind at m (b == 34) _ _ _ _ (string_back kind at m (position (λ x. x == 34) bs) (position (λ x. x == 34) (take m bs)) (λ n e l. position_take (λ x. x == 34) bs m n e l))
    (by_cond kind at m (is_ascii_alphabetic b) _ _ _ _ (back kind at m kinds.Key (prefix_len is_word bs + 1) (prefix_len is_word (take m bs) + 1) (λ e. omega (arith, prefix_alone is_word bs m (omega arith))))
    (by_cond kind at m (begins_number b) _ _ _ _
    (number_back kind at m run (prefix_len is_numeric own) (number_kind (take run (b ∷ bs))) (number_kind (take (prefix_len is_numeric own) own)) (λ e.
    let len : prefix_len is_numeric own ≡ suc m = prefix_alone is_numeric (b ∷ bs) (suc m) (omega arith) in
    let left : take (prefix_len is_numeric own) own ≡ own = ap (λ (n : ℕ). take n own) len ∙ ap (λ (ys : List ℕ). b ∷ ys) (take_twice m bs) in
    let right : take run (b ∷ bs) ≡ own = ap (λ (n : ℕ). take n (b ∷ bs)) e in
    (len, ap number_kind (left ∙ sym right))))
    (fails_back kind at m (BadByte at) (BadByte 0))))))).alone h

-- ---- behind a gap no gap begins

behind_tests : (b : ℕ) (bs : List ℕ) → gap (drop (gap_from false bs) bs) ≡ 0 → gap (drop (gap_from true bs) bs) ≡ 0 → (s t : Bool) → is_space b ≡ s → (b == 35) ≡ t
    → gap (drop (cond s (gap_from false bs + 1) (cond t (gap_from true bs + 1) 0)) (b ∷ bs)) ≡ 0
behind_tests b bs h k true t x y = rw add-one h
behind_tests b bs h k false true x y = rw add-one k
behind_tests b bs h k false false x y = rw (x, y) refl

pub gap_behind : (c : Bool) (bs : List ℕ) → gap (drop (gap_from c bs) bs) ≡ 0
gap_behind c [] = refl
gap_behind true (b ∷ bs) = rw add-one (gap_behind (not (ends_line b)) bs)
gap_behind false (b ∷ bs) = behind_tests b bs (gap_behind false bs) (gap_behind true bs) (is_space b) (b == 35) refl refl

-- ---- a token that is there has this shape

record Shaped (at len : ℕ) (r : Result Token GmlFault) : Type 0 where
  shape : (t : Token) → r ≡ Ok t → (n : ℕ) × (t ≡ token t.kind at (suc n)) × (suc n ≤ len)

by_shape : (at len : ℕ) (b : Bool) (x y : Result Token GmlFault) → (b ≡ true → Shaped at len x) → Shaped at len y → Shaped at len (cond b x y)
by_shape at len true x y h k = h refl
by_shape at len false x y h k = k

shaped : (k : TokenKind) (at n len : ℕ) → 0 < n → n ≤ len → Shaped at len (Ok (token k at n))
shaped k at n len positive le = record {
  shape = λ t e.
      let same = good_is (token k at n) t e in
      let kind-is : k ≡ t.kind = ap (λ (x : Token). x.kind) same in
      let n-is : n ≡ suc (n - 1) = omega arith in
      (n - 1, sym same ∙ (λ i. token (kind-is i) at (n-is i)), omega arith);
}

shaped_string : (at len : ℕ) (o : Option ℕ) → ((n : ℕ) → o ≡ Some n → n + 2 ≤ len) → Shaped at len (string_at at o)
shaped_string at len (Some n) h = shaped kinds.Str at (n + 2) len (omega arith) (h n refl)
shaped_string at len None h = record { shape = λ t e. absurd cc }

shaped_number : (at n len : ℕ) (o : Option TokenKind) → 0 < n → n ≤ len → Shaped at len (number_token_at at n o)
shaped_number at n len (Some k) positive le = shaped k at n len positive le
shaped_number at n len None positive le = record { shape = λ t e. absurd cc }

position_within : (p : ℕ → Bool) (xs : List ℕ) (n : ℕ) → position p xs ≡ Some n → n < length xs
position_within p xs n h =
    let g = cond_some (nat_lt (position_or_len p xs) (length xs)) (position_or_len p xs) n h in
    omega (arith, ltb-true (position_or_len p xs) (length xs) g.0, g.1)

run_positive : (b : ℕ) (bs : List ℕ) → begins_number b ≡ true → 0 < prefix_len is_numeric (b ∷ bs)
run_positive b bs e =
    let numeric : is_numeric b ≡ true = or_left _ _ (or_left _ _ e) in
    let len : prefix_len is_numeric (b ∷ bs) ≡ 1 + prefix_len is_numeric bs = rw numeric refl in
    omega arith

failed : (at len : ℕ) (f : GmlFault) → Shaped at len (Err f)
failed at len f = record { shape = λ t e. absurd cc }

token_shaped : (at b : ℕ) (bs : List ℕ) → Shaped at (length (b ∷ bs)) (token_at at (b ∷ bs))
unfolding token_at
token_shaped at b bs =
    let len = length (b ∷ bs) in
    by_shape at len (b == 91) _ _ (λ _. shaped kinds.OpenList at 1 len (omega arith) (omega arith))
    (by_shape at len (b == 93) _ _ (λ _. shaped kinds.CloseList at 1 len (omega arith) (omega arith))
    (by_shape at len (b == 34) _ _ (λ _. shaped_string at len (position (λ x. x == 34) bs) (λ n e. omega (arith, position_within (λ x. x == 34) bs n e)))
    (by_shape at len (is_ascii_alphabetic b) _ _ (λ _. shaped kinds.Key at (prefix_len is_word bs + 1) len (omega arith) (omega (arith, prefix_len-le-length is_word bs)))
    (by_shape at len (begins_number b) _ _ (λ h. shaped_number at (prefix_len is_numeric (b ∷ bs)) len (number_kind (take (prefix_len is_numeric (b ∷ bs)) (b ∷ bs))) (run_positive b bs h) (prefix_len-le-length is_numeric (b ∷ bs)))
    (failed at len (BadByte at))))))

gap_of_first : (b : ℕ) (bs cs : List ℕ) → gap (b ∷ bs) ≡ 0 → gap (b ∷ cs) ≡ 0
gap_of_first b bs cs h = tests (is_space b) (b == 35) (gap bs) (gap_from true bs) (gap cs) (gap_from true cs) h
  where
    tests : (s c : Bool) (m n k l : ℕ) → cond s (m + 1) (cond c (n + 1) 0) ≡ 0 → cond s (k + 1) (cond c (l + 1) 0) ≡ 0
    tests true c m n k l h = absurd (omega arith)
    tests false true m n k l h = absurd (omega arith)
    tests false false m n k l h = refl

-- the bytes of a token, alone, are that token
pub spelled_alone : (at : ℕ) (bs : List ℕ) (t : Token) → token_at at bs ≡ Ok t → gap bs ≡ 0 → IsSpelled t.kind (take (t.to - t.from) bs) × (t.from ≡ at) × (t.to - t.from ≡ length (take (t.to - t.from) bs))
unfolding token_at
spelled_alone at [] t h solid = absurd cc
spelled_alone at (b ∷ bs) t h solid =
    let s = (token_shaped at b bs).shape t h in
    let n = s.0 in
    let alone : token_at 0 (b ∷ take n bs) ≡ Ok (token t.kind 0 (suc n)) = token_alone t.kind at n b bs (h ∙ ap good s.1) in
    let len : suc n ≡ length (b ∷ take n bs) = omega (arith, length-take n bs, s.2) in
    let from-is : t.from ≡ at = ap (λ (x : Token). x.from) s.1 in
    let to-is : t.to ≡ at + suc n = ap (λ (x : Token). x.to) s.1 in
    let size : t.to - t.from ≡ suc n = omega arith in
    let cut : take (t.to - t.from) (b ∷ bs) ≡ b ∷ take n bs = ap (λ (k : ℕ). take k (b ∷ bs)) size in
    (subst (IsSpelled t.kind) (sym cut) (gap_of_first b bs (take n bs) solid, alone ∙ ap (λ (k : ℕ). good (token t.kind 0 k)) len), from-is, size ∙ len ∙ ap length (sym cut))
