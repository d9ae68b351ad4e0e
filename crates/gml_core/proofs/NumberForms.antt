-- The run of a number, by its parts.
use Rattle.std.proofs.Common.{◌≡◌, ℕ, suc, ◌+◌, ◌<◌, ◌≤◌, Bool, true, false, cond, ◌⊎◌, inl, inr, List, [], ◌∷◌, ◌++◌, length, take, drop, Option, Some, None, refl, sym, ap, subst, ◌∙◌, arith}
use Rattle.std.specs.Prelude.{◌==◌, ◌||◌, ◌&&◌, nat_lt}
use Rattle.std.specs.List.{prefix_len, list_all}
use Rattle.std.specs.Char.{is_ascii_digit}
use Rattle.std.proofs.Math.Seq.{drop-append_seam}
use Rattle.std.proofs.lemmas.List.{append-nil, length-append, length-take, drop_all, take-append-drop}
use Rattle.std.proofs.lemmas.List.Sums.{prefix_len-le-length}
use Rattle.std.proofs.lemmas.Bool.{and_parts, and_from, eq-eqb, eqb-true, leb-true, lt-ltb, ltb-true, ne_eqb, or_from}
use Rattle.gml_core.specs.declared.token.TokenKind.{TokenKind}
use Rattle.gml_core.specs.declared.token.TokenKind.TheVariants.{Int, Real}
use Rattle.gml_core.specs.Bytes.{is_sign, unsigned, digits, are_digits, is_exponent, may_end, behind_digits, number_kind}
use Rattle.gml_core.specs.Forms.{IsSignPart, AreOnlyDigits, IsPower, IsIntegerRun, IsDotted, IsScaled, IsRealRun}
use Rattle.gml_core.proofs.Again.{prefix_kept}

-- ---- digits

digits_all : (ds : List ℕ) → AreOnlyDigits ds → digits ds ≡ length ds
digits_all [] h = refl
digits_all (c ∷ cs) h = let parts = and_parts (is_ascii_digit c) (list_all is_ascii_digit cs) h in rw parts.0 (omega (arith, digits_all cs parts.1))

digits_only : (ds : List ℕ) → digits ds ≡ length ds → AreOnlyDigits ds
digits_only [] h = refl
digits_only (c ∷ cs) h = by (is_ascii_digit c) refl (λ k. digits_only cs k) h
  where
    by : (t : Bool) → is_ascii_digit c ≡ t → (digits cs ≡ length cs → AreOnlyDigits cs) → cond t (1 + digits cs) 0 ≡ suc (length cs) → AreOnlyDigits (c ∷ cs)
    by true e others len = and_from _ _ e (others (omega (arith, len)))
    by false e others len = absurd (omega (arith, len))

digits_front : (bs : List ℕ) → AreOnlyDigits (take (digits bs) bs)
digits_front [] = refl
digits_front (c ∷ cs) = by (is_ascii_digit c) refl (digits_front cs)
  where
    by : (t : Bool) → is_ascii_digit c ≡ t → AreOnlyDigits (take (digits cs) cs) → AreOnlyDigits (take (cond t (1 + digits cs) 0) (c ∷ cs))
    by true e others = let n : 1 + digits cs ≡ suc (digits cs) = omega arith in subst (λ (m : ℕ). AreOnlyDigits (take m (c ∷ cs))) (sym n) (and_from _ _ e others)
    by false e others = refl

digits_before : (ds rest : List ℕ) → AreOnlyDigits ds → digits rest ≡ 0 → digits (ds ++ rest) ≡ length ds
digits_before ds rest h z = prefix_kept is_ascii_digit ds rest z ∙ digits_all ds h

drop_before : (ds rest : List ℕ) → AreOnlyDigits ds → digits rest ≡ 0 → drop (digits (ds ++ rest)) (ds ++ rest) ≡ rest
drop_before ds rest h z = ap (λ (n : ℕ). drop n (ds ++ rest)) (digits_before ds rest h z) ∙ drop-append_seam ds rest

-- ---- signs

split_sign : (run : List ℕ) → (s : List ℕ) × IsSignPart s × (run ≡ s ++ unsigned run)
split_sign [] = ([], inl refl, refl)
split_sign (b ∷ bs) = by (b == 43) (b == 45) refl refl
  where
    by : (x y : Bool) → (b == 43) ≡ x → (b == 45) ≡ y → (s : List ℕ) × IsSignPart s × (b ∷ bs ≡ s ++ cond (x || y) bs (b ∷ bs))
    by true y e f = (43 ∷ [], inr (inl refl), ap (λ (c : ℕ). c ∷ bs) (eqb-true b 43 e))
    by false true e f = (45 ∷ [], inr (inr refl), ap (λ (c : ℕ). c ∷ bs) (eqb-true b 45 f))
    by false false e f = ([], inl refl, refl)

unsigned_behind : (s text : List ℕ) → IsSignPart s → unsigned text ≡ text → unsigned (s ++ text) ≡ text
unsigned_behind s text (inl e) h = rw e h
unsigned_behind s text (inr (inl e)) h = rw e refl
unsigned_behind s text (inr (inr e)) h = rw e refl

not_sign : (c : ℕ) → is_ascii_digit c ≡ true → is_sign c ≡ false
not_sign c h =
    let low : 48 ≤ c = leb-true 48 c (and_parts _ _ h).0 in
    or_from _ _ (ne_eqb c 43 (λ e. omega arith)) (ne_eqb c 45 (λ e. omega arith))

unsigned_digits : (ds rest : List ℕ) → AreOnlyDigits ds → unsigned rest ≡ rest → unsigned (ds ++ rest) ≡ ds ++ rest
unsigned_digits [] rest h e = e
unsigned_digits (c ∷ cs) rest h e = rw (not_sign c (and_parts (is_ascii_digit c) (list_all is_ascii_digit cs) h).0) refl

unsigned_only : (ds : List ℕ) → AreOnlyDigits ds → unsigned ds ≡ ds
unsigned_only [] h = refl
unsigned_only (c ∷ cs) h = rw (not_sign c (and_parts (is_ascii_digit c) (list_all is_ascii_digit cs) h).0) refl

-- ---- powers

marked_by : (b : ℕ) (x y : Bool) → (b == 101) ≡ x → (b == 69) ≡ y → (x || y) ≡ true → (b ≡ 101) ⊎ (b ≡ 69)
marked_by b true y e f h = inl (eqb-true b 101 e)
marked_by b false true e f h = inr (eqb-true b 69 f)
marked_by b false false e f h = absurd cc

power_of : (bs : List ℕ) → is_exponent bs ≡ true → IsPower bs
power_of [] h = absurd cc
power_of (b ∷ bs) h =
    let two = and_parts _ _ h in
    let all = and_parts _ _ two.1 in
    let s = split_sign bs in
    record {
      mark = b;
      sign = s.0;
      digits = unsigned bs;
      marked = marked_by b (b == 101) (b == 69) refl refl two.0;
      signed = s.1;
      some = ltb-true 0 (length (unsigned bs)) all.0;
      only = digits_only (unsigned bs) (eqb-true (digits (unsigned bs)) (length (unsigned bs)) all.1);
      parts = ap (λ (x : List ℕ). b ∷ x) s.2;
    }

are_digits_of : (ds : List ℕ) → 0 < length ds → AreOnlyDigits ds → are_digits ds ≡ true
are_digits_of ds some only = and_from _ _ (lt-ltb 0 (length ds) some) (eq-eqb (digits ds) (length ds) (digits_all ds only))

exponent_at : (mark : ℕ) (rest : List ℕ) → (mark ≡ 101) ⊎ (mark ≡ 69) → are_digits (unsigned rest) ≡ true → is_exponent (mark ∷ rest) ≡ true
exponent_at mark rest (inl e) h = rw e h
exponent_at mark rest (inr e) h = rw e h

exponent_of : (bs : List ℕ) → IsPower bs → is_exponent bs ≡ true
exponent_of bs h =
    let u : unsigned (h.sign ++ h.digits) ≡ h.digits = unsigned_behind h.sign h.digits h.signed (unsigned_only h.digits h.only) in
    ap is_exponent h.parts ∙ exponent_at h.mark (h.sign ++ h.digits) h.marked (ap are_digits u ∙ are_digits_of h.digits h.some h.only)

power_first : (bs : List ℕ) → IsPower bs → (digits bs ≡ 0) × (unsigned bs ≡ bs)
power_first bs h = subst (λ (x : List ℕ). (digits x ≡ 0) × (unsigned x ≡ x)) (sym h.parts) (by h.marked)
  where
    by : (h.mark ≡ 101) ⊎ (h.mark ≡ 69) → (digits (h.mark ∷ (h.sign ++ h.digits)) ≡ 0) × (unsigned (h.mark ∷ (h.sign ++ h.digits)) ≡ h.mark ∷ (h.sign ++ h.digits))
    by (inl e) = rw e (refl, refl)
    by (inr e) = rw e (refl, refl)

-- ---- integers

int_end : (n : ℕ) (rest : List ℕ) → behind_digits n rest ≡ Some Int → (rest ≡ []) × (0 < n)
int_end n [] h = (refl, by (nat_lt 0 n) refl h)
  where
    by : (t : Bool) → nat_lt 0 n ≡ t → cond t (Some Int) None ≡ Some Int → 0 < n
    by true e k = ltb-true 0 n e
    by false e k = absurd cc
int_end n (b ∷ bs) h = absurd (never (b == 46) _ _ h)
  where
    never : (x y z : Bool) → cond x (cond y (Some Real) None) (cond z (Some Real) None) ≡ Some Int → ⊥
    never true true z k = absurd cc
    never true false z k = absurd cc
    never false y true k = absurd cc
    never false y false k = absurd cc

front_of_all : (u : List ℕ) → drop (digits u) u ≡ [] → take (digits u) u ≡ u
front_of_all u e = sym (append-nil (take (digits u) u)) ∙ ap (λ (x : List ℕ). take (digits u) u ++ x) (sym e) ∙ take-append-drop (digits u) u

pub integer_form : (run : List ℕ) → number_kind run ≡ Some Int → IsIntegerRun run
unfolding number_kind
integer_form run h =
    let u = unsigned run in
    let s = split_sign run in
    let end = int_end (digits u) (drop (digits u) u) h in
    record {
      sign = s.0;
      digits = u;
      signed = s.1;
      some = omega (arith, end.1, prefix_len-le-length is_ascii_digit u);
      only = subst AreOnlyDigits (front_of_all u end.0) (digits_front u);
      parts = s.2;
    }

plain_integer_kind : (ds : List ℕ) → 0 < length ds → AreOnlyDigits ds → behind_digits (digits ds) (drop (digits ds) ds) ≡ Some Int
plain_integer_kind ds some only = rw (digits_all ds only, drop_all (length ds) ds (omega arith), lt-ltb 0 (length ds) some) refl

pub integer_kind : (run : List ℕ) → IsIntegerRun run → number_kind run ≡ Some Int
unfolding number_kind
integer_kind run h =
    let u : unsigned run ≡ h.digits = ap unsigned h.parts ∙ unsigned_behind h.sign h.digits h.signed (unsigned_only h.digits h.only) in
    rw u (plain_integer_kind h.digits h.some h.only)

-- ---- reals

-- what stands behind the digits of a real
abbrev IsTail : ℕ → List ℕ → Type 0
IsTail n rest = ((bs : List ℕ) × (rest ≡ 46 ∷ bs) × (0 < n + digits bs) × (may_end (drop (digits bs) bs) ≡ true)) ⊎ ((0 < n) × (is_exponent rest ≡ true))

real_tail : (n : ℕ) (rest : List ℕ) → behind_digits n rest ≡ Some Real → IsTail n rest
real_tail n [] h = absurd (by (nat_lt 0 n) h)
  where
    by : (t : Bool) → cond t (Some Int) None ≡ Some Real → ⊥
    by true k = absurd cc
    by false k = absurd cc
real_tail n (b ∷ bs) h = by (b == 46) refl h
  where
    kept : (t : Bool) → cond t (Some Real) None ≡ Some Real → t ≡ true
    kept true k = refl
    kept false k = absurd cc

    by : (t : Bool) → (b == 46) ≡ t
        → cond t (cond (nat_lt 0 (n + digits bs) && may_end (drop (digits bs) bs)) (Some Real) None) (cond (nat_lt 0 n && is_exponent (b ∷ bs)) (Some Real) None) ≡ Some Real → IsTail n (b ∷ bs)
    by true e k =
        let two = and_parts _ _ (kept _ k) in
        inl (bs, ap (λ (c : ℕ). c ∷ bs) (eqb-true b 46 e), ltb-true 0 (n + digits bs) two.0, two.1)
    by false e k =
        let two = and_parts _ _ (kept _ k) in
        inr (ltb-true 0 n two.0, two.1)

some_bytes : (b : ℕ) (bs : List ℕ) → (length (b ∷ bs) == 0) ≡ false
some_bytes b bs = ne_eqb (length (b ∷ bs)) 0 (λ e. omega arith)

ending_of : (bs : List ℕ) → may_end bs ≡ true → (bs ≡ []) ⊎ IsPower bs
ending_of [] h = inl refl
ending_of (b ∷ bs) h = inr (power_of (b ∷ bs) (sym (ap (λ (t : Bool). t || is_exponent (b ∷ bs)) (some_bytes b bs)) ∙ h))

may_end_of : (bs : List ℕ) → (bs ≡ []) ⊎ IsPower bs → may_end bs ≡ true
may_end_of bs (inl e) = rw e refl
may_end_of [] (inr h) = refl
may_end_of (b ∷ bs) (inr h) = ap (λ (t : Bool). t || is_exponent (b ∷ bs)) (some_bytes b bs) ∙ exponent_of (b ∷ bs) h

length_front : (u : List ℕ) → length (take (digits u) u) ≡ digits u
length_front u = omega (arith, length-take (digits u) u, prefix_len-le-length is_ascii_digit u)

form_of : (u : List ℕ) → IsTail (digits u) (drop (digits u) u) → IsDotted u ⊎ IsScaled u
form_of u (inl (bs, is, some, ends)) =
    let front = take (digits u) u in
    let whole : u ≡ front ++ drop (digits u) u = sym (take-append-drop (digits u) u) in
    let rest : bs ≡ take (digits bs) bs ++ drop (digits bs) bs = sym (take-append-drop (digits bs) bs) in
    inl (record {
      before = front;
      after = take (digits bs) bs;
      power = drop (digits bs) bs;
      some = omega (arith, some, length-append front (take (digits bs) bs), length_front u, length_front bs);
      front = digits_front u;
      back = digits_front bs;
      ending = ending_of (drop (digits bs) bs) ends;
      parts = whole ∙ ap (λ (x : List ℕ). front ++ x) (is ∙ ap (λ (x : List ℕ). 46 ∷ x) rest);
    })
form_of u (inr (some, ends)) = inr (record {
  digits = take (digits u) u;
  power = drop (digits u) u;
  some = omega (arith, some, length_front u);
  only = digits_front u;
  ending = power_of (drop (digits u) u) ends;
  parts = sym (take-append-drop (digits u) u);
})

pub real_form : (run : List ℕ) → number_kind run ≡ Some Real → IsRealRun run
unfolding number_kind
real_form run h =
    let s = split_sign run in
    record {
      sign = s.0;
      text = unsigned run;
      signed = s.1;
      form = form_of (unsigned run) (real_tail (digits (unsigned run)) (drop (digits (unsigned run)) (unsigned run)) h);
      parts = s.2;
    }

ending_digits : (power : List ℕ) → (power ≡ []) ⊎ IsPower power → digits power ≡ 0
ending_digits power (inl e) = rw e refl
ending_digits power (inr h) = (power_first power h).0

dotted_kind : (text : List ℕ) → IsDotted text → (unsigned text ≡ text) × (behind_digits (digits text) (drop (digits text) text) ≡ Some Real)
dotted_kind text h =
    let tail = 46 ∷ (h.after ++ h.power) in
    let u : unsigned (h.before ++ tail) ≡ h.before ++ tail = unsigned_digits h.before tail h.front refl in
    let n : digits (h.before ++ tail) ≡ length h.before = digits_before h.before tail h.front refl in
    let rest : drop (digits (h.before ++ tail)) (h.before ++ tail) ≡ tail = drop_before h.before tail h.front refl in
    let z = ending_digits h.power h.ending in
    let m : digits (h.after ++ h.power) ≡ length h.after = digits_before h.after h.power h.back z in
    let left : drop (digits (h.after ++ h.power)) (h.after ++ h.power) ≡ h.power = drop_before h.after h.power h.back z in
    let some : nat_lt 0 (length h.before + length h.after) ≡ true = lt-ltb 0 (length h.before + length h.after) (omega (arith, h.some, length-append h.before h.after)) in
    subst (λ (x : List ℕ). (unsigned x ≡ x) × (behind_digits (digits x) (drop (digits x) x) ≡ Some Real)) (sym h.parts)
    (u, rw (rest, n, left, m, some, may_end_of h.power h.ending) refl)

scaled_at : (n : ℕ) (power : List ℕ) → 0 < n → IsPower power → behind_digits n power ≡ Some Real
scaled_at n power some h = rw h.parts (by h.marked (sym (ap is_exponent h.parts) ∙ exponent_of power h))
  where
    by : (h.mark ≡ 101) ⊎ (h.mark ≡ 69) → is_exponent (h.mark ∷ (h.sign ++ h.digits)) ≡ true → behind_digits n (h.mark ∷ (h.sign ++ h.digits)) ≡ Some Real
    by (inl e) k = let no : (h.mark == 46) ≡ false = rw e refl in rw (no, lt-ltb 0 n some, k) refl
    by (inr e) k = let no : (h.mark == 46) ≡ false = rw e refl in rw (no, lt-ltb 0 n some, k) refl

scaled_kind : (text : List ℕ) → IsScaled text → (unsigned text ≡ text) × (behind_digits (digits text) (drop (digits text) text) ≡ Some Real)
scaled_kind text h =
    let first = power_first h.power h.ending in
    let u : unsigned (h.digits ++ h.power) ≡ h.digits ++ h.power = unsigned_digits h.digits h.power h.only first.1 in
    let n : digits (h.digits ++ h.power) ≡ length h.digits = digits_before h.digits h.power h.only first.0 in
    let rest : drop (digits (h.digits ++ h.power)) (h.digits ++ h.power) ≡ h.power = drop_before h.digits h.power h.only first.0 in
    subst (λ (x : List ℕ). (unsigned x ≡ x) × (behind_digits (digits x) (drop (digits x) x) ≡ Some Real)) (sym h.parts)
    (u, rw (rest, n) (scaled_at (length h.digits) h.power h.some h.ending))

text_kind : (text : List ℕ) → IsDotted text ⊎ IsScaled text → (unsigned text ≡ text) × (behind_digits (digits text) (drop (digits text) text) ≡ Some Real)
text_kind text (inl h) = dotted_kind text h
text_kind text (inr h) = scaled_kind text h

pub real_kind : (run : List ℕ) → IsRealRun run → number_kind run ≡ Some Real
unfolding number_kind
real_kind run h =
    let k = text_kind h.text h.form in
    let u : unsigned run ≡ h.text = ap unsigned h.parts ∙ unsigned_behind h.sign h.text h.signed k.0 in
    rw u k.1
