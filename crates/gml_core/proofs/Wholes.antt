-- Gaps and tokens that lie within the rest of a piece.
use Rattle.std.proofs.Common.{◌≡◌, ℕ, ◌+◌, ◌<◌, ◌≤◌, Bool, true, false, cond, List, [], ◌∷◌, ◌++◌, length, drop, take, Some, None, Ok, refl, sym, ap, ◌∙◌, arith, add-zero, get_or}
use Rattle.std.specs.Prelude.{◌==◌}
use Rattle.std.specs.List.{prefix_len}
use Rattle.std.proofs.lemmas.Bool.{eqb-true}
use Rattle.gml_core.specs.declared.token.TokenKind.{TokenKind}
use Rattle.gml_core.specs.declared.token.TokenKind.TheVariants as kinds
use Rattle.gml_core.specs.declared.pieces.First.{First}
use Rattle.gml_core.specs.declared.pieces.First.TheVariants.{Open, Close, Letter, Digit, Other}
use Rattle.gml_core.specs.declared.pieces.State.TheVariants.{Between}
use Rattle.gml_core.specs.declared.pieces.Seen.TheVariants.{Whole}
use Rattle.gml_core.specs.Bytes.{is_space, is_word, is_numeric, number_kind}
use Rattle.gml_core.specs.Pieces.{after_gap, gap_step, first_of, coming, Closes}
use Rattle.gml_core.proofs.Looks.{gap_ends, skip_more, key_closes, number_closes}
use Rattle.gml_core.proofs.Begins.{Begins, begin_key, begin_number, begin_open, begin_close}

pub space_step : (b : ℕ) → is_space b ≡ true → gap_step false b ≡ Some false
space_step b e = tests (is_space b) (b == 35) e
  where
    tests : (s c : Bool) → s ≡ true → cond s (Some false) (cond c (Some true) None) ≡ Some false
    tests true c e = refl
    tests false c e = absurd cc

pub first_space : (text : List ℕ) → 0 < length text → is_space (get_or text 0 0) ≡ true → (at : ℕ) (c : List ℕ) → after_gap false at (text ++ c) ≡ after_gap false (at + 1) (drop 1 text ++ c)
first_space text some e at c = ap (λ (p : ℕ). after_gap false p (text ++ c)) (sym (add-zero at)) ∙ skip_more false false text 0 at c some (space_step (get_or text 0 0) e)

no_gap : (b : ℕ) (f : First) → is_space b ≡ false → first_of b ≡ f → (f ≡ Other → ⊥) → gap_step false b ≡ None
no_gap b f plain e other = tests (is_space b) (b == 35) plain (λ q. other (sym e ∙ ap first_of (eqb-true b 35 q)))
  where
    tests : (s c : Bool) → s ≡ false → (c ≡ true → ⊥) → cond s (Some false) (cond c (Some true) None) ≡ None
    tests true c plain h = absurd cc
    tests false true plain h = absurd (h refl)
    tests false false plain h = refl

pub begins : (at : ℕ) (rest : List ℕ) (f : First) → 0 < length rest → is_space (get_or rest 0 0) ≡ false → first_of (get_or rest 0 0) ≡ f → (f ≡ Other → ⊥) → Begins Between at rest
unfolding coming
begins at [] f some plain e other = absurd (omega arith)
begins at (b ∷ bs) f some plain e other = λ c. gap_ends false b at (bs ++ c) (no_gap b f plain e other)

pub whole_key : (at n : ℕ) (rest : List ℕ) → 0 < length rest → is_space (get_or rest 0 0) ≡ false → first_of (get_or rest 0 0) ≡ Letter → n ≡ prefix_len is_word rest → n < length rest
    → Closes Between at rest (record { kind = kinds.Key; from = at; to = at + n }) (take n rest) n
whole_key at n rest some plain e n-is lt =
    let own = key_closes at at n (at + n) [] rest (take n rest) (omega arith) (omega arith) n-is refl refl in
    (begin_key {E = ℕ} Between at rest [] (Ok (Whole (record { kind = kinds.Key; from = at; to = at + n }) [] n n)) some e refl refl (begins at rest Letter some plain e (λ q. cc)) (omega arith, own)).1

pub whole_number : (at n : ℕ) (rest text : List ℕ) (kind : TokenKind) → 0 < length rest → is_space (get_or rest 0 0) ≡ false → first_of (get_or rest 0 0) ≡ Digit → n ≡ prefix_len is_numeric rest → n < length rest
    → text ≡ take n rest → number_kind text ≡ Some kind → (kind ≡ kinds.Str → ⊥) → Closes Between at rest (record { kind = kind; from = at; to = at + n }) (take n rest) n
whole_number at n rest text kind some plain e n-is lt text-is kind-is other =
    let own = number_closes at at n (at + n) [] rest (take n rest) kind (omega arith) (omega arith) n-is refl refl (ap number_kind (sym text-is) ∙ kind-is) other in
    (begin_number {E = ℕ} Between at rest [] (Ok (Whole (record { kind = kind; from = at; to = at + n }) [] n n)) some e refl refl (begins at rest Digit some plain e (λ q. cc)) (omega arith, own)).1

pub whole_open : (at : ℕ) (rest : List ℕ) → 0 < length rest → is_space (get_or rest 0 0) ≡ false → first_of (get_or rest 0 0) ≡ Open → Closes Between at rest (record { kind = kinds.OpenList; from = at; to = at + 1 }) (take 1 rest) 1
whole_open at rest some plain e = (begin_open Between at rest (Whole (record { kind = kinds.OpenList; from = at; to = at + 1 }) [] 1 1) some e refl refl (begins at rest Open some plain e (λ q. cc))).1

pub whole_close : (at : ℕ) (rest : List ℕ) → 0 < length rest → is_space (get_or rest 0 0) ≡ false → first_of (get_or rest 0 0) ≡ Close → Closes Between at rest (record { kind = kinds.CloseList; from = at; to = at + 1 }) (take 1 rest) 1
whole_close at rest some plain e = (begin_close Between at rest (Whole (record { kind = kinds.CloseList; from = at; to = at + 1 }) [] 1 1) some e refl refl (begins at rest Close some plain e (λ q. cc))).1

pub wholly : (kind : TokenKind) (n : ℕ) (rest : List ℕ) → n ≤ length rest → ((at : ℕ) → Closes Between at rest (record { kind = kind; from = at; to = at + n }) (take n rest) n)
    → (0 < n) × (n ≤ length rest) × ((at : ℕ) → Closes Between at rest (record { kind = kind; from = at; to = at + n }) (take n rest) n)
wholly kind n rest within closes = (omega (arith, (closes 0).progress), within, closes)
