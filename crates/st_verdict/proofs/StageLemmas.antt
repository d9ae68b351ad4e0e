-- One stage after another has at most one answer where each stage has. What every proof about one stage needs.
use Rattle.std.proofs.Common.{◌≡◌, ◌↔◌, Bool, true, false, IsTrue, refl, sym, ap, ◌∙◌, subst}
use Rattle.std.specs.Prelude.{Result, Ok, Err}
use Rattle.st_report.specs.declared.stop.Refusal.{Refusal}
use Rattle.st_verdict.specs.Stages.{Then, refuses, goes_on, IsToldBy, IsOne}

-- equal values are equal answers
pub ok : {A : Type 0} (x y : A) → x ≡ y → (let a : Result A Refusal = Ok x in a) ≡ Ok y
ok {A} x y e = ap (λ (z : A). let a : Result A Refusal = Ok z in a) e

pub err : {A : Type 0} (r s : Refusal) → r ≡ s → (let a : Result A Refusal = Err r in a) ≡ Err s
err {A} r s e = ap (λ (z : Refusal). let a : Result A Refusal = Err z in a) e

-- equal answers are equal values
pub same_ok : {A : Type 0} (x y : A) → (let a : Result A Refusal = Ok x in a) ≡ Ok y → x ≡ y
same_ok x y h = cc

pub same_err : {A : Type 0} (r s : Refusal) → (let a : Result A Refusal = Err r in a) ≡ Err s → r ≡ s
same_err r s h = cc

-- a value is no refusal
pub mixed : {A : Type 0} (x : A) (r : Refusal) → (let a : Result A Refusal = Ok x in a) ≡ Err r → ⊥
mixed x r h = cc

-- the next stage may use that the first has found its value
pub one_then : {A B : Type 0} (first : Result A Refusal → Type 0) (next : A → Result B Refusal → Type 0) → IsOne first → ((a : A) → first (Ok a) → IsOne (next a)) → IsOne (Then first next)
one_then first next one_first one_next x y (refuses r h e) (refuses s k f) = e ∙ err r s (same_err r s (one_first (Err r) (Err s) h k)) ∙ sym f
one_then first next one_first one_next x y (refuses r h e) (goes_on b k f) = absurd (mixed b r (one_first (Ok b) (Err r) k h))
one_then first next one_first one_next x y (goes_on a h e) (refuses s k f) = absurd (mixed a s (one_first (Ok a) (Err s) h k))
one_then first next one_first one_next x y (goes_on a h e) (goes_on b k f) =
    one_next b k x y (subst (λ z. next z x) (same_ok a b (one_first (Ok a) (Ok b) h k)) e) f

-- what follows a stage that has found its value is what the next one says of it
pub next_says : {A B : Type 0} (first : Result A Refusal → Type 0) (next : A → Result B Refusal → Type 0) → IsOne first → (a : A) → first (Ok a) → (answer : Result B Refusal) → Then first next answer → next a answer
next_says first next one a h answer (refuses r k e) = absurd (mixed a r (one (Ok a) (Err r) h k))
next_says first next one a h answer (goes_on b k f) = subst (λ z. next z answer) (sym (same_ok a b (one (Ok a) (Ok b) h k))) f

-- where the answer is a value, the first stage has found one
pub record Found {A B : Type 0} (first : Result A Refusal → Type 0) (next : A → Result B Refusal → Type 0) (answer : Result B Refusal) : Type 0 where
  pub value : A
  pub is : first (Ok value)
  pub goes : next value answer

pub value_found : {A B : Type 0} (first : Result A Refusal → Type 0) (next : A → Result B Refusal → Type 0) (b : B) → Then first next (Ok b) → Found first next (Ok b)
value_found first next b (refuses r k e) = absurd (mixed b r e)
value_found first next b (goes_on a k f) = record { value = a; is = k; goes = f }

-- where one fault alone meets P, one refusal alone is made of it
pub told_one : {F : Type 0} (make : F → Refusal) (P : F → Type 0) → ((f g : F) → P f → P g → f ≡ g) → (r s : Refusal) → IsToldBy make P r → IsToldBy make P s → r ≡ s
told_one make P one r s h k = h.is ∙ ap make (one h.fault k.fault h.holds k.holds) ∙ sym k.is

-- two truth values that say the same are the same
pub same_bool : {P : Type 0} (a b : Bool) → (IsTrue a ↔ P) → (IsTrue b ↔ P) → a ≡ b
same_bool true true h k = refl
same_bool true false h k = sym (k.1 (h.0 refl))
same_bool false true h k = h.1 (k.0 refl)
same_bool false false h k = refl
