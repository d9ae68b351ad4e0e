-- An answer that is found in stages, each of which goes on with a value or refuses.
--   Then first next    a refusal of the first stage is the answer; else what it finds is handed to the next
--   IsToldBy make P r    r is made of a fault that meets P
--   IsOne P            at most one value meets P
use Rattle.std.specs.Prelude.{◌≡◌, Result, Ok, Err}

pub data Then {A B R : Type 0} (first : Result A R → Type 0) (next : A → Result B R → Type 0) (answer : Result B R) : Type 0 where
  refuses : (refusal : R) → first (Err refusal) → answer ≡ Err refusal → Then first next answer
  goes_on : (found : A) → first (Ok found) → next found answer → Then first next answer

-- the refusal is made of a fault that meets P
pub record IsToldBy {F R : Type 0} (make : F → R) (P : F → Type 0) (r : R) : Type 0 where
  pub fault : F
  pub is : r ≡ make fault
  pub holds : P fault

-- at most one value meets P
abbrev pub IsOne : {A : Type 0} → (A → Type 0) → Type 0
IsOne {A} P = (x y : A) → P x → P y → x ≡ y
