-- That every file has an answer, beside the laws that it has at most one.
--   HasSome P      some value meets P
--   SomeGraph      bytes have a graph within the limits, or are refused
use Rattle.std.specs.Prelude.{ℕ, List}
use Rattle.st_verdict.specs.File.{IsGraphWithin}

-- some value meets P
abbrev pub HasSome : {A : Type 0} → (A → Type 0) → Type 0
HasSome {A} P = (x : A) × P x

-- bytes have a graph within the limits, or are refused
abbrev pub SomeGraph : Type 0
SomeGraph = (bytes : List ℕ) → HasSome (IsGraphWithin bytes)
