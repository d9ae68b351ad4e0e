-- The two numbers of each vertex, as functions with their inverses.
use Rattle.std.proofs.Common.{ℕ, ◌≡◌, ◌<◌, ◌≤◌, ◌⊎◌, inl, inr, arith}
use Rattle.std.proofs.lemmas.Bool.{cases_lt}
use Rattle.st_order.specs.Laws.{IsNumbering}
use Rattle.st_order.specs.Orders.{IsX, IsY}
use Rattle.st_order.specs.Numbers.{OrderNumbersLaw}
use Rattle.st_order.proofs.OrderLemmas.{numberings_law}

-- a numbering given by a relation, as a function and its inverse
pub record Chosen (n : ℕ) (R : ℕ → ℕ → Type 0) : Type 0 where
  pub of : ℕ → ℕ
  pub at : ℕ → ℕ
  pub is : (v : ℕ) → v < n → R v (of v)
  pub into : (v : ℕ) → v < n → of v < n
  pub at_in : (i : ℕ) → i < n → at i < n
  pub at_of : (v : ℕ) → v < n → at (of v) ≡ v
  pub of_at : (i : ℕ) → i < n → of (at i) ≡ i

module _ (n : ℕ) (R : ℕ → ℕ → Type 0) (N : IsNumbering n R) where
  -- what is chosen at a vertex, whatever the answer of the comparison
  pick : (v : ℕ) → (v < n) ⊎ (n ≤ v) → ℕ
  pick v (inl l) = (N.some v l).0
  pick v (inr l) = 0

  picked : (v : ℕ) (d : (v < n) ⊎ (n ≤ v)) → v < n → R v (pick v d)
  unfolding pick
  picked v (inl l) i = (N.some v l).1
  picked v (inr l) i = absurd (omega arith)

  find : (i : ℕ) → (i < n) ⊎ (n ≤ i) → ℕ
  find i (inl l) = (N.onto i l).0
  find i (inr l) = 0

  pub record Found (i v : ℕ) : Type 0 where
    pub within : v < n
    pub has : R v i

  found : (i : ℕ) (d : (i < n) ⊎ (n ≤ i)) → i < n → Found i (find i d)
  unfolding find
  found i (inl l) m = let h = N.onto i l in record { within = h.1; has = h.2 }
  found i (inr l) m = absurd (omega arith)

  pub chosen : Chosen n R
  chosen =
      let of : ℕ → ℕ = λ v. pick v (cases_lt v n) in
      let at : ℕ → ℕ = λ i. find i (cases_lt i n) in
      let is : (v : ℕ) → v < n → R v (of v) = λ v i. picked v (cases_lt v n) i in
      let into : (v : ℕ) → v < n → of v < n = λ v i. N.below v (of v) i (is v i) in
      record {
        of = of;
        at = at;
        is = is;
        into = into;
        at_in = λ i l. (found i (cases_lt i n) l).within;
        at_of = λ v l. (let F = found (of v) (cases_lt (of v) n) (into v l) in N.different (at (of v)) v (of v) F.within l F.has (is v l));
        of_at = λ i l. (let F = found i (cases_lt i n) l in N.one (at i) (of (at i)) i (is (at i) F.within) F.has);
      }

pub numbers_law : OrderNumbersLaw
numbers_law g S =
    let O = numberings_law g S in
    let X = chosen g.vertices (IsX g) O.x_numbers in
    let Y = chosen g.vertices (IsY g) O.y_numbers in
    record {
      x = X.of;
      y = Y.of;
      at_x = X.at;
      at_y = Y.at;
      are = record {
        numberings = record { x_in = X.into; y_in = Y.into; at_x_in = X.at_in; at_y_in = Y.at_in; at_x_of = X.at_of; at_y_of = Y.at_of; x_of_at = X.of_at; y_of_at = Y.of_at };
        x = X.is;
        y = Y.is;
      };
    }
