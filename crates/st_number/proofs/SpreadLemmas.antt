-- Rows of edges by flags.
use Rattle.std.proofs.Common.{All, ℕ, ◌≡◌, ◌<◌, ◌≤◌, ◌+◌, [], ◌∷◌, ◌++◌, inl, inr, Bool, true, false, cond, List, length, max, get_or, sym, ap, ◌∙◌, subst, arith, Some}
use Rattle.std.proofs.Math.Nat.{le-max_right, max-le}
use Rattle.std.proofs.lemmas.Bool.{cases_Bool, cases_lt}
use Rattle.std.proofs.lemmas.List.{length-append, get_or_append_left, get_or_at}
use Rattle.std.proofs.lemmas.List.Elements.{All-from_get_or, All-get_or}
use Rattle.std.proofs.lemmas.Option.{get_or_from_slice_get, slice_get-get_or}
use Rattle.st_map.specs.Embedded.{Embedded, edges}
use Rattle.st_number.specs.Parallel.{AreParallel}
use Rattle.st_ids.specs.Lengths.{IsLength}
use Rattle.st_number.specs.Spread.{AreSpreadRows, AreSpreadBy}

-- the rows of an edge, by its length and its flag
abbrev pub rows_by : ℕ → Bool → ℕ
rows_by l b = cond b (max 2 l) l

rows_by_fit : (l : ℕ) (b : Bool) → IsLength l → IsLength (rows_by l b)
rows_by_fit l true k = (let h : l ≤ max 2 l = le-max_right 2 l in omega (arith, k.0), max-le (omega arith) k.1)
rows_by_fit l false k = k

-- one more row
pub rows_more : (lengths : List ℕ) (flags : List Bool) (n : ℕ) (rows : List ℕ) → AreSpreadBy lengths flags n rows → (x : ℕ) → x ≡ rows_by (get_or lengths n 0) (get_or flags n false)
    → AreSpreadBy lengths flags (n + 1) (rows ++ x ∷ [])
rows_more lengths flags n rows R x is = record {
  size = let h : length (rows ++ x ∷ []) ≡ length rows + 1 = length-append rows (x ∷ []) in omega (arith, h, R.size);
  each = λ e l. elim (cases_lt e n) [
    | inl b ↦ get_or_append_left rows (x ∷ []) 0 e (omega (arith, R.size)) ∙ R.each e b
    | inr a ↦ (let q : n ≡ e = omega arith in
        subst (λ z. get_or (rows ++ x ∷ []) z 0 ≡ rows_by (get_or lengths z 0) (get_or flags z false)) q
        (get_or_at rows x [] 0 n R.size ∙ is))
  ];
}

-- the rows of all edges, by flags that tell which have a parallel
pub spread_by : (g : Embedded) (lengths : List ℕ) (flags : List Bool) (rows : List ℕ) → length lengths ≡ edges g → AreParallel g flags
    → AreSpreadBy lengths flags (length lengths) rows → AreSpreadRows g lengths rows
spread_by g lengths flags rows size P R = record {
  size = R.size ∙ size;
  parallel = λ e l h. at e l ∙ ap (λ b. rows_by (get_or lengths e 0) b) (get_or_from_slice_get flags e true false ((P.exact e l).1 h));
  alone = λ e l h. elim (cases_Bool (get_or flags e false)) [
    | inl t ↦ absurd (h ((P.exact e l).0 (slice_get-get_or flags e false (omega (arith, P.size)) ∙ ap (λ (b : Bool). Some b) t)))
    | inr f ↦ at e l ∙ ap (λ b. rows_by (get_or lengths e 0) b) f
  ];
}
  where
    at : (e : ℕ) → e < edges g → get_or rows e 0 ≡ rows_by (get_or lengths e 0) (get_or flags e false)
    at e l = R.each e (omega (arith, size))

-- they are from 1 to the greatest length of an edge, as the lengths are
pub rows_fit : (lengths : List ℕ) (flags : List Bool) (rows : List ℕ) → All IsLength lengths → AreSpreadBy lengths flags (length lengths) rows → All IsLength rows
rows_fit lengths flags rows A R = All-from_get_or IsLength rows 0 (λ e l.
    let i : e < length lengths = omega (arith, R.size) in
    subst IsLength (sym (R.each e i)) (rows_by_fit (get_or lengths e 0) (get_or flags e false) (All-get_or IsLength lengths e 0 i A)))
