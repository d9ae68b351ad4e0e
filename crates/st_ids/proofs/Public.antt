-- Words on lists and finite searches that the crates above share.
use Rattle.std.proofs.Common.{ℕ, zero, suc, List, [], ◌∷◌, ◌++◌, ◌<◌, ◌⊎◌, inl, inr, refl, subst, arith}
use Rattle.std.proofs.lemmas.Bool.{cases_eq}
use Rattle.st_ids.specs.Lists.{In, here, there, NoRepeat}
use Rattle.st_ids.proofs.ListLemmas.{in_append}
pub use Rattle.st_ids.proofs.FiniteLemmas.{IsWithin, Without, down, in_map, length-le_from_below, up, without}
pub use Rattle.st_ids.proofs.ListLemmas.{Cut, First, FirstIs-weaken, In-cases, Precedes-left, Precedes-right, Precedes_irrefl, Precedes_trans, cut_at, first_of, in_append, in_dec, in_left, in_right, in_subst, in_turn, not_in_nil, turn, turn_before, turn_left, turn_once, turn_right, turned_Precedes, turned_apart, turned_once}
pub use Rattle.st_ids.proofs.WalkLemmas.{Part, apart, arrives, departs, halves, in_order, no_loop, none_from_end, on_walk, part_of, reach_arc, reach_refl, reach_trans, unique_tail, walk_append, walk_from, walk_once, walk_to}

-- two lists without repeats that share no element have none together
pub joined_once : (xs ys : List ℕ) → NoRepeat xs → NoRepeat ys → ((x : ℕ) → In x xs → In x ys → ⊥) → NoRepeat (xs ++ ys)
joined_once [] ys h k apart = k
joined_once (x ∷ xs) ys h k apart = (
  (λ i. elim (in_append xs i) [ inl a ↦ h.0 a | inr b ↦ apart x (here refl) b ]),
  joined_once xs ys h.1 k (λ y i j. apart y (there i) j),
)

-- a property that holds of each number or fails
abbrev pub IsDecided : (ℕ → Type 0) → Type 0
IsDecided D = (x : ℕ) → D x ⊎ (D x → ⊥)

-- some number below n has it, or none has
pub some_below : (D : ℕ → Type 0) → IsDecided D → (n : ℕ) → ((y : ℕ) × (y < n) × D y) ⊎ ((y : ℕ) → y < n → D y → ⊥)
some_below D dec zero = inr (λ y l d. absurd (omega arith))
some_below D dec (suc m) = elim (dec m) [
  | inl d ↦ inl (m, omega arith, d)
  | inr n ↦ elim (some_below D dec m) [
    | inl h ↦ inl (h.0, (let k : h.0 < m = h.1 in omega arith), h.2)
    | inr h ↦ inr (λ y l d. elim (cases_eq y m) [ inl q ↦ n (subst D q d) | inr q ↦ h y (omega arith) d ])
  ]
]
