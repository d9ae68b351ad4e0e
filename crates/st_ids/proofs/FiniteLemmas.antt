-- A digraph with finitely many nodes and no cycle: induction along its arcs, either way.
use Rattle.std.proofs.Common.{ℕ, zero, suc, List, [], ◌∷◌, ◌++◌, length, map, ◌≡◌, ◌<◌, ◌≤◌, ◌+◌, inl, inr, refl, sym, ap, ◌∙◌, subst, arith, length-append}
use Rattle.std.proofs.lemmas.List.{length-map}
use Rattle.st_ids.specs.Lists.{In, here, there, NoRepeat}
use Rattle.st_ids.specs.Walks.{Arcs, Walk, stay, step, IsAcyclic}
use Rattle.st_ids.proofs.ListLemmas.{not_in_nil, In-cases, in_left, in_right, in_append, in_dec, cut_at, in_subst}
use Rattle.st_ids.proofs.WalkLemmas.{walk_from, walk_append, on_walk, no_loop, reach_trans, reach_refl}

-- ---- a list of numbers below n, none of them twice, is at most n long
in_without : (p q : List ℕ) (x : ℕ) {y : ℕ} → In y (p ++ q) → In y (p ++ x ∷ q)
in_without p q x i = elim (in_append p i) [ inl a ↦ in_left _ a | inr b ↦ in_right p (there b) ]

pub record Without (x : ℕ) (xs : List ℕ) : Type 0 where
  pub once : NoRepeat xs
  pub gone : In x xs → ⊥

pub without : (p q : List ℕ) (x : ℕ) → NoRepeat (p ++ x ∷ q) → Without x (p ++ q)
without [] q x h = record { once = h.1; gone = h.0 }
without (y ∷ p) q x h =
    let r = without p q x h.1 in
    record {
      once = ((λ i. h.0 (in_without p q x i)), r.once);
      gone = λ i. elim (In-cases i) [ inl e ↦ h.0 (in_right p (here (sym e))) | inr j ↦ r.gone j ];
    }

pub length-le_from_below : (n : ℕ) (xs : List ℕ) → NoRepeat xs → ((x : ℕ) → In x xs → x < n) → length xs ≤ n
length-le_from_below zero [] once below = omega arith
length-le_from_below zero (x ∷ xs) once below = let h : x < 0 = below x (here refl) in absurd (omega arith)
length-le_from_below (suc m) xs once below = elim (in_dec m xs) [
  | inl i ↦
      let c = cut_at i in
      let w = without c.before c.after m (subst NoRepeat c.is once) in
      let ys : List ℕ = c.before ++ c.after in
      let k : length ys ≤ m = length-le_from_below m ys w.once (λ x j. less x (below x (subst (λ z. In x z) (sym c.is) (in_without c.before c.after m j))) (λ e. w.gone (in_subst e j))) in
      let e : length xs ≡ length c.before + suc (length c.after) = ap length c.is ∙ length-append c.before (m ∷ c.after) in
      let e' : length ys ≡ length c.before + length c.after = length-append c.before c.after in
      omega arith
  | inr n ↦
      let k : length xs ≤ m = length-le_from_below m xs once (λ x j. less x (below x j) (λ e. n (in_subst e j))) in
      omega arith
]
  where
    less : (x : ℕ) → x < suc m → (x ≡ m → ⊥) → x < m
    less x h n = omega arith

-- ---- no walk is longer than the number of nodes
pub in_map : (f : ℕ → ℕ) (y : ℕ) (es : List ℕ) → In y (map f es) → (e : ℕ) × In e es × (y ≡ f e)
in_map f y [] i = absurd (not_in_nil i)
in_map f y (e ∷ es) (here q) = (e, here refl, q)
in_map f y (e ∷ es) (there j) = let h = in_map f y es j in (h.0, there h.1, h.2)

froms_once : {D : Arcs} → IsAcyclic D → {u v : ℕ} {es : List ℕ} → Walk D u es v → NoRepeat (map D.from es)
froms_once acyclic (stay q) = tt
froms_once {D} acyclic (step {e = x} {es = es} a f r) =
    ((λ i. let h = in_map D.from (D.from x) es i in no_loop acyclic x a (reach_trans (on_walk r h.1).before (reach_refl (sym h.2)))), froms_once acyclic r)

pub record IsWithin (D : Arcs) (n : ℕ) : Type 0 where
  pub from_in : (e : ℕ) → e < D.count → D.from e < n
  pub to_in : (e : ℕ) → e < D.count → D.to e < n

pub short : {D : Arcs} {n : ℕ} → IsAcyclic D → IsWithin D n → {u v : ℕ} {es : List ℕ} → Walk D u es v → length es ≤ n
short {D} {n} acyclic within {u} {v} {es} k =
    let h : length (map D.from es) ≤ n = length-le_from_below n (map D.from es) (froms_once acyclic k) (λ y i. let h = in_map D.from y es i in subst (λ z. z < n) (sym h.2) (within.from_in h.0 (on_walk k h.1).arc)) in
    let e : length (map D.from es) ≡ length es = length-map es D.from in
    omega arith

-- ---- induction along the arcs
module _ (D : Arcs) (n : ℕ) (acyclic : IsAcyclic D) (within : IsWithin D n) (P : ℕ → Type 0) where
  down_from : ((v : ℕ) → v < n → ((e : ℕ) → e < D.count → D.to e ≡ v → P (D.from e)) → P v) → (k : ℕ) (v w : ℕ) (es : List ℕ) → v < n → Walk D v es w → n < length es + k → P v
  down_from next zero v w es i walk l = let h : length es ≤ n = short acyclic within walk in absurd (omega arith)
  down_from next (suc k) v w es i walk l = next v i (λ e a q. down_from next k (D.from e) w (e ∷ es) (within.from_in e a) (step a refl (walk_from (sym q) walk)) (omega arith))

  pub down : ((v : ℕ) → v < n → ((e : ℕ) → e < D.count → D.to e ≡ v → P (D.from e)) → P v) → (v : ℕ) → v < n → P v
  down next v i = down_from next (suc n) v v [] i (stay refl) (omega arith)

  up_from : ((v : ℕ) → v < n → ((e : ℕ) → e < D.count → D.from e ≡ v → P (D.to e)) → P v) → (k : ℕ) (v w : ℕ) (es : List ℕ) → v < n → Walk D w es v → n < length es + k → P v
  up_from next zero v w es i walk l = let h : length es ≤ n = short acyclic within walk in absurd (omega arith)
  up_from next (suc k) v w es i walk l = next v i (λ e a q.
      let m : length (es ++ e ∷ []) ≡ length es + 1 = length-append es (e ∷ []) in
      up_from next k (D.to e) w (es ++ e ∷ []) (within.to_in e a) (walk_append walk (step a q (stay refl))) (omega arith))

  pub up : ((v : ℕ) → v < n → ((e : ℕ) → e < D.count → D.from e ≡ v → P (D.to e)) → P v) → (v : ℕ) → v < n → P v
  up next v i = up_from next (suc n) v v [] i (stay refl) (omega arith)
