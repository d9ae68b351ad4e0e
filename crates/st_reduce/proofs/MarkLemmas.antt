-- Marks, face by face.
use Rattle.std.proofs.Common.{ℕ, suc, Bool, true, false, List, [], ◌∷◌, length, get_or, ◌≡◌, ◌≢◌, ◌<◌, ◌≤◌, ◌+◌, ◌⊎◌, inl, inr, refl, sym, ap, ◌∙◌, subst, arith}
use Rattle.std.proofs.Math.ListN.{set, replicate}
use Rattle.std.proofs.lemmas.Bool.{cases_eq}
use Rattle.std.proofs.lemmas.List.{get_or-set_same, get_or-set_other, get_or-replicate, length-set, length-replicate}
use Rattle.st_ids.specs.declared.ids.EdgeId.{EdgeId}
use Rattle.st_ids.specs.Lists.{In, here}
use Rattle.st_ids.specs.EdgeNumbers.{numbers}
use Rattle.st_sides.specs.Sides.{SidesValue, IsSides, edge_count, left_path, right_path, IsInner}
use Rattle.st_reduce.proofs.TransitiveLemmas.{transitive_law}
use Rattle.st_reduce.specs.Marks.{marked, AreTransitive}

pub length-marked : (m : List Bool) (p : List ℕ) → length (marked m p) ≡ length m
length-marked m [] = refl
length-marked m (e ∷ []) = length-set m e true
length-marked m (e ∷ d ∷ es) = refl

marked_only : (m : List Bool) (p : List ℕ) (e : ℕ) → get_or (marked m p) e false ≡ true → (get_or m e false ≡ true) ⊎ (p ≡ e ∷ [])
marked_only m [] e h = inl h
marked_only m (x ∷ []) e h = elim (cases_eq e x) [
  | inl q ↦ inr (ap (λ z. z ∷ []) (sym q))
  | inr n ↦ inl (sym (get_or-set_other m x e true false n) ∙ h)
]
marked_only m (x ∷ y ∷ ys) e h = inl h

marked_keeps : (m : List Bool) (p : List ℕ) (e : ℕ) → e < length m → get_or m e false ≡ true → get_or (marked m p) e false ≡ true
marked_keeps m [] e l h = h
marked_keeps m (x ∷ []) e l h = elim (cases_eq e x) [
  | inl q ↦ subst (λ z. get_or (set m z true) e false ≡ true) q (get_or-set_same m e true false l)
  | inr n ↦ get_or-set_other m x e true false n ∙ h
]
marked_keeps m (x ∷ y ∷ ys) e l h = h

marked_puts : (m : List Bool) (p : List ℕ) (e : ℕ) → e < length m → p ≡ e ∷ [] → get_or (marked m p) e false ≡ true
marked_puts m p e l q = subst (λ z. get_or (marked m z) e false ≡ true) (sym q) (get_or-set_same m e true false l)

pub marked_single : (m : List Bool) (path : List EdgeId) (e d : EdgeId) → length path ≡ 1 → e ≡ get_or path 0 d → marked m (numbers path) ≡ set m e.0 true
marked_single m [] e d q h = let z : 0 ≡ 1 = q in absurd (omega arith)
marked_single m (x ∷ []) e d q h = ap (λ z. set m z.0 true) (sym h)
marked_single m (x ∷ y ∷ ys) e d q h = let z : suc (suc (length ys)) ≡ 1 = q in absurd (omega arith)

pub marked_other : (m : List Bool) (path : List EdgeId) → length path ≢ 1 → marked m (numbers path) ≡ m
marked_other m [] n = refl
marked_other m (x ∷ []) n = absurd (n refl)
marked_other m (x ∷ y ∷ ys) n = refl

pub first_in : (path : List EdgeId) (e d : EdgeId) → length path ≡ 1 → e ≡ get_or path 0 d → In e.0 (numbers path)
first_in [] e d q h = let z : 0 ≡ 1 = q in absurd (omega arith)
first_in (x ∷ xs) e d q h = here (ap (λ z. z.0) h)

-- ---- face by face
pub record OneSideBelow (g : SidesValue) (n e : ℕ) : Type 0 where
  pub face : ℕ
  pub inner : IsInner g face
  pub below : face < n
  pub side : (left_path g face ≡ e ∷ []) ⊎ (right_path g face ≡ e ∷ [])

pub record AreBelow (g : SidesValue) (n : ℕ) (m : List Bool) : Type 0 where
  pub size : length m ≡ edge_count g
  pub only : (e : ℕ) → e < edge_count g → get_or m e false ≡ true → OneSideBelow g n e
  pub all : (e : ℕ) → e < edge_count g → OneSideBelow g n e → get_or m e false ≡ true

module _ (g : SidesValue) (S : IsSides g) where
  pub marks_none : (m : List Bool) (n : ℕ) → m ≡ replicate n false → n ≡ edge_count g → AreBelow g 1 m
  marks_none m n q s = record {
    size = ap (λ z. length z) q ∙ length-replicate n false ∙ s;
    only = λ e l h. absurd (clash (sym h ∙ ap (λ z. get_or z e false) q ∙ get_or-replicate n e false false (subst (λ z. e < z) (sym s) l)));
    all = λ e l o. let a : 0 < o.face = o.inner.not_s in let b : o.face < 1 = o.below in absurd (omega arith);
  }
    where
      clash : true ≡ false → ⊥
      clash h = cc

  pub marks_next : (m m' : List Bool) (f : ℕ) → IsInner g f → m' ≡ marked (marked m (left_path g f)) (right_path g f) → AreBelow g f m → AreBelow g (f + 1) m'
  marks_next m m' f i q a = subst (AreBelow g (f + 1)) (sym q) (record {
    size = length-marked (marked m (left_path g f)) (right_path g f) ∙ length-marked m (left_path g f) ∙ a.size;
    only = λ e l h. elim (marked_only (marked m (left_path g f)) (right_path g f) e h) [
      | inr r ↦ record { face = f; inner = i; below = omega arith; side = inr r }
      | inl k ↦ elim (marked_only m (left_path g f) e k) [
        | inr r ↦ record { face = f; inner = i; below = omega arith; side = inl r }
        | inl j ↦ let o = a.only e l j in record { face = o.face; inner = o.inner; below = (let b : o.face < f = o.below in omega arith); side = o.side }
      ]
    ];
    all = λ e l o.
        let l' : e < length m = subst (λ z. e < z) (sym a.size) l in
        let l'' : e < length (marked m (left_path g f)) = subst (λ z. e < z) (sym (length-marked m (left_path g f))) l' in
        elim (cases_eq o.face f) [
          | inl p ↦ elim o.side [
            | inl r ↦ marked_keeps (marked m (left_path g f)) (right_path g f) e l'' (marked_puts m (left_path g f) e l' (ap (left_path g) (sym p) ∙ r))
            | inr r ↦ marked_puts (marked m (left_path g f)) (right_path g f) e l'' (ap (right_path g) (sym p) ∙ r)
          ]
          | inr n ↦ marked_keeps (marked m (left_path g f)) (right_path g f) e l'' (marked_keeps m (left_path g f) e l'
              (a.all e l (record { face = o.face; inner = o.inner; below = (let b : o.face < f + 1 = o.below in omega (arith, n)); side = o.side })))
        ];
  })

  pub marks_all : (m : List Bool) (n : ℕ) → g.t_star ≤ n → AreBelow g n m → AreTransitive g m
  marks_all m n t a = record {
    size = a.size;
    each = λ e l. (
      (λ h. let o = a.only e l h in (transitive_law g S e l).1 (record { face = o.face; inner = o.inner; side = o.side })),
      (λ h. let o = (transitive_law g S e l).0 h in a.all e l (record { face = o.face; inner = o.inner; below = (let b : o.face < g.t_star = o.inner.not_t in omega arith); side = o.side })),
    );
  }
