-- The edges out of a vertex and into it: what lies between two of them, and on their left and right.
use Rattle.std.proofs.Common.{ℕ, List, [], ◌∷◌, ◌≡◌, ◌<◌, ◌⊎◌, inl, inr, refl, sym, ap, ◌∙◌, subst}
use Rattle.st_ids.specs.Lists.{In, here, there, Precedes, Linked, NextTo, FirstIs, LastIs, EndIs}
use Rattle.st_ids.specs.Walks.{Reaches}
use Rattle.st_sides.specs.Sides.{SidesValue, edge_count, edge_tail, edge_head, face_left, face_right, outs, ins, dual, MeetsLow, MeetsHigh, IsSides}
use Rattle.st_ids.proofs.Public.{not_in_nil, reach_refl, reach_trans, reach_arc}

-- e stands to the left of e' among edges with M between neighbours
pub record Beside (g : SidesValue) (M : ℕ → ℕ → Type 0) (e e' : ℕ) : Type 0 where
  pub next : ℕ
  pub meets : M e next
  pub last : ℕ
  pub met : M last e'
  pub across : Reaches (dual g) (face_right g e) (face_left g e')

module _ (g : SidesValue) (M : ℕ → ℕ → Type 0) (same : (e e' : ℕ) → M e e' → face_right g e ≡ face_left g e') where
  pub beside_after : (x : ℕ) (ys : List ℕ) → ((e : ℕ) → In e ys → e < edge_count g) → NextTo M x ys → Linked M ys → (e : ℕ) → In e ys → Beside g M x e
  beside_after x [] within m lk e i = absurd (not_in_nil i)
  beside_after x (y ∷ ys) within m lk e (here q) = record {
    next = y;
    meets = m;
    last = x;
    met = subst (λ z. M x z) (sym q) m;
    across = reach_refl (same x y m ∙ ap (face_left g) (sym q));
  }
  beside_after x (y ∷ ys) within m lk e (there j) =
      let b = beside_after y ys (λ e i. within e (there i)) lk.0 lk.1 e j in
      record {
        next = y;
        meets = m;
        last = b.last;
        met = b.met;
        across = reach_trans (reach_trans (reach_refl (same x y m)) (reach_arc y (within y (here refl)))) b.across;
      }

  pub beside : (xs : List ℕ) → ((e : ℕ) → In e xs → e < edge_count g) → Linked M xs → (e e' : ℕ) → In e xs → In e' xs → (e ≡ e') ⊎ (Beside g M e e' ⊎ Beside g M e' e)
  beside [] within lk e e' i i' = absurd (not_in_nil i)
  beside (x ∷ xs) within lk e e' (here q) (here q') = inl (q ∙ sym q')
  beside (x ∷ xs) within lk e e' (here q) (there j') = inr (inl (subst (λ z. Beside g M z e') (sym q) (beside_after x xs (λ e i. within e (there i)) lk.0 lk.1 e' j')))
  beside (x ∷ xs) within lk e e' (there j) (here q') = inr (inr (subst (λ z. Beside g M z e) (sym q') (beside_after x xs (λ e i. within e (there i)) lk.0 lk.1 e j)))
  beside (x ∷ xs) within lk e e' (there j) (there j') = beside xs (λ e i. within e (there i)) lk.1 e e' j j'

  pub from_first : (a : ℕ) (xs : List ℕ) → ((e : ℕ) → In e xs → e < edge_count g) → Linked M xs → FirstIs (λ e. a ≡ face_left g e) xs → (e : ℕ) → In e xs → Reaches (dual g) a (face_left g e)
  from_first a [] within lk f e i = absurd (not_in_nil i)
  from_first a (x ∷ xs) within lk f e (here q) = reach_refl (f ∙ ap (face_left g) (sym q))
  from_first a (x ∷ xs) within lk f e (there j) =
      reach_trans (reach_trans (reach_refl f) (reach_arc x (within x (here refl)))) (beside_after x xs (λ e i. within e (there i)) lk.0 lk.1 e j).across

  to_end : (b x : ℕ) (ys : List ℕ) → ((e : ℕ) → In e (x ∷ ys) → e < edge_count g) → NextTo M x ys → Linked M ys → EndIs (λ e. b ≡ face_right g e) x ys → (e : ℕ) → In e (x ∷ ys) → Reaches (dual g) (face_right g e) b
  to_end b x [] within m lk l e (here q) = reach_refl (ap (face_right g) q ∙ sym l)
  to_end b x [] within m lk l e (there j) = absurd (not_in_nil j)
  to_end b x (y ∷ ys) within m lk l e (here q) =
      reach_trans (reach_trans (reach_refl (ap (face_right g) q ∙ same x y m)) (reach_arc y (within y (there (here refl))))) (to_end b y ys (λ e i. within e (there i)) lk.0 lk.1 l y (here refl))
  to_end b x (y ∷ ys) within m lk l e (there j) = to_end b y ys (λ e i. within e (there i)) lk.0 lk.1 l e j

  pub to_last : (b : ℕ) (xs : List ℕ) → ((e : ℕ) → In e xs → e < edge_count g) → Linked M xs → LastIs (λ e. b ≡ face_right g e) xs → (e : ℕ) → In e xs → Reaches (dual g) (face_right g e) b
  to_last b [] within lk l e i = absurd (not_in_nil i)
  to_last b (x ∷ xs) within lk l e i = to_end b x xs within lk.0 lk.1 l e i

  -- what passes from the first edge to all
  pub along : (P : ℕ → Type 0) → ((e e' : ℕ) → e < edge_count g → M e e' → P e → P e') → (xs : List ℕ) → ((e : ℕ) → In e xs → e < edge_count g) → Linked M xs → FirstIs P xs → (e : ℕ) → In e xs → P e
  along P pass [] within lk f e i = absurd (not_in_nil i)
  along P pass (x ∷ xs) within lk f e (here q) = subst P (sym q) f
  along P pass (x ∷ []) within lk f e (there j) = absurd (not_in_nil j)
  along P pass (x ∷ y ∷ ys) within lk f e (there j) = along P pass (y ∷ ys) (λ e i. within e (there i)) lk.1 (pass x y (within x (here refl)) lk.0 f) e j

-- of two elements of a list one is before the other
pub ordered : (xs : List ℕ) (e e' : ℕ) → In e xs → In e' xs → (e ≡ e') ⊎ (Precedes e e' xs ⊎ Precedes e' e xs)
ordered [] e e' i i' = absurd (not_in_nil i)
ordered (x ∷ xs) e e' (here q) (here q') = inl (q ∙ sym q')
ordered (x ∷ xs) e e' (here q) (there j') = inr (inl (inl (q, j')))
ordered (x ∷ xs) e e' (there j) (here q') = inr (inr (inl (q', j)))
ordered (x ∷ xs) e e' (there j) (there j') = elim (ordered xs e e' j j') [
  | inl q ↦ inl q
  | inr h ↦ elim h [ inl k ↦ inr (inl (inr k)) | inr k ↦ inr (inr (inr k)) ]
]

module _ (g : SidesValue) (M : ℕ → ℕ → Type 0) (same : (e e' : ℕ) → M e e' → face_right g e ≡ face_left g e') where
  pub beside_from_order : (xs : List ℕ) → ((e : ℕ) → In e xs → e < edge_count g) → Linked M xs → (e e' : ℕ) → Precedes e e' xs → Beside g M e e'
  beside_from_order [] within lk e e' h = absurd h
  beside_from_order (x ∷ xs) within lk e e' (inl h) = subst (λ z. Beside g M z e') (sym h.0) (beside_after g M same x xs (λ e i. within e (there i)) lk.0 lk.1 e' h.1)
  beside_from_order (x ∷ xs) within lk e e' (inr h) = beside_from_order xs (λ e i. within e (there i)) lk.1 e e' h

-- ---- at a vertex
module _ (g : SidesValue) (S : IsSides g) where
  pub beside_out : (e e' : ℕ) → e < edge_count g → e' < edge_count g → edge_tail g e ≡ edge_tail g e' → (e ≡ e') ⊎ (Beside g (MeetsLow g (edge_tail g e)) e e' ⊎ Beside g (MeetsLow g (edge_tail g e)) e' e)
  beside_out e e' a a' q =
      let v = S.tail_in e a in
      let k = S.outs_are (edge_tail g e) v in
      beside g (MeetsLow g (edge_tail g e)) (λ d d' m. m.same) (outs g (edge_tail g e)) (λ d i. (k.only d i).0) (S.outs_meet (edge_tail g e) v) e e' (k.all e (a, refl)) (k.all e' (a', sym q))

  pub beside_in : (e e' : ℕ) → e < edge_count g → e' < edge_count g → edge_head g e ≡ edge_head g e' → (e ≡ e') ⊎ (Beside g (MeetsHigh g (edge_head g e)) e e' ⊎ Beside g (MeetsHigh g (edge_head g e)) e' e)
  beside_in e e' a a' q =
      let v = S.head_in e a in
      let k = S.ins_are (edge_head g e) v in
      beside g (MeetsHigh g (edge_head g e)) (λ d d' m. m.same) (ins g (edge_head g e)) (λ d i. (k.only d i).0) (S.ins_meet (edge_head g e) v) e e' (k.all e (a, refl)) (k.all e' (a', sym q))

  -- two edges out of v, or into v, in the order of its list
  pub order_out : (v e e' : ℕ) → v < g.vertices → e < edge_count g → e' < edge_count g → edge_tail g e ≡ v → edge_tail g e' ≡ v → (e ≡ e') ⊎ (Precedes e e' (outs g v) ⊎ Precedes e' e (outs g v))
  order_out v e e' i a a' t t' = let k = S.outs_are v i in ordered (outs g v) e e' (k.all e (a, t)) (k.all e' (a', t'))

  pub order_in : (v e e' : ℕ) → v < g.vertices → e < edge_count g → e' < edge_count g → edge_head g e ≡ v → edge_head g e' ≡ v → (e ≡ e') ⊎ (Precedes e e' (ins g v) ⊎ Precedes e' e (ins g v))
  order_in v e e' i a a' t t' = let k = S.ins_are v i in ordered (ins g v) e e' (k.all e (a, t)) (k.all e' (a', t'))

  pub order_out_beside : (v e e' : ℕ) → v < g.vertices → Precedes e e' (outs g v) → Beside g (MeetsLow g v) e e'
  order_out_beside v e e' i h = let k = S.outs_are v i in beside_from_order g (MeetsLow g v) (λ d d' m. m.same) (outs g v) (λ d j. (k.only d j).0) (S.outs_meet v i) e e' h

  pub order_in_beside : (v e e' : ℕ) → v < g.vertices → Precedes e e' (ins g v) → Beside g (MeetsHigh g v) e e'
  order_in_beside v e e' i h = let k = S.ins_are v i in beside_from_order g (MeetsHigh g v) (λ d d' m. m.same) (ins g v) (λ d j. (k.only d j).0) (S.ins_meet v i) e e' h
