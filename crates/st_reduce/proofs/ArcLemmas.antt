-- An arc split by a new node keeps what the old nodes reach, and which other arcs are transitive.
use Rattle.std.proofs.Common.{ℕ, suc, List, [], ◌∷◌, ◌++◌, ◌≡◌, ◌≢◌, ◌<◌, ◌⊎◌, inl, inr, refl, sym, ap, ◌∙◌, subst, arith}
use Rattle.std.specs.Prelude.{◌↔◌}
use Rattle.std.proofs.lemmas.Bool.{cases_eq}
use Rattle.st_ids.specs.Lists.{In, here, there}
use Rattle.st_ids.specs.Walks.{Arcs, Walk, stay, step, Reaches, IsAcyclic}
use Rattle.st_reduce.specs.Transitive.{IsTransitive}
use Rattle.st_ids.proofs.Public.{not_in_nil, In-cases, in_right, in_subst, walk_from, walk_to, no_loop, reach_refl, reach_trans}

-- E is D with arc e ending at the new node n, and a new arc from there to the old end of e.
pub record SplitsArc (D E : Arcs) (n e : ℕ) : Type 0 where
  pub there : e < D.count
  pub from_in : (a : ℕ) → a < D.count → D.from a < n
  pub to_in : (a : ℕ) → a < D.count → D.to a < n
  pub arcs : E.count ≡ suc D.count
  pub from_old : (a : ℕ) → a < D.count → E.from a ≡ D.from a
  pub to_old : (a : ℕ) → a < D.count → a ≢ e → E.to a ≡ D.to a
  pub to_split : E.to e ≡ n
  pub from_new : E.from D.count ≡ n
  pub to_new : E.to D.count ≡ D.to e

-- what a split keeps
pub record SplitKeeps (D E : Arcs) (n e : ℕ) : Type 0 where
  pub acyclic : IsAcyclic D → IsAcyclic E
  -- the old nodes reach each other as before
  pub reaches : (u v : ℕ) → u < n → v < n → Reaches D u v ↔ Reaches E u v
  -- the other arcs are transitive as before, and the two parts are not
  pub others : (a : ℕ) → a < D.count → a ≢ e → IsTransitive D a ↔ IsTransitive E a
  pub first : IsTransitive E e → ⊥
  pub second : IsTransitive E D.count → ⊥

-- the last arc of a walk
pub record LastArc (D : Arcs) (u : ℕ) (es : List ℕ) (v : ℕ) : Type 0 where
  pub front : List ℕ
  pub arc : ℕ
  pub is : es ≡ front ++ arc ∷ []
  pub is_arc : arc < D.count
  pub before : Walk D u front (D.from arc)
  pub ends : D.to arc ≡ v

pub last_of : (D : Arcs) (v : ℕ) (es : List ℕ) (u e : ℕ) → Walk D u (e ∷ es) v → LastArc D u (e ∷ es) v
last_of D v [] u e (step a t (stay q)) = record { front = []; arc = e; is = refl; is_arc = a; before = stay (sym t); ends = q }
last_of D v (x ∷ es) u e (step a t r) =
    let h = last_of D v es (D.to e) x r in
    record { front = e ∷ h.front; arc = h.arc; is = ap (λ z. e ∷ z) h.is; is_arc = h.is_arc; before = step a t h.before; ends = h.ends }

pub last_arc : (D : Arcs) (u v : ℕ) (es : List ℕ) → Walk D u es v → (u ≡ v) ⊎ LastArc D u es v
last_arc D u v [] (stay q) = inl q
last_arc D u v (e ∷ es) k = inr (last_of D v es u e k)

-- a walk whose arcs have a property
pub record WalkOf (D : Arcs) (P : ℕ → Type 0) (u v : ℕ) : Type 0 where
  pub way : List ℕ
  pub walk : Walk D u way v
  pub each : (x : ℕ) → In x way → P x

walk_of_cons : {D : Arcs} {P : ℕ → Type 0} {u v : ℕ} (a : ℕ) → a < D.count → D.from a ≡ u → P a → WalkOf D P (D.to a) v → WalkOf D P u v
walk_of_cons {D} {P} a i f p w = record {
  way = a ∷ w.way;
  walk = step i f w.walk;
  each = λ x j. elim (In-cases j) [ inl q ↦ subst P (sym q) p | inr k ↦ w.each x k ];
}

module _ (D E : Arcs) (n e : ℕ) (S : SplitsArc D E n e) where
  old_in : (a : ℕ) → a < D.count → a < E.count
  old_in a i = let h = S.arcs in omega arith

  -- an arc of E is old or the new one
  which : (a : ℕ) → a < E.count → (a < D.count) ⊎ (a ≡ D.count)
  which a i = let h = S.arcs in elim (cases_eq a D.count) [ inl q ↦ inr q | inr d ↦ inl (omega arith) ]

  module _ (P Q : ℕ → Type 0) where
    -- from D to E
    lift : ((a : ℕ) → a < D.count → P a → Q a) → (P e → Q D.count) → {u v : ℕ} {es : List ℕ} → Walk D u es v → ((x : ℕ) → In x es → P x) → WalkOf E Q u v
    lift f g (stay q) each = record { way = []; walk = stay q; each = λ x i. absurd (not_in_nil i) }
    lift f g {v = v} (step {e = a} i t r) each =
        let W = lift f g r (λ x j. each x (there j)) in
        let p : P a = each a (here refl) in
        elim (cases_eq a e) [
          | inr d ↦ walk_of_cons a (old_in a i) (S.from_old a i ∙ t) (f a i p) (subst (λ z. WalkOf E Q z v) (sym (S.to_old a i d)) W)
          | inl q ↦
              let h = S.arcs in
              let back = walk_of_cons {D = E} {P = Q} {v = v} D.count (omega arith) refl (g (subst P q p)) (subst (λ z. WalkOf E Q z v) (ap D.to q ∙ sym S.to_new) W) in
              walk_of_cons a (old_in a i) (S.from_old a i ∙ t) (f a i p) (subst (λ z. WalkOf E Q z v) (S.from_new ∙ sym (ap E.to q ∙ S.to_split)) back)
        ]

    -- from E to D: from an old node, or from the old end of e where the walk begins at the new node
    drop : ((a : ℕ) → a < D.count → Q a → P a) → (u v : ℕ) (es : List ℕ) → v < n → Walk E u es v → ((x : ℕ) → In x es → Q x) → (u < n → WalkOf D P u v) × (u ≡ n → WalkOf D P (D.to e) v)
    drop f u v [] l (stay q) each = (
      (λ k. record { way = []; walk = stay q; each = λ x i. absurd (not_in_nil i) }),
      (λ k. absurd (let p : u ≡ v = q in omega arith)),
    )
    drop f u v (a ∷ es) l (step i t r) each =
        let R = drop f (E.to a) v es l r (λ x j. each x (there j)) in
        (old R, new R)
      where
        old : (E.to a < n → WalkOf D P (E.to a) v) × (E.to a ≡ n → WalkOf D P (D.to e) v) → u < n → WalkOf D P u v
        old R k = elim (which a i) [
          | inl o ↦ elim (cases_eq a e) [
            | inr d ↦
                let q = S.to_old a o d in
                walk_of_cons a o (sym (S.from_old a o) ∙ t) (f a o (each a (here refl))) (subst (λ z. WalkOf D P z v) q (R.0 (subst (λ z. z < n) (sym q) (S.to_in a o))))
            | inl q ↦ walk_of_cons a o (sym (S.from_old a o) ∙ t) (f a o (each a (here refl))) (subst (λ z. WalkOf D P z v) (ap D.to (sym q)) (R.1 (ap E.to q ∙ S.to_split)))
          ]
          | inr q ↦ (let p : n ≡ u = sym S.from_new ∙ ap E.from (sym q) ∙ t in absurd (omega arith))
        ]

        new : (E.to a < n → WalkOf D P (E.to a) v) × (E.to a ≡ n → WalkOf D P (D.to e) v) → u ≡ n → WalkOf D P (D.to e) v
        new R k = elim (which a i) [
          | inl o ↦ (let h : D.from a < n = S.from_in a o in let p : D.from a ≡ u = sym (S.from_old a o) ∙ t in absurd (omega arith))
          | inr q ↦
              let p : E.to a ≡ D.to e = ap E.to q ∙ S.to_new in
              subst (λ z. WalkOf D P z v) p (R.0 (subst (λ z. z < n) (sym p) (S.to_in e S.there)))
        ]

  Any : ℕ → Type 0
  Any x = Unit {0}

  down_reach : (u v : ℕ) → u < n → v < n → Reaches E u v → Reaches D u v
  down_reach u v i j r = let W = (drop (λ x. Unit {0}) (λ x. Unit {0}) (λ a o p. tt) u v r.way j r.walk (λ x k. tt)).0 i in record { way = W.way; walk = W.walk }

  up_reach : (u v : ℕ) → Reaches D u v → Reaches E u v
  up_reach u v r = let W = lift (λ x. Unit {0}) (λ x. Unit {0}) (λ a o p. tt) (λ p. tt) r.walk (λ x k. tt) in record { way = W.way; walk = W.walk }

  -- the only arc to the new node is e
  to_new_node : (a : ℕ) → a < E.count → E.to a ≡ n → a ≡ e
  to_new_node a i q = elim (cases_eq a e) [
    | inl p ↦ p
    | inr d ↦ elim (which a i) [
      | inl o ↦ (let h : D.to a < n = S.to_in a o in let p : D.to a ≡ n = sym (S.to_old a o d) ∙ q in absurd (omega arith))
      | inr p ↦ (let h : D.to e < n = S.to_in e S.there in let r : D.to e ≡ n = sym S.to_new ∙ ap E.to (sym p) ∙ q in absurd (omega arith))
    ]
  ]

  -- a walk of E from an old node to the new one passes the beginning of e
  up_to_new : (u : ℕ) (es : List ℕ) → u < n → Walk E u es n → Reaches D u (D.from e)
  up_to_new u es i k = elim (last_arc E u n es k) [
    | inl q ↦ absurd (let p : u ≡ n = q in omega arith)
    | inr L ↦
        let q = to_new_node L.arc L.is_arc L.ends in
        let p : E.from L.arc ≡ D.from e = ap E.from q ∙ S.from_old e S.there in
        down_reach u (D.from e) i (S.from_in e S.there) (record { way = L.front; walk = walk_to p L.before })
  ]

  acyclic : IsAcyclic D → IsAcyclic E
  acyclic A u a es (step i t r) = elim (which a i) [
    | inl o ↦ elim (cases_eq a e) [
      | inr d ↦
          let q = S.to_old a o d in
          let l : u < n = subst (λ z. z < n) (sym (S.from_old a o) ∙ t) (S.from_in a o) in
          no_loop A a o (reach_trans (down_reach (D.to a) u (S.to_in a o) l (record { way = es; walk = walk_from q r })) (reach_refl (sym t ∙ S.from_old a o)))
      | inl q ↦
          let l : u < n = subst (λ z. z < n) (sym (S.from_old a o) ∙ t) (S.from_in a o) in
          let W = (drop (λ x. Unit {0}) (λ x. Unit {0}) (λ a o p. tt) (E.to a) u es l r (λ x k. tt)).1 (ap E.to q ∙ S.to_split) in
          no_loop A e S.there (reach_trans (record { way = W.way; walk = W.walk }) (reach_refl (sym t ∙ S.from_old a o ∙ ap D.from q)))
    ]
    | inr q ↦
        let p : E.to a ≡ D.to e = ap E.to q ∙ S.to_new in
        let un : u ≡ n = sym t ∙ ap E.from q ∙ S.from_new in
        no_loop A e S.there (up_to_new (D.to e) es (S.to_in e S.there) (walk_from p (walk_to un r)))
  ]

  old_ends : (a : ℕ) (o : a < D.count) → a ≢ e → (E.from a ≡ D.from a) × (E.to a ≡ D.to a)
  old_ends a o d = (S.from_old a o, S.to_old a o d)

  lift_transitive : (a : ℕ) → a < D.count → a ≢ e → IsTransitive D a → IsTransitive E a
  lift_transitive a o d T =
      let W = lift (λ x. x ≢ a) (λ x. x ≢ a) (λ x i p. p) (λ p q. (let h : D.count ≡ a = q in absurd (omega arith))) T.walk (λ x i q. T.without (in_subst q i)) in
      record {
        way = W.way;
        walk = walk_from (sym (S.from_old a o)) (walk_to (sym (S.to_old a o d)) W.walk);
        without = λ i. W.each a i refl;
      }

  drop_transitive : (a : ℕ) → a < D.count → a ≢ e → IsTransitive E a → IsTransitive D a
  drop_transitive a o d T =
      let W = (drop (λ x. x ≢ a) (λ x. x ≢ a) (λ x i p. p) (D.from a) (D.to a) T.way (S.to_in a o) (walk_from (S.from_old a o) (walk_to (S.to_old a o d) T.walk)) (λ x i q. T.without (in_subst q i))).0 (S.from_in a o) in
      record { way = W.way; walk = W.walk; without = λ i. W.each a i refl }

  first : IsTransitive E e → ⊥
  first T = elim (last_arc E (E.from e) (E.to e) T.way T.walk) [
    | inl q ↦ (let h : D.from e < n = S.from_in e S.there in let p : D.from e ≡ n = sym (S.from_old e S.there) ∙ q ∙ S.to_split in absurd (omega arith))
    | inr L ↦
        let q = to_new_node L.arc L.is_arc (L.ends ∙ S.to_split) in
        T.without (subst (λ z. In e z) (sym L.is) (in_right L.front (here (sym q))))
  ]

  second : IsTransitive E D.count → ⊥
  second T = go T.way T.walk T.without
    where
      go : (es : List ℕ) → Walk E (E.from D.count) es (E.to D.count) → (In D.count es → ⊥) → ⊥
      go es (stay q) out = let h : D.to e < n = S.to_in e S.there in let p : n ≡ D.to e = sym S.from_new ∙ q ∙ S.to_new in absurd (omega arith)
      go es (step {e = a} i t r) out = elim (which a i) [
        | inl o ↦ (let h : D.from a < n = S.from_in a o in let p : D.from a ≡ n = sym (S.from_old a o) ∙ t ∙ S.from_new in absurd (omega arith))
        | inr q ↦ out (here (sym q))
      ]

  pub split_keeps : SplitKeeps D E n e
  split_keeps = record {
    acyclic = acyclic;
    reaches = λ u v i j. (up_reach u v, down_reach u v i j);
    others = λ a o d. (lift_transitive a o d, drop_transitive a o d);
    first = first;
    second = second;
  }
