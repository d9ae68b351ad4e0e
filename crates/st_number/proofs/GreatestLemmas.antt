-- The greatest weights of walks from one node, where there is no cycle.
use Rattle.std.proofs.Common.{ℕ, zero, suc, List, [], ◌∷◌, ◌++◌, ◌≡◌, ◌≢◌, ◌<◌, ◌≤◌, ◌+◌, ◌⊎◌, inl, inr, refl, sym, ap, ◌∙◌, subst, arith}
use Rattle.std.proofs.lemmas.Bool.{cases_eq, cases_lt}
use Rattle.st_ids.specs.Lists.{In, here}
use Rattle.st_ids.specs.Walks.{Arcs, Walk, stay, step, IsAcyclic}
use Rattle.st_ids.proofs.Public.{walk_from, walk_to, walk_append, IsWithin, down}
use Rattle.st_sides.specs.Sides.{SidesValue, edge_count, face_left, face_right, left_path, primal, dual, IsInner, IsSides}
use Rattle.st_sides.proofs.Public.{from_source, within, dual_acyclic}
use Rattle.st_number.specs.Greatest.{weigh, IsGreatest, IsPass, GreatestLaw, FiniteLaw, HeightsLaw}

pub weigh-append : (w : ℕ → ℕ) (xs ys : List ℕ) → weigh w (xs ++ ys) ≡ weigh w xs + weigh w ys
weigh-append w [] ys = omega arith
weigh-append w (x ∷ xs) ys = let h : weigh w (xs ++ ys) ≡ weigh w xs + weigh w ys = weigh-append w xs ys in omega arith

-- the last arc of a walk
pub record LastArc (D : Arcs) (u : ℕ) (es : List ℕ) (v : ℕ) : Type 0 where
  pub front : List ℕ
  pub arc : ℕ
  pub is : es ≡ front ++ arc ∷ []
  pub is_arc : arc < D.count
  pub before : Walk D u front (D.from arc)
  pub ends : D.to arc ≡ v

pub last_of : (D : Arcs) (v : ℕ) (es : List ℕ) (u e : ℕ) → Walk D u (e ∷ es) v → LastArc D u (e ∷ es) v
last_of D v [] u e (step a t (stay q)) = record { front = []; arc = e; is = refl; is_arc = a; before = stay (sym t); ends = q }
last_of D v (x ∷ es) u e (step a t r) =
    let h = last_of D v es (D.to e) x r in
    record { front = e ∷ h.front; arc = h.arc; is = ap (λ z. e ∷ z) h.is; is_arc = h.is_arc; before = step a t h.before; ends = h.ends }

pub last_arc : (D : Arcs) (u v : ℕ) (es : List ℕ) → Walk D u es v → (u ≡ v) ⊎ LastArc D u es v
last_arc D u v [] (stay q) = inl q
last_arc D u v (e ∷ es) k = inr (last_of D v es u e k)

module _ (D : Arcs) (n : ℕ) (w : ℕ → ℕ) (a : ℕ) (acyclic : IsAcyclic D) (inside : IsWithin D n) (has_in : (v : ℕ) → v < n → v ≢ a → (e : ℕ) × (e < D.count) × (D.to e ≡ v)) where
  greatest_one : (v j k : ℕ) → IsGreatest D w a v j → IsGreatest D w a v k → j ≡ k
  greatest_one v j k A B =
      let h : weigh w A.way ≤ k = B.most A.way A.walk in
      let m : weigh w B.way ≤ j = A.most B.way B.walk in
      let p : weigh w A.way ≡ j = A.weighs in
      let q : weigh w B.way ≡ k = B.weighs in
      omega arith

  greatest_grows : (e : ℕ) → e < D.count → (j k : ℕ) → IsGreatest D w a (D.from e) j → IsGreatest D w a (D.to e) k → j + w e ≤ k
  greatest_grows e i j k A B =
      let h : weigh w (A.way ++ e ∷ []) ≤ k = B.most (A.way ++ e ∷ []) (walk_append A.walk (step i refl (stay refl))) in
      let q : weigh w (A.way ++ e ∷ []) ≡ weigh w A.way + (w e + 0) = weigh-append w A.way (e ∷ []) in
      let p : weigh w A.way ≡ j = A.weighs in
      omega arith

  at_start : IsGreatest D w a a 0
  at_start = record { way = []; walk = stay refl; weighs = refl; most = λ es k. loop es k }
    where
      loop : (es : List ℕ) → Walk D a es a → weigh w es ≤ 0
      loop [] k = omega arith
      loop (e ∷ es) k = absurd (acyclic a e es k)

  -- the best of the arcs below m that end at v, under numbers of the nodes where they begin
  pub record Best (v m : ℕ) : Type 0 where
    pub arc : ℕ
    pub is_arc : arc < D.count
    pub ends : D.to arc ≡ v
    pub value : ℕ
    pub greatest : IsGreatest D w a (D.from arc) value
    pub best : (e : ℕ) → e < m → e < D.count → D.to e ≡ v → (k : ℕ) → IsGreatest D w a (D.from e) k → k + w e ≤ value + w arc

  best : (v m : ℕ) → ((e : ℕ) → e < D.count → D.to e ≡ v → (k : ℕ) × IsGreatest D w a (D.from e) k) → ((e : ℕ) → e < m → e < D.count → D.to e ≡ v → ⊥) ⊎ Best v m
  best v zero ih = inl (λ e l i q. absurd (omega arith))
  best v (suc m) ih = elim (cases_lt m D.count) [
    | inr out ↦ elim (best v m ih) [
      | inl none ↦ inl (λ e l i q. none e (omega arith) i q)
      | inr B ↦ inr (record { arc = B.arc; is_arc = B.is_arc; ends = B.ends; value = B.value; greatest = B.greatest; best = λ e l i q k G. B.best e (omega arith) i q k G })
    ]
    | inl i ↦ elim (cases_eq (D.to m) v) [
      | inr other ↦ elim (best v m ih) [
        | inl none ↦ inl (λ e l i q. elim (cases_eq e m) [ inl p ↦ other (ap D.to (sym p) ∙ q) | inr d ↦ none e (omega arith) i q ])
        | inr B ↦ inr (record {
          arc = B.arc;
          is_arc = B.is_arc;
          ends = B.ends;
          value = B.value;
          greatest = B.greatest;
          best = λ e l i q k G. elim (cases_eq e m) [ inl p ↦ absurd (other (ap D.to (sym p) ∙ q)) | inr d ↦ B.best e (omega arith) i q k G ];
        })
      ]
      | inl q ↦
          let M = ih m i q in
          elim (best v m ih) [
            | inl none ↦ inr (record {
              arc = m;
              is_arc = i;
              ends = q;
              value = M.0;
              greatest = M.1;
              best = λ e l i' q' k G. elim (cases_eq e m) [
                | inl p ↦ same e m p k M.0 G M.1
                | inr d ↦ absurd (none e (omega arith) i' q')
              ];
            })
            | inr B ↦ elim (cases_lt (B.value + w B.arc) (M.0 + w m)) [
              | inl more ↦ inr (record {
                arc = m;
                is_arc = i;
                ends = q;
                value = M.0;
                greatest = M.1;
                best = λ e l i' q' k G. elim (cases_eq e m) [
                  | inl p ↦ same e m p k M.0 G M.1
                  | inr d ↦ (let h : k + w e ≤ B.value + w B.arc = B.best e (omega arith) i' q' k G in omega arith)
                ];
              })
              | inr less ↦ inr (record {
                arc = B.arc;
                is_arc = B.is_arc;
                ends = B.ends;
                value = B.value;
                greatest = B.greatest;
                best = λ e l i' q' k G. elim (cases_eq e m) [
                  | inl p ↦ (let h : k + w e ≤ M.0 + w m = same e m p k M.0 G M.1 in omega arith)
                  | inr d ↦ B.best e (omega arith) i' q' k G
                ];
              })
            ]
          ]
    ]
  ]
    where
      same : (e m : ℕ) → e ≡ m → (k j : ℕ) → IsGreatest D w a (D.from e) k → IsGreatest D w a (D.from m) j → k + w e ≤ j + w m
      same e m p k j G H =
          let h : k ≡ j = greatest_one (D.from m) k j (subst (λ z. IsGreatest D w a (D.from z) k) p G) H in
          let r : w e ≡ w m = ap w p in
          omega arith

  greatest_some : (v : ℕ) → v < n → (k : ℕ) × IsGreatest D w a v k
  greatest_some = down D n acyclic inside (λ v. (k : ℕ) × IsGreatest D w a v k) (λ v i ih. elim (cases_eq v a) [
    | inl q ↦ subst (λ z. (k : ℕ) × IsGreatest D w a z k) (sym q) (0, at_start)
    | inr d ↦ elim (best v D.count ih) [
      | inl none ↦ (let h = has_in v i d in absurd (none h.0 h.1 h.1 h.2))
      | inr B ↦ (
        B.value + w B.arc,
        record {
          way = B.greatest.way ++ B.arc ∷ [];
          walk = walk_append B.greatest.walk (step B.is_arc refl (stay B.ends));
          weighs =
              let p : weigh w (B.greatest.way ++ B.arc ∷ []) ≡ weigh w B.greatest.way + (w B.arc + 0) = weigh-append w B.greatest.way (B.arc ∷ []) in
              let q : weigh w B.greatest.way ≡ B.value = B.greatest.weighs in
              omega arith;
          most = λ es k. elim (last_arc D a v es k) [
            | inl q ↦ absurd (d (sym q))
            | inr h ↦
                let G = ih h.arc h.is_arc h.ends in
                let m : G.0 + w h.arc ≤ B.value + w B.arc = B.best h.arc h.is_arc h.is_arc h.ends G.0 G.1 in
                let l : weigh w h.front ≤ G.0 = G.1.most h.front h.before in
                let p : weigh w es ≡ weigh w (h.front ++ h.arc ∷ []) = ap (weigh w) h.is in
                let q : weigh w (h.front ++ h.arc ∷ []) ≡ weigh w h.front + (w h.arc + 0) = weigh-append w h.front (h.arc ∷ []) in
                omega arith
          ];
        },
      )
    ]
  ])

  pass_most : (h : ℕ → ℕ) → IsPass D n w a h → {u v : ℕ} {es : List ℕ} → Walk D u es v → h u + weigh w es ≤ h v
  pass_most h P (stay q) = let p = ap h q in omega arith
  pass_most h P (step {e = e} i t r) =
      let k = pass_most h P r in
      let l : h (D.from e) + w e ≤ h (D.to e) = P.enough e i in
      let p = ap h t in
      omega arith

  pass_way : (h : ℕ → ℕ) → IsPass D n w a h → (v : ℕ) → v < n → (es : List ℕ) × Walk D a es v × (weigh w es ≡ h v)
  pass_way h P = down D n acyclic inside (λ v. (es : List ℕ) × Walk D a es v × (weigh w es ≡ h v)) (λ v i ih. elim (cases_eq v a) [
    | inl q ↦ ([], stay (sym q), (let p : h v ≡ h a = ap h q in let b : h a ≡ 0 = P.begins in omega arith))
    | inr d ↦
        let B = P.brought v i d in
        let W = ih B.0 B.1 B.2 in
        let p : weigh w (W.0 ++ B.0 ∷ []) ≡ weigh w W.0 + (w B.0 + 0) = weigh-append w W.0 (B.0 ∷ []) in
        let q : weigh w W.0 ≡ h (D.from B.0) = W.2 in
        let r : h v ≡ h (D.from B.0) + w B.0 = B.3 in
        (W.0 ++ B.0 ∷ [], walk_append W.1 (step B.1 refl (stay B.2)), omega arith)
  ])

  pub greatest_law : GreatestLaw D n w a
  greatest_law = record {
    some = greatest_some;
    one = greatest_one;
    grows = greatest_grows;
    by_pass = λ h P v i.
        let W = pass_way h P v i in
        record {
          way = W.0;
          walk = W.1;
          weighs = W.2;
          most = λ es k. (let m = pass_most h P k in let b : h a ≡ 0 = P.begins in omega arith);
        };
  }

module _ (g : SidesValue) (S : IsSides g) where
  pub poles_differ : g.source ≢ g.sink
  poles_differ q = elim (cases_eq g.source 0) [
    | inl z ↦ other 1 (omega arith) (omega arith)
    | inr z ↦ other 0 (omega arith) (omega arith)
  ]
    where
      two : 2 ≤ g.vertices
      two = S.two_vertices

      other : (v : ℕ) → v < g.vertices → (g.source ≡ v → ⊥) → ⊥
      other v i d = let r = from_source g S v i in go v r.way r.walk d
        where
          go : (v : ℕ) (es : List ℕ) → Walk (primal g) g.source es v → (g.source ≡ v → ⊥) → ⊥
          go v es (stay p) d = d p
          go v es (step {e = e} a t r) d = S.sink_last e a (t ∙ q)

  pub dual_within : IsWithin (dual g) (g.t_star + 1)
  dual_within = record {
    from_in = λ e a. (let h : face_left g e < g.t_star = S.left_before e a in omega arith);
    to_in = λ e a. (let h : face_right g e ≤ g.t_star = S.right_within e a in omega arith);
  }

  -- each dual node but s* is the right of an edge
  pub dual_has_in : (f : ℕ) → f < g.t_star + 1 → f ≢ 0 → (e : ℕ) × (e < edge_count g) × (face_right g e ≡ f)
  dual_has_in f l d = elim (cases_eq f g.t_star) [
    | inr m ↦
        let inner : IsInner g f = record { not_s = omega arith; not_t = omega arith } in
        let some = S.left_path_some f inner in
        let k = (S.left_path_are f (omega arith) (omega arith)).only some.0 some.1 in
        (some.0, k.0, k.1)
    | inl q ↦ subst (λ z. (e : ℕ) × (e < edge_count g) × (face_right g e ≡ z)) (sym q) (go (left_path g g.t_star) (walk_from S.low_t (walk_to S.high_t (S.left_path_walk g.t_star S.has_t (omega arith)))) (λ e i. (S.left_path_are g.t_star S.has_t (omega arith)).only e i))
  ]
    where
      go : (P : List ℕ) → Walk (primal g) g.source P g.sink → ((e : ℕ) → In e P → (e < edge_count g) × (face_right g e ≡ g.t_star)) → (e : ℕ) × (e < edge_count g) × (face_right g e ≡ g.t_star)
      go P (stay q) k = absurd (poles_differ q)
      go P (step {e = e} a t r) k = (e, a, (k e (here refl)).1)

  pub heights_law : HeightsLaw g
  heights_law = record {
    heights = λ w. greatest_law (primal g) g.vertices w g.source S.acyclic (within g S) S.has_in;
    columns = greatest_law (dual g) (g.t_star + 1) (λ _. 1) 0 (dual_acyclic g S) dual_within dual_has_in;
  }

pub finite_law : FiniteLaw
finite_law D n w a acyclic r = greatest_law D n w a acyclic (record { from_in = r.from_in; to_in = r.to_in }) r.has_in
