-- Whether an arc is transitive can be decided.
use Rattle.std.proofs.Common.{◌≡◌, ◌≢◌, ℕ, ◌<◌, List, ◌∷◌, ◌⊎◌, inl, inr, sym, arith}
use Rattle.std.proofs.lemmas.Bool.{cases_eq, cases_lt}
use Rattle.st_ids.specs.Lists.{In, here}
use Rattle.st_ids.specs.Walks.{Arcs, Walk, stay, step, IsAcyclic}
use Rattle.st_ids.specs.Walks.{Reaches as Leads}
use Rattle.st_ids.proofs.Public.{In-cases, IsDecided, some_below, reach_refl, reach_trans, no_loop, on_walk, IsWithin, up}
use Rattle.st_reduce.specs.Transitive.{IsTransitive}

-- ---- reaching and transitive arcs can be decided
module _ (D : Arcs) (n : ℕ) (acyclic : IsAcyclic D) (within : IsWithin D n) where
  goes : (u v : ℕ) → ((e : ℕ) → e < D.count → D.from e ≡ u → Leads D (D.to e) v ⊎ (Leads D (D.to e) v → ⊥)) → IsDecided (λ e. (e < D.count) × (D.from e ≡ u) × Leads D (D.to e) v)
  goes u v ih e = elim (cases_lt e D.count) [
    | inr k ↦ inr (λ h. (let z : e < D.count = h.0 in omega arith))
    | inl k ↦ elim (cases_eq (D.from e) u) [
      | inr m ↦ inr (λ h. m h.1)
      | inl q ↦ elim (ih e k q) [ inl r ↦ inl (k, q, r) | inr m ↦ inr (λ h. m h.2) ]
    ]
  ]

  leads_dec : (u : ℕ) → u < n → (v : ℕ) → Leads D u v ⊎ (Leads D u v → ⊥)
  leads_dec = up D n acyclic within (λ u. (v : ℕ) → Leads D u v ⊎ (Leads D u v → ⊥)) (λ u i ih v. elim (cases_eq u v) [
    | inl q ↦ inl (reach_refl q)
    | inr d ↦ elim (some_below (λ e. (e < D.count) × (D.from e ≡ u) × Leads D (D.to e) v) (goes u v (λ e k q. ih e k q v)) D.count) [
      | inl h ↦ inl (record { way = h.0 ∷ h.2.2.way; walk = step h.2.0 h.2.1 h.2.2.walk })
      | inr none ↦ inr (λ r. not_by u v d none r.way r.walk)
    ]
  ])
    where
      not_by : (u v : ℕ) → u ≢ v → ((e : ℕ) → e < D.count → (e < D.count) × (D.from e ≡ u) × Leads D (D.to e) v → ⊥) → (es : List ℕ) → Walk D u es v → ⊥
      not_by u v d none es (stay q) = d q
      not_by u v d none es (step {e = e} {es = ds} a f w) = none e a (a, f, record { way = ds; walk = w })

  branches : (a : ℕ) → IsDecided (λ e. (e < D.count) × (e ≢ a) × (D.from e ≡ D.from a) × Leads D (D.to e) (D.to a))
  branches a e = elim (cases_lt e D.count) [
    | inr k ↦ inr (λ h. (let z : e < D.count = h.0 in omega arith))
    | inl k ↦ elim (cases_eq e a) [
      | inl q ↦ inr (λ h. h.1 q)
      | inr d ↦ elim (cases_eq (D.from e) (D.from a)) [
        | inr m ↦ inr (λ h. m h.2)
        | inl q ↦ elim (leads_dec (D.to e) (within.to_in e k) (D.to a)) [ inl r ↦ inl (k, d, q, r) | inr m ↦ inr (λ h. m h.3) ]
      ]
    ]
  ]

  pub transitive_dec : (a : ℕ) → a < D.count → IsTransitive D a ⊎ (IsTransitive D a → ⊥)
  transitive_dec a la = elim (some_below (λ e. (e < D.count) × (e ≢ a) × (D.from e ≡ D.from a) × Leads D (D.to e) (D.to a)) (branches a) D.count) [
    | inl h ↦
        let r = h.2.3 in
        inl (record {
          way = h.0 ∷ r.way;
          walk = step h.2.0 h.2.2 r.walk;
          without = λ i. elim (In-cases i) [
            | inl q ↦ h.2.1 (sym q)
            | inr j ↦ no_loop acyclic h.0 h.2.0 (reach_trans (on_walk r.walk j).before (reach_refl (sym h.2.2)))
          ];
        })
    | inr none ↦ inr (λ T. not_by none T.way T.walk T.without)
  ]
    where
      not_by : ((e : ℕ) → e < D.count → (e < D.count) × (e ≢ a) × (D.from e ≡ D.from a) × Leads D (D.to e) (D.to a) → ⊥) → (es : List ℕ) → Walk D (D.from a) es (D.to a) → (In a es → ⊥) → ⊥
      not_by none es (stay q) out = no_loop acyclic a la (reach_refl (sym q))
      not_by none es (step {e = e} {es = ds} k f w) out = none e k (k, (λ q. out (here (sym q))), f, record { way = ds; walk = w })
