-- An orbit on which a test changes once each way is two runs.
use Rattle.std.proofs.Common.{◌≡◌, ℕ, zero, suc, ◌+◌, ◌-◌, ◌<◌, ◌≤◌, Bool, true, false, not, refl, sym, ap, ◌∙◌, arith}
use Rattle.std.proofs.lemmas.Bool.{both_ways, not-true, not-false, false_from_ne_true}
use Rattle.st_map.specs.Orbits.{iterate, Permutes, SameOrbit}
use Rattle.st_sides.specs.Runs.{TwoRuns}
use Rattle.st_map.proofs.Public.{steps, iterate-add, iterate-stays, least_period, first_place, change, orbit-trans, orbit-step}

module _ (n : ℕ) (f : ℕ → ℕ) (perm : Permutes n f) where
  -- Two runs. Where only one step c of an orbit leads from false to true, the orbit from f c on is a run of true and
  -- then a run of false, each member once.
  pub two_runs : (b : ℕ → Bool) (c : ℕ) → c < n → b c ≡ false → b (f c) ≡ true
      → ((c' : ℕ) → SameOrbit f c c' → b c' ≡ false → b (f c') ≡ true → c' ≡ c)
      → (k : ℕ) × (p : ℕ) × TwoRuns f b (f c) k p
  two_runs b c l bc bf one =
      let x : ℕ = f c in
      let lx : x < n = perm.stays c l in
      let r : (p : ℕ) × (0 < p) × (p ≤ n) × (iterate p f x ≡ x) × ((j : ℕ) → 0 < j → j < p → iterate j f x ≡ x → ⊥) = least_period n f perm x lx in
      let at : suc (r.0 - 1) ≡ r.0 = omega (arith, r.1) in
      let last : iterate (r.0 - 1) f x ≡ c =
      perm.apart (iterate (r.0 - 1) f x) c (iterate-stays n f perm (r.0 - 1) x lx) l (steps f x (suc (r.0 - 1)) r.0 at ∙ r.3) in
      let q : ℕ → Bool = λ j. not (b (iterate j f x)) in
      let w : (k : ℕ) × (k ≤ r.0 - 1) × (q k ≡ true) × ((j : ℕ) → j < k → q j ≡ false) =
      first_place q (r.0 - 1) (ap (λ y. not (b y)) last ∙ ap not bc) in (
        w.0,
        r.0,
        record {
          some = positive b x w.0 bf w.2;
          more = omega (arith, w.1, r.1);
          back = r.3;
          apart = r.4;
          first = λ j lj. not-false (b (iterate j f x)) (w.3 j lj);
          then = λ j lj lp. false_from_ne_true (b (iterate j f x)) (λ e.
              let gap : (j - w.0) + w.0 ≡ j = omega arith in
              let g : (i : ℕ) × (i < j - w.0) × (b (iterate i f (iterate w.0 f x)) ≡ false) × (b (iterate (suc i) f (iterate w.0 f x)) ≡ true) =
              change f b false (j - w.0) (iterate w.0 f x) (not-true (b (iterate w.0 f x)) w.2)
              (ap b (sym (iterate-add (j - w.0) w.0 f x) ∙ steps f x ((j - w.0) + w.0) j gap) ∙ e) in
              let here : iterate (suc g.0) f (iterate w.0 f x) ≡ iterate (suc g.0 + w.0) f x = sym (iterate-add (suc g.0) w.0 f x) in
              let start : SameOrbit f c (iterate g.0 f (iterate w.0 f x)) =
              orbit-trans f c (iterate w.0 f x) (iterate g.0 f (iterate w.0 f x))
              (orbit-trans f c x (iterate w.0 f x) (orbit-step f c) (w.0, refl)) (g.0, refl) in
              let same : iterate g.0 f (iterate w.0 f x) ≡ c = one (iterate g.0 f (iterate w.0 f x)) start g.2 g.3 in
              r.4 (suc g.0 + w.0) (omega arith) (omega (arith, g.1)) (sym here ∙ ap f same));
        },
      )
    where
      positive : (b : ℕ → Bool) (x k : ℕ) → b x ≡ true → not (b (iterate k f x)) ≡ true → 0 < k
      positive b x zero e h = absurd (both_ways (b x) (not-true (b x) h) e)
      positive b x (suc k) e h = omega arith
