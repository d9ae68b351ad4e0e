-- Each planar st-graph has sides.
use Rattle.std.proofs.Common.{◌≡◌, ◌≢◌, ℕ, suc, ◌+◌, ◌-◌, ◌*◌, ◌<◌, ◌≤◌, ◌⊎◌, List, [], refl, sym, ◌∙◌, inl, inr, arith}
use Rattle.std.proofs.lemmas.Bool.{cases_lt, cases_eq}
use Rattle.st_map.specs.Orbits.{iterate, SameOrbit}
use Rattle.st_sides.specs.Runs.{TwoRuns}
use Rattle.st_ids.specs.Ends.{is_out}
use Rattle.st_map.specs.Embedded.{Embedded, darts, at, next, phi, face, faces}
use Rattle.st_test.specs.Planar.{IsPlanarSt}
use Rattle.st_sides.specs.Stretches.{forward, backward}
use Rattle.st_sides.specs.Conditions.{AreOuts, AreIns, IsSidePath, AreSides, left_face, right_face, node}
use Rattle.st_sides.specs.NodeSides.{NodeSides}
use Rattle.st_sides.proofs.FaceRuns.{face_runs, outer_low, outer_high}
use Rattle.st_sides.proofs.StarLemmas.{Star, star, outs_are, ins_are}
use Rattle.st_sides.proofs.NodeLemmas.{faces-positive, node-met, node-same, left_face-outer, left_face-inner, right_face-outer, right_face-inner, left_face-0, left_face-at, right_face-last, right_face-at}
use Rattle.st_sides.proofs.PathLemmas.{right_path_of, left_path_of, side_path_like}

-- what is there for each number below n is there as a function
pub choose : {A : Type 0} (n : ℕ) (P : ℕ → A → Type 0) (other : A) → ((k : ℕ) → k < n → (a : A) × P k a) → (h : ℕ → A) × ((k : ℕ) → k < n → P k (h k))
choose {A} n P other c = (λ k. pick k (cases_lt k n), λ k l. picked k l (cases_lt k n))
  where
    pick : (k : ℕ) → ((k < n) ⊎ (n ≤ k)) → A
    pick k (inl l) = (c k l).0
    pick k (inr m) = other

    picked : (k : ℕ) → k < n → (w : (k < n) ⊎ (n ≤ k)) → P k (pick k w)
    picked k l (inl m) = (c k m).1
    picked k l (inr m) = absurd (omega arith)

module _ (g : Embedded) (s t outer : ℕ) (st : IsPlanarSt g s t outer) where
  pub node_sides : (f : ℕ) → f ≤ faces g → (a : ℕ × ℕ × List ℕ × List ℕ) × NodeSides g s t outer f a.0 a.1 a.2 a.3
  node_sides f lf = elim (cases_eq f 0) [
    | inl z ↦
        let r : (x : ℕ) × (k : ℕ) × (p : ℕ) × (x < darts g) × SameOrbit (phi g) outer x × TwoRuns (phi g) is_out x k p = face_runs g s t outer st outer st.outer_in in
        let path : IsSidePath g (λ e. face g (2 * e) ≡ face g outer) (at g r.0) (at g (iterate r.1 (phi g) r.0)) (forward r.1 (phi g) r.0) =
        right_path_of g s t outer st outer r.0 r.1 r.2 st.outer_in r.3 r.4 r.5 in (
          (at g r.0, at g (iterate r.1 (phi g) r.0), [], forward r.1 (phi g) r.0),
          record {
            left_is = λ pos. absurd (omega arith);
            right_is = λ l. side_path_like g (λ e. face g (2 * e) ≡ face g outer) (λ e. left_face g outer e ≡ f) (at g r.0) (at g (iterate r.1 (phi g) r.0)) (forward r.1 (phi g) r.0)
                (λ e le h. left_face-outer g s t outer st e h ∙ sym z) (λ e le h. left_face-0 g s t outer st e (h ∙ z)) path;
            left_none = λ _. refl;
            right_none = λ q. absurd (omega (arith, faces-positive g s t outer st, q, z));
            first = λ _. (outer_low g s t outer st r.0 r.1 r.2 r.3 r.4 r.5, outer_high g s t outer st r.0 r.1 r.2 r.3 r.4 r.5);
            last = λ _. (outer_low g s t outer st r.0 r.1 r.2 r.3 r.4 r.5, outer_high g s t outer st r.0 r.1 r.2 r.3 r.4 r.5);
          },
        )
    | inr nz ↦ elim (cases_eq f (faces g)) [
      | inl z ↦
          let r : (x : ℕ) × (k : ℕ) × (p : ℕ) × (x < darts g) × SameOrbit (phi g) outer x × TwoRuns (phi g) is_out x k p = face_runs g s t outer st outer st.outer_in in
          let path : IsSidePath g (λ e. face g (2 * e + 1) ≡ face g outer) (at g r.0) (at g (iterate r.1 (phi g) r.0)) (backward (r.2 - r.1) (phi g) (iterate r.1 (phi g) r.0)) =
          left_path_of g s t outer st outer r.0 r.1 r.2 st.outer_in r.3 r.4 r.5 in (
            (at g r.0, at g (iterate r.1 (phi g) r.0), backward (r.2 - r.1) (phi g) (iterate r.1 (phi g) r.0), []),
            record {
              left_is = λ pos. side_path_like g (λ e. face g (2 * e + 1) ≡ face g outer) (λ e. right_face g outer e ≡ f) (at g r.0) (at g (iterate r.1 (phi g) r.0)) (backward (r.2 - r.1) (phi g) (iterate r.1 (phi g) r.0))
                  (λ e le h. right_face-outer g s t outer st e h ∙ sym z) (λ e le h. right_face-last g s t outer st e le (h ∙ z)) path;
              right_is = λ l. absurd (omega arith);
              left_none = λ q. absurd (nz q);
              right_none = λ _. refl;
              first = λ _. (outer_low g s t outer st r.0 r.1 r.2 r.3 r.4 r.5, outer_high g s t outer st r.0 r.1 r.2 r.3 r.4 r.5);
              last = λ _. (outer_low g s t outer st r.0 r.1 r.2 r.3 r.4 r.5, outer_high g s t outer st r.0 r.1 r.2 r.3 r.4 r.5);
            },
          )
      | inr nf ↦
          let d : (d : ℕ) × (d < darts g) × (face g d ≢ face g outer) × (node g outer d ≡ f) = node-met g s t outer st f (omega arith) (omega arith) in
          let r : (x : ℕ) × (k : ℕ) × (p : ℕ) × (x < darts g) × SameOrbit (phi g) d.0 x × TwoRuns (phi g) is_out x k p = face_runs g s t outer st d.0 d.1 in
          let right : IsSidePath g (λ e. face g (2 * e) ≡ face g d.0) (at g r.0) (at g (iterate r.1 (phi g) r.0)) (forward r.1 (phi g) r.0) =
          right_path_of g s t outer st d.0 r.0 r.1 r.2 d.1 r.3 r.4 r.5 in
          let left : IsSidePath g (λ e. face g (2 * e + 1) ≡ face g d.0) (at g r.0) (at g (iterate r.1 (phi g) r.0)) (backward (r.2 - r.1) (phi g) (iterate r.1 (phi g) r.0)) =
          left_path_of g s t outer st d.0 r.0 r.1 r.2 d.1 r.3 r.4 r.5 in (
            (at g r.0, at g (iterate r.1 (phi g) r.0), backward (r.2 - r.1) (phi g) (iterate r.1 (phi g) r.0), forward r.1 (phi g) r.0),
            record {
              left_is = λ pos. side_path_like g (λ e. face g (2 * e + 1) ≡ face g d.0) (λ e. right_face g outer e ≡ f) (at g r.0) (at g (iterate r.1 (phi g) r.0)) (backward (r.2 - r.1) (phi g) (iterate r.1 (phi g) r.0))
                  (λ e le h. right_face-inner g s t outer st e (λ q. d.2 (sym h ∙ q)) ∙ node-same g s t outer st (2 * e + 1) d.0 h ∙ d.3)
                  (λ e le h. right_face-at g s t outer st e d.0 le d.1 d.2 (h ∙ sym d.3)) left;
              right_is = λ l. side_path_like g (λ e. face g (2 * e) ≡ face g d.0) (λ e. left_face g outer e ≡ f) (at g r.0) (at g (iterate r.1 (phi g) r.0)) (forward r.1 (phi g) r.0)
                  (λ e le h. left_face-inner g s t outer st e (λ q. d.2 (sym h ∙ q)) ∙ node-same g s t outer st (2 * e) d.0 h ∙ d.3)
                  (λ e le h. left_face-at g s t outer st e d.0 le d.1 d.2 (h ∙ sym d.3)) right;
              left_none = λ q. absurd (nz q);
              right_none = λ q. absurd (nf q);
              first = λ q. absurd (nz q);
              last = λ q. absurd (nf q);
            },
          )
    ]
  ]

  pub sides_exist : (outs : ℕ → List ℕ) × (ins : ℕ → List ℕ) × (low : ℕ → ℕ) × (high : ℕ → ℕ) × (left : ℕ → List ℕ) × (right : ℕ → List ℕ)
      × AreSides g s t outer outs ins low high left right
  sides_exist =
      let o : (h : ℕ → List ℕ) × ((v : ℕ) → v < g.vertices → AreOuts g s outer v (h v)) =
      choose g.vertices (λ v es. AreOuts g s outer v es) [] (λ v l. let w : Star g s t outer v = star g s t outer st v l in
      (forward w.k (next g) w.x, outs_are g s t outer st v w)) in
      let i : (h : ℕ → List ℕ) × ((v : ℕ) → v < g.vertices → AreIns g t outer v (h v)) =
      choose g.vertices (λ v es. AreIns g t outer v es) [] (λ v l. let w : Star g s t outer v = star g s t outer st v l in
      (backward (w.p - w.k) (next g) (iterate w.k (next g) w.x), ins_are g s t outer st v w)) in
      let n : (h : ℕ → ℕ × ℕ × List ℕ × List ℕ) × ((f : ℕ) → f < suc (faces g) → NodeSides g s t outer f (h f).0 (h f).1 (h f).2 (h f).3) =
      choose (suc (faces g)) (λ f a. NodeSides g s t outer f a.0 a.1 a.2 a.3) (0, 0, [], []) (λ f l. node_sides f (omega arith)) in (
        o.0,
        i.0,
        λ f. (n.0 f).0,
        λ f. (n.0 f).1,
        λ f. (n.0 f).2,
        λ f. (n.0 f).3,
        record {
          outs_are = o.1;
          ins_are = i.1;
          left_is = λ f pos l. (n.1 f (omega arith)).left_is pos;
          right_is = λ f l. (n.1 f (omega arith)).right_is l;
          left_none = (n.1 0 (omega arith)).left_none refl;
          right_none = (n.1 (faces g) (omega arith)).right_none refl;
          low_first = ((n.1 0 (omega arith)).first refl).0;
          high_first = ((n.1 0 (omega arith)).first refl).1;
          low_last = ((n.1 (faces g) (omega arith)).last refl).0;
          high_last = ((n.1 (faces g) (omega arith)).last refl).1;
        },
      )
