-- The edges out of a vertex and the edges into it, from left to right.
use Rattle.std.proofs.Common.{◌≡◌, ◌≢◌, ℕ, ◌+◌, ◌-◌, ◌*◌, ◌<◌, ◌≤◌, Bool, true, false, List, length, get_or, refl, sym, ap, ◌∙◌, inl, inr, arith}
use Rattle.std.proofs.lemmas.Bool.{cases_eq}
use Rattle.st_map.specs.Orbits.{iterate, Permutes, SameOrbit}
use Rattle.st_sides.specs.Runs.{TwoRuns}
use Rattle.st_ids.specs.Ends.{is_out}
use Rattle.st_map.specs.Embedded.{Embedded, edges, darts, at, next, phi, face}
use Rattle.st_test.specs.Planar.{IsPlanarSt}
use Rattle.st_sides.specs.Stretches.{forward, backward}
use Rattle.st_sides.specs.Conditions.{AreOuts, AreIns}
use Rattle.st_map.proofs.Public.{iterate-stays, steps, least_period, root-same, orbit-trans, at-tail, at-head, next-permutes, same_vertex, at-iterate}
use Rattle.st_sides.proofs.RunLemmas.{Runs, from_two, length-forward, length-backward, outs-at, outs-below, outs-each, outs-once, outs-follow, before-first, ins-at, ins-below, ins-each, ins-once, ins-follow, ins-begin}
use Rattle.st_sides.proofs.FaceRuns.{at_st, perm_st, face_runs, vertex_runs, outer_low, outer_high, out_at_s, in_at_t, poles_apart}

-- the ends at v, from the leftmost end out on, or at t from the rightmost end in
pub record Star (g : Embedded) (s t outer v : ℕ) : Type 0 where
  pub x : ℕ
  pub k : ℕ
  pub p : ℕ
  pub x_in : x < darts g
  pub at_x : at g x ≡ v
  pub runs : Runs (next g) x k p
  pub inner : v ≢ s → v ≢ t → (0 < k) × (k < p)
  pub at_s : v ≡ s → (k ≡ p) × (face g x ≡ face g outer)
  pub at_t : v ≡ t → (k ≡ 0) × (face g x ≡ face g outer)

pub star_outs : {g : Embedded} {s t outer v : ℕ} → Star g s t outer v → List ℕ
star_outs {g} w = forward w.k (next g) w.x

pub star_ins : {g : Embedded} {s t outer v : ℕ} → Star g s t outer v → List ℕ
star_ins {g} w = backward (w.p - w.k) (next g) (iterate w.k (next g) w.x)

module _ (g : Embedded) (s t outer : ℕ) (st : IsPlanarSt g s t outer) where
  pub next_st : Permutes (darts g) (next g)
  next_st = next-permutes g st.orders (at_st g s t outer st)

  pub face-same : (d e : ℕ) → d < darts g → SameOrbit (phi g) d e → face g d ≡ face g e
  unfolding face
  face-same d e l so = root-same (darts g) (phi g) (perm_st g s t outer st) d e l so

  -- all ends at one vertex are alike
  pub one_kind : (u : Bool) (x : ℕ) → x < darts g → ((d : ℕ) → d < darts g → at g d ≡ at g x → is_out d ≡ u) → (j : ℕ) → is_out (iterate j (next g) x) ≡ u
  one_kind u x l h j = h (iterate j (next g) x) (iterate-stays (darts g) (next g) next_st j x l) (at-iterate g st.orders (at_st g s t outer st) j x l)

  pub star : (v : ℕ) → v < g.vertices → Star g s t outer v
  star v lv = elim (cases_eq v s) [
    | inl es ↦
        let r : (x : ℕ) × (k : ℕ) × (p : ℕ) × (x < darts g) × SameOrbit (phi g) outer x × TwoRuns (phi g) is_out x k p = face_runs g s t outer st outer st.outer_in in
        let x : ℕ = r.0 in
        let ax : at g x ≡ s = outer_low g s t outer st r.0 r.1 r.2 r.3 r.4 r.5 in
        let q : (p : ℕ) × (0 < p) × (p ≤ darts g) × (iterate p (next g) x ≡ x) × ((j : ℕ) → 0 < j → j < p → iterate j (next g) x ≡ x → ⊥) =
        least_period (darts g) (next g) next_st x r.3 in
        record {
          x = r.0;
          k = q.0;
          p = q.0;
          x_in = r.3;
          at_x = ax ∙ sym es;
          runs = record {
            some = q.1;
            more = omega arith;
            back = q.3;
            apart = q.4;
            first = λ j lj. one_kind true r.0 r.3 (λ d ld e. out_at_s g s t outer st d ld (e ∙ ax)) j;
            then = λ j lj lk. absurd (omega arith);
          };
          inner = λ n _. absurd (n es);
          at_s = λ _. (refl, sym (face-same outer r.0 st.outer_in r.4));
          at_t = λ et. absurd (poles_apart g s t outer st (sym es ∙ et));
        }
    | inr ns ↦ elim (cases_eq v t) [
      | inl et ↦
          let r : (x : ℕ) × (k : ℕ) × (p : ℕ) × (x < darts g) × SameOrbit (phi g) outer x × TwoRuns (phi g) is_out x k p = face_runs g s t outer st outer st.outer_in in
          let x : ℕ = iterate r.1 (phi g) r.0 in
          let lx : x < darts g = iterate-stays (darts g) (phi g) (perm_st g s t outer st) r.1 r.0 r.3 in
          let ax : at g x ≡ t = outer_high g s t outer st r.0 r.1 r.2 r.3 r.4 r.5 in
          let q : (p : ℕ) × (0 < p) × (p ≤ darts g) × (iterate p (next g) x ≡ x) × ((j : ℕ) → 0 < j → j < p → iterate j (next g) x ≡ x → ⊥) =
          least_period (darts g) (next g) next_st x lx in
          record {
            x = x;
            k = 0;
            p = q.0;
            x_in = lx;
            at_x = ax ∙ sym et;
            runs = record {
              some = q.1;
              more = omega arith;
              back = q.3;
              apart = q.4;
              first = λ j lj. absurd (omega arith);
              then = λ j lj lk. one_kind false x lx (λ d ld e. in_at_t g s t outer st d ld (e ∙ ax)) j;
            };
            inner = λ _ n. absurd (n et);
            at_s = λ es. absurd (ns es);
            at_t = λ _. (refl, sym (face-same outer x st.outer_in (orbit-trans (phi g) outer r.0 x r.4 (r.1, refl))));
          }
      | inr nt ↦
          let r : (x : ℕ) × (k : ℕ) × (p : ℕ) × (x < darts g) × (at g x ≡ v) × TwoRuns (next g) is_out x k p = vertex_runs g s t outer st v lv ns nt in
          record {
            x = r.0;
            k = r.1;
            p = r.2;
            x_in = r.3;
            at_x = r.4;
            runs = from_two (next g) r.0 r.1 r.2 r.5;
            inner = λ _ _. (r.5.some, r.5.more);
            at_s = λ es. absurd (ns es);
            at_t = λ et. absurd (nt et);
          }
    ]
  ]

  at_run : (v j : ℕ) (w : Star g s t outer v) → at g (iterate j (next g) w.x) ≡ v
  at_run v j w = at-iterate g st.orders (at_st g s t outer st) j w.x w.x_in ∙ w.at_x

  pub outs_are : (v : ℕ) (w : Star g s t outer v) → AreOuts g s outer v (forward w.k (next g) w.x)
  outs_are v w =
      let es : List ℕ = forward w.k (next g) w.x in
      let n : length es ≡ w.k = length-forward w.k (next g) w.x in
      record {
        has = record {
          only = λ i li.
              let lk : i < w.k = omega arith in (
                outs-below (edges g) (next g) next_st w.x w.k w.p w.x_in w.runs i lk,
                sym (at-tail g (get_or es i 0)) ∙ ap (at g) (outs-at (edges g) (next g) next_st w.x w.k w.p w.x_in w.runs i lk) ∙ at_run v i w,
              );
          each = λ e le te.
              let r : (i : ℕ) × (i < w.k) × (get_or es i 0 ≡ e) = outs-each (edges g) (next g) next_st w.x w.k w.p w.x_in w.runs e
              (same_vertex g st.orders (at_st g s t outer st) w.x (2 * e) w.x_in (omega arith) (w.at_x ∙ sym te ∙ sym (at-tail g e))) in
              (r.0, omega (arith, r.1), r.2);
          once = λ i j ij lj. outs-once (edges g) (next g) next_st w.x w.k w.p w.x_in w.runs i j ij (omega arith);
        };
        follow = λ i li. outs-follow (edges g) (next g) next_st w.x w.k w.p w.x_in w.runs i (omega arith);
        begins = λ ns pos d ld e.
            let back : d ≡ iterate (w.p - 1) (next g) w.x = before-first (edges g) (next g) next_st w.x w.k w.p w.x_in w.runs d ld
            (e ∙ outs-at (edges g) (next g) next_st w.x w.k w.p w.x_in w.runs 0 (omega arith)) in
            elim (cases_eq v t) [
              | inl et ↦ absurd (omega (arith, (w.at_t et).0))
              | inr nt ↦ ap is_out back ∙ w.runs.then (w.p - 1) (omega (arith, (w.inner ns nt).1)) (omega (arith, w.runs.some))
            ];
        begins_s = λ es' pos. ap (face g) (outs-at (edges g) (next g) next_st w.x w.k w.p w.x_in w.runs 0 (omega arith)) ∙ (w.at_s es').1;
      }

  pub ins_are : (v : ℕ) (w : Star g s t outer v) → AreIns g t outer v (backward (w.p - w.k) (next g) (iterate w.k (next g) w.x))
  ins_are v w =
      let es : List ℕ = backward (w.p - w.k) (next g) (iterate w.k (next g) w.x) in
      let n : length es ≡ w.p - w.k = length-backward (w.p - w.k) (next g) (iterate w.k (next g) w.x) in
      record {
        has = record {
          only = λ i li.
              let lk : i < w.p - w.k = omega arith in (
                ins-below (edges g) (next g) next_st w.x w.k w.p w.x_in w.runs i lk,
                sym (at-head g (get_or es i 0)) ∙ ap (at g) (ins-at (edges g) (next g) next_st w.x w.k w.p w.x_in w.runs i lk) ∙ at_run v (w.p - 1 - i) w,
              );
          each = λ e le te.
              let r : (i : ℕ) × (i < w.p - w.k) × (get_or es i 0 ≡ e) = ins-each (edges g) (next g) next_st w.x w.k w.p w.x_in w.runs e
              (same_vertex g st.orders (at_st g s t outer st) w.x (2 * e + 1) w.x_in (omega arith) (w.at_x ∙ sym te ∙ sym (at-head g e))) in
              (r.0, omega (arith, r.1), r.2);
          once = λ i j ij lj. ins-once (edges g) (next g) next_st w.x w.k w.p w.x_in w.runs i j ij (omega arith);
        };
        follow = λ i li. ins-follow (edges g) (next g) next_st w.x w.k w.p w.x_in w.runs i (omega arith);
        begins = λ nt pos.
            elim (cases_eq v s) [
              | inl es' ↦ absurd (omega (arith, (w.at_s es').0))
              | inr ns ↦ ap is_out (ins-begin (edges g) (next g) next_st w.x w.k w.p w.x_in w.runs (omega arith)) ∙ w.runs.first 0 (w.inner ns nt).0
            ];
        ends_t = λ et pos.
            let z : w.p - 1 - (length es - 1) ≡ 0 = omega (arith, (w.at_t et).0) in
            ap (face g) (ins-at (edges g) (next g) next_st w.x w.k w.p w.x_in w.runs (length es - 1) (omega arith) ∙ steps (next g) w.x (w.p - 1 - (length es - 1)) 0 z)
            ∙ (w.at_t et).1;
      }
