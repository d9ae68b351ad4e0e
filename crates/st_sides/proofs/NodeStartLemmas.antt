-- The nodes by the numbers of their faces, and their paths from where their faces begin.
use Rattle.std.proofs.Common.{◌≡◌, ◌≢◌, ℕ, ◌+◌, ◌-◌, ◌*◌, ◌<◌, ◌≤◌, ◌⊎◌, inl, inr, true, false, eqb, cond, ◌||◌, not, List, [], get_or, refl, sym, ap, ◌∙◌, subst, arith}
use Rattle.std.specs.Prelude.{nat_lt}
use Rattle.std.proofs.lemmas.Bool.{cases_eq, cases_order, cases_Bool, eq-eqb, ne_eqb, cond-true, cond-false, lt-ltb, le-ltb, or_left, or_right, or_from, and_from, and_left, and_right, not_from_true, not_from_false}
use Rattle.st_ids.specs.Ends.{is_out}
use Rattle.st_map.specs.Counting.{bit, count_below}
use Rattle.st_map.specs.Orbits.{iterate, Permutes, SameOrbit}
use Rattle.st_map.specs.Embedded.{Embedded, at, darts, edges, face, faces, phi}
use Rattle.st_map.proofs.Public.{total-same, count_less}
use Rattle.st_test.specs.FaceNumbers.{is_least, orbit_number}
use Rattle.st_test.specs.Planar.{IsPlanarSt}
use Rattle.st_sides.specs.Conditions.{IsSidePath, is_inner_face, node, left_face, right_face}
use Rattle.st_sides.specs.Filled.{AreStarts, Start, node_number, label_of}
use Rattle.st_sides.specs.NodeSides.{NodeSides, NodeBegins}
use Rattle.st_sides.specs.Rounds.{AreParts, HasParts, IsRun}
use Rattle.st_sides.specs.Runs.{TwoRuns}
use Rattle.st_sides.specs.Stretches.{forward, backward}
use Rattle.st_sides.proofs.FaceRuns.{perm_st, face_runs, face_runs_from, outer_low, outer_high}
use Rattle.st_sides.proofs.NodeLemmas.{count-over, face-face, node-met, node-same, same_orbit, left_face-outer, left_face-inner, right_face-outer, right_face-inner, left_face-0, left_face-at, right_face-last, right_face-at}
use Rattle.st_sides.proofs.PathLemmas.{right_path_of, left_path_of, side_path_like}
use Rattle.st_sides.proofs.RunLemmas.{Runs, from_two}
use Rattle.st_sides.proofs.RoundLemmas.{outs_run, ins_run, has_parts}
use Rattle.st_sides.proofs.StarLemmas.{face-same}
use Rattle.st_sides.proofs.StartLemmas.{number_face, face_number, number_below, last_in}

module _ (g : Embedded) (s t outer : ℕ) (st : IsPlanarSt g s t outer) where
  kept : (d : ℕ) → (d ≡ face g outer → ⊥) → is_least g d ≡ is_inner_face g outer d
  kept d ne = elim (cases_Bool (eqb (face g d) d)) [
    | inl y ↦ y ∙ sym (and_from (eqb (face g d) d) (not (eqb (face g outer) d)) y (not_from_false (eqb (face g outer) d) (ne_eqb (face g outer) d (λ e. ne (sym e)))))
    | inr f ↦ f ∙ sym (and_left (eqb (face g d) d) (not (eqb (face g outer) d)) f)
  ]

  root_of : (d : ℕ) → d < darts g → is_least g (face g d) ≡ true
  root_of d l = eq-eqb (face g (face g d)) (face g d) (face-face g s t outer st d l)

  counted_before : (k : ℕ) → k ≤ face g outer → count_below k (is_least g) ≡ count_below k (is_inner_face g outer)
  counted_before k l = total-same k (λ d. bit (is_least g d)) (λ d. bit (is_inner_face g outer d)) (λ d ld. ap bit (kept d (λ e. omega arith)))

  counted_after : (k : ℕ) → face g outer < k → count_below k (is_least g) ≡ count_below k (is_inner_face g outer) + 1
  counted_after k l =
      count_less k (is_least g) (is_inner_face g outer) (face g outer) l (root_of outer st.outer_in)
      (and_right (eqb (face g (face g outer)) (face g outer)) (not (eqb (face g outer) (face g outer))) (not_from_true (eqb (face g outer) (face g outer)) (eq-eqb (face g outer) (face g outer) refl)))
      kept

  -- the number of an inner face and its node
  pub node_label : (d : ℕ) → d < darts g → face g d ≢ face g outer
      → ((orbit_number g d < orbit_number g outer) × (node g outer d ≡ orbit_number g d + 1)) ⊎ ((orbit_number g outer < orbit_number g d) × (node g outer d ≡ orbit_number g d))
  unfolding node orbit_number
  node_label d l ne = elim (cases_order (face g d) (face g outer)) [
    | inl q ↦ absurd (ne q)
    | inr o ↦ elim o [
      | inl a ↦ inl (count-over (face g d) (face g outer) (is_least g) a (root_of d l), omega (arith, counted_before (face g d) (omega arith)))
      | inr a ↦ inr (count-over (face g outer) (face g d) (is_least g) a (root_of outer st.outer_in), omega (arith, counted_after (face g d) a))
    ]
  ]

  -- each node is the node of a face with its label
  pub label_met : (f : ℕ) → f ≤ faces g → (d : ℕ) × (d < darts g) × (orbit_number g d ≡ label_of f (orbit_number g outer) (faces g))
      × ((f ≡ 0) ⊎ (f ≡ faces g) → face g d ≡ face g outer) × (0 < f → f < faces g → (face g d ≢ face g outer) × (node g outer d ≡ f))
  label_met f lf =
      let o : ℕ = orbit_number g outer in
      let rest : ℕ = cond (nat_lt (f - 1) o) (f - 1) f in
      elim (cases_eq f 0) [
        | inl z ↦ (
          outer,
          st.outer_in,
          sym (cond-true (eqb f 0 || eqb f (faces g)) o rest (or_left (eqb f 0) (eqb f (faces g)) (eq-eqb f 0 z))),
          λ _. refl,
          λ a _. absurd (omega arith),
        )
        | inr nz ↦ elim (cases_eq f (faces g)) [
          | inl z ↦ (
            outer,
            st.outer_in,
            sym (cond-true (eqb f 0 || eqb f (faces g)) o rest (or_right (eqb f 0) (eqb f (faces g)) (eq-eqb f (faces g) z))),
            λ _. refl,
            λ _ b. absurd (omega arith),
          )
          | inr nf ↦
              let d : (d : ℕ) × (d < darts g) × (face g d ≢ face g outer) × (node g outer d ≡ f) = node-met g s t outer st f (omega arith) (omega arith) in
              let into : label_of f o (faces g) ≡ rest = cond-false (eqb f 0 || eqb f (faces g)) o rest (or_from (eqb f 0) (eqb f (faces g)) (ne_eqb f 0 nz) (ne_eqb f (faces g) nf)) in
              let is : orbit_number g d.0 ≡ rest = elim (node_label d.0 d.1 d.2) [
                | inl q ↦ let e : orbit_number g d.0 ≡ f - 1 = omega (arith, q.1, d.3) in
                    e ∙ sym (cond-true (nat_lt (f - 1) o) (f - 1) f (lt-ltb (f - 1) o (omega (arith, q.0, e))))
                | inr q ↦ let e : orbit_number g d.0 ≡ f = sym q.1 ∙ d.3 in
                    e ∙ sym (cond-false (nat_lt (f - 1) o) (f - 1) f (le-ltb (f - 1) o (omega (arith, q.0, e))))
              ] in (
                d.0,
                d.1,
                is ∙ sym into,
                λ p. elim p [ inl z ↦ absurd (nz z) | inr z ↦ absurd (nf z) ],
                λ _ _. (d.2, d.3),
              )
        ]
      ]

  pub label_below : (f : ℕ) → f ≤ faces g → label_of f (orbit_number g outer) (faces g) < faces g
  label_below f lf =
      let d : (d : ℕ) × (d < darts g) × (orbit_number g d ≡ label_of f (orbit_number g outer) (faces g))
      × ((f ≡ 0) ⊎ (f ≡ faces g) → face g d ≡ face g outer) × (0 < f → f < faces g → (face g d ≢ face g outer) × (node g outer d ≡ f)) = label_met f lf in
      subst (λ z. z < faces g) d.2 (number_below g s t outer st d.0 d.1)

  pub node_begins : (xs : List ℕ) → AreStarts g true (darts g) xs → (f : ℕ) → f ≤ faces g → NodeBegins g outer f (get_or xs (label_of f (orbit_number g outer) (faces g)) 0)
  node_begins xs h f lf =
      let v : ℕ = label_of f (orbit_number g outer) (faces g) in
      let d : (d : ℕ) × (d < darts g) × (orbit_number g d ≡ v)
      × ((f ≡ 0) ⊎ (f ≡ faces g) → face g d ≡ face g outer) × (0 < f → f < faces g → (face g d ≢ face g outer) × (node g outer d ≡ f)) = label_met f lf in
      let perm : Permutes (darts g) (phi g) = perm_st g s t outer st in
      let r : (x : ℕ) × (k : ℕ) × (p : ℕ) × (x < darts g) × SameOrbit (phi g) d.0 x × TwoRuns (phi g) is_out x k p = face_runs g s t outer st d.0 d.1 in
      let c : (c : ℕ) × (c < darts g) × (is_out c ≡ false) × (phi g c ≡ r.0) × (is_out r.0 ≡ true) = last_in (darts g) (phi g) perm r.0 r.1 r.2 r.3 r.5 in
      let k : orbit_number g (phi g c.0) ≡ v =
      ap (orbit_number g) c.3 ∙ face_number g s t outer st r.0 d.0 (sym (face-same g s t outer st d.0 r.0 d.1 r.4)) ∙ d.2 in
      let w : Start g true (darts g) xs v = subst (λ z. Start g true (darts g) xs z) k (h.found c.0 c.1 c.2 (ap is_out c.3 ∙ c.4)) in
      let lx : get_or xs v 0 < darts g = subst (λ z. z < darts g) (sym w.entry) (perm.stays w.c w.below) in
      let fx : face g (get_or xs v 0) ≡ face g d.0 = number_face g s t outer st (get_or xs v 0) d.0 lx d.1 (ap (orbit_number g) w.entry ∙ w.of ∙ sym d.2) in
      record {
        there = lx;
        after = (w.c, w.below, w.is_in, sym w.entry, ap is_out w.entry ∙ w.then_out);
        outer_is = λ p. fx ∙ d.3 p;
        inner = λ a b. (λ e. (d.4 a b).0 (sym fx ∙ e), node-same g s t outer st (get_or xs v 0) d.0 fx ∙ (d.4 a b).1);
      }

  node_runs : (f x : ℕ) → NodeBegins g outer f x → (k : ℕ) × (p : ℕ) × TwoRuns (phi g) is_out x k p
  node_runs f x b =
      let c : (c : ℕ) × (c < darts g) × (is_out c ≡ false) × (phi g c ≡ x) × (is_out x ≡ true) = b.after in
      let u : (k : ℕ) × (p : ℕ) × TwoRuns (phi g) is_out (phi g c.0) k p = face_runs_from g s t outer st c.0 c.1 c.2 (ap is_out c.3 ∙ c.4) in
      (u.0, u.1, subst (λ z. TwoRuns (phi g) is_out z u.0 u.1) c.3 u.2)

  pub node_parts : (f x : ℕ) → NodeBegins g outer f x → HasParts (phi g) x
  node_parts f x b =
      let r : (k : ℕ) × (p : ℕ) × TwoRuns (phi g) is_out x k p = node_runs f x b in
      has_parts (darts g) (phi g) (perm_st g s t outer st) x r.0 r.1 b.there (from_two (phi g) x r.0 r.1 r.2)

  moved_path : (P : ℕ → Type 0) (a b c d : ℕ) (es fs : List ℕ) → a ≡ c → b ≡ d → es ≡ fs → IsSidePath g P c d fs → IsSidePath g P a b es
  moved_path P a b c d es fs p q r h =
      subst (λ z. IsSidePath g P z b es) (sym p) (subst (λ z. IsSidePath g P c z es) (sym q) (subst (λ z. IsSidePath g P c d z) (sym r) h))

  pub node_sides_of : (f x : ℕ) → f ≤ faces g → NodeBegins g outer f x → (outs ins : List ℕ) (stop : ℕ) → AreParts (phi g) x outs ins stop
      → (low high : ℕ) (left right : List ℕ) → low ≡ at g x → high ≡ at g stop → (f ≡ 0 → left ≡ []) → (f ≢ 0 → left ≡ ins) → (f ≡ faces g → right ≡ []) → (f ≢ faces g → right ≡ outs)
      → NodeSides g s t outer f low high left right
  node_sides_of f x lf b outs ins stop a low high left right lo hi l0 l1 r0 r1 =
      let u : (k : ℕ) × (p : ℕ) × TwoRuns (phi g) is_out x k p = node_runs f x b in
      let k : ℕ = u.0 in
      let p : ℕ = u.1 in
      let rr : Runs (phi g) x u.0 u.1 = from_two (phi g) x u.0 u.1 u.2 in
      let o : IsRun (phi g) true x u.0 = outs_run (phi g) x u.0 u.1 rr in
      let i : IsRun (phi g) false (iterate u.0 (phi g) x) (u.1 - u.0) = ins_run (darts g) (phi g) (perm_st g s t outer st) x u.0 u.1 b.there rr in
      let top : high ≡ at g (iterate u.0 (phi g) x) = hi ∙ ap (at g) (a.stop_is u.0 o) in
      let right_path : IsSidePath g (λ e. face g (2 * e) ≡ face g x) low high outs =
      moved_path (λ e. face g (2 * e) ≡ face g x) low high (at g x) (at g (iterate u.0 (phi g) x)) outs (forward u.0 (phi g) x) lo top (a.outs_are u.0 o)
      (right_path_of g s t outer st x x u.0 u.1 b.there b.there (0, refl) u.2) in
      let left_path : IsSidePath g (λ e. face g (2 * e + 1) ≡ face g x) low high ins =
      moved_path (λ e. face g (2 * e + 1) ≡ face g x) low high (at g x) (at g (iterate u.0 (phi g) x)) ins (backward (u.1 - u.0) (phi g) (iterate u.0 (phi g) x)) lo top (a.ins_are u.0 (u.1 - u.0) o i)
      (left_path_of g s t outer st x x u.0 u.1 b.there b.there (0, refl) u.2) in
      let poles : (f ≡ 0) ⊎ (f ≡ faces g) → (low ≡ s) × (high ≡ t) = λ z.
      let so : SameOrbit (phi g) outer x = same_orbit g s t outer st outer x st.outer_in b.there (sym (b.outer_is z)) in
      (lo ∙ outer_low g s t outer st x u.0 u.1 b.there so u.2, top ∙ outer_high g s t outer st x u.0 u.1 b.there so u.2) in
      record {
        left_is = λ pos. subst (λ es. IsSidePath g (λ e. right_face g outer e ≡ f) low high es) (sym (l1 (λ z. omega arith))) (elim (cases_eq f (faces g)) [
          | inl z ↦ side_path_like g (λ e. face g (2 * e + 1) ≡ face g x) (λ e. right_face g outer e ≡ f) low high ins
              (λ e le h. right_face-outer g s t outer st e (h ∙ b.outer_is (inr z)) ∙ sym z) (λ e le h. right_face-last g s t outer st e le (h ∙ z) ∙ sym (b.outer_is (inr z))) left_path
          | inr nf ↦
              let n : (face g x ≢ face g outer) × (node g outer x ≡ f) = b.inner pos (omega arith) in
              side_path_like g (λ e. face g (2 * e + 1) ≡ face g x) (λ e. right_face g outer e ≡ f) low high ins
              (λ e le h. right_face-inner g s t outer st e (λ q. n.0 (sym h ∙ q)) ∙ node-same g s t outer st (2 * e + 1) x h ∙ n.1)
              (λ e le h. right_face-at g s t outer st e x le b.there n.0 (h ∙ sym n.1)) left_path
        ]);
        right_is = λ l. subst (λ es. IsSidePath g (λ e. left_face g outer e ≡ f) low high es) (sym (r1 (λ z. omega arith))) (elim (cases_eq f 0) [
          | inl z ↦ side_path_like g (λ e. face g (2 * e) ≡ face g x) (λ e. left_face g outer e ≡ f) low high outs
              (λ e le h. left_face-outer g s t outer st e (h ∙ b.outer_is (inl z)) ∙ sym z) (λ e le h. left_face-0 g s t outer st e (h ∙ z) ∙ sym (b.outer_is (inl z))) right_path
          | inr nz ↦
              let n : (face g x ≢ face g outer) × (node g outer x ≡ f) = b.inner (omega arith) l in
              side_path_like g (λ e. face g (2 * e) ≡ face g x) (λ e. left_face g outer e ≡ f) low high outs
              (λ e le h. left_face-inner g s t outer st e (λ q. n.0 (sym h ∙ q)) ∙ node-same g s t outer st (2 * e) x h ∙ n.1)
              (λ e le h. left_face-at g s t outer st e x le b.there n.0 (h ∙ sym n.1)) right_path
        ]);
        left_none = l0;
        right_none = r0;
        first = λ z. poles (inl z);
        last = λ z. poles (inr z);
      }

  -- the nodes beside an edge, from the numbers of the faces
  number_of : (half d : ℕ) → d < darts g → face g d ≢ face g outer → node_number (orbit_number g outer) half (orbit_number g d) ≡ node g outer d
  number_of half d l ne =
      let o : ℕ = orbit_number g outer in
      let x : ℕ = orbit_number g d in
      let rest : ℕ = cond (nat_lt x o) (x + 1) x in
      let into : node_number o half x ≡ rest = cond-false (eqb x o) half rest (ne_eqb x o (λ q. ne (number_face g s t outer st d outer l st.outer_in q))) in
      elim (node_label d l ne) [
        | inl q ↦ into ∙ cond-true (nat_lt x o) (x + 1) x (lt-ltb x o q.0) ∙ sym q.1
        | inr q ↦ into ∙ cond-false (nat_lt x o) (x + 1) x (le-ltb x o (omega (arith, q.0))) ∙ sym q.1
      ]

  number_half : (half d : ℕ) → face g d ≡ face g outer → node_number (orbit_number g outer) half (orbit_number g d) ≡ half
  number_half half d q =
      let o : ℕ = orbit_number g outer in
      let x : ℕ = orbit_number g d in
      cond-true (eqb x o) half (cond (nat_lt x o) (x + 1) x) (eq-eqb x o (face_number g s t outer st d outer q))

  pub left_number : (e : ℕ) → e < edges g → node_number (orbit_number g outer) 0 (orbit_number g (2 * e)) ≡ left_face g outer e
  left_number e l = elim (cases_eq (face g (2 * e)) (face g outer)) [
    | inl q ↦ number_half 0 (2 * e) q ∙ sym (left_face-outer g s t outer st e q)
    | inr ne ↦ number_of 0 (2 * e) (omega arith) ne ∙ sym (left_face-inner g s t outer st e ne)
  ]

  pub right_number : (e : ℕ) → e < edges g → node_number (orbit_number g outer) (faces g) (orbit_number g (2 * e + 1)) ≡ right_face g outer e
  right_number e l = elim (cases_eq (face g (2 * e + 1)) (face g outer)) [
    | inl q ↦ number_half (faces g) (2 * e + 1) q ∙ sym (right_face-outer g s t outer st e q)
    | inr ne ↦ number_of (faces g) (2 * e + 1) (omega arith) ne ∙ sym (right_face-inner g s t outer st e ne)
  ]
