-- Where runs begin: the table, and what its entries are worth.
use Rattle.std.proofs.Common.{◌≡◌, ℕ, suc, ◌+◌, ◌-◌, ◌<◌, ◌≤◌, ◌⊎◌, inl, inr, Bool, true, false, List, [], ◌∷◌, ◌++◌, length, get_or, refl, sym, ap, ◌∙◌, subst, arith}
use Rattle.std.proofs.Math.ListN.{set}
use Rattle.std.proofs.lemmas.List.{get_or-set_same, get_or-set_other, length-set, length-append, get_or_append_left}
use Rattle.std.proofs.Math.Seq.{get_or-append_seam}
use Rattle.std.proofs.lemmas.Bool.{cases_eq, cases_lt, cases_order, eq-eqb}
use Rattle.st_ids.specs.Ends.{is_out}
use Rattle.st_map.specs.Orbits.{iterate, Permutes}
use Rattle.st_map.specs.Embedded.{Embedded, Touches, at, darts, face, faces, next, phi}
use Rattle.st_map.proofs.Public.{iterate-stays, orbit-stays, steps, least_period}
use Rattle.st_test.specs.FaceNumbers.{is_least, orbit_number}
use Rattle.st_test.specs.Planar.{IsPlanarSt}
use Rattle.st_sides.specs.Filled.{AreStarts, Start, Begins, IsFilled, key, keys}
use Rattle.st_map.specs.Counting.{count_below}
use Rattle.st_sides.specs.Conditions.{AreOuts, AreIns}
use Rattle.st_sides.specs.Rounds.{round, IsRun, HasParts, AreParts}
use Rattle.st_sides.specs.Runs.{TwoRuns}
use Rattle.st_sides.proofs.FaceRuns.{perm_st, vertex_runs, vertex_runs_from, out_at_s, in_at_t, poles_apart}
use Rattle.st_sides.proofs.RunLemmas.{from_two}
use Rattle.st_sides.proofs.StarLemmas.{Star, next_st, face-same, one_kind, outs_are, ins_are}
use Rattle.st_sides.proofs.RoundLemmas.{outs_run, ins_run, has_parts}
use Rattle.st_sides.proofs.NodeLemmas.{count-over, face-below, face-face}

-- the number of a face is below the number of faces
pub number_below : (g : Embedded) (s t outer : ℕ) → IsPlanarSt g s t outer → (d : ℕ) → d < darts g → orbit_number g d < faces g
unfolding orbit_number faces
number_below g s t outer st d l =
    count-over (face g d) (darts g) (is_least g) (face-below g s t outer st d l) (eq-eqb (face g (face g d)) (face g d) (face-face g s t outer st d l))

module _ (g : Embedded) (b : Bool) (m : ℕ) (xs : List ℕ) (h : AreStarts g b m xs) where
  kept : (v : ℕ) → Start g b m xs v → Start g b (m + 1) xs v
  kept v w = record { c = w.c; below = omega (arith, w.below); is_in = w.is_in; then_out = w.then_out; of = w.of; entry = w.entry }

  pub starts_keep : (is_out m ≡ false → is_out (round g b m) ≡ true → ⊥) → AreStarts g b (m + 1) xs
  starts_keep ne = record {
    size = h.size;
    found = λ c l i o. elim (cases_lt c m) [
      | inl a ↦ kept (key g b (round g b c)) (h.found c a i o)
      | inr a ↦ let e : c ≡ m = omega arith in absurd (ne (ap is_out (sym e) ∙ i) (ap (λ z. is_out (round g b z)) (sym e) ∙ o))
    ];
  }

  pub starts_set : (to k : ℕ) → to ≡ round g b m → k ≡ key g b to → k < keys g b → is_out m ≡ false → is_out to ≡ true → AreStarts g b (m + 1) (set xs k to)
  starts_set to k e q lk i o =
      let kr : k ≡ key g b (round g b m) = q ∙ ap (key g b) e in
      let here : get_or (set xs k to) k 0 ≡ to = get_or-set_same xs k to 0 (omega (arith, h.size, lk)) in
      record {
        size = length-set xs k to ∙ h.size;
        found = λ c l ic oc. elim (cases_eq (key g b (round g b c)) k) [
          | inl p ↦ record {
            c = m;
            below = omega arith;
            is_in = i;
            then_out = ap is_out (sym e) ∙ o;
            of = sym kr ∙ sym p;
            entry = ap (λ z. get_or (set xs k to) z 0) p ∙ here ∙ e;
          }
          | inr ne ↦ elim (cases_lt c m) [
            | inl a ↦
                let w : Start g b m xs (key g b (round g b c)) = h.found c a ic oc in
                record {
                  c = w.c;
                  below = omega (arith, w.below);
                  is_in = w.is_in;
                  then_out = w.then_out;
                  of = w.of;
                  entry = get_or-set_other xs k (key g b (round g b c)) to 0 ne ∙ w.entry;
                }
            | inr a ↦ let z : c ≡ m = omega arith in absurd (ne (ap (λ y. key g b (round g b y)) z ∙ sym kr))
          ]
        ];
      }

-- two runs begin after an end in
pub last_in : (m : ℕ) (f : ℕ → ℕ) → Permutes m f → (x k p : ℕ) → x < m → TwoRuns f is_out x k p
    → (c : ℕ) × (c < m) × (is_out c ≡ false) × (f c ≡ x) × (is_out x ≡ true)
last_in m f perm x k p lx r =
    let some : 0 < k = r.some in
    let more : k < p = r.more in (
      iterate (p - 1) f x,
      iterate-stays m f perm (p - 1) x lx,
      r.then (p - 1) (omega arith) (omega arith),
      steps f x (suc (p - 1)) p (omega arith) ∙ r.back,
      r.first 0 some,
    )

-- one more entry
pub filled_more : {A : Type 0} (other : A) (P : ℕ → A → Type 0) (n : ℕ) (xs ys : List A) (x : A) → IsFilled other P n xs → ys ≡ xs ++ x ∷ [] → P n x → IsFilled other P (n + 1) ys
filled_more {A} other P n xs ys x h q p =
    let len : length (xs ++ x ∷ []) ≡ n + 1 = length-append xs (x ∷ []) ∙ ap (λ z. z + 1) h.size in
    subst (λ (z : List A). IsFilled other P (n + 1) z) (sym q) (record {
      size = len;
      each = λ i l. elim (cases_lt i n) [
        | inl a ↦ subst (P i) (sym (get_or_append_left xs (x ∷ []) other i (omega (arith, h.size)))) (h.each i a)
        | inr a ↦
            let e : i ≡ length xs = omega (arith, h.size) in
            subst (P i) (sym (ap (λ k. get_or (xs ++ x ∷ []) k other) e ∙ get_or-append_seam xs x [] other)) (subst (λ k. P k x) (let z : n ≡ i = omega arith in z) p)
      ];
    })

module _ (g : Embedded) (s t outer : ℕ) (st : IsPlanarSt g s t outer) where
  -- ends whose faces have one number are in one face
  pub number_face : (c d : ℕ) → c < darts g → d < darts g → orbit_number g c ≡ orbit_number g d → face g c ≡ face g d
  unfolding orbit_number
  number_face c d lc ld q =
      let root : (e : ℕ) → e < darts g → is_least g (face g e) ≡ true = λ e l. eq-eqb (face g (face g e)) (face g e) (face-face g s t outer st e l) in
      elim (cases_order (face g c) (face g d)) [
        | inl e ↦ e
        | inr o ↦ elim o [
          | inl a ↦ absurd (omega (arith, count-over (face g c) (face g d) (is_least g) a (root c lc)))
          | inr a ↦ absurd (omega (arith, count-over (face g d) (face g c) (is_least g) a (root d ld)))
        ]
      ]

  pub face_number : (c d : ℕ) → face g c ≡ face g d → orbit_number g c ≡ orbit_number g d
  unfolding orbit_number
  face_number c d q = ap (λ z. count_below z (is_least g)) q

  -- a pole has an end on the outer face
  pub pole_met : (v : ℕ) → (v ≡ s) ⊎ (v ≡ t) → (c : ℕ) × (c < darts g) × (orbit_number g c ≡ orbit_number g outer) × (at g c ≡ v)
  pole_met v p =
      let from : Touches g outer v → (c : ℕ) × (c < darts g) × (orbit_number g c ≡ orbit_number g outer) × (at g c ≡ v) = λ w. (
        w.0,
        orbit-stays (darts g) (phi g) (perm_st g s t outer st) outer w.0 st.outer_in w.1,
        face_number w.0 outer (sym (face-same g s t outer st outer w.0 st.outer_in w.1)),
        w.2,
      ) in
      elim p [
        | inl q ↦ from (subst (λ z. Touches g outer z) (sym q) st.outer_s)
        | inr q ↦ from (subst (λ z. Touches g outer z) (sym q) st.outer_t)
      ]

  pub pole_begins : (v d : ℕ) → (v ≡ s) ⊎ (v ≡ t) → d < darts g → orbit_number g d ≡ orbit_number g outer → at g d ≡ v → Begins g s t outer v d
  pole_begins v d p l q a = record {
    there = l;
    at_v = a;
    inner = λ ns nt. elim p [ inl e ↦ absurd (ns e) | inr e ↦ absurd (nt e) ];
    pole = λ _. number_face d outer l st.outer_in q;
  }

  pub vertex_begins : (xs : List ℕ) → AreStarts g false (darts g) xs → (v : ℕ) → v < g.vertices → ((v ≡ s) ⊎ (v ≡ t) → ⊥) → Begins g s t outer v (get_or xs v 0)
  vertex_begins xs h v lv n =
      let r : (x : ℕ) × (k : ℕ) × (p : ℕ) × (x < darts g) × (at g x ≡ v) × TwoRuns (next g) is_out x k p = vertex_runs g s t outer st v lv (λ e. n (inl e)) (λ e. n (inr e)) in
      let c : (c : ℕ) × (c < darts g) × (is_out c ≡ false) × (next g c ≡ r.0) × (is_out r.0 ≡ true) = last_in (darts g) (next g) (next_st g s t outer st) r.0 r.1 r.2 r.3 r.5 in
      let w : Start g false (darts g) xs v = subst (λ z. Start g false (darts g) xs z) (ap (at g) c.3 ∙ r.4) (h.found c.0 c.1 c.2 (ap is_out c.3 ∙ c.4)) in
      record {
        there = subst (λ z. z < darts g) (sym w.entry) ((next_st g s t outer st).stays w.c w.below);
        at_v = ap (at g) w.entry ∙ w.of;
        inner = λ _ _. (w.c, w.below, w.is_in, sym w.entry, ap is_out w.entry ∙ w.then_out);
        pole = λ p. absurd (n p);
      }

  pub star_from : (v x : ℕ) → Begins g s t outer v x → (w : Star g s t outer v) × (w.x ≡ x)
  star_from v x b =
      let q : (p : ℕ) × (0 < p) × (p ≤ darts g) × (iterate p (next g) x ≡ x) × ((j : ℕ) → 0 < j → j < p → iterate j (next g) x ≡ x → ⊥) =
      least_period (darts g) (next g) (next_st g s t outer st) x b.there in
      elim (cases_eq v s) [
        | inl es ↦ (
          record {
            x = x;
            k = q.0;
            p = q.0;
            x_in = b.there;
            at_x = b.at_v;
            runs = record {
              some = q.1;
              more = omega arith;
              back = q.3;
              apart = q.4;
              first = λ j lj. one_kind g s t outer st true x b.there (λ d ld e. out_at_s g s t outer st d ld (e ∙ b.at_v ∙ es)) j;
              then = λ j lj lk. absurd (omega arith);
            };
            inner = λ n _. absurd (n es);
            at_s = λ _. (refl, b.pole (inl es));
            at_t = λ et. absurd (poles_apart g s t outer st (sym es ∙ et));
          },
          refl,
        )
        | inr ns ↦ elim (cases_eq v t) [
          | inl et ↦ (
            record {
              x = x;
              k = 0;
              p = q.0;
              x_in = b.there;
              at_x = b.at_v;
              runs = record {
                some = q.1;
                more = omega arith;
                back = q.3;
                apart = q.4;
                first = λ j lj. absurd (omega arith);
                then = λ j lj lk. one_kind g s t outer st false x b.there (λ d ld e. in_at_t g s t outer st d ld (e ∙ b.at_v ∙ et)) j;
              };
              inner = λ _ n. absurd (n et);
              at_s = λ es. absurd (ns es);
              at_t = λ _. (refl, b.pole (inr et));
            },
            refl,
          )
          | inr nt ↦
              let c : (c : ℕ) × (c < darts g) × (is_out c ≡ false) × (next g c ≡ x) × (is_out x ≡ true) = b.inner ns nt in
              let u : (k : ℕ) × (p : ℕ) × TwoRuns (next g) is_out (next g c.0) k p = vertex_runs_from g s t outer st c.0 c.1 c.2 (ap is_out c.3 ∙ c.4) in
              let r : TwoRuns (next g) is_out x u.0 u.1 = subst (λ z. TwoRuns (next g) is_out z u.0 u.1) c.3 u.2 in (
                record {
                  x = x;
                  k = u.0;
                  p = u.1;
                  x_in = b.there;
                  at_x = b.at_v;
                  runs = from_two (next g) x u.0 u.1 r;
                  inner = λ _ _. (r.some, r.more);
                  at_s = λ es. absurd (ns es);
                  at_t = λ et. absurd (nt et);
                },
                refl,
              )
        ]
      ]

  pub star_parts : (v x : ℕ) → Begins g s t outer v x → HasParts (next g) x
  star_parts v x b =
      let w : (w : Star g s t outer v) × (w.x ≡ x) = star_from v x b in
      subst (λ z. HasParts (next g) z) w.1 (has_parts (darts g) (next g) (next_st g s t outer st) w.0.x w.0.k w.0.p w.0.x_in w.0.runs)

  pub star_lists : (v x : ℕ) → Begins g s t outer v x → (outs ins : List ℕ) (stop : ℕ) → AreParts (next g) x outs ins stop
      → AreOuts g s outer v outs × AreIns g t outer v ins
  star_lists v x b outs ins stop a =
      let w : (w : Star g s t outer v) × (w.x ≡ x) = star_from v x b in
      let k : Star g s t outer v = w.0 in
      let h : AreParts (next g) k.x outs ins stop = subst (λ z. AreParts (next g) z outs ins stop) (sym w.1) a in
      let o : IsRun (next g) true k.x k.k = outs_run (next g) k.x k.k k.p k.runs in
      let i : IsRun (next g) false (iterate k.k (next g) k.x) (k.p - k.k) = ins_run (darts g) (next g) (next_st g s t outer st) k.x k.k k.p k.x_in k.runs in (
        subst (λ es. AreOuts g s outer v es) (sym (h.outs_are k.k o)) (outs_are g s t outer st v k),
        subst (λ es. AreIns g t outer v es) (sym (h.ins_are k.k (k.p - k.k) o i)) (ins_are g s t outer st v k),
      )
