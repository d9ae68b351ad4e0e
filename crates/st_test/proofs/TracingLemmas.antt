-- Lemmas for a walk round a face.
use Rattle.std.proofs.Common.{◌≡◌, ℕ, zero, suc, ◌+◌, ◌%◌, ◌<◌, ◌≤◌, inl, inr, Bool, true, false, cond, eqb, List, length, get_or, refl, sym, ap, ◌∙◌, arith}
use Rattle.std.proofs.Math.ListN.{set}
use Rattle.std.proofs.lemmas.List.{get_or-set_same, get_or-set_other}
use Rattle.std.proofs.lemmas.Nat.{mod_below}
use Rattle.std.proofs.lemmas.Bool.{cases_eq, cases_lt, cases_Bool, eq-eqb, ne_eqb, cond-true, cond-false}
use Rattle.st_map.specs.Counting.{bit, count_below}
use Rattle.st_map.specs.Orbits.{iterate, SameOrbit, Permutes}
use Rattle.st_map.specs.Embedded.{Embedded, darts, phi, face, faces}
use Rattle.st_map.specs.Laws.{FacesAre}
use Rattle.st_map.proofs.Public.{count-le, iterate-step, iterate-mod, orbit-short, orbit-sym, orbit-stays}
use Rattle.st_test.specs.FaceNumbers.{is_least, orbit_number, AreFaces}
use Rattle.st_test.specs.Tracing.{first_within, IsTraced, AreTracedBelow}

fw_same : (n : ℕ) (q r : ℕ → Bool) → ((k : ℕ) → q k ≡ r k) → first_within n q ≡ first_within n r
fw_same zero q r h = refl
fw_same (suc n) q r h =
    ap (λ b. cond b zero (suc (first_within n (λ k. q (suc k))))) (h 0)
    ∙ ap (λ m. cond (r 0) zero (suc m)) (fw_same n (λ k. q (suc k)) (λ k. r (suc k)) (λ k. h (suc k)))

fw_le : (n : ℕ) (q : ℕ → Bool) (k : ℕ) → k < n → q k ≡ true → first_within n q ≤ k
fw_le zero q k l e = omega arith
fw_le (suc n) q zero l e = omega (arith, cond-true (q 0) zero (suc (first_within n (λ k. q (suc k)))) e)
fw_le (suc n) q (suc k) l e = elim (cases_Bool (q 0)) [
  | inl y ↦ omega (arith, cond-true (q 0) zero (suc (first_within n (λ k. q (suc k)))) y)
  | inr y ↦ omega (arith, cond-false (q 0) zero (suc (first_within n (λ k. q (suc k)))) y, fw_le n (λ k. q (suc k)) k (omega arith) e)
]

-- a bound that is not reached may be lowered
fw_stable : (n : ℕ) (q : ℕ → Bool) → first_within (suc n) q ≤ n → first_within n q ≡ first_within (suc n) q
fw_stable zero q l = omega arith
fw_stable (suc n) q l = elim (cases_Bool (q 0)) [
  | inl y ↦ cond-true (q 0) zero (suc (first_within n (λ k. q (suc k)))) y ∙ sym (cond-true (q 0) zero (suc (first_within (suc n) (λ k. q (suc k)))) y)
  | inr y ↦
      let a : first_within (suc (suc n)) q ≡ suc (first_within (suc n) (λ k. q (suc k))) = cond-false (q 0) zero (suc (first_within (suc n) (λ k. q (suc k)))) y in
      let b : first_within (suc n) q ≡ suc (first_within n (λ k. q (suc k))) = cond-false (q 0) zero (suc (first_within n (λ k. q (suc k)))) y in
      omega (arith, fw_stable n (λ k. q (suc k)) (omega arith))
]

-- one step nearer
fw_nearer : (n : ℕ) (q r : ℕ → Bool) (k : ℕ) → q 0 ≡ false → ((k : ℕ) → q (suc k) ≡ r k) → k < n → r k ≡ true → first_within n r < first_within n q
fw_nearer zero q r k z h l e = absurd (omega arith)
fw_nearer (suc n) q r k z h l e =
    let a : first_within (suc n) q ≡ suc (first_within n (λ k. q (suc k))) = cond-false (q 0) zero (suc (first_within n (λ k. q (suc k)))) z in
    omega (arith, fw_same n (λ k. q (suc k)) r h, fw_stable n r (omega (arith, fw_le (suc n) r k l e)))

module _ (n : ℕ) (f : ℕ → ℕ) (perm : Permutes n f) where
  -- the way back to the start grows shorter
  pub nearer : (start d : ℕ) → start < n → SameOrbit f start d → (d ≡ start → ⊥)
      → first_within n (λ k. eqb (iterate k f (f d)) start) < first_within n (λ k. eqb (iterate k f d) start)
  nearer start d ls so ne =
      let ld : d < n = orbit-stays n f perm start d ls so in
      let back : SameOrbit f (f d) start =
      orbit-sym n f perm start (f d) ls (suc so.0, ap f so.1) in
      let j : (j : ℕ) × (j < n) × (iterate back.0 f (f d) ≡ iterate j f (f d)) =
      orbit-short n f perm (f d) (perm.stays d ld) back.0 in
      fw_nearer n (λ k. eqb (iterate k f d) start) (λ k. eqb (iterate k f (f d)) start) j.0
      (ne_eqb d start ne) (λ k. ap (λ z. eqb z start) (sym (iterate-step k f d))) j.1
      (eq-eqb (iterate j.0 f (f d)) start (sym j.2 ∙ back.1))

  -- what is labelled on one round is labelled on all
  pub all_round : (labels : List ℕ) (start id j : ℕ) → start < n → 0 < j → iterate j f start ≡ start
      → ((i : ℕ) → i < j → get_or labels (iterate i f start) 0 ≡ id)
      → (e : ℕ) → SameOrbit f start e → get_or labels e 0 ≡ id
  all_round labels start id j ls pos back h e so =
      ap (λ z. get_or labels z 0) (sym so.1 ∙ iterate-mod n f perm start j pos back so.0) ∙ h (so.0 % j) (mod_below so.0 j pos)

-- a place that has the label, or gets it, has it
pub keeps : (labels : List ℕ) (i e id : ℕ) → i < length labels → get_or labels e 0 ≡ id → get_or (set labels i id) e 0 ≡ id
keeps labels i e id l h = elim (cases_eq e i) [
  | inl q ↦ ap (λ z. get_or (set labels i id) z 0) q ∙ get_or-set_same labels i id 0 l
  | inr n ↦ get_or-set_other labels i e id 0 n ∙ h
]

pub gets : (labels : List ℕ) (i e id : ℕ) → i < length labels → e ≡ i → get_or (set labels i id) e 0 ≡ id
gets labels i e id l q = ap (λ z. get_or (set labels i id) z 0) q ∙ get_or-set_same labels i id 0 l

module _ (g : Embedded) (are : FacesAre g) where
  face-below : (d : ℕ) → d < darts g → face g d < darts g
  face-below d l = orbit-stays (darts g) (phi g) are.permutes d (face g d) l (are.reached d l)

  face-le : (d : ℕ) → d < darts g → face g d ≤ d
  face-le d l = are.least d d l (0, refl)

  face-face : (d : ℕ) → d < darts g → face g (face g d) ≡ face g d
  face-face d l = sym ((are.one d (face g d) l (face-below d l)).0 (are.reached d l))

  same_face : (d e : ℕ) → d < darts g → SameOrbit (phi g) d e → face g d ≡ face g e
  same_face d e l so = (are.one d e l (orbit-stays (darts g) (phi g) are.permutes d e l so)).0 so

  pub number_small : (d : ℕ) → d < darts g → orbit_number g d < darts g
  unfolding orbit_number
  number_small d l = omega (arith, count-le (face g d) (is_least g), face-below d l)

  -- an end with the mark is the first of its face
  marked : (mark d count : ℕ) (orbit : List ℕ) → darts g ≤ mark → d < darts g → AreTracedBelow g mark d orbit count → get_or orbit d 0 ≡ mark → face g d ≡ d
  marked mark d count orbit small l h m = elim (cases_lt (face g d) d) [
    | inl lt ↦ absurd (omega (arith, h.done d l lt, number_small d l))
    | inr ge ↦ omega (arith, face-le d l)
  ]

  pub traced_more : (mark d count : ℕ) (orbit new : List ℕ) → darts g ≤ mark → d < darts g → AreTracedBelow g mark d orbit count → get_or orbit d 0 ≡ mark
      → IsTraced (phi g) d count orbit new → AreTracedBelow g mark (d + 1) new (count + 1)
  unfolding orbit_number
  traced_more mark d count orbit new small l h m w =
      let r : face g d ≡ d = marked mark d count orbit small l h m in
      let yes : is_least g d ≡ true = eq-eqb (face g d) d r in
      let one : d + 1 ≡ suc d = omega arith in
      let more : count_below (d + 1) (is_least g) ≡ count_below (suc d) (is_least g) = ap (λ k. count_below k (is_least g)) one in
      let bit1 : bit (is_least g d) ≡ 1 = ap bit yes in
      record {
        size = w.size ∙ h.size;
        done = λ e le re. elim (cases_lt (face g e) d) [
          | inl lt ↦ w.others e (λ so. omega (arith, same_face d e l so)) ∙ h.done e le lt
          | inr ge ↦
              let at : d ≡ face g e = omega arith in
              w.members e ((are.one d e l le).1 (r ∙ at)) ∙ h.so_far ∙ ap (λ k. count_below k (is_least g)) at
        ];
        rest = λ e le re. w.others e (λ so. omega (arith, same_face d e l so)) ∙ h.rest e le (omega arith);
        so_far = omega (arith, h.so_far);
      }

  pub traced_same : (mark d count : ℕ) (orbit : List ℕ) → d < darts g → AreTracedBelow g mark d orbit count → (get_or orbit d 0 ≡ mark → ⊥)
      → AreTracedBelow g mark (d + 1) orbit count
  traced_same mark d count orbit l h n =
      let not_least : face g d ≡ d → ⊥ = λ r. n (h.rest d l (omega arith)) in
      let no : is_least g d ≡ false = ne_eqb (face g d) d not_least in
      let one : d + 1 ≡ suc d = omega arith in
      let more : count_below (d + 1) (is_least g) ≡ count_below (suc d) (is_least g) = ap (λ k. count_below k (is_least g)) one in
      let bit0 : bit (is_least g d) ≡ 0 = ap bit no in
      record {
        size = h.size;
        done = λ e le re. elim (cases_lt (face g e) d) [
          | inl lt ↦ h.done e le lt
          | inr ge ↦ absurd (not_least (let at : face g e ≡ d = omega arith in ap (face g) (sym at) ∙ face-face e le ∙ at))
        ];
        rest = λ e le re. h.rest e le (omega arith);
        so_far = omega (arith, h.so_far);
      }

  pub traced_all : (mark count : ℕ) (orbit : List ℕ) → AreTracedBelow g mark (darts g) orbit count → AreFaces g (record { orbit = orbit; count = count })
  unfolding faces
  traced_all mark count orbit h = record { size = h.size; each = λ d l. h.done d l (face-below d l); all = h.so_far }
