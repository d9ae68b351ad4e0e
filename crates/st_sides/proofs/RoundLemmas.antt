-- How far a run goes.
use Rattle.std.proofs.Common.{◌≡◌, ◌≢◌, ℕ, zero, suc, ◌+◌, ◌-◌, ◌<◌, ◌≤◌, inl, inr, Bool, true, false, List, [], ◌∷◌, ◌++◌, length, refl, sym, ap, ◌∙◌, subst, reverse, arith}
use Rattle.std.proofs.lemmas.Bool.{cases_lt, both_ways}
use Rattle.std.proofs.lemmas.List.{length-append, map-append, reverse-append}
use Rattle.st_ids.specs.Ends.{is_out, edge_of}
use Rattle.st_ids.specs.EdgeNumbers.{numbers}
use Rattle.st_ids.specs.declared.ids.EdgeId.{EdgeId}
use Rattle.st_map.specs.Orbits.{iterate, Permutes}
use Rattle.st_map.proofs.Public.{least_period, iterate-add, steps, turn_apart}
use Rattle.st_sides.specs.Rounds.{IsRun, HasParts, AreParts}
use Rattle.st_sides.specs.Stretches.{forward}
use Rattle.st_sides.proofs.RunLemmas.{Runs, forward-push, backward-reverse}

pub run_goes : (f : ℕ → ℕ) (b : Bool) (x j n : ℕ) → IsRun f b x n → 0 < j → j ≤ n → is_out (iterate j f x) ≡ b → iterate j f x ≢ x → j < n
run_goes f b x j n r pos l o ne = elim (cases_lt j n) [
  | inl m ↦ m
  | inr m ↦
      let e : iterate n f x ≡ iterate j f x = steps f x n j (omega arith) in
      elim r.stops [
        | inl q ↦ absurd (q (ap is_out e ∙ o))
        | inr q ↦ absurd (ne (sym e ∙ q.1))
      ]
]

pub run_ends : (f : ℕ → ℕ) (b : Bool) (x j n : ℕ) → IsRun f b x n → 0 < j → j ≤ n → (is_out (iterate j f x) ≡ b → iterate j f x ≢ x → ⊥) → j ≡ n
run_ends f b x j n r pos l h = elim (cases_lt j n) [
  | inl m ↦ absurd (h (r.alike j m) (r.apart j pos m))
  | inr m ↦ omega arith
]

pub run_few : (m : ℕ) (f : ℕ → ℕ) → Permutes m f → (b : Bool) (x n : ℕ) → x < m → IsRun f b x n → n ≤ m
run_few m f perm b x n lx r =
    let q : (p : ℕ) × (0 < p) × (p ≤ m) × (iterate p f x ≡ x) × ((j : ℕ) → 0 < j → j < p → iterate j f x ≡ x → ⊥) = least_period m f perm x lx in
    elim (cases_lt q.0 n) [
      | inl l ↦ absurd (r.apart q.0 q.1 l q.3)
      | inr l ↦ omega (arith, q.2)
    ]

-- a run that has begun has one end
pub run_some : (f : ℕ → ℕ) (b : Bool) (x n : ℕ) → IsRun f b x n → is_out x ≡ b → 1 ≤ n
run_some f b x zero r o = elim r.stops [
  | inl q ↦ absurd (q o)
  | inr q ↦ absurd (omega (arith, q.0))
]
run_some f b x (suc n) r o = omega arith

pub run_none : (f : ℕ → ℕ) (b : Bool) (x n : ℕ) → IsRun f b x n → (is_out x ≡ b → ⊥) → n ≡ 0
run_none f b x n r o = elim (cases_lt 0 n) [
  | inl l ↦ absurd (o (r.alike 0 l))
  | inr l ↦ omega arith
]

-- one more end
pub run_grows : (f : ℕ → ℕ) (x j d : ℕ) (e : EdgeId) (old new : List EdgeId) → new ≡ old ++ e ∷ [] → j ≡ length old → e.0 ≡ edge_of d → numbers old ≡ forward j f x → d ≡ iterate j f x
    → (length new ≡ j + 1) × (numbers new ≡ forward (length new) f x)
run_grows f x j d e old new q n h w at =
    let len : length new ≡ j + 1 = ap (λ (z : List EdgeId). length z) q ∙ length-append old (e ∷ []) ∙ ap (λ z. z + 1) (sym n) in (
      len,
      ap numbers q ∙ map-append (λ (z : EdgeId). z.0) old (e ∷ []) ∙ ap (λ es. es ++ e.0 ∷ []) w
          ∙ ap (λ z. forward j f x ++ z ∷ []) (h ∙ ap edge_of at) ∙ sym (forward-push j f x) ∙ ap (λ z. forward z f x) (sym len),
    )

-- The ends out of a star or of a face are a run, and so are the ends in.
pub outs_run : (f : ℕ → ℕ) (x k p : ℕ) → Runs f x k p → IsRun f true x k
outs_run f x k p r = record {
  alike = r.first;
  apart = λ j pos l. r.apart j pos (omega (arith, r.more));
  stops = elim (cases_lt k p) [
    | inl l ↦ inl (λ o. both_ways (is_out (iterate k f x)) (r.then k (omega arith) l) o)
    | inr l ↦ let e : k ≡ p = omega (arith, r.more) in inr (omega (arith, r.some), steps f x k p e ∙ r.back)
  ];
}

pub ins_run : (m : ℕ) (f : ℕ → ℕ) → Permutes m f → (x k p : ℕ) → x < m → Runs f x k p → IsRun f false (iterate k f x) (p - k)
ins_run m f perm x k p lx r =
    let back : iterate (p - k) f (iterate k f x) ≡ x = sym (iterate-add (p - k) k f x) ∙ steps f x ((p - k) + k) p (omega (arith, r.more)) ∙ r.back in
    record {
      alike = λ j l. ap is_out (sym (iterate-add j k f x)) ∙ r.then (j + k) (omega arith) (omega arith);
      apart = λ j pos l e. turn_apart m f perm x p lx r.apart k (j + k) (omega arith) (omega arith) (sym e ∙ sym (iterate-add j k f x));
      stops = elim (cases_lt 0 k) [
        | inl l ↦ inl (λ o. both_ways (is_out x) (ap is_out (sym back) ∙ o) (r.first 0 l))
        | inr l ↦
            let z : k ≡ 0 = omega arith in
            inr (omega (arith, r.some), back ∙ steps f x 0 k (sym z))
      ];
    }

-- what the two runs are, where their lengths are known
pub has_parts : (m : ℕ) (f : ℕ → ℕ) → Permutes m f → (x k p : ℕ) → x < m → Runs f x k p → HasParts f x
has_parts m f perm x k p lx r = record { k = k; n = p - k; outs_run = outs_run f x k p r; ins_run = ins_run m f perm x k p lx r }

numbers-reverse : (xs : List EdgeId) → numbers (reverse xs) ≡ reverse (numbers xs)
numbers-reverse [] = refl
numbers-reverse (x ∷ xs) =
    ap numbers (reverse-append (x ∷ []) xs) ∙ map-append (λ (z : EdgeId). z.0) (reverse xs) (x ∷ []) ∙ ap (λ z. z ++ x.0 ∷ []) (numbers-reverse xs)
    ∙ sym (reverse-append (x.0 ∷ []) (numbers xs))

pub parts_are : (f : ℕ → ℕ) (x y : ℕ) (outs ins : List ℕ) (os is : List EdgeId) → outs ≡ numbers os → ins ≡ numbers (reverse is)
    → ((n : ℕ) → IsRun f true x n → numbers os ≡ forward n f x) → ((n : ℕ) → IsRun f true x n → y ≡ iterate n f x) → ((n : ℕ) → IsRun f false y n → numbers is ≡ forward n f y)
    → AreParts f x outs ins y
parts_are f x y outs ins os is p q a e b = record {
  outs_are = λ k r. p ∙ a k r;
  stop_is = e;
  ins_are = λ k n r w.
      let s : IsRun f false y n = subst (λ z. IsRun f false z n) (sym (e k r)) w in
      q ∙ numbers-reverse is ∙ ap (λ (z : List ℕ). reverse z) (b n s ∙ ap (λ z. forward n f z) (e k r)) ∙ sym (backward-reverse n f (iterate k f x));
}
