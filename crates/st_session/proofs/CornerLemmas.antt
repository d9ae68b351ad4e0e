-- Walks round a face and round a vertex, and what is found on them.
use Rattle.std.proofs.Common.{◌≡◌, ◌<◌, ◌+◌, ◌*◌, ◌%◌, ℕ, suc, true, false, ◌⊎◌, inl, inr, ap, sym, ◌∙◌, subst, arith}
use Rattle.std.proofs.lemmas.Bool.{cases_eq}
use Rattle.std.proofs.lemmas.Nat.{mod_below}
use Rattle.std.specs.Prelude.{◌↔◌}
use Rattle.st_ids.specs.Ends.{is_out}
use Rattle.st_map.specs.Embedded.{Embedded, IsRotation, at, darts, edges, next}
use Rattle.st_map.specs.Orbits.{Permutes, SameOrbit, iterate}
use Rattle.st_map.proofs.Public.{at-head, at-iterate, at-tail, at_below, even_or_odd, is_out-head, is_out-tail, iterate-mod, iterate-step, next-permutes, orbit-short, orbit-step, orbit-sym, orbit-trans, same_vertex}
use Rattle.st_session.specs.Corners.{HasOther, IsLike, IsOnWay}
use Rattle.st_session.specs.Editing.{OthersIn, OthersOut}

module _ (n : ℕ) (f : ℕ → ℕ) (perm : Permutes n f) (c : ℕ) (Sought : ℕ → Type 0) where
  -- once round, nothing was found
  pub none_round : (m : ℕ) → 0 < m → iterate m f c ≡ c → ((j : ℕ) → j < m → Sought (iterate j f c) → ⊥) → (x : ℕ) → SameOrbit f c x → Sought x → ⊥
  none_round m pos back passed x s found =
      let e : iterate (s.0 % m) f c ≡ x = sym (iterate-mod n f perm c m pos back s.0) ∙ s.1 in
      passed (s.0 % m) (mod_below s.0 m pos) (subst Sought (sym e) found)

  -- as many steps as there are numbers
  pub none_at_all : c < n → ((j : ℕ) → j < n → Sought (iterate j f c) → ⊥) → (x : ℕ) → SameOrbit f c x → Sought x → ⊥
  none_at_all l passed x s found =
      let r : (j : ℕ) × (j < n) × (iterate s.0 f c ≡ iterate j f c) = orbit-short n f perm c l s.0 in
      passed r.0 r.1 (subst Sought (sym s.1 ∙ r.2) found)

-- one step on
pub way_on : (n : ℕ) (f : ℕ → ℕ) (c : ℕ) (Sought : ℕ → Type 0) (k end end' : ℕ) → IsOnWay n f c Sought k end → (Sought end → ⊥) → end' ≡ f end → end' < n → IsOnWay n f c Sought (k + 1) end'
way_on n f c Sought k end end' W none e l =
    let s : suc k ≡ k + 1 = omega arith in
    record {
      there = l;
      place = e ∙ ap f W.place ∙ ap (λ z. iterate z f c) s;
      passed = λ j lj found. elim (split j k lj) [
        | inl m ↦ W.passed j m found
        | inr q ↦ none (subst Sought (ap (λ z. iterate z f c) q ∙ sym W.place) found)
      ];
    }
  where
    split : (j k : ℕ) → j < k + 1 → (j < k) ⊎ (j ≡ k)
    split j k l = elim (cases_eq j k) [ inl q ↦ inr q | inr n ↦ inl (omega arith) ]

-- ---- round a vertex
module _ (g : Embedded) (R : IsRotation g) where
  at_in : (d : ℕ) → d < darts g → at g d < g.vertices
  at_in = at_below g R.ends

  pub found_other : (d k end : ℕ) → d < darts g → IsOnWay (darts g) (next g) (next g d) (IsLike d) k end → IsLike d end → HasOther g d
  found_other d k end l W f = (
    end,
    W.there,
    f.0,
    ap (at g) (W.place ∙ iterate-step k (next g) d) ∙ at-iterate g R.orders (at_below g R.ends) (suc k) d l,
    f.1,
  )

  pub no_other : (d : ℕ) → d < darts g → ((x : ℕ) → SameOrbit (next g) (next g d) x → IsLike d x → ⊥) → HasOther g d → ⊥
  no_other d l none h =
      let p : Permutes (darts g) (next g) = next-permutes g R.orders (at_below g R.ends) in
      let s : SameOrbit (next g) d h.0 = same_vertex g R.orders (at_below g R.ends) d h.0 l h.1 (sym h.3) in
      none h.0 (orbit-trans (next g) (next g d) d h.0 (orbit-sym (darts g) (next g) p d (next g d) l (orbit-step (next g) d)) s) (h.2, h.4)

no_both : true ≡ false → ⊥
no_both e = cc

pub others_in : (g : Embedded) (e : ℕ) → HasOther g (2 * e + 1) ↔ OthersIn g e
others_in g e = (
  (λ h. elim (even_or_odd h.0) [
    | inl r ↦ (let z : true ≡ false = sym (is_out-tail r.0) ∙ ap is_out (sym r.1) ∙ h.4 ∙ is_out-head e in absurd (no_both z))
    | inr r ↦ (
      r.0,
      (let a : h.0 ≡ 2 * r.0 + 1 = r.1 in let l : h.0 < darts g = h.1 in omega arith),
      (λ q. h.2 (r.1 ∙ ap (λ z. 2 * z + 1) q)),
      sym (at-head g r.0) ∙ ap (at g) (sym r.1) ∙ h.3 ∙ at-head g e,
    )
  ]),
  (λ h. (
    2 * h.0 + 1,
    (let l : h.0 < edges g = h.1 in omega arith),
    (λ q. h.2 (omega arith)),
    at-head g h.0 ∙ h.3 ∙ sym (at-head g e),
    is_out-head h.0 ∙ sym (is_out-head e),
  )),
)

pub others_out : (g : Embedded) (e : ℕ) → HasOther g (2 * e) ↔ OthersOut g e
others_out g e = (
  (λ h. elim (even_or_odd h.0) [
    | inr r ↦ (let z : true ≡ false = sym (is_out-tail e) ∙ sym h.4 ∙ ap is_out r.1 ∙ is_out-head r.0 in absurd (no_both z))
    | inl r ↦ (
      r.0,
      (let a : h.0 ≡ 2 * r.0 = r.1 in let l : h.0 < darts g = h.1 in omega arith),
      (λ q. h.2 (r.1 ∙ ap (λ z. 2 * z) q)),
      sym (at-tail g r.0) ∙ ap (at g) (sym r.1) ∙ h.3 ∙ at-tail g e,
    )
  ]),
  (λ h. (
    2 * h.0,
    (let l : h.0 < edges g = h.1 in omega arith),
    (λ q. h.2 (omega arith)),
    at-tail g h.0 ∙ h.3 ∙ sym (at-tail g e),
    is_out-tail h.0 ∙ sym (is_out-tail e),
  )),
)
