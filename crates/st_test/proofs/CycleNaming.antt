-- The loop is the cycle that is named.
use Rattle.std.proofs.Common.{◌≡◌, ℕ, zero, suc, ◌+◌, ◌-◌, ◌^◌, ◌<◌, ◌≤◌, inl, inr, Bool, true, false, List, length, get_or, refl, sym, ap, ◌∙◌, subst, arith}
use Rattle.std.specs.Prelude.{nat_lt}
use Rattle.std.proofs.lemmas.Bool.{cases_lt, both_ways, cond-true, cond-false, lt-ltb, le-ltb}
use Rattle.st_ids.specs.Graph.{tail_of, AreWithin, arcs_of}
use Rattle.st_test.specs.Poles.{graph_of}
use Rattle.st_map.specs.Orbits.{iterate}
use Rattle.st_map.proofs.Public.{iterate-add, steps}
use Rattle.st_ids.specs.Walks.{Walk, stay, step}
use Rattle.st_test.specs.Stripping.{IsStripped}
use Rattle.st_test.proofs.StripSteps.{short}
use Rattle.st_test.specs.Cycle.{IsFirstEdgeBack, IsNamedCycle, IsLoop, back_list}
use Rattle.st_test.specs.BackTables.{is_left, AreLeft, ComesIn, AreBacks, IsClosed, IsTrail, IsLeastPlace, parent, looped}
use Rattle.st_test.proofs.LongWalks.{left_long, long_left, closed}
use Rattle.st_test.proofs.BackSteps.{back_list-same, back_list-length}

-- the vertex after so many steps back, and the edge back from it
abbrev pub way : List (ℕ × ℕ) → List ℕ → ℕ → ℕ → ℕ
way ends back start k = iterate k (parent ends back) start

abbrev pub gone : List (ℕ × ℕ) → List ℕ → ℕ → ℕ → ℕ
gone ends back start k = get_or back (way ends back start k) 0

module _ (n : ℕ) (ends : List (ℕ × ℕ)) (order es : List ℕ) (left : List Bool) (back : List ℕ) (start : ℕ) (passed : List ℕ) (i f : ℕ)
    (within : AreWithin n ends) (few : length ends < 2 ^ 30) (st : IsStripped n ends order es) (lf : AreLeft n order left)
    (bk : AreBacks n ends left (length ends) back) (ls : start < n) (one : is_left left start ≡ true) (first : (u : ℕ) → u < start → is_left left u ≡ false)
    (tr : IsTrail ends back start passed i) (lp : IsLeastPlace passed i f) where
  cl : IsClosed n ends left back
  cl = closed n ends order es within st left lf back few bk

  both : (k : ℕ) → (way ends back start k < n) × (is_left left (way ends back start k) ≡ true)
  both zero = (ls, one)
  both (suc k) =
      let r : (way ends back start k < n) × (is_left left (way ends back start k) ≡ true) = both k in
      (cl.vertex (way ends back start k) r.0 r.1, cl.stays (way ends back start k) r.0 r.1)

  back_lt : (k : ℕ) → gone ends back start k < length ends
  back_lt k = cl.edge (way ends back start k) (both k).0 (both k).1

  comes : (k : ℕ) → ComesIn ends left (way ends back start k) (gone ends back start k)
  comes k = bk.found (way ends back start k) (both k).0 (back_lt k)

  is_back : (k : ℕ) → IsFirstEdgeBack (graph_of n ends) (way ends back start k) (gone ends back start k)
  is_back k = record {
    there = back_lt k;
    into = (comes k).into;
    from = left_long n ends order es within st left lf (tail_of ends (gone ends back start k)) (within (gone ends back start k) (back_lt k)).0 (comes k).from;
    first = λ d ld h long.
        let le : d < length ends = omega (arith, back_lt k) in
        bk.first (way ends back start k) d (both k).0 le ld
        (record { into = h; from = long_left n ends order es within st left lf (tail_of ends d) (within d le).0 long });
  }

  -- beyond the end of the trail the loop comes again
  turned : (x k : ℕ) → x + length passed ≡ k → way ends back start k ≡ way ends back start (x + i)
  turned x k q =
      steps (parent ends back) start k (x + length passed) (sym q) ∙ iterate-add x (length passed) (parent ends back) start
      ∙ ap (λ z. iterate x (parent ends back) z) tr.again ∙ sym (iterate-add x i (parent ends back) start)

  is_looped : (k : ℕ) → f ≤ k → k < f + (length passed - i) → looped passed back i k ≡ gone ends back start k
  is_looped k l m = ap (λ z. get_or back z 0) (elim (cases_lt k (length passed)) [
    | inl lt ↦
        ap (λ z. get_or passed z 0) (cond-true (nat_lt k (length passed)) k (k - (length passed - i)) (lt-ltb k (length passed) lt)) ∙ tr.each k lt
    | inr ge ↦
        let lf2 : f < length passed = lp.there in
        let li : i < length passed = tr.loops in
        let a : i ≤ f = lp.after in
        ap (λ z. get_or passed z 0) (cond-false (nat_lt k (length passed)) k (k - (length passed - i)) (le-ltb k (length passed) ge))
        ∙ tr.each (k - (length passed - i)) (omega arith)
        ∙ steps (parent ends back) start (k - (length passed - i)) (k - length passed + i) (omega arith)
        ∙ sym (turned (k - length passed) k (omega arith))
  ])

  walk : (k g : ℕ) → Walk (arcs_of (graph_of n ends)) (way ends back start (g + k)) (back_list (gone ends back start) g k) (way ends back start g)
  walk zero g = stay (steps (parent ends back) start (g + 0) g (omega arith))
  walk (suc k) g = step (back_lt (g + k))
      (sym (steps (parent ends back) start (g + suc k) (suc (g + k)) (omega arith)))
      (subst (λ z. Walk (arcs_of (graph_of n ends)) z (back_list (gone ends back start) g k) (way ends back start g)) (sym (comes (g + k)).into) (walk k g))

  pub named : (xs : List ℕ) → xs ≡ back_list (looped passed back i) f (length passed - i) → IsNamedCycle (graph_of n ends) xs
  named xs q = record {
    c = way ends back start;
    b = gone ends back start;
    i = i;
    j = length passed;
    f = f;
    begins = left_long n ends order es within st left lf start ls one;
    begins_first = λ v l w. both_ways (is_left left v) (first v l) (long_left n ends order es within st left lf v (omega arith) w);
    back = is_back;
    goes = λ k. refl;
    loops = tr.loops;
    again = tr.again;
    apart = λ x y l m e. tr.apart x y l m (tr.each x (omega arith) ∙ e ∙ sym (tr.each y m));
    on_loop = lp.after;
    on_loop_too = lp.there;
    least = λ k l m. omega (arith, lp.least k l m, tr.each k m, tr.each f lp.there);
    edges = q ∙ back_list-same (looped passed back i) (gone ends back start) f (length passed - i) is_looped;
  }

  pub is_loop : (xs : List ℕ) → xs ≡ back_list (looped passed back i) f (length passed - i) → IsLoop (graph_of n ends) xs
  is_loop xs q =
      let p : ℕ = length passed - i in
      let e : xs ≡ back_list (gone ends back start) f (length passed - i) = q ∙ back_list-same (looped passed back i) (gone ends back start) f (length passed - i) is_looped in
      let a : i ≤ f = lp.after in
      let li : i < length passed = tr.loops in
      let same : way ends back start (f + (length passed - i)) ≡ way ends back start f =
      turned (f - i) (f + (length passed - i)) (omega arith) ∙ steps (parent ends back) start (f - i + i) f (omega arith) in (
        way ends back start f,
        subst (λ z. Walk (arcs_of (graph_of n ends)) (way ends back start f) z (way ends back start f)) (sym e)
            (subst (λ z. Walk (arcs_of (graph_of n ends)) z (back_list (gone ends back start) f (length passed - i)) (way ends back start f)) same (walk (length passed - i) f)),
        omega (arith, ap length e, back_list-length (gone ends back start) f (length passed - i)),
      )

  pub backs_in : (k : ℕ) → k < length passed → get_or passed k 0 < length back
  backs_in k l = omega (arith, tr.each k l, (both k).0, bk.size)

  pub passed_le : length passed ≤ n
  passed_le = short n passed (λ k l. omega (arith, tr.each k l, (both k).0)) tr.apart
