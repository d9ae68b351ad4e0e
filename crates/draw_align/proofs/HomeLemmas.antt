-- The path of each edge, edge by edge.
--   homing_start, homing_listed, homing_alone, homing_end
use Rattle.std.proofs.Common.{ℕ, zero, suc, List, Option, Some, None, [], ◌∷◌, ◌++◌, ◌≡◌, ◌<◌, ◌≤◌, ◌+◌, inl, inr, refl, sym, ap, ◌∙◌, subst, arith, length, get_or}
use Rattle.std.proofs.lemmas.Bool.{cases_eq, cases_lt}
use Rattle.std.proofs.lemmas.List.{get_or_append_left, get_or_push, length_push}
use Rattle.st_ids.specs.Lists.{In, here, NoRepeat}
use Rattle.st_ids.proofs.Public.{length-le_from_below, not_in_nil, In-cases, in_subst}
use Rattle.st_sides.specs.Sides.{SidesValue, edge_count}
use Rattle.st_sides.proofs.Public.{in_at, at_in}
use Rattle.draw_align.specs.declared.steps.Step.{Step}
use Rattle.draw_align.specs.Alignment.{path_count, path_of}
use Rattle.draw_align.specs.Faults.{AreThere, AreDisjoint}
use Rattle.draw_align.specs.Homes.{HasPaths, IsHoming}
use Rattle.draw_align.specs.Listed.{path_at, AreSound}
use Rattle.draw_align.specs.Steps.{step_in_table, AreSteps}
use Rattle.draw_align.proofs.StepLemmas.{one_path}

number_old : (xs : List ℕ) (x e : ℕ) → e < length xs → get_or (xs ++ x ∷ []) e 0 ≡ get_or xs e 0
number_old xs x e l = get_or_append_left xs (x ∷ []) 0 e l

number_new : (xs : List ℕ) (x e : ℕ) → e ≡ length xs → get_or (xs ++ x ∷ []) e 0 ≡ x
number_new xs x e q = get_or_push xs x 0 e (sym q)

path_old : (xs : List (List ℕ)) (x : List ℕ) (p : ℕ) → p < length xs → path_at (xs ++ x ∷ []) p ≡ path_at xs p
unfolding path_at
path_old xs x p l = get_or_append_left xs (x ∷ []) [] p l

path_new : (xs : List (List ℕ)) (x : List ℕ) (p : ℕ) → p ≡ length xs → path_at (xs ++ x ∷ []) p ≡ x
unfolding path_at
path_new xs x p q = get_or_push xs x [] p (sym q)

module _ (g : SidesValue) (ps : List (List ℕ)) where
  pub homing_start : IsHoming g ps 0 [] (length ps)
  homing_start = record {
    lists = ps;
    size = refl;
    count = refl;
    from = omega arith;
    to = omega arith;
    listed = λ p l. refl;
    alone = λ p l m. absurd (omega arith);
    in_order = λ e f l m. absurd (omega arith);
    home_in = λ e l. absurd (omega arith);
    home = λ e l. absurd (omega arith);
    only_home = λ p e l m. absurd (omega arith);
  }

  module _ (sound : AreSound g ps (length ps)) (T : List (Option Step)) (A : AreSteps g ps (length ps) T) (n next : ℕ) (homes : List ℕ) (H : IsHoming g ps n homes next) where
    size : length homes ≡ n
    size = H.size

    old : (x e : ℕ) → e < n → get_or (homes ++ x ∷ []) e 0 ≡ get_or homes e 0
    old x e l = number_old homes x e (omega (arith, size))

    new : (x e : ℕ) → e ≡ n → get_or (homes ++ x ∷ []) e 0 ≡ x
    new x e q = number_new homes x e (q ∙ sym size)

    disjoint : AreDisjoint g ps (length ps)
    disjoint p l = ((sound p l).is_path, (sound p l).unshared)

    not_alone : (p : ℕ) → length ps ≤ p → p < next → In n (path_at H.lists p) → ⊥
    not_alone p l m i =
        let h = H.alone p l m in
        elim (In-cases (subst (λ z. In n z) h.2 i)) [ inl q ↦ (let k : h.0 < n = h.1 in omega arith) | inr k ↦ not_in_nil k ]

    pub homing_listed : (s : Step) → step_in_table T n ≡ Some s → IsHoming g ps (n + 1) (homes ++ s.path ∷ []) next
    homing_listed s q =
        let t = A.told n s q in
        let sl : s.path < length ps = t.0 in
        let from : length ps ≤ next = H.from in
        let to : next ≤ length ps + n = H.to in
        let on : In n (path_at ps s.path) = in_at n (path_at ps s.path) t.1.place t.1.there t.1.is in
        let x : get_or (homes ++ s.path ∷ []) n 0 ≡ s.path = new s.path n refl in
        record {
          lists = H.lists;
          size = omega (arith, length_push homes s.path, size);
          count = H.count;
          from = H.from;
          to = omega arith;
          listed = H.listed;
          alone = λ p l m. (let h = H.alone p l m in (h.0, (let k : h.0 < n = h.1 in omega arith), h.2));
          in_order = λ e f l m a b. elim (cases_eq f n) [
            | inl r ↦ (let y : get_or (homes ++ s.path ∷ []) f 0 ≡ s.path = new s.path f r in absurd (omega arith))
            | inr d ↦
                let fl : f < n = omega arith in
                let u : get_or (homes ++ s.path ∷ []) e 0 ≡ get_or homes e 0 = old s.path e (omega arith) in
                let v : get_or (homes ++ s.path ∷ []) f 0 ≡ get_or homes f 0 = old s.path f fl in
                let k : get_or homes e 0 < get_or homes f 0 = H.in_order e f l fl (omega arith) (omega arith) in
                omega arith
          ];
          home_in = λ e l. elim (cases_eq e n) [
            | inl r ↦ (let y : get_or (homes ++ s.path ∷ []) e 0 ≡ s.path = new s.path e r in omega arith)
            | inr d ↦ (let u : get_or (homes ++ s.path ∷ []) e 0 ≡ get_or homes e 0 = old s.path e (omega arith) in let k : get_or homes e 0 < next = H.home_in e (omega arith) in omega arith)
          ];
          home = λ e l. elim (cases_eq e n) [
            | inl r ↦ subst (λ z. In e (path_at H.lists z)) (sym (new s.path e r)) (subst (λ z. In e z) (sym (H.listed s.path sl)) (in_subst (sym r) on))
            | inr d ↦ subst (λ z. In e (path_at H.lists z)) (sym (old s.path e (omega arith))) (H.home e (omega arith))
          ];
          only_home = λ p e l m i. elim (cases_eq e n) [
            | inl r ↦ new s.path e r ∙ elim (cases_lt p (length ps)) [
              | inl h ↦ one_path g ps (length ps) disjoint s.path p n sl h on (subst (λ z. In n z) (H.listed p h) (in_subst r i))
              | inr h ↦ absurd (not_alone p h l (in_subst r i))
            ]
            | inr d ↦ old s.path e (omega arith) ∙ H.only_home p e l (omega arith) i
          ];
        }

    pub homing_alone : step_in_table T n ≡ None → IsHoming g ps (n + 1) (homes ++ next ∷ []) (next + 1)
    homing_alone q =
        let from : length ps ≤ next = H.from in
        let to : next ≤ length ps + n = H.to in
        let count : length H.lists ≡ next = H.count in
        let p_old : (p : ℕ) → p < next → path_at (H.lists ++ (n ∷ []) ∷ []) p ≡ path_at H.lists p = λ p l. path_old H.lists (n ∷ []) p (omega (arith, count)) in
        let p_new : (p : ℕ) → p ≡ next → path_at (H.lists ++ (n ∷ []) ∷ []) p ≡ n ∷ [] = λ p r. path_new H.lists (n ∷ []) p (r ∙ sym count) in
        record {
          lists = H.lists ++ (n ∷ []) ∷ [];
          size = omega (arith, length_push homes next, size);
          count = omega (arith, length_push H.lists (n ∷ []), count);
          from = omega arith;
          to = omega arith;
          listed = λ p l. p_old p (omega arith) ∙ H.listed p l;
          alone = λ p l m. elim (cases_eq p next) [
            | inl r ↦ (n, omega arith, p_new p r)
            | inr d ↦ (let h = H.alone p l (omega arith) in (h.0, (let k : h.0 < n = h.1 in omega arith), p_old p (omega arith) ∙ h.2))
          ];
          in_order = λ e f l m a b. elim (cases_eq f n) [
            | inl r ↦
                let el : e < n = omega arith in
                let y : get_or (homes ++ next ∷ []) f 0 ≡ next = new next f r in
                let u : get_or (homes ++ next ∷ []) e 0 ≡ get_or homes e 0 = old next e el in
                let k : get_or homes e 0 < next = H.home_in e el in
                omega arith
            | inr d ↦
                let fl : f < n = omega arith in
                let u : get_or (homes ++ next ∷ []) e 0 ≡ get_or homes e 0 = old next e (omega arith) in
                let v : get_or (homes ++ next ∷ []) f 0 ≡ get_or homes f 0 = old next f fl in
                let k : get_or homes e 0 < get_or homes f 0 = H.in_order e f l fl (omega arith) (omega arith) in
                omega arith
          ];
          home_in = λ e l. elim (cases_eq e n) [
            | inl r ↦ (let y : get_or (homes ++ next ∷ []) e 0 ≡ next = new next e r in omega arith)
            | inr d ↦ (let u : get_or (homes ++ next ∷ []) e 0 ≡ get_or homes e 0 = old next e (omega arith) in let k : get_or homes e 0 < next = H.home_in e (omega arith) in omega arith)
          ];
          home = λ e l. elim (cases_eq e n) [
            | inl r ↦ subst (λ z. In e z) (sym (p_new (get_or (homes ++ next ∷ []) e 0) (new next e r))) (here r)
            | inr d ↦
                let el : e < n = omega arith in
                subst (λ z. In e (path_at (H.lists ++ (n ∷ []) ∷ []) z)) (sym (old next e el)) (subst (λ z. In e z) (sym (p_old (get_or homes e 0) (H.home_in e el))) (H.home e el))
          ];
          only_home = λ p e l m i. elim (cases_eq p next) [
            | inl r ↦ elim (In-cases (subst (λ z. In e z) (p_new p r) i)) [ inl k ↦ new next e k ∙ sym r | inr k ↦ absurd (not_in_nil k) ]
            | inr d ↦
                let pl : p < next = omega arith in
                let j : In e (path_at H.lists p) = subst (λ z. In e z) (p_old p pl) i in
                elim (cases_eq e n) [
                  | inl r ↦ elim (cases_lt p (length ps)) [
                    | inl h ↦ absurd (A.full p n h (subst (λ z. In n z) (H.listed p h) (in_subst r j)) q)
                    | inr h ↦ absurd (not_alone p h pl (in_subst r j))
                  ]
                  | inr ne ↦ old next e (omega arith) ∙ H.only_home p e pl (omega arith) j
                ]
          ];
        }

  pub homing_end : AreThere g ps → (n next : ℕ) (homes : List ℕ) → IsHoming g ps n homes next → n ≡ edge_count g → HasPaths g ps homes next
  unfolding path_count path_of
  homing_end there n next homes H q = record {
    paths = record { lists = H.lists; homes = homes };
    completed = record {
      listed = H.listed;
      size = (let a : length ps ≤ next = H.from in let b : length H.lists ≡ next = H.count in omega arith);
      alone = λ p l m. (let b : length H.lists ≡ next = H.count in let h = H.alone p l (omega arith) in (h.0, (let k : h.0 < n = h.1 in omega arith), h.2));
      in_order = λ e f l m. H.in_order e f l (omega arith);
      home_in = λ e a. (let b : length H.lists ≡ next = H.count in let h : get_or homes e 0 < next = H.home_in e (omega arith) in omega arith);
      home = λ e a. H.home e (omega arith);
      only_home = λ p e l i. (let b : length H.lists ≡ next = H.count in H.only_home p e (omega arith) (elim (cases_lt p (length ps)) [
        | inl h ↦ (let k : e < edge_count g = there p e h (subst (λ z. In e z) (H.listed p h) i) in omega arith)
        | inr h ↦ (let a = H.alone p h (omega arith) in elim (In-cases (subst (λ z. In e z) a.2 i)) [ inl r ↦ (let k : a.0 < n = a.1 in omega arith) | inr k ↦ absurd (not_in_nil k) ])
      ]) i);
    };
    homes_are = refl;
    size = H.size ∙ q;
    count = H.count;
    few = (let k : next ≤ length ps + n = H.to in omega arith);
  }

-- ---- there are no more sound paths than edges
module _ (g : SidesValue) (ps : List (List ℕ)) (A : AreThere g ps) (sound : AreSound g ps (length ps)) where
  record Firsts (k : ℕ) : Type 0 where
    pub list : List ℕ
    pub size : length list ≡ k
    pub once : NoRepeat list
    pub below : (x : ℕ) → In x list → x < edge_count g
    pub from : (x : ℕ) → In x list → (p : ℕ) × (p < k) × In x (path_at ps p)

  firsts : (k : ℕ) → k ≤ length ps → Firsts k
  firsts zero l = record { list = []; size = refl; once = tt; below = λ x i. absurd (not_in_nil i); from = λ x i. absurd (not_in_nil i) }
  firsts (suc k) l =
      let F = firsts k (omega arith) in
      let s = sound k (omega arith) in
      let e = s.is_path.some in
      record {
        list = e.0 ∷ F.list;
        size = ap suc F.size;
        once = ((λ i. (let h = F.from e.0 i in s.unshared e.0 e.1 (record { other = h.0; earlier = h.1; on = h.2 }))), F.once);
        below = λ x i. elim (In-cases i) [ inl q ↦ A k x (omega arith) (subst (λ z. In z (path_at ps k)) (sym q) e.1) | inr j ↦ F.below x j ];
        from = λ x i. elim (In-cases i) [
          | inl q ↦ (k, omega arith, subst (λ z. In z (path_at ps k)) (sym q) e.1)
          | inr j ↦ (let h = F.from x j in (h.0, (let m : h.0 < k = h.1 in omega arith), h.2))
        ];
      }

  pub few_paths : length ps ≤ edge_count g
  few_paths = (let F = firsts (length ps) (omega arith) in let h : length F.list ≤ edge_count g = length-le_from_below (edge_count g) F.list F.once F.below in omega (arith, F.size))

-- ---- a path more
pub path_more : (ps qs : List (List ℕ)) (es : List ℕ) (n : ℕ) → qs ≡ ps ++ es ∷ [] → ((p e : ℕ) → p < length ps → In e (path_at ps p) → e < n) → ((k : ℕ) → k < length es → get_or es k 0 < n)
    → (p e : ℕ) → p < length qs → In e (path_at qs p) → e < n
path_more ps qs es n q old new p e l i =
    let s : length (ps ++ es ∷ []) ≡ length ps + 1 = length_push ps es in
    let m : p < length (ps ++ es ∷ []) = subst (λ z. p < length z) q l in
    let j : In e (path_at (ps ++ es ∷ []) p) = subst (λ z. In e (path_at z p)) q i in
    elim (cases_lt p (length ps)) [
      | inl h ↦ old p e h (subst (λ z. In e z) (path_old ps es p h) j)
      | inr h ↦
          let at = at_in (subst (λ z. In e z) (path_new ps es p (omega arith)) j) in
          subst (λ z. z < n) at.2 (new at.0 at.1)
    ]
