-- Walks by places, and the table of steps.
--   joined, walk_of      a walk is a list of arcs each of which begins where the one before it ends
--   next_place           the arc that leads on stands at the next place
--   all_there            the edges of a listed path are in range
--   noting_start, noting_more, noting_end   a path is noted edge by edge
--   shared_told, told_shared   the table tells of an edge exactly where it is shared
--   noted_start, noted_more   no path, and one path more
--   one_path             paths that share no edges have none in common
--   none_told, none_next, another_path, passes_on   what the table tells of paths that pass
use Rattle.std.proofs.Common.{ℕ, zero, suc, List, Option, Some, None, true, false, [], ◌∷◌, ◌≡◌, ◌≢◌, ◌<◌, ◌≤◌, ◌+◌, inl, inr, refl, sym, ap, ◌∙◌, subst, arith, length, get_or}
use Rattle.std.specs.List.{All}
use Rattle.std.proofs.Math.ListN.{set}
use Rattle.std.proofs.lemmas.Bool.{cases_eq, cases_lt}
use Rattle.std.proofs.lemmas.List.{get_or-set_same, get_or-set_other, length-set, length-replicate}
use Rattle.std.proofs.lemmas.Option.{get_or_from_slice_get}
use Rattle.std.specs.Prelude.{slice_get, IfSome, is_some, replicate}
use Rattle.st_ids.specs.EdgeNumbers.{numbers}
use Rattle.st_ids.specs.declared.ids.EdgeId.{EdgeId}
use Rattle.st_ids.specs.Lists.{In, here, there}
use Rattle.st_ids.specs.Walks.{Arcs, Walk, stay, step, IsAcyclic}
use Rattle.st_ids.proofs.Public.{not_in_nil, walk_from, unique_tail, none_from_end}
use Rattle.st_sides.specs.Sides.{SidesValue, IsSides, edge_count, edge_tail, edge_head, primal}
use Rattle.st_sides.proofs.Public.{in_at, at_in}
use Rattle.st_number.proofs.Public.{number_at, numbers_size}
use Rattle.draw_align.specs.declared.steps.Step.{Step}
use Rattle.draw_align.specs.declared.path_fault.PathFault.{PathFault}
use Rattle.draw_align.specs.declared.path_fault.PathFault.TheVariants.{NotAPath, SharedEdge, Crossing, NoMemory}
use Rattle.draw_align.specs.Faults.{AreThere, AreDisjoint, IsUnshared, IsFaultOf, IsPathFault}
use Rattle.draw_align.specs.Listed.{path_at, IsPath, IsShared, AreSound}
use Rattle.draw_align.specs.Steps.{step_in_table, IsStep, AreSteps, IsNoting, AreNoted, PassesThrough}

-- ---- walks by places
pub joined : {D : Arcs} {u v : ℕ} {es : List ℕ} → Walk D u es v → (k : ℕ) → suc k < length es → D.from (get_or es (suc k) 0) ≡ D.to (get_or es k 0)
joined (stay q) k l = absurd (omega arith)
joined (step a t (stay q)) k l = absurd (omega arith)
joined (step a t (step b u w)) zero l = u
joined (step a t w) (suc k) l = joined w k (omega arith)

walk_to_end : (D : Arcs) (x : ℕ) (xs : List ℕ) → ((k : ℕ) → k < length (x ∷ xs) → get_or (x ∷ xs) k 0 < D.count)
    → ((k : ℕ) → suc k < length (x ∷ xs) → D.from (get_or (x ∷ xs) (suc k) 0) ≡ D.to (get_or (x ∷ xs) k 0)) → (v : ℕ) × Walk D (D.from x) (x ∷ xs) v
walk_to_end D x [] all j = (D.to x, step (all 0 (omega arith)) refl (stay refl))
walk_to_end D x (y ∷ ys) all j =
    let r = walk_to_end D y ys (λ k l. all (suc k) (omega arith)) (λ k l. j (suc k) (omega arith)) in
    (r.0, step (all 0 (omega arith)) refl (walk_from (j 0 (omega arith)) r.1))

pub walk_of : (g : SidesValue) (es : List ℕ) → 0 < length es → ((k : ℕ) → k < length es → get_or es k 0 < edge_count g)
    → ((k : ℕ) → suc k < length es → edge_tail g (get_or es (suc k) 0) ≡ edge_head g (get_or es k 0)) → IsPath g es
walk_of g [] l all j = absurd (omega arith)
walk_of g (x ∷ xs) l all j = let r = walk_to_end (primal g) x xs all j in record { from = edge_tail g x; to = r.0; walk = r.1; some = (x, here refl) }

pub path_joined : (g : SidesValue) (es : List ℕ) → IsPath g es → (k : ℕ) → suc k < length es → edge_tail g (get_or es (suc k) 0) ≡ edge_head g (get_or es k 0)
path_joined g es p k l = joined p.walk k l

pub path_some : (g : SidesValue) (es : List ℕ) → IsPath g es → length es ≡ 0 → ⊥
path_some g [] p q = not_in_nil p.some.1
path_some g (x ∷ xs) p q = omega arith

ends_at : {D : Arcs} {u v : ℕ} {es : List ℕ} → Walk D u es v → (k : ℕ) → suc k ≡ length es → D.to (get_or es k 0) ≡ v
ends_at (stay q) k l = absurd (omega arith)
ends_at (step a t (stay q)) zero l = q
ends_at (step a t (step b u w)) zero l = absurd (omega arith)
ends_at (step a t w) (suc k) l = ends_at w k (omega arith)

pub next_place : {D : Arcs} → IsAcyclic D → {u v : ℕ} {es : List ℕ} → Walk D u es v → (k y : ℕ) → k < length es → In y es → D.from y ≡ D.to (get_or es k 0) → (suc k < length es) × (get_or es (suc k) 0 ≡ y)
next_place acyclic {es = es} w k y l i q = elim (cases_lt (suc k) (length es)) [
  | inl m ↦ (m, unique_tail acyclic w (get_or es (suc k) 0) y (in_at (get_or es (suc k) 0) es (suc k) m refl) i (joined w k m ∙ sym q))
  | inr m ↦ absurd (none_from_end acyclic w i (q ∙ ends_at w k (omega arith)))
]

-- ---- the edges of a path
edge_in : (es : List EdgeId) (k : ℕ) (d : EdgeId) → k < length es → In (get_or es k d).0 (numbers es)
edge_in [] k d l = absurd (omega arith)
edge_in (e ∷ es) zero d l = here refl
edge_in (e ∷ es) (suc k) d l = there (edge_in es k d (omega arith))

pub all_below : (n : ℕ) (es : List EdgeId) → ((x : ℕ) → In x (numbers es) → x < n) → All (λ (e : EdgeId). e.0 < n) es
all_below n es h k d l = h (get_or es k d).0 (edge_in es k d l)

-- a slice of edges that are those of path p
module _ (ps : List (List ℕ)) (p : ℕ) (es : List EdgeId) (V : numbers es ≡ path_at ps p) where
  pub edge_is : (k : ℕ) → (get_or es k (record { 0 = 0 })).0 ≡ get_or (path_at ps p) k 0
  edge_is k = sym (number_at es k) ∙ ap (λ z. get_or z k 0) V

  pub size_is : length es ≡ length (path_at ps p)
  size_is = sym (numbers_size es) ∙ ap length V

  pub is_step : (k : ℕ) (r : Option EdgeId) → k < length (path_at ps p) → IfSome r (λ d. (k + 1 < length (numbers es)) × (get_or (numbers es) (k + 1) 0 ≡ d.0)) → (r ≡ None → length (numbers es) ≤ k + 1)
      → IsStep ps (get_or (path_at ps p) k 0) (record { path = p; next = r })
  is_step k r l some none = record {
    place = k;
    there = l;
    is = refl;
    next = λ d q.
        let h = subst (λ z. IfSome z (λ d. (k + 1 < length (numbers es)) × (get_or (numbers es) (k + 1) 0 ≡ d.0))) q some in
        let m : k + 1 < length (numbers es) = h.0 in
        let e : k + 1 ≡ suc k = omega arith in
        (subst (λ z. suc k < length z) V (omega arith), subst (λ z. get_or z (suc k) 0 ≡ d.0) V (subst (λ j. get_or (numbers es) j 0 ≡ d.0) e h.1));
    last = λ q. (let m : length (numbers es) ≤ k + 1 = none q in subst (λ z. length z ≤ suc k) V (omega arith));
  }

pub path_is : (ps : List (List ℕ)) (p : ℕ) (es : List ℕ) → slice_get ps p ≡ Some es → es ≡ path_at ps p
unfolding path_at
path_is ps p es q = sym (get_or_from_slice_get ps p es [] q)

pub at_there : (g : SidesValue) (ps : List (List ℕ)) → AreThere g ps → (p : ℕ) → p < length ps → (k : ℕ) → k < length (path_at ps p) → get_or (path_at ps p) k 0 < edge_count g
at_there g ps A p l k m = A p (get_or (path_at ps p) k 0) l (in_at (get_or (path_at ps p) k 0) (path_at ps p) k m refl)

-- ---- the table
step_same : (T : List (Option Step)) (i : ℕ) (s : Option Step) → i < length T → step_in_table (set T i s) i ≡ s
unfolding step_in_table
step_same T i s l = get_or-set_same T i s None l

step_other : (T : List (Option Step)) (i j : ℕ) (s : Option Step) → j ≢ i → step_in_table (set T i s) j ≡ step_in_table T j
unfolding step_in_table
step_other T i j s d = get_or-set_other T i j s None d

some_of : {s t : Step} → Some s ≡ Some t → s ≡ t
some_of q = cc q

none_some : {s : Step} → Some s ≡ None → ⊥
none_some q = cc q

module _ (g : SidesValue) (ps : List (List ℕ)) (p : ℕ) where
  pub noting_start : (T : List (Option Step)) → AreSteps g ps p T → IsNoting g ps p 0 T
  noting_start T A = record {
    size = A.size;
    told = λ e s q. (let h : s.path < p = (A.told e s q).0 in omega arith, (A.told e s q).1);
    full = A.full;
    noted = λ i l. absurd (omega arith);
  }

  module _ (T : List (Option Step)) (k : ℕ) (s : Step) (N : IsNoting g ps p k T) (x : ℕ) (xq : get_or (path_at ps p) k 0 ≡ x) (a : x < edge_count g) where
    x_in : x < length T
    x_in = (let h : length T ≡ edge_count g = N.size in omega arith)

    keep : (e : ℕ) → step_in_table (set T x (Some s)) e ≡ None → (step_in_table T e ≡ None → ⊥) → ⊥
    keep e h n = elim (cases_eq e x) [
      | inl r ↦ none_some (sym (step_same T x (Some s) x_in) ∙ subst (λ z. step_in_table (set T x (Some s)) z ≡ None) r h)
      | inr d ↦ n (sym (step_other T x e (Some s) d) ∙ h)
    ]

    pub noting_more : s.path ≡ p → IsStep ps x s → IsNoting g ps p (k + 1) (set T x (Some s))
    noting_more q S = record {
      size = length-set T x (Some s) ∙ N.size;
      told = λ e t h. elim (cases_eq e x) [
        | inl r ↦
            let w : s ≡ t = some_of (sym (step_same T x (Some s) x_in) ∙ subst (λ z. step_in_table (set T x (Some s)) z ≡ Some t) r h) in
            subst (λ (z : Step). (z.path ≤ p) × IsStep ps e z) w ((let m : s.path ≡ p = q in omega arith), subst (λ z. IsStep ps z s) (sym r) S)
        | inr d ↦ N.told e t (sym (step_other T x e (Some s) d) ∙ h)
      ];
      full = λ r e m i h. keep e h (λ k. N.full r e m i k);
      noted = λ i m h. elim (cases_eq i k) [
        | inl r ↦ none_some (sym (step_same T x (Some s) x_in) ∙ subst (λ z. step_in_table (set T x (Some s)) z ≡ None) (ap (λ z. get_or (path_at ps p) z 0) r ∙ xq) h)
        | inr d ↦ keep (get_or (path_at ps p) i 0) h (λ n. N.noted i (omega arith) n)
      ];
    }

  pub noting_end : (T : List (Option Step)) (k : ℕ) → IsNoting g ps p k T → length (path_at ps p) ≤ k → AreSteps g ps (p + 1) T
  noting_end T k N l = record {
    size = N.size;
    told = λ e s q. (let h : s.path ≤ p = (N.told e s q).0 in omega arith, (N.told e s q).1);
    full = λ r e m i. elim (cases_lt r p) [
      | inl h ↦ N.full r e h i
      | inr h ↦
          let q : r ≡ p = omega arith in
          let at : (j : ℕ) × (j < length (path_at ps p)) × (get_or (path_at ps p) j 0 ≡ e) = at_in (subst (λ z. In e (path_at ps z)) q i) in
          let j : at.0 < length (path_at ps p) = at.1 in
          (λ n. N.noted at.0 (omega arith) (subst (λ z. step_in_table T z ≡ None) (sym at.2) n))
    ];
  }

  pub told_shared : (T : List (Option Step)) → AreSteps g ps p T → (e : ℕ) (s : Step) → step_in_table T e ≡ Some s → IsShared ps p e
  told_shared T A e s q =
      let h = A.told e s q in
      record { other = s.path; earlier = h.0; on = in_at e (path_at ps s.path) h.1.place h.1.there h.1.is }

  pub shared_told : (T : List (Option Step)) → AreSteps g ps p T → (e : ℕ) → step_in_table T e ≡ None → IsShared ps p e → ⊥
  shared_told T A e q h = A.full h.other e h.earlier h.on q

pub noted_start : (g : SidesValue) (ps : List (List ℕ)) (T : List (Option Step)) → AreSteps g ps 0 T → AreNoted g ps 0 T
noted_start g ps T A = record { within = omega arith; disjoint = λ p l. absurd (omega arith); steps = A }

pub noted_more : (g : SidesValue) (ps : List (List ℕ)) (p : ℕ) (T T' : List (Option Step)) → p < length ps → AreNoted g ps p T → IsPath g (path_at ps p) × IsUnshared ps p → AreSteps g ps (p + 1) T' → AreNoted g ps (p + 1) T'
noted_more g ps p T T' l N h A = record {
  within = omega arith;
  disjoint = λ q m. elim (cases_eq q p) [
    | inl e ↦ subst (λ z. IsPath g (path_at ps z) × IsUnshared ps z) (sym e) h
    | inr d ↦ N.disjoint q (omega arith)
  ];
  steps = A;
}

-- paths that share no edges have none in common
pub one_path : (g : SidesValue) (ps : List (List ℕ)) (n : ℕ) → AreDisjoint g ps n → (q r e : ℕ) → q < n → r < n → In e (path_at ps q) → In e (path_at ps r) → q ≡ r
one_path g ps n D q r e l m i j = elim (cases_eq q r) [
  | inl h ↦ h
  | inr d ↦ elim (cases_lt q r) [
    | inl h ↦ absurd ((D r m).1 e j (record { other = q; earlier = h; on = i }))
    | inr h ↦ absurd ((D q l).1 e i (record { other = r; earlier = (let k : r < q = omega arith in k); on = j }))
  ]
]

-- ---- what the table tells of paths that pass
module _ (g : SidesValue) (S : IsSides g) (ps : List (List ℕ)) (A : AreThere g ps) (n : ℕ) (T : List (Option Step)) (N : AreNoted g ps n T) where
  -- where a path comes by e and goes on by y, it is the one that the table tells of, and y stands at the next place
  step_place : (q e y : ℕ) (s : Step) → step_in_table T e ≡ Some s → q < n → PassesThrough g ps q e y → (I : IsStep ps e s)
      → (q ≡ s.path) × (suc I.place < length (path_at ps s.path)) × (get_or (path_at ps s.path) (suc I.place) 0 ≡ y)
  step_place q e y s t l P I =
      let on : In e (path_at ps s.path) = in_at e (path_at ps s.path) I.place I.there I.is in
      let before : s.path < n = (N.steps.told e s t).0 in
      let same : q ≡ s.path = one_path g ps n N.disjoint q s.path e l before P.x_on on in
      let h = next_place S.acyclic (N.disjoint s.path before).0.walk I.place y I.there (subst (λ z. In y (path_at ps z)) same P.y_on) (P.joined ∙ ap (edge_head g) (sym I.is)) in
      (same, h.0, h.1)

  pub none_told : (e : ℕ) → step_in_table T e ≡ None → (q y : ℕ) → q < n → PassesThrough g ps q e y → ⊥
  none_told e t q y l P = N.steps.full q e l P.x_on t

  pub none_next : (e : ℕ) (s : Step) → step_in_table T e ≡ Some s → s.next ≡ None → (q y : ℕ) → q < n → PassesThrough g ps q e y → ⊥
  none_next e s t z q y l P =
      let I = (N.steps.told e s t).1 in
      let h : suc I.place < length (path_at ps s.path) = (step_place q e y s t l P I).1 in
      let k : length (path_at ps s.path) ≤ suc I.place = I.last z in
      omega arith

  pub another_path : (e : ℕ) (s : Step) → step_in_table T e ≡ Some s → (q y : ℕ) → q < n → PassesThrough g ps q e y → q ≡ s.path
  another_path e s t q y l P = (step_place q e y s t l P (N.steps.told e s t).1).0

  pub passes_on : (e : ℕ) (s : Step) (d : EdgeId) → step_in_table T e ≡ Some s → s.next ≡ Some d → PassesThrough g ps s.path e d.0
  passes_on e s d t z =
      let before : s.path < n = (N.steps.told e s t).0 in
      let I = (N.steps.told e s t).1 in
      let h = I.next d z in
      record {
        x_on = in_at e (path_at ps s.path) I.place I.there I.is;
        y_on = in_at d.0 (path_at ps s.path) (suc I.place) h.0 h.1;
        joined = ap (edge_tail g) (sym h.1) ∙ path_joined g (path_at ps s.path) (N.disjoint s.path before).0 I.place h.0 ∙ ap (edge_head g) I.is;
      }

  pub next_there : (e : ℕ) (s : Step) (d : EdgeId) → step_in_table T e ≡ Some s → s.next ≡ Some d → d.0 < edge_count g
  next_there e s d t z = (let before : s.path < n = (N.steps.told e s t).0 in let w : n ≤ length ps = N.within in A s.path d.0 (omega arith) (passes_on e s d t z).y_on)

pub some_case : (r : Option Step) → is_some r ≡ true → (s : Step) × (r ≡ Some s)
some_case (Some s) q = (s, refl)
some_case None q = absurd (cc q)

pub none_case : (r : Option Step) → is_some r ≡ false → r ≡ None
none_case (Some s) q = absurd (cc q)
none_case None q = refl

no_step : (n e : ℕ) (s : Step) → step_in_table (replicate n None) e ≡ Some s → ⊥
unfolding step_in_table
no_step zero e s q = cc q
no_step (suc n) zero s q = cc q
no_step (suc n) (suc e) s q = no_step n e s q

pub no_steps : (g : SidesValue) (ps : List (List ℕ)) (T : List (Option Step)) → T ≡ replicate (edge_count g) None → AreSteps g ps 0 T
no_steps g ps T q = record {
  size = ap length q ∙ length-replicate (edge_count g) None;
  told = λ e s h. absurd (no_step (edge_count g) e s (subst (λ z. step_in_table z e ≡ Some s) q h));
  full = λ r e l. absurd (omega arith);
}

pub as_first_fault : (g : SidesValue) (ps : List (List ℕ)) (p : ℕ) (f : PathFault) → p < length ps → AreSound g ps p → IsFaultOf g ps p f → IsPathFault g ps f
as_first_fault g ps p (NotAPath q) l b h = record { path = p; there = l; before = b; fault = h }
as_first_fault g ps p (SharedEdge q e) l b h = record { path = p; there = l; before = b; fault = h }
as_first_fault g ps p (Crossing q r v) l b h = record { path = p; there = l; before = b; fault = h }
as_first_fault g ps p NoMemory l b h = tt
