-- The faults that are named are the first ones.
use Rattle.std.proofs.Common.{ℕ, ◌≡◌, ◌<◌, ◌≤◌, inl, inr, Bool, true, List, length, refl, sym, ap, ◌∙◌, subst, arith}
use Rattle.std.specs.Prelude.{slice_index, Option, Some, None, IfNone, IfSome, IsSome}
use Rattle.std.proofs.lemmas.Bool.{cases_eq, both_ways}
use Rattle.st_ids.specs.Graph.{Graph, HasEnds}
use Rattle.st_bipolar.specs.Search.{level, HasNoJoint}
use Rattle.st_bipolar.specs.Faults.{AreBranches, IsFirstApart, IsFirstJoint, IsJoint, IsKept, IsOff, IsSecond, IsSpread, is_marked}
use Rattle.st_ids.specs.Undirected.{IsConnected, IsJoined}
use Rattle.st_bipolar.specs.Cuts.{CutsOff, HasAll, IsFirstCut, IsStNumbering, IsVisited, Meets}
use Rattle.st_map.specs.Orders.{HasNoLoop}
use Rattle.st_bipolar.specs.Ordering.{AreListRanks, IsSearchTree}
use Rattle.st_bipolar.specs.Numbering.{AreRankNumbers}
use Rattle.st_bipolar.proofs.AboveLemmas.{above_from, low_of_parent, root}
use Rattle.st_bipolar.proofs.VisitedLemmas.{visited_law, cuts, whole, is_joined, is_apart, vertex_apart}

module _ (g : Graph) (s t : ℕ) (vs parent low : List ℕ) (V : IsVisited g s t vs parent low) where
  -- ---- apart
  module _ (starts marks : List Bool) (B : IsSecond (slice_index low) starts) (M : IsSpread (length vs) (slice_index parent) starts marks) where
    kept_joined : (v : ℕ) → IsKept vs marks v → IsJoined g (λ _. Unit {0}) v s
    kept_joined v h = subst (λ z. IsJoined g (λ _. Unit {0}) z s) h.2 (is_joined g s t vs parent low V h.0 h.1 (elim (cases_eq (slice_index low 1) 0) [
      | inl e ↦ inr e
      | inr d ↦ inl (λ a. both_ways (is_marked marks h.0) h.3 (M.all 1 h.0 h.1 (B.all d) a))
    ]))

    pub apart_none : ((v : ℕ) → v < g.vertices → IsKept vs marks v) → IsConnected g s
    apart_none all = λ v l. kept_joined v (all v l)

    pub apart_all : ((v : ℕ) → v < g.vertices → IsKept vs marks v) → HasAll g vs
    apart_all all = λ v l. let h = all v l in (h.0, h.1, h.2)

    pub apart_some : (v : ℕ) → (v < g.vertices) × IsOff vs marks v → ((u : ℕ) → u < v → IsKept vs marks u) → IsFirstApart g s v
    apart_some v off first = record {
      within = off.0;
      apart = is_apart g s t vs parent low V v (λ k l e.
          let h = M.from k l (off.1 k l e) in
          let q = B.only h.0 h.1 in
          (above_from q.0 h.2, q.1));
      first = λ u l. kept_joined u (first u l);
    }

  -- ---- cut
  pub no_joint : ((j : ℕ) → IsJoint (length vs) (slice_index parent) (slice_index low) j → ⊥) → HasNoJoint (length vs) (slice_index parent) (slice_index low)
  no_joint off k t l =
      let h : slice_index low k ≤ slice_index parent k = low_of_parent (length vs) (Meets g vs) (slice_index parent) (slice_index low) V.search V.lows k t l in
      elim (cases_eq (slice_index low k) (slice_index parent k)) [
        | inl e ↦ absurd (off (slice_index parent k) (k, t, l, refl, e))
        | inr d ↦ omega arith
      ]

  module _ (all : HasAll g vs) (j : ℕ) (J : IsFirstJoint vs (slice_index parent) (slice_index low) j) (starts marks : List Bool) (B : AreBranches (length vs) (slice_index parent) (slice_index low) j starts)
      (M : IsSpread (length vs) (slice_index parent) starts marks) where
    pub joint_in : j < length vs
    joint_in =
        let k : ℕ = J.joint.0 in
        let u : slice_index parent J.joint.0 < J.joint.0 = V.search.up J.joint.0 (omega (arith, J.joint.1)) J.joint.2 in
        omega (arith, J.joint.2, J.joint.3)

    -- some vertex is marked
    pub some_off : ((v : ℕ) → v < g.vertices → IsKept vs marks v) → ⊥
    some_off kept =
        let k : ℕ = J.joint.0 in
        let h = kept (slice_index vs J.joint.0) (V.within J.joint.0 J.joint.2) in
        let y : is_marked marks J.joint.0 ≡ true = M.all k k J.joint.2 (B.all k J.joint.1 J.joint.2 J.joint.3 J.joint.4) (level refl) in
        elim (cases_eq h.0 k) [
          | inl e ↦ both_ways (is_marked marks k) (ap (is_marked marks) (sym e) ∙ h.3) y
          | inr d ↦ vertex_apart g s t vs parent low V h.0 k h.1 J.joint.2 d h.2
        ]

    pub cut_some : (v : ℕ) → (v < g.vertices) × IsOff vs marks v → ((u : ℕ) → u < v → IsKept vs marks u) → IsFirstCut g s t (slice_index vs j) v
    cut_some v off first =
        let i = all v off.0 in
        record {
          cuts =
              let h = M.from i.0 i.1 (off.1 i.0 i.1 i.2) in
              let b = B.only h.0 h.1 in
              subst (λ z. CutsOff g s t (slice_index vs j) z) i.2
              (cuts g s t vs parent low V j i.0 i.1 (record { branch = h.0; late = b.0; within = b.1; parent = b.2; low_point = b.3; above = h.2 }));
          first_cut = λ b u l C.
              let x = all b C.cut_in in
              let y = all u C.apart_in in
              whole g s t vs parent low V x.0 y.0 x.1 y.1 (subst (λ z. CutsOff g s t z (slice_index vs y.0)) (sym x.2) (subst (λ z. CutsOff g s t b z) (sym y.2) C)) (λ A.
              let le : slice_index vs j ≤ slice_index vs x.0 = J.first x.0 (A.branch, A.late, A.within, A.parent, A.low_point) in
              omega (arith, x.2));
          first_apart = λ u l C.
              let h = first u l in
              whole g s t vs parent low V j h.0 joint_in h.1 (subst (λ z. CutsOff g s t (slice_index vs j) z) (sym h.2) C) (λ A.
              both_ways (is_marked marks h.0) h.3 (M.all A.branch h.0 h.1 (B.all A.branch A.late A.within A.parent A.low_point) A.above));
        }

-- ---- as the program reads and writes
pub kept_at : (n n' : ℕ) (vs vs' : List ℕ) (marks marks' : List Bool) → n' ≡ n → vs' ≡ vs → marks' ≡ marks → ((v : ℕ) → v < n' → IsKept vs' marks' v) → (v : ℕ) → v < n → IsKept vs marks v
kept_at n n' vs vs' marks marks' e f h k v l = subst (λ (z : List ℕ). IsKept z marks v) f (subst (λ (z : List Bool). IsKept vs' z v) h (k v (omega arith)))

pub off_at : (n n' : ℕ) (vs vs' : List ℕ) (marks marks' : List Bool) (v : ℕ) → n' ≡ n → vs' ≡ vs → marks' ≡ marks → (v < n') × IsOff vs' marks' v → (v < n) × IsOff vs marks v
off_at n n' vs vs' marks marks' v e f h k = (omega (arith, k.0), subst (λ (z : List ℕ). IsOff z marks v) f (subst (λ (z : List Bool). IsOff vs' z v) h k.1))

pub spread_at : (n : ℕ) (ps ps' : List ℕ) (starts marks : List Bool) → ps' ≡ ps → length ps ≡ n → IsSpread (length ps') (slice_index ps') starts marks → IsSpread n (slice_index ps) starts marks
spread_at n ps ps' starts marks e f M = subst (λ z. IsSpread z (slice_index ps) starts marks) f (subst (λ (z : List ℕ). IsSpread (length z) (slice_index z) starts marks) e M)

pub branches_at : (n : ℕ) (ps ps' low low' : List ℕ) (j : ℕ) (marks : List Bool) → ps' ≡ ps → low' ≡ low → length ps ≡ n → AreBranches (length ps') (slice_index ps') (slice_index low') j marks → AreBranches n (slice_index ps) (slice_index low) j marks
branches_at n ps ps' low low' j marks e f h B = subst (λ z. AreBranches z (slice_index ps) (slice_index low) j marks) h
    (subst (λ (z : List ℕ). AreBranches (length z) (slice_index z) (slice_index low) j marks) e (subst (λ (z : List ℕ). AreBranches (length ps') (slice_index ps') (slice_index z) j marks) f B))

pub joint_at : (vs vs' ps ps' low low' : List ℕ) (j : ℕ) → vs' ≡ vs → ps' ≡ ps → low' ≡ low → IsFirstJoint vs' (slice_index ps') (slice_index low') j → IsFirstJoint vs (slice_index ps) (slice_index low) j
joint_at vs vs' ps ps' low low' j e f h J = subst (λ (z : List ℕ). IsFirstJoint z (slice_index ps) (slice_index low) j) e
    (subst (λ (z : List ℕ). IsFirstJoint vs' (slice_index z) (slice_index low) j) f (subst (λ (z : List ℕ). IsFirstJoint vs' (slice_index ps') (slice_index z) j) h J))

pub joints_at : (vs vs' ps ps' low low' : List ℕ) → vs' ≡ vs → ps' ≡ ps → low' ≡ low → ((j : ℕ) → IsJoint (length vs') (slice_index ps') (slice_index low') j → ⊥) → (j : ℕ) → IsJoint (length vs) (slice_index ps) (slice_index low) j → ⊥
joints_at vs vs' ps ps' low low' e f h off j J = off j (subst (λ (z : List ℕ). IsJoint (length z) (slice_index ps') (slice_index low') j) (sym e)
    (subst (λ (z : List ℕ). IsJoint (length vs) (slice_index z) (slice_index low') j) (sym f) (subst (λ (z : List ℕ). IsJoint (length vs) (slice_index ps) (slice_index z) j) (sym h) J)))

pub is_some_at : (r : Option ℕ) (P : Type 0) → (P → ⊥) → IfNone r P → IsSome r
is_some_at None P f h = absurd (f h)
is_some_at (Some x) P f h = refl

pub if_some_at : (r : Option ℕ) (x : ℕ) (P : ℕ → Type 0) → r ≡ Some x → IfSome r P → P x
if_some_at r x P e h = subst (λ z. IfSome z P) e h

pub none_at : (T : Type 0) (r : Option T) (P : Type 0) → r ≡ None → IfNone r P → P
none_at T r P e h = subst (λ z. IfNone z P) e h

-- ---- the tree and the ranks
pub tree_at : (g : Graph) (s t : ℕ) (vs parent low ps' low' : List ℕ) → IsVisited g s t vs parent low → HasNoJoint (length vs) (slice_index parent) (slice_index low) → ps' ≡ parent → low' ≡ low → IsSearchTree (length ps') ps' low'
tree_at g s t vs parent low ps' low' V N e f =
    subst (λ (z : List ℕ). IsSearchTree (length z) z low') (sym e) (subst (λ (z : List ℕ). IsSearchTree (length parent) parent z) (sym f) (subst (λ z. IsSearchTree z parent low) (sym V.parents_size) (record {
      two = V.search.two;
      parents_size = V.parents_size;
      lows_size = V.lows_size;
      root = root (length vs) (Meets g vs) (slice_index parent) V.search;
      up = V.search.up;
      no_joint = N;
    })))

pub ranked_at : (n : ℕ) (ps ps' low low' rank : List ℕ) → ps' ≡ ps → low' ≡ low → length ps ≡ n → AreListRanks (length ps') (slice_index ps') (slice_index low') rank → AreListRanks n (slice_index ps) (slice_index low) rank
ranked_at n ps ps' low low' rank e f h R = subst (λ z. AreListRanks z (slice_index ps) (slice_index low) rank) h
    (subst (λ (z : List ℕ). AreListRanks (length z) (slice_index z) (slice_index low) rank) e (subst (λ (z : List ℕ). AreListRanks (length ps') (slice_index ps') (slice_index z) rank) f R))

pub numbers_at : (n n' : ℕ) (vs vs' ranks ranks' : List ℕ) (numbers : List ℕ) → n' ≡ n → vs' ≡ vs → ranks' ≡ ranks → AreRankNumbers n' vs' ranks' (length vs') numbers → AreRankNumbers n vs ranks (length vs) numbers
numbers_at n n' vs vs' ranks ranks' numbers e f h A = subst (λ z. AreRankNumbers z vs ranks (length vs) numbers) e
    (subst (λ (z : List ℕ). AreRankNumbers n' z ranks (length z) numbers) f (subst (λ (z : List ℕ). AreRankNumbers n' vs' z (length vs') numbers) h A))

pub numbered_by : (g : Graph) (s t : ℕ) (vs parent low ranks numbers : List ℕ) → IsVisited g s t vs parent low → HasAll g vs → HasNoJoint (length vs) (slice_index parent) (slice_index low) → HasEnds g → HasNoLoop g
    → IsConnected g s → AreListRanks (length vs) (slice_index parent) (slice_index low) ranks → AreRankNumbers g.vertices vs ranks (length vs) numbers → IsStNumbering g s t (slice_index numbers)
numbered_by g s t vs parent low ranks numbers V all N E D connected R A =
    (visited_law g s t vs parent low V).numbers all N E D connected R.side R.list ranks (slice_index numbers) R.balanced R.placed R.ranks A.each
