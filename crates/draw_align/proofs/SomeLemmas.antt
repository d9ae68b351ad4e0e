-- Sound paths have a constrained picture.
--   table        the steps of the first paths
--   homed        the path of each of the first edges
--   some_picture   heights and columns, and so a picture
use Rattle.std.proofs.Common.{ℕ, zero, suc, List, Option, Some, None, [], ◌∷◌, ◌++◌, ◌≡◌, ◌<◌, ◌≤◌, ◌+◌, ◌⊎◌, inl, inr, refl, ap, subst, arith, length, get_or}
use Rattle.std.specs.Prelude.{replicate}
use Rattle.std.proofs.Math.ListN.{set}
use Rattle.std.proofs.lemmas.Bool.{cases_lt}
use Rattle.st_ids.specs.declared.ids.EdgeId.{EdgeId}
use Rattle.st_ids.specs.declared.names.Names.{Names}
use Rattle.st_ids.specs.Walks.{Arcs}
use Rattle.st_shape.specs.declared.picture.Form.TheVariants.{Constrained}
use Rattle.st_shape.specs.Rules.{Drawing}
use Rattle.st_sides.specs.Sides.{SidesValue, IsSides, edge_count}
use Rattle.st_number.specs.Greatest.{IsGreatest, GreatestLaw}
use Rattle.st_number.proofs.Public.{numbers_law}
use Rattle.st_picture.specs.Bars.{bars}
use Rattle.draw_align.specs.declared.steps.Step.{Step}
use Rattle.draw_align.specs.Alignment.{path_count, alignment, alignment_weight}
use Rattle.draw_align.specs.Constrained.{IsConstrained, path_column}
use Rattle.draw_align.specs.Faults.{AreThere}
use Rattle.draw_align.specs.Homes.{IsHoming}
use Rattle.draw_align.specs.Listed.{path_at, AreSound}
use Rattle.draw_align.specs.Steps.{step_in_table, IsStep, AreSteps, IsNoting}
use Rattle.draw_align.proofs.AlignmentLemmas.{alignment_law}
use Rattle.draw_align.proofs.ConstrainedLemmas.{valid}
use Rattle.draw_align.proofs.HomeLemmas.{homing_start, homing_listed, homing_alone, homing_end}
use Rattle.draw_align.proofs.StepLemmas.{at_there, no_steps, noting_start, noting_more, noting_end}

-- ---- greatest weights as a function
module _ (D : Arcs) (n : ℕ) (w : ℕ → ℕ) (a : ℕ) (G : GreatestLaw D n w a) where
  pick : (v : ℕ) → (v < n) ⊎ (n ≤ v) → ℕ
  pick v (inl l) = (G.some v l).0
  pick v (inr l) = 0

  picked : (v : ℕ) (d : (v < n) ⊎ (n ≤ v)) → v < n → IsGreatest D w a v (pick v d)
  unfolding pick
  picked v (inl l) i = (G.some v l).1
  picked v (inr l) i = absurd (omega arith)

-- ---- the table of steps, and of homes
record Told (ps : List (List ℕ)) (p x : ℕ) : Type 0 where
  pub step : Step
  pub path : step.path ≡ p
  pub is : IsStep ps x step

record Table (g : SidesValue) (ps : List (List ℕ)) (n : ℕ) : Type 0 where
  pub list : List (Option Step)
  pub is : AreSteps g ps n list

record Part (g : SidesValue) (ps : List (List ℕ)) (p k : ℕ) : Type 0 where
  pub list : List (Option Step)
  pub is : IsNoting g ps p k list

record Homed (g : SidesValue) (ps : List (List ℕ)) (n : ℕ) : Type 0 where
  pub homes : List ℕ
  pub next : ℕ
  pub is : IsHoming g ps n homes next

edge_is : {a b : EdgeId} → Some a ≡ Some b → a ≡ b
edge_is q = cc q

none_edge : {a : EdgeId} → None ≡ Some a → ⊥
none_edge q = cc q

some_edge : {a : EdgeId} → Some a ≡ None → ⊥
some_edge q = cc q

told : (ps : List (List ℕ)) (p k : ℕ) → k < length (path_at ps p) → Told ps p (get_or (path_at ps p) k 0)
told ps p k l = elim (cases_lt (suc k) (length (path_at ps p))) [
  | inl m ↦ record {
    step = record { path = p; next = Some (record { 0 = get_or (path_at ps p) (suc k) 0 }) };
    path = refl;
    is = record { place = k; there = l; is = refl; next = λ d q. (m, ap (λ (z : EdgeId). z.0) (edge_is q)); last = λ q. absurd (some_edge q) };
  }
  | inr m ↦ record {
    step = record { path = p; next = None };
    path = refl;
    is = record { place = k; there = l; is = refl; next = λ d q. absurd (none_edge q); last = λ q. m };
  }
]

module _ (g : SidesValue) (ps : List (List ℕ)) (A : AreThere g ps) where
  part : (p : ℕ) → p < length ps → Table g ps p → (k : ℕ) → k ≤ length (path_at ps p) → Part g ps p k
  part p l B zero m = record { list = B.list; is = noting_start g ps p B.list B.is }
  part p l B (suc k) m =
      let H = part p l B k (omega arith) in
      let kl : k < length (path_at ps p) = omega arith in
      let t = told ps p k kl in
      let e : k + 1 ≡ suc k = omega arith in
      let T = set H.list (get_or (path_at ps p) k 0) (Some t.step) in
      record { list = T; is = subst (λ z. IsNoting g ps p z T) e (noting_more g ps p H.list k t.step H.is (get_or (path_at ps p) k 0) refl (at_there g ps A p l k kl) t.path t.is) }

  table : (n : ℕ) → n ≤ length ps → Table g ps n
  table zero l = record { list = replicate (edge_count g) None; is = no_steps g ps (replicate (edge_count g) None) refl }
  table (suc n) l =
      let P = part n (omega arith) (table n (omega arith)) (length (path_at ps n)) (omega arith) in
      let e : n + 1 ≡ suc n = omega arith in
      record { list = P.list; is = subst (λ z. AreSteps g ps z P.list) e (noting_end g ps n P.list (length (path_at ps n)) P.is (omega arith)) }

  module _ (sound : AreSound g ps (length ps)) (B : Table g ps (length ps)) where
    more : (n : ℕ) → Homed g ps n → (s : Option Step) → step_in_table B.list n ≡ s → Homed g ps (n + 1)
    more n H (Some s) q = record { homes = H.homes ++ s.path ∷ []; next = H.next; is = homing_listed g ps sound B.list B.is n H.next H.homes H.is s q }
    more n H None q = record { homes = H.homes ++ H.next ∷ []; next = H.next + 1; is = homing_alone g ps sound B.list B.is n H.next H.homes H.is q }

    homed : (n : ℕ) → Homed g ps n
    homed zero = record { homes = []; next = length ps; is = homing_start g ps }
    homed (suc n) = (let e : n + 1 ≡ suc n = omega arith in subst (Homed g ps) e (more n (homed n) (step_in_table B.list n) refl))

  pub some_picture : IsSides g → AreSound g ps (length ps) → (w : ℕ → ℕ) (N : Names) → (d : Drawing) × IsConstrained g w ps N d
  some_picture S sound w N =
      let H = homed sound (table (length ps) (omega arith)) (edge_count g) in
      let E = homing_end g ps A (edge_count g) H.next H.homes H.is refl in
      let P = E.paths in
      let n = g.t_star + 1 + path_count P in
      let G = (alignment_law g S P (valid g S ps sound P E.completed)).greatest in
      let M = (numbers_law g S).some w in
      let x : ℕ → ℕ = λ f. pick (alignment g P) n (alignment_weight g) 0 G f (cases_lt f n) in (
        bars g N Constrained M.0 x (path_column g P x),
        record {
          y = M.0;
          paths = P;
          x = x;
          heights = M.2.height;
          completed = E.completed;
          columns = λ f l. picked (alignment g P) n (alignment_weight g) 0 G f (cases_lt f n) l;
          is = refl;
        },
      )
