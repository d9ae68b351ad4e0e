-- The alignment graph as code has it, and its greatest weights.
--   built_more        one arc more
--   built_greatest    a pass over the built graph gives the columns of the alignment graph
--   column_most       no column is more than the number of edges
use Rattle.std.proofs.Common.{ℕ, suc, List, [], ◌∷◌, ◌++◌, ◌≡◌, ◌<◌, ◌≤◌, ◌+◌, ◌-◌, ◌^◌, inl, inr, refl, sym, ap, ◌∙◌, subst, arith, cond, length, get_or}
use Rattle.std.proofs.lemmas.Bool.{cases_lt, lt-ltb, le-ltb}
use Rattle.std.proofs.lemmas.List.{get_or_append_left, get_or_push, length_push}
use Rattle.st_ids.specs.declared.limits.TheConstants.{MOST_COORDINATE}
use Rattle.st_ids.specs.Graph.{Graph, tail_of, head_of, arcs_of}
use Rattle.st_ids.specs.Lists.{In, NoRepeat, here, there}
use Rattle.st_ids.specs.Walks.{Walk, stay, step, IsAcyclic}
use Rattle.st_ids.proofs.Public.{not_in_nil, In-cases, length-le_from_below, walk_from, walk_once, on_walk}
use Rattle.st_sides.specs.Held.{IsHeld}
use Rattle.st_sides.specs.Sides.{SidesValue, IsSides, edge_count, face_right}
use Rattle.st_number.specs.Greatest.{weigh, IsGreatest, IsPass}
use Rattle.st_number.specs.Passing.{IsPassTable}
use Rattle.draw_align.specs.Alignment.{Paths, path_count, path_of, AreValid, node_of_path, alignment, alignment_weight}
use Rattle.draw_align.specs.Built.{arc_from, arc_to, HasHomes, IsBuilt, AreArcWeights, AreNodeColumns}
use Rattle.draw_align.specs.Homes.{HasPaths}
use Rattle.draw_align.specs.Listed.{AreSound}
use Rattle.draw_align.proofs.AlignmentLemmas.{alignment_law, alignment_has_in}
use Rattle.draw_align.proofs.ConstrainedLemmas.{valid}

abbrev arc : ℕ → ℕ → ℕ × ℕ
arc a b = (a, b)

pub built_more : (g : SidesValue) (homes : List ℕ) (n m l r : ℕ) (D D' : Graph) → IsBuilt g homes n m D → D' ≡ record D { ends = D.ends ++ arc l r ∷ [] } → l ≡ arc_from g homes m → r ≡ arc_to g homes m
    → IsBuilt g homes n (m + 1) D'
unfolding tail_of head_of
built_more g homes n m l r D D' h q left right =
    subst (IsBuilt g homes n (m + 1)) (sym q) (record {
      vertices = h.vertices;
      count = omega (arith, length_push D.ends (arc l r), h.count);
      tails = λ a la. elim (cases_lt a m) [
        | inl k ↦ ap (λ (z : ℕ × ℕ). z.0) (get_or_append_left D.ends (arc l r ∷ []) (0, 0) a (omega (arith, h.count))) ∙ h.tails a k
        | inr k ↦
            let i : m ≡ a = omega arith in
            ap (λ (z : ℕ × ℕ). z.0) (get_or_push D.ends (arc l r) (0, 0) a (omega (arith, h.count))) ∙ left ∙ ap (arc_from g homes) i
      ];
      heads = λ a la. elim (cases_lt a m) [
        | inl k ↦ ap (λ (z : ℕ × ℕ). z.1) (get_or_append_left D.ends (arc l r ∷ []) (0, 0) a (omega (arith, h.count))) ∙ h.heads a k
        | inr k ↦
            let i : m ≡ a = omega arith in
            ap (λ (z : ℕ × ℕ). z.1) (get_or_push D.ends (arc l r) (0, 0) a (omega (arith, h.count))) ∙ right ∙ ap (arc_to g homes) i
      ];
    })

-- ---- no column is more than the number of edges
module _ (g : SidesValue) where
  light : (a : ℕ) → a < edge_count g → alignment_weight g a ≡ 0
  light a l = ap (λ c. cond c 0 1) (lt-ltb a (edge_count g) l)

  heavy : (a : ℕ) → edge_count g ≤ a → alignment_weight g a ≡ 1
  heavy a l = ap (λ c. cond c 0 1) (le-ltb a (edge_count g) l)

  record Heavy (es : List ℕ) : Type 0 where
    pub list : List ℕ
    pub size : length list ≡ weigh (alignment_weight g) es
    pub once : NoRepeat list
    pub below : (x : ℕ) → In x list → x < edge_count g
    pub from : (x : ℕ) → In x list → In (edge_count g + x) es

  heavy_of : (es : List ℕ) → NoRepeat es → ((a : ℕ) → In a es → a < edge_count g + edge_count g) → Heavy es
  heavy_of [] n l = record { list = []; size = refl; once = tt; below = λ x i. absurd (not_in_nil i); from = λ x i. absurd (not_in_nil i) }
  heavy_of (a ∷ es) n l =
      let F = heavy_of es n.1 (λ b i. l b (there i)) in
      elim (cases_lt a (edge_count g)) [
        | inl m ↦ record {
          list = F.list;
          size = (let q : length F.list ≡ weigh (alignment_weight g) es = F.size in let w : alignment_weight g a ≡ 0 = light a m in let r : 0 + weigh (alignment_weight g) es ≡ weigh (alignment_weight g) es = omega arith in F.size ∙ sym r ∙ ap (λ z. z + weigh (alignment_weight g) es) (sym w));
          once = F.once;
          below = F.below;
          from = λ x i. there (F.from x i);
        }
        | inr m ↦
            let b : a < edge_count g + edge_count g = l a (here refl) in
            let e : edge_count g + (a - edge_count g) ≡ a = omega arith in
            record {
              list = (a - edge_count g) ∷ F.list;
              size = ap suc F.size ∙ (let r : suc (weigh (alignment_weight g) es) ≡ 1 + weigh (alignment_weight g) es = omega arith in r) ∙ ap (λ z. z + weigh (alignment_weight g) es) (sym (heavy a m));
              once = ((λ i. n.0 (subst (λ z. In z es) e (F.from (a - edge_count g) i))), F.once);
              below = λ x i. elim (In-cases i) [ inl q ↦ omega arith | inr j ↦ F.below x j ];
              from = λ x i. elim (In-cases i) [ inl q ↦ here (ap (λ z. edge_count g + z) q ∙ e) | inr j ↦ there (F.from x j) ];
            }
      ]

  pub column_most : (P : Paths) → IsAcyclic (alignment g P) → (f k : ℕ) → IsGreatest (alignment g P) (alignment_weight g) 0 f k → k ≤ edge_count g
  column_most P acyclic f k G =
      let F = heavy_of G.way (walk_once acyclic G.walk) (λ a i. (on_walk G.walk i).arc) in
      let h : length F.list ≤ edge_count g = length-le_from_below (edge_count g) F.list F.once F.below in
      let q : length F.list ≡ k = F.size ∙ G.weighs in
      omega arith

-- ---- the built graph
module _ (g : SidesValue) (P : Paths) (n : ℕ) (D : Graph) (B : IsBuilt g P.homes n (edge_count g + edge_count g) D) where
  tail_same : (a : ℕ) → a < edge_count g + edge_count g → tail_of D.ends a ≡ (alignment g P).from a
  unfolding path_of
  tail_same a l = B.tails a l

  head_same : (a : ℕ) → a < edge_count g + edge_count g → head_of D.ends a ≡ (alignment g P).to a
  unfolding path_of
  head_same a l = B.heads a l

  built_walk : {u v : ℕ} {es : List ℕ} → Walk (arcs_of D) u es v → Walk (alignment g P) u es v
  built_walk (stay q) = stay q
  built_walk (step {e = x} a t r) =
      let l : x < edge_count g + edge_count g = subst (λ z. x < z) B.count a in
      step l (sym (tail_same x l) ∙ t) (walk_from (head_same x l) (built_walk r))

  pub built_acyclic : IsAcyclic (alignment g P) → IsAcyclic (arcs_of D)
  built_acyclic acyclic u e es k = acyclic u e es (built_walk k)

  module _ (S : IsSides g) (V : AreValid g P) (ws h : List ℕ) (W : AreArcWeights g (edge_count g + edge_count g) ws) (T : IsPassTable n D.ends (λ a. get_or ws a 0) h) (q : n ≡ g.t_star + 1 + path_count P) where
    enough : (a : ℕ) → a < edge_count g + edge_count g → get_or h ((alignment g P).from a) 0 + alignment_weight g a ≤ get_or h ((alignment g P).to a) 0
    enough a l =
        let t = T.enough a (subst (λ z. a < z) (sym B.count) l) in
        subst (λ z. get_or h z 0 + alignment_weight g a ≤ get_or h ((alignment g P).to a) 0) (tail_same a l)
        (subst (λ z. get_or h (tail_of D.ends a) 0 + alignment_weight g a ≤ get_or h z 0) (head_same a l)
        (subst (λ z. get_or h (tail_of D.ends a) 0 + z ≤ get_or h (head_of D.ends a) 0) (W.each a l) t))

    none_to_first : (a : ℕ) → a < edge_count g + edge_count g → (alignment g P).to a ≡ 0 → ⊥
    none_to_first a l r = elim (cases_lt a (edge_count g)) [
      | inl m ↦ (let k : node_of_path g (path_of P a) ≡ 0 = subst (λ c. cond c (node_of_path g (path_of P a)) (face_right g (a - edge_count g)) ≡ 0) (lt-ltb a (edge_count g) m) r in omega arith)
      | inr m ↦
          let k : face_right g (a - edge_count g) ≡ 0 = subst (λ c. cond c (node_of_path g (path_of P a)) (face_right g (a - edge_count g)) ≡ 0) (le-ltb a (edge_count g) m) r in
          let j : 0 < face_right g (a - edge_count g) = S.right_after (a - edge_count g) (omega arith) in
          omega arith
    ]

    moved : (v : ℕ) → (e : ℕ) × (e < length D.ends) × (head_of D.ends e ≡ v) × (get_or h v 0 ≡ get_or h (tail_of D.ends e) 0 + get_or ws e 0)
        → (a : ℕ) × (a < edge_count g + edge_count g) × ((alignment g P).to a ≡ v) × (get_or h v 0 ≡ get_or h ((alignment g P).from a) 0 + alignment_weight g a)
    moved v r =
        let l : r.0 < edge_count g + edge_count g = subst (λ z. r.0 < z) B.count r.1 in
        (r.0, l, sym (head_same r.0 l) ∙ r.2, r.3 ∙ ap (λ z. get_or h z 0 + get_or ws r.0 0) (tail_same r.0 l) ∙ ap (λ z. get_or h ((alignment g P).from r.0) 0 + z) (W.each r.0 l))

    pass : IsPass (alignment g P) n (alignment_weight g) 0 (λ v. get_or h v 0)
    pass = record {
      begins = elim (T.brought 0 (omega arith)) [
        | inl z ↦ z
        | inr r ↦ (let m = moved 0 r in absurd (none_to_first m.0 m.1 m.2))
      ];
      enough = enough;
      brought = λ v l d. elim (T.brought v l) [
        | inr r ↦ moved v r
        | inl z ↦
            let i = alignment_has_in g S P V v (omega arith) d in
            let k : get_or h ((alignment g P).from i.0) 0 + alignment_weight g i.0 ≤ get_or h v 0 = subst (λ z. get_or h ((alignment g P).from i.0) 0 + alignment_weight g i.0 ≤ get_or h z 0) i.2 (enough i.0 i.1) in
            (i.0, i.1, i.2, omega (arith, z, k))
      ];
    }

    pub built_greatest : (v : ℕ) → v < g.t_star + 1 + path_count P → IsGreatest (alignment g P) (alignment_weight g) 0 v (get_or h v 0)
    built_greatest v l = (alignment_law g S P V).greatest.by_pass (λ v. get_or h v 0) (subst (λ z. IsPass (alignment g P) z (alignment_weight g) 0 (λ v. get_or h v 0)) q pass) v l

pub node_columns : (g : SidesValue) → IsSides g → (ps : List (List ℕ)) → AreSound g ps (length ps) → (homes : List ℕ) (next : ℕ) → (H : HasPaths g ps homes next) → (n : ℕ) → n ≡ g.t_star + 1 + next → (D : Graph)
    → IsBuilt g homes n (edge_count g + edge_count g) D → (ws h : List ℕ) → AreArcWeights g (edge_count g + edge_count g) ws → IsPassTable n D.ends (λ a. get_or ws a 0) h → AreNodeColumns g ps homes next h
node_columns g S ps sound homes next H n q D B ws h W T =
    let V = valid g S ps sound H.paths H.completed in
    let B' = subst (λ z. IsBuilt g z n (edge_count g + edge_count g) D) (sym H.homes_are) B in
    let r : n ≡ g.t_star + 1 + path_count H.paths = q ∙ ap (λ z. g.t_star + 1 + z) (sym H.count) in
    let G : (f : ℕ) → f < g.t_star + 1 + next → IsGreatest (alignment g H.paths) (alignment_weight g) 0 f (get_or h f 0) = λ f l. built_greatest g H.paths n D B' S V ws h W T r f (subst (λ z. f < g.t_star + 1 + z) (sym H.count) l) in
    record {
      paths = H;
      size = T.size ∙ q;
      greatest = G;
      few = λ f l. column_most g H.paths (alignment_law g S H.paths V).acyclic f (get_or h f 0) (G f l);
    }

pub columns_acyclic : (g : SidesValue) → IsSides g → (ps : List (List ℕ)) → AreSound g ps (length ps) → (homes : List ℕ) (next : ℕ) → (H : HasPaths g ps homes next) → (n : ℕ) → (D : Graph)
    → IsBuilt g homes n (edge_count g + edge_count g) D → IsAcyclic (arcs_of D)
columns_acyclic g S ps sound homes next H n D B =
    built_acyclic g H.paths n D (subst (λ z. IsBuilt g z n (edge_count g + edge_count g) D) (sym H.homes_are) B) (alignment_law g S H.paths (valid g S ps sound H.paths H.completed)).acyclic

pub has_homes : (g : SidesValue) → IsSides g → (ps : List (List ℕ)) (homes : List ℕ) (next n : ℕ) → HasPaths g ps homes next → length homes ≡ edge_count g → n ≡ g.t_star + 1 + next → HasHomes g homes n
unfolding path_of
has_homes g S ps homes next n H size q = record {
  size = size;
  first = omega arith;
  within = λ e a.
      let h : get_or H.paths.homes e 0 < path_count H.paths = H.completed.home_in e a in
      let k : get_or H.paths.homes e 0 ≡ get_or homes e 0 = ap (λ z. get_or z e 0) H.homes_are in
      let c : path_count H.paths ≡ next = H.count in
      omega arith;
}

-- how many vertices, nodes and edges there are
pub counts : (g : SidesValue) → IsHeld g → g.vertices + g.t_star ≡ edge_count g + 2
unfolding edge_count
counts g H = omega (arith, H.own.planar.euler, H.own.sides.nodes)

pub node_count : (g : SidesValue) → IsHeld g → IsSides g → (ps : List (List ℕ)) → length ps ≤ edge_count g → edge_count g ≤ MOST_COORDINATE → (homes : List ℕ) (next : ℕ) → HasPaths g ps homes next → g.t_star + 1 + next < 2 ^ 30
node_count g H S ps few wide homes next P =
    let c : g.vertices + g.t_star ≡ edge_count g + 2 = counts g H in
    let k : next ≤ length ps + edge_count g = P.few in
    let v : 2 ≤ g.vertices = S.two_vertices in
    omega arith
