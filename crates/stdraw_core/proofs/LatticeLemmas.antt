-- The lines of a bound: how they are put together, and that there is one text of them.
use Rattle.std.proofs.Common.{◌≡◌, ◌<◌, ◌+◌, ◌∙◌, ℕ, zero, suc, ℤ, pos, List, [], ◌∷◌, ◌++◌, codes, length, map, get_or, take, refl, sym, ap, subst, append_assoc, append-nil, inl, inr, arith}
use Rattle.std.proofs.lemmas.List.{get_or-map, length-map}
use Rattle.st_ids.specs.declared.ids.EdgeId.{EdgeId}
use Rattle.st_ids.specs.EdgeNumbers.{numbers}
use Rattle.st_ids.specs.Walks.{Arcs, Walk, stay, step}
use Rattle.st_input.specs.InputGraph.{InputGraph, IsConsistent}
use Rattle.st_lattice.proofs.Public.{lattice_law, leftmost_law}
use Rattle.st_report.specs.Lines.{numbered, spaced}
use Rattle.st_report.proofs.Public.{spaced-push}
use Rattle.st_sides.specs.Sides.{SidesValue, IsSides}
use Rattle.st_sides.proofs.Public.{meaning_law, one_value_law}
use Rattle.st_test.specs.Planar.{IsPlanarSt, StValue}
use Rattle.st_verdict.specs.Verdict.{file_vertex_name, file_edge_name}
use Rattle.st_words.specs.declared.words.Operation.{Operation}
use Rattle.st_words.specs.declared.words.Operation.TheVariants.{Join, Meet}
use Rattle.stdraw_core.specs.Lattice.{IsBound, ShowsBound, bound_line, walk_line, IsWalkLine, TellsBound, AreBoundLines, AnswersLattice}
use Rattle.stdraw_core.specs.Paths.{AreSidesIn}
use Rattle.stdraw_core.specs.Query.{AreKnown, IsKnownName, IsNamed, IsUnknown}
use Rattle.st_report.specs.declared.stop.Refusal.TheVariants.{UnknownVertex}
use Rattle.st_report.specs.declared.stop.Stop.{Stop}
use Rattle.st_report.specs.declared.stop.Stop.TheVariants.{Refused}
use Rattle.st_verdict.specs.Stops.{IsStop}

abbrev edge_number : EdgeId → ℕ
edge_number e = e.0

-- ---- texts put together
pub four_pieces : (old t0 t1 t2 t3 a b c d : List ℕ) → t0 ≡ old ++ a → t1 ≡ t0 ++ b → t2 ≡ t1 ++ c → t3 ≡ t2 ++ d → t3 ≡ old ++ (a ++ (b ++ (c ++ d)))
four_pieces old t0 t1 t2 t3 a b c d p0 p1 p2 p3 = let all : t3 ≡ (((old ++ a) ++ b) ++ c) ++ d = cc in all ∙ simp (append_assoc) refl

pub five_pieces : (old t0 t1 t2 t3 t4 a b c d e : List ℕ) → t0 ≡ old ++ a → t1 ≡ t0 ++ b → t2 ≡ t1 ++ c → t3 ≡ t2 ++ d → t4 ≡ t3 ++ e → t4 ≡ old ++ (a ++ (b ++ (c ++ (d ++ e))))
five_pieces old t0 t1 t2 t3 t4 a b c d e p0 p1 p2 p3 p4 = let all : t4 ≡ ((((old ++ a) ++ b) ++ c) ++ d) ++ e = cc in all ∙ simp (append_assoc) refl

pub three_lines : (old t0 t1 t2 a b c : List ℕ) → old ≡ [] → t0 ≡ old ++ a → t1 ≡ t0 ++ b → t2 ≡ t1 ++ c → t2 ≡ a ++ (b ++ c)
three_lines old t0 t1 t2 a b c none p0 p1 p2 =
    let first : t0 ≡ a = p0 ∙ ap (λ z. z ++ a) none in
    let all : t2 ≡ (a ++ b) ++ c = cc in
    all ∙ append_assoc a b c

-- three texts, of which the first two stand together
names_moved : (a b c end : List ℕ) → (a ++ (b ++ [])) ++ (c ++ end) ≡ (a ++ (b ++ (c ++ []))) ++ end
names_moved a b c end = simp (append_assoc, append-nil) refl

pub three_names : (n m k : ℤ) (end : List ℕ) → spaced (n ∷ m ∷ []) ++ (numbered (codes " ") k [] ++ end) ≡ spaced (n ∷ m ∷ k ∷ []) ++ end
three_names n m k end = names_moved (numbered (codes " ") n []) (numbered (codes " ") m []) (numbered (codes " ") k []) end

-- the names of the edges so far, and one more
pub edges_push : (g : InputGraph) (edges : List EdgeId) (i : ℕ) (d : EdgeId) (first old new : List ℕ) (name : ℤ) → i < length edges → name ≡ file_edge_name g (get_or edges i d).0
    → old ≡ first ++ spaced (take i (map (file_edge_name g) (numbers edges))) → new ≡ old ++ numbered (codes " ") name [] → new ≡ first ++ spaced (take (i + 1) (map (file_edge_name g) (numbers edges)))
edges_push g edges i d first old new name l is old_is new_is =
    let ns = map (file_edge_name g) (numbers edges) in
    let wide : i < length (numbers edges) = omega (arith, length-map edges edge_number) in
    let there : i < length ns = omega (arith, length-map (numbers edges) (file_edge_name g)) in
    let at : get_or ns i (pos 0) ≡ file_edge_name g (get_or edges i d).0 = get_or-map (file_edge_name g) (numbers edges) i 0 (pos 0) wide ∙ ap (file_edge_name g) (get_or-map edge_number edges i d 0 l) in
    new_is ∙ ap (λ z. z ++ numbered (codes " ") name []) old_is ∙ append_assoc first (spaced (take i ns)) (numbered (codes " ") name [])
    ∙ ap (λ z. first ++ z) (ap (λ z. spaced (take i ns) ++ numbered (codes " ") z []) (is ∙ sym at) ∙ sym (spaced-push ns i (pos 0) there))

-- the edges of a walk are arcs
pub walk_there : (D : Arcs) (u v : ℕ) (es : List ℕ) → Walk D u es v → (i : ℕ) → i < length es → get_or es i 0 < D.count
walk_there D u v [] (stay e) i l = absurd (omega arith)
walk_there D u v (e ∷ es) (step there from rest) zero l = there
walk_there D u v (e ∷ es) (step there from rest) (suc i) l = walk_there D (D.to e) v es rest i (omega arith)

pub edges_there : (edges : List EdgeId) (es : List ℕ) (n : ℕ) → numbers edges ≡ es → (D : Arcs) (u v : ℕ) → Walk D u es v → D.count ≡ n → (i : ℕ) → i < length edges → get_or (numbers edges) i 0 < n
edges_there edges es n same D u v walk count i l =
    let there : i < length es = omega (arith, ap length same, length-map edges edge_number) in
    let h : get_or es i 0 < D.count = walk_there D u v es walk i there in
    subst (λ z. get_or z i 0 < n) (sym same) (omega (arith, h, count))

-- the first of two names that no vertex has
pub first_unknown : (op : Operation) (from to : ℤ) (g : InputGraph) (st : StValue) (stop : Stop) (name : ℤ) → stop ≡ Refused (UnknownVertex name) → name ≡ from → IsUnknown g name → IsStop (AnswersLattice op from to g st) stop
first_unknown op from to g st stop name e is bad =
    subst (IsStop (AnswersLattice op from to g st)) (sym e) (record { fault = name; is = refl; holds = inl (subst (IsUnknown g) is bad, is) })

pub second_unknown : (op : Operation) (from to : ℤ) (g : InputGraph) (st : StValue) (stop : Stop) (name : ℤ) → stop ≡ Refused (UnknownVertex name) → name ≡ to → IsKnownName g from → IsUnknown g name → IsStop (AnswersLattice op from to g st) stop
second_unknown op from to g st stop name e is good bad =
    subst (IsStop (AnswersLattice op from to g st)) (sym e) (record { fault = name; is = refl; holds = inr (good, inl (subst (IsUnknown g) is bad, is)) })

-- the lines that were found are an answer
pub answered : (op : Operation) (from to : ℤ) (g : InputGraph) (st : StValue) (u v : ℕ) (out : List ℕ) → IsNamed g u from → IsNamed g v to → (x : SidesValue) × AreSidesIn st x × TellsBound op g x u v out → AreBoundLines op from to g st out
answered op from to g st u v out h k t = record { u = u; v = v; from_named = h; to_named = k; sides = t.0; are = t.1; tells = t.2 }

-- ---- there is one
module _ (g : InputGraph) (x : SidesValue) (is : IsSides x) where
  same_walk : (u w : ℕ) (a b : List ℕ) → IsWalkLine g x u w a → IsWalkLine g x u w b → a ≡ b
  same_walk u w a b h k =
      h.text ∙ ap (λ (z : List ℕ). walk_line (file_vertex_name g u) (file_vertex_name g w) (map (file_edge_name g) z)) ((leftmost_law x is).one u w h.walk k.walk h.leftmost k.leftmost) ∙ sym k.text

  same_shown : (op : Operation) (u w : ℕ) (a b : List ℕ) → ShowsBound op g x u w a → ShowsBound op g x u w b → a ≡ b
  same_shown Join u w a b h k = same_walk u w a b h k
  same_shown Meet u w a b h k = same_walk w u a b h k

  same_bound : (op : Operation) (u v w w' : ℕ) → IsBound op x u v w → IsBound op x u v w' → w ≡ w'
  same_bound Join u v w w' h k = (lattice_law x is).join_one u v w w' h k
  same_bound Meet u v w w' h k = (lattice_law x is).meet_one u v w w' h k

  same_told : (op : Operation) (u v : ℕ) (a b : List ℕ) → TellsBound op g x u v a → TellsBound op g x u v b → a ≡ b
  same_told op u v a b h k =
      let one : k.bound ≡ h.bound = same_bound op u v k.bound h.bound k.is h.is in
      let first : h.first ≡ k.first = same_shown op u h.bound h.first k.first h.shows_first (subst (λ z. ShowsBound op g x u z k.first) one k.shows_first) in
      let second : h.second ≡ k.second = same_shown op v h.bound h.second k.second h.shows_second (subst (λ z. ShowsBound op g x v z k.second) one k.shows_second) in
      h.text
      ∙ ap (λ z. bound_line op (file_vertex_name g u) (file_vertex_name g v) (file_vertex_name g z) ++ (h.first ++ h.second)) (sym one)
      ∙ ap (λ z. bound_line op (file_vertex_name g u) (file_vertex_name g v) (file_vertex_name g k.bound) ++ (z ++ h.second)) first
      ∙ ap (λ z. bound_line op (file_vertex_name g u) (file_vertex_name g v) (file_vertex_name g k.bound) ++ (k.first ++ z)) second
      ∙ sym k.text

pub same_bound_lines : (op : Operation) (from to : ℤ) (g : InputGraph) (st : StValue) → IsConsistent g → IsPlanarSt st.map.graph st.source st.sink st.outer
    → (a b : List ℕ) → AreBoundLines op from to g st a → AreBoundLines op from to g st b → a ≡ b
same_bound_lines op from to g st tables planar a b h k =
    let u : k.u ≡ h.u = tables.different k.u h.u from k.from_named h.from_named in
    let v : k.v ≡ h.v = tables.different k.v h.v to k.to_named h.to_named in
    let sides : k.sides ≡ h.sides = one_value_law st.map.graph st.source st.sink st.outer k.sides h.sides planar k.are.sides k.are.sizes h.are.sides h.are.sizes in
    let is : IsSides h.sides = meaning_law st.map.graph st.source st.sink st.outer h.sides planar h.are.sides in
    let moved : TellsBound op g h.sides k.u k.v b = subst (λ (z : SidesValue). TellsBound op g z k.u k.v b) sides k.tells in
    let there : TellsBound op g h.sides h.u h.v b = subst (λ z. TellsBound op g h.sides h.u z b) v (subst (λ z. TellsBound op g h.sides z k.v b) u moved) in
    same_told g h.sides is op h.u h.v a b h.tells there

pub both_known : (op : Operation) (from to : ℤ) (g : InputGraph) (st : StValue) (out : List ℕ) → AreBoundLines op from to g st out → AreKnown g (from ∷ to ∷ [])
both_known op from to g st out h = ((h.u, h.from_named), ((h.v, h.to_named), tt))
