-- An edit is carried out in one way, or has one first fault: its conditions stand in an order, and each fault says
-- that those before it hold and that its own doesn't.
-- Letters: x value of a session, w names of an insert, o outcome: none where the edit is carried out, else its fault.
use Rattle.std.proofs.Common.{◌≡◌, ◌≢◌, ℕ, suc, ◌<◌, ◌≤◌, ℤ, List, inl, inr, Some, None, slice_get, refl, sym, ap, ◌∙◌, subst, arith}
use Rattle.std.specs.declared.option.Option.{Option}
use Rattle.st_ids.specs.Graph.{arcs_of}
use Rattle.st_map.specs.Embedded.{edges, head, tail}
use Rattle.st_map.specs.Orders.{IsEdgeAt, end_at}
use Rattle.st_session.specs.Editing.{CornersMeet, IsOuterCorner, OthersIn, OthersOut}
use Rattle.st_session.specs.Edits.{AreInner, AreInsertEnds, AreInsertNamed, AreJoined, ClosesCycle, InsertsEdgeTo, IsInsertFault, IsRemoveFault, IsSplitFault, RemovesEdgeTo, SomeNamed, SplitsEdgeTo, insert_state, remove_state, split_state, with_state}
use Rattle.st_session.specs.Runs.{Applies, Edit as Change, by_insert, by_removal, by_split}
use Rattle.st_session.specs.States.{HasEachOnce, HasName, IsNameAt, LacksName, SessionValue}
use Rattle.st_session.specs.declared.faults.EditFault.{EditFault}
use Rattle.st_session.specs.declared.faults.EditFault.TheVariants.{UsedVertex, UsedEdge, UnknownVertex, UnknownEdge, Loop, NotAt, TooManyVertices, TooManyEdges, OuterCorner, Cycle, OtherFace, Source, Sink, NoMemory}
use Rattle.st_session.specs.declared.insertion.InsertNames.{InsertNames}
use Rattle.st_verdict.specs.Stages.{IsOne}
use Rattle.stdraw_core.specs.Session.{IsEditFault}

-- ---- one condition after another
data Staged (P : Type 0) (B R : Option EditFault → Type 0) (o : Option EditFault) : Type 0 where
  fails : (P → ⊥) → B o → Staged P B R o
  passes : P → R o → Staged P B R o

one_staged : (P : Type 0) (B R : Option EditFault → Type 0) → IsOne B → IsOne R → IsOne (Staged P B R)
one_staged P B R b r x y (fails n h) (fails m k) = b x y h k
one_staged P B R b r x y (fails n h) (passes p k) = absurd (n p)
one_staged P B R b r x y (passes p h) (fails n k) = absurd (n p)
one_staged P B R b r x y (passes p h) (passes q k) = r x y h k

-- the outcome is this fault, or that the edit is carried out
abbrev Is : EditFault → Option EditFault → Type 0
Is f o = o ≡ Some f

abbrev IsDone : Option EditFault → Type 0
IsDone o = o ≡ None

one_is : (f : EditFault) → IsOne (Is f)
one_is f x y h k = h ∙ sym k

one_done : IsOne IsDone
one_done x y h k = h ∙ sym k

-- the next condition, whose fault is this one
next : (P : Type 0) (f : EditFault) (R : Option EditFault → Type 0) → IsOne R → IsOne (Staged P (Is f) R)
next P f R r = one_staged P (Is f) R (one_is f) r

unknown_not : (names : List ℤ) (n : ℤ) → LacksName names n → HasName names n → ⊥
unknown_not names n lacks h = lacks h.0 h.1

-- ---- split
module _ (x : SessionValue) (edge vertex new_edge : ℤ) where
  abbrev SplitRoom : Option EditFault → Type 0
  SplitRoom = Staged (suc (edges x.state.graph) ≤ x.max_edges) (Is (TooManyEdges (suc (edges x.state.graph)))) IsDone

  abbrev SplitHigh : Option EditFault → Type 0
  SplitHigh = Staged (suc x.state.graph.vertices ≤ x.max_vertices) (Is (TooManyVertices (suc x.state.graph.vertices))) SplitRoom

  abbrev SplitNew : Option EditFault → Type 0
  SplitNew = Staged (LacksName x.state.vertex_names vertex) (Is (UsedVertex vertex)) (Staged (LacksName x.state.edge_names new_edge) (Is (UsedEdge new_edge)) SplitHigh)

  abbrev SplitOutcome : Option EditFault → Type 0
  SplitOutcome = Staged (HasName x.state.edge_names edge) (Is (UnknownEdge edge)) SplitNew

  split_one : IsOne SplitOutcome
  split_one = next _ _ _ (next _ _ _ (next _ _ _ (next _ _ _ (next _ _ _ one_done))))

  split_fault : (f : EditFault) → IsSplitFault x edge vertex new_edge f → (f ≡ NoMemory → ⊥) → SplitOutcome (Some f)
  split_fault (UsedVertex n) (is, edge_is, used) m = passes edge_is (fails (λ l. l used.0 used.1) (ap (λ z. Some (UsedVertex z)) is))
  split_fault (UsedEdge n) (is, edge_is, new, used) m = passes edge_is (passes new (fails (λ l. l used.0 used.1) (ap (λ z. Some (UsedEdge z)) is)))
  split_fault (UnknownVertex n) h m = absurd h
  split_fault (UnknownEdge n) h m = fails (unknown_not x.state.edge_names edge h.1) (ap (λ z. Some (UnknownEdge z)) h.0)
  split_fault Loop h m = absurd h
  split_fault (NotAt e v) h m = absurd h
  split_fault (TooManyVertices n) (is, over, e, named) m =
      passes (e, named.edge_is) (passes named.vertex_is_new (passes named.edge_is_new (fails (λ l. omega (arith, l, over, is)) (ap (λ z. Some (TooManyVertices z)) is))))
  split_fault (TooManyEdges n) (is, over, high, e, named) m =
      passes (e, named.edge_is) (passes named.vertex_is_new (passes named.edge_is_new (passes high (fails (λ l. omega (arith, l, over, is)) (ap (λ z. Some (TooManyEdges z)) is)))))
  split_fault OuterCorner h m = absurd h
  split_fault (Cycle t u) h m = absurd h
  split_fault OtherFace h m = absurd h
  split_fault (Source v) h m = absurd h
  split_fault (Sink v) h m = absurd h
  split_fault NoMemory h m = absurd (m refl)

  split_done : (y : SessionValue) → SplitsEdgeTo x edge vertex new_edge y → SplitOutcome None
  split_done y h = passes (h.e, h.named.edge_is) (passes h.named.vertex_is_new (passes h.named.edge_is_new (passes h.vertices (passes h.edges refl))))

  same_split : HasEachOnce x.state.edge_names → (y y' : SessionValue) → SplitsEdgeTo x edge vertex new_edge y → SplitsEdgeTo x edge vertex new_edge y' → y ≡ y'
  same_split once y y' h k = h.is ∙ ap (λ (e : ℕ). with_state x (split_state x.state e vertex new_edge)) (once h.e k.e edge h.named.edge_is k.named.edge_is) ∙ sym k.is

-- ---- insert
-- two lists of four
pub record AreSameFour (u a v b u' a' v' b' : ℕ) : Type 0 where
  pub tail : u ≡ u'
  pub tail_after : a ≡ a'
  pub head : v ≡ v'
  pub head_after : b ≡ b'

module _ (x : SessionValue) (w : InsertNames) (vertices : HasEachOnce x.state.vertex_names) (names : HasEachOnce x.state.edge_names) where
  same_named : (u a v b u' a' v' b' : ℕ) → AreInsertNamed x.state w u a v b → AreInsertNamed x.state w u' a' v' b' → AreSameFour u a v b u' a' v' b'
  same_named u a v b u' a' v' b' h k = record {
    tail = vertices u u' w.tail h.tail_is k.tail_is;
    tail_after = names a a' w.tail_after h.tail_after_is k.tail_after_is;
    head = vertices v v' w.head h.head_is k.head_is;
    head_after = names b b' w.head_after h.head_after_is k.head_after_is;
  }

  same_ends : (p q p' q' : ℕ) → AreInsertEnds x w p q → AreInsertEnds x w p' q' → (p ≡ p') × (q ≡ q')
  same_ends p q p' q' h k =
      let s = same_named h.u h.a h.v h.b k.u k.a k.v k.b h.joined.named k.joined.named in (
        h.p_is ∙ ap (λ (z : ℕ). end_at x.state.graph.ends z h.a) s.tail ∙ ap (λ (z : ℕ). end_at x.state.graph.ends k.u z) s.tail_after ∙ sym k.p_is,
        h.q_is ∙ ap (λ (z : ℕ). end_at x.state.graph.ends z h.b) s.head ∙ ap (λ (z : ℕ). end_at x.state.graph.ends k.v z) s.head_after ∙ sym k.q_is,
      )

  abbrev AreTwoEnds : Type 0
  AreTwoEnds = SomeNamed x.state w (λ u a v b. u ≢ v)

  abbrev HasTailEnd : Type 0
  HasTailEnd = SomeNamed x.state w (λ u a v b. (u ≢ v) × IsEdgeAt x.state.graph.ends u a)

  abbrev HasBothEnds : Type 0
  HasBothEnds = SomeNamed x.state w (λ u a v b. AreJoined x.state w u a v b)

  abbrev IsInner : Type 0
  IsInner = (p : ℕ) × (q : ℕ) × AreInner x w p q

  abbrev IsOpen : Type 0
  IsOpen = (p : ℕ) × (q : ℕ) × AreInner x w p q × (ClosesCycle x.state p q → ⊥)

  abbrev IsInOneFace : Type 0
  IsInOneFace = (p : ℕ) × (q : ℕ) × AreInner x w p q × CornersMeet x.state.graph p q

  abbrev InsertFaces : Option EditFault → Type 0
  InsertFaces = Staged IsInner (Is OuterCorner) (Staged IsOpen (Is (Cycle w.tail w.head)) (Staged IsInOneFace (Is OtherFace) IsDone))

  abbrev InsertRoom : Option EditFault → Type 0
  InsertRoom = Staged (suc (edges x.state.graph) ≤ x.max_edges) (Is (TooManyEdges (suc (edges x.state.graph)))) InsertFaces

  abbrev InsertEnds : Option EditFault → Type 0
  InsertEnds = Staged AreTwoEnds (Is Loop) (Staged HasTailEnd (Is (NotAt w.tail_after w.tail)) (Staged HasBothEnds (Is (NotAt w.head_after w.head)) InsertRoom))

  abbrev InsertAfter : Option EditFault → Type 0
  InsertAfter = Staged (HasName x.state.edge_names w.tail_after) (Is (UnknownEdge w.tail_after)) (Staged (HasName x.state.edge_names w.head_after) (Is (UnknownEdge w.head_after)) InsertEnds)

  abbrev InsertOutcome : Option EditFault → Type 0
  InsertOutcome =
      Staged (LacksName x.state.edge_names w.edge) (Is (UsedEdge w.edge))
      (Staged (HasName x.state.vertex_names w.tail) (Is (UnknownVertex w.tail)) (Staged (HasName x.state.vertex_names w.head) (Is (UnknownVertex w.head)) InsertAfter))

  insert_one : IsOne InsertOutcome
  insert_one =
      next _ _ _ (next _ _ _ (next _ _ _ (next _ _ _ (next _ _ _ (next _ _ _ (next _ _ _ (next _ _ _ (next _ _ _ (next _ _ _ (next _ _ _ (next _ _ _ one_done)))))))))))

  -- all names are known
  named : (u a v b : ℕ) (o : Option EditFault) → AreInsertNamed x.state w u a v b → InsertEnds o → InsertOutcome o
  named u a v b o h k = passes h.new_edge (passes (u, h.tail_is) (passes (v, h.head_is) (passes (a, h.tail_after_is) (passes (b, h.head_after_is) k))))

  -- and both edges have the ends
  joined : (u a v b : ℕ) (o : Option EditFault) → AreJoined x.state w u a v b → InsertRoom o → InsertOutcome o
  joined u a v b o h k =
      named u a v b o h.named (passes (u, a, v, b, h.named, h.apart) (passes (u, a, v, b, h.named, (h.apart, h.tail_at)) (passes (u, a, v, b, h.named, h) k)))

  ended : (p q : ℕ) (o : Option EditFault) → AreInsertEnds x w p q → InsertFaces o → InsertOutcome o
  ended p q o h k = joined h.u h.a h.v h.b o h.joined (passes h.room k)

  insert_fault : (f : EditFault) → IsInsertFault x w f → (f ≡ NoMemory → ⊥) → InsertOutcome (Some f)
  insert_fault (UsedVertex n) h m = absurd h
  insert_fault (UsedEdge n) h m = fails (λ l. l h.1.0 h.1.1) (ap (λ z. Some (UsedEdge z)) h.0)
  insert_fault (UnknownVertex n) (new, which) m = elim which [
    | inl t ↦ passes new (fails (unknown_not x.state.vertex_names w.tail t.1) (ap (λ z. Some (UnknownVertex z)) t.0))
    | inr t ↦ passes new (passes t.1 (fails (unknown_not x.state.vertex_names w.head t.2) (ap (λ z. Some (UnknownVertex z)) t.0)))
  ]
  insert_fault (UnknownEdge n) (new, has_tail, has_head, which) m = elim which [
    | inl t ↦ passes new (passes has_tail (passes has_head (fails (unknown_not x.state.edge_names w.tail_after t.1) (ap (λ z. Some (UnknownEdge z)) t.0))))
    | inr t ↦ passes new (passes has_tail (passes has_head (passes t.1 (fails (unknown_not x.state.edge_names w.head_after t.2) (ap (λ z. Some (UnknownEdge z)) t.0)))))
  ]
  insert_fault Loop (u, a, v, b, is, same) m =
      let two : AreTwoEnds → ⊥ = λ k. let s = same_named u a v b k.0 k.1 k.2 k.3 is k.4 in k.5 (sym s.tail ∙ same ∙ s.head) in
      named u a v b (Some Loop) is (fails two refl)
  insert_fault (NotAt e n) (u, a, v, b, is, (two, at)) m = elim at [
    | inl t ↦
        let none : HasTailEnd → ⊥ = λ k.
        let s = same_named u a v b k.0 k.1 k.2 k.3 is k.4 in
        t.2 (subst (λ (z : ℕ). IsEdgeAt x.state.graph.ends z a) (sym s.tail) (subst (λ (z : ℕ). IsEdgeAt x.state.graph.ends k.0 z) (sym s.tail_after) k.5.1)) in
        named u a v b (Some (NotAt e n)) is (passes (u, a, v, b, is, two) (fails none (ap (λ z. Some (NotAt z n)) t.0 ∙ ap (λ z. Some (NotAt w.tail_after z)) t.1)))
    | inr t ↦
        let none : HasBothEnds → ⊥ = λ k.
        let s = same_named u a v b k.0 k.1 k.2 k.3 is k.4 in
        t.3 (subst (λ (z : ℕ). IsEdgeAt x.state.graph.ends z b) (sym s.head) (subst (λ (z : ℕ). IsEdgeAt x.state.graph.ends k.2 z) (sym s.head_after) k.5.head_at)) in
        named u a v b (Some (NotAt e n)) is
        (passes (u, a, v, b, is, two) (passes (u, a, v, b, is, (two, t.2)) (fails none (ap (λ z. Some (NotAt z n)) t.0 ∙ ap (λ z. Some (NotAt w.head_after z)) t.1))))
  ]
  insert_fault (TooManyVertices n) h m = absurd h
  insert_fault (TooManyEdges n) (is, over, (u, a, v, b, _, j)) m =
      joined u a v b (Some (TooManyEdges n)) j (fails (λ l. omega (arith, l, over, is)) (ap (λ z. Some (TooManyEdges z)) is))
  insert_fault OuterCorner (p, q, h, outer) m =
      let none : IsInner → ⊥ = λ k.
      let s = same_ends p q k.0 k.1 h k.2.ends in
      elim outer [
        | inl o ↦ k.2.tail_inner (subst (λ (z : ℕ). IsOuterCorner x.state.graph x.state.outer z) s.0 o)
        | inr o ↦ k.2.head_inner (subst (λ (z : ℕ). IsOuterCorner x.state.graph x.state.outer z) s.1 o)
      ] in
      ended p q (Some OuterCorner) h (fails none refl)
  insert_fault (Cycle t u) (t_is, u_is, p, q, h, closes) m =
      let none : IsOpen → ⊥ = λ k.
      let s = same_ends p q k.0 k.1 h.ends k.2.ends in
      k.3 (subst (λ (z : ℕ). ClosesCycle x.state z k.1) s.0 (subst (λ (z : ℕ). ClosesCycle x.state p z) s.1 closes)) in
      ended p q (Some (Cycle t u)) h.ends (passes (p, q, h) (fails none (ap (λ z. Some (Cycle z u)) t_is ∙ ap (λ z. Some (Cycle w.tail z)) u_is)))
  insert_fault OtherFace (p, q, h, open_there, apart) m =
      let none : IsInOneFace → ⊥ = λ k.
      let s = same_ends p q k.0 k.1 h.ends k.2.ends in
      apart (subst (λ (z : ℕ). CornersMeet x.state.graph z q) (sym s.0) (subst (λ (z : ℕ). CornersMeet x.state.graph k.0 z) (sym s.1) k.3)) in
      ended p q (Some OtherFace) h.ends (passes (p, q, h) (passes (p, q, h, open_there) (fails none refl)))
  insert_fault (Source v) h m = absurd h
  insert_fault (Sink v) h m = absurd h
  insert_fault NoMemory h m = absurd (m refl)

  insert_done : (y : SessionValue) → InsertsEdgeTo x w y → InsertOutcome None
  insert_done y h = ended h.p h.q None h.inner.ends (passes (h.p, h.q, h.inner) (passes (h.p, h.q, h.inner, h.acyclic) (passes (h.p, h.q, h.inner, h.one_face) refl)))

  same_insert : (y y' : SessionValue) → InsertsEdgeTo x w y → InsertsEdgeTo x w y' → y ≡ y'
  same_insert y y' h k =
      let s = same_ends h.p h.q k.p k.q h.inner.ends k.inner.ends in
      h.is ∙ ap (λ (z : ℕ). with_state x (insert_state x.state z h.q w.edge)) s.0 ∙ ap (λ (z : ℕ). with_state x (insert_state x.state k.p z w.edge)) s.1 ∙ sym k.is

-- ---- remove
module _ (x : SessionValue) (edge : ℤ) (names : HasEachOnce x.state.edge_names) where
  abbrev SourceAt : Option EditFault → Type 0
  SourceAt o = (n : ℤ) × (e : ℕ) × IsNameAt x.state.edge_names e edge × IsNameAt x.state.vertex_names (head x.state.graph e) n × (o ≡ Some (Source n))

  abbrev SinkAt : Option EditFault → Type 0
  SinkAt o = (n : ℤ) × (e : ℕ) × IsNameAt x.state.edge_names e edge × IsNameAt x.state.vertex_names (tail x.state.graph e) n × (o ≡ Some (Sink n))

  abbrev HasOthersIn : Type 0
  HasOthersIn = (e : ℕ) × IsNameAt x.state.edge_names e edge × OthersIn x.state.graph e

  abbrev HasOthersOut : Type 0
  HasOthersOut = (e : ℕ) × IsNameAt x.state.edge_names e edge × OthersOut x.state.graph e

  abbrev RemoveOutcome : Option EditFault → Type 0
  RemoveOutcome = Staged (HasName x.state.edge_names edge) (Is (UnknownEdge edge)) (Staged HasOthersIn SourceAt (Staged HasOthersOut SinkAt IsDone))

  same_name : (names : List ℤ) (v v' : ℕ) (n n' : ℤ) → v ≡ v' → IsNameAt names v n → IsNameAt names v' n' → n ≡ n'
  same_name names v v' n n' e h k = some_same (sym h ∙ ap (λ (z : ℕ). slice_get names z) e ∙ k)
    where
      some_same : Some n ≡ Some n' → n ≡ n'
      some_same e = cc

  one_source : IsOne SourceAt
  one_source o o' (n, e, is, called, told) (n', e', is', called', told') =
      told ∙ ap (λ z. Some (Source z)) (same_name x.state.vertex_names (head x.state.graph e) (head x.state.graph e') n n' (ap (λ (z : ℕ). head x.state.graph z) (names e e' edge is is')) called called') ∙ sym told'

  one_sink : IsOne SinkAt
  one_sink o o' (n, e, is, called, told) (n', e', is', called', told') =
      told ∙ ap (λ z. Some (Sink z)) (same_name x.state.vertex_names (tail x.state.graph e) (tail x.state.graph e') n n' (ap (λ (z : ℕ). tail x.state.graph z) (names e e' edge is is')) called called') ∙ sym told'

  remove_one : IsOne RemoveOutcome
  remove_one = next _ _ _ (one_staged _ _ _ one_source (one_staged _ _ _ one_sink one_done))

  remove_fault : (f : EditFault) → IsRemoveFault x edge f → (f ≡ NoMemory → ⊥) → RemoveOutcome (Some f)
  remove_fault (UsedVertex n) h m = absurd h
  remove_fault (UsedEdge n) h m = absurd h
  remove_fault (UnknownVertex n) h m = absurd h
  remove_fault (UnknownEdge n) h m = fails (unknown_not x.state.edge_names edge h.1) (ap (λ z. Some (UnknownEdge z)) h.0)
  remove_fault Loop h m = absurd h
  remove_fault (NotAt e v) h m = absurd h
  remove_fault (TooManyVertices n) h m = absurd h
  remove_fault (TooManyEdges n) h m = absurd h
  remove_fault OuterCorner h m = absurd h
  remove_fault (Cycle t u) h m = absurd h
  remove_fault OtherFace h m = absurd h
  remove_fault (Source n) (e, is, none, called) m =
      let lacks : HasOthersIn → ⊥ = λ k. none (subst (λ (z : ℕ). OthersIn x.state.graph z) (names k.0 e edge k.1 is) k.2) in
      passes (e, is) (fails lacks (n, e, is, called, refl))
  remove_fault (Sink n) (e, is, others, none, called) m =
      let lacks : HasOthersOut → ⊥ = λ k. none (subst (λ (z : ℕ). OthersOut x.state.graph z) (names k.0 e edge k.1 is) k.2) in
      passes (e, is) (passes (e, is, others) (fails lacks (n, e, is, called, refl)))
  remove_fault NoMemory h m = absurd h

  remove_done : (y : SessionValue) → RemovesEdgeTo x edge y → RemoveOutcome None
  remove_done y h = passes (h.e, h.edge_is) (passes (h.e, h.edge_is, h.others_in) (passes (h.e, h.edge_is, h.others_out) refl))

  same_remove : (y y' : SessionValue) → RemovesEdgeTo x edge y → RemovesEdgeTo x edge y' → y ≡ y'
  same_remove y y' h k = h.is ∙ ap (λ (e : ℕ). with_state x (remove_state x.state e)) (names h.e k.e edge h.edge_is k.edge_is) ∙ sym k.is

-- ---- an edit
module _ (x : SessionValue) (vertices : HasEachOnce x.state.vertex_names) (names : HasEachOnce x.state.edge_names) where
  some_same : (f g : EditFault) → Some f ≡ Some g → f ≡ g
  some_same f g e = cc

  apart : (f : EditFault) → None ≡ Some f → ⊥
  apart f e = cc

  pub same_edit : (c : Change) (y y' : SessionValue) → Applies x c y → Applies x c y' → y ≡ y'
  same_edit (by_split edge vertex new_edge) y y' h k = same_split x edge vertex new_edge names y y' h k
  same_edit (by_insert w) y y' h k = same_insert x w vertices names y y' h k
  same_edit (by_removal edge) y y' h k = same_remove x edge names y y' h k

  pub same_fault : (c : Change) (f g : EditFault) → IsEditFault x c f → IsEditFault x c g → (f ≡ NoMemory → ⊥) → (g ≡ NoMemory → ⊥) → f ≡ g
  same_fault (by_split edge vertex new_edge) f g h k m n =
      some_same f g (split_one x edge vertex new_edge (Some f) (Some g) (split_fault x edge vertex new_edge f h m) (split_fault x edge vertex new_edge g k n))
  same_fault (by_insert w) f g h k m n =
      some_same f g (insert_one x w vertices names (Some f) (Some g) (insert_fault x w vertices names f h m) (insert_fault x w vertices names g k n))
  same_fault (by_removal edge) f g h k m n = some_same f g (remove_one x edge names (Some f) (Some g) (remove_fault x edge names f h m) (remove_fault x edge names g k n))

  pub done_or_fault : (c : Change) (y : SessionValue) (f : EditFault) → Applies x c y → IsEditFault x c f → (f ≡ NoMemory → ⊥) → ⊥
  done_or_fault (by_split edge vertex new_edge) y f h k m =
      apart f (split_one x edge vertex new_edge None (Some f) (split_done x edge vertex new_edge y h) (split_fault x edge vertex new_edge f k m))
  done_or_fault (by_insert w) y f h k m = apart f (insert_one x w vertices names None (Some f) (insert_done x w vertices names y h) (insert_fault x w vertices names f k m))
  done_or_fault (by_removal edge) y f h k m = apart f (remove_one x edge names None (Some f) (remove_done x edge names y h) (remove_fault x edge names f k m))
