-- The value of a session after an edit, by what its parts have become.
use Rattle.std.proofs.Common.{◌≡◌, ◌≢◌, ◌<◌, ◌≤◌, ◌^◌, ℕ, ℤ, pos, true, false, List, [], ◌∷◌, ◌++◌, length, Option, None, IfSome, refl, ap, sym, ◌∙◌, subst}
use Rattle.std.proofs.lemmas.Bool.{both_ways}
use Rattle.std.specs.List.{swap_remove}
use Rattle.st_ids.specs.Graph.{arcs_of}
use Rattle.st_ids.specs.Walks.{Reaches}
use Rattle.st_map.specs.Embedded.{Embedded, at, bare, darts, edges}
use Rattle.st_map.specs.Insert.{insert}
use Rattle.st_map.specs.Remove.{removed}
use Rattle.st_map.specs.Split.{split}
use Rattle.st_order.specs.declared.table.Labels.{Labels}
use Rattle.st_test.specs.Planar.{IsPlanarSt}
use Rattle.st_session.specs.Editing.{outer_after}
use Rattle.st_session.specs.Edits.{AreInsertEnds, ClosesCycle, insert_state, remove_state, split_state, with_state}
use Rattle.st_session.specs.Kept.{AreLabelsOf, IsKeptSession, session_value}
use Rattle.st_session.specs.Replies.{AreReplyNumbers}
use Rattle.st_session.specs.States.{SessionState, SessionValue}
use Rattle.st_session.specs.declared.insertion.InsertNames.{InsertNames}
use Rattle.st_session.specs.declared.reply.Reply.{Reply}
use Rattle.st_session.proofs.EndLemmas.{end_at_at, end_at_in}

-- a session with the same parts has the same value
pub same_value : (g g' : Embedded) (vs vs' es es' : List ℤ) (outer outer' n m : ℕ) → g ≡ g' → vs ≡ vs' → es ≡ es' → outer ≡ outer' → session_value g vs es outer n m ≡ session_value g' vs' es' outer' n m
same_value g g' vs vs' es es' outer outer' n m a b c d =
    ap (λ (z : Embedded). session_value z vs es outer n m) a ∙ ap (λ (z : List ℤ). session_value g' z es outer n m) b
    ∙ ap (λ (z : List ℤ). session_value g' vs' z outer n m) c ∙ ap (λ z. session_value g' vs' es' z n m) d

-- the value after each edit
module _ (x : SessionValue) (g : Embedded) (vs es : List ℤ) (outer n m : ℕ) (is : session_value g vs es outer n m ≡ x) where
  pub value_kept : (g' : Embedded) (vs' es' : List ℤ) → g' ≡ g → vs' ≡ vs → es' ≡ es → session_value g' vs' es' outer n m ≡ x
  value_kept g' vs' es' a b c = same_value g' g vs' vs es' es outer outer n m a b c refl ∙ is

  pub value_split : (g' : Embedded) (vs' es' : List ℤ) (e : ℕ) (vertex new_edge : ℤ) → g' ≡ split g e → vs' ≡ vs ++ vertex ∷ [] → es' ≡ es ++ new_edge ∷ []
      → session_value g' vs' es' outer n m ≡ with_state x (split_state x.state e vertex new_edge)
  value_split g' vs' es' e vertex new_edge a b c =
      same_value g' (split g e) vs' (vs ++ vertex ∷ []) es' (es ++ new_edge ∷ []) outer outer n m a b c refl ∙ ap (λ (z : SessionValue). with_state z (split_state z.state e vertex new_edge)) is

  pub value_insert : (g' : Embedded) (es' : List ℤ) (p q : ℕ) (edge : ℤ) → g' ≡ insert g p q → es' ≡ es ++ edge ∷ []
      → session_value g' vs es' outer n m ≡ with_state x (insert_state x.state p q edge)
  value_insert g' es' p q edge a c =
      same_value g' (insert g p q) vs vs es' (es ++ edge ∷ []) outer outer n m a refl c refl ∙ ap (λ (z : SessionValue). with_state z (insert_state z.state p q edge)) is

  pub value_removed : (g' : Embedded) (es' : List ℤ) (outer' e : ℕ) → g' ≡ removed g e → es' ≡ swap_remove es e (pos 0) → outer' ≡ outer_after g e outer
      → session_value g' vs es' outer' n m ≡ with_state x (remove_state x.state e)
  value_removed g' es' outer' e a c d =
      same_value g' (removed g e) vs vs es' (swap_remove es e (pos 0)) outer' (outer_after g e outer) n m a refl c d ∙ ap (λ (z : SessionValue). with_state z (remove_state z.state e)) is

-- what is kept of another value that is the same
pub kept_of : (x y : SessionValue) (s t : ℕ) (labels : Option Labels) → x ≡ y → IsKeptSession x s t labels → IsKeptSession y s t labels
kept_of x y s t labels e K = subst (λ (z : SessionValue). IsKeptSession z s t labels) e K

-- the labels are forgotten, or others are learnt
pub kept_with : (x : SessionValue) (s t : ℕ) (labels known : Option Labels) → IsKeptSession x s t labels → IfSome known (AreLabelsOf x.state.graph s t x.state.outer) → IsKeptSession x s t known
kept_with x s t labels known K A = record {
  planar = K.planar;
  vertex_names = K.vertex_names;
  edge_names = K.edge_names;
  few_vertices = K.few_vertices;
  few_edges = K.few_edges;
  vertices = K.vertices;
  edges = K.edges;
  labels = A;
}

-- the two ends after which those of a new edge stand
module _ (x : SessionValue) (w : InsertNames) (p q : ℕ) (E : AreInsertEnds x w p q) where
  pub tail_end_in : p < darts x.state.graph
  tail_end_in = subst (λ z. z < darts x.state.graph) (sym E.p_is) (end_at_in x.state.graph E.u E.a E.joined.tail_at)

  pub head_end_in : q < darts x.state.graph
  head_end_in = subst (λ z. z < darts x.state.graph) (sym E.q_is) (end_at_in x.state.graph E.v E.b E.joined.head_at)

  pub ends_apart : at x.state.graph p ≢ at x.state.graph q
  ends_apart e =
      let a : at x.state.graph p ≡ E.u = ap (at x.state.graph) E.p_is ∙ end_at_at x.state.graph E.u E.a E.joined.tail_at in
      let b : at x.state.graph q ≡ E.v = ap (at x.state.graph) E.q_is ∙ end_at_at x.state.graph E.v E.b E.joined.head_at in
      E.joined.apart (sym a ∙ e ∙ b)

-- what the reply on the head and the tail of a new edge says of a cycle
module _ (x : SessionState) (p q u v : ℕ) (r : Reply) (N : AreReplyNumbers x.graph x.outer u v r) (a : u ≡ at x.graph q) (b : v ≡ at x.graph p) where
  pub closes_cycle : r.reaches ≡ true → ClosesCycle x p q
  closes_cycle e = subst (λ z. Reaches (arcs_of (bare x.graph)) z (at x.graph p)) a (subst (λ z. Reaches (arcs_of (bare x.graph)) u z) b (N.reaches.0 e))

  pub stays_open : r.reaches ≡ false → ClosesCycle x p q → ⊥
  stays_open e h = both_ways r.reaches e (N.reaches.1 (subst (λ z. Reaches (arcs_of (bare x.graph)) u z) (sym b) (subst (λ z. Reaches (arcs_of (bare x.graph)) z (at x.graph p)) (sym a) h)))

-- what a new session keeps
pub kept_first : (g g' : Embedded) (s s' t t' outer outer' : ℕ) (vs vs' es es' : List ℤ) (n m : ℕ) → IsPlanarSt g s t outer → g' ≡ g → s' ≡ s → t' ≡ t → outer' ≡ outer → vs' ≡ vs → es' ≡ es
    → length vs ≡ g.vertices → length es ≡ edges g → n < 2 ^ 29 → m < 2 ^ 29 → g.vertices ≤ n → edges g ≤ m → IsKeptSession (session_value g' vs' es' outer' n m) s' t' None
kept_first g g' s s' t t' outer outer' vs vs' es es' n m st a b c d e f lv le fv fe rv re =
    kept_of (session_value g vs es outer n m) (session_value g' vs' es' outer' n m) s' t' None (sym (same_value g' g vs' vs es' es outer' outer n m a e f d)) (record {
      planar = subst (λ z. IsPlanarSt g s' z outer) (sym c) (subst (λ z. IsPlanarSt g z t outer) (sym b) st);
      vertex_names = lv;
      edge_names = le;
      few_vertices = fv;
      few_edges = fe;
      vertices = rv;
      edges = re;
      labels = tt;
    })

-- the names of an insert
abbrev pub names_of : ℤ → ℤ → ℤ → ℤ → ℤ → InsertNames
names_of a b c d e = record { edge = a; tail = b; tail_after = c; head = d; head_after = e }

-- equal names
pub same_names : (a a' b b' c c' d d' e e' : ℤ) → a ≡ a' → b ≡ b' → c ≡ c' → d ≡ d' → e ≡ e' → names_of a b c d e ≡ names_of a' b' c' d' e'
same_names a a' b b' c c' d d' e e' p q r s t =
    ap (λ (z : ℤ). names_of z b c d e) p ∙ ap (λ (z : ℤ). names_of a' z c d e) q ∙ ap (λ (z : ℤ). names_of a' b' z d e) r ∙ ap (λ (z : ℤ). names_of a' b' c' z e) s ∙ ap (λ (z : ℤ). names_of a' b' c' d' z) t
