-- From a planar st-graph with names that differ every list of calls leads to one.
use Rattle.std.proofs.Common.{◌≡◌, ◌≢◌, ◌<◌, ◌-◌, suc, ℤ, pos, List, length, ap, sym, ◌∙◌, subst, arith}
use Rattle.std.proofs.lemmas.Option.{slice_get_within}
use Rattle.std.specs.List.{swap_remove}
use Rattle.st_map.specs.Embedded.{Embedded, at, darts, edges}
use Rattle.st_map.specs.Insert.{insert}
use Rattle.st_map.specs.Remove.{removed}
use Rattle.st_map.specs.Split.{split}
use Rattle.st_reduce.specs.Reduced.{PlanarSplitLaw}
use Rattle.st_session.specs.Editing.{InsertionLaw, RemovalLaw}
use Rattle.st_session.specs.Edits.{InsertsEdgeTo, RemovesEdgeTo, SplitsEdgeTo}
use Rattle.st_session.specs.Runs.{Applies, Call, Edit, Runs, SessionLaw, asked, at_end, by_insert, by_removal, by_split, edited}
use Rattle.st_session.specs.States.{IsState, SessionValue}
use Rattle.st_session.specs.declared.insertion.InsertNames.{InsertNames}
use Rattle.st_session.specs.declared.reply.Reply.{Reply}
use Rattle.st_session.proofs.EndLemmas.{end_at_in, end_at_at}
use Rattle.st_session.proofs.KeptLemmas.{edges-insert, edges-removed, edges-split, length_more}
use Rattle.st_session.proofs.NameLemmas.{each_once_push, each_once_swap, length_swap_remove}

split_kept : PlanarSplitLaw → (x y : SessionValue) (edge vertex new_edge : ℤ) → IsState x.state → SplitsEdgeTo x edge vertex new_edge y → IsState y.state
split_kept split_law x y edge vertex new_edge S h =
    let g : Embedded = x.state.graph in
    let l : h.e < edges x.state.graph = subst (λ z. h.e < z) S.edges (slice_get_within x.state.edge_names h.e edge h.named.edge_is) in
    let c : edges (split x.state.graph h.e) ≡ suc (edges x.state.graph) = edges-split x.state.graph S.source S.sink x.state.outer h.e S.planar l in
    subst (λ (z : SessionValue). IsState z.state) (sym h.is) (record {
      source = S.source;
      sink = S.sink;
      planar = (split_law x.state.graph S.source S.sink x.state.outer h.e S.planar l).planar;
      vertices = length_more x.state.vertex_names vertex x.state.graph.vertices S.vertices;
      edges = length_more x.state.edge_names new_edge (edges x.state.graph) S.edges ∙ sym c;
      vertices_differ = each_once_push x.state.vertex_names vertex h.named.vertex_is_new S.vertices_differ;
      edges_differ = each_once_push x.state.edge_names new_edge h.named.edge_is_new S.edges_differ;
    })

insert_kept : InsertionLaw → (x y : SessionValue) (w : InsertNames) → IsState x.state → InsertsEdgeTo x w y → IsState y.state
insert_kept insertion_law x y w S h =
    let E = h.inner.ends in
    let J = E.joined in
    let lp : h.p < darts x.state.graph = subst (λ z. z < darts x.state.graph) (sym E.p_is) (end_at_in x.state.graph E.u E.a J.tail_at) in
    let lq : h.q < darts x.state.graph = subst (λ z. z < darts x.state.graph) (sym E.q_is) (end_at_in x.state.graph E.v E.b J.head_at) in
    let ap_ : at x.state.graph h.p ≡ E.u = ap (at x.state.graph) E.p_is ∙ end_at_at x.state.graph E.u E.a J.tail_at in
    let aq_ : at x.state.graph h.q ≡ E.v = ap (at x.state.graph) E.q_is ∙ end_at_at x.state.graph E.v E.b J.head_at in
    let d : at x.state.graph h.p ≢ at x.state.graph h.q = λ e. J.apart (sym ap_ ∙ e ∙ aq_) in
    let c : edges (insert x.state.graph h.p h.q) ≡ suc (edges x.state.graph) = edges-insert x.state.graph S.source S.sink x.state.outer h.p h.q S.planar lp lq d in
    subst (λ (z : SessionValue). IsState z.state) (sym h.is) (record {
      source = S.source;
      sink = S.sink;
      planar = (insertion_law x.state.graph S.source S.sink x.state.outer h.p h.q S.planar lp lq d).accepted h.one_face h.inner.tail_inner h.acyclic;
      vertices = S.vertices;
      edges = length_more x.state.edge_names w.edge (edges x.state.graph) S.edges ∙ sym c;
      vertices_differ = S.vertices_differ;
      edges_differ = each_once_push x.state.edge_names w.edge J.named.new_edge S.edges_differ;
    })

remove_kept : RemovalLaw → (x y : SessionValue) (edge : ℤ) → IsState x.state → RemovesEdgeTo x edge y → IsState y.state
remove_kept removal_law x y edge S h =
    let i : h.e < length x.state.edge_names = slice_get_within x.state.edge_names h.e edge h.edge_is in
    let l : h.e < edges x.state.graph = subst (λ z. h.e < z) S.edges i in
    let c : edges x.state.graph ≡ suc (edges (removed x.state.graph h.e)) = edges-removed x.state.graph S.source S.sink x.state.outer h.e S.planar l in
    let m : length x.state.edge_names ≡ edges x.state.graph = S.edges in
    let n : length (swap_remove x.state.edge_names h.e (pos 0)) ≡ length x.state.edge_names - 1 = length_swap_remove x.state.edge_names h.e i in
    subst (λ (z : SessionValue). IsState z.state) (sym h.is) (record {
      source = S.source;
      sink = S.sink;
      planar = (removal_law x.state.graph S.source S.sink x.state.outer h.e S.planar l).accepted h.others_in h.others_out;
      vertices = S.vertices;
      edges = omega arith;
      vertices_differ = S.vertices_differ;
      edges_differ = each_once_swap x.state.edge_names h.e i S.edges_differ;
    })

applied : PlanarSplitLaw → InsertionLaw → RemovalLaw → (x y : SessionValue) (c : Edit) → IsState x.state → Applies x c y → IsState y.state
applied a b c x y (by_split edge vertex new_edge) S h = split_kept a x y edge vertex new_edge S h
applied a b c x y (by_insert w) S h = insert_kept b x y w S h
applied a b c x y (by_removal edge) S h = remove_kept c x y edge S h

pub session_law : PlanarSplitLaw → InsertionLaw → RemovalLaw → SessionLaw
session_law splits inserts removes x z cs rs S h = go x z cs rs S h
  where
    go : (x z : SessionValue) (cs : List Call) (rs : List Reply) → IsState x.state → Runs x cs rs z → IsState z.state
    go x z cs rs S at_end = S
    go x z cs rs S (edited {y = y} {c = c} {cs = ds} a r) = go y z ds rs (applied splits inserts removes x y c S a) r
    go x z cs rs S (asked {cs = ds} {rs = ss} a r) = go x z ds ss S r
