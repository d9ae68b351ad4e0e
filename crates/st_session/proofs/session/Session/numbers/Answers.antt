use Rattle.std.proofs.Common.{◌<◌, Option, Some, IfSome, sym, subst}
use Rattle.st_order.specs.declared.table.Labels.{Labels}
use Rattle.st_session.specs.Kept.{AreLabelsOf, session_value}
use Rattle.st_session.specs.Replies.{AreReplyNumbers}
use Rattle.st_session.specs.States.{SessionValue}
use Rattle.st_session.proofs.SessionLemmas.{kept_with}
use Rattle.st_session.proofs.session.Session.numbers.Goals as goal

pub labels_or-requires-clause-kept : goal.labels_or-requires-clause-kept
labels_or-requires-clause-kept c = subst (λ (z : Option Labels). IfSome z (AreLabelsOf c.self.inside.map.graph c.self.inside.poles.source.0 c.self.inside.poles.sink.0 c.self.inside.outer.0)) (sym c.take-kept.ensures.value) c.self.invariant.labels

pub invariant_of-self : goal.invariant_of-self
invariant_of-self c = kept_with (session_value c.self.inside.map.graph c.self.inside.vertex_names c.self.inside.edge_names c.self.inside.outer.0 c.self.inside.max_vertices c.self.inside.max_edges)
    c.self.inside.poles.source.0 c.self.inside.poles.sink.0 c.self.inside.labels c.take-kept.new.self c.self.invariant
    (subst (λ (z : Option Labels). IfSome z (AreLabelsOf c.self.inside.map.graph c.self.inside.poles.source.0 c.self.inside.poles.sink.0 c.self.inside.outer.0)) (sym c.take-kept.ensures.after) tt)

pub reply_of-reply-requires-clause-u_there : goal.reply_of-reply-requires-clause-u_there
reply_of-reply-requires-clause-u_there c = subst (λ (z : SessionValue). c.args.u.0 < z.state.graph.vertices) (sym c.self.view_is) c.requires.u_there

pub reply_of-reply-requires-clause-v_there : goal.reply_of-reply-requires-clause-v_there
reply_of-reply-requires-clause-v_there c = subst (λ (z : SessionValue). c.args.v.0 < z.state.graph.vertices) (sym c.self.view_is) c.requires.v_there

pub invariant_of-self-2 : goal.invariant_of-self-2
invariant_of-self-2 c = kept_with (session_value c.self.inside.map.graph c.self.inside.vertex_names c.self.inside.edge_names c.self.inside.outer.0 c.self.inside.max_vertices c.self.inside.max_edges)
    c.self.inside.poles.source.0 c.self.inside.poles.sink.0 c.self.inside.labels (Some c.in_ok-labels.labels) c.self.invariant c.in_ok-labels.ensures

pub returns-clause-numbers : goal.returns-clause-numbers
returns-clause-numbers c = subst (λ (z : SessionValue). AreReplyNumbers z.state.graph z.state.outer c.args.u.0 c.args.v.0 c.reply_of-reply.result) c.self.view_is c.reply_of-reply.ensures
