use Rattle.stdraw_core.proofs.CompleteLemmas.{complete}
use Rattle.stdraw_core.proofs.ExactLemmas.{exact}
use Rattle.stdraw_core.proofs.HeadlineLemmas.{headline, query_headline, lattice_headline, check_headline}
use Rattle.stdraw_core.proofs.OneAnswer.{one_answer}
use Rattle.stdraw_core.proofs.OrientHeadline.{orient_headline}
use Rattle.stdraw_core.proofs.SessionHeadline.{session_headline}
use Rattle.stdraw_core.proofs.top.run.Goals as goal

pub returns-clause-headline : goal.returns-clause-headline
returns-clause-headline g c = headline c.one_poles_answer.ensures _ _ _ _ _ _ _ c.perform.result c.perform.ensures.ending

pub returns-clause-query : goal.returns-clause-query
returns-clause-query g c = query_headline c.one_poles_answer.ensures _ _ _ _ _ _ _ c.perform.result c.perform.ensures.ending

pub returns-clause-exact : goal.returns-clause-exact
returns-clause-exact g c =
    exact (one_answer c.fault_forbids.ensures c.no_loop.ensures (record {
      poles = c.one_poles_answer.ensures;
      tree = c.one_tree.ensures;
      graph = c.one_graph.ensures;
      script = c.one_script.ensures.script;
      bad = c.one_script.ensures.fault;
      apart = c.one_script.ensures.apart;
      session = c.session.ensures;
      reply = c.one_reply.ensures;
    })) _ _ _ _ _ _ _ c.perform.result c.perform.ensures.ending

pub returns-clause-complete : goal.returns-clause-complete
returns-clause-complete g c =
    complete c.fault_forbids.ensures c.no_loop.ensures (record {
      poles = c.one_poles_answer.ensures;
      tree = c.one_tree.ensures;
      graph = c.one_graph.ensures;
      script = c.one_script.ensures.script;
      bad = c.one_script.ensures.fault;
      apart = c.one_script.ensures.apart;
      session = c.session.ensures;
      reply = c.one_reply.ensures;
    }) _ _ _ _ _ _ _ c.perform.result c.perform.ensures.ending

pub returns-clause-lattice : goal.returns-clause-lattice
returns-clause-lattice g c = lattice_headline c.one_poles_answer.ensures _ _ _ _ _ _ _ c.perform.result c.perform.ensures.ending

pub returns-clause-session : goal.returns-clause-session
returns-clause-session g c =
    session_headline (record {
      poles = c.one_poles_answer.ensures;
      tree = c.one_tree.ensures;
      graph = c.one_graph.ensures;
      script = c.one_script.ensures.script;
      bad = c.one_script.ensures.fault;
      apart = c.one_script.ensures.apart;
      session = c.session.ensures;
      reply = c.one_reply.ensures;
    }) _ _ _ _ _ _ _ c.perform.result c.perform.ensures.ending

pub returns-clause-check : goal.returns-clause-check
returns-clause-check g c = check_headline _ _ _ _ _ _ _ c.perform.result c.perform.ensures.ending

pub returns-clause-orient : goal.returns-clause-orient
returns-clause-orient g c =
    orient_headline c.fault_forbids.ensures c.no_loop.ensures c.lists_kept.ensures c.written_reads_back.ensures c.limits_hold.ensures _ _ _ _ _ _ _ c.perform.result c.perform.ensures.ending
