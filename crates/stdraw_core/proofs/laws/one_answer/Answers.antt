use Rattle.stdraw_core.proofs.OneAnswer.{one_answer}
use Rattle.stdraw_core.proofs.laws.one_answer.Goals as goal

pub returns : goal.returns
returns c =
    one_answer c.fault_forbids.ensures c.no_loop.ensures (record {
      poles = c.one_poles_answer.ensures;
      tree = c.one_tree.ensures;
      graph = c.one_graph.ensures;
      script = c.one_script.ensures.script;
      bad = c.one_script.ensures.fault;
      apart = c.one_script.ensures.apart;
      session = c.session.ensures;
      reply = c.one_reply.ensures;
    })
