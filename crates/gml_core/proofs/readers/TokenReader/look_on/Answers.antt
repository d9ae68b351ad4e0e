use Rattle.std.proofs.Common.{◌+◌, refl}
use Rattle.gml_core.proofs.Looked.{token_goes, token_closes}
use Rattle.gml_core.proofs.readers.TokenReader.look_on.Goals as goal

pub look-requires-clause-placed : goal.look-requires-clause-placed
look-requires-clause-placed c = rw c.replace-state.ensures.value c.requires.placed

pub returns-in-More-clause-reads : goal.returns-in-More-clause-reads
returns-in-More-clause-reads c = λ b reads.
    let sees = rw (c.replace-state.ensures.value, c.in-More.is) at c.in_ok-seen.ensures in
    token_goes c.args.self.now (record c.args.self.now { state = c.in-More.state; fed = c.args.self.now.fed + c.in-More.taken }) b c.args.rest.now c.in-More.taken sees refl refl reads

pub returns-in-Ok-clause-reads : goal.returns-in-Ok-clause-reads
returns-in-Ok-clause-reads c = λ b reads.
    let sees = rw (c.replace-state.ensures.value, c.in-Whole.is) at c.in_ok-seen.ensures in
    token_closes c.args.self.now (record c.args.self.now { state = c.replace-state.new.dest; tokens = c.push.new.self; fed = c.args.self.now.fed + c.in-Whole.taken }) b c.args.rest.now _ c.in-Whole.taken c.in-Whole.token sees.1 c.in-Ok.ensures.items c.replace-state.ensures.after refl reads
