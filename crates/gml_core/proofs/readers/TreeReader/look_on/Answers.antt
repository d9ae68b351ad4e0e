use Rattle.std.proofs.Common.{◌+◌, Some, length, refl, arith}
use Rattle.gml_core.proofs.Looked.{placed_between, rank_between, tree_goes, tree_closes, tree_refused}
use Rattle.gml_core.proofs.readers.TreeReader.look_on.Goals as goal

pub look-requires-clause-placed : goal.look-requires-clause-placed
look-requires-clause-placed c = rw c.replace-state.ensures.value c.requires.placed

pub returns-in-More-clause-reads : goal.returns-in-More-clause-reads
returns-in-More-clause-reads c = λ b reads.
    let sees = rw (c.replace-state.ensures.value, c.in-More.is) at c.in_ok-seen.ensures in
    record { reads = tree_goes c.args.self.now.fault c.args.self.now (record c.args.self.now { state = c.in-More.state; fed = c.args.self.now.fed + c.in-More.taken }) b c.args.rest.now c.in-More.taken c.in-None.is sees refl refl reads.reads }

pub returns-in-Ok-clause-reads : goal.returns-in-Ok-clause-reads
returns-in-Ok-clause-reads c = λ b reads.
    let sees = rw (c.replace-state.ensures.value, c.in-Whole.is) at c.in_ok-seen.ensures in
    let takes = rw c.text_of-text.ensures at c.in-Ok.ensures.ok in
    record {
      reads = tree_closes c.args.self.now.fault c.args.self.now (record c.args.self.now { state = c.replace-state.new.dest; builder = c.take.new.self; fed = c.args.self.now.fed + c.in-Whole.taken }) b c.args.rest.now _ c.in-Whole.taken c.in-Whole.token c.in-None.is sees.1 takes
          c.replace-state.ensures.after refl reads.reads;
    }

pub returns : goal.returns
returns c =
    let sees = rw (c.replace-state.ensures.value, c.in-Whole.is) at c.in_ok-seen.ensures in
    let fails = rw c.text_of-text.ensures at c.in-Err.ensures.err in
    record {
      within = omega arith;
      fed = refl;
      less = rank_between c.replace-state.new.dest (length c.args.rest.now) _ c.replace-state.ensures.after c.requires.some;
      placed = placed_between c.replace-state.new.dest _ c.replace-state.ensures.after;
      reads = λ b reads.
          record {
            reads = tree_refused c.args.self.now.fault c.args.self.now (record c.args.self.now { state = c.replace-state.new.dest; builder = c.take.new.self; fault = Some c.in-Err.fault; fed = c.args.self.now.fed + length c.args.rest.now }) b c.args.rest.now _ c.in-Whole.taken c.in-Whole.token c.in-Err.fault
                c.in-None.is sees.1 (fails c.in_default.not-NoMemory) c.replace-state.ensures.after refl reads.reads;
          };
    }
