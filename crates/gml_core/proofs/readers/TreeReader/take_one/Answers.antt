use Rattle.std.proofs.Common.{◌+◌, Some, length, refl, arith}
use Rattle.gml_core.proofs.Looked.{space_goes, closes_between, placed_between, rank_between, tree_goes, tree_closes, tree_refused}
use Rattle.gml_core.proofs.readers.TreeReader.take_one.Goals as goal

pub returns-then-is_space-clause-reads : goal.returns-then-is_space-clause-reads
returns-then-is_space-clause-reads c = λ b reads.
    let goes = space_goes c.args.self.now.state c.args.self.now.fed c.spaces-n.result c.args.rest.now c.in-Between.is c.spaces-n.ensures.goes c.spaces-n.ensures.some c.spaces-n.ensures.within in
    record { reads = tree_goes c.args.self.now.fault c.args.self.now (record c.args.self.now { fed = c.args.self.now.fed + c.spaces-n.result }) b c.args.rest.now c.spaces-n.result c.in-None.is goes refl refl reads.reads }

pub returns-in-Ok-clause-reads : goal.returns-in-Ok-clause-reads
returns-in-Ok-clause-reads c = λ b reads.
    let closes = closes_between c.args.self.now.state c.args.self.now.fed c.in-Some-whole.found.len c.args.rest.now _ _ c.in-Between.is (c.in-Some-whole.ensures.2 c.args.self.now.fed) in
    record {
      reads = tree_closes c.args.self.now.fault c.args.self.now (record c.args.self.now { builder = c.take.new.self; fed = c.args.self.now.fed + c.in-Some-whole.found.len }) b c.args.rest.now _ c.in-Some-whole.found.len _ c.in-None.is closes c.in-Ok.ensures.ok c.in-Between.is refl reads.reads;
    }

pub returns-in_default-fault : goal.returns-in_default-fault
returns-in_default-fault c =
    let closes = closes_between c.args.self.now.state c.args.self.now.fed c.in-Some-whole.found.len c.args.rest.now _ _ c.in-Between.is (c.in-Some-whole.ensures.2 c.args.self.now.fed) in
    record {
      within = omega arith;
      fed = refl;
      less = rank_between c.args.self.now.state (length c.args.rest.now) _ c.in-Between.is c.requires.some;
      placed = placed_between c.args.self.now.state _ c.in-Between.is;
      reads = λ b reads.
          record {
            reads = tree_refused c.args.self.now.fault c.args.self.now (record c.args.self.now { builder = c.take.new.self; fault = Some c.in-Err.fault; fed = c.args.self.now.fed + length c.args.rest.now }) b c.args.rest.now _ c.in-Some-whole.found.len _ c.in-Err.fault
                c.in-None.is closes (c.in-Err.ensures.err c.in_default-fault.not-NoMemory) c.in-Between.is refl reads.reads;
          };
    }
