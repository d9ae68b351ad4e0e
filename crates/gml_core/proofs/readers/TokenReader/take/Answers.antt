use Rattle.std.proofs.Common.{◌+◌, refl}
use Rattle.gml_core.proofs.Looked.{space_goes, closes_between, token_goes, token_closes}
use Rattle.gml_core.proofs.readers.TokenReader.take.Goals as goal

pub returns-then-is_space-clause-reads : goal.returns-then-is_space-clause-reads
returns-then-is_space-clause-reads c = λ b reads.
    let goes = space_goes c.args.self.now.state c.args.self.now.fed c.spaces-n.result c.args.rest.now c.in-Between.is c.spaces-n.ensures.goes c.spaces-n.ensures.some c.spaces-n.ensures.within in
    token_goes c.args.self.now (record c.args.self.now { fed = c.args.self.now.fed + c.spaces-n.result }) b c.args.rest.now c.spaces-n.result goes refl refl reads

pub returns-in-Ok-clause-reads : goal.returns-in-Ok-clause-reads
returns-in-Ok-clause-reads c = λ b reads.
    let closes = closes_between c.args.self.now.state c.args.self.now.fed c.in-Some.found.len c.args.rest.now _ _ c.in-Between.is (c.in-Some.ensures.2 c.args.self.now.fed) in
    token_closes c.args.self.now (record c.args.self.now { tokens = c.push.new.self; fed = c.args.self.now.fed + c.in-Some.found.len }) b c.args.rest.now _ c.in-Some.found.len _ closes c.in-Ok.ensures.items c.in-Between.is refl reads
