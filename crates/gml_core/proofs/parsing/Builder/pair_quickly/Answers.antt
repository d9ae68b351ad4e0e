use Rattle.std.proofs.Common.{◌+◌, ◌<◌, Some, length, refl, arith}
use Rattle.gml_core.specs.declared.parsing.Waiting.{Waiting}
use Rattle.gml_core.specs.declared.parsing.Builder.{Builder}
use Rattle.gml_core.specs.Readers.{BuiltUp}
use Rattle.gml_core.proofs.Pairs.{behind, key_read, one_white}
use Rattle.gml_core.proofs.parsing.Builder.pair_quickly.Goals as goal

pub returns-clause-reads : goal.returns-clause-reads
returns-clause-reads c = λ b r.
    let rest = c.args.rest.now in
    let n = c.short_key-word.result in
    let some : 0 < n = omega (arith, c.if-word-eq0.false) in
    let long : n < length rest = omega (arith, c.short_key-word.ensures.some some, c.short_key-word.ensures.short) in
    let old = c.args.self.now in
    let w : Waiting = record { key = c.front-key.result; at = c.args.at } in
    let mid : Builder = record old { waits = Some w } in
    behind (BuiltUp mid) (BuiltUp c.value_quickly.new.self) b rest c.args.at (n + 1) c.in_ok-more.more (omega (arith, long)) (c.in_ok-more.ensures.reads b)
    (one_white (BuiltUp mid) b rest c.args.at n long (c.short_key-word.ensures.space some) (key_read old w b rest c.args.at n c.requires.waits c.front-key.ensures refl (c.short_key-word.ensures.key some c.args.at) r))
