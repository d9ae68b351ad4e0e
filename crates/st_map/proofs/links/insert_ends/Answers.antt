use Rattle.std.proofs.Common.{IsSome, refl, sym, subst}
use Rattle.st_map.proofs.LinkInsert.{key_kept, key_put}
use Rattle.st_map.proofs.links.insert_ends.Goals as goal

pub put_end-requires-2-clause-after : goal.put_end-requires-2-clause-after
put_end-requires-2-clause-after c =
    let k = key_kept c.args.ends.now c.add_ends-tail.new.ends c.args.m c.add_ends-tail.result.0 c.add_ends-tail.result.1 c.args.b c.add_ends-tail.ensures.names c.requires.b.0 in
    key_put c.add_ends-tail.new.ends c.put_end.new.ends c.args.a c.args.a_next c.add_ends-tail.result.0 c.args.b c.put_end.ensures.puts k.0 k.2

pub put_end-requires-2-clause-next : goal.put_end-requires-2-clause-next
put_end-requires-2-clause-next c =
    let k = key_kept c.args.ends.now c.add_ends-tail.new.ends c.args.m c.add_ends-tail.result.0 c.add_ends-tail.result.1 c.args.b_next c.add_ends-tail.ensures.names c.requires.b.1 in
    key_put c.add_ends-tail.new.ends c.put_end.new.ends c.args.a c.args.a_next c.add_ends-tail.result.0 c.args.b_next c.put_end.ensures.puts k.0 k.2

pub put_end-requires-2-clause-new : goal.put_end-requires-2-clause-new
put_end-requires-2-clause-new c =
    key_put c.add_ends-tail.new.ends c.put_end.new.ends c.args.a c.args.a_next c.add_ends-tail.result.0 c.add_ends-tail.result.1 c.put_end.ensures.puts (λ e. c.add_ends-tail.ensures.names.apart (sym e))
    (subst IsSome (sym c.add_ends-tail.ensures.names.at_head.1) refl)
