use Rattle.std.proofs.Common.{ℕ, ◌<◌, refl, sym, ap, subst}
use Rattle.st_ids.specs.EdgeNumbers.{numbers}
use Rattle.st_map.specs.Embedded.{darts}
use Rattle.st_map.proofs.Public.{iterate-stays}
use Rattle.st_sides.specs.Rounds.{round}
use Rattle.st_sides.proofs.RoundLemmas.{parts_are}
use Rattle.st_sides.proofs.parts.parts.Goals as goal

pub run-requires-2-clause-there : goal.run-requires-2-clause-there
run-requires-2-clause-there c =
    let f : ℕ → ℕ = round c.args.map.now.graph c.args.face in
    let k : ℕ = c.requires.some.k in
    subst (λ z. z < darts c.args.map.now.graph) (sym (c.in_ok-stop.ensures.end k c.requires.some.outs_run))
    (iterate-stays (darts c.args.map.now.graph) f c.requires.permutes k c.args.start.0 c.requires.there)

pub returns-clause-parts : goal.returns-clause-parts
returns-clause-parts c =
    parts_are (round c.args.map.now.graph c.args.face) c.args.start.0 c.in_ok-stop.stop.0 (numbers c.run.new.list.items) (numbers c.reverse.new.self.items) c.run.new.list.items c.run-2.new.list.items
    refl (ap numbers c.reverse.ensures.items)
    c.in_ok-stop.ensures.list c.in_ok-stop.ensures.end c.in_ok-_end.ensures.list

pub returns-clause-within : goal.returns-clause-within
returns-clause-within c =
    let f : ℕ → ℕ = round c.args.map.now.graph c.args.face in
    let k : ℕ = c.requires.some.k in
    subst (λ z. z < darts c.args.map.now.graph) (sym (c.in_ok-stop.ensures.end k c.requires.some.outs_run))
    (iterate-stays (darts c.args.map.now.graph) f c.requires.permutes k c.args.start.0 c.requires.there)
