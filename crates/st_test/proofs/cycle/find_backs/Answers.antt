use Rattle.std.proofs.Common.{◌+◌, ◌<◌, length, ap, ◌∙◌, sym, subst, arith}
use Rattle.st_ids.specs.Graph.{tail_of, head_of}
use Rattle.std.proofs.lemmas.List.{get_or_default}
use Rattle.std.proofs.lemmas.Bool.{both_ways}
use Rattle.st_test.specs.BackTables.{is_left, AreBacks}
use Rattle.st_test.proofs.BackSteps.{backs_set, backs_keep}
use Rattle.st_test.proofs.cycle.find_backs.Goals as goal
use Rattle.st_test.proofs.cycle.find_backs.Goals.{then-left-tail+then-index, else-left-tail, else-left-tail-via-then-left-tail+else-index, else-left-tail-via-else-left-tail}

pub loop-e-preserved : goal.loop-e-preserved
unfolding tail_of head_of
loop-e-preserved c =
    let le : c.loop-e.e < length c.args.ends.now = c.loop-e-test.true in
    let lh : head_of c.args.ends.now c.loop-e.e < c.args.n = (c.requires.within c.loop-e.e le).1 in
    let lb : head_of c.args.ends.now c.loop-e.e < length c.loop-e.back.items = omega (arith, c.loop-e.invariant.size) in
    elim c.if-left-tail.branch [
      | then-left-tail+then-index w ↦
          subst (λ z. AreBacks c.args.n c.args.ends.now c.args.left.now (c.loop-e.e + 1) z) (sym (ap (λ v. v.items) w.back-is))
          (backs_set c.args.n c.args.ends.now c.args.left.now c.loop-e.e c.loop-e.back.items c.requires.within le c.requires.few c.loop-e.invariant
          w.if-left-tail.true (get_or_default c.loop-e.back.items (head_of c.args.ends.now c.loop-e.e) 0 w.index.result.now lb ∙ sym w.index.ensures ∙ w.if-index.true))
      | else-left-tail w ↦
          subst (λ z. AreBacks c.args.n c.args.ends.now c.args.left.now (c.loop-e.e + 1) z) (sym (ap (λ v. v.items) w.back-is))
          (backs_keep c.args.n c.args.ends.now c.args.left.now c.loop-e.e c.loop-e.back.items c.requires.within le c.requires.few c.loop-e.invariant
          (elim w.else-left-tail.branch [
            | else-left-tail-via-then-left-tail+else-index x ↦ λ y q. x.if-index.false (x.index.ensures ∙ get_or_default c.loop-e.back.items (head_of c.args.ends.now c.loop-e.e) x.index.result.now 0 lb ∙ q)
            | else-left-tail-via-else-left-tail x ↦ λ y q. both_ways (is_left c.args.left.now (tail_of c.args.ends.now c.loop-e.e)) x.if-left-tail.false y
          ]))
    ]
