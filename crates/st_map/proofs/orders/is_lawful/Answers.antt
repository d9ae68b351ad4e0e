use Rattle.std.proofs.Common.{◌≡◌, ◌≤◌, length, ◌∙◌, sym, arith}
use Rattle.std.proofs.lemmas.Bool.{eqb-true, eq-eqb}
use Rattle.st_ids.specs.EdgeNumbers.{numbers}
use Rattle.st_map.proofs.OrderLemmas.{order_size, from_size}
use Rattle.st_map.proofs.orders.is_lawful.Goals as goal

pub returns-clause-lawful : goal.returns-clause-lawful
returns-clause-lawful c =
    let len : c.list_len-len.result ≡ length (numbers c.args.list.now) = c.list_len-len.ensures in
    let all : length (numbers c.args.list.now) ≤ c.loop-k.k = omega (arith, c.loop-k-test.false) in (
      λ t. from_size c.args.ends.now c.args.v (numbers c.args.list.now) c.requires.edges (λ j l. c.loop-k.invariant.only j (omega arith)) (λ i j a b. c.loop-k.invariant.once i j a (omega arith))
          (sym len ∙ eqb-true c.list_len-len.result c.args.degree t ∙ c.requires.degree),
      λ o. eq-eqb c.list_len-len.result c.args.degree (len ∙ order_size c.args.ends.now c.args.v (numbers c.args.list.now) c.requires.edges o ∙ sym c.requires.degree),
    )
