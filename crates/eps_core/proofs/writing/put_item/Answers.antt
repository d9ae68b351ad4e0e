use Rattle.std.proofs.Common.{ℕ, List, [], ◌∷◌, ◌++◌, Result, Ok, subst}
use Rattle.std.proofs.lemmas.Result.{err_from_is_err_and}
use Rattle.st_port.specs.Streams.{SinkState}
use Rattle.st_port.specs.Writes.{Queues}
use Rattle.st_port.proofs.Public.{Queues-after, Queues-longer}
use Rattle.eps_core.specs.Text.{ended}
use Rattle.eps_core.proofs.Grids.{two_ended}
use Rattle.eps_core.proofs.writing.put_item.Goals as goal

-- one line, and then another
both_lines : {E : Type 0} (a b c : SinkState) (h h' h'' : List ℕ) (v : Unit {0}) (r : Result (Unit {0}) E) (x y : List ℕ)
    → Queues {E = E} a b h h' (Ok v) (x ++ 10 ∷ []) → Queues b c h' h'' r (y ++ 10 ∷ []) → Queues a c h h'' r (ended (x ∷ y ∷ []))
both_lines a b c h h' h'' v r x y p q = subst (λ l. Queues a c h h'' r l) (two_ended x y) (Queues-after a b c h h' h'' v r (x ++ 10 ∷ []) (y ++ 10 ∷ []) p q)

pub returns-in_err-put_line : goal.returns-in_err-put_line
returns-in_err-put_line g c =
    let p = err_from_is_err_and c.from_residual.result c.from_residual.ensures.1 in
    let k = rw c.name_line.ensures.text at c.in_err-put_line.ensures in
    rw p.1 (Queues-longer _ _ _ _ _ _ _ k)

pub returns : goal.returns
returns g c =
    let first = rw c.name_line.ensures.text at c.in_ok-put_line.ensures in
    let second = rw c.mark_line.ensures.text at c.put_line-2.ensures in
    both_lines _ _ _ _ _ _ _ _ _ _ first second
