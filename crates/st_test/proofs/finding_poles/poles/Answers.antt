use Rattle.std.proofs.Common.{◌≡◌, ℕ, ◌<◌, Bool, false, List, length, get_or, ap, ◌∙◌, sym, subst, arith}
use Rattle.st_test.specs.BackTables.{is_left}
use Rattle.st_test.specs.Poles.{graph_of}
use Rattle.st_test.specs.PolesAnswer.{IsPolesAnswer}
use Rattle.st_test.proofs.finding_poles.poles.Goals as goal

pub find_poles-requires-clause-all : goal.find_poles-requires-clause-all
find_poles-requires-clause-all c = λ v l.
    let f : is_left c.in_ok-left.left.items v ≡ false = ap (λ (z : List Bool). get_or z v false) (sym c.deref-2.ensures.value) ∙ c.in-None.ensures.none v l in
    let p : (k : ℕ) × (k < length c.deref.result.now) × (get_or c.deref.result.now k 0 ≡ v) = c.in_ok-left.ensures.listed v l f in
    (p.0, omega (arith, p.1, ap length c.deref.ensures.value), ap (λ (z : List ℕ). get_or z p.0 0) (sym c.deref.ensures.value) ∙ p.2)

pub returns : goal.returns
returns c = subst (λ k. IsPolesAnswer (graph_of k c.args.graph.now.ends) c.find_poles.result) c.vertices-n.ensures.value
    (subst (λ (z : List (ℕ × ℕ)). IsPolesAnswer (graph_of c.vertices-n.result z) c.find_poles.result) c.ends-ends.ensures.value c.find_poles.ensures)
