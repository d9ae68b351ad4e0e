use Rattle.std.proofs.Common.{IsTrue, ◌≡◌, inl, inr, arith}
use Rattle.std.proofs.lemmas.Bool.{cases_lt}
use Rattle.st_shape.proofs.Public.{FaultyAlone-read}
use Rattle.eps_check.proofs.first.first_alone.Goals as goal

pub loop-i-preserved : goal.loop-i-preserved
loop-i-preserved c = λ k less h.
    elim (cases_lt k c.loop-i.i) [
      | inl before ↦ c.loop-i.invariant k before h
      | inr here ↦
          let z : k ≡ c.loop-i.i = omega arith in
          let found : IsTrue c.is_alone.result = c.is_alone.ensures.1 (FaultyAlone-read c.args.form c.args.items.now c.loop-i.i k _ c.index-items-i.is z h) in
          cc
    ]

pub returns : goal.returns
returns c = λ k less. c.loop-i.invariant k (omega arith)
