use Rattle.std.proofs.Common.{IsTrue, ◌≡◌, inl, inr, refl, subst, arith}
use Rattle.std.proofs.lemmas.Bool.{cases_lt}
use Rattle.st_shape.specs.Clean.{FaultyPair}
use Rattle.st_shape.proofs.SearchLemmas.{FaultyPair-read}
use Rattle.st_shape.proofs.search.first_pair.Goals as goal

pub loop-j-preserved : goal.loop-j-preserved
loop-j-preserved c = record {
  before = c.loop-j.invariant.before;
  here = λ m p q h.
      elim (cases_lt m c.loop-j.j) [
        | inl less ↦ c.loop-j.invariant.here m p less h
        | inr more ↦
            let e : m ≡ c.loop-j.j = omega arith in
            let found : IsTrue c.is_faulty_pair.result = c.is_faulty_pair.ensures.1 (FaultyPair-read c.args.items.now c.loop-i.i c.loop-j.j c.loop-i.i m _ _ c.index-items-i.is c.index-items-j.is refl e h) in
            cc
      ];
}

pub loop-i-preserved : goal.loop-i-preserved
loop-i-preserved c = λ k m p q r h.
    elim (cases_lt k c.loop-i.i) [
      | inl less ↦ c.loop-i.invariant k m less q r h
      | inr more ↦
          let e : k ≡ c.loop-i.i = omega arith in
          c.loop-j.invariant.here m (omega arith) (omega arith) (subst (λ n. FaultyPair c.args.items.now n m) e h)
    ]

pub returns : goal.returns
returns c = λ k m p q. c.loop-i.invariant k m (omega arith) p q
