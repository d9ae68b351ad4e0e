use Rattle.std.proofs.Common.{IsTrue, ◌≡◌, ◌+◌, inl, inr, refl, ap, ◌∙◌, arith}
use Rattle.std.proofs.lemmas.Bool.{cases_lt}
use Rattle.st_shape.proofs.Climbing.{segment_at, segment_read, segment_within}
use Rattle.st_shape.proofs.CrossLines.{Apart-cross, Cross-apart, MeetApart-flags, MeetApart-moved}
use Rattle.st_shape.proofs.crossing.cross_apart.Goals as goal

pub meet_apart-requires-clause-s_climbs : goal.meet_apart-requires-clause-s_climbs
meet_apart-requires-clause-s_climbs c = c.requires.first.climbs _ (segment_at c.args.first.now c.loop-k.k _ _ (omega arith))

pub meet_apart-requires-clause-t_climbs : goal.meet_apart-requires-clause-t_climbs
meet_apart-requires-clause-t_climbs c = c.requires.second.climbs _ (segment_at c.args.second.now c.loop-m.m _ _ (omega arith))

pub returns-then-meet_apart : goal.returns-then-meet_apart
returns-then-meet_apart c =
    let a = c.args in (
      λ t.
          Cross-apart a.first.now a.second.now (IsTrue a.same.tails) (IsTrue a.same.tail_head) (IsTrue a.same.head_tail) (IsTrue a.same.heads)
          c.requires.first c.requires.second _ _ (segment_at a.first.now c.loop-k.k _ _ (omega arith)) (segment_at a.second.now c.loop-m.m _ _ (omega arith))
          (MeetApart-flags _ _ _ _ _ _ _ _ _ _ c.counts_at_both-aa.ensures.1 c.counts_at_both-ab.ensures.1 c.counts_at_both-ba.ensures.1 c.counts_at_both-bb.ensures.1
          (c.meet_apart.ensures.0 c.if-meet_apart.true)),
      λ h. refl,
    )

pub loop-m-preserved : goal.loop-m-preserved
loop-m-preserved c = record {
  before = c.loop-m.invariant.before;
  here = λ s t h g at less apart.
      elim (cases_lt g.k c.loop-m.m) [
        | inl before ↦ c.loop-m.invariant.here s t h g at before apart
        | inr here ↦
            let z : g.k ≡ c.loop-m.m = omega arith in
            let found : IsTrue c.meet_apart.result = c.meet_apart.ensures.1 (MeetApart-moved s _ t _ _ _ _ _
            (segment_read c.args.first.now s h c.loop-k.k _ _ at) (segment_read c.args.second.now t g c.loop-m.m _ _ z) (MeetApart-flags _ _ _ _ _ _ _ _ _ _
            (λ f. let w = c.counts_at_both-aa.ensures.0 f in (w.0, at ∙ w.1, z ∙ w.2))
            (λ f. let w = c.counts_at_both-ab.ensures.0 f in (w.0, at ∙ w.1, ap (λ n. n + 1) z ∙ w.2))
            (λ f. let w = c.counts_at_both-ba.ensures.0 f in (w.0, ap (λ n. n + 1) at ∙ w.1, z ∙ w.2))
            (λ f. let w = c.counts_at_both-bb.ensures.0 f in (w.0, ap (λ n. n + 1) at ∙ w.1, ap (λ n. n + 1) z ∙ w.2)) apart)) in
            cc
      ];
}

pub loop-k-preserved : goal.loop-k-preserved
loop-k-preserved c = λ s t h g less.
    elim (cases_lt h.k c.loop-k.k) [
      | inl before ↦ c.loop-k.invariant s t h g before
      | inr here ↦ c.loop-m.invariant.here s t h g (omega arith) (let w = segment_within c.args.second.now t g in omega arith)
    ]

pub returns : goal.returns
returns c =
    let a = c.args in (
      λ t. cc,
      λ h.
          absurd (c.loop-k.invariant h.s h.t h.first h.second (let w = segment_within a.first.now h.s h.first in omega arith)
          (Apart-cross a.first.now a.second.now (IsTrue a.same.tails) (IsTrue a.same.tail_head) (IsTrue a.same.head_tail) (IsTrue a.same.heads)
          c.requires.first c.requires.second h)),
    )
