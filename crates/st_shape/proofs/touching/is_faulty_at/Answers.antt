use Rattle.std.proofs.Common.{IsTrue, ◌≡◌, ◌+◌, ◌-◌, length, get_or, inl, inr, refl, ap, ◌∙◌, arith}
use Rattle.std.proofs.lemmas.Bool.{cases_lt}
use Rattle.std.proofs.lemmas.Option.{slice_get-get_or, get_or_from_slice_get}
use Rattle.st_shape.proofs.Climbing.{segment_at, segment_read, segment_within}
use Rattle.st_shape.proofs.TouchLemmas.{HitsBeside-flags, hits_from, inside_from, meets_at, off_moved, HitsBeside-moved}
use Rattle.st_shape.proofs.touching.is_faulty_at.Goals as goal

pub returns-then-misses_end : goal.returns-then-misses_end
returns-then-misses_end c =
    let m = c.misses_end.ensures.misses.0 c.if-misses_end.true in (
      λ t. inr (record { v = get_or c.args.points.now 0 _; end = inl (slice_get-get_or c.args.points.now 0 _ (omega (arith, c.requires.points.least)), m.0); off = m.1 }),
      λ h. refl,
    )

pub returns-then-misses_end-2 : goal.returns-then-misses_end-2
returns-then-misses_end-2 c =
    let m = c.misses_end-2.ensures.misses.0 c.if-misses_end-2.true in (
      λ t. inr (record {
        v = get_or c.args.points.now (length c.args.points.now - 1) _;
        end = inr (slice_get-get_or c.args.points.now (length c.args.points.now - 1) _ (omega (arith, c.requires.points.least)), m.0);
        off = m.1;
      }),
      λ h. refl,
    )

pub hits_beside-requires-clause-climbs : goal.hits_beside-requires-clause-climbs
hits_beside-requires-clause-climbs c = c.requires.points.climbs _ (segment_at c.args.points.now c.loop-k.k _ _ (omega arith))

pub hits_beside-requires-clause-a : goal.hits_beside-requires-clause-a
hits_beside-requires-clause-a c = λ t.
    let u = c.counts_at-skip_a.ensures.0 t in
    meets_at c.args.figure c.args.points.now _ c.loop-k.k 0 u.1 (c.misses_end.ensures.meets c.if-misses_end.false u.0)

pub hits_beside-requires-clause-b : goal.hits_beside-requires-clause-b
hits_beside-requires-clause-b c = λ t.
    let u = c.counts_at-skip_b.ensures.0 t in
    meets_at c.args.figure c.args.points.now _ (c.loop-k.k + 1) (length c.args.points.now - 1) u.1 (c.misses_end-2.ensures.meets c.if-misses_end-2.false u.0)

pub returns-then-hits_beside : goal.returns-then-hits_beside
returns-then-hits_beside c =
    let points = c.args.points.now in (
      λ t. inl (inside_from c.args.figure points c.requires.points (IsTrue c.args.at_tail) (IsTrue c.args.at_head) _ (segment_at points c.loop-k.k _ _ (omega arith))
          (HitsBeside-flags _ _ _ _ _ _ _ c.counts_at-skip_a.ensures.1 c.counts_at-skip_b.ensures.1 (c.hits_beside.ensures.0 c.if-hits_beside.true))),
      λ h. refl,
    )

pub loop-k-preserved : goal.loop-k-preserved
loop-k-preserved c = λ s h less hits.
    elim (cases_lt h.k c.loop-k.k) [
      | inl before ↦ c.loop-k.invariant s h before hits
      | inr here ↦
          let z : h.k ≡ c.loop-k.k = omega arith in
          let e = segment_read c.args.points.now s h c.loop-k.k _ _ z in
          let found : IsTrue c.hits_beside.result = c.hits_beside.ensures.1 (HitsBeside-moved c.args.figure s _ _ _ e (HitsBeside-flags _ _ _ _ _ _ _
          (λ t. let w = c.counts_at-skip_a.ensures.0 t in (w.0, z ∙ w.1))
          (λ t. let w = c.counts_at-skip_b.ensures.0 t in (w.0, ap (λ n. n + 1) z ∙ w.1)) hits)) in
          cc
    ]

pub returns : goal.returns
returns c =
    let r = c.requires in
    let points = c.args.points.now in (
      λ t. cc,
      λ h. elim h [
        | inl s ↦ absurd (c.loop-k.invariant s.s s.segment (let w = segment_within points s.s s.segment in omega arith) (hits_from c.args.figure points r.points (IsTrue c.args.at_tail) (IsTrue c.args.at_head) s))
        | inr m ↦ elim m.end [
          | inl u ↦ cc (c.misses_end.ensures.misses.1 (u.1, off_moved c.args.figure _ m.v (get_or_from_slice_get points 0 m.v _ u.0) m.off))
          | inr u ↦ cc (c.misses_end-2.ensures.misses.1 (u.1, off_moved c.args.figure _ m.v (get_or_from_slice_get points (length points - 1) m.v _ u.0) m.off))
        ]
      ],
    )
