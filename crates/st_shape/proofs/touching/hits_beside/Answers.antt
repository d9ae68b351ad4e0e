use Rattle.std.proofs.Common.{refl, IsTrue}
use Rattle.st_shape.proofs.Climbing.{Share-turned}
use Rattle.st_shape.proofs.TouchLemmas.{HitsBeside-both}
use Rattle.st_shape.proofs.touching.hits_beside.Goals as goal

pub returns-then-skip_b : goal.returns-then-skip_b
returns-then-skip_b c =
    let a = c.args in
    let r = c.requires in
    (λ t. HitsBeside-both a.figure a.s (IsTrue a.skip_a) (IsTrue a.skip_b) r.figure r.s r.climbs (r.a c.if-skip_a.true) (r.b c.if-skip_b.true), λ h. refl)

pub returns-then-skip_a : goal.returns-then-skip_a
returns-then-skip_a c = (
  λ t.
      let h = c.meet_beyond.ensures.0 t in
      record { p = h.0; shared = h.1; not_from = λ k. h.2; not_to = λ k. absurd (cc k) },
  λ h. c.meet_beyond.ensures.1 (h.p, h.shared, h.not_from c.if-skip_a.true),
)

pub returns-then-skip_b-2 : goal.returns-then-skip_b-2
returns-then-skip_b-2 c =
    let r = c.requires in (
      λ t.
          let h = c.meet_beyond-then-skip_b-2.ensures.0 t in
          record {
            p = h.0;
            shared = Share-turned c.args.s.a c.args.s.b c.args.figure h.0 r.s.a r.s.b h.1;
            not_from = λ k. absurd (cc k);
            not_to = λ k. h.2;
          },
      λ h. c.meet_beyond-then-skip_b-2.ensures.1 (h.p, Share-turned c.args.s.b c.args.s.a c.args.figure h.p r.s.b r.s.a h.shared, h.not_to c.if-skip_b-2.true),
    )
