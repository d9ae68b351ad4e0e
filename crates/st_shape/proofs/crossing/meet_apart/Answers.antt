use Rattle.std.proofs.Common.{refl, IsTrue}
use Rattle.st_shape.proofs.CrossingLemmas.{MeetApart-same, MeetApart-aa, MeetBeyond-aa, MeetApart-ab, MeetBeyond-ab, MeetApart-ba, MeetBeyond-ba, MeetApart-bb, MeetBeyond-bb, MeetApart-none, Meet-apart, same_ends, ends_of_same}
use Rattle.st_shape.proofs.crossing.meet_apart.Goals as goal

pub returns-then-is_same : goal.returns-then-is_same
returns-then-is_same c =
    let a = c.args in
    let r = c.requires in
    (λ u. MeetApart-same a.s a.t (IsTrue a.aa) (IsTrue a.ab) (IsTrue a.ba) (IsTrue a.bb) r.s r.s_climbs (same_ends a.s a.t (c.is_same.ensures.0 c.if-is_same.true)), λ h. refl)

pub returns-then-is_common : goal.returns-then-is_common
returns-then-is_common c =
    let a = c.args in
    let r = c.requires in
    let k = c.is_common.ensures.0 c.if-is_common.true in (
      λ u. MeetApart-aa a.s a.t (IsTrue a.aa) (IsTrue a.ab) (IsTrue a.ba) (IsTrue a.bb) r.s r.t r.s_climbs r.t_climbs k.1 (λ e. cc (c.is_same.ensures.1 (ends_of_same a.s a.t e))) (c.meet_beyond.ensures.0 u),
      λ h. c.meet_beyond.ensures.1 (MeetBeyond-aa a.s a.t (IsTrue a.aa) (IsTrue a.ab) (IsTrue a.ba) (IsTrue a.bb) r.s r.t r.s_climbs r.t_climbs k.0 k.1 h),
    )

pub returns-then-is_common-2 : goal.returns-then-is_common-2
returns-then-is_common-2 c =
    let a = c.args in
    let r = c.requires in
    let k = c.is_common-2.ensures.0 c.if-is_common-2.true in (
      λ u. MeetApart-ab a.s a.t (IsTrue a.aa) (IsTrue a.ab) (IsTrue a.ba) (IsTrue a.bb) r.s r.t r.s_climbs r.t_climbs k.1 (c.meet_beyond-then-is_common-2.ensures.0 u),
      λ h. c.meet_beyond-then-is_common-2.ensures.1 (MeetBeyond-ab a.s a.t (IsTrue a.aa) (IsTrue a.ab) (IsTrue a.ba) (IsTrue a.bb) r.s r.t r.s_climbs r.t_climbs k.0 k.1 h),
    )

pub returns-then-is_common-3 : goal.returns-then-is_common-3
returns-then-is_common-3 c =
    let a = c.args in
    let r = c.requires in
    let k = c.is_common-3.ensures.0 c.if-is_common-3.true in (
      λ u. MeetApart-ba a.s a.t (IsTrue a.aa) (IsTrue a.ab) (IsTrue a.ba) (IsTrue a.bb) r.s r.t r.s_climbs r.t_climbs k.1 (c.meet_beyond-then-is_common-3.ensures.0 u),
      λ h. c.meet_beyond-then-is_common-3.ensures.1 (MeetBeyond-ba a.s a.t (IsTrue a.aa) (IsTrue a.ab) (IsTrue a.ba) (IsTrue a.bb) r.s r.t r.s_climbs r.t_climbs k.0 k.1 h),
    )

pub returns-then-is_common-4 : goal.returns-then-is_common-4
returns-then-is_common-4 c =
    let a = c.args in
    let r = c.requires in
    let k = c.is_common-4.ensures.0 c.if-is_common-4.true in (
      λ u. MeetApart-bb a.s a.t (IsTrue a.aa) (IsTrue a.ab) (IsTrue a.ba) (IsTrue a.bb) r.s r.t r.s_climbs r.t_climbs k.1 (λ e. cc (c.is_same.ensures.1 (ends_of_same a.s a.t e))) (c.meet_beyond-then-is_common-4.ensures.0 u),
      λ h. c.meet_beyond-then-is_common-4.ensures.1 (MeetBeyond-bb a.s a.t (IsTrue a.aa) (IsTrue a.ab) (IsTrue a.ba) (IsTrue a.bb) r.s r.t r.s_climbs r.t_climbs k.0 k.1 h),
    )

pub returns : goal.returns
returns c =
    let a = c.args in
    let r = c.requires in (
      λ u. MeetApart-none a.s a.t (IsTrue a.aa) (IsTrue a.ab) (IsTrue a.ba) (IsTrue a.bb) r.s r.t r.s_climbs r.t_climbs
          (λ f e. cc (c.is_common.ensures.1 (f, e))) (λ f e. cc (c.is_common-2.ensures.1 (f, e)))
          (λ f e. cc (c.is_common-3.ensures.1 (f, e))) (λ f e. cc (c.is_common-4.ensures.1 (f, e))) (c.meet.ensures.0 u),
      λ h. c.meet.ensures.1 (Meet-apart a.s a.t (IsTrue a.aa) (IsTrue a.ab) (IsTrue a.ba) (IsTrue a.bb) h),
    )
