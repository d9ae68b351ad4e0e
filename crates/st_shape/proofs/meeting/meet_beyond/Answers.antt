use Rattle.std.proofs.Common.{inl, inr}
use Rattle.st_shape.proofs.MeetingLemmas.{MeetBeyond-ray, ray-MeetBeyond, MeetBeyond-off, Meet-beyond}
use Rattle.st_shape.proofs.meeting.meet_beyond.Goals as goal

pub returns-then-is_on_ray : goal.returns-then-is_on_ray
returns-then-is_on_ray c =
    let r = c.requires in
    (λ t. MeetBeyond-ray c.args.s c.args.t r.s_a r.s_b r.t_a r.t_b (c.meet.ensures.0 c.if-meet.true) (inl (c.is_on_ray.ensures.0 t)), λ h. c.if-is_on_ray.true)

pub returns-else-is_on_ray : goal.returns-else-is_on_ray
returns-else-is_on_ray c =
    let r = c.requires in (
      λ t. MeetBeyond-ray c.args.s c.args.t r.s_a r.s_b r.t_a r.t_b (c.meet.ensures.0 c.if-meet.true) (inr (c.is_on_ray-else-is_on_ray.ensures.0 t)),
      λ h. elim (ray-MeetBeyond c.args.s c.args.t r.s_a r.s_b r.t_a r.t_b (c.meet.ensures.0 c.if-meet.true) h) [
        | inl k ↦ cc (c.is_on_ray.ensures.1 k)
        | inr k ↦ c.is_on_ray-else-is_on_ray.ensures.1 k
      ],
    )

pub returns-else-meet : goal.returns-else-meet
returns-else-meet c = (
  λ t. MeetBeyond-off c.args.s c.args.t (λ h. cc (c.meet.ensures.1 h)) (c.meet-else-meet.ensures.0 t),
  λ h. c.meet-else-meet.ensures.1 (Meet-beyond c.args.s c.args.t h),
)
