use Rattle.st_shape.proofs.Fitting.{read_overlap_x, read_overlap_y}
use Rattle.st_shape.proofs.MeetingLemmas.{Meet-Passes, Passes-Meet}
use Rattle.st_shape.proofs.meeting.meet.Goals as goal
use Rattle.st_shape.proofs.meeting.meet.Goals.{then-overlap, else-overlap, then-overlap-2, else-overlap-2}

pub returns-then-parts : goal.returns-then-parts
returns-then-parts c =
    let r = c.requires in
    let x = read_overlap_x c.args.s c.args.t r.s_a r.s_b r.t_a r.t_b in
    let y = read_overlap_y c.args.s c.args.t r.s_a r.s_b r.t_a r.t_b in
    elim c.if-overlap-2.branch [
      | then-overlap-2 w ↦ elim c.if-overlap.branch [
        | then-overlap v ↦ (
          λ t. Meet-Passes c.args.s c.args.t r.s_a r.s_b r.t_a r.t_b (record {
            over_x = x.0 (c.overlap.ensures.0 v.if-overlap.true);
            over_y = y.0 (v.overlap-then-overlap.ensures.0 (cc));
            parted_t = w.parts.ensures.0 (cc);
            parted_s = c.parts-then-parts.ensures.0 t;
          }),
          λ h. c.parts-then-parts.ensures.1 (Passes-Meet c.args.s c.args.t r.s_a r.s_b r.t_a r.t_b h).parted_s,
        )
        | else-overlap v ↦ (λ t. cc, λ h. cc)
      ]
      | else-overlap-2 w ↦ (λ t. cc, λ h. cc)
    ]

pub returns-else-parts : goal.returns-else-parts
returns-else-parts c =
    let r = c.requires in
    let x = read_overlap_x c.args.s c.args.t r.s_a r.s_b r.t_a r.t_b in
    let y = read_overlap_y c.args.s c.args.t r.s_a r.s_b r.t_a r.t_b in (
      λ t. cc,
      λ h.
          let p = Passes-Meet c.args.s c.args.t r.s_a r.s_b r.t_a r.t_b h in
          elim c.if-overlap-2.branch [
            | then-overlap-2 w ↦ cc (w.parts.ensures.1 p.parted_t)
            | else-overlap-2 w ↦ elim c.if-overlap.branch [
              | then-overlap v ↦ cc (v.overlap-then-overlap.ensures.1 (y.1 p.over_y))
              | else-overlap v ↦ cc (c.overlap.ensures.1 (x.1 p.over_x))
            ]
          ],
    )
