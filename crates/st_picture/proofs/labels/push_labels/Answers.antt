use Rattle.std.proofs.Common.{◌≡◌, ◌+◌, ◌<◌, ◌^◌, ◌++◌, length, ◌≤◌, sym, arith, subst}
use Rattle.st_picture.specs.Items.{IsFigureAt, labels, place_at}
use Rattle.st_picture.proofs.LabelLemmas.{figure_kept, labels_step, items_few}
use Rattle.st_picture.proofs.labels.push_labels.Goals as goal

-- src/labels.rt:75:9
pub push_label-requires-clause-figure : goal.push_label-requires-clause-figure
push_label-requires-clause-figure c =
    let e : c.len-v-end.result ≡ length c.args.names.now.label = c.len-v-end.ensures in
    let l : c.loop-v.v < c.len-v-end.result = c.loop-v-test.true in
    subst (λ d. IsFigureAt d.items c.loop-v.v) (sym c.loop-v.invariant.same) (figure_kept c.args.picture.items (labels c.args.names.now (place_at c.args.picture.items) c.loop-v.v) c.loop-v.v (c.requires.figures c.loop-v.v (omega arith)))

-- src/labels.rt:74:5
pub loop-v-preserved : goal.loop-v-preserved
loop-v-preserved c =
    let e : c.len-v-end.result ≡ length c.args.names.now.label = c.len-v-end.ensures in
    let l : c.loop-v.v < c.len-v-end.result = c.loop-v-test.true in
    let p : c.push_label.new.picture ≡ record c.args.picture { items = c.args.picture.items ++ labels c.args.names.now (place_at c.args.picture.items) (c.loop-v.v + 1) } =
    labels_step c.args.picture c.args.names.now c.loop-v.v (c.loop-v.v + 1) c.loop-v.picture c.push_label.new.picture (omega arith) (c.requires.figures c.loop-v.v (omega arith)) c.loop-v.invariant.same c.in_ok-push_label.ensures in
    record {
      in_range = omega arith;
      same = p;
    }

pub push_label-requires-clause-room : goal.push_label-requires-clause-room
push_label-requires-clause-room c =
    let e : c.len-v-end.result ≡ length c.args.names.now.label = c.len-v-end.ensures in
    let l : c.loop-v.v < c.len-v-end.result = c.loop-v-test.true in
    let r : length c.args.picture.items + length c.args.names.now.label < 2 ^ 31 = c.requires.room in
    let m : length c.loop-v.picture.items ≤ length c.args.picture.items + c.loop-v.v = items_few c.args.picture c.args.names.now c.loop-v.v c.loop-v.picture c.loop-v.invariant.same in
    omega arith
