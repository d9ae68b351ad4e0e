use Rattle.std.proofs.Common.{◌≡◌, ◌+◌, ◌<◌, ◌^◌, ◌++◌, length, sym, subst, refl, ◌∙◌, arith}
use Rattle.std.proofs.lemmas.Result.{IfOk-weaker}
use Rattle.st_shape.specs.Rules.{Drawing, FitsFrame}
use Rattle.st_sides.specs.Sides.{edge_count}
use Rattle.st_picture.specs.Items.{drawing, labels, line, place_at, item_place}
use Rattle.st_picture.proofs.JoinLemmas.{start, figures, second, first_by, second_by, figures_first, count_first, count_second, drawing_is}
use Rattle.st_picture.proofs.NameLemmas.{has_labels}
use Rattle.st_picture.proofs.composing.compose.Goals as goal

pub push_each-requires-2-clause-fits : goal.push_each-requires-2-clause-fits
push_each-requires-2-clause-fits g c =
    let S = c.args.sides.now in
    let N = c.args.names.now in
    let f = c.requires.items.0 in
    let p = c.requires.items.1 in
    let C = c.requires.items.2 in
    let p0 : c.reserve.new.self ≡ start S N c.args.form c.args.frame f p = c.reserve.ensures ∙ c.new-picture.ensures in
    let n : c.vertices-2.result ≡ S.vertices = c.vertices-2.ensures.value in
    let p1 : c.push_each.new.picture ≡ figures S N c.args.form c.args.frame f p =
    first_by S N c.args.form c.args.frame f p c.reserve.new.self c.push_each.new.picture c.vertices-2.result p0 n (c.in_ok-push_each.ensures f (λ k x l q. C.figures.answers k x (omega arith) q)) in
    let m : c.edges-2.result ≡ edge_count S = c.edges-2.ensures.value in
    λ k x l q.
    let there : k < edge_count S = omega arith in
    subst (λ (z : Drawing). FitsFrame z.frame x) (sym p1) (subst (FitsFrame c.args.frame) (sym (C.lines.answers k x there q)) (C.lines.fits k there))

pub push_each-requires-2-clause-room : goal.push_each-requires-2-clause-room
push_each-requires-2-clause-room g c =
    let S = c.args.sides.now in
    let N = c.args.names.now in
    let f = c.requires.items.0 in
    let p = c.requires.items.1 in
    let C = c.requires.items.2 in
    let p0 : c.reserve.new.self ≡ start S N c.args.form c.args.frame f p = c.reserve.ensures ∙ c.new-picture.ensures in
    let n : c.vertices-2.result ≡ S.vertices = c.vertices-2.ensures.value in
    let p1 : c.push_each.new.picture ≡ figures S N c.args.form c.args.frame f p =
    first_by S N c.args.form c.args.frame f p c.reserve.new.self c.push_each.new.picture c.vertices-2.result p0 n (c.in_ok-push_each.ensures f (λ k x l q. C.figures.answers k x (omega arith) q)) in
    let a : length c.push_each.new.picture.items ≡ S.vertices = count_first S N c.args.form c.args.frame f p c.push_each.new.picture p1 in
    omega (arith, a, c.edges-2.ensures.value, c.requires.room)

pub push_labels-requires-clause-names : goal.push_labels-requires-clause-names
push_labels-requires-clause-names g c = has_labels c.args.sides.now c.args.names.now c.requires.names

pub push_labels-requires-clause-figures : goal.push_labels-requires-clause-figures
push_labels-requires-clause-figures g c =
    let S = c.args.sides.now in
    let N = c.args.names.now in
    let f = c.requires.items.0 in
    let p = c.requires.items.1 in
    let C = c.requires.items.2 in
    let p0 : c.reserve.new.self ≡ start S N c.args.form c.args.frame f p = c.reserve.ensures ∙ c.new-picture.ensures in
    let n : c.vertices-2.result ≡ S.vertices = c.vertices-2.ensures.value in
    let p1 : c.push_each.new.picture ≡ figures S N c.args.form c.args.frame f p =
    first_by S N c.args.form c.args.frame f p c.reserve.new.self c.push_each.new.picture c.vertices-2.result p0 n (c.in_ok-push_each.ensures f (λ k x l q. C.figures.answers k x (omega arith) q)) in
    let m : c.edges-2.result ≡ edge_count S = c.edges-2.ensures.value in
    let p2 : c.push_each-2.new.picture ≡ second S N c.args.form c.args.frame f p =
    second_by S N c.args.form c.args.frame f p c.push_each.new.picture c.push_each-2.new.picture c.edges-2.result p1 m (c.in_ok-push_each-2.ensures (line S N p) (λ k x l q. C.lines.answers k x (omega arith) q)) in
    figures_first S N c.args.form c.args.frame f p C.kind c.push_each-2.new.picture (length N.label) p2 c.requires.names.labels

pub push_labels-requires-clause-room : goal.push_labels-requires-clause-room
push_labels-requires-clause-room g c =
    let S = c.args.sides.now in
    let N = c.args.names.now in
    let f = c.requires.items.0 in
    let p = c.requires.items.1 in
    let C = c.requires.items.2 in
    let p0 : c.reserve.new.self ≡ start S N c.args.form c.args.frame f p = c.reserve.ensures ∙ c.new-picture.ensures in
    let n : c.vertices-2.result ≡ S.vertices = c.vertices-2.ensures.value in
    let p1 : c.push_each.new.picture ≡ figures S N c.args.form c.args.frame f p =
    first_by S N c.args.form c.args.frame f p c.reserve.new.self c.push_each.new.picture c.vertices-2.result p0 n (c.in_ok-push_each.ensures f (λ k x l q. C.figures.answers k x (omega arith) q)) in
    let m : c.edges-2.result ≡ edge_count S = c.edges-2.ensures.value in
    let p2 : c.push_each-2.new.picture ≡ second S N c.args.form c.args.frame f p =
    second_by S N c.args.form c.args.frame f p c.push_each.new.picture c.push_each-2.new.picture c.edges-2.result p1 m (c.in_ok-push_each-2.ensures (line S N p) (λ k x l q. C.lines.answers k x (omega arith) q)) in
    let a : length c.push_each-2.new.picture.items ≡ S.vertices + edge_count S = count_second S N c.args.form c.args.frame f p c.push_each-2.new.picture p2 in
    omega (arith, a, c.requires.names.labels, c.requires.room)

pub returns : goal.returns
returns g c = λ f p C.
    let S = c.args.sides.now in
    let N = c.args.names.now in
    let p0 : c.reserve.new.self ≡ start S N c.args.form c.args.frame f p = c.reserve.ensures ∙ c.new-picture.ensures in
    let n : c.vertices-2.result ≡ S.vertices = c.vertices-2.ensures.value in
    let p1 : c.push_each.new.picture ≡ figures S N c.args.form c.args.frame f p =
    first_by S N c.args.form c.args.frame f p c.reserve.new.self c.push_each.new.picture c.vertices-2.result p0 n (c.in_ok-push_each.ensures f (λ k x l q. C.figures.answers k x (omega arith) q)) in
    let m : c.edges-2.result ≡ edge_count S = c.edges-2.ensures.value in
    let p2 : c.push_each-2.new.picture ≡ second S N c.args.form c.args.frame f p =
    second_by S N c.args.form c.args.frame f p c.push_each.new.picture c.push_each-2.new.picture c.edges-2.result p1 m (c.in_ok-push_each-2.ensures (line S N p) (λ k x l q. C.lines.answers k x (omega arith) q)) in
    IfOk-weaker c.push_labels.result (λ d. d ≡ record c.push_each-2.new.picture { items = c.push_each-2.new.picture.items ++ labels N (place_at c.push_each-2.new.picture.items) (length N.label) }) (λ d. d ≡ drawing S N c.args.form c.args.frame f p (λ v. item_place (f v)))
    (λ d q. drawing_is S N c.args.form c.args.frame f p (λ v. item_place (f v)) (λ v l. refl) c.push_each-2.new.picture d (length N.label) p2 c.requires.names.labels q) c.push_labels.ensures
