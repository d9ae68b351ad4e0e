use Rattle.std.proofs.Common.{rules, ◌≡◌, Some, w64, subst, sym, ap, ◌∙◌, slice_get, to_z, of_z}
use Rattle.std.specs.Prelude.{FitsSigned}
use Rattle.std.proofs.lemmas.Int.{to_z-of_z}
use Rattle.std.proofs.lemmas.Result.{on_ok_weaker}
use Rattle.st_shape.specs.Inside.{IsInside}
use Rattle.st_picture.specs.Items.{place_at, item_place}
use Rattle.st_picture.specs.Naming.{IsLabelText, label_text, vertex_name}
use Rattle.st_picture.proofs.LabelLemmas.{place_is, place_inside, read_is, text_is, name_is, no_label, one_label}
use Rattle.st_picture.proofs.labels.push_label.Goals as goal

-- src/labels.rt:51:13
pub push-requires-clause-fits : goal.push-requires-clause-fits
push-requires-clause-fits c =
    let N = c.args.names.now in
    let items = c.args.picture.now.items in
    let v = c.args.v.0 in
    let F = c.requires.figure in
    let q = read_is c.items.result.now v F.figure c.index-items-v.result c.index-items-v.is (ap (λ z. slice_get z v) c.items.ensures.same ∙ F.is) in
    let p : place_at items v ≡ c.place_of-p.result = place_is items v F.figure F.is ∙ ap item_place q ∙ sym c.place_of-p.ensures in
    let t = c.in_ok-text-in-Some.ensures in
    let text = c.requires.names.texts v c.in-Some.text c.requires.there (text_is N v c.get.result.now c.get.ensures.value ∙ c.in-Some.is) in
    let text' = subst IsLabelText (sym t) text in
    (subst (IsInside c.args.picture.now.frame) p (place_inside c.args.picture.now v c.items.ensures.rules F), text'.0, text'.1, text'.2)

-- src/labels.rt:34:1
pub returns-in_ok-text-in-Some : goal.returns-in_ok-text-in-Some
returns-in_ok-text-in-Some c =
    let N = c.args.names.now in
    let items = c.args.picture.now.items in
    let v = c.args.v.0 in
    let F = c.requires.figure in
    let q = read_is c.items.result.now v F.figure c.index-items-v.result c.index-items-v.is (ap (λ z. slice_get z v) c.items.ensures.same ∙ F.is) in
    let p : place_at items v ≡ c.place_of-p.result = place_is items v F.figure F.is ∙ ap item_place q ∙ sym c.place_of-p.ensures in
    let t = text_is N v c.get.result.now c.get.ensures.value ∙ c.in-Some.is ∙ ap Some (sym (c.in_ok-text-in-Some.ensures)) in
    let fit : FitsSigned w64 c.get-name.result.now = search rules in
    let n = name_is N v c.get-name.result.now c.get-name.ensures.value ∙ sym (to_z-of_z w64 c.get-name.result.now fit) in
    on_ok_weaker c.push.result
    (λ e. e ∙ ap (λ z. record c.args.picture.now { items = z }) (one_label items (vertex_name N v) (to_z w64 (of_z w64 c.get-name.result.now)) (place_at items v) c.place_of-p.result (label_text N v) c.in_ok-text-in-Some.text n p t))
    c.push.ensures.ok

-- src/labels.rt:34:1
pub returns-in-None : goal.returns-in-None
returns-in-None c = ap (λ z. record c.args.picture.now { items = z }) (sym (no_label c.args.picture.now.items (vertex_name c.args.names.now c.args.v.0) (place_at c.args.picture.now.items c.args.v.0) (label_text c.args.names.now c.args.v.0) (text_is c.args.names.now c.args.v.0 c.get.result.now c.get.ensures.value ∙ c.in-None.is)))
