use Rattle.std.proofs.Common.{◌≡◌, ◌*◌, ◌<◌, IsSome, length, sym, ap, ◌∙◌, subst, arith}
use Rattle.slab.specs.Slab.{get}
use Rattle.st_map.specs.declared.links.End.{End}
use Rattle.st_map.specs.Links.{end_in, key_of}
use Rattle.st_map.proofs.LinkLemmas.{answer_cw, asked_cw, cw_there, end_there, read_end}
use Rattle.st_map.proofs.links.Links.cw.Goals as goal

pub key_at-requires : goal.key_at-requires
key_at-requires c =
    let l : c.args.d < 2 * length c.self.inside.keys.items = asked_cw c.self.inside.ends c.self.inside.keys.items c.self.inside.first.items _ _ c.args.self.now c.self.view_is c.args.d c.requires in
    omega (arith, c.deref.ensures.len, ap length c.deref.ensures.value)

pub index-end-requires : goal.index-end-requires
index-end-requires c =
    let l : c.args.d < 2 * length c.self.inside.keys.items = asked_cw c.self.inside.ends c.self.inside.keys.items c.self.inside.first.items _ _ c.args.self.now c.self.view_is c.args.d c.requires in
    let k : c.key_at.result ≡ key_of c.self.inside.keys.items c.args.d = c.key_at.ensures ∙ ap (λ z. key_of z c.args.d) c.deref.ensures.value in
    subst (λ z. IsSome (get c.self.inside.ends z)) (sym k) (end_there c.self.inside.ends c.self.inside.keys.items c.self.inside.first.items 0 0 c.self.invariant c.args.d l)

pub index-requires : goal.index-requires
index-requires c =
    let l : c.args.d < 2 * length c.self.inside.keys.items = asked_cw c.self.inside.ends c.self.inside.keys.items c.self.inside.first.items _ _ c.args.self.now c.self.view_is c.args.d c.requires in
    let k : c.key_at.result ≡ key_of c.self.inside.keys.items c.args.d = c.key_at.ensures ∙ ap (λ z. key_of z c.args.d) c.deref.ensures.value in
    let r : c.index-end.result.now ≡ end_in c.self.inside.ends (key_of c.self.inside.keys.items c.args.d) =
    read_end c.self.inside.ends c.key_at.result c.index-end.result.now c.index-end.ensures ∙ ap (end_in c.self.inside.ends) k in
    subst (λ (z : End). IsSome (get c.self.inside.ends z.cw)) (sym r) (cw_there c.self.inside.ends c.self.inside.keys.items c.self.inside.first.items 0 0 c.self.invariant c.args.d l)

pub returns : goal.returns
returns c =
    let k : c.key_at.result ≡ key_of c.self.inside.keys.items c.args.d = c.key_at.ensures ∙ ap (λ z. key_of z c.args.d) c.deref.ensures.value in
    let r : c.index-end.result.now ≡ end_in c.self.inside.ends (key_of c.self.inside.keys.items c.args.d) =
    read_end c.self.inside.ends c.key_at.result c.index-end.result.now c.index-end.ensures ∙ ap (end_in c.self.inside.ends) k in
    let q : c.index.result.now ≡ end_in c.self.inside.ends c.index-end.result.now.cw = read_end c.self.inside.ends c.index-end.result.now.cw c.index.result.now c.index.ensures in
    ap (λ (z : End). z.dart) q ∙ ap (λ (z : End). (end_in c.self.inside.ends z.cw).dart) r
    ∙ sym (answer_cw c.self.inside.ends c.self.inside.keys.items c.self.inside.first.items _ _ c.args.self.now c.self.view_is c.args.d c.requires)
