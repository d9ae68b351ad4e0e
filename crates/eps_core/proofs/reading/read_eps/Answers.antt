use Rattle.std.proofs.Common.{◌≡◌, [], ◌∷◌, ◌++◌, rules}
use Rattle.std.specs.Prelude.{codes}
use Rattle.st_shape.specs.Rules.{IsItem}
use Rattle.eps_core.specs.Text.{name_line, mark_line}
use Rattle.eps_core.proofs.BadLines.{FromFront, bad_front, first_refused, second_refused, same_line, no_text_of}
use Rattle.eps_core.proofs.Readings.{read_none, read_more, read_all}
use Rattle.eps_core.proofs.reading.read_eps.Goals as goal

pub loop-item-init : goal.loop-item-init
loop-item-init c = read_none _ _ _ _ _ _ c.form_and_frame-form.ensures.frame c.new-picture.ensures c.front.ensures.text c.in-Ok.ensures.ok

pub loop-item-preserved : goal.loop-item-preserved
loop-item-preserved c =
    let s = c.in-Ok-Some in
    let lines : c.loop-item.rest.now ≡ name_line s.item ++ 10 ∷ (mark_line s.item ++ 10 ∷ s.behind.now) = search (rules, s.field-0-is, s.ensures.lines) in
    let item : IsItem c.form_and_frame-form.result.1 s.item = search (rules, s.field-0-is, s.ensures.item) in
    read_more _ _ _ _ _ _ _ _ c.loop-item.invariant lines item c.requires c.in_ok-push-in-Ok-Some.ensures.ok

pub returns-in-Ok-None-clause-picture : goal.returns-in-Ok-None-clause-picture
returns-in-Ok-None-clause-picture c =
    let last : c.loop-item.rest.now ≡ codes "%%EOF" ++ 10 ∷ [] = search (rules, c.in-Ok-None.field-0-is, c.in-Ok-None.ensures.last) in
    read_all _ _ _ _ _ c.loop-item.invariant last

pub returns-in-Err : goal.returns-in-Err
returns-in-Err c =
    let from : FromFront c.args.bytes.now c.form_and_frame-form.result.0 c.form_and_frame-form.result.1 = record { rules = c.form_and_frame-form.ensures.frame; form = c.form_and_frame-form.ensures.form; frame = c.form_and_frame-form.ensures.value } in
    let b = bad_front c.args.bytes.now _ _ _ c.in-Err.k from c.front.ensures.text c.in-Err.ensures.within c.in-Err.ensures.misses in
    record { picture = tt; rules = tt; first_bad = same_line _ _ b; taken = λ t. absurd (no_text_of _ _ b t) }

pub returns-in-Err-First : goal.returns-in-Err-First
returns-in-Err-First c =
    let b = first_refused _ _ _ _ _ c.loop-item.invariant (c.in-Err-First.ensures.first c.in-Err-First.field-0-is) in
    record { picture = tt; rules = tt; first_bad = same_line _ _ b; taken = λ t. absurd (no_text_of _ _ b t) }

pub returns-in-Err-Second : goal.returns-in-Err-Second
returns-in-Err-Second c =
    let b = second_refused _ _ _ _ _ c.loop-item.invariant (c.in-Err-Second.ensures.second c.in-Err-Second.field-0-is) c.requires in
    record { picture = tt; rules = tt; first_bad = same_line _ _ b; taken = λ t. absurd (no_text_of _ _ b t) }
