use Rattle.std.proofs.Common.{rules, ◌≡◌, ◌∙◌, length, map, codes}
use Rattle.std.specs.String.{string_bytes}
use Rattle.std.proofs.lemmas.List.{length-map}
use Rattle.st_words.proofs.WordLemmas.{only_bound, none_written}
use Rattle.st_words.proofs.words.command_by_name.Goals as goal

pub returns-then-is_empty : goal.returns-then-is_empty
returns-then-is_empty c =
    let called : string_bytes c.args.name.now ≡ codes "test" = search rules in
    let none : length c.args.rest.now ≡ 0 = search rules in
    (called, none_written (map string_bytes c.args.rest.now) (length-map c.args.rest.now string_bytes ∙ none))

pub returns-in-None-two_names : goal.returns-in-None-two_names
returns-in-None-two_names c =
    only_bound (string_bytes c.args.name.now) (map string_bytes c.args.rest.now) c.in-Some-operation_of.operation c.in-Some-operation_of.ensures c.in-None-two_names.ensures
