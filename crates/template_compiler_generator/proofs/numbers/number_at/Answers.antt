use Rattle.std.proofs.Common.{◌≡◌, ◌∙◌, ℕ, List, Some, map, set, sym, ap, rules}
use Rattle.std.specs.Cow.{cow_str_bytes}
use Rattle.template_compiler_code.specs.Code.{apply_filter, perform_test}
use Rattle.template_compiler_code.specs.Listing.{code_in}
use Rattle.template_compiler_code.specs.View.{code_of}
use Rattle.template_compiler_code.specs.declared.instruction.Instruction.{Instruction}
use Rattle.template_compiler_generator.specs.Numbers.{name_at, names_at, number_among, with_name}
use Rattle.template_compiler_generator.proofs.Passing.{filter_step, test_step, no_step, plain_step, is_plain}
use Rattle.template_compiler_generator.proofs.numbers.number_at.Goals as goal

pub returns-in-None-clause-numbered : goal.returns-in-None-clause-numbered
returns-in-None-clause-numbered c =
    let code = code_in c.args.code.now in
    no_step code c.args.place (names_at code c.args.filters.now.items c.args.tests.now.items) (sym c.in-None.ensures)

pub returns-in_default-clause-numbered : goal.returns-in_default-clause-numbered
returns-in_default-clause-numbered c =
    let code = code_in c.args.code.now in
    plain_step code c.args.place (names_at code c.args.filters.now.items c.args.tests.now.items) (code_of c.in-Some.instruction.now) (sym c.in-Some.ensures)
    (is_plain c.in-Some.instruction.now c.in_default.not-ApplyFilter c.in_default.not-PerformTest)

pub returns-in_ok-clone-in-ApplyFilter-clause-numbered : goal.returns-in_ok-clone-in-ApplyFilter-clause-numbered
returns-in_ok-clone-in-ApplyFilter-clause-numbered c =
    let old = code_in c.args.code.now in
    let name = cow_str_bytes c.in-ApplyFilter.name in
    let count = c.in-ApplyFilter.count in
    let copied : cow_str_bytes c.in_ok-clone-in-ApplyFilter.field-0 ≡ name = search rules in
    filter_step old (code_in c.replace.new.self) c.args.place name count c.in-ApplyFilter.field-2 c.in_ok-number-in-ApplyFilter.number
    c.args.filters.now.items c.number_of.new.names.items c.args.tests.now.items
    (sym c.in-Some.ensures ∙ ap (λ (i : Instruction). Some (code_of i)) c.in-ApplyFilter.is)
    (c.in_ok-number-in-ApplyFilter.ensures.names ∙ ap (with_name (map (name_at old) c.args.filters.now.items)) c.as_str.ensures.value)
    (c.in_ok-number-in-ApplyFilter.ensures.number ∙ ap (number_among (map (name_at old) c.number_of.new.names.items)) c.as_str.ensures.value)
    (c.replace.ensures.replaced
    ∙ ap (λ (n : List ℕ). set old c.args.place (apply_filter n count c.in_ok-number-in-ApplyFilter.number)) copied)

pub returns-in_ok-clone-in-PerformTest-clause-numbered : goal.returns-in_ok-clone-in-PerformTest-clause-numbered
returns-in_ok-clone-in-PerformTest-clause-numbered c =
    let old = code_in c.args.code.now in
    let name = cow_str_bytes c.in-PerformTest.name in
    let count = c.in-PerformTest.count in
    let copied : cow_str_bytes c.in_ok-clone-in-PerformTest.field-0 ≡ name = search rules in
    test_step old (code_in c.replace-in-PerformTest.new.self) c.args.place name count c.in-PerformTest.field-2 c.in_ok-number-in-PerformTest.number
    c.args.filters.now.items c.args.tests.now.items c.number_of-in-PerformTest.new.names.items
    (sym c.in-Some.ensures ∙ ap (λ (i : Instruction). Some (code_of i)) c.in-PerformTest.is)
    (c.in_ok-number-in-PerformTest.ensures.names ∙ ap (with_name (map (name_at old) c.args.tests.now.items)) c.as_str-in-PerformTest.ensures.value)
    (c.in_ok-number-in-PerformTest.ensures.number ∙ ap (number_among (map (name_at old) c.number_of-in-PerformTest.new.names.items)) c.as_str-in-PerformTest.ensures.value)
    (c.replace-in-PerformTest.ensures.replaced
    ∙ ap (λ (n : List ℕ). set old c.args.place (perform_test n count c.in_ok-number-in-PerformTest.number)) copied)
