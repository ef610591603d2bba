use Rattle.std.proofs.Common.{◌≡◌, ◌⊎◌, ◌≤◌, ◌<◌, ◌+◌, [], ◌∷◌, None, drop, length, add-one, sym, subst, arith}
use Rattle.std.proofs.Math.Seq.{drop-cons}
use Rattle.template_values_errors.specs.declared.ErrorKind.TheVariants.{TooManyArguments}
use Rattle.template_values_errors.specs.Memory.{NoMemory}
use Rattle.template_machine_meaning.specs.Macros.{arguments_given}
use Rattle.template_machine_calls.specs.Binding.{keywords_in}
use Rattle.template_machine_calls.proofs.Handing.{all_behind, all_given, err_refuses, gives_more, gives_not, got_place}
use Rattle.template_machine_calls.proofs.binding.find_arguments.Goals as goal

pub loop-i-preserved : goal.loop-i-preserved
loop-i-preserved c =
    let names = c.args.names.now in
    let places = c.args.places.now in
    let i = c.loop-i.i in
    let within : i < length names = omega arith in
    let here : drop i names ≡ c.index-names-i.result ∷ drop (i + 1) names =
    subst (λ v. drop i names ≡ v ∷ drop (i + 1) names) (sym c.index-names-i.is) (rw add-one (drop-cons names i c.index-names-i.result within)) in
    gives_more names places c.args.keywords.now i (i + 1) c.index-names-i.result c.in_ok-argument.argument c.loop-i.found.items c.push.new.self.items _ _ c.requires.keywords
    (omega arith) c.loop-i.invariant here (got_place c.get.result i places c.get.ensures.lookup.3 c.get.ensures.lookup.1) c.keyword_for.ensures c.in_ok-argument.ensures c.in_ok-push.ensures.items

pub returns-in_err-argument-clause-refused : goal.returns-in_err-argument-clause-refused
returns-in_err-argument-clause-refused c =
    let names = c.args.names.now in
    let places = c.args.places.now in
    let i = c.loop-i.i in
    let within : i < length names = omega arith in
    let here : drop i names ≡ c.index-names-i.result ∷ drop (i + 1) names =
    subst (λ v. drop i names ≡ v ∷ drop (i + 1) names) (sym c.index-names-i.is) (rw add-one (drop-cons names i c.index-names-i.result within)) in
    err_refuses (λ kinds. NoMemory kinds ⊎ ((arguments_given names places (keywords_in c.args.keywords.now) [] ≡ None) × (kinds ≡ TooManyArguments ∷ []))) _ _
    (gives_not names places c.args.keywords.now i (i + 1) c.index-names-i.result c.loop-i.found.items _ _ _ c.requires.keywords
    (omega arith) c.loop-i.invariant here (got_place c.get.result i places c.get.ensures.lookup.3 c.get.ensures.lookup.1) c.keyword_for.ensures c.in_err-argument.ensures)
    c.from_residual.ensures.1

pub returns-clause-given : goal.returns-clause-given
returns-clause-given c =
    let names = c.args.names.now in
    let places = c.args.places.now in
    let past : length names ≤ c.loop-i.i = omega arith in
    let behind : length places ≤ c.loop-i.i = omega arith in
    all_given names places (keywords_in c.args.keywords.now) c.loop-i.i c.loop-i.found.items c.loop-i.invariant (all_behind c.loop-i.i names past) (all_behind c.loop-i.i places behind)
