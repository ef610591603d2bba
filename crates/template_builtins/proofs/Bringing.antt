-- What installed builtins bring.
use Rattle.std.proofs.Common.{◌≡◌, ◌∙◌, refl, ap, ℕ, List, Option, None, Some, Ok, Err}
use Rattle.std.specs.Option.{option_map, IsSomeAnd}
use Rattle.template_callables.specs.Callables.{Says}
use Rattle.template_callables.specs.Joins.{Joins, keeps_name}
use Rattle.template_machine_environment.specs.Extras.{Extras, FormatsSay, brought_by, user_answers}
use Rattle.template_values_model.specs.Val.{Val}
use Rattle.template_machine_meaning.specs.Functions.{Invoked, filter_named, test_named, function_numbered}
use Rattle.template_machine_meaning.specs.Functions as invoked
use Rattle.template_machine_meaning.specs.Isolation.{AskNoNames, AsksNoName, SaysNoName}
use Rattle.template_builtins_arguments.specs.Answers.{Made, answered}
use Rattle.template_builtins_callables.specs.Says.{builtin_says, kind_says, made}
use Rattle.template_builtins_callables.specs.declared.builtin.Builtin.{Builtin}
use Rattle.template_builtins_callables.specs.declared.builtin.Kind.{Kind}
use Rattle.template_builtins_methods.specs.Methods.{called_by, method_of, methods_say}
use Rattle.template_builtins_methods.specs.declared.method.PythonMethods.{PythonMethods}
use Rattle.template_builtins.specs.Brought.{AnswerAlike, AnswersAlike, builtin_callables, method_says}
use Rattle.template_builtins.specs.Installed.{IsMade, Stands, filter_kind, test_kind}

-- what stands under a name answers as the builtin of that name
says_alike : (kind : Option Kind) (stands : Option Builtin) → Stands (λ b c. c ≡ b) kind None stands
    → option_map builtin_says stands ≡ option_map kind_says kind
says_alike None stands is = ap (λ (o : Option Builtin). option_map builtin_says o) is
says_alike (Some kind) None is = absurd is
says_alike (Some kind) (Some c) is =
    ap (λ (k : Kind). Some (kind_says k)) (ap (λ (b : Builtin). b.kind) is.2 ∙ is.1)

-- what answers for unknown methods is Python's methods
methods_alike : (method : Option PythonMethods) → IsSomeAnd method (IsMade (λ methods m. m ≡ methods))
    → option_map {U = Val → List ℕ → Says} (λ (m : PythonMethods) v name view vs. methods_say m view v name vs) method ≡ Some method_says
methods_alike None is = absurd is
methods_alike (Some m) is = refl

pub answers_alike : {F J R : Type 0} (formats : FormatsSay F) (joins : J → Joins) (x : Extras Builtin PythonMethods F J R)
    → AnswersAlike formats joins x
answers_alike formats joins x installs =
    ap (λ (y : Extras Builtin PythonMethods _ _ _). brought_by (user_answers builtin_says methods_say formats joins) y) installs.others
    ∙ (λ i. record {
      callables = record {
        filters = λ name. says_alike (filter_kind name) (x.filters name) (installs.filters name) i;
        tests = λ name. says_alike (test_kind name) (x.tests name) (installs.tests name) i;
        functions = λ number. None;
        methods = methods_alike x.method installs.methods i;
        formats = None;
      };
      joins = keeps_name;
    })

pub answer_alike : AnswerAlike
answer_alike F J R formats joins x = answers_alike formats joins x

-- no answer of a builtin asks for a name
asks_none : (made : Made) → AsksNoName (answered made)
asks_none (Ok v) = tt
asks_none (Err kind) = tt

say_none : (kind : Option Kind) → SaysNoName (option_map kind_says kind)
say_none None = tt
say_none (Some kind) = λ view vs. asks_none (made kind view vs)

pub ask_none : AskNoNames builtin_callables
ask_none (filter_named name) = say_none (filter_kind name)
ask_none (test_named name) = say_none (test_kind name)
ask_none (function_numbered number) = tt
ask_none (invoked.method_of v name) = λ view vs. asks_none (called_by (method_of v name) view v vs)
