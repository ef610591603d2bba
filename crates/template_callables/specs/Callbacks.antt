-- What the machine is answered where it asks what a user brought.
use Rattle.std.specs.Prelude.{◌≡◌, ℕ, List, Option, None, Some, option_map, IsSomeAnd}
use Rattle.template_values_model.specs.Val.{Val}
use Rattle.template_callables.specs.Callables.{View, Says, Formatted}
use Rattle.template_callables.specs.Answers.{Answers}
use Rattle.template_callables.specs.Formats.{Formats}
use Rattle.template_callables.specs.declared.answer.Answer.{Answer}
use Rattle.template_callables.specs.declared.format.FormatAnswer.{FormatAnswer}

-- what is said for a view and arguments, where anything is said
abbrev pub AnswersUnder : Option Says → View → List Val → Option Answer → Type 0
AnswersUnder None view args result = result ≡ None
AnswersUnder (Some says) view args result = IsSomeAnd result (Answers (says view args))

-- what is said for a method of a value
abbrev pub method_says : Option (Val → List ℕ → Says) → Val → List ℕ → Option Says
method_says methods v name = option_map (λ (answer : Val → List ℕ → Says). answer v name) methods

-- what is printed in a value's place for a view, where something says so
abbrev pub FormatsUnder : Option (View → Val → Formatted) → View → Val → Option FormatAnswer → Type 0
FormatsUnder None view v result = result ≡ None
FormatsUnder (Some formats) view v result = IsSomeAnd result (Formats (formats view v))
