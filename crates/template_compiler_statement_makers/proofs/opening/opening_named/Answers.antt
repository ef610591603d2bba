use Rattle.std.proofs.Common.{◌≡◌, false, Option, None, Some, is_some, refl}
use Rattle.template_compiler_grammar.specs.TemplateReaderParts.{opening}
use Rattle.template_compiler_statement_makers.proofs.opening.opening_named.Goals as goal

none_is : {A : Type 0} (o : Option A) → is_some o ≡ false → None ≡ o
none_is None h = refl
none_is (Some x) h = cc

pub returns-then-goes_on_or_ends : goal.returns-then-goes_on_or_ends
returns-then-goes_on_or_ends c =
    none_is (opening c.args.word.now) (rw c.as_bytes.ensures.value at (c.goes_on_or_ends.ensures c.if-goes_on_or_ends.true))
