-- What is named by place, and its arguments.
use Rattle.std.specs.Prelude.{List}
use Rattle.template_values_model.specs.Val.{Val}
use Rattle.template_builtins_callables.specs.declared.test.Test.{Test}
use Rattle.template_builtins_callables.specs.declared.naming.Named.{Named}
use Rattle.template_builtins_callables.specs.declared.naming.Asked.{Asked}

abbrev pub named_of : Named → Val × List Val
named_of named = (named.name.now, named.arguments.now)

abbrev pub asked_of : Asked → Test × List Val
asked_of asked = (asked.test, asked.arguments.now)
