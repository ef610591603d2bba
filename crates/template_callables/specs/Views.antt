-- What is seen of a run.
use Rattle.std.specs.Prelude.{option_copied}
use Rattle.template_callables.specs.Callables.{View}
use Rattle.template_callables.specs.declared.view.CallView.{CallView}

abbrev pub seen_in : CallView → View
seen_in v = record {
  name = v.name.now;
  escape = v.auto_escape;
  undefined = v.undefined_behavior;
  block = option_copied v.current_block;
  temps = v.temps.now;
}
