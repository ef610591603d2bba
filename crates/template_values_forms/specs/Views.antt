-- What a look into a loop or a macro shows.
use Rattle.template_values_forms.specs.Known.{LoopSeen, MacroSeen}
use Rattle.template_values_forms.specs.declared.records.LoopView.{LoopView}
use Rattle.template_values_forms.specs.declared.records.MacroView.{MacroView}

abbrev pub loop_seen : LoopView → LoopSeen
loop_seen l = record { items = l.items.now; place = l.place; depth = l.depth }

abbrev pub macro_seen : MacroView → MacroSeen
macro_seen m = record { name = m.name.now; arguments = m.arguments.now; caller = m.caller }
