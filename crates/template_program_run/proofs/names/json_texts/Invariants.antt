use Rattle.std.proofs.Common.{◌≡◌, ◌++◌, List, String, map}
use Rattle.std.specs.declared.alloc.Global.{Global}
use Rattle.serde_json.specs.View.{view}
use Rattle.template_program_run.specs.Lines.{strings_of}
use Rattle.template_program_run.proofs.names.json_texts.Given as goal

-- the texts so far are those of the names so far, and the rest is left
abbrev pub invariant-loop-name : goal.invariant-loop-name
invariant-loop-name l = record {
  parts : (seen : List (String Global)) × (l.names.keys ≡ seen ++ l.name-iterator) × (map view l.texts.items ≡ strings_of seen);
}
