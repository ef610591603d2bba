use Rattle.std.proofs.Common.{◌≡◌, ◌*◌, ◌≤◌, take}
use Rattle.template_values_forms.specs.Escapes.{html}
use Rattle.template_values_print.proofs.html.put_html.Given as goal

-- what stands for the text so far is put
abbrev pub invariant-loop-byte : goal.invariant-loop-byte
invariant-loop-byte l = (take l.used l.block ≡ html (take l.byte-index l.text)) × (l.used ≤ 6 * l.byte-index)
