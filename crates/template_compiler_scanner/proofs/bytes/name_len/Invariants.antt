use Rattle.std.proofs.Common.{◌≡◌, ℕ, ◌<◌, true, get_or}
use Rattle.template_compiler_tokens.specs.Lexical.{is_name_part}
use Rattle.template_compiler_scanner.proofs.bytes.name_len.Given as goal

-- the bytes so far may stand in a name
abbrev pub invariant-loop-index : goal.invariant-loop-index
invariant-loop-index l = (k : ℕ) → k < l.index → is_name_part (get_or l.text k 0) ≡ true
