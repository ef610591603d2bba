-- The texts that instructions write as they stand.
use Rattle.std.specs.Prelude.{ℕ, length}
use Rattle.template_compiler_code.specs.Code.{Code, emit_raw}

-- how many bytes of text an instruction writes as it stands
abbrev pub raw_length : Code → ℕ
raw_length (emit_raw text) = length text
raw_length _ = 0
