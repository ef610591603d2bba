-- What contracts see of a `ReadWrapper`.
use Rattle.std.specs.Prelude.{Bool}
use Rattle.template_program_parts.specs.declared.source.ReadWrapper.{ReadWrapper}

-- the reader that is lent
abbrev pub reader_in : {R : Type 0} → ReadWrapper R → R
reader_in s = s.reader.now

-- whether one of its reads has failed
abbrev pub failed_before : {R : Type 0} → ReadWrapper R → Bool
failed_before s = s.has_failed
