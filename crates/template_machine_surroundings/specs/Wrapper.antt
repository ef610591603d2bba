-- What a contract sees of a `WriteWrapper` beside its public fields.
use Rattle.std.specs.Prelude.{ℕ}
use Rattle.template_machine_surroundings.specs.declared.wrapper.WriteWrapper.{WriteWrapper}

-- how often the wrapper failed
abbrev pub failure_count : {W : Type 0} → WriteWrapper W → ℕ
failure_count s = s.failed
