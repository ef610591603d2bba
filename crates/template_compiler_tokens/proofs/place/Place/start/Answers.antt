use Rattle.std.proofs.Common.{refl}
use Rattle.template_compiler_tokens.specs.SourcePlaces.{column_behind}
use Rattle.template_compiler_tokens.proofs.place.Place.start.Goals as goal

pub returns : goal.returns
unfolding column_behind
returns c = record { line = refl; column = refl; offset = refl }
