-- What a callable, or what answers for unknown methods, of one of two types answers.
use Rattle.std.specs.Prelude.{ℕ, List}
use Rattle.template_values_model.specs.Val.{Val}
use Rattle.template_callables.specs.Callables.{Says, Stated, View}
use Rattle.template_callables.specs.declared.either.Either.{Either}
use Rattle.template_callables.specs.declared.either.Either.TheVariants.{First, Second}

abbrev pub either_says : {A B : Type 0} → (A → Says) → (B → Says) → Either A B → Says
either_says f g (First a) = f a
either_says f g (Second b) = g b

abbrev pub either_method_says : {A B : Type 0} → (A → View → Val → List ℕ → List Val → Stated)
    → (B → View → Val → List ℕ → List Val → Stated) → Either A B → View → Val → List ℕ → List Val → Stated
either_method_says f g (First a) = f a
either_method_says f g (Second b) = g b
