-- Texts cut off at a length.
use Rattle.std.specs.Prelude.{ℕ, ◌+◌, ℤ, pos, negsuc, nat_le, Bool, List, ◌++◌, length, chars, Option, Result, Ok, if◌then◌else◌}
use Rattle.template_values_errors.specs.declared.ErrorKind.{ErrorKind}
use Rattle.template_values_model.specs.Val.{Val}
use Rattle.template_callables.specs.Callables.{View}
use Rattle.template_builtins_arguments.specs.Answers.{refused}
use Rattle.template_builtins_arguments.specs.Texts.{is_safe, text_made}
use Rattle.template_builtins_layout.specs.Fronts.{front_of}
use Rattle.template_builtins_layout.specs.Putting.{is_safe_argument, makes_both_safe, put_in}

-- a length that has room for an end
abbrev pub length_from : ℤ → List ℕ → Result ℕ ErrorKind
length_from (pos n) end = if nat_le (length (chars end)) n then Ok n else refused
length_from (negsuc n) end = refused

abbrev pub leeway_from : ℤ → Result ℕ ErrorKind
leeway_from (pos n) = Ok n
leeway_from (negsuc n) = refused

-- a text and an end, each as it is put in
abbrev pub put_together : Bool → (List ℕ → List ℕ) → List ℕ → (List ℕ → List ℕ) → List ℕ → Val
put_together safe f front g end = text_made safe (f front ++ g end)

abbrev pub ended : Bool → Val → Option Val → List ℕ → List ℕ → Val
ended safe v by front end = put_together safe (put_in safe (is_safe v)) front (put_in safe (is_safe_argument by)) end

-- a text as it is where it has at most so many characters and a leeway; else its front and the end
abbrev pub truncated : View → Val → Option Val → List ℕ → ℕ → Bool → List ℕ → ℕ → Val
truncated view v by s n killwords end leeway =
    if nat_le (length (chars s)) (n + leeway) then text_made (is_safe v) s
    else ended (makes_both_safe view v by) v by (front_of killwords n end s) end
