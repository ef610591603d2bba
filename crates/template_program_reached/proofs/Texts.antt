-- Templates as names with sources.
use Rattle.std.proofs.Common.{◌≡◌, ◌∙◌, ℕ, ◌<◌, List, [], length, get_or, String, string_bytes, sym, ap}
use Rattle.std.specs.declared.alloc.Global.{Global}
use Rattle.std.proofs.lemmas.List.{get_or-map, length-map}
use Rattle.template_program_reached.specs.Places.{text_at}
use Rattle.template_program_reached.specs.Views.{texts_in}

abbrev text_of : String Global × String Global → List ℕ × List ℕ
text_of t = (string_bytes t.0, string_bytes t.1)

pub length-texts : (templates : List (String Global × String Global)) → length (texts_in templates) ≡ length templates
length-texts templates = length-map templates text_of

-- the template at a place that was read
pub text_read : (templates : List (String Global × String Global)) (i : ℕ) (t : String Global × String Global) → i < length templates
    → t ≡ get_or templates i t
    → text_at (texts_in templates) i ≡ (string_bytes t.0, string_bytes t.1)
text_read templates i t within is = get_or-map text_of templates i t ([], []) within ∙ ap text_of (sym is)

-- the same, by what stands there
pub text_there : (templates : List (String Global × String Global)) (i : ℕ) (t : String Global × String Global) → i < length templates
    → text_at (texts_in templates) i ≡ (string_bytes (get_or templates i t).0, string_bytes (get_or templates i t).1)
text_there templates i t within = get_or-map text_of templates i t ([], []) within
