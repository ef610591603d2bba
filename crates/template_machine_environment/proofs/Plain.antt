-- A source in which no marker starts renders to its text.
use Rattle.std.proofs.Common.{◌≡◌, ℕ, zero, suc, List, [], ◌∷◌, Option, None, Some, Result, Ok, Err, inl, inr, refl, sym, ap, subst, ◌∙◌, append-nil, arith}
use Rattle.std.specs.Io.KnownBytes.{Appends}
use Rattle.template_values_errors.specs.declared.ErrorKind.{ErrorKind}
use Rattle.template_values_errors.specs.declared.modes.AutoEscape.{AutoEscape}
use Rattle.template_values_model.specs.Val.{Val}
use Rattle.template_compiler_process.specs.Approximants.{IsFinished}
use Rattle.template_compiler_process.specs.Fuel.{under}
use Rattle.template_compiler_process.specs.Trace.{Run}
use Rattle.template_compiler_process.proofs.Fuels.{enough}
use Rattle.template_machine_meaning.specs.Keys.{Head}
use Rattle.template_machine_meaning.specs.Meaning.{Setting, Standing, head_of, meaning, rendered}
use Rattle.template_machine_meaning.specs.World.{World, first_world}
use Rattle.template_machine_renders.specs.Outcomes.{IsWant}
use Rattle.template_compiled.specs.Compiled.{Compiled, standing_of}
use Rattle.template_compiled.specs.Plain.{text_tree}
use Rattle.template_machine_environment.specs.Extras.{Brought}
use Rattle.template_machine_environment.specs.Plain.{text_run, GivesItself, WritesItself}
use Rattle.template_machine_environment.specs.Renderings.{GivesText, IsCut, Renders, whole, broken, rendering}
use Rattle.template_machine_environment.specs.declared.registry.Registry.{Registry}

-- the run of such a tree, under every bound
text_runs : (setting : Setting) (id n : ℕ) (name bytes : List ℕ) (escape : AutoEscape) (head : Head) (context : Val)
    → meaning setting (record { name = name; tree = text_tree bytes; escape = escape }) n (first_world id setting.globals head context)
    ≡ text_run bytes (first_world id setting.globals head context)
text_runs setting id n name [] escape head context = refl
text_runs setting id n name (byte ∷ bytes) escape head context = refl

pub plain_render : (setting : Setting) (id n : ℕ) (t : Standing) (bytes : List ℕ) (context : Val) → t.tree ≡ text_tree bytes
    → rendered setting id n t context ≡ text_run bytes (first_world id setting.globals (head_of t) context)
plain_render setting id n t bytes context is =
    ap (λ tree. meaning setting (record { name = t.name; tree = tree; escape = t.escape }) n (first_world id setting.globals (head_of t) context)) is
    ∙ text_runs setting id n t.name bytes t.escape (head_of t) context

pub text_finished : (bytes : List ℕ) (w : World) → IsFinished (text_run bytes w).end
text_finished [] w = tt
text_finished (byte ∷ bytes) w = tt

-- all of it
whole_gives : {X : Type 0} (fuel : Option ℕ) (bytes : List ℕ) (w : World) (text : X → List ℕ) (result : Result X (List ErrorKind))
    → GivesText text result (text_run bytes w) → GivesItself fuel bytes text result
whole_gives fuel [] w text (Ok x) gives = gives.1
whole_gives fuel [] w text (Err kinds) (inl ended) = cc
whole_gives fuel [] w text (Err kinds) (inr want) = inl want
whole_gives fuel (byte ∷ bytes) w text (Ok x) gives = gives.1 ∙ append-nil (byte ∷ bytes)
whole_gives fuel (byte ∷ bytes) w text (Err kinds) (inl ended) = cc
whole_gives fuel (byte ∷ bytes) w text (Err kinds) (inr want) = inl want

cut_wants : (X : Type 0) (kinds : List ErrorKind) (failed fails : ℕ) → IsCut {X = X} (Err kinds) failed fails → IsWant kinds
cut_wants X kinds failed fails (inl want) = inl want.0
cut_wants X kinds failed fails (inr failure) = inr failure.0

whole_writes : {X : Type 0} (fuel : Option ℕ) (bytes : List ℕ) (w : World) (before after : Option (List ℕ)) (failed fails : ℕ) (result : Result X (List ErrorKind))
    → Renders result before after failed fails (text_run bytes w) → WritesItself fuel bytes before after result
whole_writes fuel [] w before after failed fails (Ok x) (whole ends text quiet) = text
whole_writes fuel [] w before after failed fails (Err kinds) (whole ends text quiet) = cc
whole_writes fuel (byte ∷ bytes) w before after failed fails (Ok x) (whole ends text quiet) = subst (Appends before after) (append-nil (byte ∷ bytes)) text
whole_writes fuel (byte ∷ bytes) w before after failed fails (Err kinds) (whole ends text quiet) = cc
whole_writes fuel bytes w before after failed fails (Ok x) (broken cut text) = absurd cut
whole_writes {X} fuel bytes w before after failed fails (Err kinds) (broken cut text) = inl (cut_wants X kinds failed fails cut)

-- a fuel that pays a step lets it through
nothing_cut : (fuel : ℕ) (w : World) → under (Some fuel) (text_run [] w) ≡ text_run [] w
nothing_cut fuel w = enough World 0 fuel (text_run [] w) (inl refl) (omega arith)

not_cut : (fuel byte : ℕ) (bytes : List ℕ) (w : World) → under (Some (suc (suc fuel))) (text_run (byte ∷ bytes) w) ≡ text_run (byte ∷ bytes) w
not_cut fuel byte bytes w = enough World 2 (suc (suc fuel)) (text_run (byte ∷ bytes) w) (inr (omega arith)) (omega arith)

gives_itself : {X : Type 0} (fuel : Option ℕ) (bytes : List ℕ) (w : World) (text : X → List ℕ) (result : Result X (List ErrorKind))
    → GivesText text result (under fuel (text_run bytes w)) → GivesItself fuel bytes text result
gives_itself None bytes w text result gives = whole_gives None bytes w text result gives
gives_itself (Some fuel) [] w text result gives =
    whole_gives (Some fuel) [] w text result (subst (GivesText text result) (nothing_cut fuel w) gives)
gives_itself (Some (suc (suc fuel))) (byte ∷ bytes) w text result gives =
    whole_gives (Some (suc (suc fuel))) (byte ∷ bytes) w text result (subst (GivesText text result) (not_cut fuel byte bytes w) gives)
gives_itself (Some zero) (byte ∷ bytes) w text (Ok x) gives = absurd gives.0
gives_itself (Some zero) (byte ∷ bytes) w text (Err kinds) (inl ended) = inr (cc, omega arith)
gives_itself (Some zero) (byte ∷ bytes) w text (Err kinds) (inr want) = inl want
gives_itself (Some (suc zero)) (byte ∷ bytes) w text (Ok x) gives = absurd gives.0
gives_itself (Some (suc zero)) (byte ∷ bytes) w text (Err kinds) (inl ended) = inr (cc, omega arith)
gives_itself (Some (suc zero)) (byte ∷ bytes) w text (Err kinds) (inr want) = inl want

writes_itself : {X : Type 0} (fuel : Option ℕ) (bytes : List ℕ) (w : World) (before after : Option (List ℕ)) (failed fails : ℕ) (result : Result X (List ErrorKind))
    → Renders result before after failed fails (under fuel (text_run bytes w)) → WritesItself fuel bytes before after result
writes_itself None bytes w before after failed fails result renders = whole_writes None bytes w before after failed fails result renders
writes_itself (Some fuel) [] w before after failed fails result renders =
    whole_writes (Some fuel) [] w before after failed fails result (subst (Renders result before after failed fails) (nothing_cut fuel w) renders)
writes_itself (Some (suc (suc fuel))) (byte ∷ bytes) w before after failed fails result renders =
    whole_writes (Some (suc (suc fuel))) (byte ∷ bytes) w before after failed fails result
    (subst (Renders result before after failed fails) (not_cut fuel byte bytes w) renders)
writes_itself (Some zero) (byte ∷ bytes) w before after failed fails (Ok x) (whole ends text quiet) = absurd ends
writes_itself (Some zero) (byte ∷ bytes) w before after failed fails (Err kinds) (whole ends text quiet) = inr (cc, omega arith)
writes_itself (Some zero) (byte ∷ bytes) w before after failed fails (Ok x) (broken cut text) = absurd cut
writes_itself {X} (Some zero) (byte ∷ bytes) w before after failed fails (Err kinds) (broken cut text) = inl (cut_wants X kinds failed fails cut)
writes_itself (Some (suc zero)) (byte ∷ bytes) w before after failed fails (Ok x) (whole ends text quiet) = absurd ends
writes_itself (Some (suc zero)) (byte ∷ bytes) w before after failed fails (Err kinds) (whole ends text quiet) = inr (cc, omega arith)
writes_itself (Some (suc zero)) (byte ∷ bytes) w before after failed fails (Ok x) (broken cut text) = absurd cut
writes_itself {X} (Some (suc zero)) (byte ∷ bytes) w before after failed fails (Err kinds) (broken cut text) = inl (cut_wants X kinds failed fails cut)

-- what calls that render it give and write
abbrev pub IsOfText : Brought → Registry → Compiled → List ℕ → Type 0
IsOfText k e c bytes = (id n : ℕ) (context : Val) → rendering k e id c n context ≡ text_run bytes (first_world id e.globals (head_of (standing_of c)) context)

pub plain_gives : {X : Type 0} (k : Brought) (e : Registry) (id : ℕ) (c : Compiled) (bytes : List ℕ) (context : Val) (text : X → List ℕ) (result : Result X (List ErrorKind))
    → IsOfText k e c bytes
    → ((n : ℕ) → IsFinished (rendering k e id c n context).end → GivesText text result (under e.fuel (rendering k e id c n context)))
    → GivesItself e.fuel bytes text result
plain_gives k e id c bytes context text result is gives =
    let w = first_world id e.globals (head_of (standing_of c)) context in
    gives_itself e.fuel bytes w text result (subst (λ r. GivesText text result (under e.fuel r)) (is id 0 context)
    (gives 0 (subst (λ (r : Run World). IsFinished r.end) (sym (is id 0 context)) (text_finished bytes w))))

pub plain_writes : {X : Type 0} (k : Brought) (e : Registry) (id : ℕ) (c : Compiled) (bytes : List ℕ) (context : Val) (before after : Option (List ℕ)) (failed fails : ℕ)
    (result : Result X (List ErrorKind)) → IsOfText k e c bytes
    → ((n : ℕ) → IsFinished (rendering k e id c n context).end → Renders result before after failed fails (under e.fuel (rendering k e id c n context)))
    → WritesItself e.fuel bytes before after result
plain_writes k e id c bytes context before after failed fails result is renders =
    let w = first_world id e.globals (head_of (standing_of c)) context in
    writes_itself e.fuel bytes w before after failed fails result (subst (λ r. Renders result before after failed fails (under e.fuel r)) (is id 0 context)
    (renders 0 (subst (λ (r : Run World). IsFinished r.end) (sym (is id 0 context)) (text_finished bytes w))))
