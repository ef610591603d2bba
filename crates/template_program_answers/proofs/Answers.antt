-- Two answers to one request.
use Rattle.std.proofs.Common.{◌≡◌, ◌∙◌, ℕ, ◌+◌, Bool, List, [], Option, None, Some, inl, inr, refl, sym, ap, subst, append-nil, string_bytes}
use Rattle.std.proofs.lemmas.Option.{none-some, same_Some}
use Rattle.std.specs.BTreeSet.{BTreeSet}
use Rattle.std.specs.Io.KnownBytes.{Appends}
use Rattle.std.specs.Prelude.{String}
use Rattle.std.specs.declared.alloc.Global.{Global}
use Rattle.template_values_errors.specs.declared.ErrorKind.{ErrorKind}
use Rattle.template_values_model.specs.Val.{Val}
use Rattle.template_compiler_syntax.specs.Syntax.{IsUsable}
use Rattle.template_compiler_process.specs.Approximants.{IsFinished}
use Rattle.template_compiler_process.specs.Fuel.{IsSameRun, under}
use Rattle.template_compiler_process.specs.Trace.{Item, Run, text_of}
use Rattle.template_machine_meaning.specs.Meaning.{Standing, rendered}
use Rattle.template_machine_meaning.specs.World.{World}
use Rattle.template_machine_environment.proofs.Importing.{source_imports, standing_import}
use Rattle.template_machine_environment_settings.specs.Extras.{Brought}
use Rattle.template_machine_environment_settings.specs.Isolation.{AgreesAt, AskNoNames, ImportsNames, IsolatesNames}
use Rattle.template_machine_environment_settings.specs.Plain.{IsRefusedForRoom}
use Rattle.template_machine_environment_settings.specs.Renderings.{Renders}
use Rattle.template_machine_environment_settings.specs.Registry.{Registry}
use Rattle.template_machine_environment_settings.specs.Standing.{setting_of}
use Rattle.template_program_run.specs.Additions.{IsRefusedAddition, RefusesOne}
use Rattle.template_program_run.specs.Answers.{AnswersWith, HasNames, IsTemplateOf, IsUntouched, Performed, Rendered, TellsNames, definitions_of}
use Rattle.template_program_run.specs.Environments.{IsMade}
use Rattle.template_program_run.specs.Given.{Given}
use Rattle.template_program_run.specs.History.{source_under, standing}
use Rattle.template_program_run.specs.Ids.{IsLastId}
use Rattle.template_program_run.specs.Lines.{told_names}
use Rattle.template_program_run.specs.Served.{Served}
use Rattle.template_program_parts.specs.declared.outcome.Outcome.{Outcome}
use Rattle.template_program_parts.specs.declared.outcome.Outcome.TheVariants.{Done, Render, Context, Template}
use Rattle.template_program_parts.specs.declared.command.Command.{Command}
use Rattle.template_program_parts.specs.declared.command.Command.TheVariants as asked
use Rattle.template_program_run.specs.declared.request.Request.{Request}
use Rattle.template_program_answers.specs.Law.{Answer, AreAlike, IsUnwanting, TellsWant}
use Rattle.template_program_answers.proofs.Contexts.{agree_everywhere, one_refusal, refused_or_had}
use Rattle.template_program_answers.proofs.Refusals.{all_or_refused, same_refused}
use Rattle.template_program_answers.proofs.Renders.{IsWhole, one_end, quiet_render, whole_render}
use Rattle.template_program_answers.proofs.Settings.{one_fuel, one_setting, one_template, same_sets}
use Rattle.template_program_answers.proofs.Told.{same_told}

-- where nothing was written, the text is empty
writes_nothing : (before after : Option (List ℕ)) → after ≡ before → Appends before after []
writes_nothing None after same = tt
writes_nothing (Some bytes) None same = absurd (none-some _ same)
writes_nothing (Some bytes) (Some others) same = same_Some _ _ same ∙ sym (append-nil bytes)

-- answers that end with one outcome and wrote nothing
nothing_written : (a b : Answer) → a.outcome ≡ b.outcome → IsUntouched a.before a.after a.failed a.fails
    → IsUntouched b.before b.after b.failed b.fails → AreAlike a b
nothing_written a b same untouched too = record {
  end = same;
  write = (
    [],
    record {
      first = writes_nothing a.before a.after untouched.0;
      second = writes_nothing b.before b.after too.0;
      quiet = untouched.1;
      quiet_too = too.1;
    },
  );
}

-- what the outcome does not want
unwanted : (a : Answer) → IsUnwanting a → (outcome : Outcome) → a.outcome ≡ outcome → ¬ TellsWant outcome
unwanted a u outcome is want = u.unwanted (subst TellsWant (sym is) want)

-- the additions are refused by one of them
refuses : (served : Served) (additions : List (List ℕ × List ℕ)) (next : ℕ) (kinds : List ErrorKind)
    → IsRefusedAddition served additions next kinds → ¬ IsLastId next → ¬ IsRefusedForRoom kinds → RefusesOne served additions kinds
refuses served additions next kinds (inl (inl last)) more room = absurd (more last.0)
refuses served additions next kinds (inl (inr want)) more room = absurd (room (inr want.1))
refuses served additions next kinds (inr refused) more room = refused.1

-- two renders of one run
rendered_alike : (a b : Answer) (r q : Run World) → IsSameRun r q
    → IsWhole a.outcome a.before a.after r → IsWhole b.outcome b.before b.after q → a.fails ≡ a.failed → b.fails ≡ b.failed → AreAlike a b
rendered_alike a b r q same one other quiet too = record {
  end = one_end a.outcome b.outcome a.before a.after b.before b.after r q same one other;
  write = (
    text_of r.items,
    record {
      first = one.text;
      second = subst (λ (items : List Item). Appends b.before b.after (text_of items)) (sym same.0) other.text;
      quiet = quiet;
      quiet_too = too;
    },
  );
}

-- an environment of a number, by another word for it
of_number : (served : Served) (request : Request) (additions : List (List ℕ × List ℕ)) (e : Registry) {id other : ℕ} → id ≡ other
    → IsMade served request additions id e → IsMade served request additions other e
of_number served request additions e same made = subst (λ (n : ℕ). IsMade served request additions n e) same made

-- a template of a source imports names
template_imports : (served : Served) (name text : List ℕ) (t : Standing) → IsTemplateOf served name text t → ImportsNames t.tree
template_imports served name text t is = subst ImportsNames (sym is.tree) (source_imports (source_under served text))

-- two renders of one template over contexts that agree, in states of one number
renders_alike : IsolatesNames → (k : Brought) → AskNoNames k.callables
    → (served : Served) (request : Request) (additions : List (List ℕ × List ℕ)) (a b : Answer) (e f : Registry)
    → IsMade served request additions a.next e → IsMade served request additions b.next f → (t u : Standing) → ImportsNames t.tree → t ≡ u
    → (c d : Val) → ((name : List ℕ) → AgreesAt c d name)
    → Rendered k e t c (a.next + 1) a.outcome a.before a.after a.failed a.fails
    → Rendered k f u d (b.next + 1) b.outcome b.before b.after b.failed b.fails
    → a.next ≡ b.next → IsUnwanting a → IsUnwanting b → AreAlike a b
renders_alike isolates k ask served request additions a b e f made more t u imports standing c d agree one other next ua ub =
    let ra = one.1 ua.second_id in
    let rb = other.1 ub.second_id in
    let id = a.next + 1 in
    let n = ra.2.finished.0 in
    let too = of_number served request additions f (sym next) more in
    let setting = one_setting k served request additions a.next e f made too in
    let fuel = one_fuel served request additions a.next e f made too in
    let isolated = isolates (setting_of k e) ask (standing_import k e) id t imports c d (λ name can_matter. agree name) n in
    let there : rendered (setting_of k e) id n t d ≡ rendered (setting_of k f) (b.next + 1) n u d =
    λ i. rendered (setting i) (next i + 1) n (standing i) d in
    let finished : IsFinished (rendered (setting_of k f) (b.next + 1) n u d).end =
    subst (λ (r : Run World). IsFinished r.end) there (subst IsFinished (isolated None).1 ra.2.finished.1) in
    let front : Renders ra.0 a.before a.after a.failed a.fails (under e.fuel (rendered (setting_of k e) id n t c)) = ra.2.renders n ra.2.finished.1 in
    let back : Renders rb.0 b.before b.after b.failed b.fails (under e.fuel (rendered (setting_of k e) id n t d)) =
    subst (λ (r : Run World). Renders rb.0 b.before b.after b.failed b.fails r) (sym (λ i. under (fuel i) (there i))) (rb.2.renders n finished) in
    rendered_alike a b (under e.fuel (rendered (setting_of k e) id n t c)) (under e.fuel (rendered (setting_of k e) id n t d)) (isolated e.fuel)
    (whole_render a.outcome ra.0 a.before a.after a.failed a.fails (under e.fuel (rendered (setting_of k e) id n t c)) ra.1 ua.unwanted front)
    (whole_render b.outcome rb.0 b.before b.after b.failed b.fails (under e.fuel (rendered (setting_of k e) id n t d)) rb.1 ub.unwanted back)
    (quiet_render a.outcome ra.0 a.before a.after a.failed a.fails (under e.fuel (rendered (setting_of k e) id n t c)) ra.1 ua.unwanted front)
    (quiet_render b.outcome rb.0 b.before b.after b.failed b.fails (under e.fuel (rendered (setting_of k e) id n t d)) rb.1 ub.unwanted back)

-- names that are told
record IsTold (k : Brought) (as_json : Bool) (e : Registry) (t : Standing) (outcome : Outcome) (before after : Option (List ℕ)) (failed fails : ℕ)
    : Type 0 where
  pub done : outcome ≡ Done
  pub names : BTreeSet (String Global)
  pub has : HasNames k e t names
  pub text : Appends before after (told_names as_json names.keys)
  pub quiet : fails ≡ failed

told : (k : Brought) (as_json : Bool) (e : Registry) (t : Standing) (outcome : Outcome) (before after : Option (List ℕ)) (failed fails : ℕ)
    → TellsNames k as_json e t outcome before after failed fails → ¬ TellsWant outcome → IsTold k as_json e t outcome before after failed fails
told k as_json e t Done before after failed fails tells room =
    record { done = refl; names = tells.0; has = tells.1; text = tells.2; quiet = tells.3 }
told k as_json e t (Render kinds) before after failed fails tells room = absurd (room tells.2)
told k as_json e t (Context kinds) before after failed fails tells room = absurd tells
told k as_json e t (Template kinds) before after failed fails tells room = absurd (room (inr tells.0))

-- two tellings of the names of one template
tells_alike : (k : Brought) (as_json : Bool) (served : Served) (request : Request) (additions : List (List ℕ × List ℕ)) (a b : Answer) (e f : Registry)
    → IsMade served request additions a.next e → IsMade served request additions b.next f → a.next ≡ b.next → (t u : Standing) → t ≡ u
    → IsTold k as_json e t a.outcome a.before a.after a.failed a.fails → IsTold k as_json f u b.outcome b.before b.after b.failed b.fails → AreAlike a b
tells_alike k as_json served request additions a b e f made more next t u standing one other =
    let setting = one_setting k served request additions a.next e f made (of_number served request additions f (sym next) more) in
    let bytes : told_names as_json one.names.keys ≡ told_names as_json other.names.keys =
    same_told as_json one.names other.names one.has.0 other.has.0
    (same_sets (setting_of k e) (setting_of k f) t u setting standing one.names other.names one.has.1 other.has.1) in
    record {
      end = one.done ∙ sym other.done;
      write = (
        told_names as_json one.names.keys,
        record {
          first = one.text;
          second = subst (λ (text : List ℕ). Appends b.before b.after text) (sym bytes) other.text;
          quiet = one.quiet;
          quiet_too = other.quiet;
        },
      );
    }

-- what is done with the main template
performed_alike : IsolatesNames → (served : Served) → AskNoNames served.brought.callables
    → (command : Command) (request : Request) (additions : List (List ℕ × List ℕ)) (given : Given) (a b : Answer)
    → Performed served command request additions given a.next a.outcome a.before a.after a.failed a.fails
    → Performed served command request additions given b.next b.outcome b.before b.after b.failed b.fails
    → a.next ≡ b.next → IsUnwanting a → IsUnwanting b → AreAlike a b
performed_alike isolates served ask asked.Render request additions given a b p q next ua ub =
    let main = string_bytes request.main in
    let template = one_template served main p.2.0 q.2.0 p.2.2.0 q.2.2.0 (same_Some _ _ (sym p.2.1 ∙ q.2.1)) p.2.2.1 q.2.2.1 in
    let one = p.2.2.2 in
    let other = q.2.2.2 in
    renders_alike isolates served.brought ask served request additions a b p.0 q.0 p.1 q.1 p.2.2.0 q.2.2.0 (template_imports served main p.2.0 p.2.2.0 p.2.2.1) template
    one.0 other.0
    (agree_everywhere given (definitions_of request) one.0 other.0 one.1 other.1) one.2 other.2 next ua ub
performed_alike isolates served ask asked.Names request additions given a b p q next ua ub =
    let main = string_bytes request.main in
    let template = one_template served main p.2.0 q.2.0 p.2.2.0 q.2.2.0 (same_Some _ _ (sym p.2.1 ∙ q.2.1)) p.2.2.1 q.2.2.1 in
    tells_alike served.brought served.names_as_json served request additions a b p.0 q.0 p.1 q.1 next p.2.2.0 q.2.2.0 template
    (told served.brought served.names_as_json p.0 p.2.2.0 a.outcome a.before a.after a.failed a.fails p.2.2.2 ua.unwanted)
    (told served.brought served.names_as_json q.0 q.2.2.0 b.outcome b.before b.after b.failed b.fails q.2.2.2 ub.unwanted)

pub one_answer : IsolatesNames → (served : Served) → AskNoNames served.brought.callables → IsUsable served.syntax → (request : Request) (additions : List (List ℕ × List ℕ))
    (given : Given) (a b : Answer) → AnswersWith served request additions given a.next a.outcome a.before a.after a.failed a.fails
    → AnswersWith served request additions given b.next b.outcome b.before b.after b.failed b.fails → a.next ≡ b.next
    → IsUnwanting a → IsUnwanting b → AreAlike a b
one_answer isolates served ask usable request additions given a b (inl p) (inl q) same_id ua ub =
    let same = one_refusal request.command given p.0 q.0 p.2 q.2 (unwanted a ua (Context p.0) p.1) (unwanted b ub (Context q.0) q.1) in
    nothing_written a b (p.1 ∙ ap (λ (ks : List ErrorKind). Context ks) same ∙ sym q.1) p.3 q.3
one_answer isolates served ask usable request additions given a b (inl p) (inr (had, q)) same_id ua ub =
    absurd (refused_or_had request.command given (definitions_of request) p.0 had.0 p.2 (unwanted a ua (Context p.0) p.1) had.1)
one_answer isolates served ask usable request additions given a b (inr (had, p)) (inl q) same_id ua ub =
    absurd (refused_or_had request.command given (definitions_of request) q.0 had.0 q.2 (unwanted b ub (Context q.0) q.1) had.1)
one_answer isolates served ask usable request additions given a b (inr (had, inl p)) (inr (has, inl q)) same_id ua ub =
    let room = unwanted a ua (Template p.0) p.1 in
    let more = unwanted b ub (Template q.0) q.1 in
    let same = same_refused served usable additions p.0 q.0 (refuses served additions a.next p.0 p.2 ua.first_id room) (refuses served additions b.next q.0 q.2 ub.first_id more) room more in
    nothing_written a b (p.1 ∙ ap (λ (ks : List ErrorKind). Template ks) same ∙ sym q.1) p.3 q.3
one_answer isolates served ask usable request additions given a b (inr (had, inl p)) (inr (has, inr q)) same_id ua ub =
    let room = unwanted a ua (Template p.0) p.1 in
    absurd (all_or_refused served usable additions p.0 (refuses served additions a.next p.0 p.2 ua.first_id room) room q.1)
one_answer isolates served ask usable request additions given a b (inr (had, inr p)) (inr (has, inl q)) same_id ua ub =
    let room = unwanted b ub (Template q.0) q.1 in
    absurd (all_or_refused served usable additions q.0 (refuses served additions b.next q.0 q.2 ub.first_id room) room p.1)
one_answer isolates served ask usable request additions given a b (inr (had, inr (first, all, inl p))) (inr (has, inr (next, each, inl q))) same_id ua ub =
    nothing_written a b (p.0 ∙ sym q.0) p.2 q.2
one_answer isolates served ask usable request additions given a b (inr (had, inr (first, all, inl p))) (inr (has, inr (next, each, inr q))) same_id ua ub =
    absurd (none-some _ (sym p.1 ∙ q.2.1))
one_answer isolates served ask usable request additions given a b (inr (had, inr (first, all, inr p))) (inr (has, inr (next, each, inl q))) same_id ua ub =
    absurd (none-some _ (sym q.1 ∙ p.2.1))
one_answer isolates served ask usable request additions given a b (inr (had, inr (first, all, inr p))) (inr (has, inr (next, each, inr q))) same_id ua ub =
    performed_alike isolates served ask request.command request additions given a b p q same_id ua ub
