use Rattle.std.proofs.Common.{◌∙◌, codes, inl, inr, refl, rules}
use Rattle.std.specs.Str.Parse.{ExplainsUnsignedError, HasUnsignedDigitsIfOk, ParsesUnsigned}
use Rattle.clap.proofs.WalkLemmas.{one_text-rows}
use Rattle.clap.specs.Words.{found_of, one_of, rows_of}
use Rattle.template_program_words.specs.Refusals.{NamesNone, RefusesRender}
use Rattle.template_program_words.proofs.Matches.{ReadsNumber-cases, ReadsNumber-parsed, RefusesRender-definitions, RefusesRender-none, names_some}
use Rattle.template_program_words.proofs.found.render_words.Goals as goal

pub returns-clause-reads : goal.returns-clause-reads
returns-clause-reads c =
    let found = found_of c.args.matches.now in (
      rows_of found,
      refl,
      record {
        context = c.text.ensures;
        definitions = c.in_ok-definitions.ensures.defines;
        values = c.in_ok-definitions-2.ensures.defines;
        data_files = c.in_ok-values.ensures;
        float_texts = c.in_ok-float_texts.ensures.reads;
        expression = c.text-2.ensures;
        as_json = c.is_flagged.ensures;
        fuel = ReadsNumber-cases 64 (one_of (codes "fuel") (rows_of found)) c.get_one.result
            (λ e. c.get_one.ensures.none (one_text-rows found (codes "fuel") ∙ e))
            (λ t e. ReadsNumber-parsed 64
            (λ bs r. ParsesUnsigned 64 10 bs r × ExplainsUnsignedError 10 bs r × HasUnsignedDigitsIfOk bs r)
            (λ u r h. h.0) t c.get_one.result
            (c.get_one.ensures.value t (one_text-rows found (codes "fuel") ∙ e)));
        limit =
            let number = ReadsNumber-cases 16 (one_of (codes "limit") (rows_of found)) c.get_one-2.result
            (λ e. c.get_one-2.ensures.none (one_text-rows found (codes "limit") ∙ e))
            (λ t e. ReadsNumber-parsed 16
            (λ bs r. ParsesUnsigned 16 10 bs r × ExplainsUnsignedError 10 bs r × HasUnsignedDigitsIfOk bs r)
            (λ u r h. h.0) t c.get_one-2.result
            (c.get_one-2.ensures.value t (one_text-rows found (codes "limit") ∙ e))) in
            (c.get_one-2.result, number, c.unwrap_or.ensures);
        undefined = c.in_ok-undefined.ensures.reads;
        autoescape = c.in_ok-autoescape.ensures.reads;
        builtins = c.is_flagged-2.ensures;
        syntax = c.syntax_words.ensures;
        main = c.text-3.ensures;
        output = c.text-4.ensures;
        tells_where = c.is_flagged-3.ensures;
        templates = c.text-5.ensures;
        files = c.in_ok-values-2.ensures;
      },
    )

pub returns-in_err-undefined-clause-refuses : goal.returns-in_err-undefined-clause-refuses
returns-in_err-undefined-clause-refuses c =
    let rows = rows_of (found_of c.args.matches.now) in
    let fault = c.in_err-undefined.field-0.0 in
    let render : RefusesRender rows fault = RefusesRender-none _ rows fault (λ n. inl n) c.in_err-undefined.ensures.refuses in
    search rules

pub returns-in_err-autoescape-clause-refuses : goal.returns-in_err-autoescape-clause-refuses
returns-in_err-autoescape-clause-refuses c =
    let rows = rows_of (found_of c.args.matches.now) in
    let fault = c.in_err-autoescape.field-0.0 in
    let render : RefusesRender rows fault = RefusesRender-none _ rows fault (λ n. inr (inl n)) c.in_err-autoescape.ensures.refuses in
    search rules

pub returns-in_err-float_texts-clause-refuses : goal.returns-in_err-float_texts-clause-refuses
returns-in_err-float_texts-clause-refuses c =
    let rows = rows_of (found_of c.args.matches.now) in
    let fault = c.in_err-float_texts.field-0.0 in
    let render : RefusesRender rows fault = RefusesRender-none _ rows fault (λ n. inr (inr n)) c.in_err-float_texts.ensures.refuses in
    search rules

pub returns-in_err-definitions-clause-refuses : goal.returns-in_err-definitions-clause-refuses
returns-in_err-definitions-clause-refuses c =
    let rows = rows_of (found_of c.args.matches.now) in
    let fault = c.in_err-definitions.field-0.0 in
    let some : ¬ (NamesNone rows) = names_some rows _ _ _ c.in_ok-undefined.ensures.reads c.in_ok-autoescape.ensures.reads
    c.in_ok-float_texts.ensures.reads in
    let render : RefusesRender rows fault = RefusesRender-definitions rows _ fault some (λ l. inl l) c.in_err-definitions.ensures.refuses in
    search rules

pub returns-in_err-definitions-2-clause-refuses : goal.returns-in_err-definitions-2-clause-refuses
returns-in_err-definitions-2-clause-refuses c =
    let rows = rows_of (found_of c.args.matches.now) in
    let fault = c.in_err-definitions-2.field-0.0 in
    let some : ¬ (NamesNone rows) = names_some rows _ _ _ c.in_ok-undefined.ensures.reads c.in_ok-autoescape.ensures.reads
    c.in_ok-float_texts.ensures.reads in
    let render : RefusesRender rows fault = RefusesRender-definitions rows _ fault some (λ l. inr l) c.in_err-definitions-2.ensures.refuses in
    search rules
