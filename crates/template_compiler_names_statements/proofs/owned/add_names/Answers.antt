use Rattle.std.proofs.Common.{◌∙◌, ◌||◌, String, Global, string_bytes}
use Rattle.std.specs.BTreeSet.{contains_text}
use Rattle.std.proofs.lemmas.Map.Iter.{rest_more}
use Rattle.template_compiler_names_statements.specs.Found.{AddsSome}
use Rattle.template_compiler_names.specs.Among.{just}
use Rattle.template_compiler_names_statements.proofs.Adding.{kept_more, on_err, one_added, some_added}
use Rattle.template_compiler_names_statements.proofs.owned.add_names.Goals as goal

pub loop-name-preserved : goal.loop-name-preserved
loop-name-preserved c =
    let left = rest_more (λ (x : String Global). x) c.loop-name.name-iterator c.next.new.self c.next.result c.in-Some.name c.in-Some.is c.next.ensures.steps in
    record {
      left = λ q. one_added c.loop-name.name-iterator c.in-Some.name c.next.new.self (contains_text c.loop-name.names q) (contains_text c.add_text.new.names q)
          (contains_text c.args.names.now q || contains_text c.args.used q) q left (c.in_ok-add_text.ensures.added q) (c.loop-name.invariant.left q);
      kept = λ q h. kept_more (contains_text c.loop-name.names q) (contains_text c.add_text.new.names q) (just (string_bytes c.in-Some.name) q)
          (c.in_ok-add_text.ensures.added q) (c.loop-name.invariant.kept q h);
    }

pub returns-in_err-add_text-clause-partial : goal.returns-in_err-add_text-clause-partial
returns-in_err-add_text-clause-partial c =
    on_err (AddsSome (contains_text c.args.used) c.args.names.now c.add_text.new.names) c.from_residual.result record {
      kept = λ q h. c.in_err-add_text.ensures.unchanged q ∙ c.loop-name.invariant.kept q h;
      others = λ q h. some_added (contains_text c.loop-name.names q) (contains_text c.add_text.new.names q) (contains_text record { keys = c.loop-name.name-iterator } q)
          (contains_text c.args.names.now q || contains_text c.args.used q) (c.in_err-add_text.ensures.unchanged q) (c.loop-name.invariant.left q) h;
    }
