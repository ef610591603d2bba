use Rattle.std.proofs.Common.{ℕ, List, codes, ◌∙◌, sym, false}
use Rattle.std.specs.BTreeSet.{contains_text}
use Rattle.std.proofs.lemmas.Map.Text.{btree_set_updates_text}
use Rattle.template_compiler_tree.specs.View.{expressions_in}
use Rattle.template_compiler_tree_parts.specs.Listed.{statements_in}
use Rattle.template_compiler_names.specs.Enclosed.{used_of_macro, used_in, without}
use Rattle.template_compiler_names.specs.Names.{is_stored_everywhere}
use Rattle.template_compiler_names.proofs.Enclosing.{encloses_used}
use Rattle.template_compiler_names_closures.proofs.Alone.{told_alone}
use Rattle.template_compiler_names_closures.proofs.Declared.{enclosed_of}
use Rattle.template_compiler_names_closures.proofs.Ordered.{one_list}
use Rattle.template_compiler_names_closures.proofs.closures.find_macro_uses.Goals as goal

pub returns : goal.returns
returns c =
    let v = c.args.declared.now in
    let arguments = expressions_in v.args.items in
    let defaults = expressions_in v.defaults.items in
    let body = statements_in v.body.items in
    let found = c.in_ok-enclosed.enclosed in
    let used = λ (q : List ℕ). c.in_ok-enclosed.ensures q ∙
    told_alone c.in_ok-names.names c.use_declared.new.names c.in_ok-names.ensures.alone c.in_ok-names.ensures.found c.in_ok-names.ensures.known c.in_ok-use_declared.ensures q in
    let names = λ (q : List ℕ). btree_set_updates_text (codes "caller") found c.remove-caller.new.self false c.remove-caller.ensures.updates q ∙
    enclosed_of arguments defaults body q (contains_text found q) (used q) in
    record {
      names = names;
      listed = one_list c.remove-caller.new.self (without is_stored_everywhere (used_of_macro arguments defaults (used_in body))) c.remove-caller.ensures.ordered
          (λ q. names q ∙ sym (encloses_used arguments defaults body q));
      caller = c.remove-caller.ensures.test ∙ used (codes "caller");
    }
