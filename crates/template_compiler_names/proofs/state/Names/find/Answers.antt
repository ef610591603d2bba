use Rattle.template_compiler_names.specs.Names.{joined}
use Rattle.std.proofs.Common.{Bor, ℕ, List, ◌||◌, refl, sym, ap, ◌∙◌, bytes_eq}
use Rattle.std.specs.BTreeSet.{contains_text}
use Rattle.template_compiler_names.specs.Among.{is_among}
use Rattle.template_compiler_names.specs.Dotted.{fields_of}
use Rattle.template_compiler_names.specs.Goes.{knows_further, tells}
use Rattle.template_compiler_names.proofs.Laws.{goes_nowhere, on_ok}
use Rattle.template_compiler_names.proofs.Sets.{dotted, more, one_beside}
use Rattle.template_compiler_names.proofs.state.Names.find.Goals as goal

pub returns-then-not-self : goal.returns-then-not-self
returns-then-not-self c = on_ok c.find_plain.result (λ goes. goes (fields_of c.args.behind.now)) c.find_plain.ensures

pub returns : goal.returns
returns c =
    let old = c.args.self.now in
    let id = c.args.name.now in
    let fields = fields_of c.args.behind.now in
    let still = goes_nowhere old in
    let absent = ap (λ (names : List (Bor (List ℕ))). is_among names id) (sym c.deref.ensures.value) ∙ sym c.is_among.ensures ∙ c.if-is_among.false in
    let fresh = ap (λ b. b || knows_further old id) absent ∙ sym c.knows_further.ensures ∙ c.if-knows_further.false in
    on_ok c.add_name.result (λ added. record {
      found = λ q.
          more (tells old q) _ (bytes_eq (joined id fields) q) _
          (one_beside (is_among old.first.items q) (contains_text old.found q) (contains_text c.add_name.new.names q) (bytes_eq (joined id fields) q)
          (added q ∙ ap (λ (bs : List ℕ). contains_text old.found q || bytes_eq bs q) (c.deref-2.ensures ∙ c.in_ok-join.ensures)))
          (dotted old id fields c.if-not-self.false fresh q);
      knows = still.knows;
      few = still.few;
      outer = refl;
      nested = refl;
    }) c.add_name.ensures.added
