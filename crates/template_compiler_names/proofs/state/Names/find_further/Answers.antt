use Rattle.std.proofs.Common.{◌||◌, inl, inr, refl, sym, ap, ◌∙◌, bytes_eq}
use Rattle.std.specs.BTreeSet.{contains_text}
use Rattle.template_compiler_names.specs.Among.{is_among}
use Rattle.template_compiler_names.specs.Goes.{knows_further, tells}
use Rattle.template_compiler_names.proofs.Laws.{goes_nowhere, on_ok}
use Rattle.template_compiler_names.proofs.Sets.{alone, known_place, more, one_beside, one_more}
use Rattle.template_compiler_names.proofs.state.Names.find_further.Goals as goal

pub returns-then-knows_further : goal.returns-then-knows_further
returns-then-knows_further c = λ fields.
    let old = c.args.self.now in
    let still = goes_nowhere old in
    let known = ap (λ b. b || knows_further old c.args.name.now) c.requires.new ∙ sym c.knows_further.ensures ∙ c.if-knows_further.true in
    record {
      found = λ q. (λ h. inl h, λ h. elim h [ inl i ↦ i | inr f ↦ absurd (known_place old c.args.name.now fields known q f) ]);
      knows = still.knows;
      few = still.few;
      outer = refl;
      nested = refl;
    }

pub returns-then-len-lt-FEW : goal.returns-then-len-lt-FEW
returns-then-len-lt-FEW c = λ fields.
    let old = c.args.self.now in
    let id = c.args.name.now in
    let still = goes_nowhere old in
    let fresh = ap (λ b. b || knows_further old id) c.requires.new ∙ sym c.knows_further.ensures ∙ c.if-knows_further.false in
    record {
      found = λ q. more (tells old q) _ (bytes_eq id q) _
          (one_more old.first.items c.push.new.self.items c.args.name (contains_text old.found q) q c.in_ok-push.ensures.items) (alone old id fields c.requires.plain fresh q);
      knows = still.knows;
      few = still.few;
      outer = refl;
      nested = refl;
    }

pub returns : goal.returns
returns c =
    let old = c.args.self.now in
    let id = c.args.name.now in
    let still = goes_nowhere old in
    let fresh = ap (λ b. b || knows_further old id) c.requires.new ∙ sym c.knows_further.ensures ∙ c.if-knows_further.false in
    on_ok c.add_name.result (λ added fields. record {
      found = λ q. more (tells old q) _ (bytes_eq id q) _
          (one_beside (is_among old.first.items q) (contains_text old.found q) (contains_text c.add_name.new.names q) (bytes_eq id q) (added q)) (alone old id fields c.requires.plain fresh q);
      knows = still.knows;
      few = still.few;
      outer = refl;
      nested = refl;
    }) c.add_name.ensures.added
