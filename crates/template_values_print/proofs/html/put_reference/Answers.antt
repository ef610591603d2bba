use Rattle.std.proofs.Common.{List, ℕ, ◌++◌, [], take, sym, ap, subst, ◌∙◌, append_assoc, append-nil, arith, string_bytes}
use Rattle.std.specs.Str.{IsUtf8}
use Rattle.std.proofs.lemmas.Str.{IsUtf8-append}
use Rattle.template_values_print.proofs.PieceLemmas.{Begins-refl, IsUtf8-nil}
use Rattle.template_values_print.proofs.html.put_reference.Goals as goal

pub push_block-requires : goal.push_block-requires
push_block-requires c = subst IsUtf8 (sym c.put-used.ensures.put) (IsUtf8-append (take c.args.used c.args.block.now) _ c.requires.text c.requires.reference)

pub returns-then-used-clause-waits : goal.returns-then-used-clause-waits
returns-then-used-clause-waits c =
    let held : List ℕ = take c.args.used c.args.block.now in
    let reference : List ℕ = take c.args.reference.length c.args.reference.padded.now in
    record {
      begins = Begins-refl (string_bytes c.args.out.now);
      room = omega arith;
      text = subst IsUtf8 (sym c.put-used.ensures.put) (IsUtf8-append held reference c.requires.text c.requires.reference);
      done = ap (λ (t : List ℕ). string_bytes c.args.out.now ++ t) c.put-used.ensures.put ∙ sym (append_assoc (string_bytes c.args.out.now) held reference);
    }

pub returns-clause-waits : goal.returns-clause-waits
returns-clause-waits c =
    let held : List ℕ = take c.args.used c.args.block.now in
    let reference : List ℕ = take c.args.reference.length c.args.reference.padded.now in
    let waits : List ℕ = take c.put-used.result c.put-used.new.block in
    let wrote = c.in_ok-push_block.ensures in
    record {
      begins = (waits ++ [], wrote);
      room = omega arith;
      text = IsUtf8-nil;
      done = append-nil _ ∙ wrote ∙ sym (append_assoc (string_bytes c.args.out.now) waits []) ∙ append-nil _
          ∙ ap (λ (t : List ℕ). string_bytes c.args.out.now ++ t) c.put-used.ensures.put ∙ sym (append_assoc (string_bytes c.args.out.now) held reference);
    }
