use Rattle.std.proofs.Common.{◌≡◌, ◌+◌, ℕ, List, ◌++◌, take, length, arith, string_bytes, sym, ap, subst, ◌∙◌, append_assoc}
use Rattle.std.specs.Str.{IsUtf8}
use Rattle.std.proofs.lemmas.Str.{IsUtf8-append}
use Rattle.template_values_print.proofs.PieceLemmas.{Begins-refl}
use Rattle.template_values_print.proofs.html.put_piece.Goals as goal

pub returns-then-piece-used-clause-waits : goal.returns-then-piece-used-clause-waits
returns-then-piece-used-clause-waits c =
    let held : List ℕ = take c.args.used c.args.block.now in
    let put : take (c.args.used + length c.args.piece.now) c.put_bytes.new.block ≡ held ++ c.args.piece.now =
    subst (λ (b : List ℕ). take (c.args.used + length b) c.put_bytes.new.block ≡ held ++ b) c.as_bytes.ensures.value c.put_bytes.ensures.put in
    record {
      begins = Begins-refl (string_bytes c.args.out.now);
      room = omega arith;
      text = subst IsUtf8 (sym put) (IsUtf8-append held c.args.piece.now c.requires.text c.utf8.piece);
      done = ap (λ (t : List ℕ). string_bytes c.args.out.now ++ t) put ∙ sym (append_assoc (string_bytes c.args.out.now) held c.args.piece.now);
    }
