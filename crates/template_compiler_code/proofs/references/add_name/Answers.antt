use Rattle.std.proofs.Common.{◌≡◌, false, true, ◌∙◌}
use Rattle.template_compiler_code.specs.References.{is_among}
use Rattle.template_compiler_code.proofs.Behind.{texts, found-among, name-again, name-first, texts-push}
use Rattle.template_compiler_code.proofs.references.add_name.Goals as goal

pub returns-then-is_among-clause-added : goal.returns-then-is_among-clause-added
returns-then-is_among-clause-added c =
    let names = c.args.names.now.items in
    let name = c.in-Some.name.now in
    let among : is_among name (texts names) ≡ true =
    found-among name names c.deref.result.now c.is_among.result c.deref.ensures.value c.is_among.ensures ∙ c.if-is_among.true in
    name-again (texts names) name _ c.in-Some.ensures among

pub returns-clause-added : goal.returns-clause-added
returns-clause-added c =
    let names = c.args.names.now.items in
    let name = c.in-Some.name.now in
    let missing : is_among name (texts names) ≡ false =
    found-among name names c.deref.result.now c.is_among.result c.deref.ensures.value c.is_among.ensures ∙ c.if-is_among.false in
    texts-push names c.push.new.self.items c.in-Some.name c.in_ok-push.ensures.items ∙
    name-first (texts names) name _ c.in-Some.ensures missing
