use Rattle.std.proofs.Common.{string_bytes, subst, sym}
use Rattle.template_sessions.specs.Openings.{Opens}
use Rattle.template_sessions.specs.declared.session.Session.{Session}
use Rattle.template_c.proofs.Exports.{opened_at, refused_at}
use Rattle.template_c.proofs.dalecolander_open.Goals as goal

pub returns-in-Ok : goal.returns-in-Ok
returns-in-Ok c =
    let opens = subst (λ (s : Session). Opens c.args.request.now s) (sym c.of.ensures) c.in-Ok.ensures.opened in
    record { opens = opened_at c.args.request.now c.args.out.now c.of-in-Ok.result.session c.of.result.value c.of-in-Ok.ensures opens }

pub returns-in-Err : goal.returns-in-Err
returns-in-Err c = record {
  opens = refused_at c.args.request.now c.args.out.now c.write_reply.new.out (string_bytes c.in-Err.reply.text) c.write_reply.new.written
      c.in-Err.reply.status c.write_reply.result c.args.handle.now.session c.requires.closed c.in-Err.ensures.refused
      c.write_reply.ensures.status c.write_reply.ensures.laid c.write_reply.ensures.written;
}
