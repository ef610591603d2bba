use Rattle.std.proofs.Common.{◌∙◌, Some, ap, string_bytes, sym}
use Rattle.template_c.proofs.Exports.{rendered_at}
use Rattle.template_c.proofs.dalecolander_render_in.Goals as goal

pub returns : goal.returns
returns c =
    let reply = c.reply_in-reply.result in
    let was = ap (λ h. h.session) (sym c.replace.ensures.value) ∙ c.into_raw.ensures
    ∙ ap Some (sym (c.deref_mut.ensures.value ∙ c.into_box-session.ensures)) in
    let is = c.of-2.ensures ∙ ap Some c.of.ensures in record {
      renders = rendered_at c.args.name.now c.args.context.now c.args.out.now c.write_reply.new.out (string_bytes reply.text) c.write_reply.new.written
          reply.status c.write_reply.result c.args.handle.now.session c.of-2.result.session c.deref_mut.result.now c.reply_in-reply.new.session
          was is c.reply_in-reply.ensures.kept c.reply_in-reply.ensures.replies
          c.write_reply.ensures.status c.write_reply.ensures.laid c.write_reply.ensures.written;
    }
