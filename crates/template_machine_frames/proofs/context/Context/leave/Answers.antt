-- The outermost frames are left.
use Rattle.std.proofs.Common.{◌∙◌, ap, List, reverse}
use Rattle.template_machine_meaning.specs.World.{Frame}
use Rattle.template_machine_frames.specs.Frames.{Scopes, put_back}
use Rattle.template_machine_frames.proofs.Outermost.{outermost_left}
use Rattle.template_machine_frames.proofs.context.Context.leave.Goals as goal

pub returns : goal.returns
returns c =
    let over : List Frame → Scopes = λ fs. record { frames = fs; closures = c.self.inside.closures; base = c.args.base; floor = c.args.floor; outer = c.args.outer } in
    ap (λ items. over (reverse items)) c.truncate.ensures.items ∙ ap over (outermost_left c.args.frames c.self.inside.stack.items)
    ∙ ap (put_back c.args.frames c.args.base c.args.floor c.args.outer) c.self.view_is
