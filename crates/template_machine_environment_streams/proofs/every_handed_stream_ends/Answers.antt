use Rattle.std.proofs.Common.{subst}
use Rattle.template_compiler_code.specs.Listing.{code_in}
use Rattle.template_compiler_code.specs.declared.listing.Instructions.{Instructions}
use Rattle.template_compiler_code_shapes.specs.Checked.{kind_in, stream_in}
use Rattle.template_compiler_code_shapes.specs.Streams.{IsGood}
use Rattle.template_machine_environment.specs.Extras.{user_answers}
use Rattle.template_machine_environment_streams.proofs.Ending.{fresh_reached, handed_ends, later_reached, own_leaves}
use Rattle.template_machine_environment_streams.proofs.Rendered.{listed_there, rendered_reached}
use Rattle.template_machine_environment_streams.proofs.every_handed_stream_ends.Goals as goal

pub returns : goal.returns
returns g c =
    let state = c.args.state.now in
    let stream = c.args.stream.now in
    let says = (user_answers g.E.Callable.Callable.answer g.E.Method.UnknownMethod.answer g.E.Formatter.Formatter.answer g.E.Join.PathJoin.answer) in
    let listed = listed_there state c.env.result.now c.env.ensures c.names_list_all.ensures in
    let good : IsGood (kind_in stream) (code_in (stream_in stream)) =
    subst (λ (read : Instructions). IsGood (kind_in stream) (code_in read)) c.instructions-code.ensures.same c.instructions-code.ensures.good in
    record {
      ends = handed_ends says state stream c.templates_are_accepted.ensures c.every_stream_ends.ensures listed (kind_in stream) good;
      own = own_leaves says state stream c.templates_are_accepted.ensures c.every_stream_ends.ensures listed (kind_in stream) good c.every_stream_leaves.ensures;
      fresh = fresh_reached says state stream;
      rendered = λ left. rendered_reached says state c.templates_are_accepted.ensures c.every_stream_ends.ensures listed left;
      later = later_reached says state stream c.templates_are_accepted.ensures c.every_stream_ends.ensures listed (kind_in stream) good;
    }
