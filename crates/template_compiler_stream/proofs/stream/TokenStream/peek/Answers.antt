use Rattle.std.proofs.Common.{◌∙◌}
use Rattle.template_compiler_stream.proofs.Left.{next_some, next_end, next_nothing}
use Rattle.template_compiler_stream.proofs.Spans.{count_within, left_at, next_at}
use Rattle.template_compiler_stream.proofs.stream.TokenStream.peek.Goals as goal

pub returns-in-Some-clause-shown : goal.returns-in-Some-clause-shown
returns-in-Some-clause-shown c =
    let s = c.self.inside in
    let found = c.in-Some.ensures.lookup in (
      _,
      left_at _ _ _ _ c.self.view_is ∙
          next_some s.tokens.items c.deref.result.now s.place c.in-Some.field-0.now s.fault c.deref.ensures.value found.3.0 found.1,
    )

pub returns-in-Some-clause-span : goal.returns-in-Some-clause-span
returns-in-Some-clause-span c =
    let s = c.self.inside in
    let found = c.in-Some.ensures.lookup in
    next_at _ s.tokens.items c.deref.result.now s.place c.in-Some.field-0.now s.fault c.self.view_is c.deref.ensures.value found.3.0 found.1

pub returns-in-Some-fault-clause-shown : goal.returns-in-Some-fault-clause-shown
returns-in-Some-fault-clause-shown c =
    let s = c.self.inside in
    left_at _ _ _ _ c.self.view_is ∙
    next_end s.tokens.items c.deref.result.now s.place s.fault _ c.deref.ensures.value c.in-None.ensures.lookup.3 c.in-Some-fault.is

pub returns-in-None-fault-clause-shown : goal.returns-in-None-fault-clause-shown
returns-in-None-fault-clause-shown c =
    let s = c.self.inside in
    left_at _ _ _ _ c.self.view_is ∙
    next_nothing s.tokens.items c.deref.result.now s.place s.fault c.deref.ensures.value c.in-None.ensures.lookup.3 c.in-None-fault.is

pub returns-in-Some-clause-counted : goal.returns-in-Some-clause-counted
returns-in-Some-clause-counted c = count_within _ _ _ _ c.self.view_is

pub returns-in-Some-fault-clause-counted : goal.returns-in-Some-fault-clause-counted
returns-in-Some-fault-clause-counted c = count_within _ _ _ _ c.self.view_is

pub returns-in-None-fault-clause-counted : goal.returns-in-None-fault-clause-counted
returns-in-None-fault-clause-counted c = count_within _ _ _ _ c.self.view_is
