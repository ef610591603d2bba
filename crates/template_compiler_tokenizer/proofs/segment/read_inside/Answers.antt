use Rattle.template_compiler_tokenizer.specs.Inner.{standing_in}
use Rattle.template_compiler_tokenizer.proofs.Inner.{ends_behind, refused_end, refused_there, stands_behind, holds_behind, further_behind, fewer_behind}
use Rattle.template_compiler_tokenizer.proofs.segment.read_inside.Goals as goal

pub returns-in-Ok : goal.returns-in-Ok
returns-in-Ok c =
    let x = c.args.end.syntax.now in
    let s = c.args.source.now in
    let k = c.args.end.kind in
    let at = c.tokens.at in
    ends_behind x s k at c.in-End.place c.in-End.next c.in-End.last c.tokens.invariant.stands c.in-End.ensures c.args.tokens.now.items
    c.tokens.tokens.items c.put_end.new.tokens.items (standing_in k c.args.at.now) c.tokens.invariant.held c.tokens.invariant.further
    c.put_end.new.at c.in-Ok.ensures

pub returns-in-Err : goal.returns-in-Err
returns-in-Err c =
    refused_end c.args.end.syntax.now c.args.source.now c.args.end.kind c.tokens.at c.args.tokens.now.items c.tokens.tokens.items
    c.put_end.new.tokens.items (standing_in c.args.end.kind c.args.at.now) c.tokens.invariant.held c.in-Err.refused c.in-Err.ensures

pub tokens-smaller-in-Ok-read_name : goal.tokens-smaller-in-Ok-read_name
tokens-smaller-in-Ok-read_name c =
    let x = c.args.end.syntax.now in
    let k = c.args.end.kind in
    let read = c.in-Ok-read_name.ensures in
    fewer_behind x c.args.source.now k c.tokens.at c.in-Token.place c.tokens.invariant.stands c.in-Token.ensures c.args.tokens.now.items
    c.tokens.tokens.items c.read_name.new.tokens.items (standing_in k c.args.at.now) c.tokens.invariant.held c.read_name.new.at
    read.0 read.1 read.2 read.3 c.tokens.invariant.further

pub tokens-smaller : goal.tokens-smaller
tokens-smaller c =
    let x = c.args.end.syntax.now in
    let k = c.args.end.kind in
    let read = c.in-Ok-read_token.ensures in
    fewer_behind x c.args.source.now k c.tokens.at c.in-Token.place c.tokens.invariant.stands c.in-Token.ensures c.args.tokens.now.items
    c.tokens.tokens.items c.read_token.new.tokens.items (standing_in k c.args.at.now) c.tokens.invariant.held c.read_token.new.at
    read.0 read.1 read.2 read.3 c.tokens.invariant.further

pub tokens-preserved-in-Ok-read_name : goal.tokens-preserved-in-Ok-read_name
tokens-preserved-in-Ok-read_name c =
    let x = c.args.end.syntax.now in
    let s = c.args.source.now in
    let k = c.args.end.kind in
    let at = c.tokens.at in
    let place = c.in-Token.place in
    let old = c.args.tokens.now.items in
    let mid = c.tokens.tokens.items in
    let more = c.read_name.new.tokens.items in
    let first = standing_in k c.args.at.now in
    let stands = c.tokens.invariant.stands in
    let found = c.in-Token.ensures in
    let held = c.tokens.invariant.held in
    let further = c.tokens.invariant.further in
    let next = c.read_name.new.at in
    let read = c.in-Ok-read_name.ensures in
    record {
      stands = stands_behind x s k at place stands found old mid more first held next read.0 read.1 read.2 read.3 further;
      held = holds_behind x s k at place stands found old mid more first held next read.0 read.1 read.2 read.3 further;
      further = further_behind x s k at place stands found old mid more first held next read.0 read.1 read.2 read.3 further;
    }

pub tokens-preserved : goal.tokens-preserved
tokens-preserved c =
    let x = c.args.end.syntax.now in
    let s = c.args.source.now in
    let k = c.args.end.kind in
    let at = c.tokens.at in
    let place = c.in-Token.place in
    let old = c.args.tokens.now.items in
    let mid = c.tokens.tokens.items in
    let more = c.read_token.new.tokens.items in
    let first = standing_in k c.args.at.now in
    let stands = c.tokens.invariant.stands in
    let found = c.in-Token.ensures in
    let held = c.tokens.invariant.held in
    let further = c.tokens.invariant.further in
    let next = c.read_token.new.at in
    let read = c.in-Ok-read_token.ensures in
    record {
      stands = stands_behind x s k at place stands found old mid more first held next read.0 read.1 read.2 read.3 further;
      held = holds_behind x s k at place stands found old mid more first held next read.0 read.1 read.2 read.3 further;
      further = further_behind x s k at place stands found old mid more first held next read.0 read.1 read.2 read.3 further;
    }

pub returns-in-Err-read_name : goal.returns-in-Err-read_name
returns-in-Err-read_name c =
    refused_there c.args.end.syntax.now c.args.source.now c.args.end.kind c.tokens.at c.in-Token.place c.tokens.invariant.stands c.in-Token.ensures
    c.args.tokens.now.items c.tokens.tokens.items c.read_name.new.tokens.items (standing_in c.args.end.kind c.args.at.now) c.tokens.invariant.held
    c.in-Err-read_name.refused c.in-Err-read_name.ensures

pub returns-in-Err-read_token : goal.returns-in-Err-read_token
returns-in-Err-read_token c =
    refused_there c.args.end.syntax.now c.args.source.now c.args.end.kind c.tokens.at c.in-Token.place c.tokens.invariant.stands c.in-Token.ensures
    c.args.tokens.now.items c.tokens.tokens.items c.read_token.new.tokens.items (standing_in c.args.end.kind c.args.at.now) c.tokens.invariant.held
    c.in-Err-read_token.refused c.in-Err-read_token.ensures
