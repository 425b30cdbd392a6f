use Rattle.std.proofs.Common.{arith, rules, sym, ◌∙◌}
use Rattle.std.proofs.lemmas.List.{take_rest}
use Rattle.slate_text.proofs.WordLemmas.{goes_on, escapes}
use Rattle.slate_text.proofs.words.unescape.Goals as goal

pub loop-rest-preserved-in-37-1 : goal.loop-rest-preserved-in-37-1
loop-rest-preserved-in-37-1 c =
    escapes c.loop-rest.bytes.items c.loop-rest.rest.now _ c.push.new.self.items _ c.in-Some.byte (omega arith) (omega arith) (search rules) (take_rest c.loop-rest.rest.now 3) c.in_ok-push.ensures.items c.loop-rest.invariant

pub loop-rest-preserved : goal.loop-rest-preserved
loop-rest-preserved c =
    goes_on c.loop-rest.bytes.items c.loop-rest.rest.now _ c.push-then-stands_alone.new.self.items _ (omega arith) (sym c.stands_alone.ensures ∙ c.if-stands_alone.true) (take_rest c.loop-rest.rest.now 1) c.in_ok-push-2.ensures.items c.loop-rest.invariant
