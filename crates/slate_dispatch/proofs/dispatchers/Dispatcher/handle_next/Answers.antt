use Rattle.std.proofs.Common.{◌≡◌, sym, ◌∙◌, ap, Some, None, refl, w64, to_z, of_z}
use Rattle.std.proofs.lemmas.Int.{to_z-of_z}
use Rattle.slate_dispatch.specs.Turns.{answer_of}
use Rattle.slate_dispatch.proofs.dispatchers.Dispatcher.handle_next.Goals as goal
use Rattle.slate_dispatch.proofs.dispatchers.Dispatcher.handle_next.Goals.{in-Ok, in-Err}

pub returns-in_default-clause-acts : goal.returns-in_default-clause-acts
returns-in_default-clause-acts g c =
    let moment_back : to_z w64 (of_z w64 c.args.moment) ≡ c.args.moment = to_z-of_z w64 _ c.ranges.moment in
    (None, c.next_message.new.self, rw moment_back at c.in_default.ensures.takes, (refl, refl))

pub returns-clause-acts : goal.returns-clause-acts
returns-clause-acts g c =
    let moment_back : to_z w64 (of_z w64 c.args.moment) ≡ c.args.moment = to_z-of_z w64 _ c.ranges.moment in
    let answer : c.match-handle.result ≡ answer_of c.handle.result =
    elim c.match-handle.branch [
      | in-Ok w ↦ w.result-is ∙ sym (ap answer_of w.in-Ok.is)
      | in-Err w ↦ w.result-is ∙ sym (ap answer_of w.in-Err.is)
    ] in (
      Some c.in-Some.message,
      _,
      rw (moment_back, ← c.self.view_is) at c.in-Some.ensures.takes,
      (c.handle.result, record { step = c.handle.ensures.step; reported = c.handle.ensures.answer }, answer, refl),
    )
