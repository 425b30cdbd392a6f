use Rattle.std.proofs.Common.{◌≡◌, ap}
use Rattle.slate_live.proofs.readers.Reader.act.Goals as goal
use Rattle.slate_live.proofs.readers.Reader.act.Goals.{in-None-1, in-Some-1}

pub returns-then-ends_poll-clause-does : goal.returns-then-ends_poll-clause-does
returns-then-ends_poll-clause-does g c settings writes lawful =
    let state : c.match-self.self.state ≡ c.act-reply.new.follower = (elim c.match-self.branch [
      | in-Some-1 w ↦ ap (λ r. r.state) w.self-is
      | in-None-1 w ↦ ap (λ r. r.state) w.self-is
    ]) in
    rw state (rw (← c.self.view_is) (c.act-reply.ensures.does settings writes (record { operator_is = λ asks. lawful.operator_is (rw (← c.self.view_is) asks); extractor_is = λ asks. lawful.extractor_is (rw (← c.self.view_is) asks) })))

pub returns-else-ends_poll-clause-does : goal.returns-else-ends_poll-clause-does
returns-else-ends_poll-clause-does g c settings writes lawful = rw (← c.self.view_is) (c.act-reply.ensures.does settings writes (record { operator_is = λ asks. lawful.operator_is (rw (← c.self.view_is) asks); extractor_is = λ asks. lawful.extractor_is (rw (← c.self.view_is) asks) }))
