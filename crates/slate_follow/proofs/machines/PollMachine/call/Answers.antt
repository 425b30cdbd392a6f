use Rattle.std.proofs.Common.{◌≡◌, ◌∙◌, ap, rules, subst, sym}
use Rattle.slate_types.specs.Counts.{one_more}
use Rattle.slate_model.specs.Begun.{AsksLast, Begun, Ended, LooksAt, ReadsAgain, ReadsLog, Stage, taken}
use Rattle.slate_follow.specs.Stepping.{CallsNext, FitsReader}
use Rattle.slate_follow.proofs.Called.{counted-fits}
use Rattle.slate_follow.proofs.machines.PollMachine.call.Goals as goal

pub returns-in-AskLast-clause-next : goal.returns-in-AskLast-clause-next
returns-in-AskLast-clause-next g c =
    let old = c.args.self.now in
    let reader = c.args.state.now in
    let r = c.call_last in
    let s = g.S.Store.objects c.args.store.now in
    let s' = g.S.Store.objects r.new.store in
    let n = c.saturating_add-self-inside.result in
    let steps : n ≡ one_more old.history.steps = c.saturating_add-self-inside.ensures ∙ ap (λ (b : Begun). one_more b.history.steps) c.self.view_is in
    let next = r.ensures.next in
    let next' = subst (λ (b : Begun). CallsNext AsksLast reader (record b { stage = Ended; history = record b.history { steps = n } }) r.result r.new.self s s') c.self.view_is next in
    let is : old.stage ≡ AsksLast = search rules in
    subst (λ (x : Stage). CallsNext x reader (taken old) r.result r.new.self s s') (sym is)
    (subst (λ k. CallsNext AsksLast reader (record old { stage = Ended; history = record old.history { steps = k } }) r.result r.new.self s s') steps next')

pub returns-in-LookAt-clause-next : goal.returns-in-LookAt-clause-next
returns-in-LookAt-clause-next g c =
    let old = c.args.self.now in
    let reader = c.args.state.now in
    let r = c.call_look in
    let s = g.S.Store.objects c.args.store.now in
    let s' = g.S.Store.objects r.new.store in
    let n = c.saturating_add-self-inside.result in
    let steps : n ≡ one_more old.history.steps = c.saturating_add-self-inside.ensures ∙ ap (λ (b : Begun). one_more b.history.steps) c.self.view_is in
    let next = r.ensures.next in
    let next' = subst (λ (b : Begun). CallsNext (LooksAt c.in-LookAt.id c.in-LookAt.last) reader (record b { stage = Ended; history = record b.history { steps = n } }) r.result r.new.self s s') c.self.view_is next in
    let is : old.stage ≡ (LooksAt c.in-LookAt.id c.in-LookAt.last) = search rules in
    subst (λ (x : Stage). CallsNext x reader (taken old) r.result r.new.self s s') (sym is)
    (subst (λ k. CallsNext (LooksAt c.in-LookAt.id c.in-LookAt.last) reader (record old { stage = Ended; history = record old.history { steps = k } }) r.result r.new.self s s') steps next')

pub returns-in-ReadLog-clause-next : goal.returns-in-ReadLog-clause-next
returns-in-ReadLog-clause-next g c =
    let old = c.args.self.now in
    let reader = c.args.state.now in
    let r = c.call_log in
    let s = g.S.Store.objects c.args.store.now in
    let s' = g.S.Store.objects r.new.store in
    let n = c.saturating_add-self-inside.result in
    let steps : n ≡ one_more old.history.steps = c.saturating_add-self-inside.ensures ∙ ap (λ (b : Begun). one_more b.history.steps) c.self.view_is in
    let fits = subst (λ (b : Begun). FitsReader reader (record b { stage = Ended; history = record b.history { steps = n } })) (sym c.self.view_is) (counted-fits reader old (record old.history { steps = n }) c.requires.fits) in
    let next = r.ensures.next reader fits in
    let next' = subst (λ (b : Begun). CallsNext (ReadsLog c.in-ReadLog.last) reader (record b { stage = Ended; history = record b.history { steps = n } }) r.result r.new.self s s') c.self.view_is next in
    let is : old.stage ≡ (ReadsLog c.in-ReadLog.last) = search rules in
    subst (λ (x : Stage). CallsNext x reader (taken old) r.result r.new.self s s') (sym is)
    (subst (λ k. CallsNext (ReadsLog c.in-ReadLog.last) reader (record old { stage = Ended; history = record old.history { steps = k } }) r.result r.new.self s s') steps next')

pub returns-in-ReadAgain-clause-next : goal.returns-in-ReadAgain-clause-next
returns-in-ReadAgain-clause-next g c =
    let old = c.args.self.now in
    let reader = c.args.state.now in
    let r = c.call_again in
    let s = g.S.Store.objects c.args.store.now in
    let s' = g.S.Store.objects r.new.store in
    let n = c.saturating_add-self-inside.result in
    let steps : n ≡ one_more old.history.steps = c.saturating_add-self-inside.ensures ∙ ap (λ (b : Begun). one_more b.history.steps) c.self.view_is in
    let fits = subst (λ (b : Begun). FitsReader reader (record b { stage = Ended; history = record b.history { steps = n } })) (sym c.self.view_is) (counted-fits reader old (record old.history { steps = n }) c.requires.fits) in
    let next = r.ensures.next reader fits in
    let next' = subst (λ (b : Begun). CallsNext ReadsAgain reader (record b { stage = Ended; history = record b.history { steps = n } }) r.result r.new.self s s') c.self.view_is next in
    let is : old.stage ≡ ReadsAgain = search rules in
    subst (λ (x : Stage). CallsNext x reader (taken old) r.result r.new.self s s') (sym is)
    (subst (λ k. CallsNext ReadsAgain reader (record old { stage = Ended; history = record old.history { steps = k } }) r.result r.new.self s s') steps next')
