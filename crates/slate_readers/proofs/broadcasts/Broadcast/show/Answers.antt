use Rattle.std.proofs.Common.{◌≡◌, ◌∙◌, ◌++◌, ◌∷◌, [], sym, ap, subst, arith, true}
use Rattle.slate_follow.specs.Publishing.{published_state}
use Rattle.slate_readers.specs.Aired.{Aired}
use Rattle.slate_readers.specs.Changes.{IsShown, NoneBelow, first_state}
use Rattle.slate_readers.proofs.Showing.{shows-lower, shows-more, shows-none, shows-same}
use Rattle.slate_readers.proofs.broadcasts.Broadcast.show.Goals as goal

pub returns-in_default-clause-shows : goal.returns-in_default-clause-shows
returns-in_default-clause-shows g c store w stands none whole =
    let below = subst (λ p. NoneBelow p c.args.live.now.objects) (sym (ap (λ (a : Aired). a.place) c.self.view_is)) none in
    shows-none (first_state w) c.args.self.now.list.states c.self.inside.publisher.states (c.in_default.ensures.sees store w stands below) (ap (λ (a : Aired). a.list.states) c.self.view_is)

pub returns-then-is_shown-clause-shows : goal.returns-then-is_shown-clause-shows
returns-then-is_shown-clause-shows g c store w stands none whole =
    let below = subst (λ p. NoneBelow p c.args.live.now.objects) (sym (ap (λ (a : Aired). a.place) c.self.view_is)) none in
    let same : c.self.inside.publisher.states ≡ c.args.self.now.list.states = ap (λ (a : Aired). a.list.states) c.self.view_is in
    let state = published_state c.in-Some.reader.now in
    shows-same state (first_state w) c.args.self.now.list.states c.self.inside.publisher.states (c.in-Some.ensures.sees store w stands below) (subst (IsShown state) same (c.is_shown.ensures.0 c.if-is_shown.true)) same

pub returns-then-number-last_number-clause-shows : goal.returns-then-number-last_number-clause-shows
returns-then-number-last_number-clause-shows g c store w stands none whole =
    let below = subst (λ p. NoneBelow p c.args.live.now.objects) (sym (ap (λ (a : Aired). a.place) c.self.view_is)) none in
    let same : c.self.inside.publisher.states ≡ c.args.self.now.list.states = ap (λ (a : Aired). a.list.states) c.self.view_is in
    let state = published_state c.in-Some.reader.now in
    shows-lower state (first_state w) c.args.self.now.list.states c.self.inside.publisher.states (c.in-Some.ensures.sees store w stands below) (rw (← same) (omega (arith, c.number.ensures, c.last_number.ensures, c.if-number-last_number.true))) same

pub returns-clause-shows : goal.returns-clause-shows
returns-clause-shows g c store w stands none whole =
    let below = subst (λ p. NoneBelow p c.args.live.now.objects) (sym (ap (λ (a : Aired). a.place) c.self.view_is)) none in
    let same : c.self.inside.publisher.states ≡ c.args.self.now.list.states = ap (λ (a : Aired). a.list.states) c.self.view_is in
    let state = published_state c.in-Some.reader.now in
    shows-more state (first_state w) c.args.self.now.list.states c.try_to_publish.new.self.list.states (c.in-Some.ensures.sees store w stands below)
    (λ shown. let found : c.is_shown.result ≡ true = c.is_shown.ensures.1 (subst (IsShown state) (sym same) shown) in absurd (cc (found, c.if-is_shown.false)))
    (c.try_to_publish.ensures.published whole ∙ ap (λ states. states ++ state ∷ []) same)
