use Rattle.std.proofs.Common.{rules, [], ◌∷◌, ◌++◌, sym, ap, map, ◌∙◌}
use Rattle.std.proofs.lemmas.List.{length-map, map-append}
use Rattle.slate_model.specs.Stores.{by_objects}
use Rattle.slate_live.specs.declared.objects.Object.TheVariants as objects
use Rattle.slate_model.specs.Object.{Follower as AFollower}
use Rattle.slate_live.specs.Objects.{object_of, poll_of}
use Rattle.slate_live.specs.Readers.{Polled}
use Rattle.slate_live.proofs.Begun.{pushed-polls}
use Rattle.slate_live.specs.Replies.{followed_reply}
use Rattle.slate_live.proofs.Counting.{follow-calls}
use Rattle.slate_live.proofs.Doing.{follower-in_vain, opens-follower, refuses-follower}
use Rattle.slate_live.proofs.states.LiveState.follow.Goals as goal

pub returns-then-is_err-clause-does : goal.returns-then-is_err-clause-does
returns-then-is_err-clause-does g c settings managed extracts lifetime interval =
    rw (← c.self.view_is) (
    follower-in_vain (by_objects (g.S.Store.objects c.args.store.now)) settings c.args.mode managed c.args.options.now.skip_wal_replay c.args.options.now.max_lag c.args.moment (c.in-Ok.follower, c.in-Ok.answer) _ _ _ _ _
    (ap (map object_of) c.reserve.ensures.items) c.args.options.now.checkpoint_lifetime_ms c.args.options.now.manifest_poll_interval_ms lifetime interval _ (search rules) (c.in-Ok.ensures.rebuilds settings.extractor extracts) (c.in-Ok.ensures.managed settings.extractor extracts)
    )

pub returns-else-is_err-clause-does : goal.returns-else-is_err-clause-does
returns-else-is_err-clause-does g c settings managed extracts lifetime interval =
    rw (← c.self.view_is) (
    opens-follower (by_objects (g.S.Store.objects c.args.store.now)) settings c.args.mode managed c.args.options.now.skip_wal_replay c.args.options.now.max_lag c.args.moment (c.in-Ok.follower, c.in-Ok.answer) _ _ _ _ _ _
    (c.followed_reply.ensures ∙ ap (λ n. followed_reply n c.in-Ok.answer) (c.len-object.ensures ∙ (c.self.inside.objects.ok.0 ∙ sym (length-map c.self.inside.objects.items object_of))))
    (ap (map object_of) (c.push_reserved.ensures.items ∙ ap (λ xs. xs ++ objects.Follower c.new.result ∷ []) c.reserve.ensures.items)
    ∙ (map-append object_of c.self.inside.objects.items (objects.Follower c.new.result ∷ [])
    ∙ ap (λ (reader : Polled). map object_of c.self.inside.objects.items ++ AFollower reader.state ∷ []) c.new.ensures))
    c.args.options.now.checkpoint_lifetime_ms c.args.options.now.manifest_poll_interval_ms lifetime interval _ (search rules) (c.in-Ok.ensures.rebuilds settings.extractor extracts) (c.in-Ok.ensures.managed settings.extractor extracts)
    )

pub returns-in-Err-clause-calls : goal.returns-in-Err-clause-calls
returns-in-Err-clause-calls g c = follow-calls _ c.args.mode c.args.options.now.skip_wal_replay _ _ c.open.ensures.calls c.open.ensures.managed_calls

pub returns-in-Err-clause-does : goal.returns-in-Err-clause-does
returns-in-Err-clause-does g c settings managed extracts lifetime interval =
    refuses-follower (by_objects (g.S.Store.objects c.args.store.now)) settings c.args.mode managed c.args.options.now.skip_wal_replay c.args.options.now.max_lag c.args.moment c.in-Err.error _ _ _ _ _ c.refusal.ensures
    c.args.options.now.checkpoint_lifetime_ms c.args.options.now.manifest_poll_interval_ms lifetime interval _ (search rules) (c.in-Err.ensures.rebuilds settings.extractor extracts) (c.in-Err.ensures.managed settings.extractor extracts)

pub returns-else-is_err-clause-polls : goal.returns-else-is_err-clause-polls
returns-else-is_err-clause-polls g c =
    rw (← c.self.view_is) (
    pushed-polls _ _
    (ap (map poll_of) (c.push_reserved.ensures.items ∙ ap (λ xs. xs ++ objects.Follower c.new.result ∷ []) c.reserve.ensures.items)
    ∙ (map-append poll_of c.self.inside.objects.items (objects.Follower c.new.result ∷ [])
    ∙ ap (λ (reader : Polled). map poll_of c.self.inside.objects.items ++ reader.poll ∷ []) c.new.ensures))
    )
