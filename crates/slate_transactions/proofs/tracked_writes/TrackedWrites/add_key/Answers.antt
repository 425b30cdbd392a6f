use Rattle.std.proofs.Common.{◌≡◌, ◌∙◌, ap, sym, None}
use Rattle.std.specs.BTreeMap.{insert_entry, is_at}
use Rattle.std.specs.Map.{keys_of, lookup}
use Rattle.std.proofs.lemmas.Map.Made.{is_some-lookup}
use Rattle.slate_types.specs.Range.{key_cmp}
use Rattle.slate_transactions.specs.Writes.{Tracking, is_among, numbered}
use Rattle.slate_transactions.proofs.Tracking.{absent-from, numbered-room, room-at, room-inserted}
use Rattle.slate_transactions.proofs.tracked_writes.TrackedWrites.add_key.Goals as goal

pub returns-in_ok-insert-clause-same : goal.returns-in_ok-insert-clause-same
returns-in_ok-insert-clause-same c =
    let entries = c.self.inside.last.entries in
    let none : lookup (is_at (key_cmp c.args.key.now)) entries ≡ None = absent-from _ (sym c.contains_key.ensures ∙ c.if-not-contains_key.true) in
    ap numbered (c.in_ok-insert.ensures.entries ∙ ap (λ k. insert_entry key_cmp entries k 0) c.in_ok-clone.ensures.cases)
    ∙ numbered-room c.args.key.now entries none ∙ ap (λ (t : Tracking). t.writes) c.self.view_is

pub returns-in_ok-insert-clause-keeps : goal.returns-in_ok-insert-clause-keeps
returns-in_ok-insert-clause-keeps c other there =
    let entries = c.self.inside.last.entries in
    ap (λ es. is_among (keys_of es) other) (c.in_ok-insert.ensures.entries ∙ ap (λ k. insert_entry key_cmp entries k 0) c.in_ok-clone.ensures.cases)
    ∙ room-inserted other c.args.key.now 0 entries (ap (λ (t : Tracking). is_among t.room other) c.self.view_is ∙ there)

pub returns-in_ok-insert-clause-room : goal.returns-in_ok-insert-clause-room
returns-in_ok-insert-clause-room c =
    let entries = c.self.inside.last.entries in
    ap (λ es. is_among (keys_of es) c.args.key.now) (c.in_ok-insert.ensures.entries ∙ ap (λ k. insert_entry key_cmp entries k 0) c.in_ok-clone.ensures.cases)
    ∙ room-at c.args.key.now 0 entries

pub returns-else-not-contains_key-clause-room : goal.returns-else-not-contains_key-clause-room
returns-else-not-contains_key-clause-room c =
    let entries = c.self.inside.last.entries in
    ap (λ (t : Tracking). is_among t.room c.args.key.now) (sym c.self.view_is)
    ∙ sym (is_some-lookup (is_at (key_cmp c.args.key.now)) entries) ∙ sym c.contains_key.ensures ∙ c.if-not-contains_key.false
