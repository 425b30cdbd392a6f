use Rattle.std.proofs.Common.{◌≡◌, ◌∙◌, ap, rules}
use Rattle.std.specs.BTreeMap.{insert_entry, is_at}
use Rattle.std.specs.Map.{set_value}
use Rattle.std.proofs.lemmas.Map.Made.{is_some-lookup}
use Rattle.slate_types.specs.Range.{key_cmp}
use Rattle.slate_transactions.specs.Writes.{Tracking, is_among, numbered}
use Rattle.slate_transactions.proofs.Tracking.{numbered-set}
use Rattle.slate_transactions.proofs.tracked_writes.TrackedWrites.note_key.Goals as goal
use Rattle.slate_transactions.proofs.tracked_writes.TrackedWrites.note_key.Goals.{in-Some, in_default}

pub returns-clause-writes : goal.returns-clause-writes
returns-clause-writes c =
    let entries = c.self.inside.last.entries in
    let there = is_some-lookup (is_at (key_cmp c.args.key.now)) entries ∙ ap (λ (t : Tracking). is_among t.room c.args.key.now) c.self.view_is ∙ c.requires.room in
    elim c.match-get_mut.branch [
      | in-Some w ↦
          let set : c.match-get_mut.self-inside.last.entries ≡ set_value (is_at (key_cmp c.args.key.now)) entries c.args.number = search rules in
          ap numbered set ∙ numbered-set c.args.key.now c.args.number entries c.requires.number c.self.invariant there
          ∙ ap (λ (t : Tracking). insert_entry key_cmp t.writes c.args.key.now c.args.number) c.self.view_is
      | in_default w ↦ absurd (search (rules, w.in_default.not-Some, there, w.in_default.ensures.value))
    ]
