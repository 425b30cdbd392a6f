use Rattle.std.proofs.Common.{rules, ◌≡◌, ◌∙◌, inl, inr, ℕ, ℤ, List, Option, Some, None, ap, refl, sym, subst, w64, to_z, of_z}
use Rattle.std.specs.Ordering.{int_cmp}
use Rattle.slate_seqtrack.specs.Lookup.{IsPartner}
use Rattle.slate_seqtrack.specs.Tracker.{numbers_of, times_of}
use Rattle.std.specs.Option.{is_none}
use Rattle.slate_model.specs.Object.{Handle as AHandle}
use Rattle.slate_types.specs.declared.batches.KeyOp.{KeyOp}
use Rattle.slate_model.specs.Handle.{Handle}
use Rattle.slate_model.specs.Knowledge.{Knowledge}
use Rattle.slate_model.specs.Known.{Known}
use Rattle.slate_script.specs.declared.replies.Reply.{Reply}
use Rattle.slate_live.specs.Calls.{Call, Write as WriteCall, asks_extractor, asks_operator, call_of, ops_of, read_of}
use Rattle.slate_live.specs.Handles.{HandleActs, WritesTo}
use Rattle.slate_live.specs.Settings.{Settings}
use Rattle.slate_live.specs.declared.states.Write.{Write}
use Rattle.slate_live.proofs.handles.act.Goals as goal

pub returns-in-Flush-clause-does : goal.returns-in-Flush-clause-does
returns-in-Flush-clause-does g c settings lawful = let d = c.flush.ensures.does in (d.0, rw c.in-Flush.is (d.1, refl {a = c.args.writes.now.items}))

-- a read of the handle, by the command that asks it
reads-by : {L : Type 0} (k : Knowledge L) (settings : Settings) (n : ℕ) (moment : ℤ) (second : Option ℤ) (call call' : Call) (old : Handle) (before : Known L) (writes : List Write) (reply : Reply) (after : Known L) → call' ≡ call →
    HandleActs k settings n moment second call' 0 old before writes reply old after writes → (made : ℕ) × HandleActs k settings n moment second call made old before writes reply old after writes
reads-by k settings n moment second call call' old before writes reply after same did = (0, subst (λ c. HandleActs k settings n moment second c 0 old before writes reply old after writes) same did)

pub returns-in-Get-clause-does : goal.returns-in-Get-clause-does
returns-in-Get-clause-does g c settings lawful =
    let same : read_of None (call_of c.args.command.now.action) ≡ call_of c.args.command.now.action = elim c.in-Get.is [
      | inl get ↦ ap (λ a. read_of None (call_of a)) get.3 ∙ sym (ap call_of get.3)
      | inr (inl scan) ↦ ap (λ a. read_of None (call_of a)) scan.4 ∙ sym (ap call_of scan.4)
      | inr (inr seek) ↦ ap (λ a. read_of None (call_of a)) seek.6 ∙ sym (ap call_of seek.6)
    ] in
    reads-by _ settings _ _ _ (call_of c.args.command.now.action) _ c.args.writer.now _ _ c.read.result _ same (c.read.ensures.does settings c.args.number c.args.writes.now.items lawful.operator_is)

pub returns-in-Ts-clause-does : goal.returns-in-Ts-clause-does
returns-in-Ts-clause-does g c settings lawful = (0, rw c.in-Ts.is ((c.find_ts.result, c.find_ts.ensures, refl), refl {a = c.args.writer.now}, (refl, refl), refl {a = c.args.writes.now.items}))

pub returns-in-Seq-clause-does : goal.returns-in-Seq-clause-does
returns-in-Seq-clause-does g c settings lawful =
    let back : to_z w64 (of_z w64 c.in-Seq.seconds) ≡ c.in-Seq.seconds = search rules in
    let tracker = c.args.writer.now.tracker in
    let found = subst (λ seconds. IsPartner int_cmp c.in-Seq.find seconds (times_of tracker) (numbers_of tracker) c.find_seq.result) back c.find_seq.ensures in
    (0, rw c.in-Seq.is ((c.find_seq.result, found, refl), refl {a = c.args.writer.now}, (refl, refl), refl {a = c.args.writes.now.items}))

pub returns-else-is_none-clause-does : goal.returns-else-is_none-clause-does
returns-else-is_none-clause-does g c settings lawful =
    let operator = lawful.operator_is (ap (asks_operator (Some (AHandle c.args.writer.now))) c.in-Merge.is) in
    let did = c.write.ensures settings.extractor (λ open_. lawful.extractor_is (ap (asks_extractor (Some (AHandle c.args.writer.now))) c.in-Merge.is ∙ ap is_none open_)) in
    search rules

-- a write, by the command that asks it
writes-by : {L : Type 0} (k : Knowledge L) (settings : Settings) (n : ℕ) (moment : ℤ) (second : Option ℤ) (call : Call) (ops : List KeyOp) (old new : Handle) (before : Known L) (writes writes' : List Write) (reply : Reply) → call ≡ WriteCall ops →
    WritesTo settings.extractor n ops moment second old writes reply new writes' → (made : ℕ) × HandleActs k settings n moment second call made old before writes reply new before writes'
writes-by k settings n moment second call ops old new before writes writes' reply is did =
    (0, subst (λ c. HandleActs k settings n moment second c 0 old before writes reply new before writes') (sym is) (did, (refl, refl)))

pub returns-in-Put-clause-does : goal.returns-in-Put-clause-does
returns-in-Put-clause-does g c settings lawful =
    let h = c.args.writer.now in
    let action = c.args.command.now.action in
    elim c.in-Put.is [
      | inl put ↦ writes-by _ settings _ _ _ (call_of action) (ops_of action) h _ _ _ _ _ (ap call_of put.4 ∙ ap (λ a. WriteCall (ops_of a)) (sym put.4))
          (c.write-in-Put.ensures settings.extractor (λ open_. lawful.extractor_is (ap (asks_extractor (Some (AHandle h))) put.4 ∙ ap is_none open_)))
      | inr (inl delete) ↦ writes-by _ settings _ _ _ (call_of action) (ops_of action) h _ _ _ _ _ (ap call_of delete.2 ∙ ap (λ a. WriteCall (ops_of a)) (sym delete.2))
          (c.write-in-Put.ensures settings.extractor (λ open_. lawful.extractor_is (ap (asks_extractor (Some (AHandle h))) delete.2 ∙ ap is_none open_)))
      | inr (inr batch) ↦ writes-by _ settings _ _ _ (call_of action) (ops_of action) h _ _ _ _ _ (ap call_of batch.2 ∙ ap (λ a. WriteCall (ops_of a)) (sym batch.2))
          (c.write-in-Put.ensures settings.extractor (λ open_. lawful.extractor_is (ap (asks_extractor (Some (AHandle h))) batch.2 ∙ ap is_none open_)))
    ]
