use Rattle.std.proofs.Common.{◌≡◌, ◌∙◌, ◌++◌, Some, true, codes, length, map, refl, sym, subst, ap}
use Rattle.std.specs.Fmt.{decimal}
use Rattle.std.specs.List.{All}
use Rattle.std.specs.Option.{option_map}
use Rattle.std.proofs.lemmas.List.{length-map}
use Rattle.slate_types.specs.Operator.{concat}
use Rattle.slate_types.specs.Prefix.{fixed_prefix}
use Rattle.slate_published.specs.Beginnings.{Beginning}
use Rattle.slate_published.specs.States.{last_of}
use Rattle.slate_model.specs.Known.{known}
use Rattle.slate_model.specs.Segments.{IsExtractor}
use Rattle.slate_script.specs.Replies.{replies_text}
use Rattle.slate_script.specs.Sessions.{EndsWriting}
use Rattle.slate_live.specs.Session.{fixed_extractor, settings_of}
use Rattle.slate_live.proofs.Endings.{appends, extracts}
use Rattle.slate_readers.specs.Aired.{Aired}
use Rattle.slate_readers.specs.Opening.{HasRun, handed}
use Rattle.slate_readers.specs.Session.{HandsOver, is_written, readers_text}
use Rattle.slate_readers.specs.Watching.{AreOf}
use Rattle.slate_readers.specs.declared.sessions.Live.{Live}
use Rattle.slate_readers.specs.declared.watchers.Watcher.{Watcher}
use Rattle.slate_readers.proofs.Endings.{has-run, unwritten}
use Rattle.slate_readers.proofs.Told.{front-is, readers-at, readers-seen, watchers-stay}
use Rattle.slate_readers.proofs.sessions.run_live.Goals.{then-was_shown+then-was_seen, else-was_shown}
use Rattle.slate_readers.proofs.sessions.run_live.Goals as goal

pub end_all-was_seen-requires-clause-origin : goal.end_all-was_seen-requires-clause-origin
end_all-was_seen-requires-clause-origin g c =
    let opened = c.args.opened.publisher in
    let published = c.into_parts-publisher.result.0 in
    let origin : published.origin ≡ opened.origin = ap (λ (b : Beginning). b.origin) c.into_parts-publisher.ensures.publisher ∙ (c.run_beside.ensures.origin ∙ ap (λ (a : Aired). a.list.origin) c.new-broadcast.ensures) in
    let are : AreOf opened c.as_mut_slice.result.now = subst (AreOf opened) (sym c.as_mut_slice.ensures.value) c.requires.watchers in
    let long : c.args.opened.watchers.len ≡ length c.run_beside.new.watchers = c.args.opened.watchers.ok.0 ∙ (ap length (sym c.as_mut_slice.ensures.value) ∙ sym c.run_beside.auto.watchers) in
    let same : c.as_mut_slice-2.result.now ≡ c.run_beside.new.watchers = c.as_mut_slice-2.ensures.value ∙ front-is c.args.opened.watchers.len c.run_beside.new.watchers _ long in
    subst (AreOf published) (sym same)
    (watchers-stay opened published c.as_mut_slice.result.now c.run_beside.new.watchers c.run_beside.auto.watchers origin are c.run_beside.ensures.readers)

pub write_live-ending-requires : goal.write_live-ending-requires
write_live-ending-requires g c =
    let published = c.into_parts-publisher.result.0 in
    let watchers = c.end_all-was_seen.new.watchers in
    let number : c.last_number-number.result ≡ (last_of published.states).number = c.last_number-number.ensures ∙ ap (λ (b : Beginning). (last_of b.states).number) (sym c.into_parts-publisher.ensures.publisher) in
    let long : c.args.opened.watchers.len ≡ length c.run_beside.new.watchers = c.args.opened.watchers.ok.0 ∙ (ap length (sym c.as_mut_slice.ensures.value) ∙ sym c.run_beside.auto.watchers) in
    let same : c.as_mut_slice-2.result.now ≡ c.run_beside.new.watchers = c.as_mut_slice-2.ensures.value ∙ front-is c.args.opened.watchers.len c.run_beside.new.watchers _ long in
    let long' : c.args.opened.watchers.len ≡ length watchers = long ∙ (ap length (sym same) ∙ sym c.end_all-was_seen.auto.watchers) in
    let readers : c.as_slice-then-was_seen.result.now ≡ map (λ (w : Watcher). w.reader) watchers = c.as_slice-then-was_seen.ensures.value ∙ (c.give_back.ensures ∙ ap (λ ws. map (λ (w : Watcher). w.reader) ws) (front-is c.args.opened.watchers.len watchers _ long')) in
    readers-at published c.last_number-number.result c.as_slice-then-was_seen.result.now number
    (subst (All (λ reader. reader ≡ published)) (sym readers) (readers-seen published watchers (c.end_all-was_seen.ensures.seen c.if-was_seen.true)))

pub returns-clause-ran : goal.returns-clause-ran
returns-clause-ran g c =
    let words = c.args.opened.words in
    let options = words.options in
    let merge = option_map (λ operator. concat) options.operator in
    let lawful = appends options.operator in
    let extractor = option_map fixed_extractor options.segments in
    let cuts = subst (λ o. IsExtractor (λ length name. name ≡ codes "fixed-" ++ decimal length) (λ length key answer. answer ≡ fixed_prefix length key) o extractor) (sym c.requires.extractor) (extracts options.segments) in
    let airs = c.run_beside.ensures.airs (settings_of options) lawful cuts refl in
    let live : Live = record { finished = c.finished.result; publisher = Some c.end_all-was_seen.new.publisher; readers = c.of.result } in
    let published = c.into_parts-publisher.result.0 in
    let watchers = c.end_all-was_seen.new.watchers in
    let long : c.args.opened.watchers.len ≡ length c.run_beside.new.watchers = c.args.opened.watchers.ok.0 ∙ (ap length (sym c.as_mut_slice.ensures.value) ∙ sym c.run_beside.auto.watchers) in
    let same : c.as_mut_slice-2.result.now ≡ c.run_beside.new.watchers = c.as_mut_slice-2.ensures.value ∙ front-is c.args.opened.watchers.len c.run_beside.new.watchers _ long in
    let long' : c.args.opened.watchers.len ≡ length watchers = long ∙ (ap length (sym same) ∙ sym c.end_all-was_seen.auto.watchers) in
    let readers : c.of.result ≡ map (λ (w : Watcher). w.reader) watchers = c.of.ensures ∙ (c.give_back.ensures ∙ ap (λ ws. map (λ (w : Watcher). w.reader) ws) (front-is c.args.opened.watchers.len watchers _ long')) in
    let listed : c.end_all-was_seen.new.publisher ≡ c.run_beside.new.broadcast.list = c.end_all-was_seen.ensures.publisher ∙ c.into_parts-publisher.ensures.publisher in
    let before = known g.S.Store.objects g.S.Store.faults c.args.store.now in
    let after = known g.S.Store.objects g.S.Store.faults c.run_beside.new.store in
    let written = g.O.Sink.written c.args.sink.now in
    let failed = g.O.Sink.faults c.args.sink.now in
    let sink = c.if-was_shown.sink in
    let ending = c.if-was_shown.ending in
    let aired = c.run_beside.new.broadcast in
    let text = replies_text c.finished.result.replies ++ readers_text 0 c.of.result in
    let ran : (is_written ending ≡ true → aired.whole ≡ true) → EndsWriting ending text written (g.O.Sink.written sink) failed (g.O.Sink.faults sink) → (is_written ending ≡ true → HandsOver words.readers (handed live)) →
    HasRun words (handed live) ending c.args.commands.now before after written (g.O.Sink.written sink) failed (g.O.Sink.faults sink) =
    has-run words (handed live) ending c.args.commands.now before after written (g.O.Sink.written sink) failed (g.O.Sink.faults sink) c.run_beside.new.replies.items aired.whole aired.list.states
    c.finished.ensures.replies (ap (λ (b : Beginning). b.states) listed) airs.done airs.run in (
      ending,
      c.finished.ensures.status,
      c.finished.ensures.line,
      elim c.if-was_shown.branch [
        | then-was_shown+then-was_seen w ↦
            let replies : w.as_slice.result.now ≡ c.finished.result.replies = w.as_slice.ensures.value ∙ sym c.finished.ensures.replies in
            let shown : w.as_slice-then-was_seen.result.now ≡ c.of.result = w.as_slice-then-was_seen.ensures.value ∙ sym c.of.ensures in
            let same_text : replies_text w.as_slice.result.now ++ readers_text 0 w.as_slice-then-was_seen.result.now ≡ text =
            ap (λ rs. replies_text rs ++ readers_text 0 w.as_slice-then-was_seen.result.now) replies ∙ ap (λ rs. replies_text c.finished.result.replies ++ readers_text 0 rs) shown in
            let writes = subst (λ t. EndsWriting w.write_live-ending.result t written (g.O.Sink.written w.write_live-ending.new.sink) failed (g.O.Sink.faults w.write_live-ending.new.sink)) same_text w.write_live-ending.ensures.writes in
            let to_sink = subst (λ s. EndsWriting w.write_live-ending.result text written (g.O.Sink.written s) failed (g.O.Sink.faults s)) (sym w.sink-is) writes in
            let seen = subst (λ b. All (λ (w : Watcher). w.reader ≡ b) watchers) (sym c.end_all-was_seen.ensures.publisher) (c.end_all-was_seen.ensures.seen w.if-was_seen.true) in
            ran (λ _. sym c.is_whole-was_shown.ensures ∙ w.if-was_shown.true)
            (subst (λ e. EndsWriting e text written (g.O.Sink.written sink) failed (g.O.Sink.faults sink)) (sym w.ending-is) to_sink)
            (λ _. record {
              published = c.end_all-was_seen.new.publisher;
              publisher = refl;
              count_is = ap length readers ∙ (length-map watchers (λ (w : Watcher). w.reader) ∙ (sym long' ∙ (c.args.opened.watchers.ok.0 ∙ c.requires.count)));
              seen = subst (All (λ reader. reader ≡ c.end_all-was_seen.new.publisher)) (sym readers) (readers-seen c.end_all-was_seen.new.publisher watchers seen);
            })
        | else-was_shown w ↦
            ran (λ h. absurd (unwritten ending w.ending-is h))
            (subst (λ e. EndsWriting e text written (g.O.Sink.written sink) failed (g.O.Sink.faults sink)) (sym w.ending-is) (ap g.O.Sink.written w.sink-is, ap g.O.Sink.faults w.sink-is))
            (λ h. absurd (unwritten ending w.ending-is h))
      ],
    )
