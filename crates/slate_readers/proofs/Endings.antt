-- How a live session ends, and what it writes.
use Rattle.std.proofs.Common.{◌≡◌, ◌∙◌, ℕ, ◌+◌, ◌++◌, ◌∷◌, [], List, Bool, true, false, length, map, take, get_or, Option, Some, None, inl, inr, refl, sym, subst, ap, codes, append_assoc, arith, ◌<◌}
use Rattle.std.specs.Fmt.{decimal}
use Rattle.std.proofs.lemmas.List.{append-nil, length-take-le, take_more}
use Rattle.std.specs.Prelude.{slice_index_or}
use Rattle.slate_types.specs.declared.batches.Batch.{Batch}
use Rattle.slate_published.specs.Beginnings.{Beginning}
use Rattle.slate_published.specs.Published.{Published}
use Rattle.slate_published.specs.States.{last_of}
use Rattle.slate_model.specs.Known.{Known}
use Rattle.slate_script.specs.declared.commands.Command.{Command}
use Rattle.slate_script.specs.declared.replies.Reply.{Reply}
use Rattle.slate_script.specs.declared.sessions.Outcome.{Outcome}
use Rattle.slate_script.specs.declared.sessions.Outcome.TheVariants.{NoMemory, WordsRefused}
use Rattle.slate_script.specs.Replies.{replies_text}
use Rattle.slate_script.specs.Sessions.{EndsWriting, KeepsOutput}
use Rattle.slate_live.specs.Run.{DidAll}
use Rattle.slate_live.specs.Session.{StoreSides, settings_of}
use Rattle.slate_live.specs.Settings.{Settings}
use Rattle.slate_readers.specs.Opening.{HasRun, handed}
use Rattle.slate_readers.specs.Published.{IsPublishedRun}
use Rattle.slate_readers.specs.Session.{EndsLive, Handed, HandsOver, is_written, published_by, reader_text, readers_text}
use Rattle.slate_readers.specs.declared.sessions.Live.{Live}
use Rattle.slate_readers.specs.declared.words.LiveWords.{LiveWords}

-- ---- the lines of the readers
-- one more line
readers-push : (place : ℕ) (readers : List Beginning) (reader : Beginning) → readers_text place (readers ++ reader ∷ []) ≡ readers_text place readers ++ reader_text (place + length readers) (last_of reader.states).number
readers-push place [] reader =
    let here : place ≡ place + 0 = omega arith in
    append-nil (reader_text place (last_of reader.states).number) ∙ ap (λ n. reader_text n (last_of reader.states).number) here
readers-push place (r ∷ readers) reader =
    let first = reader_text place (last_of r.states).number in
    let number = (last_of reader.states).number in
    let there : (place + 1) + length readers ≡ place + length (r ∷ readers) = omega arith in
    ap (λ text. first ++ text) (readers-push (place + 1) readers reader ∙ ap (λ n. readers_text (place + 1) readers ++ reader_text n number) there)
    ∙ sym (append_assoc first (readers_text (place + 1) readers) (reader_text (place + length (r ∷ readers)) number))

-- the line of the reader at a place, after those before it
pub readers-next : (readers : List Beginning) (place number : ℕ) (d : Beginning) → place < length readers → (last_of (get_or readers place d).states).number ≡ number →
    readers_text 0 (take (place + 1) readers) ≡ readers_text 0 (take place readers) ++ reader_text place number
readers-next readers place number d low is =
    let count : 0 + length (take place readers) ≡ place = omega (arith, length-take-le place readers (omega arith)) in
    let before = readers_text 0 (take place readers) in
    ap (readers_text 0) (take_more readers place d low) ∙ (readers-push 0 (take place readers) (get_or readers place d)
    ∙ (ap (λ n. before ++ reader_text n (last_of (get_or readers place d).states).number) count ∙ ap (λ n. before ++ reader_text place n) is))

-- where nothing is said of what was published, less is known
pub less-published : (settings : Settings) (commands : List Command) (replies : List Reply) (store store' : Known (List Batch)) (whole written : Bool) (states : List Published) → (written ≡ true → whole ≡ true) →
    IsPublishedRun settings commands replies store store' whole states → IsPublishedRun settings commands replies store store' written states
less-published settings commands replies store store' whole written states more run = record {
  honest = λ before is sound.
      let led = run.honest before is sound in
      record { led = led.led; published = λ h. led.published (more h); number = λ h. led.number (more h) };
}

-- ---- what a run that publishes came to
pub has-run : (words : LiveWords) (handed : Handed) (ending : Outcome) (commands : List Command) (store store' : Known (List Batch)) (written written' : Option (List ℕ)) (faults faults' : ℕ) (replies : List Reply) (whole : Bool) (states : List Published) →
    handed.replies ≡ replies → published_by handed.publisher ≡ states →
    DidAll (settings_of words.options) commands replies store store' → IsPublishedRun (settings_of words.options) commands replies store store' whole states → (is_written ending ≡ true → whole ≡ true) →
    EndsWriting ending (replies_text handed.replies ++ readers_text 0 handed.readers) written written' faults faults' → (is_written ending ≡ true → HandsOver words.readers handed) →
    HasRun words handed ending commands store store' written written' faults faults'
has-run words handed ending commands store store' written written' faults faults' replies whole states same published done run more writing hands =
    let settings = settings_of words.options in
    let run' = subst (λ ss. IsPublishedRun settings commands replies store store' whole ss) (sym published) run in
    record {
      runs = record {
        text_is = refl;
        done = subst (λ rs. DidAll settings commands rs store store') (sym same) done;
        run = less-published settings commands handed.replies store store' whole (is_written ending) (published_by handed.publisher) more
            (subst (λ rs. IsPublishedRun settings commands rs store store' whole (published_by handed.publisher)) (sym same) run');
      };
      writing = writing;
      hands = hands;
    }

-- nothing is written where memory ran out
pub unwritten : (ending : Outcome) → ending ≡ NoMemory → is_written ending ≡ true → ⊥
unwritten ending none written = let not : false ≡ true = ap is_written (sym none) ∙ written in cc

-- ---- ways to end before anything is run
no-run : (live : Live) → (live.finished.replies ≡ []) × (live.publisher ≡ None) × (live.readers ≡ []) → handed live ≡ record { replies = []; publisher = None; readers = [] }
no-run live nothing = ap (λ rs. from rs live.publisher live.readers) nothing.0 ∙ (ap (λ p. from [] p live.readers) nothing.1 ∙ ap (λ rs. from [] None rs) nothing.2)
  where
    from : List Reply → Option Beginning → List Beginning → Handed
    from replies publisher readers = record { replies = replies; publisher = publisher; readers = readers }

-- refused words end it before anything is read
pub ends-refused : (live : Live) (words : Option LiveWords) (s : StoreSides) → words ≡ None → (live.finished.replies ≡ []) × (live.publisher ≡ None) × (live.readers ≡ []) → EndsLive words (handed live) WordsRefused s s
ends-refused live words s refused nothing = inl (record { refused = refused; ending_is = refl; nothing = refl; handed_is = no-run live nothing })

-- want of memory ends it before anything is run
pub ends-unrun : (live : Live) (words : Option LiveWords) (asked : LiveWords) (s s' : StoreSides) → words ≡ Some asked → KeepsOutput s s' → (live.finished.replies ≡ []) × (live.publisher ≡ None) × (live.readers ≡ []) → EndsLive words (handed live) NoMemory s s'
ends-unrun live words asked s s' accepted output nothing = inr (inl (record { asked = asked; accepted = accepted; none = record { stops = tt; output = output }; handed_is = no-run live nothing }))
