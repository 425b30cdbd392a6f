use Rattle.std.proofs.Common.{◌≡◌, ℕ, Bool, List, Option, Result, Ok, Err, [], ◌∷◌, ◌++◌, length, refl, sym, subst, ap, map, ◌∙◌}
use Rattle.std.proofs.lemmas.List.{append-nil, length-map, map-append}
use Rattle.slate_types.specs.declared.batches.Batch.{Batch}
use Rattle.slate_errors.specs.declared.endings.TaskName.{TaskName}
use Rattle.slate_errors.specs.declared.errors.SlateError.{SlateError}
use Rattle.slate_model.specs.Handle.{Handle}
use Rattle.slate_model.specs.Knowledge.{Knowledge}
use Rattle.slate_model.specs.Known.{Known, known}
use Rattle.slate_model.specs.Open.{OpensHandle}
use Rattle.slate_model.specs.Segments.{Extractor}
use Rattle.slate_model.specs.Stores.{by_objects}
use Rattle.slate_script.specs.declared.options.Options.{Options}
use Rattle.slate_script.specs.declared.replies.Reply.TheVariants as replies
use Rattle.slate_live.specs.declared.objects.Object.TheVariants as objects
use Rattle.slate_live.specs.Objects.{object_of, poll_of}
use Rattle.slate_live.specs.Settings.{Settings, option_tasks}
use Rattle.slate_live.specs.State.{Live}
use Rattle.slate_writer.specs.Tasks.{tasks_of}
use Rattle.slate_live.proofs.Begun.{pushed-polls}
use Rattle.slate_live.proofs.Doing.{opens-nothing}
use Rattle.slate_live.proofs.Counting.{opening-calls}
use Rattle.slate_live.proofs.states.LiveState.open.Goals as goal

pub returns-then-is_err-clause-does : goal.returns-then-is_err-clause-does
returns-then-is_err-clause-does g c settings extracts options_are =
    rw (← c.self.view_is) (
      0,
      record {
        result = _;
        replied = refl;
        does = opens-nothing _ settings.extractor c.args.wal _ _ _;
        objects = ap (map object_of) c.reserve.ensures.items ∙ sym (append-nil _);
        writes = refl;
      },
    )

-- an opening with the limit, the log and the tasks that were asked for
opens-as : (k : Knowledge (List Batch)) (x : Option Extractor) (made : ℕ) (before after : Known (List Batch)) (r : Result Handle SlateError) (log log' : Bool) (limit limit' : ℕ) (tasks tasks' : List TaskName) → log ≡ log' → limit ≡ limit' → tasks ≡ tasks' → OpensHandle k x made log limit tasks before r after → OpensHandle k x made log' limit' tasks' before r after
opens-as k x made before after r log log' limit limit' tasks tasks' same_log same_limit same_tasks opens =
    subst (λ ts. OpensHandle k x made log' limit' ts before r after) same_tasks
    (subst (λ l. OpensHandle k x made log' l tasks before r after) same_limit (subst (λ b. OpensHandle k x made b limit tasks before r after) same_log opens))

limit-is : (settings : Settings) (options : Options) (limit : ℕ) → settings.options ≡ options → limit ≡ options.max_unflushed_bytes → limit ≡ settings.options.max_unflushed_bytes
limit-is settings options limit same is = is ∙ sym (ap (λ (o : Options). o.max_unflushed_bytes) same)

tasks-are : (settings : Settings) (options : Options) (tasks : List TaskName) → settings.options ≡ options → tasks ≡ option_tasks options → tasks ≡ option_tasks settings.options
tasks-are settings options tasks same is = is ∙ sym (ap option_tasks same)

pub returns-in-Ok-clause-does : goal.returns-in-Ok-clause-does
returns-in-Ok-clause-does g c settings extracts options_are =
    let d = c.in-Ok.ensures.opens settings.extractor extracts in
    let k = by_objects (g.S.Store.objects c.args.store.now) in
    let before = known g.S.Store.objects g.S.Store.faults c.args.store.now in
    let after = known g.S.Store.objects g.S.Store.faults c.open.new.store in
    let options = c.writer_options.result in
    let did = opens-as k settings.extractor d.0 before after (Ok c.in-Ok.handle) options.wal_enabled c.args.wal options.max_unflushed_bytes settings.options.max_unflushed_bytes (tasks_of options) (option_tasks settings.options) c.writer_options.ensures.log (limit-is settings c.self.inside.options options.max_unflushed_bytes (options_are ∙ sym (ap (λ (l : Live). l.options) c.self.view_is)) c.writer_options.ensures.limit) (tasks-are settings c.self.inside.options (tasks_of options) (options_are ∙ sym (ap (λ (l : Live). l.options) c.self.view_is)) c.writer_options.ensures.tasks) d.1 in
    rw (← c.self.view_is) (
      d.0,
      record {
        result = Ok c.in-Ok.handle;
        replied = ap replies.Handle (c.len-object.ensures ∙ (c.reserve.new.self.ok.0 ∙ (ap length c.reserve.ensures.items ∙ sym (length-map c.self.inside.objects.items object_of))));
        does = did;
        objects = ap (map object_of) (c.push_reserved.ensures.items ∙ ap (λ xs. xs ++ objects.Handle c.in-Ok.handle ∷ []) c.reserve.ensures.items)
            ∙ map-append object_of c.self.inside.objects.items (objects.Handle c.in-Ok.handle ∷ []);
        writes = refl;
      },
    )

pub returns-in-Err-clause-does : goal.returns-in-Err-clause-does
returns-in-Err-clause-does g c settings extracts options_are =
    let d = c.in-Err.ensures.opens settings.extractor extracts in
    let k = by_objects (g.S.Store.objects c.args.store.now) in
    let before = known g.S.Store.objects g.S.Store.faults c.args.store.now in
    let after = known g.S.Store.objects g.S.Store.faults c.open.new.store in
    let options = c.writer_options.result in
    let did = opens-as k settings.extractor d.0 before after (Err c.in-Err.error) options.wal_enabled c.args.wal options.max_unflushed_bytes settings.options.max_unflushed_bytes (tasks_of options) (option_tasks settings.options) c.writer_options.ensures.log (limit-is settings c.self.inside.options options.max_unflushed_bytes (options_are ∙ sym (ap (λ (l : Live). l.options) c.self.view_is)) c.writer_options.ensures.limit) (tasks-are settings c.self.inside.options (tasks_of options) (options_are ∙ sym (ap (λ (l : Live). l.options) c.self.view_is)) c.writer_options.ensures.tasks) d.1 in
    rw (← c.self.view_is) (
      d.0,
      record {
        result = Err c.in-Err.error;
        replied = c.refusal.ensures;
        does = did;
        objects = ap (map object_of) c.reserve.ensures.items ∙ sym (append-nil _);
        writes = refl;
      },
    )

pub returns-in-Err-clause-calls : goal.returns-in-Err-clause-calls
returns-in-Err-clause-calls g c = opening-calls _ c.in-Err.error _ _ c.in-Err.ensures.calls

pub returns-in-Ok-clause-polls : goal.returns-in-Ok-clause-polls
returns-in-Ok-clause-polls g c =
    rw (← c.self.view_is) (
    pushed-polls _ _
    (ap (map poll_of) (c.push_reserved.ensures.items ∙ ap (λ xs. xs ++ objects.Handle c.in-Ok.handle ∷ []) c.reserve.ensures.items)
    ∙ map-append poll_of c.self.inside.objects.items (objects.Handle c.in-Ok.handle ∷ []))
    )
