use Rattle.std.proofs.Common.{◌≡◌, ◌-◌, ◌∙◌, ap, max, refl, subst}
use Rattle.slate_check.specs.declared.faults.SoundnessFault.TheVariants as of_store
use Rattle.slate_check.specs.Steps.{AreLoaded, FailsToLoad, last_id}
use Rattle.slate_check.proofs.Judging.{after-gaps, judge, latest-loaded, load-lacks}
use Rattle.slate_check.proofs.checks.check_latest.Goals as goal

pub returns-in-Ok-clause-judged : goal.returns-in-Ok-clause-judged
returns-in-Ok-clause-judged g c o h fits last =
    let latest = c.args.latest.now in
    let empty = c.new-cache.ensures o in
    let reach : c.max-reach.result ≡ max (last_id o latest) (latest.manifest.next_wal_id - 1) =
    c.max-reach.ensures ∙ (ap (λ n. max n c.saturating_sub.result) last ∙ ap (max (last_id o latest)) c.saturating_sub.ensures) in
    let found = rw c.in-Ok.is at (c.in_ok-loaded.ensures.found o h empty) in
    let loaded = latest-loaded o latest c.in-Ok.loaded.tables c.in-Ok.loaded.logs fits
    (subst (λ n. AreLoaded o latest.manifest n c.in-Ok.loaded.tables c.in-Ok.loaded.logs) reach found) in
    c.check_loaded.ensures.judged o (c.in_ok-loaded.ensures.kept ∙ h) (c.in_ok-loaded.ensures.of o h empty) loaded

pub returns-clause-judged : goal.returns-clause-judged
returns-clause-judged g c o h fits last =
    let latest = c.args.latest.now in
    let empty = c.new-cache.ensures o in
    let reach : c.max-reach.result ≡ max (last_id o latest) (latest.manifest.next_wal_id - 1) =
    c.max-reach.ensures ∙ (ap (λ n. max n c.saturating_sub.result) last ∙ ap (max (last_id o latest)) c.saturating_sub.ensures) in
    let found = rw c.in-Err.is at (c.in_ok-loaded.ensures.found o h empty) in
    judge o (of_store.Manifest latest.id c.in-Err.fault) (after-gaps o latest fits)
    (latest, fits.is, (refl, load-lacks o latest c.in-Err.fault fits (subst (λ n. FailsToLoad o latest.manifest n c.in-Err.fault) reach found)))
