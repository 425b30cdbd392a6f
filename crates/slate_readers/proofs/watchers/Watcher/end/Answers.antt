use Rattle.std.proofs.Common.{◌≡◌, List, [], ◌++◌, Option, Some, None, Result, Ok, Err, refl, ap, sym, subst, ◌∙◌}
use Rattle.std.specs.Prelude.{IfSome, OnOk}
use Rattle.std.specs.Option.{option_copied}
use mathlib.Core.List.{IsPrefix}
use Rattle.logbook.specs.Pages.{Book}
use Rattle.slate_types.specs.declared.memory.NoMemory.{NoMemory}
use Rattle.slate_published.specs.Beginnings.{Beginning}
use Rattle.slate_published.specs.Published.{Published}
use Rattle.slate_readers.specs.Watching.{IsTold}
use Rattle.slate_readers.proofs.Prefixes.{prefix_both, prefix_none, prefix_then}
use Rattle.slate_readers.proofs.watchers.Watcher.end.Goals as goal

same_beginning : (a b : Beginning) → a.origin ≡ b.origin → a.states ≡ b.states → a ≡ b
same_beginning a b origin states = ap (λ o. beginning o a.states) origin ∙ ap (beginning b.origin) states
  where
    beginning : Book → List Published → Beginning
    beginning o s = record { origin = o; states = s }

-- what a reader has seen that learned the news is what was published
seen_all : (published reader : Beginning) (news : Option Beginning) (learned : List Published) → IsTold published news →
    IfSome news (λ n. IsPrefix n.states learned) → IsPrefix learned reader.states → IsPrefix reader.states published.states → reader.origin ≡ published.origin → reader ≡ published
seen_all published reader (Some news) learned told tells later begins origin =
    let told' : IsPrefix published.states learned = subst (λ (n : Beginning). IsPrefix n.states learned) told tells in
    same_beginning reader published origin (prefix_both reader.states published.states begins (prefix_then published.states learned reader.states told' later))
seen_all published reader None learned told tells later begins origin =
    same_beginning reader published origin (prefix_none reader.states (subst (IsPrefix reader.states) told begins) ∙ sym told)

-- where the news could be copied
where_told : (published reader : Beginning) (news : Option Beginning) (learned : List Published) (result : Result (Unit {0}) NoMemory) → IsTold published news →
    OnOk result (IfSome news (λ n. IsPrefix n.states learned)) → IsPrefix learned reader.states → IsPrefix reader.states published.states → reader.origin ≡ published.origin → OnOk result (reader ≡ published)
where_told published reader news learned (Ok done) told tells later begins origin = seen_all published reader news learned told tells later begins origin
where_told published reader news learned (Err error) told tells later begins origin = tt

pub returns-clause-seen : goal.returns-clause-seen
returns-clause-seen g c =
    where_told c.args.publisher.now c.take_view.new.self.reader (option_copied c.args.news) c.learn-told.new.self.reader.states c.learn-told.result c.requires.news
    c.learn-told.ensures.told c.take_view.ensures.seen c.has_published.ensures.begins (c.take_view.ensures.origin ∙ (c.learn-told.ensures.origin ∙ c.requires.origin))
