use Rattle.std.proofs.Common.{◌≡◌, ◌∙◌, ◌++◌, Some, ap, arith, drop, get_or, refl, subst, suc, sym, take}
use Rattle.std.proofs.lemmas.List.{take_all}
use Rattle.std.proofs.lemmas.List.Elements.{All-more}
use Rattle.std.specs.List.{All, flat_map}
use Rattle.slate_store.proofs.Joining.{batches-more}
use Rattle.slate_store.specs.declared.objects.TableId.{TableId}
use Rattle.slate_store.specs.Content.{StoresTable, table_batches}
use Rattle.slate_store.specs.Objects.{table_at}
use Rattle.slate_check.proofs.Lists.{around}
use Rattle.slate_check.proofs.Reading.{flat-push, is-empty, stores}
use Rattle.slate_check.proofs.reads.Cache.read_tables.Goals as goal

pub returns-in_default-clause-found : goal.returns-in_default-clause-found
returns-in_default-clause-found g c o h a =
    let none : TableId = record { epoch = 0; index = 0 } in
    let i = c.loop-id.invariant in
    let n = c.loop-id.id-index in
    let ids = c.args.ids.now in
    let missing = sym (c.in_ok-table.ensures.found o (i.kept ∙ h) (i.of o h a)) ∙ c.in_default.is in
    ((take n ids, drop (suc n) ids, around ids n (get_or ids n none) none c.loop-id-test.true refl, i.stored o h a), missing)

pub returns-then-is_empty-clause-found : goal.returns-then-is_empty-clause-found
returns-then-is_empty-clause-found g c o h a =
    let none : TableId = record { epoch = 0; index = 0 } in
    let i = c.loop-id.invariant in
    let n = c.loop-id.id-index in
    let ids = c.args.ids.now in
    let at = sym (c.in_ok-table.ensures.found o (i.kept ∙ h) (i.of o h a)) ∙ c.in-Some.is in
    let empty = is-empty c.batches.result.now (sym c.is_empty.ensures ∙ c.if-is_empty.true) in
    let none_in = sym c.batches.ensures.value ∙ empty in
    ((take n ids, drop (suc n) ids, around ids n (get_or ids n none) none c.loop-id-test.true refl, i.stored o h a), at ∙ ap Some none_in)

pub loop-id-preserved : goal.loop-id-preserved
loop-id-preserved g c =
    let none : TableId = record { epoch = 0; index = 0 } in
    let i = c.loop-id.invariant in
    let n = c.loop-id.id-index in
    let ids = c.args.ids.now in
    let id = get_or ids n none in
    let table = c.in-Some.table in
    record {
      kept = c.in_ok-table.ensures.kept ∙ i.kept;
      faults = let n = c.in_ok-table.ensures.count in omega (arith, n, i.faults);
      of = λ o h a. c.in_ok-table.ensures.of o (i.kept ∙ h) (i.of o h a);
      stored = λ o h a.
          let at : table_at id o ≡ Some table = sym (c.in_ok-table.ensures.found o (i.kept ∙ h) (i.of o h a)) ∙ c.in-Some.is in
          let value = c.batches.ensures.value in
          let some = stores o id c.batches.result.now (sym c.is_empty.ensures ∙ c.if-is_empty.false) (at ∙ ap Some (sym value)) in
          All-more (StoresTable o) ids n none c.loop-id-test.true (i.stored o h a) some;
      joined = λ o h a.
          let at : table_at id o ≡ Some table = sym (c.in_ok-table.ensures.found o (i.kept ∙ h) (i.of o h a)) ∙ c.in-Some.is in
          ap (flat_map (λ t. t)) c.in_ok-push.ensures ∙ (flat-push c.loop-id.tables.items table
          ∙ (ap (λ l. l ++ table) (i.joined o h a) ∙ sym (batches-more o ids n id none table c.loop-id-test.true refl at)));
    }

pub returns-clause-found : goal.returns-clause-found
returns-clause-found g c o h a =
    let i = c.loop-id.invariant in
    let whole = take_all c.loop-id.id-index c.args.ids.now c.loop-id-test.false in
    (subst (All (StoresTable o)) whole (i.stored o h a), ap (flat_map (λ t. t)) c.of.ensures ∙ (i.joined o h a ∙ ap (table_batches o) whole))
