use Rattle.std.proofs.Common.{◌≤◌, List, ap, subst, ℕ}
use Rattle.std.specs.List.{AllByRecursion}
use Rattle.std.specs.Map.{keys_of}
use Rattle.slate_store.specs.declared.objects.Manifest.{Manifest}
use Rattle.slate_store.proofs.LastLog.{all-up_to}
use Rattle.slate_store.proofs.memory_store.MemoryStoreStore.latest_manifest.Goals as goal

pub returns-in_ok-clone-in-Some-clause-greatest : goal.returns-in_ok-clone-in-Some-clause-greatest
returns-in_ok-clone-in-Some-clause-greatest c =
    let id = c.in-Some.id.now in
    subst (λ (entries : List (ℕ × Manifest)). AllByRecursion (λ x. x ≤ id) (keys_of entries)) (ap (λ s. s.manifests.entries) c.count_call.ensures)
    (all-up_to id c.count_call.new.self.manifests.entries c.in-Some.ensures.all_up_to)
