-- The refusals of a feed's calls of its store.
use Rattle.slate_types.specs.declared.store_errors.StoreError.{StoreError}
use Rattle.slate_types.specs.declared.store_errors.StoreError.TheVariants as store
use Rattle.slate_feed.specs.declared.refusals.FeedRefusal.{FeedRefusal}
use Rattle.slate_feed.specs.declared.refusals.FeedRefusal.TheVariants as refusals

-- the refusal of a call that failed, or for which memory ran out
abbrev pub refusal_of : StoreError → FeedRefusal
refusal_of store.NoMemory = refusals.NoMemory
refusal_of error = refusals.ObjectStoreError
