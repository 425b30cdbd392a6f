-- What a handle asks.
use Rattle.std.specs.declared.alloc.Global.{Global}
use Rattle.std.specs.declared.dyn_box.DynBox.{DynBox}
use Rattle.slate_receivers.specs.declared.write_handles.Asked.{Asked}
use Rattle.slate_receivers.specs.declared.write_handles.Asked.TheVariants.{Record, Waiter}

module _ {X : Type 0} {F : X → Type 0} where
  -- a fact for a waiter of the handle's own, and one for a record that it shares
  abbrev pub MatchAsked : Asked X F → (DynBox X Global F → Type 0) → Type 0 → Type 0
  MatchAsked (Record _) waiter recorded = recorded
  MatchAsked (Waiter w) waiter recorded = waiter w
