-- Up to which number a read sees batches.
use Rattle.std.specs.Prelude.{ℕ, min, Bool, true, false, Option, Some, None}
use Rattle.slate_types.specs.declared.options.DurabilityLevel.{DurabilityLevel}
use Rattle.slate_types.specs.declared.options.DurabilityLevel.TheVariants.{Memory, Remote}

-- the least of two bounds, of which each may be absent
abbrev pub least : Option ℕ → Option ℕ → Option ℕ
least None other = other
least (Some bound) None = Some bound
least (Some bound) (Some other) = Some (min bound other)

-- a level of the object store reads what is durable alone
abbrev pub durable_bound : DurabilityLevel → ℕ → Option ℕ
durable_bound Memory durable = None
durable_bound Remote durable = Some durable

-- a read that isn't dirty reads what is committed alone
abbrev pub committed_bound : Bool → ℕ → Option ℕ
committed_bound true committed = None
committed_bound false committed = Some committed

-- the least of the bounds that a read has
abbrev pub read_bound : Option ℕ → ℕ → ℕ → DurabilityLevel → Bool → Option ℕ
read_bound user durable committed level dirty = least user (least (durable_bound level durable) (committed_bound dirty committed))
