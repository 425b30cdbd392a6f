-- What a look at a record shows.
use Rattle.std.specs.Prelude.{◌≡◌}
use Rattle.slate_status.specs.Records.{Record, status_of}
use Rattle.slate_status.specs.Segments.{PrefixesRise}
use Rattle.slate_receivers.specs.declared.shared.VersionedStatus.{VersionedStatus}

-- its version and its status
pub record ShowsRecord (known : Record) (shown : VersionedStatus) : Type 0 where
  pub version : shown.version ≡ known.version
  pub status : shown.status ≡ status_of known
  pub rising : PrefixesRise shown.status.memtable_segments
