-- What a handle and a follower report of themselves.
use Rattle.slate_status.specs.Records.{status_by}
use Rattle.slate_status.specs.declared.statuses.DbStatus.{DbStatus}
use Rattle.slate_model.specs.Follower.{Follower, number}
use Rattle.slate_model.specs.Handle.{Handle, untabled_segments}

-- the status of a handle: its durable number, the manifest that it goes by, the prefixes of its batches that aren't in the
-- tables of that, and why it closed
abbrev pub handle_status : Handle → DbStatus
handle_status handle = record (status_by handle.durable handle.view handle.result) { memtable_segments = untabled_segments handle }

-- the status of a follower: the number of its last batch, the manifest that it goes by, the prefixes of its batches that aren't in
-- the tables of that, and why it closed
abbrev pub follower_status : Follower → DbStatus
follower_status follower = record (status_by (number follower) follower.view follower.result) { memtable_segments = follower.segments }
