-- The state of a reader that is published.
use Rattle.slate_published.specs.Published.{Published}
use Rattle.slate_model.specs.Follower.{Follower, number}

-- what a reader sees: its number, the manifest that it goes by, and its batches in memory
abbrev pub published_state : Follower → Published
published_state follower =
    record {
      number = number follower;
      manifest_id = follower.view.id;
      tables = follower.view.manifest.tables;
      last_l0_seq = follower.view.manifest.last_l0_seq;
      memory = follower.line.batches;
    }
