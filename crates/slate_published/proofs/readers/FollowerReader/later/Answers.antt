use Rattle.std.proofs.Common.{refl}
use Rattle.slate_published.proofs.Showing.{shows}
use Rattle.slate_published.proofs.readers.FollowerReader.later.Goals as goal

pub enter_as-requires : goal.enter_as-requires
enter_as-requires c x = shows _ _ x x refl
