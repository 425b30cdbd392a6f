use Rattle.std.proofs.Common.{◌≡◌, length, take, drop, length-take, arith}
use Rattle.std.proofs.lemmas.List.{take_rest}
use Rattle.slate_types.proofs.Modelled.{modelled_some}
use Rattle.slate_streams.proofs.Fronts.{front_copied}
use Rattle.slate_streams.proofs.slice_sources.SliceSourceSource.read.Goals as goal

pub returns-clause-where_modelled : goal.returns-clause-where_modelled
returns-clause-where_modelled c =
    let count = c.min-count.result in
    let start = c.self.inside.start in
    let bytes = c.self.inside.bytes.items in
    let copied : c.copy_from_slice.new.self ≡ take count (drop start bytes) = grind (arith, take_rest bytes start) in
    let len : length c.copy_from_slice.new.self ≡ count = omega (arith, length-take count c.args.buf.now) in
    modelled_some _ _ _ (rw (← c.self.view_is) (front_copied count start bytes c.copy_from_slice.new.self (drop count c.args.buf.now) copied len))
