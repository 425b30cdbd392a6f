use Rattle.std.proofs.Common.{Err, take, ◌++◌, length-append, length-take, arith}
use Rattle.slate_types.proofs.Modelled.{modelled_then}
use Rattle.slate_streams.specs.declared.whole.InputFault.TheVariants.{TooLong}
use Rattle.slate_streams.specs.Whole.{ReadsWhole}
use Rattle.slate_streams.proofs.Fronts.{more_taken}
use Rattle.slate_streams.proofs.whole.read_whole.Goals as goal

pub returns-then-count-limit-clause-where_modelled : goal.returns-then-count-limit-clause-where_modelled
returns-then-count-limit-clause-where_modelled g c =
    let bytes = c.loop-count.bytes.items in
    let more = take c.in-Got.count c.read.new.buf in
    modelled_then (ReadsWhole c.args.limit (Err TooLong)) c.loop-count.invariant.where_modelled c.in-Got.ensures.where_modelled
    (λ left left' left'' e h. (bytes ++ more, more_taken bytes more left left' left'' e h, omega (arith, length-append bytes more, length-take c.in-Got.count c.read.new.buf, c.in-Got.ensures.fits)))
