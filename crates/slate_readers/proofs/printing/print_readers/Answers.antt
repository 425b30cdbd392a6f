use Rattle.std.proofs.Common.{◌≡◌, ◌∙◌, ◌++◌, sym, ap, append_assoc, arith, [], take}
use Rattle.std.proofs.lemmas.List.{append-nil, take_all}
use Rattle.slate_published.specs.Beginnings.{Beginning}
use Rattle.slate_readers.specs.Session.{reader_text, readers_text}
use Rattle.slate_readers.proofs.Endings.{readers-next}
use Rattle.slate_readers.proofs.printing.print_readers.Goals as goal

pub loop-place-init : goal.loop-place-init
loop-place-init c = sym (append-nil c.args.out.now.items)

pub loop-place-preserved : goal.loop-place-preserved
loop-place-preserved c =
    let d : Beginning = record { origin = record { number = 0; log_name = 0; cells_name = 0 }; states = [] } in
    let before = c.args.out.now.items in
    let text = readers_text 0 (take c.loop-place.place c.args.readers.now) in
    let line = reader_text c.loop-place.place c.args.number in
    c.in_ok-print_reader.ensures ∙ (ap (λ t. t ++ line) c.loop-place.invariant ∙ (append_assoc before text line
    ∙ ap (λ t. before ++ t) (sym (readers-next c.args.readers.now c.loop-place.place c.args.number d c.loop-place-test.true (c.requires c.loop-place.place d c.loop-place-test.true)))))
