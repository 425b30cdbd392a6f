use Rattle.std.proofs.Common.{◌≡◌, ◌∙◌, Some, sym, ap, arith}
use Rattle.std.specs.Prelude.{slice_get}
use Rattle.std.specs.Option.{option_copied, option_map}
use Rattle.slate_follow.specs.Publishing.{published_state}
use Rattle.slate_live.specs.Objects.{object_of}
use Rattle.slate_live.specs.Publishing.{reader_of}
use Rattle.slate_live.specs.State.{Live}
use Rattle.slate_live.proofs.Places.{get-map_at}
use Rattle.slate_live.proofs.Publishing.{published-seen}
use Rattle.slate_live.proofs.states.LiveState.reader.Goals as goal

pub returns : goal.returns
returns c =
    let here : slice_get c.args.self.now.objects c.args.number ≡ Some (object_of c.index.result.now) =
    ap (λ (l : Live). slice_get l.objects c.args.number) (sym c.self.view_is) ∙ get-map_at object_of c.self.inside.objects.items c.args.number c.index.result.now (omega (arith, c.len.ensures, c.if-place-len.false)) c.index.ensures in
    let reader : option_copied c.reader.result ≡ reader_of (slice_get c.args.self.now.objects c.args.number) = c.reader.ensures ∙ ap reader_of (sym here) in
    record {
      reader = reader;
      sees = λ store w stands. ap (option_map published_state) reader ∙ published-seen c.args.self.now store w c.args.number stands;
    }
