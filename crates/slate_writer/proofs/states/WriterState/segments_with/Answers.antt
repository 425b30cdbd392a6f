use Rattle.std.proofs.Common.{◌≡◌, [], ◌++◌, cond, ap, subst, sym, ◌∙◌}
use Rattle.slate_status.specs.Segments.{PrefixesRise}
use Rattle.slate_model.specs.Handle.{Handle, untabled_segments}
use Rattle.slate_model.specs.Segments.{segments_with}
use Rattle.slate_segments.specs.Prefixes.{HaveSame}
use Rattle.slate_segments.proofs.Prefixes.{union-rising, union-same}
use Rattle.slate_segments.proofs.Taking.{same-among}
use Rattle.slate_writer.proofs.Segmenting.{segments-after}
use Rattle.slate_writer.proofs.states.WriterState.segments_with.Goals as goal

pub returns-then-are_among-clause-with : goal.returns-then-are_among-clause-with
returns-then-are_among-clause-with c x ops took =
    let h = c.args.self.now in
    let kept = c.self.inside.segments.items in
    let taken = c.args.taken.items in
    let are : h.segments ≡ kept = ap (λ (h : Handle). h.segments) (sym c.self.view_is) in
    let all : untabled_segments h ≡ h.segments = ap (λ b. cond b h.segments []) (sym c.has_untabled.ensures ∙ c.if-has_untabled.true) in
    let among = same-among c.as_slice-then-has_untabled.result.now c.as_slice.result.now (c.are_among.ensures c.if-are_among.true) in
    let by_taken = subst (λ ts. HaveSame c.as_slice-then-has_untabled.result.now (c.as_slice-then-has_untabled.result.now ++ ts)) c.as_slice.ensures.value among in
    let same = subst (λ ks. HaveSame ks (ks ++ taken)) c.as_slice-then-has_untabled.ensures.value by_taken in
    are ∙ (segments-after x kept taken kept ops c.self.invariant.rising c.self.invariant.rising took same ∙ ap (λ s. segments_with x s ops) (sym (all ∙ are)))

pub returns-clause-with : goal.returns-clause-with
returns-clause-with c x ops took =
    let h = c.args.self.now in
    let all = c.in_ok-segments.segments.items in
    let taken = c.args.taken.items in
    let rising = subst PrefixesRise c.untabled_segments.ensures.value c.untabled_segments.ensures.rising in
    let joined = c.in_ok-segments.ensures.set in
    let by_taken = subst (λ ts. HaveSame all (c.untabled_segments.result.now ++ ts)) c.as_slice-2.ensures.value (union-same c.untabled_segments.result.now c.as_slice-2.result.now all joined) in
    let same = subst (λ ks. HaveSame all (ks ++ taken)) c.untabled_segments.ensures.value by_taken in
    c.of.ensures ∙ segments-after x (untabled_segments h) taken all ops rising (union-rising c.untabled_segments.result.now c.as_slice-2.result.now all joined) took same

pub returns-clause-rising : goal.returns-clause-rising
returns-clause-rising c = subst PrefixesRise (sym c.of.ensures) (union-rising c.untabled_segments.result.now c.as_slice-2.result.now c.in_ok-segments.segments.items c.in_ok-segments.ensures.set)
