use Rattle.std.proofs.Common.{◌≡◌, ◌∙◌, ap, map}
use Rattle.slate_status.specs.declared.segments.SegmentPrefix.{SegmentPrefix}
use Rattle.slate_status.proofs.Unions.{prefixes_of_named}
use Rattle.slate_status.proofs.statuses.DbStatus.list_segments.Goals as goal

pub returns-clause-union : goal.returns-clause-union
returns-clause-union c =
    let listed : map (λ (s : SegmentPrefix). s.prefix) c.of.result ≡ c.in_ok-prefixes.prefixes.items =
    ap (map (λ (s : SegmentPrefix). s.prefix)) (c.of.ensures ∙ c.in_ok-segments_of.ensures) ∙ prefixes_of_named c.in_ok-prefixes.prefixes.items in
    rw (listed, ← c.as_slice-stored.ensures, ← c.as_slice.ensures) c.in_ok-prefixes.ensures.union

pub returns-clause-set : goal.returns-clause-set
returns-clause-set c =
    let listed : map (λ (s : SegmentPrefix). s.prefix) c.of.result ≡ c.in_ok-prefixes.prefixes.items =
    ap (map (λ (s : SegmentPrefix). s.prefix)) (c.of.ensures ∙ c.in_ok-segments_of.ensures) ∙ prefixes_of_named c.in_ok-prefixes.prefixes.items in
    rw (listed, ← c.as_slice-stored.ensures, ← c.as_slice.ensures) c.in_ok-prefixes.ensures.set
