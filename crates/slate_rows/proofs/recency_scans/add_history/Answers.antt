use Rattle.std.proofs.Common.{◌≡◌, sym, ◌∙◌, ap, ◌++◌, [], map, reverse}
use Rattle.std.proofs.lemmas.List.{append-nil, reverse-reverse, take_all}
use Rattle.slate_reads.specs.Read.{history}
use Rattle.slate_reads.specs.Tails.{seen, IsBack}
use Rattle.slate_rows.specs.Recency.{entry_of, version_entry}
use Rattle.slate_rows.proofs.Listing.{entries-held}
use Rattle.slate_rows.proofs.recency_scans.add_history.Goals as goal

pub returns : goal.returns
returns c =
    let key = c.args.key.now in
    let versions = history c.args.table.now c.args.bound key in
    let held = c.add_newest_versions.new.newest.items in
    let none : IsBack key versions versions c.clear.new.self.items = rw c.clear.ensures.items (record { joined = append-nil versions; same_key = tt }) in
    let back = c.in_ok-add_newest_versions.ensures versions [] none in
    let newest : map seen held ≡ reverse versions = sym (reverse-reverse (map seen held)) ∙ ap reverse back.joined in
    c.loop-version.invariant
    ∙ ap (λ hs. c.args.entries.now.items ++ map (λ h. entry_of h.batch.now h.key_op.now) hs) (take_all c.loop-version.version-index c.as_slice-version-items.result.now c.loop-version-test.false ∙ c.as_slice-version-items.ensures.value)
    ∙ ap (λ es. c.args.entries.now.items ++ es) (entries-held key held back.same_key ∙ ap (map (version_entry key)) newest)
