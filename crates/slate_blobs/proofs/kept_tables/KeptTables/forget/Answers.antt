use Rattle.std.proofs.Common.{arith, ap, rules, not, ◌≡◌, ◌∙◌}
use Rattle.std.proofs.lemmas.Fn.{filter_same}
use Rattle.slate_blobs.specs.declared.kept_tables.KeptTable.{KeptTable}
use Rattle.slate_blobs.specs.Kept.{bytes_of, is_of, others}
use Rattle.slate_blobs.proofs.Kept.{bytes-others}
use Rattle.slate_blobs.proofs.kept_tables.KeptTables.forget.Goals as goal

pub returns-clause-tables : goal.returns-clause-tables
returns-clause-tables c = filter_same _ (λ (x : KeptTable). not (is_of c.args.id x)) _ (λ x b f' k. search rules) _ _ c.retain.ensures.filtered

pub bytes_of-self-requires : goal.bytes_of-self-requires
bytes_of-self-requires c =
    let is = filter_same _ (λ (x : KeptTable). not (is_of c.args.id x)) _ (λ x b f' k. search rules) _ _ c.retain.ensures.filtered in
    let left : bytes_of c.as_slice.result.now ≡ bytes_of (others c.args.id c.args.self.now.tables.items) = ap bytes_of (c.as_slice.ensures.value ∙ is) in
    omega (arith, left, bytes-others c.args.self.now.tables.items (λ kept. not (is_of c.args.id kept)), c.args.self.now.counted)

pub invariant_of-self : goal.invariant_of-self
invariant_of-self c =
    let is = filter_same _ (λ (x : KeptTable). not (is_of c.args.id x)) _ (λ x b f' k. search rules) _ _ c.retain.ensures.filtered in
    let left : bytes_of c.as_slice.result.now ≡ bytes_of (others c.args.id c.args.self.now.tables.items) = ap bytes_of (c.as_slice.ensures.value ∙ is) in
    record {
      counted = c.bytes_of-self.ensures ∙ ap bytes_of c.as_slice.ensures.value;
      bounded = omega (arith, left, c.bytes_of-self.ensures, bytes-others c.args.self.now.tables.items (λ kept. not (is_of c.args.id kept)));
    }
