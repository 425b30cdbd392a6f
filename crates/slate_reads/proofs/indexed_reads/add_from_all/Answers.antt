use Rattle.std.proofs.Common.{sym, ◌∙◌, ap, subst, ◌++◌, false}
use Rattle.std.specs.List.{flat_map}
use Rattle.std.proofs.lemmas.List.{append_assoc}
use Rattle.std.proofs.lemmas.Result.{IfOk-weaker}
use Rattle.slate_reads.specs.Tails.{IsEnd}
use Rattle.slate_reads.specs.Read.{history}
use Rattle.slate_reads.proofs.Ends.{history-append, IsEnd-ended}
use Rattle.slate_reads.proofs.indexed_reads.add_from_all.Goals as goal

pub returns-then-branch : goal.returns-then-branch
returns-then-branch c whole rest end =
    let key = c.args.key.now in
    let stored = flat_map (λ table. table) c.args.stored.now in
    let memory = flat_map (λ table. table) c.args.memory.now in
    let before = rest ++ history stored c.args.bound key in
    let last = ap (λ vs. rest ++ vs) (history-append stored memory c.args.bound key) ∙ sym (append_assoc rest (history stored c.args.bound key) (history memory c.args.bound key)) in
    let taken = c.in_ok-add_from_tables.ensures whole before (subst (λ vs. IsEnd key whole vs false c.args.newest.now.items) last end) in
    IsEnd-ended key whole before rest c.add_from_tables.new.newest.items (subst (λ ended. IsEnd key whole before ended c.add_from_tables.new.newest.items) c.if-branch.true taken)

pub returns : goal.returns
returns c =
    let key = c.args.key.now in
    let stored = flat_map (λ table. table) c.args.stored.now in
    let memory = flat_map (λ table. table) c.args.memory.now in
    IfOk-weaker c.add_from_tables-2.result _ _
    (λ ended taken whole rest end.
    let before = rest ++ history stored c.args.bound key in
    let last = ap (λ vs. rest ++ vs) (history-append stored memory c.args.bound key) ∙ sym (append_assoc rest (history stored c.args.bound key) (history memory c.args.bound key)) in
    taken whole rest (subst (λ ended. IsEnd key whole before ended c.add_from_tables.new.newest.items) c.if-branch.false (c.in_ok-add_from_tables.ensures whole before (subst (λ vs. IsEnd key whole vs false c.args.newest.now.items) last end))))
    c.add_from_tables-2.ensures
