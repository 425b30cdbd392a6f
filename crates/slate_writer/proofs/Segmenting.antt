-- The keys of operations are given their segments one after another.
use Rattle.std.proofs.Common.{◌≡◌, ℕ, ◌<◌, ◌+◌, List, [], ◌∷◌, ◌++◌, length, take, drop, get_or, Option, Some, None, refl, sym, ap, subst, ◌∙◌, append_assoc, option_map}
use Rattle.std.specs.Option.{option_or}
use Rattle.std.proofs.lemmas.List.{append-nil}
use Rattle.slate_types.specs.declared.batches.KeyOp.{KeyOp}
use Rattle.slate_errors.specs.declared.errors.SlateError.{SlateError}
use Rattle.slate_errors.specs.declared.errors.SlateError.TheVariants.{InvalidSegmentPrefix}
use Rattle.slate_status.specs.Segments.{PrefixesRise}
use Rattle.slate_model.specs.Segments.{Extractor, empty_refusal, key_refusal, nesting_refusal, ops_refusal, prefixes_of, segments_with}
use Rattle.slate_segments.specs.Prefixes.{HaveSame, is_one_of}
use Rattle.slate_segments.proofs.Prefixes.{rising-same, same-equal, union-is}
use Rattle.slate_segments.proofs.Taking.{prefixes-more, rest, same-after, same-push, same-then}
use Rattle.slate_writer.specs.Segments.{IsConflict, prefixes_by}
use Rattle.slate_writer.proofs.Prefixes.{conflict-is, moved}

-- ---- one key
-- a key without a prefix is refused
pub key-empty : (all : List (List ℕ)) (key : List ℕ) (answer : Option (List ℕ)) (e : SlateError) → empty_refusal key answer ≡ Some e → key_refusal all key answer ≡ Some e
key-empty all key answer e empty = rw empty refl

-- one whose prefix nests with none isn't, and one whose prefix nests with another is refused by the least
pub nesting-is : (all known : List (List ℕ)) (prefix : List ℕ) (r : Option (List ℕ)) → HaveSame all known → IsConflict known prefix r → nesting_refusal all (Some prefix) ≡ option_map (λ other. InvalidSegmentPrefix prefix other) r
nesting-is all known prefix r same found = ap (option_map (λ other. InvalidSegmentPrefix prefix other)) (conflict-is all prefix r (moved prefix known all r (λ q. sym (same q)) found))

pub key-nesting : (all : List (List ℕ)) (key prefix : List ℕ) (answer : Option (List ℕ)) (r : Option SlateError) → answer ≡ Some prefix → empty_refusal key answer ≡ None → r ≡ nesting_refusal all (Some prefix) → key_refusal all key answer ≡ r
key-nesting all key prefix answer r is full nests =
    ap (λ e. option_or e (nesting_refusal all answer)) full ∙ (ap (nesting_refusal all) is ∙ sym nests)

-- ---- what is known
-- what is known with those that were taken
pub known-same : (stored segments front taken : List (List ℕ)) → HaveSame taken front → HaveSame ((stored ++ segments) ++ front) (stored ++ (segments ++ taken))
known-same stored segments front taken took =
    same-then ((stored ++ segments) ++ front) (stored ++ (segments ++ front)) (stored ++ (segments ++ taken)) (same-equal ((stored ++ segments) ++ front) (stored ++ (segments ++ front)) (append_assoc stored segments front))
    (same-after stored (segments ++ front) (segments ++ taken) (same-after segments front taken (λ q. sym (took q))))

-- ---- operations, one after another
module _ (x : Extractor) (known : List (List ℕ)) (ops : List KeyOp) (i : ℕ) (op : KeyOp) (inside : i < length ops) (item : op ≡ get_or ops i op) where
  abbrev front : List (List ℕ)
  front = prefixes_of x (take i ops)

  pub same-from : (old new : List (List ℕ)) → HaveSame old front → HaveSame new (old ++ prefixes_of x (op ∷ [])) → HaveSame new (prefixes_of x (take (i + 1) ops))
  same-from old new before added = subst (HaveSame new) (prefixes-more x ops i op inside item) (same-push old front new (prefixes_of x (op ∷ [])) before added)

  so-far : ops_refusal x known ops ≡ ops_refusal x (known ++ front) (drop i ops) →
      ops_refusal x known ops ≡ option_or (key_refusal (known ++ front) op.key (x.prefix_of op.key)) (ops_refusal x (known ++ prefixes_of x (take (i + 1) ops)) (drop (i + 1) ops))
  so-far before =
      before ∙ (ap (ops_refusal x (known ++ front)) (rest x ops i op inside item)
      ∙ ap (λ ps. option_or (key_refusal (known ++ front) op.key (x.prefix_of op.key)) (ops_refusal x ps (drop (i + 1) ops))) (append_assoc known front (prefixes_of x (op ∷ [])) ∙ ap (λ ps. known ++ ps) (prefixes-more x ops i op inside item)))

  -- an operation that isn't refused goes by
  pub refusal-next : ops_refusal x known ops ≡ ops_refusal x (known ++ front) (drop i ops) → key_refusal (known ++ front) op.key (x.prefix_of op.key) ≡ None →
      ops_refusal x known ops ≡ ops_refusal x (known ++ prefixes_of x (take (i + 1) ops)) (drop (i + 1) ops)
  refusal-next before none = so-far before ∙ ap (λ r. option_or r (ops_refusal x (known ++ prefixes_of x (take (i + 1) ops)) (drop (i + 1) ops))) none

  -- and the first that is refused is the refusal of all
  pub refusal-here : (e : SlateError) → ops_refusal x known ops ≡ ops_refusal x (known ++ front) (drop i ops) → key_refusal (known ++ front) op.key (x.prefix_of op.key) ≡ Some e → ops_refusal x known ops ≡ Some e
  refusal-here e before some = so-far before ∙ ap (λ r. option_or r (ops_refusal x (known ++ prefixes_of x (take (i + 1) ops)) (drop (i + 1) ops))) some

-- ---- the segments after them
same-nil : (a : List (List ℕ)) → HaveSame (a ++ []) a
same-nil a q = ap (λ ps. is_one_of ps q) (append-nil a)

-- what is rising and has the segments and those that were taken is what they become
pub segments-after : (x : Option Extractor) (segments taken all : List (List ℕ)) (ops : List KeyOp) → PrefixesRise segments → PrefixesRise all → HaveSame taken (prefixes_by x ops) → HaveSame all (segments ++ taken) → all ≡ segments_with x segments ops
segments-after None segments taken all ops rising rises took same =
    rising-same all segments rises rising (same-then all (segments ++ taken) segments same (same-then (segments ++ taken) (segments ++ []) segments (same-after segments taken [] took) (same-nil segments)))
segments-after (Some x) segments taken all ops rising rises took same =
    union-is segments (prefixes_of x ops) all rises (same-then all (segments ++ taken) (segments ++ prefixes_of x ops) same (same-after segments taken (prefixes_of x ops) took))
