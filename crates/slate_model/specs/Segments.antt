-- Segments of keys: the prefixes that an extractor cuts off them, and what refuses keys by these.
use Rattle.std.specs.Prelude.{◌≡◌, ℕ, Bool, ◌&&◌, ◌||◌, not, nat_eq, if◌then◌else◌, List, [], ◌∷◌, ◌++◌, Option, Some, None, option_map}
use Rattle.std.specs.FinMap.{keys}
use Rattle.std.specs.List.{filter_map, find, flat_map, starts_with}
use Rattle.std.specs.Option.{option_eq, option_or}
use Rattle.std.specs.Str.{bytes_eq}
use Rattle.slate_types.specs.declared.batches.Batch.{Batch}
use Rattle.slate_types.specs.declared.batches.KeyOp.{KeyOp}
use Rattle.slate_store.specs.declared.objects.Manifest.{Manifest}
use Rattle.slate_status.specs.Segments.{set_of, union_of}
use Rattle.slate_errors.specs.declared.errors.SlateError.{SlateError}
use Rattle.slate_errors.specs.declared.errors.SlateError.TheVariants.{EmptySegmentPrefix, InvalidSegmentPrefix, SegmentExtractorMismatch, SegmentPrefixNotRecognized}

-- a lawful extractor: its name, and the prefix of each key that has one
pub record Extractor : Type 0 where
  pub name : List ℕ
  pub prefix_of : List ℕ → Option (List ℕ)

-- an extractor is lawful, and this one, where it answers this name and these prefixes and nothing else
pub record IsLawful {E : Type 0} (may_name : E → List ℕ → Type 0) (may_extract : E → List ℕ → Option (List ℕ) → Type 0) (e : E) (extractor : Extractor) : Type 0 where
  pub name : (answer : List ℕ) → may_name e answer → answer ≡ extractor.name
  pub prefix_of : (key : List ℕ) (answer : Option (List ℕ)) → may_extract e key answer → answer ≡ extractor.prefix_of key

-- the extractor of a call: none, or a lawful one
abbrev pub IsExtractor : {E : Type 0} → (E → List ℕ → Type 0) → (E → List ℕ → Option (List ℕ) → Type 0) → Option E → Option Extractor → Type 0
IsExtractor may_name may_extract None None = Unit {0}
IsExtractor may_name may_extract (Some e) (Some extractor) = IsLawful may_name may_extract e extractor
IsExtractor may_name may_extract None (Some extractor) = ⊥
IsExtractor may_name may_extract (Some e) None = ⊥

abbrev pub extractor_name : Option Extractor → Option (List ℕ)
extractor_name extractor = option_map (λ e. e.name) extractor

-- the prefixes of the keys of operations
abbrev pub prefixes_of : Extractor → List KeyOp → List (List ℕ)
prefixes_of extractor ops = filter_map (λ o. extractor.prefix_of o.key) ops

-- these segments and those of operations, rising
abbrev pub segments_with : Option Extractor → List (List ℕ) → List KeyOp → List (List ℕ)
segments_with None segments ops = segments
segments_with (Some extractor) segments ops = union_of segments (prefixes_of extractor ops)

-- the operations of batches
abbrev pub ops_of : List Batch → List KeyOp
ops_of batches = flat_map (λ batch. batch.ops) batches

-- the segments of batches, rising
abbrev pub segments_of : Option Extractor → List Batch → List (List ℕ)
segments_of extractor batches = segments_with extractor [] (ops_of batches)

-- two prefixes nest where they differ and one begins the other
abbrev pub nest : List ℕ → List ℕ → Bool
nest one other = not (bytes_eq one other) && (starts_with nat_eq one other || starts_with nat_eq other one)

-- the least of the known prefixes that nests with this one: the first, in their order
abbrev pub conflict : (known : List (List ℕ)) → List ℕ → Option (List ℕ)
conflict known prefix = find (nest prefix) (keys (set_of known))

-- the refusal of a key by what an extractor answers of it: no prefix, or an empty one
abbrev pub empty_refusal : (key : List ℕ) → Option (List ℕ) → Option SlateError
empty_refusal key None = Some (EmptySegmentPrefix key)
empty_refusal key (Some []) = Some (EmptySegmentPrefix key)
empty_refusal key (Some (byte ∷ bytes)) = None

-- or by one that nests with a known one
abbrev pub nesting_refusal : (known : List (List ℕ)) → Option (List ℕ) → Option SlateError
nesting_refusal known None = None
nesting_refusal known (Some prefix) = option_map (λ other. InvalidSegmentPrefix prefix other) (conflict known prefix)

abbrev pub key_refusal : (known : List (List ℕ)) → (key : List ℕ) → Option (List ℕ) → Option SlateError
key_refusal known key prefix = option_or (empty_refusal key prefix) (nesting_refusal known prefix)

-- the refusal of the first operation whose key is refused by the prefixes that are known, or those of the operations before
abbrev pub ops_refusal : Extractor → (known : List (List ℕ)) → List KeyOp → Option SlateError
ops_refusal extractor known [] = None
ops_refusal extractor known (op ∷ ops) =
    option_or (key_refusal known op.key (extractor.prefix_of op.key)) (ops_refusal extractor (known ++ prefixes_of extractor (op ∷ [])) ops)

abbrev pub segment_refusal : Option Extractor → (known : List (List ℕ)) → List KeyOp → Option SlateError
segment_refusal None known ops = None
segment_refusal (Some extractor) known ops = ops_refusal extractor known ops

-- the refusal of the first key of operations that has no prefix, or an empty one
abbrev pub unsegmented_refusal : Option Extractor → List KeyOp → Option SlateError
unsegmented_refusal None ops = None
unsegmented_refusal (Some extractor) [] = None
unsegmented_refusal (Some extractor) (op ∷ ops) =
    option_or (empty_refusal op.key (extractor.prefix_of op.key)) (unsegmented_refusal (Some extractor) ops)

-- the refusal of an extractor by a manifest that was written with one of another name, or with none, or without
abbrev pub name_refusal : (persisted configured : Option (List ℕ)) → Option SlateError
name_refusal persisted configured = if option_eq bytes_eq persisted configured then None else Some (SegmentExtractorMismatch persisted configured)

-- whether an extractor answers a prefix of itself
abbrev pub recognizes : Extractor → List ℕ → Bool
recognizes extractor prefix = option_eq bytes_eq (extractor.prefix_of prefix) (Some prefix)

-- the refusal of an extractor by the first stored prefix that it doesn't answer of itself
abbrev pub prefix_refusal : Option Extractor → (stored : List (List ℕ)) → Option SlateError
prefix_refusal None stored = None
prefix_refusal (Some extractor) stored = option_map (λ prefix. SegmentPrefixNotRecognized prefix extractor.name) (find (λ p. not (recognizes extractor p)) stored)

-- why a database with this manifest can't be opened with an extractor
abbrev pub extractor_refusal : Option Extractor → Manifest → Option SlateError
extractor_refusal extractor manifest =
    option_or (name_refusal manifest.extractor_name (extractor_name extractor)) (prefix_refusal extractor manifest.segments)
