-- What adding an operation makes of a batch.
use Rattle.std.specs.Prelude.{List, [], ◌∷◌, ◌++◌, filter, not}
use Rattle.std.specs.Str.{bytes_eq}
use Rattle.slate_types.specs.declared.batches.KeyOp.{KeyOp}

-- operations with a put or a delete added, which removes the earlier ones on its key
abbrev pub with_base : List KeyOp → KeyOp → List KeyOp
with_base ops added = filter (λ o. not (bytes_eq o.key added.key)) ops ++ added ∷ []

-- operations with a merge added
abbrev pub with_merge : List KeyOp → KeyOp → List KeyOp
with_merge ops added = ops ++ added ∷ []
