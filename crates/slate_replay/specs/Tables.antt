-- The errors of reading tables.
use Rattle.slate_errors.specs.declared.errors.SlateError.{SlateError}
use Rattle.slate_errors.specs.declared.errors.SlateError.TheVariants.{ObjectStoreError, NoMemory}

-- a table isn't stored, the store fails, or memory runs out
abbrev pub IsOfTables : SlateError → Type 0
IsOfTables (ObjectStoreError fault) = Unit {0}
IsOfTables NoMemory = Unit {0}
IsOfTables error = ⊥
