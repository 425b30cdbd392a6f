-- Batches as bytes: how they are read, their one spelling, and which have one.
use Rattle.std.specs.Prelude.{ℕ, ℤ, zero, suc, List, [], ◌∷◌, Option, Result, Ok, Err}
use Rattle.slate_types.specs.declared.batches.Batch.{Batch}
use Rattle.slate_types.specs.declared.batches.KeyOp.{KeyOp}
use Rattle.slate_types.specs.declared.batches.Op.{Op}
use Rattle.slate_types.specs.declared.batches.Op.TheVariants as ops
use Rattle.slate_objects.specs.declared.faults.DecodeFault.{DecodeFault}
use Rattle.slate_objects.specs.declared.faults.DecodeFault.TheVariants.{UnknownTag}
use Rattle.slate_objects.specs.Reading.{◌>>=◌, both_at, bytes_at, list_at, made_at, number_at, option_at, tag_at, time_at}
use Rattle.slate_objects.specs.Spelling.{BothFit, BytesFit, ListFits, NumberFits, OptionFits, TimeFits, both_of, bytes_of, list_of, number, option_of, time}

-- a value or an operand, and its time of expiry
abbrev pub Value : Type 0
Value = List ℕ × Option ℤ

abbrev pub value_at : List ℕ → Result (Value × List ℕ) DecodeFault
value_at = both_at bytes_at (option_at time_at)

abbrev pub value_of : Value → List ℕ
value_of = both_of bytes_of (option_of time)

abbrev pub ValueFits : Value → Type 0
ValueFits = BothFit BytesFit (OptionFits TimeFits)

-- an operation: a tag, which is 0 of a put, 1 of a delete and 2 of a merge, and what belongs to it
abbrev pub op_by : ℕ → List ℕ → Result (Op × List ℕ) DecodeFault
op_by zero bytes = made_at (λ (p : Value). ops.Put p.0 p.1) value_at bytes
op_by (suc zero) bytes = Ok (ops.Delete, bytes)
op_by (suc (suc zero)) bytes = made_at (λ (p : Value). ops.Merge p.0 p.1) value_at bytes
op_by (suc (suc (suc n))) bytes = Err (UnknownTag (suc (suc (suc n))))

unfoldable pub op_at : List ℕ → Result (Op × List ℕ) DecodeFault
op_at bytes = do
  tag ← tag_at bytes
  op_by tag.0 tag.1

abbrev pub op_of : Op → List ℕ
op_of (ops.Put value expire) = 0 ∷ value_of (value, expire)
op_of ops.Delete = 1 ∷ []
op_of (ops.Merge operand expire) = 2 ∷ value_of (operand, expire)

abbrev pub OpFits : Op → Type 0
OpFits (ops.Put value expire) = ValueFits (value, expire)
OpFits ops.Delete = Unit {0}
OpFits (ops.Merge operand expire) = ValueFits (operand, expire)

-- an operation on a key: the key, and the operation
unfoldable pub key_op_at : List ℕ → Result (KeyOp × List ℕ) DecodeFault
key_op_at = made_at (λ (p : List ℕ × Op). record { key = p.0; op = p.1 }) (both_at bytes_at op_at)

abbrev pub key_op_of : KeyOp → List ℕ
key_op_of o = both_of bytes_of op_of (o.key, o.op)

abbrev pub KeyOpFits : KeyOp → Type 0
KeyOpFits o = BothFit BytesFit OpFits (o.key, o.op)

-- a batch: its number, its time, and its operations
unfoldable pub batch_at : List ℕ → Result (Batch × List ℕ) DecodeFault
batch_at =
    made_at (λ (p : ℕ × (ℤ × List KeyOp)). record { number = p.0; create_ts = p.1.0; ops = p.1.1 })
    (both_at number_at (both_at time_at (list_at key_op_at)))

abbrev pub batch_of : Batch → List ℕ
batch_of batch = both_of number (both_of time (list_of key_op_of)) (batch.number, (batch.create_ts, batch.ops))

abbrev pub BatchFits : Batch → Type 0
BatchFits batch = BothFit NumberFits (BothFit TimeFits (ListFits KeyOpFits)) (batch.number, (batch.create_ts, batch.ops))
