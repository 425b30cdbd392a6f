use Rattle.std.proofs.Common.{arith}
use Rattle.slate_rows.proofs.Leb128.{Leb128-one, Leb128-more}
use Rattle.slate_rows.proofs.varints.varint_len.Goals as goal

pub returns-in-0-to-127 : goal.returns-in-0-to-127
returns-in-0-to-127 c = Leb128-one _ (omega arith)

pub returns-in-128-to-16383 : goal.returns-in-128-to-16383
returns-in-128-to-16383 c = Leb128-more _ 1 (omega arith) (Leb128-one _ (omega arith))

pub returns-in-16384-to-2097151 : goal.returns-in-16384-to-2097151
returns-in-16384-to-2097151 c = Leb128-more _ 2 (omega arith) (Leb128-more _ 1 (omega arith) (Leb128-one _ (omega arith)))

pub returns-in-2097152-to-268435455 : goal.returns-in-2097152-to-268435455
returns-in-2097152-to-268435455 c =
    Leb128-more _ 3 (omega arith) (Leb128-more _ 2 (omega arith) (Leb128-more _ 1 (omega arith) (Leb128-one _ (omega arith))))

pub returns-in-268435456-to-4294967295 : goal.returns-in-268435456-to-4294967295
returns-in-268435456-to-4294967295 c =
    Leb128-more _ 4 (omega arith) (Leb128-more _ 3 (omega arith) (Leb128-more _ 2 (omega arith) (Leb128-more _ 1 (omega arith) (Leb128-one _ (omega arith)))))
