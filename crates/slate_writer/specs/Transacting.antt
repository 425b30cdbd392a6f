-- The transaction of the model that a transaction represents.
use Rattle.slate_model.specs.Transaction.{Transaction}
use Rattle.slate_writer.specs.declared.transactions.Transaction.TheInside.{Inside}

abbrev pub transaction_of : Inside → Transaction
transaction_of a =
    record { id = a.id; level = a.level; own = a.own; unmarked = a.unmarked; read = a.read; scanned = a.scanned.items }
