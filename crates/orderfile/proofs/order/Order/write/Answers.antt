use Rattle.std.proofs.Common.{rules}
use Rattle.orderfile.proofs.RoundTrip.{written_reads_back}
use Rattle.orderfile.proofs.order.Order.write.Goals as goal

pub returns-clause-reads_back : goal.returns-clause-reads_back
returns-clause-reads_back c = search (rules, written_reads_back)
