use Rattle.lx_machine.proofs.thread_table.+push_free.Given as goal

abbrev pub decreases-push_free : goal.decreases-push_free
decreases-push_free l = l.count
