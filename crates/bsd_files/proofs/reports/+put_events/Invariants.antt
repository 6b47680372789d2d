use Rattle.std.proofs.Common.{length}
use Rattle.bsd_files.proofs.reports.+put_events.Given as goal

abbrev pub decreases-put_events : goal.decreases-put_events
decreases-put_events l = length l.events.now
