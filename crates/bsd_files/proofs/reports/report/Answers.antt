use Rattle.std.proofs.Common.{ap, ◌∙◌, min}
use Rattle.open_files.specs.PlainParts.{plain_in}
use Rattle.bsd_files.proofs.Reporting.{report_length, report_buffer}
use Rattle.bsd_files.proofs.reports.report.Goals as goal

pub returns-clause-count : goal.returns-clause-count
returns-clause-count c =
    report_length (plain_in c.args.plain.now) c.args.most c.scan-count.result c.min-most.result c.args.queue.now
    (c.min-most.ensures ∙ ap (min c.args.most) c.count.ensures.count) c.scan-count.ensures.count

pub returns-clause-buffer : goal.returns-clause-buffer
returns-clause-buffer c =
    c.put_events.ensures
    ∙ report_buffer (plain_in c.args.plain.now) c.args.most c.scan-count.result c.min-most.result c.args.queue.now c.scan-count.new.into c.args.events.now c.args.buffer.now
    (c.min-most.ensures ∙ ap (min c.args.most) c.count.ensures.count) c.scan-count.ensures.count c.scan-count.ensures.events
