use mathlib.Core.Path.{◌∙◌}
use Rattle.machine.specs.Queue.{waiting}
use Rattle.scratch_counts.proofs.Counts.{scratch_of}
use Rattle.audit_packets.proofs.NamesInScratch.{matched_counted, names_past}
use Rattle.audit_packets.proofs.names.names_counted.Goals as goal

pub count_names-requires : goal.count_names-requires
count_names-requires c =
    let lent = c.requires in
    (lent.shape.queue, scratch_of _ _ c.args.table.now c.capacity_of.ensures lent.scratch)

pub returns : goal.returns
returns c =
    let i = c.args in
    let e = c.capacity_of.ensures in
    let counted = c.count_names.ensures in
    record {
      answer = c.counts_match.ensures ∙ matched_counted i.table.now (waiting i.queue.now) _ _ _ e counted;
      past = names_past i.table.now (waiting i.queue.now) _ _ _ e counted;
    }
