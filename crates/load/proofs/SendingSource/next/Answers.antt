use Rattle.serving.proofs.ThreadsLaws.{threads_one}
use Rattle.load.proofs.SendingSource.next.Goals as goal

-- a call of `next` is one part
pub returns-clause-send : goal.returns-clause-send
returns-clause-send c =
    let written = c.next-written in
    record {
      threads = threads_one (record {
        buffer = written.new.out;
        written = written.result.written;
        after = record { load = written.result.load; table = written.new.table; scratch = written.new.scratch };
      }) written.ensures;
      goes = c.is_more.ensures;
    }
