use Rattle.rule_lines.specs.Progress.{state}
use Rattle.serving.proofs.ThreadsLaws.{threads_one}
use Rattle.rules.proofs.AnsweringFeed.feed.Goals as goal

-- a call of `feed` is one part
pub returns-clause-feeds : goal.returns-clause-feeds
returns-clause-feeds c =
    let fed = c.feed-fed in
    threads_one (record {
      input = c.args.input.now;
      taken = fed.result.taken;
      buffer = fed.new.out;
      written = fed.result.written;
      after = state fed.result.state fed.new.table fed.new.scratch fed.new.line;
    }) fed.ensures
