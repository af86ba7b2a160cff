use Rattle.serving.proofs.ThreadsLaws.{threads_one}
use Rattle.session.proofs.ServingFeed.feed.Goals as goal

-- a call of `feed` is one part
pub returns-clause-feeds : goal.returns-clause-feeds
returns-clause-feeds c =
    let fed = c.feed-fed in
    threads_one (record {
      input = c.args.input.now;
      taken = fed.result.taken;
      buffer = fed.new.out;
      written = fed.result.written;
      after = record { session = fed.result.state; table = fed.new.table; scratch = fed.new.scratch };
    }) fed.ensures
