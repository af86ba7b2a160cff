use Rattle.std.proofs.Common.{rules, ◌≡◌, refl, arith, length}
use Rattle.std.proofs.Math.Seq.{take-length}
use Rattle.line_text.specs.Kept.{kept_bytes}
use Rattle.serving.proofs.ThreadsLaws.{threads_one}
use Rattle.load_lines.specs.Whole.{Kept}
use Rattle.load.proofs.InputFeed.feed.Goals as goal

-- a call of `keep` is one part
pub returns-clause-feeds : goal.returns-clause-feeds
returns-clause-feeds c =
    let size : length c.args.self.now.line ≡ kept_bytes = search rules in
    let kept : Kept = record { line = c.keep-self.new.line; held = c.keep-self.result } in
    rw (take-length c.args.input.now) (record {
      threads = threads_one (record { part = c.args.input.now; after = kept }) c.keep-self.ensures;
      most = λ h. omega (arith, size, c.keep-self.ensures.most);
      gives = refl;
    })
