use Rattle.session_lines.proofs.feed.Goals as goal

pub returns : goal.returns
returns c = c.serve_lines.ensures.feeds
