use Rattle.load_lines.proofs.next.Goals as goal

pub returns-in-None : goal.returns-in-None
returns-in-None c = c.bad_line.ensures _ _
