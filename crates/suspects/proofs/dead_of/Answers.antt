use mathlib.Core.Path.{ap, ◌∙◌}
use Rattle.suspects.specs.Dead.{most_suspects}
use Rattle.suspects.proofs.LostCell.{lost_some, first_starts}
use Rattle.suspects.proofs.DeadCells.{begins, finds_many, first_closed, first_listed, finds_dead}
use Rattle.suspects.proofs.dead_of.Goals as goal

pub overflow_sub-w : goal.overflow_sub-w
overflow_sub-w c = lost_some _ _ c.requires.1

pub walk-requires : goal.walk-requires
walk-requires c =
    first_starts _ _ c.requires.1 _ (c.most_of-most.ensures ∙ ap most_suspects c.capacity_of.ensures) c.requires.0
    _ (begins _ _ _ c.new-suspects.ensures c.start.ensures)

pub returns-in_err-walk : goal.returns-in_err-walk
returns-in_err-walk c =
    rw c.from_residual.ensures
    (finds_many _ _ c.requires.1 _ (c.most_of-most.ensures ∙ ap most_suspects c.capacity_of.ensures)
    _ (begins _ _ _ c.new-suspects.ensures c.start.ensures) _ c.in_err-walk.ensures)

pub kept_of-kept-requires : goal.kept_of-kept-requires
kept_of-kept-requires c =
    first_closed _ _ c.requires.1 _ (c.most_of-most.ensures ∙ ap most_suspects c.capacity_of.ensures)
    _ (begins _ _ _ c.new-suspects.ensures c.start.ensures) _ c.in_ok-walk.ensures c.requires.0

pub rest-requires : goal.rest-requires
rest-requires c =
    first_listed _ _ c.requires.1 _ (c.most_of-most.ensures ∙ ap most_suspects c.capacity_of.ensures)
    _ (begins _ _ _ c.new-suspects.ensures c.start.ensures) _ c.in_ok-walk.ensures

pub returns : goal.returns
returns c =
    finds_dead _ _ c.requires.1 _ (c.most_of-most.ensures ∙ ap most_suspects c.capacity_of.ensures)
    _ (begins _ _ _ c.new-suspects.ensures c.start.ensures) _ c.in_ok-walk.ensures _ _ c.kept_of-kept.ensures c.rest.ensures
