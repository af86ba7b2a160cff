use Rattle.suspects.proofs.KeptCells.{kept_starts, never_gives_up, kept_walked}
use Rattle.suspects.proofs.support.kept_of.Goals as goal

pub walk-requires : goal.walk-requires
walk-requires c = kept_starts _ _ _ c.requires _ c.supported-kept.ensures

pub unwrap-requires : goal.unwrap-requires
unwrap-requires c = never_gives_up _ _ _ c.requires _ c.supported-kept.ensures _ _ c.walk.ensures

pub returns : goal.returns
returns c = kept_walked _ _ _ c.requires _ c.supported-kept.ensures _ _ c.walk.ensures
