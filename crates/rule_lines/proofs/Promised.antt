-- The facts of specs/Promised together.
use Rattle.rule_lines.specs.Promised.{Promised}
use Rattle.rule_lines.proofs.StoreLaws.{step_holding, no_cell_holding, down_holding, done_clean}
use Rattle.rule_lines.proofs.HoldLaws.{fresh_cleans}
use Rattle.rule_lines.proofs.TextLaws.{clean_reads, writes_back}

pub promised : Promised
promised = record {
  freshens = λ t q r t' q' p. fresh_cleans p;
  reads = λ t q scratch line r t' q' c p. clean_reads c line p;
  writes = λ line w t q scratch room r after b h p. writes_back b room h p;
  steps = λ w t q scratch r t' q' scratch' h p. step_holding h p;
  downs = λ w t q scratch r q' h is idle p. down_holding h is idle p;
  none = λ w t q scratch h e. no_cell_holding h e;
  cleans = λ t q scratch h z. done_clean h z;
}
