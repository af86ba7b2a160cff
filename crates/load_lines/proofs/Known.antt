-- The worked loads, by computation.
use mathlib.Core.Path.{refl}
use Rattle.base_ten.specs.Bytes.{split}
use Rattle.base_ten.specs.Numbers.{number_from, number_of}
use Rattle.base_ten.specs.Decimal.{digits}
use Rattle.machine.proofs.Computes.{computes}
use Rattle.line_text.specs.Texts.{output_line}
use Rattle.call_text.specs.CallText.{row_text, call_text, call_line}
use Rattle.serving.specs.Serving.{called}
use Rattle.traffic.specs.Workload.{by_words, by_lines, workload_of}
use Rattle.traffic.specs.Traffic.{moved, draw, operand_drawn, number_drawn, call_drawn, calls_drawn, traffic}
use Rattle.load_lines.specs.Listing.{told, listing_with}
use Rattle.load_lines.specs.Known.{Known}

pub known : Known
unfolding computes split number_from number_of digits output_line row_text call_text call_line called by_words by_lines workload_of moved draw operand_drawn number_drawn call_drawn calls_drawn traffic told listing_with
known = (refl, (refl, (refl, (refl, (refl, (refl, (refl, (refl, (refl, (refl, (refl, (refl, (refl, (refl, (refl, (refl, (refl, tt)))))))))))))))))
