-- The worked cases, by computation.
use mathlib.Core.Path.{refl}
use Rattle.base_ten.specs.Bytes.{split}
use Rattle.base_ten.specs.Numbers.{number_from, number_of}
use Rattle.base_ten.specs.Decimal.{digits}
use Rattle.machine.proofs.Computes.{computes}
use Rattle.line_text.specs.Requests.{with_none, with_one, with_two, by_words, request_of}
use Rattle.line_text.specs.Texts.{output_line}
use Rattle.serving.specs.Serving.{called}
use Rattle.session_lines.specs.Listing.{listing_with, listed}
use Rattle.session_lines.specs.Known.{Known}

pub known : Known
unfolding computes listing_with listed called split number_from number_of with_none with_one with_two by_words request_of digits output_line
known = (refl, (refl, (refl, (refl, (refl, (refl, (refl, (refl, (refl, (refl, (refl, (refl, (refl, tt)))))))))))))
