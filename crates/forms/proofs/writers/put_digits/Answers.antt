-- `forms::writers::put_digits` meets its contract: the last bytes of a word are the digits of its number.
-- Assumes nothing.
use Rattle.forms.specs.Numbers.{width_of}
use Rattle.forms.proofs.NumberLaws.{length_digits, word-digits}
use Rattle.forms.proofs.WriterLaws.{laid-digits}
use Rattle.forms.proofs.writers.put_digits.Goals as goal

pub returns : goal.returns
returns c = laid-digits c.put_bytes.ensures (word-digits c.args.width c.args.value c.bytes_in.ensures c.to_be_bytes.ensures) (length_digits (width_of c.args.width) c.args.value)
