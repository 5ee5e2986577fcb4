-- What the converter promises: the definition's answer, count and buffer; and that the bytes which it wrote are an image of the same entries.
-- Assumes nothing.
use Rattle.std.specs.Prelude.{◌≡◌, take}
use Rattle.std.proofs.Math.Option.{some}
use Rattle.forms.specs.Bytes.{Bytes}
use Rattle.rules.specs.Answers.{Accepted}
use Rattle.rules.specs.Outcomes.{Wrote}
use Rattle.rules.specs.Written.{WroteAs}
use Rattle.rules.specs.Image.{Image, image, old_image}
use Rattle.rules.specs.Convert.{converted, convert_image}

pub record ImageConverted (s buffer : Bytes) (r : Wrote) (out : Bytes) : Type 0 where
  pub wrote : WroteAs (convert_image s buffer) r out
  -- "adds a zero count to each row of an old image", and "writes floor 0"
  pub reads : r.answer ≡ Accepted → (i : Image) → old_image s ≡ some i → image (take r.count out) ≡ some (converted i)
