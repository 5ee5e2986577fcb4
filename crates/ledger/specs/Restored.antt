-- Document 02, CR 3: "The third demand then also holds from a restored store, with the image's pairs and rows counted as named before the first
-- call." CR 7: "a restored store taking the image's" floor, which is the first floor. So it is `Demand3 (after cs (restored i))`. The calls are
-- demand 3's: an accepted restore among them would begin a new log.
-- proofs/Restored.antt has the theorem.
-- Assumes nothing.
use Rattle.std.specs.Prelude.{List, []}
use Rattle.rules.specs.Image.{Image}
use Rattle.rules.specs.Restore.{image_lines, box_of}
use Rattle.ledger.specs.Ledger.{Named, each_named, Past, of_line}

-- "the image's pairs and rows counted as named": one name for each lock and write, its key and start, with its row if it is a Put
abbrev pub image_log : Image → List Named
image_log i = each_named (of_line i.defaults) (image_lines i)

-- "from a restored store", "before the first call"
abbrev pub restored : Image → Past
restored i = record { box = box_of i; floor = i.floor; log = image_log i; dropped = [] }
