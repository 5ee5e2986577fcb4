-- Demand 2's sentence about shown rows, carried to what `read` answers and `row_of` hands back.
-- Assumes nothing.
use Prim.Native.Nat.{ℕ}
use mathlib.Core.Path.{◌≡◌, refl, sym, ap, ◌∙◌}
use mathlib.Core.Bool.{true≢false}
use mathlib.Core.Logic.{◌↔◌}
use Rattle.forms.specs.Bytes.{Bytes, bytes_at}
use Rattle.forms.specs.Row.{Row}
use Rattle.rules.specs.Answers.{shown}
use Rattle.rules.specs.Read.{read}
use Rattle.rules.specs.Shown.{Asked, Shows, NewestPut}
use Rattle.rules.proofs.ShownRows.{shown-rows}
use Rattle.store.specs.View.{box_of}
use Rattle.store.specs.Made.{Made}
use Rattle.store.specs.declared.table.Store.{Store}
use Rattle.std.specs.Prelude.{Some, None, Ok, Err}
use Rattle.reads.specs.Seen.{RowSeen, seen_in}
use Rattle.reads.specs.Shown.{AskedOf, ShowsRow, RowsSeen}
use Rattle.reads.proofs.PartLaws.{shows-part}

asked : (store : Store) (area key : Bytes) (m : ℕ) → Made store area → AskedOf store.floor key m (box_of store area) → Asked store.floor key m (box_of store area)
asked store area key m made a = record { above = a.above; valid = a.valid; sound = a.sound; free = a.free; sorted = made.built.kept.sorted }

-- an answer whose reply shows a row is a row
is_row : (area : Bytes) (s : RowSeen) (part row : Bytes) → seen_in area s ≡ shown row → part ≡ row → ShowsRow s part row
is_row area (Ok None) part row e p = absurd (true≢false (cc))
is_row area (Ok (Some q)) part row e p = record { place = q; answers = refl; hands = p }
is_row area (Err w) part row e p = absurd (true≢false (cc))

pub rows_seen : RowsSeen
unfolding read
rows_seen store area key m g part row made a r p = (out, into)
  where
    theorem : Shows store.floor key m (box_of store area) row ↔ NewestPut key m (box_of store area) row
    theorem = shown-rows store.floor key m (box_of store area) row (asked store area key m made a)

    shows : ShowsRow g.seen part row → Shows store.floor key m (box_of store area) row
    shows q =
        let e : read store.floor key m (box_of store area) ≡ shown (bytes_at area q.place.at q.place.len) = sym r.seen_as.is ∙ ap (seen_in area) q.answers in
        e ∙ ap shown (sym (shows-part r.seen_as p e) ∙ q.hands)

    out : ShowsRow g.seen part row → NewestPut key m (box_of store area) row
    out q = theorem.0 (shows q)

    into : NewestPut key m (box_of store area) row → ShowsRow g.seen part row
    into n = let e = theorem.1 n in is_row area g.seen part row (r.seen_as.is ∙ e) (shows-part r.seen_as p e)
