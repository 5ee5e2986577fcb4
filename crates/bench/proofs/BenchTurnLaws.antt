-- The copy of an area below its top is made with the same store.
-- Assumes nothing.
use Rattle.std.proofs.Common.{◌≡◌, List, take, length, sym, ap, ◌∙◌, subst, ap₂}
use Rattle.seqs.proofs.Tables.{shown-same}
use Rattle.forms.specs.Bytes.{Bytes}
use Rattle.forms.specs.Writers.{Laid}
use Rattle.forms.proofs.WriterLaws.{laid-stands}
use Rattle.rules.specs.Box as box
use Rattle.ledger.specs.Tidy.{LocksAbove}
use Rattle.store.specs.declared.table.Store.{Store}
use Rattle.store.specs.View.{line_of, default_in, stored, box_of}
use Rattle.store.specs.Made.{SlotBelow, Tallied, Made}
use Rattle.changes.proofs.StretchLaws.{slot_kept, default-kept}

-- an area with the same bytes below the top is made with the same store
module _ {st : Store} {area copy copy' : Bytes} (m : Made st area) (a : Laid 0 st.top (take st.top area) copy st.top copy') where
  same-below : take st.top copy' ≡ take st.top area
  same-below = laid-stands a

  same-box : box_of st copy' ≡ box_of st area
  same-box =
      ap₂ (λ (x : List box.KeyLine) (y : List box.Default). record { lines = x; defaults = y })
      (shown-same (line_of copy') (line_of area) (SlotBelow st.top) (slot_kept area copy' st.top same-below) st.load.lines st.lines m.built.lines.holds)
      (ap stored (shown-same (default_in copy') (default_in area) (SlotBelow st.top) (default-kept area copy' st.top same-below) st.load.lines st.lines m.built.lines.holds))

  pub made-copy : length copy ≡ 131072 → Made st copy'
  made-copy h =
      record {
        built = record { area_long = a.length_is ∙ h; top_in = m.built.top_in; lines = m.built.lines; kept = subst (λ (x : box.Box). Tallied x st.load) (sym same-box) m.built.kept };
        fit = m.fit;
        above = subst (λ (x : box.Box). LocksAbove st.floor x) (sym same-box) m.above;
      }
