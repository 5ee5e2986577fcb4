-- A fresh store is made, with every area of the right length, and shows the fresh state.
-- Assumes nothing.
use native.Mathlib.Omega.{arith}
use mathlib.Core.Path.{◌≡◌, refl, sym, subst}
use lib.ListN.{length, replicate}
use Rattle.seqs.specs.Tables.{Table, shown}
use Rattle.seqs.proofs.Tables.{table_empty}
use Rattle.forms.specs.Bytes.{Bytes}
use Rattle.rules.specs.Box as box
use Rattle.rules.specs.Restore.{all_good, no_second}
use Rattle.rules.specs.Room.{load_of, sum_of}
use Rattle.rules.specs.Calls.{fresh_state}
use Rattle.store.specs.declared.table.Slot.{Slot}
use Rattle.store.specs.View.{no_slot, stored}
use Rattle.store.specs.Made.{FreshStore, SlotBelow}

pub fresh-store : (s : Slot) → s ≡ no_slot → (area : Bytes) → length area ≡ 131072
    → FreshStore (record { lines = replicate 1024 s; load = record { lines = 0; locks = 0; defaults = 0; bytes = 0 }; top = 0; floor = 0 }) area
unfolding shown stored load_of sum_of all_good no_second box.in_order box.ordered box.fresh fresh_state
fresh-store s e area l = record {
  made = record {
    built = record {
      area_long = l;
      top_in = omega arith;
      lines = subst (λ (x : Slot). Table (SlotBelow 0) no_slot 1024 0 (replicate 1024 x)) (sym e) (table_empty (SlotBelow 0) no_slot 1024);
      kept = record { load_is = refl; sorted = refl; good = refl; rows = refl; once = refl };
    };
    fit = record { lines = omega arith; locks = omega arith; defaults = omega arith; bytes = omega arith };
    above = refl;
  };
  shown = refl;
  top_is = refl;
}
