-- `store::views::slot_order` meets its contract.
-- Assumes nothing.
use native.Mathlib.Nat.{add-sub_cancel_left}
use Rattle.forms.specs.Bytes.{bytes_at, cmp}
use Prim.Native.Nat.{ℕ}
use mathlib.Core.Path.{ap, ◌∙◌}
use Rattle.store.proofs.views.slot_order.Goals as goal

pub returns : goal.returns
returns c = c.compare.ensures ∙ simp add-sub_cancel_left (ap (λ (p : ℕ). cmp (bytes_at c.args.area.now p c.args.s.len) c.args.key.now) c.place_of-at.ensures)
