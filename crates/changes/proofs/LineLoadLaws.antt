-- What the functions of `loads` ask and return.
-- Assumes nothing.
use Rattle.std.specs.Prelude.{Some}
use Rattle.lookups.specs.KeyStates.{Locked}
use Prim.Native.Nat.{ℕ, ◌+◌, ◌≤◌}
use native.Mathlib.Omega.{arith}
use mathlib.Core.Path.{◌≡◌, subst}
use Rattle.rules.specs.declared.records.Kind.{Kind}
use Rattle.rules.specs.declared.records.Kind.TheVariants.{Put, Delete, Rollback}
use Rattle.rules.specs.declared.room.Load.{Load}
use Rattle.store.specs.declared.views.LockView.{LockView}
use Rattle.laws.specs.Adds.{minus}
use Rattle.laws.proofs.LoadLaws.{load_fields}
use Rattle.store.specs.Made.{Counted}
use Rattle.changes.specs.Loads.{row_size, lock_size, record_size, FreedAsks, Small}

pub row-most : (kind : Kind) (key row : ℕ) → (row_size kind key row).bytes ≤ key + row
row-most Put key row = omega arith
row-most Delete key row = omega arith
row-most Rollback key row = omega arith

pub freed_asks : {lock : Locked} {i : LockView} (key : ℕ) → FreedAsks lock key → lock ≡ Some i → key + i.len + (key + i.rowlen) ≤ 1000000
freed_asks key a e = subst (λ (l : Locked). FreedAsks l key) e a

-- ---- small ones

no_more : (kind : Kind) (key row : ℕ) → (row_size kind key row).defaults ≤ 1
no_more Put key row = omega arith
no_more Delete key row = omega arith
no_more Rollback key row = omega arith

pub lock-small : {l : Load} (kind : Kind) (key primary row : ℕ) → l ≡ lock_size kind key primary row → key + primary + (key + row) ≤ 1000000 → Small l
lock-small kind key primary row e h =
    let m = row-most kind key row in
    let n = no_more kind key row in
    let q = load_fields e in
    record { lines = omega arith; locks = omega arith; defaults = omega arith; bytes = omega arith }

pub record-small : {l : Load} (kind : Kind) (key row : ℕ) → l ≡ record_size kind key row → key + (key + row) ≤ 1000000 → Small l
record-small kind key row e h =
    let m = row-most kind key row in
    let n = no_more kind key row in
    let q = load_fields e in
    record { lines = omega arith; locks = omega arith; defaults = omega arith; bytes = omega arith }

pub less-small : {a l : Load} (b : Load) → l ≡ minus a b → Small a → Small l
less-small b e h = let q = load_fields e in record { lines = omega (arith, h.lines); locks = omega (arith, h.locks); defaults = omega (arith, h.defaults); bytes = omega (arith, h.bytes) }

pub counted-small : {l : Load} → Counted l → Small l
counted-small c = record { lines = omega (arith, c.lines); locks = omega (arith, c.lines, c.locks); defaults = omega (arith, c.lines, c.defaults); bytes = omega (arith, c.bytes) }
