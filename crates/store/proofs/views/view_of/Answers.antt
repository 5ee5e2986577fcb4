-- `store::views::view_of` meets its contract.
-- Assumes nothing.
use Rattle.store.specs.View.{past}
use Rattle.store.proofs.ViewLaws.{view-standing, view-finished}
use native.Mathlib.Omega.{arith}
use mathlib.Core.Path.{ap}
use Rattle.store.proofs.views.view_of.Goals as goal

pub lock_view-requires : goal.lock_view-requires
lock_view-requires c = omega (arith, c.requires, c.place_of.ensures, ap past c.in-Standing.is)

pub record_view-requires : goal.record_view-requires
record_view-requires c = omega (arith, c.requires, c.place_of.ensures, ap past c.in-Finished.is)

pub returns-in-Standing : goal.returns-in-Standing
returns-in-Standing c = view-standing _ c.args.s c.place_of.ensures _ c.in-Standing.is c.lock_view.ensures

pub returns-in-Finished : goal.returns-in-Finished
returns-in-Finished c = view-finished _ c.args.s c.place_of.ensures _ c.in-Finished.is c.record_view.ensures
