-- A made box has at most one proof that it is made: so a hall can keep it.
-- Assumes nothing.
use Rattle.std.specs.Prelude.{ℕ, List, [], ◌∷◌, ◌≡◌}
use Rattle.std.specs.Coded.{×_prop, Unit-prop}
use Rattle.std.proofs.Props.{props}
use Rattle.seqs.specs.Tables.{All}
use Rattle.rules.specs.declared.records.Kind.{Kind}
use Rattle.rules.specs.declared.records.Kind.TheVariants.{Put, Delete, Rollback}
use Rattle.store.specs.declared.table.Line.{Line}
use Rattle.store.specs.declared.table.Line.TheVariants.{Standing, Finished}
use Rattle.store.specs.Made.{LeanRow, Lean}

pub All-prop : {A : Type 0} {P : A → Type 0} → ((x : A) → IsProp (P x)) → (xs : List A) → IsProp (All P xs)
unfolding All
All-prop h [] = Unit-prop
All-prop h (x ∷ xs) = ×_prop (h x) (All-prop h xs)

pub LeanRow-prop : (k : Kind) (n : ℕ) → IsProp (LeanRow k n)
LeanRow-prop Put n = Unit-prop
LeanRow-prop Delete n = Prim.hlevel props
LeanRow-prop Rollback n = Prim.hlevel props

pub Lean-prop : (l : Line) → IsProp (Lean l)
Lean-prop (Standing l) = LeanRow-prop l.kind l.rowlen
Lean-prop (Finished w) = LeanRow-prop w.kind w.rowlen

pub ruleset once = (props, All-prop, Lean-prop)
