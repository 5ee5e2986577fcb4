-- `store::intents::put_intent` meets its contract: the lock, with what was cut out of the area for its primary.
-- Assumes nothing.
use mathlib.Core.List.{List}
use Prim.Native.Nat.{ℕ}
use Rattle.rules.specs.Written.{lock_bytes}
use Rattle.store.proofs.StretchLaws.{stretch-laid}
use Rattle.store.proofs.intents.put_intent.Goals as goal

pub returns : goal.returns
returns c = let a = c.args.l in stretch-laid c.args.area.now a.at a.len c.requires.within (λ (p : List ℕ). lock_bytes (record { txn = a.txn; primary = p; start = a.start; ttl = a.ttl; kind = a.kind })) 26 c.put_lock.ensures
