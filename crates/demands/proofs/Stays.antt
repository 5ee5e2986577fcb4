-- A made store stays made, whatever the public call. Assumes nothing.
use Rattle.rules.specs.Call.{Changing, Call}
use Rattle.demands.specs.Calls.{started, seen, pointed, handed, paged, changed, stepped, counted, marked, boned, summed, StaysMade, StartsMade, starting, calling, handing_row, handing_primary}

-- `fresh` and `open`, with an area of 131,072 bytes
pub starts-made : StartsMade
starts-made w (started s) p = p.made

-- every call; one that gives no store back leaves the caller's, by its type
pub stays-made : StaysMade
stays-made w starting (started s) p m = p.made
stays-made w (calling (Call.Read k n)) (seen s part) p m = m
stays-made w (calling (Call.OneIntent k n)) (pointed s part) p m = m
stays-made w (handing_row s) (handed part) p m = m
stays-made w (handing_primary s) (handed part) p m = m
stays-made w (calling (Call.Page a n l)) (paged r out) p m = m
stays-made w (calling (Call.IntentPage a l)) (paged r out) p m = m
stays-made w (calling (Call.ConflictingIntents a n l)) (paged r out) p m = m
stays-made w (calling (Call.Change (Changing.Prewrite h s))) (changed r area) p m = p.made
stays-made w (calling (Call.Change (Changing.Commit h s))) (changed r area) p m = p.made
stays-made w (calling (Call.Change (Changing.Rollback txn start s))) (changed r area) p m = p.made
stays-made w (calling (Call.Change (Changing.OneStep h s))) (stepped r area) p m = p.settled.made
stays-made w (calling (Call.Change (Changing.Collect f))) (changed r area) p m = p.replaced.made
stays-made w (calling (Call.Restore s)) (changed r area) p m = p.made
stays-made w (calling Call.Statistics) (counted s) p m = m
stays-made w (calling Call.Marks) (marked s) p m = m
stays-made w (calling (Call.Capture t)) (paged r out) p m = m
stays-made w (calling (Call.Convert s)) (paged r out) p m = m
stays-made w (calling (Call.Bone r n)) (boned b) p m = m
stays-made w (calling (Call.Bones r)) (summed b) p m = m
